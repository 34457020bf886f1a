-- The addresses that are shown.
use Rattle.std.proofs.Common.{◌≡◌, ◌∙◌, sym, ap, subst, refl, ℕ, zero, suc, ◌+◌, ◌-◌, ◌*◌, ◌/◌, ◌%◌, ◌<◌, ◌≤◌, ◌≢◌, ◌==◌, ◌&&◌, ◌⊎◌, Bool, true, false, Option, Some, None, arith, inl, inr}
use Rattle.std.specs.Prelude.{if◌then◌else◌, nat_lt, min}
use Rattle.std.proofs.lemmas.Bool.Decides.{nat_tests}
use Rattle.std.proofs.lemmas.Nat.{div-mul-add}
use Rattle.std.proofs.Math.Nat.{mod-eq_of_lt, mod-add-mod, mod-mod, mul-le-mul_right}
use Rattle.crtc6845.specs.State.{Registers, State}
use Rattle.crtc6845.specs.Registers.{start_address}
use Rattle.crtc6845.specs.Clock.{start_leaves, is_shown, address, ends_line, frame_begun, adjust_begun, row_begun, raster_begun, line_ended_in, line_ended, clock_leaves}
use Rattle.crtc6845.specs.Laws.{clocks, tells, row_lines, HaveTheirBits, BeginsFrame}
use Rattle.crtc6845.specs.Pictures.{row_at, column_at}
use Rattle.crtc6845.specs.Windows.{IsInWindow, ShowsWindows, shown_count, now_count, now_count_in}
use Rattle.crtc6845.proofs.Lines.{start_leaves-kept, clocks-registers, clock_leaves-registers}
use Rattle.crtc6845.proofs.Frames.{IsLine, line_in_row, mul_more}
use Rattle.crtc6845.proofs.Places.{Anything, place_after, place_is}

-- a row's base is that of row `first`, plus the characters of the rows between
pub record Runs (from first : ℕ) (r : Registers) (row base : ℕ) : Type 0 where
  pub low : first ≤ row
  pub rows : row ≤ r.vertical_total
  pub at : base % 16384 ≡ (from + (row - first) * r.horizontal_displayed) % 16384

-- the frame is the current one, or a later one
abbrev pub KeptAt : ℕ → ℕ → Registers → Option ℕ → ℕ → ℕ → Type 0
KeptAt from first r adjust row base = adjust ≡ None → Runs from first r row base ⊎ Runs (start_address r) 0 r row base

abbrev pub Kept : ℕ → ℕ → State → Type 0
Kept from first c = KeptAt from first c.registers c.adjust c.row c.base

first_runs : (from row : ℕ) (r : Registers) → row ≤ r.vertical_total → Runs from row r row from
first_runs from row r rows =
    let z : from ≡ from + (row - row) * r.horizontal_displayed = grind arith in
    record { low = omega arith; rows = rows; at = ap (λ n. n % 16384) z }

frame_kept : (from first : ℕ) (c : State) → Kept from first (frame_begun c)
frame_kept from first c none = inr (first_runs _ 0 c.registers (omega arith))

row_runs : (from first : ℕ) (r : Registers) (row base : ℕ) → r.vertical_total < 128 → row ≢ r.vertical_total → Runs from first r row base →
    Runs from first r ((row + 1) % 128) ((base + r.horizontal_displayed) % 16384)
row_runs from first r row base bits other runs =
    let r1 = r.horizontal_displayed in
    let rows = runs.rows in
    let low = runs.low in
    let stays : (row + 1) % 128 ≡ row + 1 = mod-eq_of_lt (omega (arith, other)) in
    let one : row + 1 - first ≡ row - first + 1 = omega arith in
    let next : from + (row - first) * r1 + r1 ≡ from + (row - first + 1) * r1 = grind arith in
    rw stays (record {
      low = omega arith;
      rows = omega (arith, other);
      at = rw one (mod-mod (base + r1) 16384 ∙ sym (mod-add-mod base 16384 r1) ∙ ap (λ n. (n + r1) % 16384) runs.at ∙ mod-add-mod (from + (row - first) * r1) 16384 r1
          ∙ ap (λ n. n % 16384) next);
    })

-- a line ends
row_kept : (from first : ℕ) (c : State) (p q z : Bool) → (c.row == c.registers.vertical_total) ≡ q → c.registers.vertical_total < 128 → Kept from first c →
    Kept from first (if p && q then (if z then frame_begun c else adjust_begun c) else if p then row_begun c else raster_begun c)
row_kept from first c false q z e bits kept = kept
row_kept from first c true false z e bits kept = λ none.
    let other : c.row ≢ c.registers.vertical_total = grind (arith, nat_tests) in
    elim (kept none) [
      | inl p ↦ inl (row_runs from first c.registers c.row c.base bits other p)
      | inr p ↦ inr (row_runs (start_address c.registers) 0 c.registers c.row c.base bits other p)
    ]
row_kept from first c true true true e bits kept = frame_kept from first c
row_kept from first c true true false e bits kept = λ none. cc

adjust_kept : (from first a : ℕ) (c : State) (p : Bool) → Kept from first (if p then frame_begun c else record c { adjust = Some a })
adjust_kept from first a c true = frame_kept from first c
adjust_kept from first a c false = λ none. cc

line_kept : (from first : ℕ) (adjust : Option ℕ) (c : State) → c.registers.vertical_total < 128 → Kept from first c → Kept from first (line_ended_in adjust c)
line_kept from first None c bits kept = row_kept from first c _ _ _ refl bits kept
line_kept from first (Some a) c bits kept = adjust_kept from first _ c _

counted_by : (from first : ℕ) (c : State) (p : Bool) → c.registers.vertical_total < 128 → Kept from first c →
    Kept from first (if p then line_ended c else record c { character = (c.character + 1) % 256 })
counted_by from first c true bits kept = line_kept from first c.adjust (record c { character = 0 }) bits kept
counted_by from first c false bits kept = kept

started_kept : (from first : ℕ) (c : State) → Kept from first c → Kept from first (start_leaves c)
started_kept from first c kept = subst (λ (s : State). Kept from first s) (sym (start_leaves-kept c)) kept

clocks_kept : (from first n : ℕ) (c : State) → c.registers.vertical_total < 128 → Kept from first c → Kept from first (clocks n c)
clocks_kept from first zero c bits kept = kept
clocks_kept from first (suc n) c bits kept =
    let same = start_leaves-kept c in
    let few : (start_leaves c).registers.vertical_total < 128 = rw same bits in
    clocks_kept from first n (clock_leaves c) (rw (clock_leaves-registers c) bits)
    (counted_by from first (start_leaves c) (ends_line (start_leaves c)) few (started_kept from first c kept))

pub record Shown (e : State) : Type 0 where
  pub column : e.character < e.registers.horizontal_displayed
  pub row : e.row < e.registers.vertical_displayed
  pub adjust : e.adjust ≡ None

shown_is : (e : State) → is_shown e ≡ true → Shown e
shown_is e h = grind (arith, nat_tests)

-- the address of a shown character, by its row and its column
address_is : (from first : ℕ) (r : Registers) (e : State) → Runs from first r e.row e.base →
    address e ≡ (from + (e.row - first) * r.horizontal_displayed + e.character) % 16384
address_is from first r e runs =
    sym (mod-add-mod e.base 16384 e.character) ∙ ap (λ n. (n + e.character) % 16384) runs.at
    ∙ mod-add-mod (from + (e.row - first) * r.horizontal_displayed) 16384 e.character

in_window : (from first : ℕ) (e : State) → Runs from first e.registers e.row e.base → Shown e → IsInWindow from (shown_count e.registers first) (address e)
in_window from first e runs shown =
    let r1 = e.registers.horizontal_displayed in
    let low = runs.low in
    let rows = runs.rows in
    let few = min e.registers.vertical_displayed (e.registers.vertical_total + 1) in
    let up = mul_more (e.row - first) r1 in
    let all : (e.row - first + 1) * r1 ≤ (few - first) * r1 = mul-le-mul_right r1 (omega arith) in
    let add : from + (e.row - first) * r1 + e.character ≡ from + ((e.row - first) * r1 + e.character) = omega arith in
    ((e.row - first) * r1 + e.character, (omega arith, address_is from first e.registers e runs ∙ ap (λ n. n % 16384) add))

any_window : (base ma : ℕ) → base < 16384 → ma < 16384 → IsInWindow base 16384 ma
any_window base ma p q = ((ma + 16384 - base) % 16384, (omega arith, omega arith))

-- a beam's address is in one of the two windows
told_in : (from first n : ℕ) (c : State) → c.registers.vertical_total < 128 → Kept from first c → (tells n c).shown ≡ true →
    IsInWindow from (shown_count c.registers first) (tells n c).ma ⊎ IsInWindow (start_address c.registers) (shown_count c.registers 0) (tells n c).ma
told_in from first n c bits kept shown =
    let d = clocks n c in
    let e = start_leaves d in
    let s = shown_is e shown in
    let same : e.registers ≡ c.registers = ap (λ (s : State). s.registers) (start_leaves-kept d) ∙ clocks-registers n c in
    elim (started_kept from first d (clocks_kept from first n c bits kept) s.adjust) [
      | inl p ↦ inl (subst (λ (q : Registers). IsInWindow from (shown_count q first) (address e)) same (in_window from first e p s))
      | inr p ↦ inr (subst (λ (q : Registers). IsInWindow (start_address q) (shown_count q 0) (address e)) same (in_window (start_address e.registers) 0 e p s))
    ]

rows_by : (c : State) (p : Bool) → nat_lt c.registers.vertical_total c.row ≡ p → c.base < 16384 → c.registers.vertical_total < 128 →
    ShowsWindows c.base (if p then 16384 else shown_count c.registers c.row) (start_address c.registers) (shown_count c.registers 0) c
rows_by c true e low bits n shown = inl (any_window c.base (tells n c).ma low (omega arith))
rows_by c false e low bits n shown =
    let rows : c.row ≤ c.registers.vertical_total = grind (arith, nat_tests) in
    told_in c.base c.row n c bits (λ none. inl (first_runs c.base c.row c.registers rows)) shown

shows_in : (adjust : Option ℕ) (c : State) → c.adjust ≡ adjust → c.base < 16384 → c.registers.vertical_total < 128 →
    ShowsWindows c.base (now_count_in adjust c) (start_address c.registers) (shown_count c.registers 0) c
shows_in None c none low bits n shown = rows_by c (nat_lt c.registers.vertical_total c.row) refl low bits n shown
shows_in (Some a) c some low bits n shown = elim (told_in (start_address c.registers) 0 n c bits (λ none. cc) shown) [ inl p ↦ inr p | inr p ↦ inr p ]

pub shows_windows : (c : State) → c.base < 16384 → c.registers.vertical_total < 128 →
    ShowsWindows c.base (now_count c) (start_address c.registers) (shown_count c.registers 0) c
shows_windows c low bits = shows_in c.adjust c refl low bits

-- from a frame on that begins at the start address
row_is : (r : Registers) (l row raster : ℕ) → IsLine r l None row raster → l / row_lines r ≡ row
row_is r l row raster at = ap (λ n. n / row_lines r) at.line ∙ div-mul-add row (row_lines r) _ (line_in_row r l row raster at)

pub addresses_count : (c : State) (n : ℕ) → HaveTheirBits c.registers → BeginsFrame c → c.base ≡ start_address c.registers → (tells n c).shown ≡ true →
    (tells n c).ma ≡ (start_address c.registers + row_at c.registers n * c.registers.horizontal_displayed + column_at c.registers n) % 16384
addresses_count c n bits begins base shown =
    let r = c.registers in
    let r1 = r.horizontal_displayed in
    let d = clocks n c in
    let e = start_leaves d in
    let p = place_after c n bits begins in
    let kept = start_leaves-kept d in
    let same : e.registers ≡ r = ap (λ (s : State). s.registers) kept ∙ clocks-registers n c in
    let none : d.adjust ≡ None = sym (ap (λ (s : State). s.adjust) kept) ∙ (shown_is e shown).adjust in
    let first : Kept (start_address r) 0 c = λ none. inl (rw (base, begins.row) (first_runs _ 0 r (omega arith))) in
    let has : Runs (start_address r) 0 r d.row d.base = elim (clocks_kept (start_address r) 0 n c bits.vertical_total first none) [
      | inl q ↦ rw (clocks-registers n c) at q
      | inr q ↦ rw (clocks-registers n c) at q
    ] in
    let row : row_at r n ≡ d.row =
    ap (λ k. k / row_lines r) (place_is r Anything n d p).0 ∙ row_is r p.l d.row d.raster (subst (λ (a : Option ℕ). IsLine r p.l a d.row d.raster) none p.at.line) in
    let column : column_at r n ≡ d.character = (place_is r Anything n d p).1 ∙ sym p.at.character in
    let same_row : d.row - 0 ≡ row_at r n = omega (arith, row) in
    ap (λ (s : State). address s) kept ∙ address_is (start_address r) 0 r d has ∙ ap (λ k. (start_address r + k * r1 + d.character) % 16384) same_row
    ∙ ap (λ k. (start_address r + row_at r n * r1 + k) % 16384) (sym column)
