-- A frame, line by line and clock by clock.
use Rattle.std.proofs.Common.{◌≡◌, ◌∙◌, sym, ap, subst, refl, ℕ, ◌+◌, ◌*◌, ◌/◌, ◌%◌, ◌<◌, ◌≤◌, ◌≢◌, ◌==◌, ◌⊎◌, ◌&&◌, Bool, true, false, Option, Some, None, arith, inl, inr}
use Rattle.std.specs.Prelude.{if◌then◌else◌}
use Rattle.std.proofs.lemmas.Bool.Decides.{nat_tests}
use Rattle.std.proofs.Math.Nat.{mod-eq_of_lt, mul-le-mul_right}
use Rattle.crtc6845.specs.State.{Registers, State}
use Rattle.crtc6845.specs.Clock.{start_leaves, is_row_done, is_last_line, is_last_line_in, ends_frame, frame_begun, adjust_begun, row_begun, raster_begun}
use Rattle.crtc6845.specs.Clock.{line_ended_in, line_ended, clock_leaves, raster_step, last_raster}
use Rattle.crtc6845.specs.Laws.{row_lines, frame_lines, HaveTheirBits, BeginsFrame}
use Rattle.crtc6845.proofs.Lines.{start_leaves-kept, start_leaves-registers, clock_leaves-registers, clock_leaves-inner, clock_leaves-last, clock_leaves-ended}

pub mul_more : (a b : ℕ) → (a + 1) * b ≡ a * b + b
mul_more a b = grind arith

-- line l is of a row, or an adjust line
pub record InRow (r : Registers) (l row raster : ℕ) : Type 0 where
  pub even : raster % raster_step r ≡ 0
  pub within : raster ≤ last_raster r
  pub rows : row ≤ r.vertical_total
  pub line : l ≡ row * row_lines r + raster / raster_step r

pub record InAdjust (r : Registers) (l a : ℕ) : Type 0 where
  pub within : a < r.vertical_adjust
  pub line : l ≡ (r.vertical_total + 1) * row_lines r + a

-- line l of a frame
abbrev pub IsLine : Registers → ℕ → Option ℕ → ℕ → ℕ → Type 0
IsLine r l None row raster = InRow r l row raster
IsLine r l (Some a) row raster = InAdjust r l a

abbrev pub IsAt : Registers → ℕ → State → Type 0
IsAt r l c = IsLine r l c.adjust c.row c.raster

first_line : (r : Registers) → InRow r 0 0 0
first_line r = record { even = grind (arith, nat_tests); within = omega arith; rows = omega arith; line = grind (arith, nat_tests) }

pub line_in_row : (r : Registers) (l row raster : ℕ) → InRow r l row raster → raster / raster_step r < row_lines r
line_in_row r l row raster at = grind (arith, nat_tests)

line_below : (r : Registers) (l : ℕ) (adjust : Option ℕ) (row raster : ℕ) → IsLine r l adjust row raster → l < frame_lines r
line_below r l None row raster at =
    let few = line_in_row r l row raster at in
    let line = at.line in
    let all : row * row_lines r ≤ r.vertical_total * row_lines r = mul-le-mul_right (row_lines r) at.rows in
    let more = mul_more r.vertical_total (row_lines r) in
    omega arith
line_below r l (Some a) row raster at =
    let line = at.line in
    let few = at.within in
    omega arith

next_raster : (r : Registers) (l row raster : ℕ) → r.maximum_raster < 32 → InRow r l row raster → raster ≢ last_raster r →
    InRow r (l + 1) row ((raster + raster_step r) % 32)
next_raster r l row raster h at other = grind (arith, nat_tests)

row_ends : (r : Registers) (l row raster : ℕ) → InRow r l row raster → raster ≡ last_raster r → l + 1 ≡ (row + 1) * row_lines r
row_ends r l row raster at last = grind (arith, nat_tests)

next_row : (r : Registers) (l row : ℕ) → row < r.vertical_total → r.vertical_total < 128 → l + 1 ≡ (row + 1) * row_lines r → InRow r (l + 1) ((row + 1) % 128) 0
next_row r l row more few line =
    let e : (row + 1) % 128 ≡ row + 1 = mod-eq_of_lt (omega arith) in
    let first = first_line r in
    rw e (record { even = first.even; within = first.within; rows = omega arith; line = line ∙ grind (arith, nat_tests) })

-- A line ends: the next one begins, or a frame does.
abbrev Outcome : Registers → ℕ → Bool → State → Type 0
Outcome r l last d = ((last ≡ false) × IsAt r (l + 1) d) ⊎ ((l + 1 ≡ frame_lines r) × (last ≡ true) × IsAt r 0 d)

row_by : (d : State) (l : ℕ) (p q z : Bool) → is_row_done d ≡ p → (d.row == d.registers.vertical_total) ≡ q → (d.registers.vertical_adjust == 0) ≡ z →
    d.adjust ≡ None → HaveTheirBits d.registers → InRow d.registers l d.row d.raster →
    Outcome d.registers l (p && q && z) (if p && q then (if z then frame_begun d else adjust_begun d) else if p then row_begun d else raster_begun d)
row_by d l false q z e f g none bits at = inl (refl, rw none (next_raster d.registers l d.row d.raster bits.maximum_raster at (grind (arith, nat_tests))))
row_by d l true false z e f g none bits at =
    let rows = at.rows in
    let up = row_ends d.registers l d.row d.raster at (grind (arith, nat_tests)) in
    inl (refl, rw none (next_row d.registers l d.row (grind (arith, nat_tests)) bits.vertical_total up))
row_by d l true true z e f g none bits at =
    let last : d.row ≡ d.registers.vertical_total = grind (arith, nat_tests) in
    let up = rw last at (row_ends d.registers l d.row d.raster at (grind (arith, nat_tests))) in
    rows_by z g up
  where
    rows_by : (z : Bool) → (d.registers.vertical_adjust == 0) ≡ z → l + 1 ≡ (d.registers.vertical_total + 1) * row_lines d.registers →
        Outcome d.registers l z (if z then frame_begun d else adjust_begun d)
    rows_by true g up = inr (grind (arith, nat_tests), refl, first_line d.registers)
    rows_by false g up = inl (refl, record { within = grind (arith, nat_tests); line = omega arith })

adjust_by : (d : State) (l a : ℕ) (p : Bool) → ((a + 1) % 32 == d.registers.vertical_adjust) ≡ p → d.registers.vertical_adjust < 32 → InAdjust d.registers l a →
    Outcome d.registers l p (if p then frame_begun d else record d { adjust = Some ((a + 1) % 32) })
adjust_by d l a true e bits at = inr (grind (arith, nat_tests), refl, first_line d.registers)
adjust_by d l a false e bits at = inl (refl, record { within = grind (arith, nat_tests); line = grind (arith, nat_tests) })

line_ends : (adjust : Option ℕ) (d : State) (l : ℕ) → d.adjust ≡ adjust → HaveTheirBits d.registers → IsLine d.registers l adjust d.row d.raster →
    Outcome d.registers l (is_last_line_in adjust d) (line_ended_in adjust (record d { character = 0 }))
line_ends None d l none bits at = row_by (record d { character = 0 }) l _ _ _ refl refl refl none bits at
line_ends (Some a) d l some bits at = adjust_by (record d { character = 0 }) l a _ refl bits.vertical_adjust at

-- character h of line l of a frame
pub record IsClock (r : Registers) (l h : ℕ) (c : State) : Type 0 where
  pub regs : c.registers ≡ r
  pub character : c.character ≡ h
  pub within : h ≤ r.horizontal_total
  pub line : IsAt r l c

pub lines_below : (r : Registers) (l h : ℕ) (c : State) → IsClock r l h c → l < frame_lines r
lines_below r l h c at = line_below r l c.adjust c.row c.raster at.line

pub first_clock : (c : State) → BeginsFrame c → IsClock c.registers 0 0 c
first_clock c b = record { regs = refl; character = b.character; within = omega arith; line = rw (b.adjust, b.row, b.raster) (first_line c.registers) }

-- a clock leads to the next character, to the next line or to the next frame
pub inner_clock : (r : Registers) (l h : ℕ) (c : State) → HaveTheirBits r → IsClock r l h c → h < r.horizontal_total →
    (ends_frame (start_leaves c) ≡ false) × IsClock r l (h + 1) (clock_leaves c)
inner_clock r l h c bits at inner =
    let kept = start_leaves-kept c in
    let next = clock_leaves-inner c (rw (at.regs, at.character) inner) (rw at.regs bits.horizontal_total) ∙ ap (λ (d : State). record d { character = c.character + 1 }) kept in
    (grind (arith, nat_tests), rw next (record { regs = at.regs; character = ap (λ k. k + 1) at.character; within = omega arith; line = at.line }))

pub last_clock : (r : Registers) (l h : ℕ) (c : State) → HaveTheirBits r → IsClock r l h c → h ≡ r.horizontal_total →
    ((ends_frame (start_leaves c) ≡ false) × IsClock r (l + 1) 0 (clock_leaves c))
    ⊎ ((ends_frame (start_leaves c) ≡ true) × (l + 1 ≡ frame_lines r) × IsClock r 0 0 (clock_leaves c))
last_clock r l h c bits at end =
    let d = start_leaves c in
    let kept = start_leaves-kept c in
    let same : d.registers ≡ r = start_leaves-registers c ∙ at.regs in
    let here : IsAt r l d = rw kept at.line in
    let last : c.character ≡ c.registers.horizontal_total = rw (at.regs, at.character) end in
    let ended = clock_leaves-ended c last in
    let outcome : Outcome r l (is_last_line d) (line_ended d) =
    subst (λ (q : Registers). Outcome q l (is_last_line d) (line_ended d)) same
    (line_ends d.adjust d l refl (rw same bits) (subst (λ (q : Registers). IsAt q l d) (sym same) here)) in
    elim outcome [
      | inl o ↦ inl (ended.1 ∙ o.0, start_of (l + 1) o.1)
      | inr o ↦ inr (ended.1 ∙ o.1, o.0, start_of 0 o.2)
    ]
  where
    start_of : (m : ℕ) → IsAt r m (line_ended (start_leaves c)) → IsClock r m 0 (clock_leaves c)
    start_of m there =
        let last : c.character ≡ c.registers.horizontal_total = rw (at.regs, at.character) end in
        record {
          regs = clock_leaves-registers c ∙ at.regs;
          character = clock_leaves-last c last;
          within = omega arith;
          line = subst (λ (s : State). IsAt r m s) (sym (clock_leaves-ended c last).0) there;
        }
