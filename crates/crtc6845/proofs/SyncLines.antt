-- The lines of vertical sync that are left, from clock to clock of a frame.
use Rattle.std.proofs.Common.{◌≡◌, refl, ℕ, ◌+◌, ◌-◌, ◌*◌, ◌/◌, ◌<◌, ◌≤◌, ◌==◌, ◌&&◌, Bool, false, Option, Some, None, arith, inl, inr}
use Rattle.std.specs.Prelude.{if◌then◌else◌, is_none}
use Rattle.std.proofs.lemmas.Bool.{cases_lt}
use Rattle.std.proofs.lemmas.Bool.Decides.{nat_tests}
use Rattle.std.proofs.lemmas.Nat.{same_from_place}
use Rattle.std.proofs.Math.Nat.{mul-le-mul_right}
use Rattle.crtc6845.specs.State.{Registers, State}
use Rattle.crtc6845.specs.Clock.{begins_sync, sync_counted, sync_height, start_leaves, count_leaves, raster_step}
use Rattle.crtc6845.specs.Laws.{row_lines, frame_lines}
use Rattle.crtc6845.specs.Pictures.{sync_line}
use Rattle.crtc6845.proofs.Frames.{IsLine, IsClock, line_in_row, lines_below, mul_more}
use Rattle.crtc6845.proofs.Places.{IsKeptOn}

-- the end of a character clock does not change the lines of sync
pub count_leaves-sync : (c : State) → (count_leaves c).sync_lines ≡ c.sync_lines
count_leaves-sync c = grind arith

pub sync_inside : (c : State) → 0 < c.character → (start_leaves c).sync_lines ≡ c.sync_lines
sync_inside c h = grind (arith, nat_tests)

pub sync_starts : (c : State) → c.character ≡ 0 → (start_leaves c).sync_lines ≡ (if begins_sync (sync_counted c) then sync_height c.registers else c.sync_lines - 1)
sync_starts c h = grind (arith, nat_tests)

-- the line that is the first of row R7
pub sync_row : (r : Registers) → r.vertical_sync_position ≤ r.vertical_total → sync_line r < (r.vertical_total + 1) * row_lines r
sync_row r has =
    let up = mul_more r.vertical_total (row_lines r) in
    let all : r.vertical_sync_position * row_lines r ≤ r.vertical_total * row_lines r = mul-le-mul_right (row_lines r) has in
    omega arith

first_tells : (l first row v raster : ℕ) (d : Bool) → (l ≡ first → (row ≡ v) × (raster ≡ 0)) → (row ≡ v → raster ≡ 0 → l ≡ first) →
    (row == v && raster == 0 && d) ≡ (l == first && d)
first_tells l first row v raster d to from = grind (arith, nat_tests)

other_line : (l first : ℕ) (d : Bool) → first < l → false ≡ (l == first && d)
other_line l first d h = grind (arith, nat_tests)

line_tells : (r : Registers) (l : ℕ) (adjust : Option ℕ) (row raster : ℕ) (d : Bool) → r.vertical_sync_position ≤ r.vertical_total → IsLine r l adjust row raster →
    (is_none adjust && row == r.vertical_sync_position && raster == 0 && d) ≡ (l == sync_line r && d)
line_tells r l None row raster d has at =
    let v = r.vertical_sync_position in
    let k = raster / raster_step r in
    let line = at.line in
    let even = at.even in
    first_tells l (sync_line r) row v raster d
    (λ e. let same = same_from_place row k v 0 (row_lines r) (line_in_row r l row raster at) (omega arith) (grind arith) in (same.0, grind (arith, nat_tests)))
    (λ e z. rw (line, e, z) (grind (arith, nat_tests)))
line_tells r l (Some a) row raster d has at =
    let line = at.line in
    let most = sync_row r has in
    other_line l (sync_line r) d (omega arith)

pub begins_tells : (r : Registers) (l h : ℕ) (c : State) → r.vertical_sync_position ≤ r.vertical_total → IsClock r l h c →
    begins_sync (sync_counted c) ≡ (l == sync_line r && c.sync_lines - 1 == 0)
begins_tells r l h c has at = rw at.regs (line_tells r l c.adjust c.row c.raster (c.sync_lines - 1 == 0) has at.line)

-- a frame without row R7 has no such line
row_beyond : (r : Registers) (l : ℕ) (adjust : Option ℕ) (row raster : ℕ) (d : Bool) → r.vertical_total < r.vertical_sync_position → IsLine r l adjust row raster →
    (is_none adjust && row == r.vertical_sync_position && raster == 0 && d) ≡ false
row_beyond r l None row raster d beyond at = grind (arith, nat_tests)
row_beyond r l (Some a) row raster d beyond at = refl

pub never_begins : (r : Registers) (l h : ℕ) (c : State) → r.vertical_total < r.vertical_sync_position → IsClock r l h c → begins_sync (sync_counted c) ≡ false
never_begins r l h c beyond at = rw at.regs (row_beyond r l c.adjust c.row c.raster (c.sync_lines - 1 == 0) beyond at.line)

-- predicates of the lines of sync that are left before line l starts, and after it has started
module _ (r : Registers) (Before After : ℕ → ℕ → Type 0) where
  pub record Rules : Type 0 where
    pub row : r.vertical_sync_position ≤ r.vertical_total
    pub start : (l s : ℕ) → l < frame_lines r → Before l s → After l (if l == sync_line r && s - 1 == 0 then sync_height r else s - 1)
    pub line : (l s : ℕ) → After l s → l + 1 < frame_lines r → Before (l + 1) s
    pub frame : (l s : ℕ) → After l s → l + 1 ≡ frame_lines r → Before 0 s

  pub record Count (l h : ℕ) (c : State) : Type 0 where
    pub first : h ≡ 0 → Before l c.sync_lines
    pub other : 0 < h → After l c.sync_lines

  pub started : Rules → (l h : ℕ) (c : State) → IsClock r l h c → Count l h c → After l (start_leaves c).sync_lines
  started rules l h c at count =
      let is = at.character in
      elim (cases_lt 0 h) [
        | inl inside ↦ rw (sync_inside c (omega arith)) (count.other inside)
        | inr start ↦ rw (sync_starts c (omega arith), begins_tells r l h c rules.row at, at.regs) (rules.start l c.sync_lines (lines_below r l h c at) (count.first (omega arith)))
      ]

  pub first_count : (c : State) → Before 0 c.sync_lines → Count 0 0 c
  first_count c before = record { first = λ e. before; other = λ p. absurd (omega (arith, p)) }

  pub count_kept : Rules → IsKeptOn r Count
  count_kept rules = record {
    inner = λ l h c at count more. record { first = λ e. absurd (omega (arith, e)); other = λ _. rw (count_leaves-sync (start_leaves c)) (started rules l h c at count) };
    line = λ l h c at count end more.
        record { first = λ _. rules.line l _ (rw (count_leaves-sync (start_leaves c)) (started rules l h c at count)) more; other = λ p. absurd (omega (arith, p)) };
    frame = λ l h c at count end last.
        record { first = λ _. rules.frame l _ (rw (count_leaves-sync (start_leaves c)) (started rules l h c at count)) last; other = λ p. absurd (omega (arith, p)) };
  }
