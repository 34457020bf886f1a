-- Vertical sync comes again in each frame, and has its lines.
use Rattle.std.proofs.Common.{◌≡◌, ◌∙◌, sym, ap, ℕ, ◌+◌, ◌-◌, ◌*◌, ◌%◌, ◌<◌, ◌≤◌, ◌==◌, ◌&&◌, Bool, false, arith}
use Rattle.std.specs.Prelude.{nat_lt, nat_le}
use Rattle.std.proofs.lemmas.Bool.Decides.{nat_tests}
use Rattle.crtc6845.specs.State.{Registers, State}
use Rattle.crtc6845.specs.Clock.{starts_line, sync_height, start_leaves, finishes_frame, clock_leaves, is_in_sync}
use Rattle.crtc6845.specs.Laws.{clocks, line_characters, frame_lines, frame_clocks, HaveTheirBits, BeginsFrame}
use Rattle.crtc6845.specs.Pictures.{line_at, sync_line, HasItsSync, HoldsItsSync}
use Rattle.crtc6845.proofs.Places.{walk_frames, place_after, place_is, same_place}
use Rattle.crtc6845.proofs.SyncLines.{count_leaves-sync, sync_row, begins_tells, never_begins, Rules, Count, started, first_count, count_kept}

-- a bound on the lines of sync that are left before line l starts, and after that: none is left
-- when row R7 comes
pub record Waits (r : Registers) (l s : ℕ) : Type 0 where
  pub before : l ≤ sync_line r → s + l ≤ sync_line r + 1
  pub past : sync_line r < l → s + l ≤ frame_lines r + sync_line r + 1

pub record Leaves (r : Registers) (l s : ℕ) : Type 0 where
  pub before : l < sync_line r → s + l ≤ sync_line r
  pub past : sync_line r ≤ l → s + l ≤ frame_lines r + sync_line r

waits : (r : Registers) → HasItsSync r → Rules r (Waits r) (Leaves r)
waits r has =
    let row = sync_row r has.row in
    record {
      row = has.row;
      start = λ l s in_frame w. grind (arith, nat_tests);
      line = λ l s w more. grind arith;
      frame = λ l s w last. grind arith;
    }

-- at the first character of row R7, sync is over
finishes : (l h first s k at : ℕ) → (k ≡ at → (l ≡ first) × (h ≡ 0)) → (l ≡ first → h ≡ 0 → k ≡ at) → (l ≡ first → h ≡ 0 → s ≤ 1) →
    (h == 0 && (l == first && s - 1 == 0)) ≡ (k == at)
finishes l h first s k at to from over = grind (arith, nat_tests)

pub comes_in_each_frame : (c : State) (n : ℕ) → HaveTheirBits c.registers → HasItsSync c.registers → BeginsFrame c → c.sync_lines ≤ sync_line c.registers + 1 →
    finishes_frame (clocks n c) ≡ (n % frame_clocks c.registers == sync_line c.registers * line_characters c.registers)
comes_in_each_frame c n bits has begins few =
    let r = c.registers in
    let d = clocks n c in
    let rules = waits r has in
    let first : Waits r 0 c.sync_lines = record { before = λ p. omega arith; past = λ p. absurd (omega (arith, p)) } in
    let kept = count_kept r (Waits r) (Leaves r) rules in
    let p = walk_frames c (Count r (Waits r) (Leaves r)) bits begins kept n (first_count r (Waits r) (Leaves r) c first) in
    let within = p.at.within in
    let place = p.place in
    let turn : line_characters r * sync_line r ≡ sync_line r * line_characters r = grind arith in
    ap (λ b. starts_line d && b) (begins_tells r p.l p.h d has.row p.at) ∙ ap (λ k. k == 0 && (p.l == sync_line r && d.sync_lines - 1 == 0)) p.at.character
    ∙ finishes p.l p.h (sync_line r) d.sync_lines (n % frame_clocks r) (sync_line r * line_characters r)
    (λ e. same_place r p.l p.h (sync_line r) 0 within (omega arith) (omega (arith, e)))
    (λ e z. let up : line_characters r * p.l ≡ line_characters r * sync_line r = ap (λ l. line_characters r * l) e in omega arith)
    (λ e z. let w = (p.holds.first z).before (omega (arith, e)) in omega (arith, e))

and_off : (p q : Bool) → q ≡ false → (p && q) ≡ false
and_off p q h = grind arith

pub never_comes : (c : State) (n : ℕ) → HaveTheirBits c.registers → c.registers.vertical_total < c.registers.vertical_sync_position → BeginsFrame c →
    finishes_frame (clocks n c) ≡ false
never_comes c n bits beyond begins =
    let p = place_after c n bits begins in
    and_off (starts_line (clocks n c)) _ (never_begins c.registers p.l p.h (clocks n c) beyond p.at)

-- the lines of sync that are left before line l starts, and after it
pub record Comes (r : Registers) (l s : ℕ) : Type 0 where
  pub before : l ≤ sync_line r → s ≤ 1
  pub past : sync_line r < l → s - 1 ≡ sync_line r + sync_height r - l

pub record Lasts (r : Registers) (l s : ℕ) : Type 0 where
  pub before : l < sync_line r → s ≡ 0
  pub past : sync_line r ≤ l → s ≡ sync_line r + sync_height r - l

lasts : (r : Registers) → HoldsItsSync r → Rules r (Comes r) (Lasts r)
lasts r has =
    let row = sync_row r has.row in
    let height = has.height in
    record {
      row = has.row;
      start = λ l s in_frame w. grind (arith, nat_tests);
      line = λ l s w more. grind arith;
      frame = λ l s w last. grind arith;
    }

left_tells : (r : Registers) (l s : ℕ) → Lasts r l s → nat_lt 0 s ≡ (nat_le (sync_line r) l && nat_lt l (sync_line r + sync_height r))
left_tells r l s left = grind (arith, nat_tests)

pub sync_lasts : (c : State) (n : ℕ) → HaveTheirBits c.registers → HoldsItsSync c.registers → BeginsFrame c → c.sync_lines ≤ 1 →
    is_in_sync (clock_leaves (clocks n c))
    ≡ (nat_le (sync_line c.registers) (line_at c.registers n) && nat_lt (line_at c.registers n) (sync_line c.registers + sync_height c.registers))
sync_lasts c n bits has begins few =
    let r = c.registers in
    let d = clocks n c in
    let rules = lasts r has in
    let first : Comes r 0 c.sync_lines = record { before = λ p. few; past = λ p. absurd (omega (arith, p)) } in
    let kept = count_kept r (Comes r) (Lasts r) rules in
    let p = walk_frames c (Count r (Comes r) (Lasts r)) bits begins kept n (first_count r (Comes r) (Lasts r) c first) in
    let on = left_tells r p.l (start_leaves d).sync_lines (started r (Comes r) (Lasts r) rules p.l p.h d p.at p.holds) in
    ap (λ s. nat_lt 0 s) (count_leaves-sync (start_leaves d)) ∙ on
    ∙ ap (λ l. nat_le (sync_line r) l && nat_lt l (sync_line r + sync_height r)) (sym (place_is r _ n d p).0)
