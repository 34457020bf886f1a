-- The bits of the 6845's registers; and the shown characters and their rasters, clock by clock.
use Rattle.std.proofs.Common.{◌≡◌, ◌∙◌, sym, refl, ℕ, ◌%◌, ◌<◌, Bool, true, false, List, [], ◌∷◌, subst, arith, ap, zero, suc, ◌+◌, ◌-◌, ◌*◌, ◌/◌, ◌≤◌, ◌==◌}
use Rattle.std.proofs.Common.{◌⊎◌, ◌&&◌, Option, Some, None, add-one, inl, inr, true≢false}
use Rattle.std.specs.Prelude.{slice_index, if◌then◌else◌, is_none, nat_lt, nat_le}
use Rattle.beeb_bits.specs.Bits.{bit}
use Rattle.crtc6845.specs.declared.Beam.{Beam}
use Rattle.crtc6845.specs.State.{Registers, State, power_on}
use Rattle.crtc6845.specs.Registers.{write_leaves}
use Rattle.crtc6845.specs.Clock.{beam_of, clock_leaves, start_leaves, count_leaves, is_interlaced, raster_step, last_raster, starts_line, begins_sync}
use Rattle.crtc6845.specs.Clock.{sync_counted, sync_begun, is_shown, ends_line, is_row_done, is_last_line_in, is_last_line, ends_frame}
use Rattle.crtc6845.specs.Clock.{frame_begun, adjust_begun, row_begun, raster_begun, row_line_ended, adjust_line_ended, line_ended_in, line_ended}
use Rattle.crtc6845.specs.Laws.{HaveTheirBits, clocks, line_characters, row_lines, frame_lines, BeginsFrame, LinesHaveTheirCharacters, FramesHaveTheirClocks}
use Rattle.saa5050.specs.Shapes.{Font}
use Rattle.raster.specs.Beam.{byte_address}
use Rattle.raster.specs.State as raster
use Rattle.raster.specs.Clock.{begin_leaves, draw_byte_leaves, draw_cell_leaves, draw_leaves, show_leaves, char_clock_leaves}
use Rattle.law_chips.specs.PictureRuns as picture
use Rattle.law_chips.specs.CrtcBits.{Move, clock, select, write, after_move, after_moves, WritesByte, WriteBytes, RegistersHaveTheirBits, PutsBits, PutBits}
use Rattle.law_chips.specs.CrtcBits.{RastersHaveTheirBits}
use Rattle.std.proofs.lemmas.Bool.{cases_eq, eqb-true}
use Rattle.std.proofs.lemmas.Bool.Decides.{nat_tests}
use Rattle.std.proofs.lemmas.Nat.{div-add-mod', div_below, le-div}
use Rattle.std.proofs.Math.Nat.{zero-mod, zero-div, mod-eq_of_lt, mul-le-mul_right, mul_comm}
use Rattle.std.proofs.Math.Arith.{mod-mul}
use Rattle.crtc6845.specs.Pictures.{line_at, column_at}
use Rattle.law_chips.specs.ShownBytes.{CharactersAreShown}
use Rattle.law_chips.proofs.BeamWalk.{next_place, test_true, test_false}

pub start_keeps : (c : State) → (start_leaves c).registers ≡ c.registers
start_keeps c = grind arith

pub count_keeps : (c : State) → (count_leaves c).registers ≡ c.registers
count_keeps c = grind arith

written_has : (n v : ℕ) (r : Registers) → v < 256 → HaveTheirBits r → HaveTheirBits (write_leaves n v r)
written_has n v r byte bits = grind arith

clock_keeps : (c : State) → HaveTheirBits c.registers → HaveTheirBits (clock_leaves c).registers
clock_keeps c bits = subst HaveTheirBits (sym (count_keeps (start_leaves c) ∙ start_keeps c)) bits

moved : (m : Move) (c : State) → WritesByte m → HaveTheirBits c.registers → HaveTheirBits (after_move m c).registers
moved clock c byte bits = clock_keeps c bits
moved (select v) c byte bits = bits
moved (write v) c byte bits = written_has c.selected v c.registers byte bits

all_moved : (moves : List Move) (c : State) → WriteBytes moves → HaveTheirBits c.registers → HaveTheirBits (after_moves moves c).registers
all_moved [] c bytes bits = bits
all_moved (m ∷ moves) c bytes bits = all_moved moves (after_move m c) bytes.1 (moved m c bytes.0 bits)

first_bits : HaveTheirBits power_on.registers
first_bits = grind arith

pub registers_have_their_bits : RegistersHaveTheirBits
registers_have_their_bits = record { keeps = moved; reached = λ moves bytes. all_moved moves power_on bytes first_bits }

-- ---- The 6845 of a raster.

-- The drawing of a clock does not change the 6845.
choice : (b : Bool) (c : State) (x y : raster.State) → x.crtc ≡ c → y.crtc ≡ c → (if b then x else y).crtc ≡ c
choice true c x y p q = p
choice false c x y p q = q

draws : (ram : List ℕ) (size : ℕ) (font : Font) (beam : Beam) (s : raster.State) → (show_leaves ram size font beam s).crtc ≡ s.crtc
draws ram size font beam s =
    let byte = slice_index ram (byte_address beam.ma beam.ra size) in
    choice beam.shown s.crtc (draw_leaves ram size font beam s) s
    (choice (bit s.ula.control 1) s.crtc (draw_cell_leaves font beam (byte % 128) s) (draw_byte_leaves beam byte s) refl refl) refl

one_clock : (ram : List ℕ) (size : ℕ) (font : Font) (s : raster.State) →
    HaveTheirBits s.crtc.registers → HaveTheirBits (char_clock_leaves ram size font s).crtc.registers
unfolding char_clock_leaves
one_clock ram size font s bits =
    subst (λ (c : State). HaveTheirBits c.registers)
    (sym (draws ram size font (beam_of s.crtc) (begin_leaves (beam_of s.crtc) (record s { crtc = clock_leaves s.crtc }))))
    (clock_keeps s.crtc bits)

one_or_two : (b : Bool) (x y : raster.State) → HaveTheirBits x.crtc.registers → HaveTheirBits y.crtc.registers →
    HaveTheirBits (if b then x else y).crtc.registers
one_or_two true x y p q = p
one_or_two false x y p q = q

raster_moved : (m : picture.Move) (s : raster.State) → PutsBits m →
    HaveTheirBits s.crtc.registers → HaveTheirBits (picture.after_move m s).crtc.registers
raster_moved m s puts bits = grind (arith, one_clock, one_or_two)

raster_all_moved : (moves : List picture.Move) (s : raster.State) → PutBits moves →
    HaveTheirBits s.crtc.registers → HaveTheirBits (picture.after_moves moves s).crtc.registers
raster_all_moved [] s put bits = bits
raster_all_moved (m ∷ moves) s put bits = raster_all_moved moves (picture.after_move m s) put.1 (raster_moved m s put.0 bits)

pub rasters_have_their_bits : RastersHaveTheirBits
rasters_have_their_bits moves put = raster_all_moved moves raster.power_on put first_bits

-- ---- Steps of a chip.

clocks_behind : (n : ℕ) (c : State) → clocks n (clock_leaves c) ≡ clock_leaves (clocks n c)
clocks_behind zero c = refl
clocks_behind (suc n) c = clocks_behind n (clock_leaves c)

pub keeps : (n : ℕ) (c : State) → (clocks n c).registers ≡ c.registers
keeps zero c = refl
keeps (suc n) c = keeps n (clock_leaves c) ∙ count_keeps (start_leaves c) ∙ start_keeps c

-- the start of a line changes only the counts of sync lines and of fields
abbrev pub IsKept : State → State → Type 0
IsKept c d = (s : ℕ) × ((f : ℕ) × (d ≡ record c { sync_lines = s; fields = f }))

kept_by : (p q : Bool) (c : State) → IsKept c (if p then (if q then sync_begun (sync_counted c) else sync_counted c) else c)
kept_by true true c = (_, (_, refl))
kept_by true false c = (_, (_, refl))
kept_by false q c = (_, (_, refl))

pub kept : (c : State) → IsKept c (start_leaves c)
kept c = kept_by (starts_line c) (begins_sync (sync_counted c)) c

inner_is : (d : State) → ends_line d ≡ false → count_leaves d ≡ record d { character = (d.character + 1) % 256 }
inner_is d h = rw h

last_is : (d : State) → ends_line d ≡ true → count_leaves d ≡ line_ended d
last_is d h = rw h

-- ---- The character of the line.

character_after : (d : State) → ((count_leaves d).character ≡ 0) ⊎ ((count_leaves d).character ≡ (d.character + 1) % 256)
character_after d = grind arith

pub characters : LinesHaveTheirCharacters → (c : State) → HaveTheirBits c.registers → c.character ≡ 0 → (n : ℕ) →
    (clocks n c).character ≡ column_at c.registers n
characters lines c bits begins zero = begins ∙ sym (zero-mod (line_characters c.registers))
characters lines c bits begins (suc n) =
    let w = line_characters c.registers in
    let x = clocks n c in
    let y = clocks (suc n) c in
    let is : x.character ≡ n % w = characters lines c bits begins n in
    let next : y ≡ clock_leaves x = clocks_behind n c in
    let same : (start_leaves x).character ≡ x.character = let k = kept x in ap (λ (d : State). d.character) k.1.1 in
    let g : n + 1 ≡ suc n = add-one n in
    let law : (y.character == 0) ≡ (suc n % w == 0) = lines c (suc n) bits begins in
    elim (next_place w n (omega arith)) [
      | inl o ↦
          let none : suc n % w ≡ 0 = ap (λ k. k % w) (sym g) ∙ o.0 in
          eqb-true _ _ (law ∙ test_true (suc n % w) 0 none) ∙ sym none
      | inr o ↦
          let more : suc n % w ≡ n % w + 1 = ap (λ k. k % w) (sym g) ∙ o.0 in
          let some : (y.character == 0) ≡ false = law ∙ test_false (suc n % w) 0 (λ none. omega arith) in
          elim (character_after (start_leaves x)) [
            | inl first ↦ absurd (true≢false (sym (test_true y.character 0 (ap (λ (d : State). d.character) next ∙ first)) ∙ some))
            | inr on ↦
                ap (λ (d : State). d.character) next ∙ on ∙ ap (λ k. (k + 1) % 256) (same ∙ is)
                ∙ mod-eq_of_lt (omega arith) ∙ sym more
          ]
    ]

pub frame_some : (r : Registers) → 0 < frame_lines r
frame_some r = grind arith

-- the state of clock `n`, after the start of its line
pub record AtClock (c : State) (n : ℕ) : Type 0 where
  pub registers : (start_leaves (clocks n c)).registers ≡ c.registers
  pub column : (start_leaves (clocks n c)).character ≡ n % line_characters c.registers
  pub total : (start_leaves (clocks n c)).registers.horizontal_total ≡ c.registers.horizontal_total
  pub some : 0 < frame_lines c.registers
  pub digits : (n + 1) % (line_characters c.registers * frame_lines c.registers)
      ≡ (n + 1) / line_characters c.registers % frame_lines c.registers * line_characters c.registers + (n + 1) % line_characters c.registers

pub at_clock : LinesHaveTheirCharacters → (c : State) → HaveTheirBits c.registers → c.character ≡ 0 → (n : ℕ) → AtClock c n
at_clock lines c bits begins n =
    let r = c.registers in
    let x = clocks n c in
    let k = kept x in
    let regs : (start_leaves x).registers ≡ r = start_keeps x ∙ keeps n c in
    let some = frame_some r in
    record {
      registers = regs;
      column = ap (λ (e : State). e.character) k.1.1 ∙ characters lines c bits begins n;
      total = ap (λ (q : Registers). q.horizontal_total) regs;
      some = some;
      digits = ap (λ k. (n + 1) % k) (mul_comm (line_characters r) (frame_lines r)) ∙ mod-mul (n + 1) some (omega arith);
    }

-- a clock that is not the last of its line ends neither the line nor the frame
pub not_last : (c : State) (n : ℕ) → AtClock c n → (n + 1) % line_characters c.registers ≡ n % line_characters c.registers + 1 →
    n % line_characters c.registers + 1 < line_characters c.registers →
    (ends_line (start_leaves (clocks n c)) ≡ false) × (((n + 1) % (line_characters c.registers * frame_lines c.registers) == 0) ≡ false)
not_last c n at up inner = grind (arith, test_false)

-- ---- The rasters of a row.

pub last_of : (b : Bool) (m k : ℕ) → k + 1 ≡ (if b then m - m % 2 else m) / (if b then 2 else 1) + 1 →
    k * (if b then 2 else 1) ≡ (if b then m - m % 2 else m)
last_of true m k e = omega arith
last_of false m k e = omega arith

-- there is room for one more
pub record HasNext (b : Bool) (m k : ℕ) : Type 0 where
  pub other : k * (if b then 2 else 1) ≡ (if b then m - m % 2 else m) → ⊥
  pub step : (k * (if b then 2 else 1) + (if b then 2 else 1)) % 32 ≡ (k + 1) * (if b then 2 else 1)

pub next_of : (b : Bool) (m k : ℕ) → m < 32 → k + 1 < (if b then m - m % 2 else m) / (if b then 2 else 1) + 1 → HasNext b m k
next_of b m k small e = grind arith

-- ---- The line of the frame.

-- line l of a frame is one of its rows, or of adjust
pub record InRow (r : Registers) (l : ℕ) (adjust : Option ℕ) (row raster : ℕ) : Type 0 where
  pub none : adjust ≡ None
  pub rows : l < (r.vertical_total + 1) * row_lines r
  pub row_is : row ≡ l / row_lines r
  pub raster_is : raster ≡ l % row_lines r * raster_step r

pub record InAdjust (r : Registers) (l : ℕ) (adjust : Option ℕ) : Type 0 where
  pub line : ℕ
  pub some : adjust ≡ Some line
  pub past : (r.vertical_total + 1) * row_lines r ≤ l

abbrev pub IsAt : Registers → ℕ → State → Type 0
IsAt r l c = InRow r l c.adjust c.row c.raster ⊎ InAdjust r l c.adjust

first_line : (r : Registers) (row raster : ℕ) (adjust : Option ℕ) → row ≡ 0 → raster ≡ 0 → adjust ≡ None → InRow r 0 adjust row raster
first_line r row raster adjust a b none = grind arith

-- the kind of a line's end
rows_line : (c : State) → is_row_done c ≡ true → (c.row == c.registers.vertical_total) ≡ true → is_last_line_in None c ≡ false →
    row_line_ended c ≡ adjust_begun c
rows_line c done all other = grind arith

row_line : (c : State) → is_row_done c ≡ true → (c.row == c.registers.vertical_total) ≡ false → row_line_ended c ≡ row_begun c
row_line c done other = rw (done, other)

raster_line : (c : State) → is_row_done c ≡ false → row_line_ended c ≡ raster_begun c
raster_line c other = rw other

adjust_line : (c : State) (a : ℕ) → ((a + 1) % 32 == c.registers.vertical_adjust) ≡ false →
    adjust_line_ended a c ≡ record c { adjust = Some ((a + 1) % 32) }
adjust_line c a other = rw other

-- a line among the rows ends, and the frame does not
row_goes_on : (l : ℕ) (c : State) → HaveTheirBits c.registers → InRow c.registers l c.adjust c.row c.raster → is_last_line_in None c ≡ false →
    IsAt c.registers (l + 1) (row_line_ended c)
row_goes_on l c bits at other =
    let r = c.registers in
    let n = row_lines r in
    let b = is_interlaced r in
    let m = r.maximum_raster in
    let none : c.adjust ≡ None = at.none in
    let rows : l < (r.vertical_total + 1) * n = at.rows in
    let split : l / n * n + l % n ≡ l = div-add-mod' l n in
    let row_small : l / n < r.vertical_total + 1 = div_below l n (r.vertical_total + 1) (omega arith) rows in
    let row_is : c.row ≡ l / n = at.row_is in
    let up : (l / n + 1) * n ≡ l / n * n + n = grind arith in
    let whole : (r.vertical_total + 1) * n ≡ r.vertical_total * n + n = grind arith in
    elim (next_place n l (omega arith)) [
      | inl o ↦
          let end : l % n + 1 ≡ n = o.1.1 in
          let done : is_row_done c ≡ true = test_true c.raster (last_raster r) (at.raster_is ∙ last_of b m (l % n) end) in
          elim (cases_eq c.row r.vertical_total) [
            | inl last ↦
                let same : l / n * n ≡ r.vertical_total * n = ap (λ k. k * n) (sym row_is ∙ last) in
                subst (IsAt r (l + 1)) (sym (rows_line c done (test_true c.row r.vertical_total last) other))
                (inr (record { line = 0; some = refl; past = omega arith }))
            | inr above ↦
                let below : (l / n + 1) * n ≤ r.vertical_total * n = mul-le-mul_right n (omega arith) in
                let stays : (c.row + 1) % 128 ≡ (l + 1) / n =
                mod-eq_of_lt (omega arith) ∙ ap (λ k. k + 1) row_is ∙ sym o.1.0 in
                let z : 0 ≡ 0 * raster_step r = omega arith in
                subst (IsAt r (l + 1)) (sym (row_line c done (test_false c.row r.vertical_total above)))
                (inl (record {
                  none = none;
                  rows = omega arith;
                  row_is = stays;
                  raster_is = z ∙ ap (λ k. k * raster_step r) (sym o.0);
                }))
          ]
      | inr o ↦
          let inner : l % n + 1 < n = o.1.1 in
          let next : HasNext b m (l % n) = next_of b m (l % n) bits.maximum_raster inner in
          let below : (l / n + 1) * n ≤ (r.vertical_total + 1) * n = mul-le-mul_right n (omega arith) in
          let not_done : is_row_done c ≡ false = test_false c.raster (last_raster r) (λ same. next.other (sym at.raster_is ∙ same)) in
          subst (IsAt r (l + 1)) (sym (raster_line c not_done))
          (inl (record {
            none = none;
            rows = omega arith;
            row_is = row_is ∙ sym o.1.0;
            raster_is = ap (λ k. (k + raster_step r) % 32) at.raster_is ∙ next.step ∙ ap (λ k. k * raster_step r) (sym o.0);
          }))
    ]

line_goes_on : (adjust : Option ℕ) (l : ℕ) (c : State) → c.adjust ≡ adjust → HaveTheirBits c.registers → IsAt c.registers l c →
    is_last_line_in adjust c ≡ false → IsAt c.registers (l + 1) (line_ended_in adjust c)
line_goes_on None l c is bits (inl at) other = row_goes_on l c bits at other
line_goes_on None l c is bits (inr at) other = absurd (true≢false (sym (ap is_none (sym at.some ∙ is))))
line_goes_on (Some a) l c is bits (inl at) other = absurd (true≢false (ap is_none (sym at.none ∙ is)))
line_goes_on (Some a) l c is bits (inr at) other =
    let past = at.past in
    subst (IsAt c.registers (l + 1)) (sym (adjust_line c a other)) (inr (record { line = (a + 1) % 32; some = refl; past = omega arith }))

-- the last line of a frame ends, and a new frame begins
last_goes_on : (adjust : Option ℕ) (c : State) → is_last_line_in adjust c ≡ true → line_ended_in adjust c ≡ frame_begun c
last_goes_on adjust c is = grind arith

pub and_left : (a b : Bool) → a ≡ true → (a && b) ≡ b
and_left true b e = refl
and_left false b e = cc

-- the character does not matter here
last_by_line : (adjust : Option ℕ) (c : State) → is_last_line_in adjust (record c { character = 0 }) ≡ is_last_line_in adjust c
last_by_line None c = refl
last_by_line (Some a) c = refl

frame_again : (c : State) → is_last_line c ≡ true → IsAt c.registers 0 (line_ended c)
frame_again c is = grind (arith, last_goes_on, last_by_line, first_line)

at_line : (r : Registers) (c : State) (l k : ℕ) → l ≡ k → IsAt r l c → IsAt r k c
at_line r c l k e at = subst (λ (i : ℕ). IsAt r i c) e at

-- the 6845 is at its line after each clock
pub walk : LinesHaveTheirCharacters → FramesHaveTheirClocks → (c : State) → HaveTheirBits c.registers → BeginsFrame c → (n : ℕ) →
    IsAt c.registers (line_at c.registers n) (clocks n c)
walk lines frames c bits begins zero =
    let r = c.registers in
    let q : 0 / line_characters r ≡ 0 = zero-div (line_characters r) in
    let z : line_at r 0 ≡ 0 = ap (λ k. k % frame_lines r) q ∙ zero-mod (frame_lines r) in
    at_line r c 0 (line_at r 0) (sym z) (inl (first_line r c.row c.raster c.adjust begins.row begins.raster begins.adjust))
walk lines frames c bits begins (suc n) =
    let r = c.registers in
    let w = line_characters r in
    let f = frame_lines r in
    let x = clocks n c in
    let d = start_leaves x in
    let g : n + 1 ≡ suc n = add-one n in
    let clock = at_clock lines c bits begins.character n in
    let regs = clock.registers in
    let some = clock.some in
    let digits = clock.digits in
    let here : IsAt r (line_at r n) d = let k = kept x in subst (IsAt r (line_at r n)) (sym k.1.1) (walk lines frames c bits begins n) in
    let law : ends_frame d ≡ ((n + 1) % (w * f) == 0) = frames c n bits begins in
    subst (IsAt r (line_at r (suc n))) (sym (clocks_behind n c)) (elim (next_place w n (omega arith)) [
      | inr o ↦
          let test : ends_line d ≡ false = (not_last c n clock o.0 o.1.1).0 in
          let same : line_at r n ≡ line_at r (suc n) = ap (λ k. k % f) (sym o.1.0 ∙ ap (λ k. k / w) g) in
          at_line r (count_leaves d) (line_at r n) (line_at r (suc n)) same (subst (IsAt r (line_at r n)) (sym (inner_is d test)) here)
      | inl o ↦
          let test : ends_line d ≡ true = test_true d.character d.registers.horizontal_total (omega arith) in
          let lasts : is_last_line d ≡ ((n + 1) % (w * f) == 0) = sym (and_left (ends_line d) (is_last_line d) test) ∙ law in
          subst (IsAt r (line_at r (suc n))) (sym (last_is d test)) (elim (next_place f (n / w) some) [
            | inl i ↦
                let to : line_at r (suc n) ≡ 0 = ap (λ k. k / w % f) (sym g) ∙ ap (λ k. k % f) o.1.0 ∙ i.0 in
                let none : (n + 1) / w % f ≡ 0 = ap (λ k. k % f) o.1.0 ∙ i.0 in
                let zeroed : (n + 1) / w % f * w ≡ 0 = ap (λ k. k * w) none ∙ omega arith in
                let whole : is_last_line d ≡ true = lasts ∙ test_true ((n + 1) % (w * f)) 0 (digits ∙ omega arith) in
                at_line r (line_ended d) 0 (line_at r (suc n)) (sym to) (subst (λ (q : Registers). IsAt q 0 (line_ended d)) regs (frame_again d whole))
            | inr i ↦
                let to : line_at r (suc n) ≡ line_at r n + 1 = ap (λ k. k / w % f) (sym g) ∙ ap (λ k. k % f) o.1.0 ∙ i.0 in
                let more : (n + 1) / w % f ≡ n / w % f + 1 = ap (λ k. k % f) o.1.0 ∙ i.0 in
                let up : (n / w % f + 1) * w ≡ n / w % f * w + w = grind arith in
                let many : (n + 1) / w % f * w ≡ n / w % f * w + w = ap (λ k. k * w) more ∙ up in
                let other : is_last_line d ≡ false = lasts ∙ test_false ((n + 1) % (w * f)) 0 (λ none. omega arith) in
                at_line r (line_ended d) (line_at r n + 1) (line_at r (suc n)) (sym to)
                (subst (λ (q : Registers). IsAt q (line_at r n + 1) (line_ended d)) regs
                (line_goes_on d.adjust (line_at r n) (record d { character = 0 }) refl (subst HaveTheirBits (sym regs) bits)
                (subst (λ (q : Registers). IsAt q (line_at r n) d) (sym regs) here) (last_by_line d.adjust d ∙ other)))
          ])
    ])

-- ---- The shown characters

pub and_false : (a : Bool) → (a && false) ≡ false
and_false true = refl
and_false false = refl

shown_by : (r : Registers) (l h : ℕ) (c : State) → c.registers ≡ r → c.character ≡ h → IsAt r l c →
    is_shown c ≡ (nat_lt h r.horizontal_displayed && nat_lt (l / row_lines r) r.vertical_displayed && nat_le (l / row_lines r) r.vertical_total)
shown_by r l h c regs column at = grind (arith, div_below, nat_tests, le-div, and_false)

raster_by : (r : Registers) (l : ℕ) (c : State) → IsAt r l c → is_shown c ≡ true → c.raster ≡ l % row_lines r * raster_step r
raster_by r l c at is = grind arith

pub characters_are_shown : LinesHaveTheirCharacters → FramesHaveTheirClocks → CharactersAreShown
characters_are_shown lines frames = record {
  which = λ c n bits begins.
      let x = clocks n c in
      let k = kept x in
      shown_by c.registers (line_at c.registers n) (column_at c.registers n) (start_leaves x) (start_keeps x ∙ keeps n c)
      (ap (λ (e : State). e.character) k.1.1 ∙ characters lines c bits begins.character n)
      (subst (IsAt c.registers (line_at c.registers n)) (sym k.1.1) (walk lines frames c bits begins n));
  raster = λ c n bits begins is.
      let k = kept (clocks n c) in
      raster_by c.registers (line_at c.registers n) (start_leaves (clocks n c))
      (subst (IsAt c.registers (line_at c.registers n)) (sym k.1.1) (walk lines frames c bits begins n)) is;
}
