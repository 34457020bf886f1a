-- The time during which vertical sync does not change, from one line to the next.
use Rattle.std.proofs.Common.{◌≡◌, refl, ℕ, ◌+◌, ◌-◌, ◌*◌, ◌%◌, ◌<◌, ◌≤◌, ◌≢◌, ◌==◌, ◌&&◌, ◌||◌, Bool, true, false, Option, Some, None, arith}
use Rattle.std.specs.Prelude.{if◌then◌else◌, is_none, nat_lt, nat_le, not}
use Rattle.std.proofs.lemmas.Bool.Decides.{nat_tests}
use Rattle.std.proofs.Math.Nat.{mod-eq_of_lt, mul-le-mul_right}
use Rattle.crtc6845.specs.State.{Registers, State}
use Rattle.crtc6845.specs.Clock.{raster_step, last_raster, is_row_done, frame_begun, adjust_begun, row_begun, raster_begun, line_ended_in, line_ended}
use Rattle.crtc6845.specs.Laws.{row_lines, HaveTheirBits}
use Rattle.crtc6845.specs.Pictures.{sync_line}
use Rattle.crtc6845.specs.Calm.{meets_last, lines_left, lines_before_sync_in, lines_before_sync}
use Rattle.crtc6845.proofs.Frames.{mul_more}

-- a row begins with all its lines left, and ends with one
first_left : (r : Registers) → lines_left r 0 ≡ row_lines r
first_left r = grind (arith, nat_tests)

last_left : (r : Registers) (raster : ℕ) → raster ≡ last_raster r → (lines_left r raster ≡ 1) × (meets_last r raster ≡ true)
last_left r raster h = grind (arith, nat_tests)

next_left : (r : Registers) (raster : ℕ) → r.maximum_raster < 32 → raster ≢ last_raster r →
    lines_left r raster ≤ lines_left r ((raster + raster_step r) % 32) + 1
next_left r raster h apart = grind (arith, nat_tests)

next_met : (r : Registers) (raster : ℕ) → r.maximum_raster < 32 → raster ≢ last_raster r → meets_last r raster ≡ true →
    (meets_last r ((raster + raster_step r) % 32) ≡ true) × ((raster + raster_step r) % 32 ≢ 0)
next_met r raster h apart met = grind (arith, nat_tests)

pub step_down : (a b w : ℕ) → a ≤ b + 1 → a * w ≤ b * w + w
step_down a b w h =
    let up = mul_more b w in
    let all : a * w ≤ (b + 1) * w = mul-le-mul_right w h in
    omega arith

-- the lines before sync, by the lines that are left of a row, and by its rasters if they reach the
-- last
abbrev before : (v total w at left : ℕ) → Bool → ℕ
before v total w at left met =
    if nat_lt at v then left + (v - at - 1) * w
    else if nat_le at total && (not (at == v) || met) then left + (total - at) * w + v * w
    else 1

raster_before : (v total w at next left less : ℕ) (met more : Bool) → left ≤ less + 1 → (met ≡ true → (more ≡ true) × (next ≢ 0)) → 2 ≤ before v total w at left met →
    ((at == v && next == 0) ≡ false) × (before v total w at left met ≤ before v total w at less more + 1)
raster_before v total w at next left less met more few same two = grind (arith, nat_tests)

row_before : (v total w at : ℕ) (more : Bool) → at ≢ total → 2 ≤ before v total w at 1 true →
    ((at + 1 == v && 0 == 0) ≡ false) × (before v total w at 1 true ≤ before v total w (at + 1) w more + 1)
row_before v total w at more apart two =
    let up = step_down (v - at - 1) (v - (at + 1) - 1) w (omega arith) in
    let down = step_down (total - at) (total - (at + 1)) w (omega arith) in
    grind (arith, nat_tests)

frame_before : (v total w n : ℕ) (met : Bool) → 2 ≤ n → n ≤ v * w + 1 → ((0 == v && 0 == 0) ≡ false) × (n ≤ before v total w 0 w met + 1)
frame_before v total w n met two most =
    let up = step_down v (v - 0 - 1) w (omega arith) in
    grind (arith, nat_tests)

last_before : (v total w at : ℕ) → at ≡ total → before v total w at 1 true ≤ v * w + 1
last_before v total w at last =
    let most : (v - at - 1) * w ≤ v * w = mul-le-mul_right w (omega arith) in
    grind (arith, nat_tests)

-- the end of a line lowers the number of lines before sync by at most one
abbrev pub MovesTo : ℕ → Registers → Option ℕ → ℕ → ℕ → Type 0
MovesTo n r adjust row raster =
    ((is_none adjust && row == r.vertical_sync_position && raster == 0) ≡ false) × (n ≤ lines_before_sync_in r adjust row raster + 1)

abbrev pub Moves : ℕ → State → Type 0
Moves n d = MovesTo n d.registers d.adjust d.row d.raster

frame_moves : (r : Registers) (n : ℕ) → 2 ≤ n → n ≤ sync_line r + 1 → MovesTo n r None 0 0
frame_moves r n two most =
    rw (first_left r) (frame_before r.vertical_sync_position r.vertical_total (row_lines r) n (meets_last r 0) two most)

row_moves : (c : State) (p q z : Bool) → is_row_done c ≡ p → (c.row == c.registers.vertical_total) ≡ q → c.adjust ≡ None →
    HaveTheirBits c.registers → c.registers.vertical_sync_position < 128 → 2 ≤ lines_before_sync_in c.registers None c.row c.raster →
    Moves (lines_before_sync_in c.registers None c.row c.raster)
    (if p && q then (if z then frame_begun c else adjust_begun c) else if p then row_begun c else raster_begun c)
row_moves c false q z e f none bits few two =
    let r = c.registers in
    let other : c.raster ≢ last_raster r = grind (arith, nat_tests) in
    rw none (raster_before r.vertical_sync_position r.vertical_total (row_lines r) c.row _ (lines_left r c.raster) _ (meets_last r c.raster) _
    (next_left r c.raster bits.maximum_raster other) (next_met r c.raster bits.maximum_raster other) two)
row_moves c true false z e f none bits few two =
    let r = c.registers in
    let rows = bits.vertical_total in
    let done = last_left r c.raster (grind (arith, nat_tests)) in
    let apart : c.row ≢ r.vertical_total = grind (arith, nat_tests) in
    let stays : (c.row + 1) % 128 ≡ c.row + 1 = mod-eq_of_lt (grind (arith, nat_tests)) in
    rw (none, stays, first_left r, done.0, done.1)
    (row_before r.vertical_sync_position r.vertical_total (row_lines r) c.row (meets_last r 0) apart (rw (done.0, done.1) at two))
row_moves c true true z e f none bits few two =
    let r = c.registers in
    let done = last_left r c.raster (grind (arith, nat_tests)) in
    let most : lines_before_sync_in r None c.row c.raster ≤ sync_line r + 1 =
    rw (done.0, done.1) (last_before r.vertical_sync_position r.vertical_total (row_lines r) c.row (grind (arith, nat_tests))) in
    end_moves z most
  where
    end_moves : (z : Bool) → lines_before_sync_in c.registers None c.row c.raster ≤ sync_line c.registers + 1 →
        Moves (lines_before_sync_in c.registers None c.row c.raster) (if z then frame_begun c else adjust_begun c)
    end_moves true most = frame_moves c.registers _ two most
    end_moves false most = (refl, omega arith)

moves_in : (adjust : Option ℕ) (c : State) → c.adjust ≡ adjust → HaveTheirBits c.registers → c.registers.vertical_sync_position < 128
    → 2 ≤ lines_before_sync_in c.registers adjust c.row c.raster →
    Moves (lines_before_sync_in c.registers adjust c.row c.raster) (line_ended_in adjust (record c { character = 0 }))
moves_in None c none bits few two = row_moves (record c { character = 0 }) _ _ _ refl refl none bits few two
moves_in (Some a) c some bits few two = adjust_moves ((a + 1) % 32 == c.registers.vertical_adjust)
  where
    adjust_moves : (p : Bool) → Moves (sync_line c.registers + 1) (if p then frame_begun (record c { character = 0 }) else record c { character = 0; adjust = Some ((a + 1) % 32) })
    adjust_moves true = frame_moves c.registers (sync_line c.registers + 1) two (omega arith)
    adjust_moves false = (refl, omega arith)

pub line_moves : (c : State) → HaveTheirBits c.registers → c.registers.vertical_sync_position < 128 → 2 ≤ lines_before_sync c → Moves (lines_before_sync c) (line_ended c)
line_moves c bits few two = moves_in c.adjust c refl bits few two
