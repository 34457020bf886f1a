-- The frames that shots take, tick by tick.
use Rattle.std.proofs.Common.{◌≡◌, ◌∙◌, sym, ap, refl, ℕ, zero, suc, ◌+◌, ◌-◌, ◌%◌, ◌<◌, ◌≤◌, ◌==◌, ◌&&◌, Bool, true, false, max, List, [], ◌∷◌, ◌++◌, map, append_assoc, arith}
use Rattle.std.specs.Prelude.{Option, None, Some, nat_lt, replicate, if◌then◌else◌}
use Rattle.std.proofs.Common.{subst, inl, inr}
use Rattle.std.proofs.lemmas.Bool.{cases_Bool}
use Rattle.std.proofs.lemmas.Bool.Decides.{nat_tests}
use Rattle.std.proofs.lemmas.List.{map-append, append-nil}
use Rattle.rom_set.specs.Roms.{Roms}
use Rattle.disc_image.specs.Image.{Image}
use Rattle.beeb_bits.specs.declared.clock.Clock.{Clock}
use Rattle.beeb_bits.specs.Clock.{micro}
use Rattle.beeb_bits.specs.Bits.{bit}
use Rattle.saa5050.specs.Shapes.{Font}
use Rattle.raster.specs.Frame.{black}
use Rattle.raster.specs.State as picture
use Rattle.raster.specs.Clock.{char_clock_leaves}
use Rattle.keyboard.specs.Latch.{screen_size}
use Rattle.key_script.specs.declared.Event.{Event}
use Rattle.key_script.specs.Events.{tick_of, is_shot, NeverFallsFrom}
use Rattle.cpu_alu.specs.declared.Cycle.{Cycle}
use Rattle.cpu_alu.specs.declared.Cycle.TheVariants.{Read, Write}
use Rattle.cpu6502.specs.Sequences.{next_cycle}
use Rattle.tube_chip.specs.declared.Answer.{Answer}
use Rattle.host_devices.specs.declared.map.Device.{Device}
use Rattle.host_devices.specs.declared.map.Device.TheVariants.{Crtc, Acia, SerialUla, VideoUla, RomLatch, SystemVia, UserVia, DiscLatch, DiscController, Absent, Adc, Tube}
use Rattle.host_devices.specs.Map.{Place, Ram, PagedRom, OsRom, Plugs, Sheila, place_of}
use Rattle.host_devices.specs.Shots.{shots_at}
use Rattle.host_devices.specs.Devices.{Devices, keys_at, levels_at, microsecond, last_frame, register_read, register_written, after_latch, devices_reset, first_devices}
use Rattle.host_bus.specs.Board.{BoardState, Around, Moving, around, moving_part, tick, ticks, board_closed, first_board}
use Rattle.host_bus.specs.Bus.{BusState, after_read_of, after_write_of}
use Rattle.host_mach.specs.State.{HostState, power_on, with_tube}
use Rattle.host_mach.specs.Step.{bus_after, is_break, after_break, after_step, host_closed, next_state}
use Rattle.law_machines.specs.HostTicks.{run}
use Rattle.law_machines.specs.Frames.{FramesFinish}
use Rattle.law_machines.specs.Shots.{in_clock, in_microsecond, in_tick, in_ticks, in_closing, finished_in, last_before, shot_ticks, ShotsAreFinished}

abbrev Frames : Type 0
Frames = List (ℕ × List ℕ)

-- ---- the last frame before a tick

joins : (t : ℕ) (frame : List ℕ) (xs ys : Frames) → last_before t frame (xs ++ ys) ≡ last_before t (last_before t frame xs) ys
joins t frame [] ys = refl
joins t frame (x ∷ xs) ys = joins t (if nat_lt x.0 t then x.1 else frame) xs ys

-- a frame that is finished at tick k is before each later tick, and before none up to k
one_later : (ends : Bool) {t k : ℕ} (frame drawn : List ℕ) → k < t → last_before t frame (if ends then (k, drawn) ∷ [] else []) ≡ (if ends then drawn else frame)
one_later true {t} {k} frame drawn late = let is : nat_lt k t ≡ true = grind (arith, nat_tests, late) in ap (λ b. if b then drawn else frame) is
one_later false frame drawn late = refl

one_early : (ends : Bool) {t k : ℕ} {frame : List ℕ} (drawn : List ℕ) → t ≤ k → last_before t frame (if ends then (k, drawn) ∷ [] else []) ≡ frame
one_early true {t} {k} {frame} drawn early = let is : nat_lt k t ≡ false = grind (arith, nat_tests, early) in ap (λ b. if b then drawn else frame) is
one_early false drawn early = refl

module _ (finish : FramesFinish) where
  clock_later : {t k : ℕ} (ram : List ℕ) (size : ℕ) (font : Font) (s : picture.State) → k < t → last_before t s.finished (in_clock k s) ≡ (char_clock_leaves ram size font s).finished
  clock_later ram size font s late = one_later _ s.finished s.working late ∙ sym (finish.each ram size font s)

  micro_later : (fast : Bool) {t k : ℕ} (ram : List ℕ) (size : ℕ) (font : Font) (s : picture.State) → k < t →
      last_before t s.finished (if fast then in_clock k s ++ in_clock k (char_clock_leaves ram size font s) else in_clock k s)
      ≡ (if fast then char_clock_leaves ram size font (char_clock_leaves ram size font s) else char_clock_leaves ram size font s).finished
  micro_later true {t} {k} ram size font s late =
      joins t s.finished (in_clock k s) (in_clock k (char_clock_leaves ram size font s))
      ∙ ap (λ frame. last_before t frame (in_clock k (char_clock_leaves ram size font s))) (clock_later ram size font s late)
      ∙ clock_later ram size font _ late
  micro_later false ram size font s late = clock_later ram size font s late

  beat_later : (comes : Bool) (a : Around) (t k : ℕ) (d : Devices) → k < t →
      last_before t d.video.finished (if comes then in_microsecond k a.ram (screen_size d.latch) a.font d.video else [])
      ≡ (if comes then microsecond a.ram a.font (keys_at k a.script) (levels_at k a.script) d else d).video.finished
  unfolding microsecond
  beat_later true a t k d late = micro_later _ a.ram _ a.font d.video late
  beat_later false a t k d late = refl

clock_early : {t k : ℕ} {frame : List ℕ} (s : picture.State) → t ≤ k → last_before t frame (in_clock k s) ≡ frame
clock_early s early = one_early _ s.working early

micro_early : (fast : Bool) {t k : ℕ} {frame : List ℕ} (s x : picture.State) → t ≤ k → last_before t frame (if fast then in_clock k s ++ in_clock k x else in_clock k s) ≡ frame
micro_early true {t} {k} {frame} s x early =
    joins t frame (in_clock k s) (in_clock k x) ∙ ap (λ f. last_before t f (in_clock k x)) (clock_early s early) ∙ clock_early x early
micro_early false s x early = clock_early s early

tick_early : (comes : Bool) (a : Around) {t k : ℕ} {frame : List ℕ} (d : Devices) → t ≤ k →
    last_before t frame (if comes then in_microsecond k a.ram (screen_size d.latch) a.font d.video else []) ≡ frame
tick_early true a d early = micro_early (bit d.video.ula.control 4) d.video (char_clock_leaves a.ram (screen_size d.latch) a.font d.video) early
tick_early false a d early = refl

-- ---- the ticks of shots

none_below : {k low : ℕ} (events : List Event) → k ≤ low → NeverFallsFrom low events → shot_ticks k events ≡ []
none_below [] high order = refl
none_below {k} (e ∷ events) high order =
    let late : nat_lt (tick_of e) k ≡ false = grind (arith, nat_tests, high, order.0) in
    skipped (is_shot e) late ∙ none_below events (omega arith) order.1
  where
    skipped : (s : Bool) → nat_lt (tick_of e) k ≡ false → (if s && nat_lt (tick_of e) k then tick_of e ∷ shot_ticks k events else shot_ticks k events) ≡ shot_ticks k events
    skipped true late = rw late
    skipped false late = refl

-- one event adds nothing in tick `k`, or a shot at it
abbrev Adds : Bool → Bool → Bool → Bool → ℕ → ℕ → List ℕ → List ℕ → ℕ → Type 0
Adds s by_then before now t k xs ys n =
    (if s && by_then then t ∷ xs else xs) ≡ (if s && before then t ∷ ys else ys) ++ replicate (if now && s then suc n else n) k

adds_before : (s : Bool) (t k : ℕ) {xs : List ℕ} (ys : List ℕ) (n : ℕ) → xs ≡ ys ++ replicate n k → Adds s true true false t k xs ys n
adds_before true t k ys n is = rw is
adds_before false t k ys n is = is

adds_now : (s : Bool) {t k : ℕ} {xs ys : List ℕ} (n : ℕ) → xs ≡ ys ++ replicate n k → t ≡ k → ys ≡ [] → Adds s true false true t k xs ys n
adds_now true n is here none = rw (is, none, here) refl
adds_now false n is here none = is

adds_later : (s : Bool) (t k : ℕ) {xs : List ℕ} (ys : List ℕ) (n : ℕ) → xs ≡ ys ++ replicate n k → Adds s false false false t k xs ys n
adds_later true t k ys n is = is
adds_later false t k ys n is = is

adds : (s : Bool) {t k : ℕ} {xs ys : List ℕ} (n : ℕ) → xs ≡ ys ++ replicate n k → (k ≤ t → ys ≡ []) → Adds s (nat_lt t (k + 1)) (nat_lt t k) (t == k) t k xs ys n
adds s {t} {k} {xs} {ys} n is none =
    elim (cases_Bool (nat_lt t k)) [
      | inl low ↦
          let then_ : nat_lt t (k + 1) ≡ true = grind (arith, nat_tests, low) in
          let now : (t == k) ≡ false = grind (arith, nat_tests, low) in
          rw then_ (subst (λ b. Adds s true b (t == k) t k xs ys n) (sym low) (subst (λ b. Adds s true true b t k xs ys n) (sym now) (adds_before s t k ys n is)))
      | inr high ↦ elim (cases_Bool (t == k)) [
        | inl now ↦
            let then_ : nat_lt t (k + 1) ≡ true = grind (arith, nat_tests, now) in
            let here : t ≡ k = grind (arith, nat_tests, now) in
            rw then_ (subst (λ b. Adds s true b (t == k) t k xs ys n) (sym high)
            (subst (λ b. Adds s true false b t k xs ys n) (sym now) (adds_now s n is here (none (omega (arith, here))))))
        | inr other ↦
            let then_ : nat_lt t (k + 1) ≡ false = grind (arith, nat_tests, high, other) in
            rw then_ (subst (λ b. Adds s false b (t == k) t k xs ys n) (sym high)
            (subst (λ b. Adds s false false b t k xs ys n) (sym other) (adds_later s t k ys n is)))
      ]
    ]

one_more_tick : (k low : ℕ) (events : List Event) → NeverFallsFrom low events → shot_ticks (k + 1) events ≡ shot_ticks k events ++ replicate (shots_at k events) k
one_more_tick k low [] order = refl
one_more_tick k low (e ∷ events) order =
    adds (is_shot e) _ (one_more_tick k (tick_of e) events order.1)
    (λ late. none_below events late order.1)

-- two functions that agree below k
module _ (f g : ℕ → List ℕ) (k : ℕ) (same : (t : ℕ) → t < k → f t ≡ g t) where
  one_same : (s b : Bool) (t : ℕ) (ts : List ℕ) → nat_lt t k ≡ b → map f ts ≡ map g ts → map f (if s && b then t ∷ ts else ts) ≡ map g (if s && b then t ∷ ts else ts)
  one_same true true t ts low rest = let here : f t ≡ g t = same t (grind (arith, nat_tests, low)) in rw (here, rest) refl
  one_same true false t ts low rest = rest
  one_same false true t ts low rest = rest
  one_same false false t ts low rest = rest

  all_same : (events : List Event) → map f (shot_ticks k events) ≡ map g (shot_ticks k events)
  all_same [] = refl
  all_same (e ∷ events) = one_same (is_shot e) _ (tick_of e) _ refl (all_same events)

map_same : (f : ℕ → List ℕ) (n k : ℕ) → map f (replicate n k) ≡ replicate n (f k)
map_same f zero k = refl
map_same f (suc n) k = rw (map_same f n k)

-- ---- The parts that no access changes

record Keeps (b x : BoardState) : Type 0 where
  pub script : x.script ≡ b.script
  pub closed : x.closed ≡ b.closed
  pub shots : x.shots ≡ b.shots
  pub finished : x.devices.video.finished ≡ b.devices.video.finished

all_kept : {b : BoardState} → Keeps b b
all_kept = record { script = refl; closed = refl; shots = refl; finished = refl }

with_devices : {b : BoardState} {d : Devices} → d.video.finished ≡ b.devices.video.finished → Keeps b (record b { devices = d })
with_devices is = record { script = refl; closed = refl; shots = refl; finished = is }

read_devices : (device : Device) (at : ℕ) (d : Devices) → (register_read device at d).video.finished ≡ d.video.finished
unfolding register_read
read_devices SystemVia at d = refl
read_devices UserVia at d = refl
read_devices DiscController at d = refl
read_devices _ at d = refl

latched : (goes : Bool) (d : Devices) (latch : List Bool) → (if goes then record d { latch = latch } else d).video.finished ≡ d.video.finished
latched true d latch = refl
latched false d latch = refl

written_devices : (device : Device) (at v : ℕ) (d : Devices) → (register_written device at v d).video.finished ≡ d.video.finished
unfolding register_written after_latch
written_devices Crtc at v d = refl
written_devices VideoUla at v d = refl
written_devices SystemVia at v d = latched _ _ _
written_devices UserVia at v d = refl
written_devices DiscLatch at v d = refl
written_devices DiscController at v d = refl
written_devices Adc at v d = refl
written_devices _ at v d = refl

read_keeps : (place : Place) (b : BusState) (at : ℕ) → Keeps b.board (after_read_of place b at).board
read_keeps Plugs b at = all_kept
read_keeps (Sheila device) b at = with_devices (read_devices device at _)
read_keeps _ b at = all_kept

write_keeps : (place : Place) (b : BusState) (at v : ℕ) → Keeps b.board (after_write_of place b at v).board
write_keeps Ram b at v = record { script = refl; closed = refl; shots = refl; finished = refl }
write_keeps Plugs b at v = all_kept
write_keeps (Sheila RomLatch) b at v = record { script = refl; closed = refl; shots = refl; finished = refl }
write_keeps (Sheila SystemVia) b at v = record { script = refl; closed = refl; shots = refl; finished = written_devices SystemVia at v _ }
write_keeps (Sheila Crtc) b at v = with_devices (written_devices Crtc at v _)
write_keeps (Sheila Acia) b at v = with_devices (written_devices Acia at v _)
write_keeps (Sheila SerialUla) b at v = with_devices (written_devices SerialUla at v _)
write_keeps (Sheila VideoUla) b at v = with_devices (written_devices VideoUla at v _)
write_keeps (Sheila UserVia) b at v = with_devices (written_devices UserVia at v _)
write_keeps (Sheila DiscLatch) b at v = with_devices (written_devices DiscLatch at v _)
write_keeps (Sheila DiscController) b at v = with_devices (written_devices _ at v _)
write_keeps (Sheila Absent) b at v = with_devices (written_devices Absent at v _)
write_keeps (Sheila Adc) b at v = with_devices (written_devices Adc at v _)
write_keeps (Sheila Tube) b at v = with_devices (written_devices Tube at v _)
write_keeps PagedRom b at v = all_kept
write_keeps OsRom b at v = all_kept

access_keeps : (c : Cycle) (b : BusState) → Keeps b.board (bus_after b c).board
access_keeps (Read at) b = read_keeps (place_of at) b at
access_keeps (Write at v) b = write_keeps (place_of at) b at v

-- a step of a host whose devices have been run to it
step_keeps : (breaks : Bool) (o : Option Cycle) (s : HostState) (a : Option Answer) →
    Keeps s.bus.bus.board (if breaks then after_break s else after_step o s a).bus.bus.board
unfolding devices_reset
step_keeps true o s a = record { script = refl; closed = refl; shots = refl; finished = refl }
step_keeps false None s a = all_kept
step_keeps false (Some c) s a = access_keeps c s.bus.bus

-- ---- tick by tick

-- Before tick `k`, the finished frame is the last one for each later tick. The shots below `k` have
-- their frames.
record Holds (script : List Event) (k : ℕ) (frames : Frames) (m : Moving) : Type 0 where
  pub finished : (t : ℕ) → k ≤ t → last_before t black frames ≡ m.devices.video.finished
  pub shots : m.shots ≡ map (λ t. last_before t black frames) (shot_ticks k script)

module _ (finish : FramesFinish) (script : List Event) (order : NeverFallsFrom 0 script) where
  one_tick : (a : Around) {k : ℕ} {frames : Frames} {m : Moving} → a.script ≡ script → Holds script k frames m → Holds script (k + 1) (frames ++ in_tick a k m) (tick a k m)
  unfolding last_frame
  one_tick a {k} {frames} {m} is holds =
      let new : Frames = in_tick a k m in
      let frame : List ℕ = m.devices.video.finished in
      let f : ℕ → List ℕ = λ t. last_before t black (frames ++ new) in
      let g : ℕ → List ℕ = λ t. last_before t black frames in
      let early : (t : ℕ) → t ≤ k → f t ≡ g t = λ t low. joins t black frames new ∙ tick_early _ a m.devices low in
      let here : f k ≡ frame = early k (omega arith) ∙ holds.finished k (omega arith) in
      record {
        finished = λ t late.
            joins t black frames new ∙ ap (λ x. last_before t x new) (holds.finished t (omega (arith, late)))
            ∙ beat_later finish (k % micro a.clock == 0) a t k m.devices (omega (arith, late));
        shots =
            ap (λ (e : List Event). m.shots ++ replicate (shots_at k e) frame) is
            ∙ ap (λ xs. xs ++ replicate (shots_at k script) frame) (holds.shots ∙ sym (all_same f g k (λ t low. early t (omega (arith, low))) script))
            ∙ ap (λ xs. map f (shot_ticks k script) ++ xs) (ap (λ x. replicate (shots_at k script) x) (sym here) ∙ sym (map_same f (shots_at k script) k))
            ∙ sym (map-append f (shot_ticks k script) (replicate (shots_at k script) k))
            ∙ ap (map f) (sym (one_more_tick k 0 script order));
      }

  all_ticks : (n : ℕ) (a : Around) {k : ℕ} {frames : Frames} {m : Moving} → a.script ≡ script → Holds script k frames m →
      Holds script (k + n) (frames ++ in_ticks a n k m) (ticks a n k m)
  all_ticks zero a {k} {frames} {m} is holds =
      let none : k ≡ k + 0 = omega arith in
      rw none at (subst (λ xs. Holds script k xs m) (sym (append-nil frames)) holds)
  all_ticks (suc n) a {k} {frames} {m} is holds =
      let sum : (k + 1) + n ≡ k + suc n = omega arith in
      rw sum at (subst (λ xs. Holds script ((k + 1) + n) xs (ticks a n (k + 1) (tick a k m))) (append_assoc frames (in_tick a k m) (in_ticks a n (k + 1) (tick a k m)))
      (all_ticks n a is (one_tick a is holds)))

  -- the same of a board
  record HoldsOn (frames : Frames) (b : BoardState) : Type 0 where
    pub script_is : b.script ≡ script
    pub at_closed : Holds script b.closed frames (moving_part b)

  closing : {frames : Frames} {b : BoardState} (t : ℕ) → HoldsOn frames b → HoldsOn (frames ++ in_closing b t) (board_closed b t)
  closing {frames} {b} t holds =
      let there : b.closed + (t - b.closed) ≡ max t b.closed = omega arith in
      record {
        script_is = holds.script_is;
        at_closed = subst (λ j. Holds script j (frames ++ in_closing b t) (ticks (around b) (t - b.closed) b.closed (moving_part b))) there
            (all_ticks (t - b.closed) (around b) holds.script_is holds.at_closed);
      }

  kept : (frames : Frames) (b x : BoardState) → Keeps b x → HoldsOn frames b → HoldsOn frames x
  kept frames b x keeps holds = record {
    script_is = keeps.script ∙ holds.script_is;
    at_closed = record {
      finished = λ t late. holds.at_closed.finished t (rw keeps.closed at late) ∙ sym keeps.finished;
      shots = keeps.shots ∙ holds.at_closed.shots ∙ ap (λ k. map (λ t. last_before t black frames) (shot_ticks k script)) (sym keeps.closed);
    };
  }

  all_steps : (answers : List (Option Answer)) (s : HostState) (n : ℕ) (frames : Frames) → HoldsOn frames s.bus.bus.board →
      HoldsOn (frames ++ finished_in answers s n) (host_closed (run answers s) n).bus.bus.board
  all_steps [] s n frames holds = closing n holds
  all_steps (a ∷ answers) s n frames holds =
      let new : Frames = in_closing s.bus.bus.board (s.due + 1) in
      rw (append_assoc frames new (finished_in answers (next_state s a) n)) at (all_steps answers (next_state s a) n (frames ++ new)
      (kept (frames ++ new) (board_closed s.bus.bus.board (s.due + 1)) (next_state s a).bus.bus.board
      (step_keeps (is_break s) (next_cycle s.cpu) (host_closed s (s.due + 1)) a) (closing (s.due + 1) holds)))

  at_first : (clock : Clock) (roms : Roms) (d0 d1 : Option Image) → HoldsOn [] (first_board clock roms d0 d1 script)
  unfolding first_devices
  at_first clock roms d0 d1 = record {
    script_is = refl;
    at_closed = record { finished = λ t late. refl; shots = ap (map (λ (t : ℕ). last_before t black [])) (sym (none_below script (omega arith) order)) };
  }

pub shots_are_finished : FramesFinish → ShotsAreFinished
shots_are_finished finish clock roms d0 d1 script plugs tube answers n order =
    (all_steps finish script order answers (with_tube tube (power_on clock roms d0 d1 script plugs)) n [] (at_first finish script order clock roms d0 d1)).at_closed.shots
