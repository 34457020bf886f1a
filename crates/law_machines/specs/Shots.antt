-- The frame of a shot, over whole runs of the host: the last of those that were finished before its
-- tick, or a black one. (6845 data sheet, Vertical Timing: vertical sync finishes a frame. The
-- shots of a script are this project's own.)
use Rattle.std.specs.Prelude.{ℕ, zero, suc, ◌+◌, ◌-◌, ◌%◌, ◌==◌, ◌&&◌, ◌≡◌, nat_lt, Bool, List, [], ◌∷◌, ◌++◌, map, Option, if◌then◌else◌}
use Rattle.beeb_bits.specs.declared.clock.Clock.{Clock}
use Rattle.beeb_bits.specs.Clock.{micro}
use Rattle.beeb_bits.specs.Bits.{bit}
use Rattle.crtc6845.specs.Clock.{beam_of}
use Rattle.saa5050.specs.Shapes.{Font}
use Rattle.raster.specs.Frame.{black}
use Rattle.raster.specs.State as picture
use Rattle.raster.specs.Clock.{char_clock_leaves}
use Rattle.keyboard.specs.Latch.{screen_size}
use Rattle.key_script.specs.declared.Event.{Event}
use Rattle.key_script.specs.Events.{tick_of, is_shot, NeverFallsFrom}
use Rattle.bus_plug.specs.Plug.{Plug}
use Rattle.rom_set.specs.Roms.{Roms}
use Rattle.disc_image.specs.Image.{Image}
use Rattle.tube_chip.specs.declared.Answer.{Answer}
use Rattle.host_bus.specs.Board.{BoardState, Around, Moving, around, moving_part, tick}
use Rattle.host_mach.specs.State.{HostState, power_on, with_tube}
use Rattle.host_mach.specs.Step.{host_closed, next_state}
use Rattle.law_machines.specs.HostTicks.{run}

-- The frame that is finished in a character clock, if one is, with the tick of the microsecond.
abbrev pub in_clock : ℕ → picture.State → List (ℕ × List ℕ)
in_clock k s = if (beam_of s.crtc).frame_end then (k, s.working) ∷ [] else []

-- in the one or two character clocks of a microsecond
abbrev pub in_microsecond : ℕ → List ℕ → ℕ → Font → picture.State → List (ℕ × List ℕ)
in_microsecond k ram size font s = if bit s.ula.control 4 then in_clock k s ++ in_clock k (char_clock_leaves ram size font s) else in_clock k s

-- at tick `k`, if it has a microsecond
abbrev pub in_tick : Around → ℕ → Moving → List (ℕ × List ℕ)
in_tick a k m =
    if k % micro a.clock == 0 then in_microsecond k a.ram (screen_size m.devices.latch) a.font m.devices.video else []

-- in `n` ticks from tick `k` on
abbrev pub in_ticks : Around → ℕ → ℕ → Moving → List (ℕ × List ℕ)
in_ticks a zero k m = []
in_ticks a (suc n) k m = in_tick a k m ++ in_ticks a n (k + 1) (tick a k m)

-- in the ticks below `t` that are not done yet
abbrev pub in_closing : BoardState → ℕ → List (ℕ × List ℕ)
in_closing b t = in_ticks (around b) (t - b.closed) b.closed (moving_part b)

-- The frames that are finished in a run, in their order: in its steps, each up to its tick, and
-- then below tick `n`.
abbrev pub finished_in : List (Option Answer) → HostState → ℕ → List (ℕ × List ℕ)
finished_in [] s n = in_closing s.bus.bus.board n
finished_in (a ∷ answers) s n = in_closing s.bus.bus.board (s.due + 1) ++ finished_in answers (next_state s a) n

-- the last of them that was finished before tick `t`, or `frame` if there is none
abbrev pub last_before : ℕ → List ℕ → List (ℕ × List ℕ) → List ℕ
last_before t frame [] = frame
last_before t frame (f ∷ frames) = last_before t (if nat_lt f.0 t then f.1 else frame) frames

-- the ticks below `n` of a script's shots, in their order
abbrev pub shot_ticks : ℕ → List Event → List ℕ
shot_ticks n [] = []
shot_ticks n (e ∷ events) = if is_shot e && nat_lt (tick_of e) n then tick_of e ∷ shot_ticks n events else shot_ticks n events

-- From power-on, with a Tube or without, after any steps, and closed at any tick: the frames that
-- were taken are those of the script's shots below this tick. Each is the last one finished before
-- the shot's tick.
abbrev pub ShotsAreFinished : Type 0
ShotsAreFinished =
    (clock : Clock) (roms : Roms) (d0 d1 : Option Image) (script : List Event) (plugs : List Plug) (tube : Bool) (answers : List (Option Answer)) (n : ℕ) →
    NeverFallsFrom 0 script →
    let s : HostState = with_tube tube (power_on clock roms d0 d1 script plugs) in
    let last : BoardState = (host_closed (run answers s) n).bus.bus.board in
    last.shots ≡ map (λ t. last_before t black (finished_in answers s n)) (shot_ticks last.closed script)
