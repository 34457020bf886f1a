-- A byte written to the RAM changes no line to the processor, now or later. Only the picture reads
-- the RAM. The other devices see only its vertical sync, which the 6845 makes by itself.
use Rattle.std.specs.Prelude.{ℕ, zero, suc, ◌≡◌, ◌+◌, ◌-◌, ◌%◌, ◌==◌, Bool, true, false, refl, List, slice_set, if◌then◌else◌}
use Rattle.std.proofs.Common.{ap, sym, ◌∙◌, arith}
use Rattle.beeb_bits.specs.Bits.{bit}
use Rattle.beeb_bits.specs.Clock.{micro}
use Rattle.crtc6845.specs.State as crtc
use Rattle.crtc6845.specs.Clock.{clock_leaves, is_in_sync}
use Rattle.video_ula.specs.State as ula
use Rattle.saa5050.specs.Shapes.{Font}
use Rattle.raster.specs.State as picture
use Rattle.raster.specs.Clock as beam
use Rattle.wd1770.specs.Step as turn
use Rattle.adc7002.specs.Registers as converter
use Rattle.adc7002.specs.Step as conversion
use Rattle.via6522.specs.Step.{step}
use Rattle.keyboard.specs.Keys.{Keys}
use Rattle.host_devices.specs.Devices.{Devices, keys_at, levels_at, system_pins, user_pins, raster_after, microsecond, devices_ask}
use Rattle.host_bus.specs.Board.{BoardState, Around, Moving, around, moving_part, tick, ticks, board_closed, board_irq, board_nmis}

-- the part of a picture that is not drawn: the 6845 and the ULA
abbrev chips : picture.State → crtc.State × ula.State
chips s = (s.crtc, s.ula)

show-chips : (shown cell : Bool) (x y s : picture.State) → chips x ≡ chips s → chips y ≡ chips s → chips (if shown then (if cell then x else y) else s) ≡ chips s
show-chips true true x y s a b = a
show-chips true false x y s a b = b
show-chips false cell x y s a b = refl

-- a character clock later
abbrev clocked : crtc.State × ula.State → crtc.State × ula.State
clocked c = (clock_leaves c.0, c.1)

char-chips : (ram : List ℕ) (size : ℕ) (font : Font) (s : picture.State) → chips (beam.char_clock_leaves ram size font s) ≡ clocked (chips s)
unfolding beam.char_clock_leaves
char-chips ram size font s = show-chips _ _ _ _ _ refl refl

-- and a microsecond later
abbrev after : crtc.State × ula.State → crtc.State × ula.State
after c = if bit c.1.control 4 then clocked (clocked c) else clocked c

picture-chips : (ram : List ℕ) (size : ℕ) (font : Font) (s : picture.State) → chips (beam.microsecond ram size font s) ≡ after (chips s)
picture-chips ram size font s = grind (arith, char-chips)

-- Devices that differ only in the drawn part.
record IsLike (d e : Devices) : Type 0 where
  pub chips_too : chips d.video ≡ chips e.video
  pub rest : d ≡ record e { video = d.video }

-- a microsecond, by the picture after it and by vertical sync
abbrev pub stepped : picture.State → Bool → Keys → List ℕ → Devices → Devices
stepped v sync keys levels d = record d {
  video = v;
  disc = turn.step d.disc;
  converter = conversion.step levels d.converter;
  system = step (system_pins sync (converter.cb1 (conversion.step levels d.converter)) keys d) d.system;
  user = step user_pins d.user;
}

module _ (ram : List ℕ) where
  like-by : (due : Bool) (a : Around) (keys : Keys) (levels : List ℕ) (d e : Devices) → IsLike d e →
      IsLike (if due then microsecond ram a.font keys levels d else d) (if due then microsecond a.ram a.font keys levels e else e)
  unfolding microsecond
  like-by true a keys levels d e like =
      let v : picture.State = raster_after ram a.font d in
      let same : chips v ≡ chips (raster_after a.ram a.font e) =
      picture-chips _ _ _ _ ∙ ap after like.chips_too ∙ sym (picture-chips _ _ _ _) in
      record {
        chips_too = same;
        rest = ap (λ (y : Devices). stepped v (beam.vsync_of v) keys levels y) like.rest ∙ ap (λ (c : crtc.State × ula.State). stepped v (is_in_sync c.0) keys levels e) same;
      }
  like-by false a keys levels d e like = like

  like-ticks : (a : Around) (n k : ℕ) (m o : Moving) → IsLike m.devices o.devices → IsLike (ticks (record a { ram = ram }) n k m).devices (ticks a n k o).devices
  like-ticks a zero k m o like = like
  like-ticks a (suc n) k m o like =
      like-ticks a n (k + 1) (tick (record a { ram = ram }) k m) (tick a k o)
      (like-by (k % micro a.clock == 0) a (keys_at k a.script) (levels_at k a.script) m.devices o.devices like)

like-stored : (b : BoardState) (at v u : ℕ) → IsLike (board_closed (record b { ram = slice_set b.ram at v }) u).devices (board_closed b u).devices
like-stored b at v u = like-ticks (slice_set b.ram at v) (around b) (u - b.closed) b.closed (moving_part b) (moving_part b) (record { chips_too = refl; rest = refl })

pub irq-stored : (b : BoardState) (at v u : ℕ) → board_irq (board_closed (record b { ram = slice_set b.ram at v }) u) ≡ board_irq (board_closed b u)
unfolding devices_ask
irq-stored b at v u = ap (λ (d : Devices). devices_ask d) (like-stored b at v u).rest

pub nmis-stored : (b : BoardState) (at v u : ℕ) → board_nmis (board_closed (record b { ram = slice_set b.ram at v }) u) ≡ board_nmis (board_closed b u)
nmis-stored b at v u = ap (λ (d : Devices). d.disc.nmis) (like-stored b at v u).rest
