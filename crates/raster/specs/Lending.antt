-- The two chips that the raster lends. The caller may change the chip, and the rest of the raster
-- stays.
use Rattle.std.specs.Borrow.{Lends, MutBor, Fml}
use Rattle.crtc6845.specs.State.{State as CrtcState}
use Rattle.crtc6845.specs.contracts.crtc.Crtc.{the_row as crtc_row}
use Rattle.video_ula.specs.State.{State as UlaState}
use Rattle.video_ula.specs.contracts.ula.Ula.{the_row as ula_row}
use Rattle.raster.specs.State.{State}
use Rattle.raster.specs.contracts.raster.Raster.{the_row}

abbrev pub with_crtc : State → CrtcState → State
with_crtc s chip = record s { crtc = chip }

abbrev pub with_ula : State → UlaState → State
with_ula s chip = record s { ula = chip }

abbrev pub LendsCrtc : MutBor State → MutBor CrtcState → Fml
LendsCrtc s r = Lends the_row crtc_row s r (with_crtc s.now)

abbrev pub LendsUla : MutBor State → MutBor UlaState → Fml
LendsUla s r = Lends the_row ula_row s r (with_ula s.now)
