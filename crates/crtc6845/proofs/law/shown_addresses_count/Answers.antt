use Rattle.crtc6845.proofs.ShownAddresses.{addresses_count}
use Rattle.crtc6845.proofs.law.shown_addresses_count.Goals as goal

pub returns : goal.returns
returns c = addresses_count
