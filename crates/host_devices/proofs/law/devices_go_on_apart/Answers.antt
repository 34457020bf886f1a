use Rattle.host_devices.proofs.Steady.{apart}
use Rattle.host_devices.proofs.law.devices_go_on_apart.Goals as goal

pub returns : goal.returns
returns c = apart c.sync_stays_on.ensures
