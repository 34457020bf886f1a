use Rattle.cpu_core.proofs.Entry.{goes_on, apart}
use Rattle.cpu_core.proofs.progress.Progress.begin.Goals as goal

pub decode_spare-requires-clause-way : goal.decode_spare-requires-clause-way
decode_spare-requires-clause-way c = (apart _ c.args.self.now _ _ c.requires.row c.start_at-start.ensures c.in-Opcode.is).0

pub decode_spare-requires-clause-spare : goal.decode_spare-requires-clause-spare
decode_spare-requires-clause-spare c = (apart _ c.args.self.now _ _ c.requires.row c.start_at-start.ensures c.in-Opcode.is).1

pub returns-in_default : goal.returns-in_default
returns-in_default c = rw c.leave_opcode.ensures (goes_on c.ranges.op.fits c.requires.phase c.requires.row c.start_at-start.ensures c.in_default.not-Opcode)
