use Rattle.std.proofs.Common.{arith}
use Rattle.video_ula.proofs.Rows.{sixteen_are}
use Rattle.video_ula.proofs.ready.both.Goals as goal

pub returns-clause-dots : goal.returns-clause-dots
returns-clause-dots c = sixteen_are c.args.first c.args.last (omega arith) (omega arith)
