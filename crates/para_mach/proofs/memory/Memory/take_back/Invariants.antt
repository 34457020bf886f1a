use Rattle.std.proofs.Common.{◌≡◌}
use Rattle.para_mach.specs.CodeNotes.{put_back}
use Rattle.para_mach.proofs.memory.Memory.take_back.Given as goal

-- the bytes that are left put back
abbrev pub invariant-loop-stood : goal.invariant-loop-stood
invariant-loop-stood l = record l.self { ram = put_back l.undo_log.stood.items l.self.ram } ≡ record l.initial.self { ram = put_back l.initial.undo_log.stood.items l.initial.self.ram }

abbrev pub decreases-loop-stood : goal.decreases-loop-stood
decreases-loop-stood l = goal.left-loop-stood l
