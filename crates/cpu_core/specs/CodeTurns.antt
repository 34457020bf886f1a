-- The state after a turn.
use Rattle.cpu_core.specs.State.{State}
use Rattle.cpu_core.specs.Sequences.{after_byte, fresh}
use Rattle.cpu_core.specs.declared.trail.Turn.{Turn}
use Rattle.cpu_core.specs.declared.trail.Turn.TheVariants.{Begins, Given, Rests}

abbrev pub after_turn : State → Turn → State
after_turn s (Begins sequence regs) = fresh sequence regs
after_turn s (Given part byte) = after_byte part s byte
after_turn s Rests = s
