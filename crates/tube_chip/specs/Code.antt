-- The flags of the code as those of the definitions.
use Rattle.tube_chip.specs.declared.flags.Flags as code
use Rattle.tube_chip.specs.State.{Flags}

abbrev pub flags_of : code.Flags → Flags
flags_of f = record { p = f.p; v = f.v; m = f.m; j = f.j; i = f.i; q = f.q }
