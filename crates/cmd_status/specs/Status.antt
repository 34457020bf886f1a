-- The number and the text of a status.
use Rattle.std.specs.Prelude.{ℕ, List, [], ◌++◌, Option, Some, None, Result, Ok, Err, codes}
use Rattle.std.specs.Fmt.{decimal}
use Rattle.cmd_status.specs.declared.status.Status.{Status}
use Rattle.cmd_status.specs.declared.status.Status.TheVariants.{Done, Usage, ReadFault, TooLong, BadImage, BadScript, BadPoints, BadTrace}
use Rattle.cmd_status.specs.declared.status.Status.TheVariants.{BadSource, BadState, WriteFault, NoThread, NoMemory, Wrong, Differs}
use Rattle.cmd_status.specs.declared.status.Ending.{Ending}
use Rattle.cmd_status.specs.declared.status.Ending.TheVariants as endings
use Rattle.cmd_status.specs.declared.status.Cause.{Cause}
use Rattle.cmd_status.specs.declared.status.Cause.TheVariants as causes
use Rattle.cmd_stages.specs.declared.stop.Stop.{Stop}
use Rattle.cmd_stages.specs.declared.stop.Stop.TheVariants as stops
use Rattle.cmd_status.specs.declared.status.Which.{Which}
use Rattle.cmd_status.specs.declared.status.Which.TheVariants.{Os, Tube, Rom, Font, Disc, Image}

abbrev pub number : Status → ℕ
number Done = 0
number Usage = 1
number (ReadFault name) = 2
number (TooLong name) = 2
number (BadImage which len) = 3
number (BadScript line kind) = 4
number (BadPoints line kind) = 4
number (BadTrace line kind) = 4
number (BadSource line kind) = 4
number (BadState at) = 4
number (WriteFault name) = 5
number NoThread = 6
number NoMemory = 7
number (Wrong line byte) = 8
number (Differs line doing) = 8

-- the printed name of an image
abbrev pub which_text : Which → List ℕ
which_text Os = codes "os"
which_text Tube = codes "tube"
which_text (Rom slot) = codes "rom" ++ decimal slot
which_text Font = codes "font"
which_text (Disc drive) = codes "disc" ++ decimal drive
which_text Image = codes "image"

abbrev pub text : Status → List ℕ
text Done = []
text Usage = codes "usage"
text (ReadFault name) = codes "cannot read " ++ name
text (TooLong name) = codes "too long " ++ name
text (BadImage which len) = codes "bad image " ++ which_text which ++ codes " " ++ decimal len
text (BadScript line kind) = codes "bad script " ++ decimal line
text (BadPoints line kind) = codes "bad points " ++ decimal line
text (BadTrace line kind) = codes "bad trace " ++ decimal line
text (BadSource line kind) = codes "bad source " ++ decimal line
text (BadState at) = codes "bad state " ++ decimal at
text (WriteFault name) = codes "cannot write " ++ name
text NoThread = codes "no thread"
text NoMemory = codes "no memory"
text (Wrong line byte) = []
text (Differs line doing) = []

-- The result of the command that has this status. `Usage` is the status of no command.
abbrev pub end_of : Status → Option (Result Ending (Stop Cause))
end_of Done = Some (Ok endings.Done)
end_of Usage = None
end_of (ReadFault name) = Some (Err (stops.ReadFault name))
end_of (TooLong name) = Some (Err (stops.TooLong name))
end_of (BadImage which len) = Some (Err (stops.Refused (causes.BadImage which len)))
end_of (BadScript line kind) = Some (Err (stops.Refused (causes.BadScript line kind)))
end_of (BadPoints line kind) = Some (Err (stops.Refused (causes.BadPoints line kind)))
end_of (BadTrace line kind) = Some (Err (stops.Refused (causes.BadTrace line kind)))
end_of (BadSource line kind) = Some (Err (stops.Refused (causes.BadSource line kind)))
end_of (BadState at) = Some (Err (stops.Refused (causes.BadState at)))
end_of (WriteFault name) = Some (Err (stops.WriteFault name))
end_of NoThread = Some (Err stops.NoThread)
end_of NoMemory = Some (Err stops.NoMemory)
end_of (Wrong line byte) = Some (Ok (endings.Wrong line byte))
end_of (Differs line doing) = Some (Ok (endings.Differs line doing))
