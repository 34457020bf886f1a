-- The command that words spell, and its ending.
use Rattle.std.specs.Prelude.{List, Option, Some, None, IsSomeAnd, map, string_bytes, if◌then◌else◌}
use Rattle.std.specs.declared.string.String.{String}
use Rattle.std.specs.declared.alloc.Global.{Global}
use Rattle.cmd_stages.specs.Promise.{World, CarriesOut}
use Rattle.cmd_words.specs.Command.{Command, is_paired}
use Rattle.cmd_words.specs.Words.{command}
use Rattle.cmd_status.specs.declared.status.Status.{Status}
use Rattle.cmd_status.specs.Status.{end_of}
use Rattle.bus_plug.specs.Plug.{Plug}
use Rattle.cmd_top.specs.Plans.{plan}

-- the command that the words spell
abbrev pub command_of_words : List (String Global) → Option Command
command_of_words words = command (map string_bytes words)

-- a command, if it needs no crew
abbrev pub if_unpaired : Option Command → Option Command
if_unpaired None = None
if_unpaired (Some c) = if is_paired c then None else Some c

-- the command was carried out with the given devices, and has the given status
unfoldable pub EndsWith : List Plug → Command → World → World → Status → Type 0
EndsWith plugs c old new status = IsSomeAnd (end_of status) (λ end. CarriesOut (plan plugs c) old new end)
