-- The files that each command reads, and its verdict. A new command gets a line in `after`.
use Rattle.std.specs.Prelude.{List, None, Result}
use Rattle.cmd_stages.specs.Plan.{Verdict, Plan}
use Rattle.cmd_stages.specs.declared.stop.Refusal.{Refusal}
use Rattle.cmd_words.specs.declared.keys.InputKind.{InputKind}
use Rattle.cmd_words.specs.Command.{Command, check, asm, dis, replay, solo, run, resume, follow, gen, is_paired}
use Rattle.cmd_words.specs.Given.{Values, at_of, counts_of, from_of, watch_of}
use Rattle.cmd_words.specs.Reads.{reads}
use Rattle.follow.specs.declared.Choice.{Choice}
use Rattle.cmd_status.specs.declared.status.Ending.{Ending}
use Rattle.cmd_status.specs.declared.status.Cause.{Cause}
use Rattle.cmd_machines.specs.Inputs.{Inputs, inputs_of}
use Rattle.cmd_machines.specs.Setup.{setup_of}
use Rattle.cmd_outcome.specs.Names.{names_of}
use Rattle.cmd_tools.specs.Check.{check_after}
use Rattle.cmd_tools.specs.Asm.{asm_after, dis_after}
use Rattle.cmd_replay.specs.Replay.{replay_after}
use Rattle.cmd_pair.specs.Solo.{solo_after}
use Rattle.cmd_pair.specs.Gen.{gen_after}
use Rattle.cmd_session.specs.Session.{session_after}
use Rattle.cmd_follow.specs.Follow.{follow_after}
use Rattle.bus_plug.specs.Plug.{Plug}

-- the choice of the instructions to list, without the addresses of a file, and of counting them
abbrev pub choice_of : Values → Choice
choice_of given = record { from = from_of given; at = at_of given; points = None; watch = watch_of given; counts = counts_of given }

-- the verdict of a command on what it read, with the given devices
abbrev pub after : List Plug → Command → Inputs → Result (Verdict Ending) (Refusal Cause)
after plugs (check trace) i = check_after i.trace
after plugs (asm part source out) i = asm_after part out i.source
after plugs (dis part image origin out) i = dis_after part origin out i.image
after plugs (replay side trace ticks out given) i = replay_after (setup_of given plugs) side ticks (names_of out given) i
after plugs (solo ticks out keep given) i = solo_after (setup_of given plugs) ticks keep (names_of out given) i
-- the two threads of `run` have the verdict of one thread
after plugs (run ticks out keep given) i = solo_after (setup_of given plugs) ticks keep (names_of out given) i
after plugs (resume state ticks out keep given) i = session_after plugs ticks keep (names_of out given) i
after plugs (follow side trace ticks out given) i = follow_after (setup_of given plugs) side ticks (choice_of given) out i
after plugs (gen seed) i = gen_after seed

abbrev pub plan : List Plug → Command → Plan InputKind Ending Cause
plan plugs c = record { reads = reads c; paired = is_paired c; after = λ list. after plugs c (inputs_of list) }
