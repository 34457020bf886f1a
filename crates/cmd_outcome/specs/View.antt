-- The program's values, as the definitions see them.
use Rattle.std.specs.Prelude.{ℕ, List, option_map, option_copied}
use Rattle.std.specs.declared.vec.Vec.{Vec}
use Rattle.std.specs.declared.alloc.Global.{Global}
use Rattle.bus_plug.specs.Plug.{Plug}
use Rattle.host_mach.specs.View.{host_stepped}
use Rattle.cmd_stages.specs.Plan.{Verdict}
use Rattle.cmd_stages.specs.declared.outcome.Outcome.{Outcome}
use Rattle.cmd_stages.specs.View as stages
use Rattle.cmd_status.specs.declared.status.Ending.{Ending}
use Rattle.cmd_outcome.specs.declared.names.Names.{Names}
use Rattle.cmd_outcome.specs.declared.left.Kept.{Kept}
use Rattle.cmd_outcome.specs.declared.left.Left.{Left}
use Rattle.cmd_outcome.specs.declared.output.Output.{Output}
use Rattle.cmd_outcome.specs.Names as names
use Rattle.cmd_outcome.specs.Left as lefts
use Rattle.cmd_outcome.specs.Files.{file_of}

abbrev pub items : Vec ℕ Global → List ℕ
items v = v.items

abbrev pub names_seen : Names → names.Names
names_seen n = record { out = n.out.now; wav = option_copied n.wav; save = option_copied n.save }

abbrev pub kept_seen : Kept → lefts.Kept
kept_seen k = record { count = k.count; trace = k.trace.items }

-- the final state of a command; plug gives the view of a plugged device, and the host's devices are
-- at the step that they have reached
abbrev pub left_seen : {D : Type 0} → (D → Plug) → Left D → lefts.Left
left_seen plug l = record {
  names = names_seen l.names;
  clock = l.clock;
  ticks = l.ticks.0;
  tube = l.tube;
  host = option_map (host_stepped plug) l.host;
  para = l.para;
  kept = option_map kept_seen l.kept;
  saved = option_map items l.saved;
  counts = option_map items l.counts;
  bytes = l.bytes.items;
}

-- the verdict of a command's outcome; plug gives the view of a plugged device
abbrev pub verdict_of : {D : Type 0} → (D → Plug) → Outcome Ending Output (Left D) → Verdict Ending
verdict_of plug o = stages.verdict_of (λ l. file_of (left_seen plug l)) o
