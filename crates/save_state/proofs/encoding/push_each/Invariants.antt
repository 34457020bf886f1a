use Rattle.std.proofs.Common.{◌≡◌, ◌++◌, take}
use Rattle.std.specs.List.{flat_map}
use Rattle.save_state.specs.Parts.{part_bytes}
use Rattle.save_state.proofs.encoding.push_each.Given as goal

abbrev pub invariant-loop-part : goal.invariant-loop-part
invariant-loop-part l = l.file.items ≡ l.fn.file.items ++ flat_map part_bytes (take l.part-index l.parts)
