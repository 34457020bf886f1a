use Rattle.std.proofs.Common.{◌≡◌, ◌++◌, take, length}
use Rattle.std.specs.List.{flat_map}
use Rattle.std.specs.Int.{w32, to_be_bytes}
use Rattle.save_state.specs.Entries.{entry_bytes}
use Rattle.save_state.proofs.encoding.push_list.Given as goal

abbrev pub invariant-loop-entry : goal.invariant-loop-entry
invariant-loop-entry l =
    l.file.items ≡ (l.fn.file.items ++ to_be_bytes w32 (length l.entries)) ++ flat_map entry_bytes (take l.entry-index l.entries)
