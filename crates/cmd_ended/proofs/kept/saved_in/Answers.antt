use Rattle.std.proofs.Common.{◌≡◌, refl, take}
use Rattle.tube_trace.specs.Entries.{accesses}
use Rattle.cmd_ended.proofs.SaveLemmas.{take_trace, take_few}
use Rattle.cmd_ended.proofs.kept.saved_in.Goals as goal

pub session_file-requires-clause-few : goal.session_file-requires-clause-few
session_file-requires-clause-few c =
    take_few c.args.keep 4194304 (accesses c.requires.first.0) c.in_ok-kept.kept.items (c.in_ok-kept.ensures (c.args.n).0 c.requires.first.0 c.requires.first.1) c.requires.keep

pub session_file-requires-clause-trace : goal.session_file-requires-clause-trace
session_file-requires-clause-trace c =
    take_trace c.args.keep (c.args.n).0 (accesses c.requires.first.0) c.in_ok-kept.kept.items
    (c.in_ok-kept.ensures (c.args.n).0 c.requires.first.0 c.requires.first.1) c.requires.first.1.trace

pub returns : goal.returns
returns c = λ list first tube.
    let kept : c.in_ok-kept.kept.items ≡ take c.args.keep (accesses list) = c.in_ok-kept.ensures (c.args.n).0 list first in
    rw (c.in-Some.is, c.in_ok-file.ensures, c.from.ensures, kept, tube) refl
