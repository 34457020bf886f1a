use Rattle.std.proofs.Common.{◌≡◌, refl, ◌<◌, ◌+◌, arith, length, take}
use Rattle.std.proofs.lemmas.List.{length-take}
use Rattle.tube_trace.specs.Entries.{accesses}
use Rattle.cmd_ended.proofs.KeptLemmas.{counted, few_counted, first_of}
use Rattle.cmd_ended.proofs.kept.ended.Goals as goal

pub overflow_add-tube : goal.overflow_add-tube
overflow_add-tube g c =
    let few : c.args.done.host_count + c.args.done.para_count < 18446744073709551616 =
    few_counted (c.args.n).0 c.requires.kept.0 c.args.done.host_count c.args.done.para_count c.requires.ticks c.requires.kept.1.trace
    c.requires.kept.1.host_kept.count_is c.requires.kept.1.para_kept.count_is in
    omega (arith, few)

pub saved_in-requires-clause-first : goal.saved_in-requires-clause-first
saved_in-requires-clause-first g c =
    (c.requires.kept.0, first_of (c.args.n).0 c.requires.kept.0 c.args.keep c.args.done _ _ c.requires.kept.1 c.deref-3.ensures.value c.deref-4.ensures.value)

pub returns-clause-files : goal.returns-clause-files
returns-clause-files g c = λ list kept.
    let tube = counted list c.args.done.host_count c.args.done.para_count kept.host_kept.count_is kept.para_kept.count_is in
    let count : c.min-count.result ≡ length (take c.args.keep (accesses list)) = omega (arith, c.min-count.ensures, c.from.ensures, tube, length-take c.args.keep (accesses list)) in
    let trace = c.in_ok-trace.ensures (c.args.n).0 list (first_of (c.args.n).0 list c.args.keep c.args.done _ _ kept c.deref.ensures.value c.deref-2.ensures.value) in
    record {
      tube_is = tube;
      kept_is = rw (count, trace) refl;
      saved_is = c.in_ok-saved.ensures list (first_of (c.args.n).0 list c.args.keep c.args.done _ _ kept c.deref-3.ensures.value c.deref-4.ensures.value) tube;
    }
