use Rattle.std.proofs.Common.{rules, ◌≡◌, ◌∙◌, sym, inr, min, length, ◌<◌, [], ◌∷◌, ◌++◌}
use Rattle.std.proofs.lemmas.List.Elements.{All-push}
use Rattle.tube_trace.specs.Entries.{IsEntry}
use Rattle.tube_trace.specs.Trace.{lines_read}
use Rattle.tube_trace.proofs.TextLemmas.{read_more, read_bad_line, read_bad_order, take_least, drop_least}
use Rattle.tube_trace.proofs.reading.read_lines.Goals as goal

pub returns-in_default-entry_of-clause-value : goal.returns-in_default-entry_of-clause-value
unfolding lines_read
returns-in_default-entry_of-clause-value c =
    let least : c.min.result ≡ min (length c.loop-rest.rest.now) 20 = search rules in
    let front = take_least c.loop-rest.rest.now (rw least at c.split_at.ensures.front) in
    let lines : c.len.result ≡ length c.loop-rest.entries.items = search rules in
    let some : 0 < length c.loop-rest.rest.now = search rules in
    inr (rw lines (read_bad_line c.loop-rest.invariant.so_far some (rw (← front) (sym c.in_default-entry_of.ensures.value))))

pub returns-then-not-follows-clause-value : goal.returns-then-not-follows-clause-value
unfolding lines_read
returns-then-not-follows-clause-value c =
    let least : c.min.result ≡ min (length c.loop-rest.rest.now) 20 = search rules in
    let front = take_least c.loop-rest.rest.now (rw least at c.split_at.ensures.front) in
    let lines : c.len.result ≡ length c.loop-rest.entries.items = search rules in
    inr (rw lines (read_bad_order c.loop-rest.invariant.so_far (rw (← front) (sym c.in-Some.ensures.value)) (sym c.follows.ensures ∙ c.if-not-follows.true)))

pub loop-rest-preserved : goal.loop-rest-preserved
loop-rest-preserved c =
    let least : c.min.result ≡ min (length c.loop-rest.rest.now) 20 = search rules in
    let front = take_least c.loop-rest.rest.now (rw least at c.split_at.ensures.front) in
    let back = drop_least c.loop-rest.rest.now (rw least at c.split_at.ensures.back) in
    let pushed : c.push.new.self.items ≡ c.loop-rest.entries.items ++ c.in-Some.entry ∷ [] = search rules in
    record {
      so_far = rw (pushed, back) (read_more c.loop-rest.invariant.so_far (rw (← front) (sym c.in-Some.ensures.value)) (sym c.follows.ensures ∙ c.if-not-follows.false));
      entries = rw pushed (All-push IsEntry c.loop-rest.entries.items c.in-Some.entry c.loop-rest.invariant.entries c.in-Some.ensures.may);
    }
