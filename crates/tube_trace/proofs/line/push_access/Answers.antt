use Rattle.std.proofs.Common.{◌≡◌, rules, take}
use Rattle.tube_trace.specs.Text.{access_text, asked_byte}
use Rattle.tube_trace.proofs.WrittenLemmas.{without_feed}
use Rattle.tube_trace.proofs.line.push_access.Goals as goal

pub returns-clause-ok : goal.returns-clause-ok
unfolding access_text
returns-clause-ok c =
    let text : take 19 c.line_of-line.result ≡ access_text c.args.tick.0 c.args.side c.args.op (asked_byte c.args.op) =
    rw (c.line_of-line.ensures, c.asked_byte.ensures, c.parts_of-letter.ensures.letter, c.parts_of-letter.ensures.number) (without_feed c.args.tick.0 c.args.side c.args.op) in
    search rules
