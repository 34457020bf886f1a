use Rattle.digits.proofs.LineLemmas.{line_to_feed, line_to_end}
use Rattle.digits.proofs.lines.first_line.Goals as goal

pub returns-then-before-text-clause-lines : goal.returns-then-before-text-clause-lines
returns-then-before-text-clause-lines c =
    line_to_feed _ c.requires c.length_before_feed-before.ensures.value c.split_at.ensures.front c.split_at.ensures.back

pub returns-else-before-text-clause-lines : goal.returns-else-before-text-clause-lines
returns-else-before-text-clause-lines c = line_to_end _ _ c.requires c.length_before_feed-before.ensures.value c.if-before-text.false
