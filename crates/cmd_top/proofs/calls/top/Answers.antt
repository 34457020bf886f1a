use Rattle.cmd_words.specs.View.{seen_command}
use Rattle.cmd_top.proofs.HeadlineLemmas.{headline_of}
use Rattle.cmd_top.proofs.ResumeAndFollowLemmas.{gone_of}
use Rattle.cmd_top.proofs.SoundFileLemmas.{heard_of}
use Rattle.cmd_top.proofs.calls.top.Goals as goal

pub returns-then-is_paired-clause-headline : goal.returns-then-is_paired-clause-headline
returns-then-is_paired-clause-headline g c = headline_of _ (seen_command c.in-Some.command) c.in-Some.ensures.command c.status_of.ensures c.paired.ensures

pub returns-then-is_paired-clause-sound : goal.returns-then-is_paired-clause-sound
returns-then-is_paired-clause-sound g c = heard_of _ (seen_command c.in-Some.command) c.in-Some.ensures.command c.status_of.ensures c.paired.ensures

pub returns-then-is_paired-clause-gone : goal.returns-then-is_paired-clause-gone
returns-then-is_paired-clause-gone g c = gone_of _ (seen_command c.in-Some.command) c.in-Some.ensures.command c.status_of.ensures c.paired.ensures

pub returns-else-is_paired-clause-sound : goal.returns-else-is_paired-clause-sound
returns-else-is_paired-clause-sound g c =
    heard_of _ (seen_command c.in-Some.command) c.in-Some.ensures.command c.status_of-else-is_paired.ensures (c.single.ensures (g.C.Crew.counts c.args.crew.now))

pub returns-else-is_paired-clause-gone : goal.returns-else-is_paired-clause-gone
returns-else-is_paired-clause-gone g c =
    gone_of _ (seen_command c.in-Some.command) c.in-Some.ensures.command c.status_of-else-is_paired.ensures (c.single.ensures (g.C.Crew.counts c.args.crew.now))
