use Rattle.std.proofs.Common.{sym, map, string_bytes}
use Rattle.cmd_words.specs.Words.{command}
use Rattle.cmd_words.specs.View.{seen_command}
use Rattle.cmd_stages.specs.Promise.{nobody}
use Rattle.cmd_top.proofs.ResumeAndFollowLemmas.{gone_of}
use Rattle.cmd_top.proofs.SoundFileLemmas.{heard_of, same_unpaired}
use Rattle.cmd_top.proofs.calls.plain.Goals as goal

pub returns-clause-sound : goal.returns-clause-sound
returns-clause-sound g c =
    heard_of _ (seen_command c.in-Some.command)
    (same_unpaired (seen_command c.in-Some.command) (command (map string_bytes c.args.words.now)) c.in-Some.ensures.command (sym c.if-is_paired.ensures))
    c.status_of.ensures (c.single.ensures nobody)

pub returns-clause-gone : goal.returns-clause-gone
returns-clause-gone g c =
    gone_of _ (seen_command c.in-Some.command)
    (same_unpaired (seen_command c.in-Some.command) (command (map string_bytes c.args.words.now)) c.in-Some.ensures.command (sym c.if-is_paired.ensures))
    c.status_of.ensures (c.single.ensures nobody)
