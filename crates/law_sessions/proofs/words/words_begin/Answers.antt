use Rattle.law_sessions.proofs.Beginning.{words_begin}
use Rattle.law_sessions.proofs.words.words_begin.Goals as goal

pub returns : goal.returns
returns c = words_begin
