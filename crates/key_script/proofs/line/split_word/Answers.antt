use Rattle.key_script.proofs.CutLemmas.{word_or_whole}
use Rattle.key_script.proofs.line.split_word.Goals as goal

pub returns : goal.returns
returns c = word_or_whole c.args.line.now c.split_at_space.result c.split_at_space.ensures.none c.split_at_space.ensures.parts
