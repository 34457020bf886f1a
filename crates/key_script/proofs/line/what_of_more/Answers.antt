use Rattle.key_script.proofs.CutLemmas.{too_many_words}
use Rattle.key_script.proofs.line.what_of_more.Goals as goal

pub returns-in-Some-split_word-clause-value : goal.returns-in-Some-split_word-clause-value
returns-in-Some-split_word-clause-value c =
    too_many_words c.args.word.now c.in-Some.second.now c.in-Some-split_word.field-0.0.now c.in-Some-split_word.field-0.1.now c.in-Some.rest.now c.args.words.now
    c.in-Some.ensures c.in-Some-split_word.ensures
