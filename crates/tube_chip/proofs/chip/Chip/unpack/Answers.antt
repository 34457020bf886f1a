use Rattle.std.proofs.Common.{◌≡◌, ◌∙◌, sym, ap, Some}
use Rattle.std.specs.Cmp.Lexicographic.{other_text}
use Rattle.tube_chip.specs.Packing.{packed_words, unpacked_chip}
use Rattle.tube_chip.proofs.Packed.{read_back}
use Rattle.tube_chip.proofs.chip.Chip.unpack.Goals as goal

pub returns-then-eq-clause-each : goal.returns-then-eq-clause-each
returns-then-eq-clause-each c = λ d well is. ap Some (c.read_back-chip.ensures ∙ ap unpacked_chip is ∙ read_back d well)

pub returns-else-eq-clause-each : goal.returns-else-eq-clause-each
returns-else-eq-clause-each c = λ d well is.
    let same : c.pack.result ≡ c.args.words = c.pack.ensures.words ∙ ap packed_words (c.read_back-chip.ensures ∙ ap unpacked_chip is ∙ read_back d well) ∙ sym is in
    absurd (other_text c.pack.result c.args.words (sym c.if-eq.false ∙ c.eq.ensures) same)
