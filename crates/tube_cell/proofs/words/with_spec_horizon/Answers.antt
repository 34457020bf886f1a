use Rattle.std.proofs.Common.{ap, ◌∷◌, [], slice_index_or}
use Rattle.tube_chip.specs.Packing.{packed_words}
use Rattle.tube_cell.proofs.words.with_spec_horizon.Goals as goal

pub returns : goal.returns
unfolding packed_words
returns c = λ k e. ap (λ l. slice_index_or l 0 0 ∷ slice_index_or l 1 0 ∷ slice_index_or l 2 0 ∷ slice_index_or l 3 0 ∷ slice_index_or l 4 0
    ∷ slice_index_or l 5 0 ∷ slice_index_or l 6 0 ∷ slice_index_or l 7 0 ∷ c.args.spec_horizon ∷ []) e
