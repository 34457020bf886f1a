-- The table of entries is the definition, byte by byte.
use Rattle.std.proofs.Common.{◌≡◌, ◌∙◌, ℕ, ◌<◌, List, map, refl, ap, slice_index_or, arith}
use Rattle.std.specs.List.{range_with_len}
use Rattle.std.proofs.lemmas.List.FromFn.{get_or-map-range_with_len}
use Rattle.std.proofs.lemmas.Bool.{agree_below_at, ltb-true}
use Rattle.std.proofs.Common.{true, ltb}
use Rattle.video_ula.specs.declared.entries.TheConstants.{ENTRIES}
use Rattle.video_ula.specs.Pixels.{entry_of}

ENTRIES_is : ENTRIES ≡ map entry_of (range_with_len 0 256)
ENTRIES_is = refl

pub ENTRIES-at : (c d : ℕ) → c < 256 → slice_index_or ENTRIES c d ≡ entry_of c
ENTRIES-at c d h = ap (λ (t : List ℕ). slice_index_or t c d) ENTRIES_is ∙ get_or-map-range_with_len entry_of 0 256 c c d h (omega arith)

pub entry_of-small : (c : ℕ) → c < 256 → entry_of c < 16
entry_of-small c h = ltb-true _ _ (agree_below_at (λ k. ltb (entry_of k) 16) (λ _. true) 256 c refl h)
