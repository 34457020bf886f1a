-- The table of the keys in the code is that of the definitions.
use Rattle.std.proofs.Common.{◌≡◌, refl, ap, ℕ, ◌+◌, ◌<◌, ◌≤◌, [], ◌∷◌, drop, length, Option, Some, None, option_map, arith}
use Rattle.std.proofs.lemmas.List.{drop_more}
use Rattle.cmd_words.specs.declared.keys.TheConstants.{COUNT}
use Rattle.std.proofs.Math.ListN.{drop_of_length-le}
use Rattle.cmd_words.specs.Keys.{keys, key_at, no_key}

pub length-keys : length keys ≡ COUNT
unfolding keys
length-keys = refl

pub key_split : (i : ℕ) → i < COUNT → drop i keys ≡ key_at i ∷ drop (i + 1) keys
key_split i h = drop_more keys i no_key (rw length-keys h)

pub shifted : (i : ℕ) (r : Option ℕ) → option_map (λ p. p + i) (option_map (λ p. p + 1) r) ≡ option_map (λ p. p + (i + 1)) r
shifted i None = refl
shifted i (Some p) = ap Some (omega arith)

pub place_begin : (r : Option ℕ) → r ≡ option_map (λ p. p + 0) r
place_begin None = refl
place_begin (Some p) = ap Some (omega arith)

pub no_keys : (i : ℕ) → COUNT ≤ i → drop i keys ≡ []
no_keys i h = drop_of_length-le keys (rw length-keys h)
