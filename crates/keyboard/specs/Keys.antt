-- The keyboard: its 128 keys, each up or down. The number of a key is 16 times its row plus its
-- column. (BBC Microcomputer Advanced User Guide, Keyboard.)
use Rattle.std.specs.Prelude.{ℕ, ◌+◌, ◌*◌, ◌==◌, Bool, false, List, slice_index_or, Option, Some, None, if◌then◌else◌}
use Rattle.std.specs.List.{list_any, range_with_len}

-- the keys that are down, by their numbers
abbrev pub Keys : Type 0
Keys = ℕ → Bool

-- the keys by a list of their states, key 0 first
abbrev pub keys_of : List Bool → Keys
keys_of down = λ key. slice_index_or down key false

abbrev pub no_key : Keys
no_key = λ key. false

-- the keys, with one of them changed to down or up
abbrev pub with_key : ℕ → Bool → Keys → Keys
with_key key down keys = λ k. if k == key then down else keys k

-- A key of rows 1 to 7 is down, in a column or in any.
unfoldable pub any : Option ℕ → Keys → Bool
any (Some column) keys = list_any (λ row. keys (16 * row + column)) (range_with_len 1 7)
any None keys = list_any keys (range_with_len 16 112)
