-- Putting options in their places.
use Rattle.std.proofs.Common.{◌≡◌, ◌∙◌, sym, ap, ℕ, ◌+◌, ◌<◌, List, [], ◌++◌, map, drop, length, slice_index_or, slice_set}
use Rattle.std.proofs.Common.{Option, Some, None, string_bytes, true, false, ◌≤◌, append_assoc, append-nil}
use Rattle.std.specs.Option.{is_none, is_some, option_copied}
use Rattle.std.specs.Borrow.{Bor}
use Rattle.cmd_words.specs.declared.keys.InputKind.{InputKind}
use Rattle.cmd_words.specs.declared.keys.TheConstants.{COUNT}
use Rattle.cmd_words.specs.Keys.{keys, key_at}
use Rattle.cmd_words.specs.Reads.{file_of, files_of}
use Rattle.cmd_words.proofs.KeyLemmas.{key_split, no_keys}
use Rattle.std.proofs.lemmas.List.{drop_more, get_or-map, map-set}
use Rattle.std.proofs.lemmas.Option.{slice_get-map, slice_get-get_or}
use Rattle.std.proofs.Math.ListN.{length-map}
use Rattle.std.specs.declared.string.String.{String}
use Rattle.std.specs.declared.alloc.Global.{Global}
use Rattle.cmd_words.specs.Given.{Values, value_at}
use Rattle.cmd_words.specs.View.{word_at, value_of}

word_there : (words : List (String Global)) (at : ℕ) → at < length words → value_of words (Some at) ≡ Some (word_at words at)
word_there words at h = rw (← slice_get-map string_bytes words at) (slice_get-get_or (map string_bytes words) at [] (rw length-map h))

-- the values, if one more word has a place
pub places_set : (words : List (String Global)) (places : List (Option ℕ)) (place at : ℕ) → at < length words →
    map (value_of words) (slice_set places place (Some at)) ≡ slice_set (map (value_of words) places) place (Some (word_at words at))
places_set words places place at h = map-set (value_of words) places place (Some at) ∙ ap (λ v. slice_set (map (value_of words) places) place v) (word_there words at h)

-- the files from a key on
pub files_more : (ws more : List (InputKind × List ℕ × ℕ)) (i : ℕ) (values : Values) → i < COUNT → length values ≡ COUNT
    → more ≡ ws ++ file_of (key_at i).value (value_at values i) →
    more ++ files_of (drop (i + 1) keys) (drop (i + 1) values) ≡ ws ++ files_of (drop i keys) (drop i values)
files_more ws more i values h len is =
    rw (is, append_assoc, key_split i h, drop_more values i None (rw len h))

pub files_end : (ws : List (InputKind × List ℕ × ℕ)) (i : ℕ) (values : Values) → COUNT ≤ i → ws ++ files_of (drop i keys) (drop i values) ≡ ws
files_end ws i values h = rw (no_keys i h) (append-nil ws)

pub word_read : (words : List (String Global)) (at : ℕ) (d : String Global) → at < length words → string_bytes (slice_index_or words at d) ≡ word_at words at
word_read words at d h = sym (get_or-map string_bytes words at d [] h)

-- a value that is absent
pub copied_none : (o : Option (Bor (List ℕ))) (v : Option (List ℕ)) → option_copied o ≡ v → is_some o ≡ false → is_none v ≡ true
copied_none None v is none = rw (← is)
copied_none (Some word) v is none = cc
