-- Any key is down, or none.
use Rattle.std.proofs.Common.{◌≡◌, ◌≢◌, ◌∙◌, sym, refl, ap, ℕ, zero, suc, ◌+◌, ◌*◌, ◌%◌, ◌<◌, ◌≤◌, ◌||◌, Bool, true, false, List, [], ◌∷◌, length}
use Rattle.std.proofs.Common.{◌-◌, length-drop, take, drop, get_or, slice_set, replicate, Some, None, arith, inl, inr}
use Rattle.std.specs.Prelude.{if◌then◌else◌}
use Rattle.std.specs.List.{list_any, range_with_len}
use Rattle.std.proofs.lemmas.Bool.{cases_eq, cases_lt, or_parts}
use Rattle.std.proofs.lemmas.List.{drop_more, take_all, get_or-set_same, get_or-set_other}
use Rattle.std.proofs.Math.ListN.{drop_of_length-le}
use Rattle.keyboard.specs.Keys.{Keys, keys_of, no_key, any}
use Rattle.keyboard.specs.Columns.{AreColumns}

-- the states from one key on are those of the numbers from that on
any_from : (down : List Bool) (n key : ℕ) → key + n ≡ length down → list_any (λ b. b) (drop key down) ≡ list_any (keys_of down) (range_with_len key n)
any_from down zero key h = let past : length down ≤ key = omega arith in rw (drop_of_length-le down past) refl
any_from down (suc n) key h =
    let here : key < length down = omega arith in
    rw (drop_more down key false here) (ap (λ t. get_or down key false || t) (any_from down n (key + 1) (omega arith)))

-- those from key 16 on are those of rows 1 to 7
pub any_of : (down : List Bool) → length down ≡ 128 → list_any (λ b. b) (take (length down - 16) (drop 16 down)) ≡ any None (keys_of down)
unfolding any
any_of down h =
    let all : length (drop 16 down) ≤ length down - 16 = omega (arith, length-drop 16 down) in
    rw (take_all (length down - 16) (drop 16 down) all) (any_from down 112 16 (omega arith))

up_at : (n key : ℕ) → get_or (replicate n false) key false ≡ false
up_at zero key = refl
up_at (suc n) zero = refl
up_at (suc n) (suc key) = up_at n key

-- a list of keys that are up
pub all_up : (n : ℕ) → keys_of (replicate n false) ≡ no_key
all_up n = λ i. λ key. up_at n key i

none_down : (numbers : List ℕ) → list_any no_key numbers ≡ false
none_down [] = refl
none_down (key ∷ numbers) = none_down numbers

pub none_is_down : (n : ℕ) → false ≡ any None (keys_of (replicate n false))
unfolding any
none_is_down n = sym (ap (any None) (all_up n) ∙ none_down (range_with_len 16 112))

-- keys with equal states at these numbers
same_any : (f g : ℕ → Bool) (a n : ℕ) → ((i : ℕ) → a ≤ i → i < a + n → f i ≡ g i) → list_any f (range_with_len a n) ≡ list_any g (range_with_len a n)
same_any f g a zero same = refl
same_any f g a (suc n) same =
    rw (same a (omega arith) (omega arith)) (ap (λ t. g a || t) (same_any f g (a + 1) n (λ i low high. same i (omega arith) (omega arith))))

-- no key of these numbers is down
none_of : (keys : ℕ → Bool) (a n i : ℕ) → list_any keys (range_with_len a n) ≡ false → a ≤ i → i < a + n → keys i ≡ false
none_of keys a zero i none low high = absurd (omega (arith, low, high))
none_of keys a (suc n) i none low high =
    let parts = or_parts (keys a) (list_any keys (range_with_len (a + 1) n)) none in
    elim (cases_lt a i) [
      | inl later ↦ none_of keys (a + 1) n i parts.1 (omega arith) (omega arith)
      | inr here ↦ let is : i ≡ a = omega arith in rw is parts.0
    ]

-- if no key is down, none is in a column
none_in_column : (keys : Keys) (column : ℕ) → column < 16 → any None keys ≡ false → any (Some column) keys ≡ false
unfolding any
none_in_column keys column inside none =
    same_any (λ row. keys (16 * row + column)) no_key 1 7 (λ row low high. none_of keys 16 112 (16 * row + column) none (omega arith) (omega arith))
    ∙ none_down (range_with_len 1 7)

-- if no key is down, CA2 is 0
pub none_at : (keys : Keys) (scans : Bool) (column : ℕ) → column < 16 → any None keys ≡ false → any (if scans then None else Some column) keys ≡ false
none_at keys true column inside none = none
none_at keys false column inside none = none_in_column keys column inside none

-- a key changes only its own column
other_column : (down : List Bool) (key column : ℕ) (is_down : Bool) → column < 16 → column ≢ key % 16 →
    any (Some column) (keys_of (slice_set down key is_down)) ≡ any (Some column) (keys_of down)
unfolding any
other_column down key column is_down inside other =
    same_any (λ row. keys_of (slice_set down key is_down) (16 * row + column)) (λ row. keys_of down (16 * row + column)) 1 7
    (λ row low high. get_or-set_other down key (16 * row + column) is_down false (λ e. other (omega arith)))

-- the columns after a key changed
pub columns_kept : (columns down : List Bool) (key column place : ℕ) (is_down own : Bool) → length columns ≡ 16 → column ≡ key % 16 → place ≡ column →
    own ≡ any (Some column) (keys_of (slice_set down key is_down)) → AreColumns columns (keys_of down) →
    AreColumns (slice_set columns place own) (keys_of (slice_set down key is_down))
columns_kept columns down key column place is_down own long of at h are = λ other inside.
    elim (cases_eq other place) [
      | inl is ↦ rw is (get_or-set_same columns place own false (omega arith) ∙ h ∙ ap (λ n. any (Some n) (keys_of (slice_set down key is_down))) (sym at))
      | inr differs ↦
          get_or-set_other columns place other own false differs ∙ are other inside
          ∙ sym (other_column down key other is_down inside (λ e. differs (omega arith)))
    ]

pub no_columns : AreColumns (replicate 16 false) (keys_of (replicate 128 false))
unfolding any
no_columns = λ column inside. up_at 16 column ∙ sym (ap (any (Some column)) (all_up 128) ∙ none_down (range_with_len 1 7))
