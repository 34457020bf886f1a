-- Two neighbouring options may change places.
use Rattle.std.proofs.Common.{◌≡◌, ◌∙◌, sym, refl, ap, ℕ, List, [], ◌∷◌, length, slice_set, Option, Some, None, Bool, ◌&&◌, arith, if◌then◌else◌}
use Rattle.std.specs.Prelude.{option_and_then}
use Rattle.std.proofs.lemmas.List.{set_comm, get_or-set_same, get_or-set_other, set_past}
use Rattle.std.proofs.lemmas.Bool.{cases_eq, cases_lt}
use Rattle.std.specs.Option.{is_none}
use Rattle.cmd_words.specs.declared.keys.CommandKind.{CommandKind}
use Rattle.cmd_words.specs.Keys.{fits, place_of}
use Rattle.cmd_words.specs.Given.{Values, value_at, put_at, put_option, put_options}
use Rattle.cmd_words.specs.Order.{AreOrderFree}

-- a word of the right kind is put in an empty place
abbrev put_if : Bool → List ℕ → Values → ℕ → Option Values
put_if may word values place = if may && is_none (value_at values place) then Some (slice_set values place (Some word)) else None

at_places : (t u : Bool) (v w : List ℕ) (m n : ℕ) (values : Values) →
    option_and_then (λ (vs : Values). put_if u w vs n) (put_if t v values m) ≡ option_and_then (λ (vs : Values). put_if t v vs m) (put_if u w values n)
at_places t u v w m n values =
    let low = cases_lt n (length values) in
    let same = cases_eq m n in
    grind (arith, get_or-set_same {A = Option (List ℕ)}, get_or-set_other {A = Option (List ℕ)}, set_comm {A = Option (List ℕ)}, set_past {X = Option (List ℕ)})

swapped : (command_kind : CommandKind) (v w : List ℕ) (i j : Option ℕ) (values : Values) →
    option_and_then (λ (vs : Values). option_and_then (put_at command_kind w vs) j) (option_and_then (put_at command_kind v values) i)
    ≡ option_and_then (λ (vs : Values). option_and_then (put_at command_kind v vs) i) (option_and_then (put_at command_kind w values) j)
swapped command_kind v w None None values = refl
swapped command_kind v w None (Some n) values = grind arith
swapped command_kind v w (Some m) None values = grind arith
swapped command_kind v w (Some m) (Some n) values = at_places (fits command_kind m v) (fits command_kind n w) v w m n values

after_both : (o : Option Values) (h k : Values → Option Values) → option_and_then (λ (vs : Values). option_and_then k (h vs)) o ≡ option_and_then k (option_and_then h o)
after_both None h k = refl
after_both (Some vs) h k = refl

under : (o : Option Values) (f g : Values → Option Values) → ((vs : Values) → f vs ≡ g vs) → option_and_then f o ≡ option_and_then g o
under None f g same = refl
under (Some vs) f g same = same vs

pub order_free : AreOrderFree
order_free command_kind [] back a b values =
    after_both (put_option command_kind a values) (put_option command_kind b) (put_options command_kind back)
    ∙ ap (λ (o : Option Values). option_and_then (put_options command_kind back) o) (swapped command_kind a.1 b.1 (place_of a.0) (place_of b.0) values)
    ∙ sym (after_both (put_option command_kind b values) (put_option command_kind a) (put_options command_kind back))
order_free command_kind (o ∷ front) back a b values = under (put_option command_kind o values) _ _ (λ vs. order_free command_kind front back a b vs)
