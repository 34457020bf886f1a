-- A part that is read is in the file, and is read where it is.
use Rattle.std.proofs.Common.{◌≡◌, refl, sym, ap, ℕ, ◌<◌, ◌≤◌, ◌^◌, Bool, true, false, cond, List, [], ◌∷◌, ◌++◌, length, get_or, drop, Option, None, Some, Ok, IfSome, All}
use Rattle.std.proofs.Common.{arith, eqb, leb, le-leb}
use Rattle.std.proofs.lemmas.Bool.Decides.{nat_tests}
use Rattle.std.specs.List.{flat_map}
use Rattle.std.proofs.lemmas.List.Elements.{All-nil, All-cons}
use Rattle.std.specs.Int.{w32, to_be_bytes}
use Rattle.save_state.specs.declared.parts.Kind.{Kind}
use Rattle.save_state.specs.declared.parts.Kind.TheVariants.{Disc}
use Rattle.save_state.specs.Fields.{field, number, ◌>>=◌}
use Rattle.save_state.specs.Parts.{fits, may_lack, length_in, body_at, part_at, kind_in, image_at, disc_at, each_at, part_bytes, kind_byte, disc_bytes}
use Rattle.save_state.specs.File.{IsPart, IsDisc, ArePartsOf}
use Rattle.save_state.specs.Laws.{AreBytes}
use Rattle.save_state.proofs.Standing.{some_is, number_text, number_of_text}
use Rattle.save_state.proofs.Reading.{Reads, then, last, stop, of_field, of_byte, body_law}

-- what a file has of a part
abbrev pub Part : Type 0
Part = Option (List ℕ)

-- ---- the length field

-- the number that says a length, and the lengths that a part of a kind may have
abbrev told : Option ℕ → ℕ
told None = 0xFFFFFFFF
told (Some n) = n

abbrev MayBe : Kind → Option ℕ → Type 0
MayBe kind None = may_lack kind ≡ true
MayBe kind (Some n) = fits kind n ≡ true

picked : (kind : Kind) (b : List ℕ) (len : Option ℕ) → length_in kind b ≡ Some len → (told len ≡ number b) × MayBe kind len
picked kind b len e = grind (arith, nat_tests)

-- no part is as long as the number of an absent one
small : (kind : Kind) {n : ℕ} → fits kind n ≡ true → n < 0xFFFFFFFF
small kind h = grind (arith, nat_tests)

length_law : (kind : Kind) → Reads (field 4 (length_in kind)) (λ len. to_be_bytes w32 (told len)) (MayBe kind)
length_law kind = of_field 4 (length_in kind) to from
  where
    to : (b : List ℕ) (len : Option ℕ) → length b ≡ 4 → AreBytes b → length_in kind b ≡ Some len → (to_be_bytes w32 (told len) ≡ b) × MayBe kind len
    to b len long are means = let p = picked kind b len means in (rw p.0 (number_text long are), p.1)

    from : (len : Option ℕ) → MayBe kind len → (length (to_be_bytes w32 (told len)) ≡ 4) × (length_in kind (to_be_bytes w32 (told len)) ≡ Some len)
    from None may = (refl, rw may)
    from (Some n) fit =
        let lt : n < 0xFFFFFFFF = small kind fit in
        let is : number (to_be_bytes w32 n) ≡ n = number_of_text (omega arith) in
        let other : eqb n 0xFFFFFFFF ≡ false = grind (arith, nat_tests) in
        (refl, rw (is, other, fit))

-- ---- a part

abbrev len_of : Part → Option ℕ
len_of None = None
len_of (Some body) = Some (length body)

abbrev bytes_in : Part → List ℕ
bytes_in None = []
bytes_in (Some body) = body

none_there : (p : Part) → len_of p ≡ None → p ≡ None
none_there None is = refl
none_there (Some body) is = absurd (cc is)

body_of : {n : ℕ} (p : Part) → len_of p ≡ Some n → (body : List ℕ) × (length body ≡ n) × (Some body ≡ p)
body_of None is = absurd (cc is)
body_of (Some body) is = (body, some_is is, refl)

pub part_law : (kind : Kind) → Reads (part_at kind) part_bytes (IsPart kind)
unfolding part_at
part_law kind = then body_at len_of bytes_in (length_law kind) split behind
  where
    split : (p : Part) → IsPart kind p → MayBe kind (len_of p) × (part_bytes p ≡ to_be_bytes w32 (told (len_of p)) ++ bytes_in p)
    split None is = (is, refl)
    split (Some body) is = (is, refl)

    behind : (len : Option ℕ) → MayBe kind len → Reads (body_at len) bytes_in (λ p. IsPart kind p × (len_of p ≡ len))
    behind None may = stop None (may, refl) refl (λ p is. none_there p is.1)
    behind (Some n) fit = last Some (body_law n) (λ body long. ((rw long fit, ap Some long), refl)) (λ p is. body_of p is.1)

-- ---- a disc

-- the kind of a disc of a length, by its byte
abbrev kind_of : ℕ → ℕ → Option Bool
kind_of len v = cond (eqb v 0) (cond (leb len 204800) (Some false) None) (cond (eqb v 1) (Some true) None)

kind_law : (len : ℕ) → Reads (field 1 (kind_in len)) (λ dsd. kind_byte dsd ∷ []) (λ dsd. dsd ≡ false → len ≤ 204800)
kind_law len = of_byte (kind_of len) kind_byte to from
  where
    to : (v : ℕ) (dsd : Bool) → kind_of len v ≡ Some dsd → (kind_byte dsd ≡ v) × (dsd ≡ false → len ≤ 204800)
    to v dsd means = grind (arith, nat_tests)

    from : (dsd : Bool) → (dsd ≡ false → len ≤ 204800) → kind_of len (kind_byte dsd) ≡ Some dsd
    from true short = refl
    from false short = rw (le-leb len 204800 (short refl))

-- its kind and its bytes, if it is present
abbrev behind_length : Part → Bool → List ℕ
behind_length None dsd = []
behind_length (Some body) dsd = kind_byte dsd ∷ body

pub disc_law : Reads disc_at (λ d. disc_bytes d.0 d.1) (λ d. IsDisc d.0 d.1)
unfolding disc_at
disc_law = then image_at (λ d. len_of d.0) (λ d. behind_length d.0 d.1) (length_law Disc) (λ d. split d.0 d.1) behind
  where
    split : (p : Part) (dsd : Bool) → IsDisc p dsd → MayBe Disc (len_of p) × (disc_bytes p dsd ≡ to_be_bytes w32 (told (len_of p)) ++ behind_length p dsd)
    split None dsd is = (refl, refl)
    split (Some body) dsd is = (is.0, refl)

    kinded : {n : ℕ} (p : Part) (dsd : Bool) → IsDisc p dsd × (len_of p ≡ Some n) →
        (dsd ≡ false → n ≤ 204800) × (behind_length p dsd ≡ (kind_byte dsd ∷ []) ++ bytes_in p)
    kinded None dsd is = absurd (cc is.1)
    kinded (Some body) dsd is = (rw (some_is is.1) at is.0.1, refl)

    behind : (len : Option ℕ) → MayBe Disc len → Reads (image_at len) (λ d. behind_length d.0 d.1) (λ d. IsDisc d.0 d.1 × (len_of d.0 ≡ len))
    behind None may = stop (None, false) (refl, refl) refl (λ d is. let none = none_there d.0 is.1 in let one = rw none at is.0 in λ i. (none i, one i))
    behind (Some n) fit =
        then (λ dsd bytes at. field n Some bytes at >>= λ body. Ok ((Some body.0, dsd), body.1)) (λ d. d.1) (λ d. bytes_in d.0) (kind_law n) (λ d. kinded d.0 d.1)
        (λ dsd short. last (λ body. (Some body, dsd)) (body_law n) (λ body long. ((((rw long fit, rw long short), ap Some long), refl), refl))
        (λ d is. let b = body_of d.0 is.0.1 in (b.0, b.1, λ i. (b.2 i, (sym is.1) i))))

-- ---- parts of many kinds

pub each_law : (kinds : List Kind) → Reads (each_at kinds) (flat_map part_bytes) (ArePartsOf kinds)
unfolding each_at
each_law [] = stop [] tt refl none
  where
    none : (parts : List Part) → ArePartsOf [] parts → parts ≡ []
    none [] are = refl
    none (p ∷ parts) are = absurd are
each_law (kind ∷ kinds) =
    then (λ p bytes at. each_at kinds bytes at >>= λ others. Ok (p ∷ others.0, others.1)) (λ parts. get_or parts 0 None) (λ parts. flat_map part_bytes (drop 1 parts)) (part_law kind) split
    (λ p is. last (λ others. p ∷ others) (each_law kinds) (λ others are. (((is, are), refl), refl)) (there p))
  where
    split : (parts : List Part) → ArePartsOf (kind ∷ kinds) parts →
        IsPart kind (get_or parts 0 None) × (flat_map part_bytes parts ≡ part_bytes (get_or parts 0 None) ++ flat_map part_bytes (drop 1 parts))
    split [] are = absurd are
    split (p ∷ parts) are = (are.0, refl)

    there : (p : Part) (parts : List Part) → ArePartsOf (kind ∷ kinds) parts × (get_or parts 0 None ≡ p) →
        (others : List Part) × ArePartsOf kinds others × (p ∷ others ≡ parts)
    there p [] is = absurd is.0
    there p (q ∷ parts) is = (parts, is.0.1, rw is.1)

pub as_many : (kinds : List Kind) (parts : List Part) → ArePartsOf kinds parts → length parts ≡ length kinds
as_many [] [] are = refl
as_many [] (p ∷ parts) are = absurd are
as_many (kind ∷ kinds) [] are = absurd are
as_many (kind ∷ kinds) (p ∷ parts) are = let more = as_many kinds parts are.1 in omega arith

-- ---- no part is as long as the number of an absent one

abbrev pub IsShort : Part → Type 0
IsShort p = IfSome p (λ body. length body < 2 ^ 32)

pub part_short : (kind : Kind) (p : Part) → IsPart kind p → IsShort p
part_short kind None is = tt
part_short kind (Some body) is = omega (arith, small kind is)

pub disc_short : (p : Part) (dsd : Bool) → IsDisc p dsd → IsShort p
disc_short None dsd is = tt
disc_short (Some body) dsd is = omega (arith, small Disc is.0)

pub each_short : (kinds : List Kind) (parts : List Part) → ArePartsOf kinds parts → All IsShort parts
each_short [] [] are = All-nil IsShort
each_short [] (p ∷ parts) are = absurd are
each_short (kind ∷ kinds) [] are = absurd are
each_short (kind ∷ kinds) (p ∷ parts) are = All-cons IsShort p parts (part_short kind p are.0) (each_short kinds parts are.1)
