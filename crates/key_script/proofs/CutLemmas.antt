-- Words, cut at the first space.
use Rattle.std.proofs.Common.{◌≡◌, ◌≢◌, ◌∙◌, refl, ap, ℕ, suc, ◌==◌, false, List, [], ◌∷◌, ◌++◌, All, Option, Some, None, inl, inr, arith}
use Rattle.std.specs.Prelude.{MatchOption, IfSome}
use Rattle.std.specs.Borrow.{Bor}
use Rattle.std.proofs.lemmas.Bool.{cases_Bool, ne_eqb}
use Rattle.key_script.specs.Words.{words_of}
use Rattle.key_script.specs.Line.{what_of}

other : (b : ℕ) (bytes : List ℕ) → All (λ x. x ≢ 32) (b ∷ bytes) → (b == 32) ≡ false
other b bytes all = ne_eqb b 32 (all 0 b (omega arith))

others : (b : ℕ) (bytes : List ℕ) → All (λ x. x ≢ 32) (b ∷ bytes) → All (λ x. x ≢ 32) bytes
others b bytes all = λ k d h. all (suc k) d (omega arith)

words_cut : (word rest : List ℕ) → All (λ b. b ≢ 32) word → words_of (word ++ 32 ∷ rest) ≡ word ∷ words_of rest
words_cut [] rest all = refl
words_cut (b ∷ word) rest all = rw (other b word all, words_cut word rest (others b word all)) refl

words_whole : (word : List ℕ) → All (λ b. b ≢ 32) word → words_of word ≡ word ∷ []
words_whole [] all = refl
words_whole (b ∷ word) all = rw (other b word all, words_whole word (others b word all)) refl

-- a line has a word
record HasWord (line : List ℕ) : Type 0 where
  pub first : List ℕ
  pub more : List (List ℕ)
  pub words : words_of line ≡ first ∷ more

has_word : (line : List ℕ) → HasWord line
has_word [] = record { first = []; more = []; words = refl }
has_word (b ∷ line) =
    let has = has_word line in
    elim (cases_Bool (b == 32)) [
      | inl e ↦ record { first = []; more = words_of line; words = rw e }
      | inr e ↦ record { first = b ∷ has.first; more = has.more; words = rw (e, has.words) }
    ]

-- four words after the tick have no meaning
pub too_many_words : (word second third fourth rest words : List ℕ) → words_of words ≡ second ∷ words_of rest
    → words_of rest ≡ third ∷ words_of fourth → None ≡ what_of (word ∷ words_of words)
too_many_words word second third fourth rest words one two = let has = has_word fourth in rw (one, two, has.words) refl

-- the words, by a cut
pub word_or_whole : (line : List ℕ) (r : Option (Bor (List ℕ) × Bor (List ℕ))) →
    MatchOption r (All (λ b. b ≢ 32) line) (λ parts. All (λ b. b ≢ 32) parts.0.now) → IfSome r (λ parts. line ≡ parts.0.now ++ 32 ∷ parts.1.now) →
    MatchOption r (words_of line ≡ line ∷ []) (λ parts. words_of line ≡ parts.0.now ∷ words_of parts.1.now)
word_or_whole line None none parts = words_whole line none
word_or_whole line (Some cut) before whole = ap words_of whole ∙ words_cut cut.0.now cut.1.now before
