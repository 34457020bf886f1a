-- What is read of a file, one field after another, and the bytes that represent it.
use Rattle.std.proofs.Common.{◌≡◌, true, ◌∙◌, refl, sym, ap, ℕ, ◌+◌, ◌<◌, ◌≤◌, ◌^◌, List, [], ◌∷◌, ◌++◌, length, Option, Some, Ok, arith, leb, le-leb, bytes_eq}
use Rattle.std.specs.Int.{w32, to_be_bytes}
use Rattle.std.proofs.lemmas.Slice.Eq.{bytes_eq-Decides}
use Rattle.save_state.specs.Fields.{Fields, field, exactly, up_to, number, byte, ◌>>=◌}
use Rattle.save_state.specs.Laws.{AreBytes}
use Rattle.save_state.proofs.Standing.{Stands, stands_then, stands_apart, bind_ok, ok_is, some_is, Held, field_by, field_again, number_text, number_of_text, up_to_some, one_byte}

-- It reads the bytes of each value that is good, and no others.
pub record Reads {A : Type 0} (p : Fields A) (text : A → List ℕ) (Good : A → Type 0) : Type 0 where
  pub reads : (bytes : List ℕ) (at : ℕ) (x : A × ℕ) → AreBytes bytes → at ≤ length bytes → p bytes at ≡ Ok x → Stands bytes at (text x.0) x.1 × Good x.0
  pub again : (bytes : List ℕ) (at : ℕ) (a : A) (next : ℕ) → Good a → Stands bytes at (text a) next → p bytes at ≡ Ok (a, next)

-- as above, with other words for what is good
pub alike : {A : Type 0} {p : Fields A} {text : A → List ℕ} {Good Fine : A → Type 0} →
    Reads p text Good → ((a : A) → Good a → Fine a) → ((a : A) → Fine a → Good a) → Reads p text Fine
alike here to from = record {
  reads = λ bytes at x are le e. let h = here.reads bytes at x are le e in (h.0, to x.0 h.1);
  again = λ bytes at a next fine. here.again bytes at a next (from a fine);
}

-- ---- in order

-- one thing and then another, which depends on the first
pub then : {A C : Type 0} {p : Fields A} {text : A → List ℕ} {Good : A → Type 0} (q : A → Fields C) (first : C → A) (rest : C → List ℕ)
    {whole : C → List ℕ} {Whole : C → Type 0} → Reads p text Good → ((c : C) → Whole c → Good (first c) × (whole c ≡ text (first c) ++ rest c)) →
    ((a : A) → Good a → Reads (q a) rest (λ c. Whole c × (first c ≡ a))) → Reads (λ bytes at. p bytes at >>= λ x. q x.0 bytes x.1) whole Whole
then {p} {text} q first rest here split on = record {
  reads = λ bytes at x are le e.
      let a = bind_ok (p bytes at) e in
      let one = here.reads bytes at a.0 are le a.1 in
      let two = (on a.0.0 one.1).reads bytes a.0.1 x are one.0.within a.2 in
      (rw ((split x.0 two.1.0).1, two.1.1) (stands_then one.0 two.0), two.1.0);
  again = λ bytes at c next whole stands.
      let parts = split c whole in
      let all = stands_apart (text (first c)) (rw parts.1 at stands) in
      rw (here.again bytes at (first c) _ parts.0 all.0) ((on (first c) parts.0).again bytes _ c next (whole, refl) all.1);
}

-- nothing more
pub stop : {C : Type 0} (v : C) {whole : C → List ℕ} {Whole : C → Type 0} → Whole v → whole v ≡ [] → ((c : C) → Whole c → c ≡ v) → Reads (λ bytes at. Ok (v, at)) whole Whole
stop {C} v {whole} {Whole} good none only = record {
  reads = λ bytes at x are le e.
      let here : Stands bytes at (whole v) at = rw none (record { here = refl; to = omega arith; within = le }) in
      rw (← ok_is e) (here, good);
  again = λ bytes at c next is stands.
      let there = rw (only c is, none) at stands in
      let end_ : at ≡ next = omega (arith, there.to) in
      rw (end_, only c is);
}

-- the last thing, and what is made of it
pub last : {A C : Type 0} {p : Fields A} {text : A → List ℕ} {Good : A → Type 0} (make : A → C) {whole : C → List ℕ} {Whole : C → Type 0} →
    Reads p text Good → ((a : A) → Good a → Whole (make a) × (whole (make a) ≡ text a)) → ((c : C) → Whole c → (a : A) × Good a × (make a ≡ c)) →
    Reads (λ bytes at. p bytes at >>= λ x. Ok (make x.0, x.1)) whole Whole
last {p} make here to from = record {
  reads = λ bytes at x are le e.
      let a = bind_ok (p bytes at) e in
      let one = here.reads bytes at a.0 are le a.1 in
      let made = to a.0.0 one.1 in
      rw (← ok_is a.2) (rw made.1 one.0, made.0);
  again = λ bytes at c next good stands.
      let a = from c good in
      rw (here.again bytes at a.0 next a.1 (rw (← a.2, (to a.0 a.1).1) at stands), a.2);
}

-- ---- one field

pub of_field : {A : Type 0} (size : ℕ) (meaning : List ℕ → Option A) {text : A → List ℕ} {Good : A → Type 0} →
    ((b : List ℕ) (a : A) → length b ≡ size → AreBytes b → meaning b ≡ Some a → (text a ≡ b) × Good a) →
    ((a : A) → Good a → (length (text a) ≡ size) × (meaning (text a) ≡ Some a)) → Reads (field size meaning) text Good
of_field size meaning to from = record {
  reads = λ bytes at x are le e.
      let h : Held size meaning bytes at x.0 x.1 = field_by (leb (at + size) (length bytes)) refl e in
      let p = to h.text x.0 h.long (h.are are) h.means in
      (rw p.0 h.stands, p.1);
  again = λ bytes at a next good stands. field_again meaning stands (from a good).0 (from a good).1;
}

pub of_byte : {A : Type 0} (meaning : ℕ → Option A) (value : A → ℕ) {Good : A → Type 0} → ((v : ℕ) (a : A) → meaning v ≡ Some a → (value a ≡ v) × Good a) →
    ((a : A) → Good a → meaning (value a) ≡ Some a) → Reads (field 1 (λ b. meaning (byte b))) (λ a. value a ∷ []) Good
of_byte meaning value to from =
    of_field 1 (λ b. meaning (byte b))
    (λ b a long are means. let p = to (byte b) a means in (rw p.0 (one_byte b long), p.1))
    (λ a good. (refl, from a good))

pub number_law : (most : ℕ) → most < 2 ^ 32 → Reads (field 4 (λ b. up_to most (number b))) (to_be_bytes w32) (λ n. n ≤ most)
number_law most small =
    of_field 4 (λ b. up_to most (number b))
    (λ b n long are means. let p = up_to_some {most = most} {n = number b} means in (rw (← p.0) (number_text long are), omega (arith, p.0, p.1)))
    (λ n le. (refl, rw (number_of_text {n = n} (omega arith), le-leb n most le) refl))

pub exact_law : (want : List ℕ) → Reads (field (length want) (exactly want)) (λ a. want) (λ a. want ≡ a)
exact_law want =
    of_field (length want) (exactly want)
    (λ b a long are means. let p : (bytes_eq b want ≡ true) × (want ≡ a) = grind arith in (sym ((bytes_eq-Decides b want).0 p.0), p.1))
    (λ a is. (refl, rw ((bytes_eq-Decides want want).1 refl) (rw is)))

pub body_law : (n : ℕ) → Reads (field n Some) (λ b. b) (λ b. length b ≡ n)
body_law n = of_field n Some (λ b a long are means. let is = some_is means in (sym is, ap length (sym is) ∙ long)) (λ a long. (long, refl))
