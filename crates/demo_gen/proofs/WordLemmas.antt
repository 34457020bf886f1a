-- One drawn byte at a time.
use Rattle.std.proofs.Common.{arith, ap, sym, append_assoc, ◌∙◌, ◌≡◌, refl, ℕ, suc, ◌+◌, ◌-◌, ◌<◌, ◌≤◌, ◌%◌, List, [], ◌∷◌, ◌++◌, map}
use Rattle.rand_pcg.specs.Lcg.{Lcg}
use Rattle.rand_pcg.specs.Pcg.{pcg32}
use Rattle.demo_gen.specs.Demo.{words}

-- the low bytes that are left when n of 256 were drawn
abbrev pub left : ℕ → Lcg → List ℕ
left n g = map (λ w. w % 256) (words (256 - n) g)

pub one_left : {n : ℕ} (g : Lcg) → n < 256 → left n g ≡ (pcg32 g).0 % 256 ∷ left (n + 1) (pcg32 g).1
unfolding words
one_left {n} g less =
    let next : 256 - n ≡ suc (256 - (n + 1)) = omega (arith, less) in
    rw next refl

pub none_left : {n : ℕ} (g : Lcg) → 256 ≤ n → left n g ≡ []
unfolding words
none_left {n} g all =
    let none : 256 - n ≡ 0 = omega (arith, all) in
    rw none refl

-- the drawn bytes and the bytes that are left are always all of them
pub next_left : {n : ℕ} (g h : Lcg) (b : ℕ) (bytes more all : List ℕ) → n < 256 → b ≡ (pcg32 g).0 % 256 → h ≡ (pcg32 g).1 → more ≡ bytes ++ b ∷ []
    → bytes ++ left n g ≡ all →
    more ++ left (n + 1) h ≡ all
next_left {n} g h b bytes more all less byte after pushed before =
    let one : b ∷ left (n + 1) h ≡ left n g = rw (byte, after) (sym (one_left g less)) in
    rw pushed (append_assoc bytes (b ∷ []) (left (n + 1) h) ∙ (ap (λ t. bytes ++ t) one ∙ before))
