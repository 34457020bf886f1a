-- Counters that go down, and numbers of steps.
use Rattle.std.proofs.Common.{◌≡◌, ◌≢◌, ℕ, ◌+◌, ◌%◌, ◌<◌, ◌==◌, true, false, arith}
use Rattle.std.proofs.lemmas.Bool.Decides.{nat_tests}
use Rattle.std.proofs.Math.Nat.{add-mod_left, mod_self, mod-eq_of_lt}
use Rattle.via6522.specs.Timers.{word}

pub test_true : (a b : ℕ) → a ≡ b → (a == b) ≡ true
test_true a b h = grind (arith, nat_tests)

pub test_false : (a b : ℕ) → a ≢ b → (a == b) ≡ false
test_false a b h = grind (arith, nat_tests)

pub word_small : (high low : ℕ) → high < 256 → low < 256 → word high low < 65536
word_small high low h l = omega arith

-- in a period of v + 2 steps, only the number of the last step is a multiple
pub within_period : (v k : ℕ) → k < v + 1 → ((k + 1) % (v + 2) == 0) ≡ false
within_period v k h =
    let below : k + 1 < v + 2 = omega arith in
    let same : (k + 1) % (v + 2) ≡ k + 1 = mod-eq_of_lt below in
    test_false _ _ (λ e. omega (arith, e, same))

pub ends_period : (v k : ℕ) → k ≡ v + 1 → ((k + 1) % (v + 2) == 0) ≡ true
ends_period v k h =
    let whole : k + 1 ≡ v + 2 = omega arith in
    test_true _ _ (rw whole (mod_self (v + 2)))

pub next_period : (v k n : ℕ) → k ≡ v + 1 → (k + n + 1) % (v + 2) ≡ n % (v + 2)
next_period v k n h = let e : k + n + 1 ≡ (v + 2) + n = omega arith in rw e (add-mod_left (v + 2) n)
