-- Clocks one after another.
use Rattle.std.proofs.Common.{◌≡◌, refl, ℕ, suc, ◌+◌, add-one}
use Rattle.sn76489.specs.State.{State}
use Rattle.sn76489.specs.Clock.{clock_leaves, clocks}

pub no_clocks : (c : State) → clocks 0 c ≡ c
unfolding clocks
no_clocks c = refl

pub clock_behind : (n : ℕ) (c : State) → clocks (suc n) c ≡ clock_leaves (clocks n c)
unfolding clocks
clock_behind n c = refl

pub one_clock_more : (n : ℕ) (c : State) → clocks (n + 1) c ≡ clock_leaves (clocks n c)
one_clock_more n c = rw add-one (clock_behind n c)
