-- The order of the two machines' steps.
use Rattle.std.specs.Prelude.{ℕ, ◌==◌, ◌&&◌, ◌||◌, nat_lt, Bool, true, false}
use Rattle.beeb_bits.specs.declared.Side.{Side}
use Rattle.beeb_bits.specs.declared.Side.TheVariants.{Host, Para}

-- a step of x comes before one of y at the same tick
abbrev pub goes_first : Side → Side → Bool
goes_first Host Para = true
goes_first Host Host = false
goes_first Para Host = false
goes_first Para Para = false

-- A step of x at tick a comes before one of y at tick b, by tick. At equal ticks the host's comes
-- before the parasite's.
abbrev pub before : ℕ → Side → ℕ → Side → Bool
before a x b y = nat_lt a b || (a == b && goes_first x y)
