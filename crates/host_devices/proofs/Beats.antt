-- The ticks where microseconds begin, of u ticks each.
use Rattle.std.proofs.Common.{◌≡◌, ◌≤◌, ◌<◌, ◌+◌, ◌-◌, ◌*◌, ◌/◌, ◌%◌, ◌∙◌, ap, ℕ, min, inl, inr, arith}
use Rattle.std.proofs.Math.Nat.{add-mod_right, div-add-mod, mod-lt, mod_self, mul-add-mod_self_left, mul-le-mul_left}
use Rattle.std.proofs.lemmas.Bool.{cases_lt}
use Rattle.beeb_bits.specs.declared.clock.Clock.{Clock}
use Rattle.beeb_bits.specs.Clock.{micro, micro-is-two, some-host}
use Rattle.host_devices.specs.CodePlayback.{IsOnTime}

-- one begins u ticks after the one before
pub apart : (u k step : ℕ) → k % u ≡ 0 → step % u ≡ 0 → k < step → k + u ≤ step
apart u k step begins then_ later =
    let here : u * (k / u) ≡ k = omega (arith, div-add-mod k u, begins) in
    let there : u * (step / u) ≡ step = omega (arith, div-add-mod step u, then_) in
    elim (cases_lt (k / u) (step / u)) [
      | inl less ↦
          let on : u * (k / u + 1) ≤ u * (step / u) = mul-le-mul_left u (omega (arith, less)) in
          let sum : u * (k / u + 1) ≡ u * (k / u) + u = omega arith in
          omega (arith, here, there, on, sum)
      | inr more ↦
          let back : u * (step / u) ≤ u * (k / u) = mul-le-mul_left u more in
          absurd (omega (arith, here, there, back, later))
    ]

-- the next microsecond or event after a microsecond without an event
pub next-one : (u k event next : ℕ) → 0 < u → k % u ≡ 0 → next ≡ min (k + u) event → IsOnTime u (k + 1) event next
next-one u k event next some begins is =
    record { step = k + u; begins = add-mod_right k u ∙ begins; first = omega (arith, some); near = omega arith; least = is }

-- the next microsecond or event after any tick
pub next-any : (u k event next : ℕ) → 0 < u → next ≡ min (k + u - k % u) event → IsOnTime u (k + 1) event next
next-any u k event next some is =
    let rest : k % u < u = mod-lt k some in
    let sum : u * (k / u) + k % u ≡ k = div-add-mod k u in
    let whole : k + u - k % u ≡ u * (k / u) + u = omega (arith, sum) in
    record {
      step = k + u - k % u;
      begins = ap (λ n. n % u) whole ∙ mul-add-mod_self_left u (k / u) u ∙ mod_self u;
      first = omega (arith, rest);
      near = omega arith;
      least = is;
    }

-- a microsecond has a tick
pub some-micro : (c : Clock) → 0 < micro c
some-micro c = omega (arith, micro-is-two c, some-host c)
