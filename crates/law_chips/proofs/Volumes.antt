-- The amplitude of each volume.
use Rattle.std.proofs.Common.{◌≡◌, ◌∙◌, sym, ap, refl, ℕ, zero, suc, ◌+◌, ◌-◌, ◌*◌, ◌<◌, Bool, true, false, arith}
use Rattle.std.specs.Prelude.{◌^◌, if◌then◌else◌}
use Rattle.sn76489.specs.State.{State, Tone}
use Rattle.sn76489.specs.Writes.{write_leaves}
use Rattle.sn76489.specs.Clock.{clock_leaves, clocks}
use Rattle.sn76489.specs.Level.{loudness, noise_output, level}
use Rattle.law_chips.specs.Tones.{Channel, one, two, three, tone_of, output, with_volume, amplitude, VolumesAreAmplitudes}

keeps : (k : Channel) (c : State) → (tone_of k (clock_leaves c)).volume ≡ (tone_of k c).volume
keeps one c = grind arith
keeps two c = grind arith
keeps three c = grind arith

stays : (k : Channel) (m : ℕ) (c : State) → (tone_of k (clocks m c)).volume ≡ (tone_of k c).volume
unfolding clocks
stays k zero c = refl
stays k (suc m) c = keeps k (clocks m c) ∙ stays k m c

written : (k : Channel) (v : ℕ) (c : State) → v < 16 → (tone_of k (with_volume k v c)).volume ≡ v
written one v c below = grind arith
written two v c below = grind arith
written three v c below = grind arith

abbrev share : Bool → ℕ → ℕ
share out v = if out then amplitude v else 0

is_share : (out : Bool) (v : ℕ) → loudness out v ≡ share out v
is_share out v = refl

silent : (out : Bool) → loudness out 15 ≡ 0
silent true = refl
silent false = refl

-- the level is that without the tone, and the tone's own
others : (k : Channel) (c : State) → level c ≡ level (with_volume k 15 c) + loudness (output k c) (tone_of k c).volume
others one c = let none = silent c.tone1.output in omega (arith, none)
others two c = let none = silent c.tone2.output in omega (arith, none)
others three c = let none = silent c.tone3.output in omega (arith, none)

-- each of the first fifteen
of_each : (P : ℕ → Type 0) → P 0 → P 1 → P 2 → P 3 → P 4 → P 5 → P 6 → P 7 → P 8 → P 9 → P 10 → P 11 → P 12 → P 13 → P 14 → (v : ℕ) → v < 15 → P v
of_each P a b c d e f g h i j k l m n o zero below = a
of_each P a b c d e f g h i j k l m n o (suc zero) below = b
of_each P a b c d e f g h i j k l m n o (suc (suc zero)) below = c
of_each P a b c d e f g h i j k l m n o (suc (suc (suc zero))) below = d
of_each P a b c d e f g h i j k l m n o (suc (suc (suc (suc zero)))) below = e
of_each P a b c d e f g h i j k l m n o (suc (suc (suc (suc (suc zero))))) below = f
of_each P a b c d e f g h i j k l m n o (suc (suc (suc (suc (suc (suc zero)))))) below = g
of_each P a b c d e f g h i j k l m n o (suc (suc (suc (suc (suc (suc (suc zero))))))) below = h
of_each P a b c d e f g h i j k l m n o (suc (suc (suc (suc (suc (suc (suc (suc zero)))))))) below = i
of_each P a b c d e f g h i j k l m n o (suc (suc (suc (suc (suc (suc (suc (suc (suc zero))))))))) below = j
of_each P a b c d e f g h i j k l m n o (suc (suc (suc (suc (suc (suc (suc (suc (suc (suc zero)))))))))) below = k
of_each P a b c d e f g h i j k l m n o (suc (suc (suc (suc (suc (suc (suc (suc (suc (suc (suc zero))))))))))) below = l
of_each P a b c d e f g h i j k l m n o (suc (suc (suc (suc (suc (suc (suc (suc (suc (suc (suc (suc zero)))))))))))) below = m
of_each P a b c d e f g h i j k l m n o (suc (suc (suc (suc (suc (suc (suc (suc (suc (suc (suc (suc (suc zero))))))))))))) below = n
of_each P a b c d e f g h i j k l m n o (suc (suc (suc (suc (suc (suc (suc (suc (suc (suc (suc (suc (suc (suc zero)))))))))))))) below = o
of_each P a b c d e f g h i j k l m n o (suc (suc (suc (suc (suc (suc (suc (suc (suc (suc (suc (suc (suc (suc (suc v))))))))))))))) below = absurd (omega (arith, below))

at_least : (v : ℕ) → v < 15 → 8191 ^ 10 < (amplitude v + 1) ^ 10 * 10 ^ v
at_least = of_each (λ v. 8191 ^ 10 < (amplitude v + 1) ^ 10 * 10 ^ v)
    (omega arith) (omega arith) (omega arith) (omega arith) (omega arith) (omega arith) (omega arith) (omega arith)
    (omega arith) (omega arith) (omega arith) (omega arith) (omega arith) (omega arith) (omega arith)

at_most : (v : ℕ) → v < 15 → (amplitude v - 1) ^ 10 * 10 ^ v < 8191 ^ 10
at_most = of_each (λ v. (amplitude v - 1) ^ 10 * 10 ^ v < 8191 ^ 10)
    (omega arith) (omega arith) (omega arith) (omega arith) (omega arith) (omega arith) (omega arith) (omega arith)
    (omega arith) (omega arith) (omega arith) (omega arith) (omega arith) (omega arith) (omega arith)

all_off : (c : State) → level (write_leaves 0xFF (with_volume one 15 (with_volume two 15 (with_volume three 15 c)))) ≡ 0
all_off c =
    let a = silent c.tone1.output in
    let b = silent c.tone2.output in
    let d = silent c.tone3.output in
    let e = silent (noise_output c.noise) in
    omega (arith, a, b, d, e)

pub all_volumes : VolumesAreAmplitudes
all_volumes = record {
  adds = λ k v m c below.
      let w = clocks m (with_volume k v c) in
      let volume : (tone_of k w).volume ≡ v = stays k m (with_volume k v c) ∙ written k v c below in
      others k w ∙ ap (λ l. level (with_volume k 15 w) + l) (ap (loudness (output k w)) volume ∙ is_share (output k w) v);
  at_least = at_least;
  at_most = at_most;
  silence = all_off;
}
