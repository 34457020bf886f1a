-- The output level. (SN76489AN data sheet, Attenuators: 2 dB a step, and off.)
use Rattle.std.specs.Prelude.{ℕ, ◌+◌, ◌%◌, ◌==◌, Bool, List, [], ◌∷◌, slice_index, if◌then◌else◌}
use Rattle.sn76489.specs.State.{State, Noise}

-- the amplitudes of volumes 0 to 15
abbrev pub amplitudes : List ℕ
amplitudes =
    8191 ∷ 6506 ∷ 5168 ∷ 4105 ∷ 3261 ∷ 2590 ∷ 2057 ∷ 1634 ∷ 1298 ∷ 1031 ∷ 819 ∷ 650 ∷ 517 ∷ 410 ∷ 326 ∷ 0 ∷ []

-- an output of 1 has its volume's amplitude
abbrev pub loudness : Bool → ℕ → ℕ
loudness output volume = if output then slice_index amplitudes volume else 0

abbrev pub noise_output : Noise → Bool
noise_output n = n.register % 2 == 1

-- The level is the sum of the four outputs.
abbrev pub level : State → ℕ
level c =
    loudness c.tone1.output c.tone1.volume + loudness c.tone2.output c.tone2.volume + loudness c.tone3.output c.tone3.volume
    + loudness (noise_output c.noise) c.noise.volume
