-- What has not risen is not counted.
use Rattle.std.proofs.Common.{ℕ, ◌≡◌, ◌∙◌, refl, ap, Bool, true, false}
use Rattle.std.specs.Prelude.{if◌then◌else◌}
use Rattle.beeb_bits.specs.declared.Side.{Side}
use Rattle.beeb_bits.specs.declared.Side.TheVariants.{Host}
use Rattle.tube_chip.specs.declared.Op.TheVariants.{Read, Write}
use Rattle.tube_chip.specs.State.{State, asks_nmi, lines_of}
use Rattle.tube_chip.specs.Act.{is_status, register_number, read_by, count_of_rises, with_counts, chip_after}

-- what holds before and after, or neither time
pub no_rise : (b : Bool) (n : ℕ) → count_of_rises b b n ≡ n
no_rise true n = refl
no_rise false n = refl

-- no line depends on register 2
pub register_2_written : (c : State) (byte : ℕ) → lines_of (chip_after c Host (Write 3 byte)) ≡ lines_of c
register_2_written c byte =
    ap (λ (n : ℕ). record (lines_of c) { nmis = n; resets = count_of_rises c.flags.p c.flags.p c.resets }) (no_rise (asks_nmi c) c.nmis)
    ∙ ap (λ (n : ℕ). record (lines_of c) { resets = n }) (no_rise c.flags.p c.resets)

pub counted_same : (c : State) → with_counts c c ≡ c
counted_same c = λ i. record c { nmis = no_rise (asks_nmi c) c.nmis i; resets = no_rise c.flags.p c.resets i }

-- a read of a status register leaves the chip unchanged
pub status_leaves : (c : State) (side : Side) (number : ℕ) → is_status number ≡ true → chip_after c side (Read number) ≡ c
status_leaves c side number is =
    ap (λ (b : Bool). with_counts c (if b then c else read_by side (register_number number) c)) is ∙ counted_same c
