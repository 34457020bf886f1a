-- The entries of a side, and the chip, one entry at a time.
use Rattle.std.proofs.Common.{◌≡◌, refl, ℕ, ◌+◌, ◌<◌, ◌≤◌, List, [], ◌∷◌, length, drop, get_or, Bool, true, false, ◌&&◌, nat_lt, Some, None}
use mathlib.Core.Bool.{beq}
use Rattle.std.specs.Prelude.{slice_get}
use Rattle.std.proofs.Common.{eqb, arith}
use Rattle.std.proofs.lemmas.Bool.Decides.{nat_tests}
use Rattle.tube_chip.specs.declared.Lines.{Lines}
use Rattle.std.proofs.lemmas.List.{drop_more}
use Rattle.std.proofs.Math.ListN.{drop_of_length-le}
use Rattle.std.proofs.lemmas.Option.{slice_get-get_or}
use Rattle.beeb_bits.specs.declared.Side.{Side}
use Rattle.beeb_bits.specs.declared.Side.TheVariants.{Host}
use Rattle.tube_chip.specs.Events.{is_side}
use Rattle.tube_trace.specs.declared.Entry.{Entry}
use Rattle.tube_chip.specs.declared.Op.{Op}
use Rattle.tube_chip.specs.declared.Op.TheVariants.{Read}
use Rattle.beeb_bits.specs.Order.{before}
use Rattle.tube_chip.specs.State.{State}
use Rattle.tube_chip.specs.Act.{chip_after}
use Rattle.tube_party.specs.Replay.{chip_before, is_that, next_line}
use Rattle.tube_party.specs.CodeCursor.{own_left, IsOwnAt, Takes, Misses}

-- it is of the side, below n
abbrev pub owned : Side → ℕ → Entry → Bool
owned side n x = is_side side x.side && nat_lt (x.tick).0 n

pub own_take : (trace : List Entry) (side : Side) (n at : ℕ) (d : Entry) → at < length trace → owned side n (get_or trace at d) ≡ true →
    own_left trace side n at ≡ record { line = at + 1; entry = get_or trace at d } ∷ own_left trace side n (at + 1)
own_take trace side n at d h is = rw (drop_more trace at d h, is) refl

pub own_past : (trace : List Entry) (side : Side) (n at : ℕ) → length trace ≤ at → own_left trace side n at ≡ []
own_past trace side n at h = rw (drop_of_length-le trace h) refl

get_here : (trace : List Entry) (at : ℕ) (d : Entry) → at < length trace → slice_get trace at ≡ Some (get_or trace at d)
get_here trace at d h = slice_get-get_or trace at d h

pub own_at : (trace : List Entry) (side : Side) (n at : ℕ) (d : Entry) → at < length trace → IsOwnAt trace side n at → owned side n (get_or trace at d) ≡ true
own_at trace side n at d h own =
    rw (get_here trace at d h) at own

-- the chip

-- an entry that comes before a look is done, another is not, and no entry after it
pub chip_past : (trace : List Entry) (side : Side) (t at : ℕ) (d : Entry) (c : State) → at < length trace
    → before (get_or trace at d).tick.0 (get_or trace at d).side t side ≡ true
    → chip_before side t c (drop at trace) ≡ chip_before side t (chip_after c (get_or trace at d).side (get_or trace at d).op) (drop (at + 1) trace)
chip_past trace side t at d c h is = rw (drop_more trace at d h, is) refl

pub chip_here : (trace : List Entry) (side : Side) (t at : ℕ) (d : Entry) (c : State) → at < length trace
    → before (get_or trace at d).tick.0 (get_or trace at d).side t side ≡ false → chip_before side t c (drop at trace) ≡ c
chip_here trace side t at d c h is = rw (drop_more trace at d h, is) refl

pub chip_end : (trace : List Entry) (side : Side) (t at : ℕ) (c : State) → length trace ≤ at → chip_before side t c (drop at trace) ≡ c
chip_end trace side t at c h = rw (drop_of_length-le trace h) refl

-- lines that a test finds the same

pub same-lines : (a b : Lines)
    → (beq a.prst b.prst && (eqb a.resets b.resets && (eqb a.nmis b.nmis && (beq a.pirq b.pirq && beq a.hirq b.hirq)))) ≡ true → a ≡ b
same-lines a b e = grind (arith, nat_tests)

-- the next entry of the side

pub takes_here : (trace : List Entry) (side : Side) (n at tick : ℕ) (op : Op) (d : Entry) → at < length trace → is_that (get_or trace at d) tick op ≡ true → IsOwnAt trace side n at →
    (at < length trace) × Takes (own_left trace side n at) (own_left trace side n (at + 1)) tick op (get_or trace at d).answer
takes_here trace side n at tick op d h that own =
    (h, record { next = record { line = at + 1; entry = get_or trace at d }; split = own_take trace side n at d h (own_at trace side n at d h own); that = that; answer = refl })

pub misses_here : (trace : List Entry) (side : Side) (n at tick : ℕ) (op : Op) (d : Entry) → at < length trace → is_that (get_or trace at d) tick op ≡ false → IsOwnAt trace side n at →
    Misses (own_left trace side n at) (length trace) tick op (at + 1)
misses_here trace side n at tick op d h that own = rw (own_take trace side n at d h (own_at trace side n at d h own)) (refl, that)

any_entry : Entry
any_entry = record { tick = record { 0 = 0 }; side = Host; op = Read 0; answer = 0 }

pub next_line_here : (trace : List Entry) (side : Side) (n at : ℕ) → at < length trace → IsOwnAt trace side n at → Some (at + 1, None) ≡ next_line (own_left trace side n at)
next_line_here trace side n at h own =
    rw (own_take trace side n at any_entry h (own_at trace side n at any_entry h own)) refl

pub next_line_past : (trace : List Entry) (side : Side) (n at : ℕ) → length trace ≤ at → None ≡ next_line (own_left trace side n at)
next_line_past trace side n at h = rw (own_past trace side n at h) refl
