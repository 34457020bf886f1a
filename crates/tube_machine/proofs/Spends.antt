-- Notes cost no more than a cycle each.
use Rattle.std.proofs.Common.{◌≡◌, ◌≤◌, ◌∙◌, ℕ, ◌+◌, ◌*◌, length, ap, refl, arith, false, Option, Some, None, IsSome, is_none, if◌then◌else◌}
use Rattle.std.proofs.Math.Nat.{mul-add, mul-one, mul-le-mul_left}
use Rattle.std.proofs.lemmas.List.{length_push}
use Rattle.op_table.specs.declared.names.Part.{Part}
use Rattle.op_table.specs.declared.names.Part.TheVariants.{Cmos}
use Rattle.cpu_alu.specs.declared.Cycle.{Cycle}
use Rattle.cpu_core.specs.State as cpu
use Rattle.cpu_core.specs.Sequences.{next_cycle, after_byte, shown_byte, halted}
use Rattle.tube_machine.specs.Exchange.{NoteBudget, spent, HasSpent, ready}

-- each access is one more cycle that was seen
pub seen-on : (part : Part) (s on : cpu.State) (byte : ℕ) → on ≡ after_byte part s byte → halted part s ≡ false → length on.seen ≡ length s.seen + 1
seen-on part s on byte gave goes = rw (gave, goes) (length_push s.seen (shown_byte (next_cycle part s) byte))

pub seen-more : (part : Part) (s on : cpu.State) (byte : ℕ) → on ≡ after_byte part s byte → part ≡ Cmos → length on.seen ≡ length s.seen + 1
seen-more part s on byte gave is = seen-on part s on byte gave (ap (λ (p : Part). halted p s) is)

-- one more cycle
pub one-more : (c n : ℕ) → c * (n + 1) ≡ c * n + c
one-more c n = mul-add c n 1 ∙ ap (λ (k : ℕ). c * n + k) (mul-one c)

pub none-spent : {counts : Type 0} {cycle safe_until : ℕ} {old : NoteBudget} → HasSpent counts cycle safe_until old old
none-spent = record { room = λ is. omega arith; late = λ is top high late. late }

-- and on from there
pub spent-on : {counts : Type 0} {cycle safe_until : ℕ} {old mid new : NoteBudget} → HasSpent counts cycle safe_until old mid
    → HasSpent counts cycle safe_until mid new → HasSpent counts cycle safe_until old new
spent-on a b = record { room = λ is. omega (arith, a.room is, b.room is); late = λ is top high late. b.late is top high (a.late is top high late) }

-- an access
pub spent-more : {counts : Type 0} {cycle safe_until room due seen : ℕ} {old now : NoteBudget} → HasSpent counts cycle safe_until old now → now.room ≤ room + 1
    → (counts → due ≡ now.due + cycle) → (counts → seen ≡ now.seen + 1) → HasSpent counts cycle safe_until old (spent due room seen)
spent-more {cycle = cycle} {room = room} {now = now} so_far one there more = record {
  room = λ is.
      let least : cycle * now.room ≤ cycle * (room + 1) = mul-le-mul_left cycle one in
      omega (arith, so_far.room is, least, one-more cycle room, there is);
  late = λ is top high late. omega (arith, so_far.late is top high late, ap (λ (k : ℕ). cycle * k) (more is), one-more cycle now.seen, there is);
}

-- some cycles and a look, up to a tick
pub spent-whole : {counts : Type 0} {cycle safe_until : ℕ} (k : ℕ) {room due seen : ℕ} {old now : NoteBudget} → HasSpent counts cycle safe_until old now → now.room ≤ room + k
    → now.due + cycle * k ≤ due → due ≤ safe_until → HasSpent counts cycle safe_until old (spent due room seen)
spent-whole {cycle = cycle} k {room} {now = now} so_far few here early = record {
  room = λ is.
      let least : cycle * now.room ≤ cycle * (room + k) = mul-le-mul_left cycle few in
      let sum : cycle * (room + k) ≡ cycle * room + cycle * k = mul-add cycle room k in
      omega (arith, so_far.room is, least, sum, here);
  late = λ is top high late. omega (arith, early, high);
}

-- the tick from which accesses come
pub ready-look : (part : Part) (c : cpu.State) (due : ℕ) → next_cycle part c ≡ None → ready part c due ≡ due + 1
ready-look part c due over = rw over

pub ready-on : (part : Part) (c : cpu.State) (due : ℕ) → IsSome (next_cycle part c) → ready part c due ≡ due
ready-on part c due on = by (next_cycle part c) on
  where
    by : (o : Option Cycle) → IsSome o → (if is_none o then due + 1 else due) ≡ due
    by (Some x) h = refl
    by None h = absurd (cc)

-- what holds if something holds, holds if more holds
pub spent-if : {counts fewer : Type 0} {cycle safe_until : ℕ} {old new : NoteBudget} → (fewer → counts) → HasSpent counts cycle safe_until old new → HasSpent fewer cycle safe_until old new
spent-if to so_far = record { room = λ is. so_far.room (to is); late = λ is. so_far.late (to is) }
