-- A register of the Tube, event by event.
use Rattle.std.proofs.Common.{◌≡◌, ◌∙◌, sym, ap, refl, ℕ, ◌-◌, ◌*◌, ◌%◌, ◌<◌, ◌≤◌, ◌==◌, ◌&&◌, ◌||◌, Bool, true, false, not, List}
use Rattle.std.proofs.Common.{[], ◌∷◌, ◌++◌, arith, inl, inr}
use Rattle.std.specs.Prelude.{Option, None, Some, is_some, nat_lt, if◌then◌else◌}
use Rattle.std.proofs.lemmas.Bool.{ne_eqb, eqb-true, cases_Bool}
use Rattle.std.proofs.lemmas.List.{append-nil, append_assoc}
use Rattle.beeb_bits.specs.Bits.{bit}
use Rattle.std.proofs.lemmas.Grind.{common_steps}
use Rattle.beeb_bits.specs.declared.Side.{Side}
use Rattle.beeb_bits.specs.declared.Side.TheVariants.{Host, Para}
use Rattle.tube_chip.specs.declared.Op.TheVariants.{Read, Write, Reset}
use Rattle.tube_chip.specs.declared.Answer.{Answer}
use Rattle.tube_chip.specs.Register.{Register, held_bytes, count, front_of, take_leaves, write_leaves}
use Rattle.tube_chip.specs.State.{State, Flags, Bank, register, with_register, incoming_bank, capacity, is_empty, power_on, clear_leaves}
use Rattle.tube_chip.specs.Act.{Query, access, look, is_status, register_number, flags_after, answer_of, control_leaves, read_by, written_by}
use Rattle.tube_chip.specs.Act.{op_leaves, with_counts, chip_after, act}
use Rattle.tube_chip.specs.Events.{Event, after_from}
use Rattle.law_chips.specs.Queues.{reader, queue, byte_number, byte_sent, clears, destroys, byte_shown, is_read, read_out, the_byte, written_in}
use Rattle.law_chips.specs.Queues.{leaves, comes, over, MayAsk, DestroysNothing, ClearsNothing, RegistersAreQueues, NothingIsLost, FifoLosesNothing}

-- registers have numbers 1 to 4
pub four : (P : ℕ → Type 0) → P 1 → P 2 → P 3 → P 4 → (k : ℕ) → 1 ≤ k → k ≤ 4 → P k
four P a b c d k low high = grind arith

-- one register of a bank changes, and no other
Changes : (ℕ → Register → Register) → Bank → ℕ → ℕ → Type 0
Changes f bank j k = register k (with_register j (f j (register j bank)) bank) ≡ (if j == k then f k (register k bank) else register k bank)

changes : (f : ℕ → Register → Register) (bank : Bank) (j k : ℕ) → 1 ≤ j → j ≤ 4 → 1 ≤ k → k ≤ 4 → Changes f bank j k
unfolding Changes
changes f bank j k lj hj lk hk =
    four (λ i. Changes f bank i k)
    (four (Changes f bank 1) refl refl refl refl k lk hk)
    (four (Changes f bank 2) refl refl refl refl k lk hk)
    (four (Changes f bank 3) refl refl refl refl k lk hk)
    (four (Changes f bank 4) refl refl refl refl k lk hk)
    j lj hj

-- the count of rises is no part of a register
counted_keeps : (from : Side) (k : ℕ) (old new : State) → queue from k (with_counts old new) ≡ queue from k new
counted_keeps Host k old new = refl
counted_keeps Para k old new = refl

-- an odd number is that of a byte, and an even one that of a status
odd_is : (number k : ℕ) → is_status number ≡ false → 1 ≤ k → (number == byte_number k) ≡ (register_number number == k)
odd_is number k odd low = grind arith

even_is : (number k : ℕ) → is_status number ≡ true → 1 ≤ k → (number == byte_number k) ≡ false
even_is number k even low = grind arith

-- The bytes that leave and enter a register at an event: it clears all (z), writes byte s, or reads
-- (r).
record Balance (z : Bool) (s : Option ℕ) (r : Bool) (room : ℕ) (shown made : List ℕ) (q after : Register) : Type 0 where
  pub is :
      (if z || (is_some s && ((room == 1) && not (is_empty q))) then held_bytes q else if r && not (is_empty q) then shown else []) ++ held_bytes after
      ≡ held_bytes q
      ++ (if z then made else if z || (is_some s && ((room == 1) && not (is_empty q))) then the_byte s else if nat_lt (count q) room then the_byte s else [])

balanced : {z z' : Bool} {s s' : Option ℕ} {r : Bool} {room : ℕ} {shown made : List ℕ} {q after after' : Register} →
    z ≡ z' → s ≡ s' → after ≡ after' → Balance z' s' r room shown made q after' → Balance z s r room shown made q after
balanced ez es ea balance = grind arith

nothing_comes : (b : Bool) (bytes : List ℕ) → bytes ≡ bytes ++ (if b then [] else [])
nothing_comes b bytes = grind (arith, append-nil)

-- an event that has nothing to do with the register
apart : (room : ℕ) (shown made : List ℕ) (q : Register) → Balance false None false room shown made q q
apart room shown made q = grind (arith, nothing_comes)

untouched : {z : Bool} {s : Option ℕ} {room : ℕ} {shown made : List ℕ} {q after : Register} → z ≡ false → s ≡ None → after ≡ q →
    Balance z s false room shown made q after
untouched ez es ea = balanced ez es ea (apart _ _ _ _)

-- a read, or none
one_read : (b : Bool) (room : ℕ) (shown made : List ℕ) (q : Register) → (b ≡ true → shown ≡ front_of q ∷ []) →
    Balance false None b room shown made q (if b then take_leaves q else q)
one_read b room shown made q is = record { is = grind (arith, common_steps) }

-- a write to a register for one byte, or for more
one_byte : (room byte : ℕ) (shown made : List ℕ) (q : Register) → 1 ≤ room →
    Balance false (Some byte) false room shown made q (write_leaves room byte q)
one_byte room byte shown made q some = record { is = grind (arith, common_steps) }

one_write : (b : Bool) (room byte : ℕ) (shown made : List ℕ) (q : Register) → 1 ≤ room →
    Balance false (if b then Some byte else None) false room shown made q (if b then write_leaves room byte q else q)
one_write false room byte shown made q some = apart room shown made q
one_write true room byte shown made q some = one_byte room byte shown made q some

-- a clear, or none
one_clear : (z : Bool) (room : ℕ) (shown made : List ℕ) (q after : Register) → (z ≡ true → held_bytes after ≡ made) → (z ≡ false → after ≡ q) →
    Balance z None false room shown made q after
one_clear z room shown made q after cleared stays = record { is = grind (arith, common_steps) }

has_capacity : (from : Side) (k : ℕ) (flags : Flags) → 1 ≤ capacity from k flags
has_capacity from k flags = grind arith

-- ---- The effect of an event on a register

number_low : (number : ℕ) → number < 8 → register_number number ≤ 4
number_low number low = omega arith

number_some : (number : ℕ) → 1 ≤ register_number number
number_some number = omega arith

-- A read by the side that reads the register takes its byte, if the number is that of the byte.
read_by_reader : (from : Side) (k number : ℕ) (c : State) → number < 8 → 1 ≤ k → k ≤ 4 →
    queue from k (read_by (reader from) (register_number number) c)
    ≡ (if register_number number == k then take_leaves (queue from k c) else queue from k c)
unfolding Changes
read_by_reader Host k number c low lk hk =
    changes (λ i r. take_leaves r) c.to_para (register_number number) k (number_some number) (number_low number low) lk hk
read_by_reader Para k number c low lk hk =
    changes (λ i r. take_leaves r) c.to_host (register_number number) k (number_some number) (number_low number low) lk hk

after_read : (from : Side) (k number : ℕ) (c : State) → number < 8 → 1 ≤ k → k ≤ 4 →
    queue from k (chip_after c (reader from) (Read number)) ≡ (if number == byte_number k then take_leaves (queue from k c) else queue from k c)
after_read from k number c low lk hk =
    counted_keeps from k c (op_leaves c (reader from) (Read number))
    ∙ elim (cases_Bool (is_status number)) [
      | inl even ↦
          ap (λ b. queue from k (if b then c else read_by (reader from) (register_number number) c)) even
          ∙ sym (ap (λ b. if b then take_leaves (queue from k c) else queue from k c) (even_is number k even lk))
      | inr odd ↦
          ap (λ b. queue from k (if b then c else read_by (reader from) (register_number number) c)) odd
          ∙ read_by_reader from k number c low lk hk
          ∙ sym (ap (λ b. if b then take_leaves (queue from k c) else queue from k c) (odd_is number k odd lk))
    ]

incoming_is : (from : Side) (k : ℕ) (c : State) → register k (incoming_bank (reader from) c) ≡ queue from k c
incoming_is Host k c = refl
incoming_is Para k c = refl

-- The read gives the front byte.
read_shows : (from : Side) (k number : ℕ) (c : State) → 1 ≤ k → (number == byte_number k) ≡ true →
    answer_of c (reader from) (Read number) ≡ front_of (queue from k c)
read_shows from k number c low is =
    let e : number ≡ 2 * k - 1 = eqb-true number (2 * k - 1) is in
    let odd : is_status number ≡ false = ne_eqb (number % 2) 0 (λ z. omega arith) in
    let same : register_number number ≡ k = omega arith in
    rw odd (ap (λ i. front_of (register i (incoming_bank (reader from) c))) same ∙ ap front_of (incoming_is from k c))

own_read : (from : Side) (k number : ℕ) (c : State) → queue from k (chip_after c from (Read number)) ≡ queue from k c
own_read from k number c = grind arith

-- A write by the side that writes it.
write_by_own : (from : Side) (k number byte : ℕ) (c : State) → number < 8 → 1 ≤ k → k ≤ 4 →
    queue from k (written_by from (register_number number) byte c)
    ≡ (if register_number number == k then write_leaves (capacity from k c.flags) byte (queue from k c) else queue from k c)
unfolding Changes
write_by_own Host k number byte c low lk hk =
    changes (λ i r. write_leaves (capacity Host i c.flags) byte r) c.to_para (register_number number) k (number_some number) (number_low number low) lk hk
write_by_own Para k number byte c low lk hk =
    changes (λ i r. write_leaves (capacity Para i c.flags) byte r) c.to_host (register_number number) k (number_some number) (number_low number low) lk hk

pub after_odd_write : (from : Side) (k number byte : ℕ) (c : State) → is_status number ≡ false → number < 8 → 1 ≤ k → k ≤ 4 →
    queue from k (chip_after c from (Write number byte))
    ≡ (if number == byte_number k then write_leaves (capacity from k c.flags) byte (queue from k c) else queue from k c)
after_odd_write from k number byte c odd low lk hk = grind (arith, counted_keeps, write_by_own, odd_is)

after_odd_other : (from : Side) (k number byte : ℕ) (c : State) → is_status number ≡ false →
    queue from k (chip_after c (reader from) (Write number byte)) ≡ queue from k c
after_odd_other from k number byte c odd = grind arith

-- a write to a status: the control register, or nothing
after_control : (from : Side) (k number byte : ℕ) (c : State) → is_status number ≡ true →
    queue from k (chip_after c Host (Write number byte)) ≡ queue from k (if number == 0 then control_leaves byte c else c)
after_control from k number byte c even = grind arith

after_no_control : (from : Side) (k number byte : ℕ) (c : State) → is_status number ≡ true →
    queue from k (chip_after c Para (Write number byte)) ≡ queue from k c
after_no_control from k number byte c even = grind arith

control : Bool → Bool → Flags → State → State
control z t flags c = if z then (if t then clear_leaves (record c { flags = flags }) else record c { flags = flags }) else c

cleared_by : (z t : Bool) (from : Side) (k : ℕ) (flags : Flags) (c : State) → (z && t) ≡ true →
    held_bytes (queue from k (control z t flags c)) ≡ held_bytes (queue from k power_on)
unfolding control
cleared_by z t from k flags c is = grind arith

not_cleared : (z t : Bool) (from : Side) (k : ℕ) (flags : Flags) (c : State) → (z && t) ≡ false →
    queue from k (control z t flags c) ≡ queue from k c
unfolding control
not_cleared z t from k flags c is = grind arith

-- a write to the control register, or to another status
control_clears : (from : Side) (k number byte : ℕ) (c : State) (room : ℕ) (shown : List ℕ) →
    Balance ((number == 0) && (bit byte 7 && bit byte 6)) None false room shown (held_bytes (queue from k power_on)) (queue from k c)
    (queue from k (if number == 0 then control_leaves byte c else c))
unfolding control
control_clears from k number byte c room shown =
    let z = number == 0 in
    let t = bit byte 7 && bit byte 6 in
    one_clear (z && t) room shown _ (queue from k c) (queue from k (control z t (flags_after byte c.flags) c))
    (cleared_by z t from k (flags_after byte c.flags) c) (not_cleared z t from k (flags_after byte c.flags) c)

-- ---- Each event.

-- An event of these parts keeps the balance of a register.
Keeps : Side → ℕ → State → Side → Query → Answer → Type 0
Keeps from k c side query answer =
    (tick : ℕ) → let e : Event = record { tick = tick; side = side; query = query; answer = answer } in
    Balance (clears e) (byte_sent from k e) (is_read from k e) (capacity from k c.flags) (byte_shown answer) (held_bytes (queue from k power_on))
    (queue from k c)
    (queue from k (act c side query).0)

-- an odd number is not that of the control register
odd_clears_nothing : (number byte : ℕ) → is_status number ≡ false → ((number == 0) && (bit byte 7 && bit byte 6)) ≡ false
odd_clears_nothing number byte odd = grind arith

-- an even one is not that of a byte
even_sends_nothing : (number k byte : ℕ) → is_status number ≡ true → 1 ≤ k → (if number == byte_number k then Some byte else None) ≡ None
even_sends_nothing number k byte even lk = grind arith

-- a write to an odd number, by the side that writes the register
own_write_odd : (from : Side) (k number byte : ℕ) (c : State) (answer : Answer) → is_status number ≡ false → number < 8 → 1 ≤ k → k ≤ 4 →
    Keeps from k c from (access (Write number byte)) answer
unfolding Keeps
own_write_odd Host k number byte c answer odd low lk hk tick =
    balanced (odd_clears_nothing number byte odd) refl (after_odd_write Host k number byte c odd low lk hk)
    (one_write (number == byte_number k) _ byte _ _ (queue Host k c) (has_capacity Host k c.flags))
own_write_odd Para k number byte c answer odd low lk hk tick =
    balanced refl refl (after_odd_write Para k number byte c odd low lk hk)
    (one_write (number == byte_number k) _ byte _ _ (queue Para k c) (has_capacity Para k c.flags))

-- by the side that reads it
other_write_odd : (from : Side) (k number byte : ℕ) (c : State) (answer : Answer) → is_status number ≡ false →
    Keeps from k c (reader from) (access (Write number byte)) answer
unfolding Keeps
other_write_odd Host k number byte c answer odd tick = untouched refl refl (after_odd_other Host k number byte c odd)
other_write_odd Para k number byte c answer odd tick =
    untouched (odd_clears_nothing number byte odd) refl (after_odd_other Para k number byte c odd)

-- the host's write to an even number
host_write_even : (from : Side) (k number byte : ℕ) (c : State) (answer : Answer) → is_status number ≡ true → 1 ≤ k →
    Keeps from k c Host (access (Write number byte)) answer
unfolding Keeps
host_write_even Host k number byte c answer even lk tick =
    balanced refl (even_sends_nothing number k byte even lk) (after_control Host k number byte c even) (control_clears Host k number byte c _ _)
host_write_even Para k number byte c answer even lk tick =
    balanced refl refl (after_control Para k number byte c even) (control_clears Para k number byte c _ _)

-- the parasite's
para_write_even : (from : Side) (k number byte : ℕ) (c : State) (answer : Answer) → is_status number ≡ true → 1 ≤ k →
    Keeps from k c Para (access (Write number byte)) answer
unfolding Keeps
para_write_even Host k number byte c answer even lk tick = untouched refl refl (after_no_control Host k number byte c even)
para_write_even Para k number byte c answer even lk tick =
    untouched refl (even_sends_nothing number k byte even lk) (after_no_control Para k number byte c even)

-- reads
reader_reads : (from : Side) (k number : ℕ) (c : State) (answer : Answer) → number < 8 → 1 ≤ k → k ≤ 4 →
    (act c (reader from) (access (Read number))).1 ≡ answer → Keeps from k c (reader from) (access (Read number)) answer
unfolding Keeps
reader_reads Host k number c answer low lk hk answered tick =
    balanced refl refl (after_read Host k number c low lk hk) (one_read (number == byte_number k) _ _ _ (queue Host k c)
    (λ is. ap byte_shown (sym answered) ∙ ap (λ byte. byte ∷ []) (read_shows Host k number c lk is)))
reader_reads Para k number c answer low lk hk answered tick =
    balanced refl refl (after_read Para k number c low lk hk) (one_read (number == byte_number k) _ _ _ (queue Para k c)
    (λ is. ap byte_shown (sym answered) ∙ ap (λ byte. byte ∷ []) (read_shows Para k number c lk is)))

own_reads : (from : Side) (k number : ℕ) (c : State) (answer : Answer) → Keeps from k c from (access (Read number)) answer
unfolding Keeps
own_reads Host k number c answer tick = untouched refl refl (own_read Host k number c)
own_reads Para k number c answer tick = untouched refl refl (own_read Para k number c)

-- a reset clears all
resets : (from : Side) (k : ℕ) (c : State) (answer : Answer) → Keeps from k c Host (access Reset) answer
unfolding Keeps
resets from k c answer = grind arith

resets_by : (from side : Side) (k : ℕ) (c : State) (answer : Answer) → side ≡ Host → Keeps from k c side (access Reset) answer
resets_by from side k c answer is = grind (arith, resets)

looks : (from side : Side) (k : ℕ) (c : State) (answer : Answer) → Keeps from k c side look answer
unfolding Keeps
looks Host Host k c answer tick = untouched refl refl refl
looks Host Para k c answer tick = untouched refl refl refl
looks Para Host k c answer tick = untouched refl refl refl
looks Para Para k c answer tick = untouched refl refl refl

each : (from side : Side) (query : Query) (k : ℕ) (c : State) (answer : Answer) → 1 ≤ k → k ≤ 4 → MayAsk side query →
    (act c side query).1 ≡ answer → Keeps from k c side query answer
each from side look k c answer lk hk may answered = looks from side k c answer
each from side (access Reset) k c answer lk hk may answered = resets_by from side k c answer may
each Host Host (access (Read number)) k c answer lk hk may answered = own_reads Host k number c answer
each Host Para (access (Read number)) k c answer lk hk may answered = reader_reads Host k number c answer may lk hk answered
each Para Host (access (Read number)) k c answer lk hk may answered = reader_reads Para k number c answer may lk hk answered
each Para Para (access (Read number)) k c answer lk hk may answered = own_reads Para k number c answer
each Host Host (access (Write number byte)) k c answer lk hk may answered = elim (cases_Bool (is_status number)) [
  | inl even ↦ host_write_even Host k number byte c answer even lk
  | inr odd ↦ own_write_odd Host k number byte c answer odd may lk hk
]
each Host Para (access (Write number byte)) k c answer lk hk may answered = elim (cases_Bool (is_status number)) [
  | inl even ↦ para_write_even Host k number byte c answer even lk
  | inr odd ↦ other_write_odd Host k number byte c answer odd
]
each Para Host (access (Write number byte)) k c answer lk hk may answered = elim (cases_Bool (is_status number)) [
  | inl even ↦ host_write_even Para k number byte c answer even lk
  | inr odd ↦ other_write_odd Para k number byte c answer odd
]
each Para Para (access (Write number byte)) k c answer lk hk may answered = elim (cases_Bool (is_status number)) [
  | inl even ↦ para_write_even Para k number byte c answer even lk
  | inr odd ↦ own_write_odd Para k number byte c answer odd may lk hk
]

one_event : (from : Side) (k : ℕ) (c : State) (e : Event) → 1 ≤ k → k ≤ 4 → MayAsk e.side e.query → (act c e.side e.query).1 ≡ e.answer →
    leaves from k c e ++ held_bytes (queue from k (act c e.side e.query).0) ≡ held_bytes (queue from k c) ++ comes from k c e
unfolding Keeps
one_event from k c e lk hk may answered = (each from e.side e.query k c e.answer lk hk may answered e.tick).is

-- ---- Runs.

-- the bytes that leave and enter, with one event in front
one_more : (left lefts here next comes more last : List ℕ) → left ++ next ≡ here ++ comes → lefts ++ last ≡ next ++ more →
    (left ++ lefts) ++ last ≡ here ++ (comes ++ more)
one_more left lefts here next comes more last first rest =
    append_assoc left lefts last ∙ ap (λ bytes. left ++ bytes) rest ∙ sym (append_assoc left next more)
    ∙ ap (λ bytes. bytes ++ more) first ∙ append_assoc here comes more

pub all_queues : RegistersAreQueues
all_queues from k c [] lk hk may answered = sym (append-nil (held_bytes (queue from k c)))
all_queues from k c (e ∷ events) lk hk may answered =
    let d = (act c e.side e.query).0 in
    one_more (leaves from k c e) (over (leaves from k) d events) (held_bytes (queue from k c)) (held_bytes (queue from k d)) (comes from k c e)
    (over (comes from k) d events) (held_bytes (queue from k (after_from d events)))
    (one_event from k c e lk hk may.0 answered.0) (all_queues from k d events lk hk may.1 answered.1)

-- if nothing is destroyed
only_read : (from : Side) (k : ℕ) (c : State) (e : Event) → destroys from k c e ≡ false → leaves from k c e ≡ read_out from k c e
only_read from k c e keeps = grind arith

only_written : (from : Side) (k : ℕ) (c : State) (e : Event) → destroys from k c e ≡ false → comes from k c e ≡ written_in from k c e
only_written from k c e keeps = grind arith

pub all_kept : NothingIsLost
all_kept from k c [] lk hk may answered keeps = sym (append-nil (held_bytes (queue from k c)))
all_kept from k c (e ∷ events) lk hk may answered keeps =
    let d = (act c e.side e.query).0 in
    one_more (read_out from k c e) (over (read_out from k) d events) (held_bytes (queue from k c)) (held_bytes (queue from k d)) (written_in from k c e)
    (over (written_in from k) d events) (held_bytes (queue from k (after_from d events)))
    (ap (λ bytes. bytes ++ held_bytes (queue from k d)) (sym (only_read from k c e keeps.0)) ∙ one_event from k c e lk hk may.0 answered.0
    ∙ ap (λ bytes. held_bytes (queue from k c) ++ bytes) (only_written from k c e keeps.0))
    (all_kept from k d events lk hk may.1 answered.1 keeps.1)

-- register 1 to the host is for 24 bytes
fifo_keeps : (z a b : Bool) → z ≡ false → (z || (a && (false && b))) ≡ false
fifo_keeps z true b stays = rw stays
fifo_keeps z false b stays = rw stays

fifo_destroys_nothing : (c : State) (events : List Event) → ClearsNothing events → DestroysNothing Para 1 c events
fifo_destroys_nothing c [] clear = tt
fifo_destroys_nothing c (e ∷ events) clear = (
  fifo_keeps (clears e) (is_some (byte_sent Para 1 e)) (not (is_empty (queue Para 1 c))) clear.0,
  fifo_destroys_nothing (act c e.side e.query).0 events clear.1,
)

pub fifo_kept : FifoLosesNothing
fifo_kept c events may answered clear =
    all_kept Para 1 c events (omega arith) (omega arith) may answered (fifo_destroys_nothing c events clear)
