-- The beginning of BREAK, step by step.
use Rattle.std.proofs.Common.{◌≡◌, ◌∙◌, sym, ap, subst, refl, ℕ, zero, suc, ◌+◌, ◌-◌, ◌%◌, ◌<◌, ◌≤◌, ◌&&◌, ◌||◌, Bool, true, false, cond, List, [], ◌∷◌, ◌++◌, ◌⊎◌, inl, inr, append_assoc, arith}
use Rattle.std.specs.Prelude.{Option, None, Some, is_none, nat_lt, nat_le, if◌then◌else◌}
use Rattle.std.proofs.lemmas.Bool.{cases_Bool, true≢false, false≢true}
use Rattle.std.proofs.lemmas.Bool.Decides.{nat_tests}
use Rattle.std.proofs.lemmas.List.{append-nil}
use Rattle.std.proofs.lemmas.List.Recursion.{is_count_by}
use Rattle.beeb_bits.specs.declared.clock.Clock.{Clock}
use Rattle.beeb_bits.specs.declared.clock.Clock.TheVariants.{Three, Four}
use Rattle.beeb_bits.specs.Clock.{host, some-host}
use Rattle.op_table.specs.declared.names.Part.TheVariants.{Nmos}
use Rattle.cpu_alu.specs.declared.Cycle.{Cycle}
use Rattle.cpu_alu.specs.declared.Cycle.TheVariants.{Read, Write}
use Rattle.cpu6502.specs.Sequences.{next_cycle, after_byte, halted}
use Rattle.bus_plug.specs.Plug.{Plug}
use Rattle.rom_set.specs.Roms.{Roms}
use Rattle.disc_image.specs.Image.{Image}
use Rattle.key_script.specs.declared.Event.{Event}
use Rattle.key_script.specs.Events.{tick_of}
use Rattle.tube_chip.specs.declared.Answer.{Answer}
use Rattle.host_devices.specs.declared.map.Device.TheVariants.{RomLatch}
use Rattle.host_devices.specs.Map.{Place, Plugs, Sheila, place_of}
use Rattle.host_devices.specs.Breaks as breaks
use Rattle.host_devices.specs.Breaks.{breaks_until, is_break_by}
use Rattle.host_bus.specs.Bus.{BusState, clock_of, after_read_of, after_write_of, bus_break_pending}
use Rattle.tube_machine.specs.Step.{is_last_tick}
use Rattle.host_mach.specs.State.{HostState, cycle_of, power_on, with_tube}
use Rattle.host_mach.specs.Step.{byte_of, bus_after, cycle_ticks, is_break, after_break, after_step, host_closed, next_state}
use Rattle.host_mach.specs.Lawful.{cycle-ticks}
use Rattle.host_mach.specs.SameClock.{next_cycle-same}
use Rattle.host_mach.specs.SameBreaks.{access-leaves}
use Rattle.law_machines.specs.HostTicks.{run, IsOnCycle, HostKeepsCycles}
use Rattle.law_machines.specs.Breaks.{chance_by, chance, listed, chances, HasBreak, NoneBetween, IsFirst, BreaksAt, BreaksBegin}
use Rattle.law_machines.proofs.Counts.{never_ends, stays}
use Rattle.law_machines.proofs.HostCycles.{ended, last, some_cycles}

-- ---- counts of breaks

-- the number of breaks that have come by a tick
abbrev until : ℕ → List Event → ℕ
until t [] = 0
until t (e ∷ events) = cond (is_break_by t e) (1 + until t events) (until t events)

until_is : (t : ℕ) (events : List Event) → until t events ≡ breaks_until t events
until_is t events = is_count_by (until t) (is_break_by t) refl (λ e more. refl) events

-- the number of breaks with a tick below this one
abbrev below : ℕ → List Event → ℕ
below zero events = 0
below (suc u) events = breaks_until u events

add_up : (a b : Bool) {m n : ℕ} → (a ≡ true → b ≡ true) → m ≤ n → cond a (1 + m) m ≤ cond b (1 + n) n
add_up true true up more = omega arith
add_up true false up more = absurd (false≢true (up refl))
add_up false true up more = omega arith
add_up false false up more = more

one_up : (b : Bool) (t : ℕ) {u v : ℕ} → u ≤ v → (b && nat_le t u) ≡ true → (b && nat_le t v) ≡ true
one_up true t high is = grind (arith, nat_tests, high, is)
one_up false t high is = is

until_up : {u v : ℕ} (events : List Event) → u ≤ v → until u events ≤ until v events
until_up [] high = omega arith
until_up (e ∷ events) high =
    add_up _ _ (one_up _ (tick_of e) high) (until_up events high)

below_up : (low t : ℕ) (events : List Event) → low ≤ t + 1 → below low events ≤ breaks_until t events
below_up zero t events high = omega arith
below_up (suc u) t events high =
    let up : until u events ≤ until t events = until_up events (omega (arith, high)) in
    omega (arith, up, until_is u events, until_is t events)

-- If more have come by `t` than below a tick, one is between.
record Between (low t : ℕ) (events : List Event) : Type 0 where
  pub break : ℕ
  pub pressed : HasBreak break events
  pub from : low ≤ break
  pub by_then : break ≤ t

later : (low t : ℕ) (e : Event) (events : List Event) → Between low t events → Between low t (e ∷ events)
later low t e events b = record { break = b.break; pressed = inr b.pressed; from = b.from; by_then = b.by_then }

some_first : (b late : Bool) (t : ℕ) (e : Event) (events : List Event) → breaks.is_break e ≡ b → nat_le (tick_of e) t ≡ late →
    0 < cond (b && late) (1 + until t events) (until t events) → (0 < until t events → Between 0 t events) → Between 0 t (e ∷ events)
some_first true true t e events is here some rest =
    record { break = tick_of e; pressed = inl (is, refl); from = omega arith; by_then = grind (arith, nat_tests, here) }
some_first true false t e events is here some rest = later 0 t e events (rest some)
some_first false late t e events is here some rest = later 0 t e events (rest some)

some_by : {t : ℕ} (events : List Event) → 0 < until t events → Between 0 t events
some_by [] some = absurd (omega arith)
some_by {t} (e ∷ events) some = some_first (breaks.is_break e) (nat_le (tick_of e) t) t e events refl refl some (some_by events)

more_first : (b old late : Bool) {u t : ℕ} {e : Event} {events : List Event} → breaks.is_break e ≡ b → nat_le (tick_of e) u ≡ old → nat_le (tick_of e) t ≡ late →
    cond (b && old) (1 + until u events) (until u events) < cond (b && late) (1 + until t events) (until t events) →
    (until u events < until t events → Between (suc u) t events) → Between (suc u) t (e ∷ events)
more_first true false true {e} is first here more rest =
    record { break = tick_of e; pressed = inl (is, refl); from = grind (arith, nat_tests, first); by_then = grind (arith, nat_tests, here) }
more_first true true true {u} {t} {e} {events} is first here more rest = later (suc u) t e events (rest (omega arith))
more_first true true false {u} {t} {e} {events} is first here more rest = later (suc u) t e events (rest (omega arith))
more_first true false false {u} {t} {e} {events} is first here more rest = later (suc u) t e events (rest more)
more_first false old late {u} {t} {e} {events} is first here more rest = later (suc u) t e events (rest more)

more_by : {u t : ℕ} (events : List Event) → until u events < until t events → Between (suc u) t events
more_by [] more = absurd (omega arith)
more_by (e ∷ events) more =
    more_first _ _ _ refl refl refl more (more_by events)

between : (low : ℕ) {t : ℕ} {events : List Event} → below low events < breaks_until t events → Between low t events
between zero {t} {events} more = some_by events (omega (arith, more, until_is t events))
between (suc u) {t} {events} more = more_by events (omega (arith, more, until_is u events, until_is t events))

-- And if one is between, more have come.
counted : (b late : Bool) (m : ℕ) → b ≡ true → late ≡ true → 0 < cond (b && late) (1 + m) m
counted true true m is here = omega arith
counted true false m is here = cc
counted false late m is here = cc

some_rest : (b : Bool) {m : ℕ} → 0 < m → 0 < cond b (1 + m) m
some_rest true some = omega arith
some_rest false some = some

at_tick : {t break at : ℕ} → at ≡ break → break ≤ t → nat_le at t ≡ true
at_tick {t} {at} is high = let low : at ≤ t = omega arith in grind (arith, nat_tests, low)

past_tick : {u break at : ℕ} → at ≡ break → u < break → nat_le at u ≡ false
past_tick {u} {at} is low = let high : u < at = omega arith in grind (arith, nat_tests, high)

more_there : {t break : ℕ} (events : List Event) → HasBreak break events → break ≤ t → 0 < until t events
more_there [] has high = absurd has
more_there {t} (e ∷ events) (inl is) high =
    counted (breaks.is_break e) (nat_le (tick_of e) t) (until t events) is.0 (at_tick is.1 high)
more_there (e ∷ events) (inr has) high = some_rest _ (more_there events has high)

one_there : (b old late : Bool) (m n : ℕ) → b ≡ true → old ≡ false → late ≡ true → m ≤ n → cond (b && old) (1 + m) m < cond (b && late) (1 + n) n
one_there true false true m n is first here more = omega arith
one_there true true late m n is first here more = cc
one_there true false false m n is first here more = cc
one_there false old late m n is first here more = cc

rest_there : (a b : Bool) {m n : ℕ} → (a ≡ true → b ≡ true) → m < n → cond a (1 + m) m < cond b (1 + n) n
rest_there true true up more = omega arith
rest_there true false up more = absurd (false≢true (up refl))
rest_there false true up more = omega arith
rest_there false false up more = more

more_until : {u t break : ℕ} (events : List Event) → HasBreak break events → u < break → break ≤ t → until u events < until t events
more_until [] has low high = absurd has
more_until {u} {t} (e ∷ events) (inl is) low high =
    one_there (breaks.is_break e) (nat_le (tick_of e) u) (nat_le (tick_of e) t) (until u events) (until t events) is.0
    (past_tick is.1 low) (at_tick is.1 high) (until_up events (omega arith))
more_until (e ∷ events) (inr has) low high =
    rest_there _ _ (one_up _ (tick_of e) (omega arith))
    (more_until events has low high)

more_below : (low : ℕ) {t break : ℕ} (events : List Event) → HasBreak break events → low ≤ break → break ≤ t → below low events < breaks_until t events
more_below zero {t} events has from high =
    let more : 0 < until t events = more_there events has high in omega (arith, more, until_is t events)
more_below (suc u) {t} events has from high =
    let more : until u events < until t events = more_until events has (omega (arith, from)) high in
    omega (arith, more, until_is u events, until_is t events)

-- If none is pending at a tick, all breaks up to it are taken, and no later one.
all_taken : {low : ℕ} (u : ℕ) {taken : ℕ} (events : List Event) → taken ≡ below low events → low ≤ u + 1
    → nat_lt taken (breaks_until u events) ≡ false → taken ≡ below (suc u) events
all_taken {low} u {taken} events is high none =
    let most : breaks_until u events ≤ taken = grind (arith, nat_tests, none) in
    let least = below_up low u events high in
    omega arith

-- ---- lists of ticks

abbrev EachBy : (ℕ → Type 0) → List ℕ → Type 0
EachBy P [] = Unit {0}
EachBy P (u ∷ us) = P u × EachBy P us

each_by : {P Q : ℕ → Type 0} (us : List ℕ) → ((u : ℕ) → P u → Q u) → EachBy P us → EachBy Q us
each_by [] so all = tt
each_by (u ∷ us) so all = (so u all.0, each_by us so all.1)

each_both : (P : ℕ → Type 0) (us vs : List ℕ) → EachBy P us → EachBy P vs → EachBy P (us ++ vs)
each_both P [] vs all more = more
each_both P (u ∷ us) vs all more = (all.0, each_both P us vs all.1 more)

abbrev Within : ℕ → List ℕ → Type 0
Within u [] = ⊥
Within u (v ∷ vs) = (v ≡ u) ⊎ Within u vs

in_front : (u : ℕ) (us vs : List ℕ) → Within u us → Within u (us ++ vs)
in_front u [] vs has = absurd has
in_front u (v ∷ us) vs (inl is) = inl is
in_front u (v ∷ us) vs (inr has) = inr (in_front u us vs has)

at_end : (u : ℕ) (us : List ℕ) → Within u (us ++ u ∷ [])
at_end u [] = inl refl
at_end u (v ∷ us) = inr (at_end u us)

-- ---- one step

none_between : (break t : ℕ) (us : List ℕ) → EachBy (λ u. (u < break) ⊎ (u ≡ t)) us → NoneBetween break t us
none_between break t [] all = tt
none_between break t (u ∷ us) all = (all.0, none_between break t us all.1)

each_between : (break t : ℕ) (us : List ℕ) → NoneBetween break t us → EachBy (λ u. (u < break) ⊎ (u ≡ t)) us
each_between break t [] all = tt
each_between break t (u ∷ us) all = (all.0, each_between break t us all.1)

here_of : (P : ℕ → Type 0) {u : ℕ} (us : List ℕ) → EachBy P us → Within u us → P u
here_of P [] all has = absurd has
here_of P (v ∷ us) all (inl is) = subst P is all.0
here_of P (v ∷ us) all (inr has) = here_of P us all.1 has

both_parts : (p q : Bool) → (p && q) ≡ true → (p ≡ true) × (q ≡ true)
both_parts true true is = (refl, refl)
both_parts true false is = cc
both_parts false q is = cc

last_chance : (s : HostState) (o : Option Cycle) (stopped at_last : Bool) → is_last_tick (cycle_of s) s.due ≡ at_last → (is_none o || (stopped && at_last)) ≡ true →
    chance_by o stopped s ≡ Some s.due
last_chance s None stopped at_last is may = refl
last_chance s (Some c) true true is may = rw is
last_chance s (Some c) true false is may = cc
last_chance s (Some c) false at_last is may = cc

-- a break step is at a tick at which BREAK may begin
chance_of_break : (s : HostState) → is_break s ≡ true → chance s ≡ Some s.due
chance_of_break s is =
    last_chance s _ _ _ refl (both_parts _ _ is).1

pending_of_break : (s : HostState) → is_break s ≡ true → bus_break_pending s.bus.bus s.due ≡ true
pending_of_break s is = (both_parts _ _ is).0

by_parts : (p n h l : Bool) → p ≡ true → h ≡ true → l ≡ true → (p && (n || (h && l))) ≡ true
by_parts true true true true ep eh el = refl
by_parts true false true true ep eh el = refl
by_parts true n true false ep eh el = cc
by_parts true n false l ep eh el = cc
by_parts false n h l ep eh el = cc

broken_by : (s : HostState) (a : Option Answer) → is_break s ≡ true → next_state s a ≡ after_break (host_closed s (s.due + 1))
broken_by s a is = rw is

plain_by : (s : HostState) (a : Option Answer) {o : Option Cycle} → is_break s ≡ false → next_cycle s.cpu ≡ o → next_state s a ≡ after_step o (host_closed s (s.due + 1)) a
plain_by s a is next =
    ap (λ b. if b then after_break (host_closed s (s.due + 1)) else after_step (next_cycle s.cpu) (host_closed s (s.due + 1)) a) is
    ∙ ap (λ x. after_step x (host_closed s (s.due + 1)) a) next

-- accesses leave the script and the breaks that were taken
read_taken : (place : Place) (b : BusState) (at : ℕ) → (after_read_of place b at).board.breaks ≡ b.board.breaks
read_taken Plugs b at = refl
read_taken _ b at = refl

write_taken : (place : Place) (b : BusState) (at v : ℕ) → (after_write_of place b at v).board.breaks ≡ b.board.breaks
write_taken Plugs b at v = refl
write_taken (Sheila RomLatch) b at v = refl
write_taken _ b at v = refl

read_script : (place : Place) (b : BusState) (at : ℕ) → (after_read_of place b at).board.script ≡ b.board.script
read_script Plugs b at = refl
read_script _ b at = refl

write_script : (place : Place) (b : BusState) (at v : ℕ) → (after_write_of place b at v).board.script ≡ b.board.script
write_script Plugs b at v = refl
write_script (Sheila RomLatch) b at v = refl
write_script _ b at v = refl

same_taken : (b : BusState) (c : Cycle) → (bus_after b c).board.breaks ≡ b.board.breaks
same_taken b (Read at) = read_taken (place_of at) b at
same_taken b (Write at v) = write_taken (place_of at) b at v

same_script : (b : BusState) (c : Cycle) → (bus_after b c).board.script ≡ b.board.script
same_script b (Read at) = read_script (place_of at) b at
same_script b (Write at v) = write_script (place_of at) b at v

abbrev ticks_at : HostState → Cycle → ℕ
ticks_at s c = cycle_ticks (clock_of s.bus.bus) s.due c

some_ticks : (s : HostState) (c : Cycle) → 1 ≤ ticks_at s c
some_ticks s c = omega (arith, cycle-ticks (clock_of s.bus.bus) s.due c, some-host (clock_of s.bus.bus))

-- an access of a processor that is not halted begins no break step earlier than the next tick
rises_by : (breaks : Bool) {d n : ℕ} → 1 ≤ n → d ≤ (if breaks then d + (n - 1) else d + n)
rises_by true some = omega arith
rises_by false some = omega arith

-- If a break is pending at its last tick, an access of a halted processor ends at that tick,
-- otherwise after it.
module _ (s : HostState) (a : Option Answer) (c : Cycle) (next : next_cycle s.cpu ≡ Some c) (stopped : halted s.cpu ≡ true) (free : is_break s ≡ false) where
  abbrev end_tick : ℕ
  end_tick = s.due + (ticks_at s c - 1)

  same_cpu : (next_state s a).cpu ≡ s.cpu
  same_cpu = ap (λ (x : HostState). x.cpu) (plain_by s a free next) ∙ stays Nmos _ stopped

  bus_is : (next_state s a).bus.bus ≡ bus_after (host_closed s (s.due + 1)).bus.bus c
  bus_is = rw (plain_by s a free next)

  never_over : is_none (next_cycle (after_byte s.cpu (byte_of (host_closed s (s.due + 1)).bus s.due a c))) ≡ false
  never_over = ap (λ x. is_none (next_cycle x)) (stays Nmos _ stopped) ∙ never_ends Nmos s.cpu stopped

  due_is : (pending : Bool) → bus_break_pending s.bus.bus end_tick ≡ pending → (next_state s a).due ≡ (if pending then end_tick else s.due + ticks_at s c)
  due_is pending is =
      ap (λ (x : HostState). x.due) (plain_by s a free next)
      ∙ due_by (bus_break_pending s.bus.bus end_tick) (halted s.cpu) (is_none (next_cycle (after_byte s.cpu (byte_of (host_closed s (s.due + 1)).bus s.due a c)))) pending is stopped never_over
    where
      due_by : (p h over pending : Bool) → p ≡ pending → h ≡ true → over ≡ false
          → (if (p && h) || over then end_tick else s.due + ticks_at s c) ≡ (if pending then end_tick else s.due + ticks_at s c)
      due_by true true false true ep eh eo = refl
      due_by false true false false ep eh eo = refl
      due_by true h over false ep eh eo = cc
      due_by false h over true ep eh eo = cc
      due_by p false over pending ep eh eo = cc
      due_by p h true pending ep eh eo = cc

  module _ (on : s.due % cycle_of s ≡ 0) where
    at_last : is_last_tick (cycle_of s) end_tick ≡ true
    at_last =
        last _ end_tick
        (ended _ s.due
        (some_cycles _ _) on)

    begins_there : bus_break_pending s.bus.bus end_tick ≡ true → (is_break (next_state s a) ≡ true) × ((next_state s a).due ≡ end_tick)
    begins_there is =
        let at = due_is true is in
        let pending = ap (λ t. bus_break_pending (next_state s a).bus.bus t) at ∙ ap (λ (b : BusState). bus_break_pending b end_tick) bus_is
        ∙ access-leaves (host_closed s (s.due + 1)).bus.bus c end_tick ∙ is in
        let still = ap halted same_cpu ∙ stopped in
        let at_end = ap (λ t. is_last_tick (cycle_of (next_state s a)) t) at ∙ ap (λ k. is_last_tick (host k) end_tick) (next_cycle-same s a) ∙ at_last in (
          by_parts _ _ _
              _ pending still at_end,
          at,
        )

-- ---- over whole runs

-- The invariant before the next step, if BREAK might have begun at these ticks: all breaks up to
-- the last of them are taken.
record Inv (script : List Event) (us : List ℕ) (s : HostState) : Type 0 where
  pub low : ℕ
  pub script_is : s.bus.bus.board.script ≡ script
  pub taken : s.bus.bus.board.breaks ≡ below low script
  pub reached : low ≤ s.due
  pub on : IsOnCycle s
  pub latest : (low ≡ 0) ⊎ ((u : ℕ) × Within u us × (low ≡ suc u))
  pub earlier : EachBy (λ u. (u < low) ⊎ ((u ≡ s.due) × (is_break s ≡ true))) us

-- BREAK might begin at a tick, and all breaks up to it are taken after the step.
passes : {script : List Event} {us : List ℕ} {s y : HostState} {t : ℕ} → Inv script us s → chance s ≡ Some t → s.due ≤ t → y.bus.bus.board.script ≡ script →
    y.bus.bus.board.breaks ≡ below (suc t) script → suc t ≤ y.due → IsOnCycle y → Inv script (us ++ listed (chance s)) y
passes {us} {s} {y} {t} inv at high same taken reached on =
    rw at (record {
      low = suc t;
      script_is = same;
      taken = taken;
      reached = reached;
      on = on;
      latest = inr (t, at_end t us, refl);
      earlier =
          each_both (λ u. (u < suc t) ⊎ ((u ≡ y.due) × (is_break y ≡ true))) us (t ∷ [])
          (each_by us (λ u old. inl (sooner u old)) inv.earlier)
          (inl (omega arith), tt);
    })
  where
    sooner : (u : ℕ) → (u < inv.low) ⊎ ((u ≡ s.due) × (is_break s ≡ true)) → u < suc t
    sooner u (inl low) = omega arith
    sooner u (inr here) = omega arith

-- BREAK might begin at no tick.
stays_so : {script : List Event} {us : List ℕ} {s y : HostState} → Inv script us s → chance s ≡ None → is_break s ≡ false → y.bus.bus.board.script ≡ script →
    y.bus.bus.board.breaks ≡ s.bus.bus.board.breaks → s.due ≤ y.due → IsOnCycle y → Inv script (us ++ listed (chance s)) y
stays_so {script} {us} {s} {y} inv at free same taken high on =
    rw at (subst (λ xs. Inv script xs y) (sym (append-nil us)) (record {
      low = inv.low;
      script_is = same;
      taken = taken ∙ inv.taken;
      reached = omega (arith, inv.reached, high);
      on = on;
      latest = inv.latest;
      earlier = each_by us kept inv.earlier;
    }))
  where
    kept : (u : ℕ) → (u < inv.low) ⊎ ((u ≡ s.due) × (is_break s ≡ true)) → (u < inv.low) ⊎ ((u ≡ y.due) × (is_break y ≡ true))
    kept u (inl low) = inl low
    kept u (inr here) = absurd (true≢false (sym here.1 ∙ free))

-- The next step is the break step at that tick.
waits : (script : List Event) (us : List ℕ) (s y : HostState) (t : ℕ) → Inv script us s → chance s ≡ Some t → s.due ≤ t → is_break s ≡ false → y.bus.bus.board.script ≡ script →
    y.bus.bus.board.breaks ≡ s.bus.bus.board.breaks → y.due ≡ t → is_break y ≡ true → IsOnCycle y → Inv script (us ++ listed (chance s)) y
waits script us s y t inv at high free same taken here breaks on =
    rw at (record {
      low = inv.low;
      script_is = same;
      taken = taken ∙ inv.taken;
      reached = omega (arith, inv.reached, high, here);
      on = on;
      latest = before inv.latest;
      earlier =
          each_both (λ u. (u < inv.low) ⊎ ((u ≡ y.due) × (is_break y ≡ true))) us (t ∷ [])
          (each_by us kept inv.earlier)
          (inr (sym here, breaks), tt);
    })
  where
    kept : (u : ℕ) → (u < inv.low) ⊎ ((u ≡ s.due) × (is_break s ≡ true)) → (u < inv.low) ⊎ ((u ≡ y.due) × (is_break y ≡ true))
    kept u (inl low) = inl low
    kept u (inr here) = absurd (true≢false (sym here.1 ∙ free))

    before : (inv.low ≡ 0) ⊎ ((u : ℕ) × Within u us × (inv.low ≡ suc u)) → (inv.low ≡ 0) ⊎ ((u : ℕ) × Within u (us ++ t ∷ []) × (inv.low ≡ suc u))
    before (inl none) = inl none
    before (inr (u, has, is)) = inr (u, in_front u us (t ∷ []) has, is)

not_pending : (p over rest : Bool) → (p && (over || rest)) ≡ false → over ≡ true → p ≡ false
not_pending true true rest is ended = cc
not_pending true false rest is ended = cc
not_pending false over rest is ended = refl

module _ (keeps : HostKeepsCycles) (script : List Event) where
  broken_step : {us : List ℕ} {s : HostState} (a : Option Answer) → is_break s ≡ true → Inv script us s → Inv script (us ++ listed (chance s)) (next_state s a)
  broken_step {s} a is inv =
      let y = next_state s a in
      let eq = broken_by s a is in
      passes inv (chance_of_break s is) (omega arith) (ap (λ (x : HostState). x.bus.bus.board.script) eq ∙ inv.script_is)
      (ap (λ (x : HostState). x.bus.bus.board.breaks) eq ∙ ap (λ events. breaks_until s.due events) inv.script_is)
      (let due : y.due ≡ s.due + 1 = rw eq in omega arith) (keeps.next s a inv.on)

  look_step : {us : List ℕ} {s : HostState} (a : Option Answer) → is_break s ≡ false → next_cycle s.cpu ≡ None → Inv script us s → Inv script (us ++ listed (chance s)) (next_state s a)
  look_step {s} a free over inv =
      let y = next_state s a in
      let eq = plain_by s a free over in
      let none = not_pending _ _ _ free (ap is_none over) in
      passes inv (ap (λ o. chance_by o (halted s.cpu) s) over) (omega arith) (ap (λ (x : HostState). x.bus.bus.board.script) eq ∙ inv.script_is)
      (ap (λ (x : HostState). x.bus.bus.board.breaks) eq
      ∙ all_taken s.due script inv.taken (omega arith) (ap (λ events. nat_lt s.bus.bus.board.breaks (breaks_until s.due events)) (sym inv.script_is) ∙ none))
      (let due : y.due ≡ s.due + 1 = rw eq in omega arith) (keeps.next s a inv.on)

  access_step : {us : List ℕ} {s : HostState} (a : Option Answer) {c : Cycle} → is_break s ≡ false → next_cycle s.cpu ≡ Some c → halted s.cpu ≡ false → Inv script us s →
      Inv script (us ++ listed (chance s)) (next_state s a)
  access_step {s} a {c} free next runs inv =
      let y = next_state s a in
      let eq = plain_by s a free next in
      stays_so inv (ap (λ o. chance_by o (halted s.cpu) s) next ∙ ap (λ b. chance_by (Some c) b s) runs) free
      (ap (λ (x : HostState). x.bus.bus.board.script) eq ∙ same_script (host_closed s (s.due + 1)).bus.bus c ∙ inv.script_is)
      (ap (λ (x : HostState). x.bus.bus.board.breaks) eq ∙ same_taken (host_closed s (s.due + 1)).bus.bus c)
      (subst (λ (x : HostState). s.due ≤ x.due) (sym eq) (rises_by _ (some_ticks s c))) (keeps.next s a inv.on)

  on_first : (s : HostState) {c : Cycle} → IsOnCycle s → is_break s ≡ false → next_cycle s.cpu ≡ Some c → s.due % cycle_of s ≡ 0
  on_first s on free next =
      rw (ap (λ b. b || is_none (next_cycle s.cpu)) free ∙ ap is_none next) at on

  not_at_last : (clock : Clock) (t : ℕ) → t % host clock ≡ 0 → is_last_tick (host clock) t ≡ false
  not_at_last Three t h = rw h
  not_at_last Four t h = rw h

  halted_chance : (s : HostState) {c : Cycle} → next_cycle s.cpu ≡ Some c → halted s.cpu ≡ true → s.due % cycle_of s ≡ 0 → chance s ≡ Some (s.due + (ticks_at s c - 1))
  halted_chance s {c} next stopped first =
      ap (λ o. chance_by o (halted s.cpu) s) next ∙ ap (λ b. chance_by (Some c) b s) stopped
      ∙ ap (λ b. Some (if b then s.due else s.due + (ticks_at s c - 1))) (not_at_last _ s.due first)

  halted_step : {us : List ℕ} {s : HostState} (a : Option Answer) {c : Cycle} → is_break s ≡ false → next_cycle s.cpu ≡ Some c → halted s.cpu ≡ true → Inv script us s →
      Inv script (us ++ listed (chance s)) (next_state s a)
  halted_step {us} {s} a {c} free next stopped inv =
      let y = next_state s a in
      let eq = plain_by s a free next in
      let first : s.due % cycle_of s ≡ 0 = on_first s inv.on free next in
      let t : ℕ = s.due + (ticks_at s c - 1) in
      let at : chance s ≡ Some t = halted_chance s next stopped first in
      let same_s = ap (λ (x : HostState). x.bus.bus.board.script) eq ∙ same_script (host_closed s (s.due + 1)).bus.bus c ∙ inv.script_is in
      let same_t : y.bus.bus.board.breaks ≡ s.bus.bus.board.breaks = ap (λ (x : HostState). x.bus.bus.board.breaks) eq ∙ same_taken (host_closed s (s.due + 1)).bus.bus c in
      elim (cases_Bool (bus_break_pending s.bus.bus t)) [
        | inl is ↦
            let there = begins_there s a c next stopped free first is in
            waits script us s y t inv at (omega arith) free same_s same_t there.1 there.0 (keeps.next s a inv.on)
        | inr none ↦
            let due : y.due ≡ s.due + ticks_at s c = due_is s a c next stopped free false none in
            passes inv at (omega arith) same_s
            (same_t ∙ all_taken t script inv.taken (omega (arith, inv.reached))
            (ap (λ events. nat_lt s.bus.bus.board.breaks (breaks_until t events)) (sym inv.script_is) ∙ none))
            (omega (arith, due, some_ticks s c)) (keeps.next s a inv.on)
      ]

  plain_step : (o : Option Cycle) {us : List ℕ} {s : HostState} (a : Option Answer) → is_break s ≡ false → next_cycle s.cpu ≡ o →
      Inv script us s → Inv script (us ++ listed (chance s)) (next_state s a)
  plain_step None a free next inv = look_step a free next inv
  plain_step (Some c) {s} a free next inv =
      elim (cases_Bool (halted s.cpu)) [
        | inl stopped ↦ halted_step a free next stopped inv
        | inr runs ↦ access_step a free next runs inv
      ]

  one_step : (us : List ℕ) (s : HostState) (a : Option Answer) → Inv script us s → Inv script (us ++ listed (chance s)) (next_state s a)
  one_step us s a inv =
      elim (cases_Bool (is_break s)) [
        | inl is ↦ broken_step a is inv
        | inr free ↦ plain_step _ a free refl inv
      ]

  all_steps : (answers : List (Option Answer)) (us : List ℕ) (s : HostState) → Inv script us s → Inv script (us ++ chances answers s) (run answers s)
  all_steps [] us s inv = rw (append-nil us) inv
  all_steps (a ∷ answers) us s inv =
      rw (append_assoc us (listed (chance s)) (chances answers (next_state s a))) at (all_steps answers (us ++ listed (chance s)) (next_state s a) (one_step us s a inv))

  -- ---- only there

  only_first : (us : List ℕ) (s : HostState) → Inv script us s → is_break s ≡ true → (chance s ≡ Some s.due) × IsFirst script s.due us
  only_first us s inv is =
      let pending = ap (λ events. nat_lt s.bus.bus.board.breaks (breaks_until s.due events)) (sym inv.script_is) ∙ pending_of_break s is in
      let more = rw inv.taken at (let l : s.bus.bus.board.breaks < breaks_until s.due script = grind (arith, nat_tests, pending) in l) in
      let b = between inv.low more in (
        chance_of_break s is,
        record {
          break = b.break;
          pressed = b.pressed;
          behind = b.by_then;
          none = none_between b.break s.due us (each_by us (λ u old. told b u old) inv.earlier);
        },
      )
    where
      told : (b : Between inv.low s.due script) (u : ℕ) → (u < inv.low) ⊎ ((u ≡ s.due) × (is_break s ≡ true)) → (u < b.break) ⊎ (u ≡ s.due)
      told b u (inl low) = inl (omega arith)
      told b u (inr here) = inr here.0

  -- ---- and at each such

  some_end : (at_last : Bool) {d : ℕ} (n : ℕ) {t : ℕ} → Some (if at_last then d else d + (n - 1)) ≡ Some t → d ≤ t
  some_end true {d} n {t} is = let same : d ≡ t = cc in omega arith
  some_end false {d} n {t} is = let same : d + (n - 1) ≡ t = cc in omega arith

  not_sooner : (o : Option Cycle) (stopped : Bool) (s : HostState) {t : ℕ} → chance_by o stopped s ≡ Some t → s.due ≤ t
  not_sooner None stopped s {t} is = let same : s.due ≡ t = cc in omega arith
  not_sooner (Some c) true s is = some_end _ _ is
  not_sooner (Some c) false s is = cc

  first_pending : (us : List ℕ) (s : HostState) (t : ℕ) → Inv script us s → chance s ≡ Some t → IsFirst script t us → bus_break_pending s.bus.bus t ≡ true
  first_pending us s t inv at first =
      let high : s.due ≤ t = not_sooner _ _ s at in
      let more = more_below inv.low script first.pressed (from inv.latest) first.behind in
      let here : s.bus.bus.board.breaks < breaks_until t script = subst (λ n. n < breaks_until t script) (sym inv.taken) more in
      ap (λ events. nat_lt s.bus.bus.board.breaks (breaks_until t events)) inv.script_is ∙ grind (arith, nat_tests, here)
    where
      sooner : (u : ℕ) → inv.low ≡ suc u → (u < first.break) ⊎ (u ≡ t) → inv.low ≤ first.break
      sooner u is (inl low) = omega arith
      sooner u is (inr same) =
          let high : s.due ≤ t = not_sooner _ _ s at in absurd (omega arith)

      from : (inv.low ≡ 0) ⊎ ((u : ℕ) × Within u us × (inv.low ≡ suc u)) → inv.low ≤ first.break
      from (inl none) = omega arith
      from (inr (u, has, is)) = sooner u is (here_of (λ v. (v < first.break) ⊎ (v ≡ t)) us (each_between first.break t us first.none) has)

  chance_some : {c : Cycle} (s : HostState) {t : ℕ} → next_cycle s.cpu ≡ Some c → halted s.cpu ≡ false → chance s ≡ Some t → ⊥
  chance_some {c} s next runs at =
      let none : chance s ≡ None = ap (λ o. chance_by o (halted s.cpu) s) next ∙ ap (λ b. chance_by (Some c) b s) runs in cc

  breaks_by : (o : Option Cycle) (us : List ℕ) (s : HostState) (t : ℕ) → next_cycle s.cpu ≡ o → Inv script us s → chance s ≡ Some t
      → bus_break_pending s.bus.bus t ≡ true → BreaksAt t s
  breaks_by None us s t over inv at pending =
      let here : Some s.due ≡ Some t = sym (ap (λ o. chance_by o (halted s.cpu) s) over) ∙ at in
      let same : s.due ≡ t = cc in
      inl (
        at_look (bus_break_pending s.bus.bus s.due) (is_none (next_cycle s.cpu)) (halted s.cpu && is_last_tick (cycle_of s) s.due)
            (ap (λ u. bus_break_pending s.bus.bus u) same ∙ pending) (ap is_none over),
        same,
      )
    where
      at_look : (p over rest : Bool) → p ≡ true → over ≡ true → (p && (over || rest)) ≡ true
      at_look true true rest ep eo = refl
      at_look true false rest ep eo = cc
      at_look false over rest ep eo = cc
  breaks_by (Some c) us s t next inv at pending =
      elim (cases_Bool (is_break s)) [
        | inl is ↦
            let here : Some s.due ≡ Some t = sym (chance_of_break s is) ∙ at in
            let same : s.due ≡ t = cc in
            inl (is, same)
        | inr free ↦ elim (cases_Bool (halted s.cpu)) [
          | inr runs ↦ absurd (chance_some s next runs at)
          | inl stopped ↦
              let first : s.due % cycle_of s ≡ 0 = on_first s inv.on free next in
              let here = sym (halted_chance s next stopped first) ∙ at in
              let same : s.due + (ticks_at s c - 1) ≡ t = cc in
              inr (λ a.
              let there = begins_there s a c next stopped free first (ap (λ u. bus_break_pending s.bus.bus u) same ∙ pending) in
              (there.0, there.1 ∙ same))
        ]
      ]

  at_first : (clock : Clock) (roms : Roms) (d0 d1 : Option Image) (plugs : List Plug) (tube : Bool) → Inv script [] (with_tube tube (power_on clock roms d0 d1 script plugs))
  at_first clock roms d0 d1 plugs tube = record {
    low = 0;
    script_is = refl;
    taken = refl;
    reached = omega arith;
    on = keeps.first clock roms d0 d1 script plugs;
    latest = inl refl;
    earlier = tt;
  }

pub breaks_begin : HostKeepsCycles → BreaksBegin
breaks_begin keeps = record {
  only = λ clock roms d0 d1 script plugs tube answers is.
      let p = with_tube tube (power_on clock roms d0 d1 script plugs) in
      only_first keeps script _ (run answers p) (all_steps keeps script answers [] p (at_first keeps script clock roms d0 d1 plugs tube)) is;
  each = λ clock roms d0 d1 script plugs tube answers t at first.
      let p = with_tube tube (power_on clock roms d0 d1 script plugs) in
      let s = run answers p in
      let inv = all_steps keeps script answers [] p (at_first keeps script clock roms d0 d1 plugs tube) in
      breaks_by keeps script _ (chances answers p) s t refl inv at (first_pending keeps script _ s t inv at first);
}
