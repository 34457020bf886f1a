-- The boot ROM over runs of the second processor.
use Rattle.std.proofs.Common.{◌≡◌, ◌∙◌, ap, refl, ℕ, ◌==◌, ◌&&◌, ◌||◌, Bool, true, false, not, List, [], ◌∷◌, ◌++◌, ◌+◌, ◌⊎◌, inl, inr}
use Rattle.std.specs.Prelude.{Option, None, Some, if◌then◌else◌}
use Rattle.beeb_bits.specs.declared.clock.Clock.{Clock}
use Rattle.op_table.specs.declared.names.Part.TheVariants.{Cmos}
use Rattle.cpu_alu.specs.declared.Regs.{Regs}
use Rattle.cpu_alu.specs.declared.flags.TheConstants.{INTERRUPT}
use Rattle.cpu_alu.specs.Flags.{has_flag}
use Rattle.cpu_alu.specs.declared.Cycle.{Cycle}
use Rattle.cpu_alu.specs.declared.Cycle.TheVariants.{Read, Write}
use Rattle.cpu_core.specs.declared.Sequence.{Sequence}
use Rattle.cpu_core.specs.declared.Sequence.TheVariants.{Instruction, Reset, Nmi, Irq}
use Rattle.cpu65c02.specs.Sequences.{next_cycle, sequence_at_look, after}
use Rattle.tube_chip.specs.declared.Answer.{Answer}
use Rattle.para_mach.specs.State.{ParaState, power_on}
use Rattle.para_mach.specs.Step.{para_bus_model, next_state}
use Rattle.tube_machine.specs.Step.{lines_in, after_step, closed_to, byte_of}
use Rattle.law_machines.specs.Begins.{begun}
use Rattle.law_machines.specs.ParaTicks.{run}
use Rattle.law_machines.specs.BootRom.{reaches_by, reaches, IsReset, NoReset, IsSinceReset, RomIsIn}
use Rattle.law_machines.proofs.Beginning.{over_not_begun, access_not_begun}

not_reset : {q : Option Sequence} → q ≡ None → q ≡ Some Reset → ⊥
not_reset none is = cc

-- only a look that finds a reset begins one
no_other : (nmi irq : Bool) (r : Regs) → Some (sequence_at_look nmi irq r) ≡ Some Reset → ⊥
no_other true irq r is = cc
no_other false irq r is = by_flag (irq && not (has_flag r.p INTERRUPT)) is
  where
    by_flag : (b : Bool) → Some (if b then Irq else Instruction) ≡ Some Reset → ⊥
    by_flag true is = cc
    by_flag false is = cc

and_true : (b : Bool) → b ≡ (b && true)
and_true true = refl
and_true false = refl

-- a look at which no reset begins leaves the boot ROM as it is
look_leaves : (resets prst : Bool) {in_before : Bool} (h r t : ParaState) → h.bus.rom_in ≡ in_before → t.bus.rom_in ≡ in_before → IsReset r →
    (IsReset (if resets then (if prst then h else r) else t) → ⊥) → (if resets then (if prst then h else r) else t).bus.rom_in ≡ (in_before && true)
look_leaves true true {in_before} h r t eh et is free = eh ∙ and_true in_before
look_leaves true false h r t eh et is free = absurd (free is)
look_leaves false prst {in_before} h r t eh et is free = et ∙ and_true in_before

step_leaves : (o : Option Cycle) (s : ParaState) (a : Option Answer) → (IsReset (after_step Cmos para_bus_model o s a) → ⊥) →
    (after_step Cmos para_bus_model o s a).bus.rom_in ≡ (s.bus.rom_in && not (reaches_by o))
step_leaves (Some (Read at)) s a free = refl
step_leaves (Some (Write at byte)) s a free = refl
step_leaves None s a free =
    let l = lines_in a in
    look_leaves _ l.prst _ _ _ refl refl refl free

-- the boot ROM is in when a reset begins
look_resets : (resets prst : Bool) (h r t : ParaState) → (IsReset h → ⊥) → r.bus.rom_in ≡ true → (IsReset t → ⊥) →
    IsReset (if resets then (if prst then h else r) else t) → (if resets then (if prst then h else r) else t).bus.rom_in ≡ true
look_resets true true h r t nh er nt is = absurd (nh is)
look_resets true false h r t nh er nt is = er
look_resets false prst h r t nh er nt is = absurd (nt is)

reset_by : (o : Option Cycle) (s : ParaState) (a : Option Answer) → (o ≡ None → begun s.cpu ≡ None) →
    IsReset (after_step Cmos para_bus_model o s a) → (after_step Cmos para_bus_model o s a).bus.rom_in ≡ true
reset_by (Some c) s a over is = absurd (not_reset (access_not_begun Cmos s.cpu (byte_of para_bus_model s.bus s.due a c)) is)
reset_by None s a over is =
    let l = lines_in a in
    look_resets (not (l.resets == s.bus.resets)) l.prst _ _ _ (not_reset (over refl)) refl
    (no_other (not (l.nmis == s.bus.nmis)) l.pirq (after s.cpu)) is

-- the boot ROM is in at each state of a run at which a reset begins
resets_in : (answers : List (Option Answer)) (s : ParaState) → (IsReset s → s.bus.rom_in ≡ true) → IsReset (run answers s) → (run answers s).bus.rom_in ≡ true
resets_in [] s here is = here is
resets_in (a ∷ answers) s here is =
    resets_in answers _ (reset_by _ _ a (over_not_begun Cmos s.cpu)) is

joined : (b c d : Bool) → ((b && not c) && not d) ≡ (b && not (c || d))
joined b true d = by b
  where
    by : (b : Bool) → ((b && false) && not d) ≡ (b && false)
    by true = refl
    by false = refl
joined true false d = refl
joined false false d = refl

since : (answers : List (Option Answer)) (s : ParaState) → NoReset answers s → (run answers s).bus.rom_in ≡ (s.bus.rom_in && not (reaches answers s))
since [] s none = and_true s.bus.rom_in
since (a ∷ answers) s none =
    since answers (next_state s a) none.1
    ∙ ap (λ b. b && not (reaches answers (next_state s a))) (step_leaves (next_cycle s.cpu) (closed_to para_bus_model s (s.due + 1)) a none.0)
    ∙ joined s.bus.rom_in (reaches_by (next_cycle s.cpu)) (reaches answers (next_state s a))

-- ---- the last reset

by_test : (q : Option Sequence) → (q ≡ Some Reset) ⊎ (q ≡ Some Reset → ⊥)
by_test None = inr (λ is. cc)
by_test (Some Reset) = inl refl
by_test (Some Nmi) = inr (λ is. cc)
by_test (Some Irq) = inr (λ is. cc)
by_test (Some Instruction) = inr (λ is. cc)

-- the last state of a run after its first at which a reset begins, if there is one
record Last (s : ParaState) (answers : List (Option Answer)) : Type 0 where
  pub before : List (Option Answer)
  pub after : List (Option Answer)
  pub split : answers ≡ before ++ after
  pub reset : IsReset (run before s)
  pub none : NoReset after (run before s)

later : (s : ParaState) (a : Option Answer) (answers : List (Option Answer)) → Last (next_state s a) answers → Last s (a ∷ answers)
later s a answers l = record { before = a ∷ l.before; after = l.after; split = rw l.split; reset = l.reset; none = l.none }

find : (answers : List (Option Answer)) {s : ParaState} → Last s answers ⊎ NoReset answers s
find [] = inr tt
find (a ∷ answers) {s} = found (find answers) (by_test (begun (next_state s a).cpu))
  where
    found : Last (next_state s a) answers ⊎ NoReset answers (next_state s a) → IsReset (next_state s a) ⊎ (IsReset (next_state s a) → ⊥)
        → Last s (a ∷ answers) ⊎ NoReset (a ∷ answers) s
    found (inl l) here = inl (later s a answers l)
    found (inr none) (inl is) = inl (later s a answers (record { before = []; after = answers; split = refl; reset = is; none = none }))
    found (inr none) (inr not) = inr (not, none)

last_of : {clock : Clock} {rom : List ℕ} {answers : List (Option Answer)} → Last (power_on clock rom) answers ⊎ NoReset answers (power_on clock rom) →
    (before : List (Option Answer)) × (after : List (Option Answer)) × (answers ≡ before ++ after) × IsSinceReset clock rom before after
last_of (inl l) = (l.before, l.after, l.split, record { reset = l.reset; last = l.none })
last_of {answers} (inr none) = ([], answers, refl, record { reset = refl; last = none })

pub rom_is_in : RomIsIn
rom_is_in = record {
  where_in = λ clock rom before after is.
      let s = run before (power_on clock rom) in
      since after s is.last ∙ ap (λ b. b && not (reaches after s)) (resets_in before _ (λ at. refl) is.reset);
  each = λ clock rom answers. last_of (find answers);
}
