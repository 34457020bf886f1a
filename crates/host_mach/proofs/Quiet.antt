-- A halted host reads one address in every cycle.
use Rattle.std.proofs.Common.{◌≡◌, ◌≤◌, ◌<◌, ◌∙◌, ◌&&◌, inl, inr, refl, ap, sym, arith, ℕ, zero, suc, ◌+◌}
use Rattle.std.proofs.Common.{List, length, true, false, Option, Some, None}
use Rattle.std.specs.Prelude.{slice_get, max}
use Rattle.std.proofs.lemmas.Bool.{cases_lt}
use Rattle.op_table.specs.declared.names.Part.TheVariants.{Nmos}
use Rattle.cpu_alu.specs.declared.Cycle.{Cycle}
use Rattle.cpu_alu.specs.declared.Cycle.TheVariants.{Read}
use Rattle.cpu_alu.specs.declared.Regs.{Regs}
use Rattle.cpu_core.specs.declared.Sequence.{Sequence}
use Rattle.cpu_core.specs.Sequences.{accesses, halts}
use Rattle.cpu6502.specs.State as cpu
use Rattle.cpu6502.specs.Sequences.{next_cycle, after_byte, halted}
use Rattle.tube_chip.specs.Act.{Query}
use Rattle.tube_party.specs.Quiet.{IsQuiet, Silent, quiet_at_due, silent_rises}
use Rattle.host_bus.specs.Bus.{bus_break_pending}
use Rattle.host_bus.specs.SameBreaks.{read-leaves}
use Rattle.host_mach.specs.State.{HostState}
use Rattle.host_mach.specs.Lawful.{host_lawful}
use Rattle.host_bus.specs.Bus.{BusState}
use Rattle.tube_machine.specs.Step.{asks, asks_by}
use Rattle.tube_machine.specs.NoBreak.{no-break, plain-asks, plain-next}
use Rattle.host_mach.specs.Step.{host_bus_model, host_transitions, is_tube, is_break, after_step, host_closed, next_state, byte_of}

none_some : {q : Query} → None ≡ Some q → ⊥
none_some is = cc

-- no break is pending below this tick
abbrev pub IsFree : ℕ → BusState → Type 0
IsFree far b = (t : ℕ) → t < far → bus_break_pending b t ≡ false

halts_at : (seen : List (Option ℕ)) (q : Sequence) (r : Regs) → halts seen Nmos q ≡ true → slice_get (accesses Nmos q r seen) (length seen) ≡ Some (Read r.pc)
halts_at seen q r h = grind arith

halted_next : (c : cpu.State) → halted c ≡ true → next_cycle c ≡ Some (Read c.regs.pc)
halted_next c h = halts_at c.seen c.sequence c.regs h

stays : (c : cpu.State) (byte : ℕ) → halted c ≡ true → after_byte c byte ≡ c
stays c byte h = rw h

-- halted, and at an address where the Tube does not answer, and no break is pending below tick far
record IsIdle (far : ℕ) (s : HostState) : Type 0 where
  halts : halted s.cpu ≡ true
  apart : (s.bus.tube && is_tube s.cpu.regs.pc) ≡ false
  free : IsFree far s.bus.bus

-- its step is an access that asks nothing, or a break step
idle_asks : (far : ℕ) (s : HostState) → IsIdle far s → asks_by host_bus_model s.bus (next_cycle s.cpu) ≡ None
idle_asks far s idle = rw (halted_next s.cpu idle.halts, idle.apart)

-- which keeps it so
idle_on : (far : ℕ) (s : HostState) → IsIdle far s → s.due < far → (asks Nmos host_bus_model s ≡ None) × IsIdle far (next_state s None)
idle_on far s idle low =
    let is : next_cycle s.cpu ≡ Some (Read s.cpu.regs.pc) = halted_next s.cpu idle.halts in
    let none : is_break s ≡ false = no-break Nmos host_bus_model s (idle.free s.due low) in
    let x : HostState = host_closed s (s.due + 1) in
    let byte : ℕ = byte_of x.bus s.due None (Read s.cpu.regs.pc) in
    let then_ : next_state s None ≡ after_step (Some (Read s.cpu.regs.pc)) x None =
    plain-next Nmos host_bus_model s None none ∙ ap (λ (o : Option Cycle). after_step o x None) is in
    let same : (next_state s None).cpu ≡ s.cpu = ap (λ (y : HostState). y.cpu) then_ ∙ stays s.cpu byte idle.halts in (
      plain-asks Nmos host_bus_model s none ∙ idle_asks far s idle,
      record {
        halts = ap halted same ∙ idle.halts;
        apart =
            ap (λ (y : HostState). y.bus.tube && is_tube (next_state s None).cpu.regs.pc) then_ ∙ ap (λ (c : cpu.State). s.bus.tube && is_tube c.regs.pc) same ∙ idle.apart;
        free = λ t low. ap (λ (y : HostState). bus_break_pending y.bus.bus t) then_ ∙ read-leaves x.bus.bus s.cpu.regs.pc t ∙ idle.free t low;
      },
    )

-- So it asks nothing below that tick.
idle_first : (far k : ℕ) (s last : HostState) (query : Query) → IsIdle far s → Silent host_transitions k s last → asks Nmos host_bus_model last ≡ Some query → far ≤ last.due
idle_first far zero s last query idle same asked = elim (cases_lt s.due far) [
  | inl low ↦ let none : asks Nmos host_bus_model s ≡ None = (idle_on far s idle low).0 in absurd (none_some (sym none ∙ ap (asks Nmos host_bus_model) same ∙ asked))
  | inr high ↦ let here : s.due ≡ last.due = ap (λ (x : HostState). x.due) same in omega (arith, high, here)
]
idle_first far (suc k) s last query idle silent asked = elim (cases_lt s.due far) [
  | inl low ↦ idle_first far k (next_state s None) last query (idle_on far s idle low).1 silent.1 asked
  | inr high ↦ let rises : s.due ≤ last.due = silent_rises host_transitions (suc k) s last host_lawful silent in omega (arith, high, rises)
]

pub idle_quiet : (s : HostState) (far q : ℕ) → halted s.cpu ≡ true → (s.bus.tube && is_tube s.cpu.regs.pc) ≡ false → IsFree far s.bus.bus
    → q ≡ max s.due far → IsQuiet host_transitions s q
idle_quiet s far q halts apart free is =
    let idle : IsIdle far s = record { halts = halts; apart = apart; free = free } in
    let here : IsQuiet host_transitions s s.due = quiet_at_due host_transitions s s.due host_lawful refl in
    record {
      due = omega (arith, is);
      first = λ k last query silent asked. omega (arith, is, here.first k last query silent asked, idle_first far k s last query idle silent asked);
    }
