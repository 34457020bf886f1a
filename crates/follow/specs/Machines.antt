-- The views of both machines.
use Rattle.std.specs.Prelude.{ℕ, ◌≡◌, ◌+◌, List, [], ◌∷◌, ◌++◌, Bool, true, false, Option, None, Some, if◌then◌else◌, refl}
use Rattle.std.proofs.Common.{arith}
use Rattle.op_table.specs.declared.names.Part.{Part}
use Rattle.op_table.specs.declared.names.Part.TheVariants.{Nmos, Cmos}
use Rattle.cpu_alu.specs.declared.Cycle.{Cycle}
use Rattle.cpu_core.specs.State as cpu
use Rattle.cpu_core.specs.declared.Sequence.{Sequence}
use Rattle.cpu_core.specs.Sequences.{next_cycle, starting, is_start, after_byte}
use Rattle.tube_chip.specs.declared.Answer.{Answer}
use Rattle.tube_chip.specs.Act.{look}
use Rattle.tube_party.specs.Transitions.{Transitions}
use Rattle.tube_machine.specs.BusModel.{BusModel}
use Rattle.tube_machine.specs.Step.{At, asks_by, asks_reset, after_break, after_step, closed_to, is_break, byte_of, asks, next_state}
use Rattle.host_mach.specs.State.{HostState}
use Rattle.host_mach.specs.Step.{host_bus_model, host_transitions}
use Rattle.host_mach.specs.Lawful.{host_lawful}
use Rattle.host_mach.specs.Peek as host
use Rattle.para_mach.specs.State.{ParaState, shown_regs}
use Rattle.para_mach.specs.Step.{para_bus_model, para_transitions}
use Rattle.para_mach.specs.Lawful.{para_lawful}
use Rattle.para_mach.specs.Peek as para
use Rattle.follow.specs.Sight.{Sight, IsSeen, IsSame}

abbrev pub host_sight : HostState → Sight
host_sight s = record { starting = starting s.cpu; regs = s.cpu.regs; peek = host.host_peek s }

abbrev pub para_sight : ParaState → Sight
para_sight s = record { starting = starting s.cpu; regs = shown_regs s; peek = para.para_peek s }

-- ---- An instruction starts only after a look.

seen_more : (seen : List (Option ℕ)) (x : Option ℕ) (q : Sequence) → is_start (seen ++ x ∷ []) q ≡ false
seen_more [] x q = refl
seen_more (y ∷ seen) x q = refl

begun : (part : Part) (c : cpu.State) (byte : ℕ) → starting (after_byte part c byte) ≡ false
begun part c byte = grind (arith, seen_more)

module _ (part : Part) {B : Type 0} (w : BusModel B) where
  behind_by : (breaks : Bool) (c : Option Cycle) (b : B) (s : At B) (a : Option Answer) → starting (if breaks then after_break part w s else after_step part w c s a).cpu ≡ true →
      (if breaks then asks_reset w b else asks_by w b c) ≡ Some look
  behind_by true c b s a is = cc
  behind_by false None b s a is = refl
  behind_by false (Some c) b s a is = let no : starting (after_byte part s.cpu (byte_of w s.bus s.due a c)) ≡ false = begun part s.cpu _ in cc

  behind_look : (s : At B) (a : Option Answer) → starting (next_state part w s a).cpu ≡ true → asks part w s ≡ Some look
  behind_look s a is = behind_by (is_break part w s) (next_cycle part s.cpu) s.bus (closed_to w s (s.due + 1)) a is

pub host_seen_laws : IsSeen host_transitions host_sight
host_seen_laws = record {
  lawful = host_lawful;
  closing = λ s t. record { starting = refl; regs = refl; peek = λ at. host.peek-leaves s t at };
  behind = behind_look Nmos host_bus_model;
}

pub para_seen_laws : IsSeen para_transitions para_sight
para_seen_laws = record {
  lawful = para_lawful;
  closing = λ s t. record { starting = refl; regs = refl; peek = λ at. para.peek-leaves s t at };
  behind = behind_look Cmos para_bus_model;
}

-- the view of a party by its own state
pub same_itself : {X S : Type 0} (state : X → S) (m : Transitions S) → IsSame state m state m
same_itself state m = record { to = λ s. s; is = λ x. refl; due = λ s. refl; asks = λ s. refl; next = λ s a. refl; closed = λ s. refl; close = λ s t. refl }
