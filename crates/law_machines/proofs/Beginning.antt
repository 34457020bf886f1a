-- The steps that begin a sequence.
use Rattle.std.proofs.Common.{◌≡◌, refl, ℕ, Bool, true, false, cond, List, [], ◌∷◌, ◌++◌, length}
use Rattle.std.specs.Prelude.{Option, None, slice_get}
use Rattle.op_table.specs.declared.names.Part.{Part}
use Rattle.op_table.specs.declared.names.Part.TheVariants.{Nmos, Cmos}
use Rattle.cpu_alu.specs.declared.Regs.{Regs}
use Rattle.cpu_core.specs.declared.Sequence.{Sequence}
use Rattle.cpu_core.specs.declared.Sequence.TheVariants.{Instruction, Reset, Nmi, Irq}
use Rattle.cpu_core.specs.State.{State}
use Rattle.cpu_core.specs.Sequences.{accesses, next_cycle, halts, halted, after_byte, sequence_at_look}
use Rattle.law_machines.specs.Begins.{begun_by, begun}
use Rattle.law_machines.specs.Interrupts.{interrupt_at}

some_first : (part : Part) (q : Sequence) (r : Regs) (seen : List (Option ℕ)) → slice_get (accesses part q r seen) (length seen) ≡ None → begun_by seen q ≡ None
some_first part q r (x ∷ seen) over = refl
some_first part Instruction r [] over = cc
some_first part Reset r [] over = cc
some_first part Nmi r [] over = cc
some_first part Irq r [] over = cc

-- a sequence that is over does not begin
pub over_not_begun : (part : Part) (c : State) → next_cycle part c ≡ None → begun c ≡ None
over_not_begun part c over = some_first part c.sequence c.regs c.seen over

behind : (seen : List (Option ℕ)) (x : Option ℕ) (q : Sequence) → begun_by (seen ++ x ∷ []) q ≡ None
behind [] x q = refl
behind (y ∷ seen) x q = refl

halt_seen : (seen : List (Option ℕ)) (q : Sequence) → halts seen Nmos q ≡ true → begun_by seen q ≡ None
halt_seen [] q is = cc
halt_seen (x ∷ seen) q is = refl

pub halted_not_begun : (part : Part) (c : State) → halted part c ≡ true → begun c ≡ None
halted_not_begun Nmos c is = halt_seen c.seen c.sequence is
halted_not_begun Cmos c is = cc

by_halt : (b : Bool) (c : State) (x : Option ℕ) → (b ≡ true → begun c ≡ None) → begun (cond b c (record c { seen = c.seen ++ x ∷ [] })) ≡ None
by_halt true c x is = is refl
by_halt false c x is = behind c.seen x c.sequence

-- no access begins a sequence
pub access_not_begun : (part : Part) (c : State) (byte : ℕ) → begun (after_byte part c byte) ≡ None
access_not_begun part c byte = by_halt _ c _ (halted_not_begun part c)

pub same_choice : (rose asserted : Bool) (r : Regs) → sequence_at_look rose asserted r ≡ interrupt_at rose asserted r
same_choice true asserted r = refl
same_choice false true r = refl
same_choice false false r = refl
