-- A forced interrupt, and the events after it.
use Rattle.std.proofs.Common.{arith, ◌≡◌, sym, subst, refl, ℕ, ◌/◌, ◌≤◌, ◌==◌, ◌&&◌, ◌||◌, not, Bool, true, false, List, [], ◌∷◌}
use Rattle.std.specs.Prelude.{if◌then◌else◌}
use Rattle.std.proofs.lemmas.Bool.{eq-eqb}
use Rattle.beeb_bits.specs.Bits.{bit}
use Rattle.wd1770.specs.declared.command.Command.TheVariants.{Idle}
use Rattle.wd1770.specs.State.{State}
use Rattle.wd1770.specs.Select.{is_reset}
use Rattle.wd1770.specs.Ends.{is_asking, count_leaves}
use Rattle.wd1770.specs.Commands.{force_leaves, latch_leaves}
use Rattle.wd1770.specs.Registers.{read_leaves, write_leaves}
use Rattle.wd1770.specs.Step.{step}
use Rattle.wd1770.specs.History.{Event, microsecond, read, write, latch, history}
use Rattle.law_chips.specs.LostData.{AllLetGo}
use Rattle.law_chips.specs.Interrupts.{status_is_read, LeavesRest, InterruptsAreForced}

forced : (s : State) (v : ℕ) → is_reset s.latch ≡ false → v / 16 ≡ 0xD → write_leaves 0 v s ≡ count_leaves (is_asking s) (force_leaves v s)
forced s v live is = rw (live, eq-eqb (v / 16) 0xD is)

-- no command, and INTRQ
pub record Rests (asks : Bool) (s : State) : Type 0 where
  pub command : s.command ≡ Idle
  pub intrq : s.intrq ≡ asks

stepped : (asks : Bool) (s : State) → Rests asks s → Rests asks (step s)
stepped asks s is = grind arith

heard : (b asks intrq : Bool) → intrq ≡ asks → (if b then false else intrq) ≡ (asks && not b)
heard b asks intrq is = grind arith

was_read : (asks : Bool) (reg : ℕ) (s : State) → Rests asks s → Rests (asks && not (reg == 0)) (read_leaves reg s)
was_read asks reg s is = grind arith

was_written : (asks : Bool) (reg v : ℕ) (s : State) → 1 ≤ reg → reg ≤ 3 → Rests asks s → Rests asks (write_leaves reg v s)
was_written asks reg v s low high is = grind arith

was_latched : (asks : Bool) (v : ℕ) (s : State) → is_reset v ≡ false → Rests asks s → Rests asks (latch_leaves v s)
was_latched asks v s off is = grind arith

both : (asks a b : Bool) → ((asks && not a) && not b) ≡ (asks && not (a || b))
both asks a b = grind arith

unheard : (asks : Bool) → asks ≡ (asks && true)
unheard true = refl
unheard false = refl

pub rests_until_read : (asks : Bool) (events : List Event) (s : State) → AllLetGo events → Rests asks s → Rests (asks && not (status_is_read events)) (history events s)
rests_until_read asks [] s all is = subst (λ b. Rests b s) (unheard asks) is
rests_until_read asks (microsecond ∷ es) s all is = rests_until_read asks es (step s) all.1 (stepped asks s is)
rests_until_read asks (read reg ∷ es) s all is =
    subst (λ b. Rests b (history es (read_leaves reg s))) (both asks (reg == 0) (status_is_read es))
    (rests_until_read (asks && not (reg == 0)) es (read_leaves reg s) all.1 (was_read asks reg s is))
rests_until_read asks (write reg v ∷ es) s all is = rests_until_read asks es (write_leaves reg v s) all.1 (was_written asks reg v s all.0.0 all.0.1 is)
rests_until_read asks (latch v ∷ es) s all is = rests_until_read asks es (latch_leaves v s) all.1 (was_latched asks v s all.0 is)

from_forced : (s : State) (v : ℕ) (events : List Event) → is_reset s.latch ≡ false → v / 16 ≡ 0xD → AllLetGo events →
    Rests (bit v 3 && not (status_is_read events)) (history events (write_leaves 0 v s))
from_forced s v events live is all =
    rests_until_read (bit v 3) events (write_leaves 0 v s) all (subst (Rests (bit v 3)) (sym (forced s v live is)) (assumption))

pub interrupts_are_forced : InterruptsAreForced
interrupts_are_forced = record {
  over = λ s v events live is all. (from_forced s v events live is all).command;
  asks = λ s v events live is all. (from_forced s v events live is all).intrq;
  rest = λ s v live is. subst (LeavesRest s) (sym (forced s v live is)) (assumption);
}
