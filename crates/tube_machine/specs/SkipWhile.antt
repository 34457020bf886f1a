-- Starts of instructions that are skipped, up to one that is not.
use Rattle.std.specs.Prelude.{ℕ, zero, suc, ◌≡◌, ◌≢◌, ◌<◌, true, Option, Some}
use Rattle.cpu_core.specs.Sequences.{starting}
use Rattle.beeb_bits.specs.declared.Tick.{Tick}
use Rattle.tube_chip.specs.declared.Answer.TheVariants.{Seen}
use Rattle.tube_party.specs.declared.party.Ask.TheVariants.{Look}
use Rattle.tube_party.specs.Transitions.{Transitions, Shown, Advances}
use Rattle.tube_machine.specs.Step.{At}
use Rattle.tube_machine.specs.declared.skip_while.SkipWhile.{SkipWhile}
use Rattle.tube_machine.specs.declared.skip_while.SkipWhile.TheVariants.{Before, Elsewhere, Same}

-- A start at this tick and this program counter is skipped, with `peek` for the bytes in memory.
abbrev pub IsSkipped : SkipWhile → ℕ → ℕ → (ℕ → Option ℕ) → Type 0
IsSkipped (Before end) tick pc peek = tick < end
IsSkipped (Elsewhere at) tick pc peek = pc ≢ at
IsSkipped (Same at byte) tick pc peek = peek at ≡ byte

-- a machine starts an instruction, and that start is skipped
abbrev pub skipped_at : {B : Type 0} → (B → ℕ → Option ℕ) → SkipWhile → At B → Type 0
skipped_at peek skip s = (starting s.cpu ≡ true) × IsSkipped skip s.due s.cpu.regs.pc (peek s.bus)

-- Steps below tick n that ask nothing, and then a look below `safe_until`, which sees the lines.
pub record ToLook {S : Type 0} (m : Transitions S) (n : ℕ) (v : Shown) (s on : S) : Type 0 where
  pub tick : Tick
  pub last : S
  pub goes : Advances m n s (Look tick) last
  pub safe_until : tick.0 < v.safe_until
  pub next : on ≡ m.next last (Some (Seen v.lines))

-- k such runs up to a look and past it, each from a state of which `over` holds
abbrev pub Passes : {S : Type 0} → Transitions S → (S → Type 0) → ℕ → Shown → ℕ → S → S → Type 0
Passes m over n v zero s last = s ≡ last
Passes {S} m over n v (suc k) s last = over s × ((u : S) × (ToLook m n v s u × Passes m over n v k u last))
