-- A party that speculates on one thread, and its rollback.
use Rattle.std.specs.Prelude.{ℕ, ◌≡◌, ◌≢◌, Bool, true, false, take}
use Rattle.beeb_bits.specs.declared.Side.TheVariants.{Para}
use Rattle.tube_chip.specs.declared.Lines.{Lines}
use Rattle.tube_party.specs.declared.log.Log.{Log}
use Rattle.tube_party.specs.declared.log.LogMark.{LogMark}
use Rattle.tube_party.specs.declared.party.Ask.{Ask}
use Rattle.tube_party.specs.declared.party.Ask.TheVariants.{Nothing}
use Rattle.tube_party.specs.Transitions.{Transitions, PortRunToAnyAsk, shown_lines}
use Rattle.tube_party.specs.CodePassing.{ChipPortState, IsPassed}

-- A party: `true` if it is ahead of what is safe, its next ask, its state at the start of its
-- notes, and its present state.
pub record Standing (S : Type 0) : Type 0 where
  pub ahead : Bool
  pub ask : Ask
  pub mark : S
  pub state : S

abbrev pub standing_of : {S : Type 0} → Bool → Ask → S → S → Standing S
standing_of ahead ask mark s = record { ahead = ahead; ask = ask; mark = mark; state = s }

-- the port at the parasite's turn, with this log, up to a tick
abbrev pub para_turn : ChipPortState → Log → ℕ → ChipPortState
para_turn d log safe_until = record { chip = d.chip; host = d.host; para = log; turn = Para; safe_until = safe_until; is_read = true }

-- The party speculated from its ask, with what the chip shows it up to a tick, and can be rolled
-- back to that ask; or it stayed.
pub record IsGone {S : Type 0} (m : Transitions S) (n : ℕ) (lines : Lines) (s : S) (d : ChipPortState) (ask : Ask) (new : Standing S) (e : ChipPortState) : Type 0 where
  pub far : ℕ
  pub goes : new.ahead ≡ true → (ask ≢ Nothing) × (new.mark ≡ s) × PortRunToAnyAsk m IsPassed n (shown_lines lines far) s (para_turn d d.para far) new.ask new.state e
  pub stays : new.ahead ≡ false → (new.ask ≡ ask) × (new.state ≡ s) × (e ≡ para_turn d d.para far)

-- The party was rolled back to the start of its notes, its log was cut to a mark, and it ran again
-- from there up to tick `at`.
pub record IsRolledBack {S : Type 0} (m : Transitions S) (n : ℕ) (lines : Lines) (at : ℕ) (mark : LogMark) (s : S) (d : ChipPortState) (ask : Ask) (new : S) (e : ChipPortState) : Type 0 where
  pub log : Log
  pub list_is : log.list.items ≡ take mark.len d.para.list.items
  pub count_is : log.count ≡ mark.count
  pub keep_is : log.keep ≡ d.para.keep
  pub goes : PortRunToAnyAsk m IsPassed n (shown_lines lines at) s (para_turn d log at) ask new e
