-- The code's start as a `StartState`.
use Rattle.std.specs.Prelude.{ℕ, List, []}
use Rattle.follow.specs.declared.start.Start.{Start}
use Rattle.follow.specs.Start.{StartState, front}

abbrev pub code_seen : Start → List ℕ
code_seen s = front s.first (front s.second (front s.third []))

abbrev pub start_seen : Start → StartState
start_seen s = record { tick = s.tick; regs = s.regs; code = code_seen s; watched = s.watched }
