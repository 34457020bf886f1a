-- A party that stops earlier than it must.
use Rattle.std.proofs.Common.{ℕ, ◌≡◌, ◌≤◌, Some, refl}
use Rattle.beeb_bits.specs.declared.Tick.{Tick}
use Rattle.tube_chip.specs.declared.Answer.TheVariants.{Byte}
use Rattle.tube_chip.specs.declared.Lines.{Lines}
use Rattle.tube_chip.specs.declared.Op.{Op}
use Rattle.tube_party.specs.declared.party.Ask.{Ask}
use Rattle.tube_party.specs.declared.party.Ask.TheVariants.{Access}
use Rattle.tube_party.specs.Transitions.{Transitions, PortRun, LookRunToAsk, PortRunToAsk, PortRunToAnyAsk, shown_lines}
use Rattle.tube_party.specs.Steps.{looks_wider, port_run_on, port_run_past_access}

-- one that does not stop at a safe look
pub goes_heard : {S D : Type 0} {m : Transitions S} {answers : D → ℕ → Op → ℕ → D → Type 0} {n safe_until : ℕ} {lines : Lines} {s new : S} {d e : D} {ask : Ask}
    → PortRunToAsk m answers n (shown_lines lines safe_until) s d ask new e → PortRunToAnyAsk m answers n (shown_lines lines safe_until) s d ask new e
goes_heard h = record { accesses = h.accesses; last = h.last; port_run = h.port_run; asked = h.asked }

module _ {S D : Type 0} (m : Transitions S) (answers : D → ℕ → Op → ℕ → D → Type 0) (n : ℕ) (lines : Lines) (near safe_until : ℕ) where
  -- after some accesses it advanced to the end of its notes, and stops
  pub goes_there : (old cur new : S) (d f : D) (ask : Ask) → (j : ℕ) × PortRun m answers n (shown_lines lines safe_until) j old d cur f → LookRunToAsk m n (shown_lines lines near) cur ask new
      → near ≤ safe_until → PortRunToAnyAsk m answers n (shown_lines lines safe_until) old d ask new f
  goes_there old cur new d f ask so_far sees low =
      let far = looks_wider m n lines near safe_until sees.steps cur sees.last low sees.looks in
      let all = port_run_on m answers n lines safe_until so_far.0 0 old cur sees.last d f f so_far.1 (refl, (sees.steps, far)) in
      record { accesses = all.0; last = sees.last; port_run = all.1; asked = sees.asked }

  -- or reached one more access, which the port answered
  pub goes_one_more : (old cur at new : S) (d f e : D) (t : Tick) (op : Op) (byte : ℕ) → (j : ℕ) × PortRun m answers n (shown_lines lines safe_until) j old d cur f
      → LookRunToAsk m n (shown_lines lines near) cur (Access t op) at → near ≤ safe_until → answers f t.0 op byte e → new ≡ m.next at (Some (Byte byte)) →
      (j : ℕ) × PortRun m answers n (shown_lines lines safe_until) j old d new e
  goes_one_more old cur at new d f e t op byte so_far sees low answer goes =
      let far = looks_wider m n lines near safe_until sees.steps cur sees.last low sees.looks in
      port_run_past_access m answers n lines safe_until sees.steps old cur sees.last at new d f e t op byte so_far far sees.asked answer goes
