-- Steps among which looks see their lines.
use Rattle.std.proofs.Common.{◌≡◌, refl, ap, ℕ, suc, ◌<◌, Some, arith}
use Rattle.beeb_bits.specs.declared.Tick.{Tick}
use Rattle.tube_chip.specs.declared.Answer.TheVariants.{Byte, Seen}
use Rattle.tube_chip.specs.declared.Lines.{Lines}
use Rattle.tube_chip.specs.declared.Op.{Op}
use Rattle.tube_party.specs.declared.party.Ask.{Ask}
use Rattle.tube_party.specs.declared.party.Ask.TheVariants.{Nothing, Access, Look}
use Rattle.tube_party.specs.Transitions.{Transitions, IsLawful, Looks, PortRun, IsNotSafe, Advances, LookRunToAsk, PortRunToAsk, PortRunToAnyAsk, Shown, shown_lines}
use Rattle.tube_party.specs.Turn.{IsPending}
use Rattle.tube_party.specs.Steps.{due_rises, silent_all, looks_on, look_last, port_run_to_ask_after, port_run_to_ask_sees, rises_past_access, port_run_past_access}

module _ {S : Type 0} (m : Transitions S) (n : ℕ) (lines : Lines) (safe_until : ℕ) where
  -- after some of them the party advanced, and stopped at a step that is no safe look
  pub stops_there : (old cur new : S) (ask : Ask) → (k : ℕ) × Looks m n (shown_lines lines safe_until) k old cur → Advances m n cur ask new → IsNotSafe safe_until ask
      → LookRunToAsk m n (shown_lines lines safe_until) old ask new
  stops_there old cur new ask so_far told not_safe =
      let all = looks_on m n lines safe_until so_far.0 told.steps old cur told.last so_far.1 (silent_all m n lines safe_until told.steps cur told.last told.runs) in
      record { steps = all.0; last = told.last; looks = all.1; asked = told.asked; not_safe = not_safe }

  -- or at one, which saw the lines
  pub sees_one_more : (old cur at new : S) (ask : Ask) (t : Tick) → (k : ℕ) × Looks m n (shown_lines lines safe_until) k old cur
      → Advances m n cur ask at → ask ≡ Look t → t.0 < safe_until
      → new ≡ m.next at (Some (Seen lines)) →
      (k : ℕ) × Looks m n (shown_lines lines safe_until) k old new
  sees_one_more old cur at new ask t so_far told is early answered =
      let asked = rw is at told.asked in
      let all = looks_on m n lines safe_until so_far.0 told.steps old cur told.last so_far.1 (silent_all m n lines safe_until told.steps cur told.last told.runs) in
      let more = look_last m n lines safe_until all.0 old told.last all.1 (omega (arith, asked.0, asked.1)) asked.2 (omega (arith, asked.0, early)) in
      (suc all.0, rw (rw asked.3 at answered) more)

  -- and then its tick, which was below n, is larger
  pub rises_past : (cur at new : S) (ask : Ask) (t : Tick) → IsLawful m → Advances m n cur ask at → ask ≡ Look t → new ≡ m.next at (Some (Seen lines))
      → (m.due cur < m.due new) × (m.due cur < n)
  rises_past cur at new ask t lawful told is answered =
      let asked = rw is at told.asked in
      let x = due_rises m n lines safe_until told.steps cur told.last lawful (silent_all m n lines safe_until told.steps cur told.last told.runs) in
      let y = lawful.rises at (Some (Seen lines)) in
      let z : m.due new ≡ m.due (m.next at (Some (Seen lines))) = ap m.due answered in
      let w : m.due at ≡ m.due told.last = ap m.due asked.3 in
      (omega arith, omega (arith, asked.0, asked.1))

  -- past an access its tick, which was below n, is larger too
  pub rises_past_ask : (cur at new : S) (ask : Ask) (t : Tick) (op : Op) (byte : ℕ) → IsLawful m → LookRunToAsk m n (shown_lines lines safe_until) cur ask at → ask ≡ Access t op
      → new ≡ m.next at (Some (Byte byte)) → (m.due cur < m.due new) × (m.due cur < n)
  rises_past_ask cur at new ask t op byte lawful sees is goes =
      rises_past_access m n lines safe_until sees.steps cur sees.last at new t op byte lawful sees.looks (rw is at sees.asked) goes

-- ---- The same with accesses that a port answers

module _ {S D : Type 0} (m : Transitions S) (answers : D → ℕ → Op → ℕ → D → Type 0) (n : ℕ) (lines : Lines) (safe_until : ℕ) where
  -- after some of them the party went on, and stopped at a step to which the port has no answer
  pub port_run_to_ask_there : (old cur new : S) (d f : D) (ask : Ask) → (j : ℕ) × PortRun m answers n (shown_lines lines safe_until) j old d cur f
      → LookRunToAsk m n (shown_lines lines safe_until) cur ask new
      → PortRunToAsk m answers n (shown_lines lines safe_until) old d ask new f
  port_run_to_ask_there old cur new d f ask so_far sees =
      port_run_to_ask_after m answers n lines safe_until old cur new d f f ask so_far (port_run_to_ask_sees m answers n lines safe_until cur new f ask sees)

  -- or at an access, which the port answered
  pub port_run_to_ask_one_more : (old cur at new : S) (d f e : D) (ask : Ask) (t : Tick) (op : Op) (byte : ℕ) → (j : ℕ) × PortRun m answers n (shown_lines lines safe_until) j old d cur f
      → LookRunToAsk m n (shown_lines lines safe_until) cur ask at → ask ≡ Access t op → answers f t.0 op byte e → new ≡ m.next at (Some (Byte byte)) →
      (j : ℕ) × PortRun m answers n (shown_lines lines safe_until) j old d new e
  port_run_to_ask_one_more old cur at new d f e ask t op byte so_far sees is answer goes =
      port_run_past_access m answers n lines safe_until sees.steps old cur sees.last at new d f e t op byte so_far sees.looks
      (rw is at sees.asked) answer goes

-- it goes no further than what it asked already
pub stays_asking : {S D : Type 0} (m : Transitions S) (answers : D → ℕ → Op → ℕ → D → Type 0) (n : ℕ) (v : Shown) (s : S) (d : D) (ask : Ask)
    → IsPending m n s ask → PortRunToAnyAsk m answers n v s d ask s d
stays_asking m answers n v s d Nothing asked = absurd asked
stays_asking m answers n v s d (Access t op) asked = record { accesses = 0; last = s; port_run = (refl, (0, refl)); asked = (asked.0, asked.1, asked.2, refl) }
stays_asking m answers n v s d (Look t) asked = record { accesses = 0; last = s; port_run = (refl, (0, refl)); asked = (asked.0, asked.1, asked.2, refl) }
