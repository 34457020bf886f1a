-- Laws about runs that machines use.
use Rattle.std.specs.Prelude.{ℕ, zero, suc, ◌≡◌, ◌≢◌, ◌<◌, ◌≤◌, Option, None, Some, MatchOption, [], refl}
use Rattle.std.proofs.Common.{sym, ◌∙◌, ap, subst, arith}
use Rattle.beeb_bits.specs.declared.Tick.{Tick}
use Rattle.beeb_bits.specs.declared.Side.TheVariants.{Host}
use Rattle.tube_chip.specs.Act.{Query, look}
use Rattle.tube_chip.specs.declared.Answer.TheVariants.{Byte, Seen}
use Rattle.tube_chip.specs.declared.Lines.{Lines}
use Rattle.tube_chip.specs.declared.Op.{Op}
use Rattle.tube_party.specs.declared.party.Ask.{Ask}
use Rattle.tube_party.specs.declared.party.Ask.TheVariants.{Nothing, Access}
use Rattle.tube_party.specs.Transitions.{Transitions, IsLawful, IsAsk, IsAnswered, Runs, Looks, PortRun, Advances, LookRunToAsk, PortRunToAsk, PortRunToAnyAsk, Shown, shown_lines, execution}
use Rattle.tube_party.specs.Turn.{IsPending}

-- ---- Steps among which looks see their lines

module _ {S : Type 0} (m : Transitions S) (n : ℕ) (lines : Lines) (safe_until : ℕ) where
  -- what follows the first of k + 1 steps, by what it asks
  abbrev pub After : ℕ → S → S → Option Query → Type 0
  After k s last o =
      MatchOption o (Looks m n (shown_lines lines safe_until) k (m.next s None) last) (λ q. (q ≡ look) × (m.due s < safe_until) × Looks m n (shown_lines lines safe_until) k (m.next s (Some (Seen lines))) last)

  -- one step in front that asks nothing
  pub silent_first : (k : ℕ) (s last : S) → m.due s < n → m.asks s ≡ None → Looks m n (shown_lines lines safe_until) k (m.next s None) last → Looks m n (shown_lines lines safe_until) (suc k) s last
  silent_first k s last low none looks = (low, subst (After k s last) (sym none) looks)

  -- one look in front
  pub look_first : (k : ℕ) (s last : S) → m.due s < n → m.asks s ≡ Some look → m.due s < safe_until → Looks m n (shown_lines lines safe_until) k (m.next s (Some (Seen lines))) last
      → Looks m n (shown_lines lines safe_until) (suc k) s last
  look_first k s last low asks early looks = grind arith

  -- steps of which the first is followed by others
  after_by : (j k : ℕ) (s mid last : S) (o : Option Query) → ((u : S) → Looks m n (shown_lines lines safe_until) j u mid → Looks m n (shown_lines lines safe_until) k u last) → After j s mid o → After k s last o
  after_by j k s mid last o on h = grind arith

  -- one more step that asks nothing
  pub silent_last : (k : ℕ) (s last : S) → Looks m n (shown_lines lines safe_until) k s last → m.due last < n → m.asks last ≡ None → Looks m n (shown_lines lines safe_until) (suc k) s (m.next last None)
  silent_last zero s last h low none =
      silent_first zero s (m.next last None) (subst (λ (x : S). m.due x < n) (sym h) low) (ap m.asks h ∙ none) (ap (λ (x : S). m.next x None) h)
  silent_last (suc k) s last h low none =
      (h.0, after_by k (suc k) s last (m.next last None) (m.asks s) (λ u on. silent_last k u last on low none) h.1)

  -- one more look
  pub look_last : (k : ℕ) (s last : S) → Looks m n (shown_lines lines safe_until) k s last → m.due last < n → m.asks last ≡ Some look → m.due last < safe_until
      → Looks m n (shown_lines lines safe_until) (suc k) s (m.next last (Some (Seen lines)))
  look_last zero s last h low asks early =
      look_first zero s (m.next last (Some (Seen lines))) (subst (λ (x : S). m.due x < n) (sym h) low) (ap m.asks h ∙ asks) (subst (λ (x : S). m.due x < safe_until) (sym h) early)
      (ap (λ (x : S). m.next x (Some (Seen lines))) h)
  look_last (suc k) s last h low asks early =
      (h.0, after_by k (suc k) s last (m.next last (Some (Seen lines))) (m.asks s) (λ u on. look_last k u last on low asks early) h.1)

  -- steps after steps
  looks_on_by : (j k : ℕ) (s mid last : S) (o : Option Query) → ((u : S) → Looks m n (shown_lines lines safe_until) j u mid → (i : ℕ) × Looks m n (shown_lines lines safe_until) i u last)
      → m.asks s ≡ o → m.due s < n → After j s mid o →
      (i : ℕ) × Looks m n (shown_lines lines safe_until) i s last
  looks_on_by j k s mid last None on is low h = let more = on (m.next s None) h in (suc more.0, silent_first more.0 s last low is more.1)
  looks_on_by j k s mid last (Some q) on is low h =
      let more = on (m.next s (Some (Seen lines))) h.2 in
      (suc more.0, look_first more.0 s last low (is ∙ ap (λ (x : Query). Some x) h.0) h.1 more.1)

  pub looks_on : (j k : ℕ) (s mid last : S) → Looks m n (shown_lines lines safe_until) j s mid → Looks m n (shown_lines lines safe_until) k mid last → (i : ℕ) × Looks m n (shown_lines lines safe_until) i s last
  looks_on zero k s mid last h more = (k, subst (λ (x : S). Looks m n (shown_lines lines safe_until) k x last) (sym h) more)
  looks_on (suc j) k s mid last h more = looks_on_by j k s mid last (m.asks s) (λ u on. looks_on j k u mid last on more) refl h.0 h.1

  -- the tick rises
  due_past : (k : ℕ) (s last : S) → IsLawful m → (o : Option Query) → ((u : S) → Looks m n (shown_lines lines safe_until) k u last → m.due u ≤ m.due last) →
      After k s last o → m.due s ≤ m.due last
  due_past k s last lawful o on h = grind arith

  pub due_rises : (k : ℕ) (s last : S) → IsLawful m → Looks m n (shown_lines lines safe_until) k s last → m.due s ≤ m.due last
  due_rises zero s last lawful looks = subst (λ (x : S). m.due s ≤ m.due x) looks (let d : ℕ = m.due s in omega arith)
  due_rises (suc k) s last lawful looks = due_past k s last lawful (m.asks s) (λ u on. due_rises k u last lawful on) looks.1

  -- past the access that is asked after them the tick, which was below n, is larger
  pub rises_past_access : (k : ℕ) (s last at new : S) (t : Tick) (op : Op) (byte : ℕ) → IsLawful m → Looks m n (shown_lines lines safe_until) k s last
      → IsAsk m n last (Access t op) at → new ≡ m.next at (Some (Byte byte)) → (m.due s < m.due new) × (m.due s < n)
  rises_past_access k s last at new t op byte lawful looks asked goes =
      let x : m.due s ≤ m.due last = due_rises k s last lawful looks in
      let y : m.due at < m.due (m.next at (Some (Byte byte))) = lawful.rises at (Some (Byte byte)) in
      let z : m.due new ≡ m.due (m.next at (Some (Byte byte))) = ap m.due goes in
      let w : m.due at ≡ m.due last = ap m.due asked.3 in
      (omega (arith, x, y, z, w), omega (arith, x, asked.0, asked.1))

  -- steps that ask nothing are such steps
  silent_by : (j k : ℕ) (s mid last : S) (o : Option Query) →
      ((u : S) → Runs m Host n j u (execution [] mid) → Looks m n (shown_lines lines safe_until) k u last) →
      MatchOption o (Runs m Host n j (m.next s None) (execution [] mid)) (λ q. ⊥) → After k s last o
  silent_by j k s mid last o on h = grind arith

  pub silent_all : (k : ℕ) (s last : S) → Runs m Host n k s (execution [] last) → Looks m n (shown_lines lines safe_until) k s last
  silent_all zero s last h = h.1
  silent_all (suc k) s last h = (h.0, silent_by k k s last last (m.asks s) (λ u on. silent_all k u last on) h.1)

-- if no look is below `safe_until`, all steps ask nothing
module _ {S : Type 0} (m : Transitions S) (n : ℕ) (lines : Lines) where
  runs_by_looks : (k : ℕ) (s last : S) (o : Option Query) →
      ((u : S) → Looks m n (shown_lines lines 0) k u last → Runs m Host n k u (execution [] last)) →
      After m n lines 0 k s last o → MatchOption o (Runs m Host n k (m.next s None) (execution [] last)) (λ q. ⊥)
  runs_by_looks k s last o on h = grind arith

  pub none_seen : (k : ℕ) (s last : S) → Looks m n (shown_lines lines 0) k s last → Runs m Host n k s (execution [] last)
  none_seen zero s last h = (refl, h)
  none_seen (suc k) s last h = (h.0, runs_by_looks k s last (m.asks s) (λ u on. none_seen k u last on) h.1)

  -- to advance is to see no look
  pub advances_of : (s new : S) (ask : Ask) → LookRunToAsk m n (shown_lines lines 0) s ask new → Advances m n s ask new
  advances_of s new ask sees = record { steps = sees.steps; last = sees.last; runs = none_seen sees.steps s sees.last sees.looks; asked = sees.asked }

-- ---- A speculative run, in strides

module _ {S : Type 0} (m : Transitions S) (n : ℕ) (lines : Lines) where
  wider_by : (safe_until far k : ℕ) (s last : S) (o : Option Query) → safe_until ≤ far → ((u : S) → Looks m n (shown_lines lines safe_until) k u last → Looks m n (shown_lines lines far) k u last) →
      After m n lines safe_until k s last o → After m n lines far k s last o
  wider_by safe_until far k s last o low on h = grind arith

  -- looks below a tick are below a larger one
  pub looks_wider : (safe_until far k : ℕ) (s last : S) → safe_until ≤ far → Looks m n (shown_lines lines safe_until) k s last → Looks m n (shown_lines lines far) k s last
  looks_wider safe_until far zero s last low h = h
  looks_wider safe_until far (suc k) s last low h = (h.0, wider_by safe_until far k s last (m.asks s) low (λ u on. looks_wider safe_until far k u last low on) h.1)

-- the next step asks what was asked when the run stopped
pub left_pending : {S D : Type 0} (m : Transitions S) (answers : D → ℕ → Op → ℕ → D → Type 0) (n : ℕ) (v : Shown) (s : S) (d : D) (ask : Ask) (new : S) (e : D)
    → PortRunToAnyAsk m answers n v s d ask new e → ask ≢ Nothing → IsPending m n new ask
left_pending m answers n v s d ask new e went h = grind arith

-- ---- Steps with accesses that a port answers

module _ {S D : Type 0} (m : Transitions S) (answers : D → ℕ → Op → ℕ → D → Type 0) (n : ℕ) (lines : Lines) (safe_until : ℕ) where
  -- other steps before them
  port_run_first : (j : ℕ) (s mid last : S) (d e : D) → (k : ℕ) × Looks m n (shown_lines lines safe_until) k s mid → PortRun m answers n (shown_lines lines safe_until) j mid d last e
      → PortRun m answers n (shown_lines lines safe_until) j s d last e
  port_run_first zero s mid last d e so_far h = (h.0, looks_on m n lines safe_until so_far.0 h.1.0 s mid last so_far.1 h.1.1)
  port_run_first (suc j) s mid last d e so_far h = (h.0, h.1, h.2, looks_on m n lines safe_until so_far.0 h.3.0 s mid h.0 so_far.1 h.3.1, h.4, h.5)

  -- some of them after others
  pub port_run_on : (i j : ℕ) (s mid last : S) (d f e : D) → PortRun m answers n (shown_lines lines safe_until) i s d mid f → PortRun m answers n (shown_lines lines safe_until) j mid f last e
      → (k : ℕ) × PortRun m answers n (shown_lines lines safe_until) k s d last e
  port_run_on zero j s mid last d f e h more = (j, port_run_first j s mid last d e h.1 (subst (λ (x : D). PortRun m answers n (shown_lines lines safe_until) j mid x last e) (sym h.0) more))
  port_run_on (suc i) j s mid last d f e h more =
      let rest = port_run_on i j h.1 mid last h.2 f e h.5 more in
      (suc rest.0, (h.0, h.1, h.2, h.3, h.4, rest.1))

  -- the tick rises
  pub port_run_rise : (j : ℕ) (s last : S) (d e : D) → IsLawful m → PortRun m answers n (shown_lines lines safe_until) j s d last e → m.due s ≤ m.due last
  port_run_rise zero s last d e lawful h = due_rises m n lines safe_until h.1.0 s last lawful h.1.1
  port_run_rise (suc j) s last d e lawful h =
      let up : m.due s ≤ m.due h.0 = due_rises m n lines safe_until h.3.0 s h.0 lawful h.3.1 in
      let past : m.due h.0 < m.due h.1 = subst (λ (x : S). m.due h.0 < m.due x) (sym h.4.goes) (lawful.rises h.0 (Some (Byte h.4.byte))) in
      let rest : m.due h.1 ≤ m.due last = port_run_rise j h.1 last h.2 e lawful h.5 in
      omega (arith, up, past, rest)

  -- and after them the looks up to an access that is answered, and that access
  pub port_run_past_access : (k : ℕ) (old s last at new : S) (d f e : D) (t : Tick) (op : Op) (byte : ℕ)
      → (j : ℕ) × PortRun m answers n (shown_lines lines safe_until) j old d s f → Looks m n (shown_lines lines safe_until) k s last
      → IsAsk m n last (Access t op) at → answers f t.0 op byte e → new ≡ m.next at (Some (Byte byte))
      → (j : ℕ) × PortRun m answers n (shown_lines lines safe_until) j old d new e
  port_run_past_access k old s last at new d f e t op byte so_far looks asked answer goes =
      let passed : IsAnswered m answers n last f new e = record {
        op = op;
        byte = byte;
        below = omega (arith, asked.0, asked.1);
        asks = asked.2;
        answered = subst (λ (u : ℕ). answers f u op byte e) asked.0 answer;
        goes = subst (λ (x : S). new ≡ m.next x (Some (Byte byte))) asked.3 goes;
      } in
      port_run_on so_far.0 1 old s new d f e so_far.1 (last, new, e, (k, looks), passed, (refl, (0, refl)))

  -- what such steps and a further run yield
  pub port_run_to_ask_after : (s mid new : S) (d f e : D) (ask : Ask) → (j : ℕ) × PortRun m answers n (shown_lines lines safe_until) j s d mid f → PortRunToAsk m answers n (shown_lines lines safe_until) mid f ask new e
      → PortRunToAsk m answers n (shown_lines lines safe_until) s d ask new e
  port_run_to_ask_after s mid new d f e ask so_far port_run_to_ask =
      let all = port_run_on so_far.0 port_run_to_ask.accesses s mid port_run_to_ask.last d f e so_far.1 port_run_to_ask.port_run in
      record { accesses = all.0; last = port_run_to_ask.last; port_run = all.1; asked = port_run_to_ask.asked; not_safe = port_run_to_ask.not_safe }

  pub port_run_to_ask_sees : (s new : S) (d : D) (ask : Ask) → LookRunToAsk m n (shown_lines lines safe_until) s ask new → PortRunToAsk m answers n (shown_lines lines safe_until) s d ask new d
  port_run_to_ask_sees s new d ask sees = record { accesses = 0; last = sees.last; port_run = (refl, (sees.steps, sees.looks)); asked = sees.asked; not_safe = sees.not_safe }

  pub port_run_to_ask_shut : ((d : D) (t : ℕ) (op : Op) (byte : ℕ) (e : D) → answers d t op byte e → ⊥) → (s new : S) (d e : D) (ask : Ask) → PortRunToAsk m answers n (shown_lines lines safe_until) s d ask new e
      → LookRunToAsk m n (shown_lines lines safe_until) s ask new
  port_run_to_ask_shut h s new d e ask port_run_to_ask = grind arith
