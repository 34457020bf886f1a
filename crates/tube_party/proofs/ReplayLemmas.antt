-- A replay, step by step.
use Rattle.std.proofs.Common.{◌≡◌, ◌∙◌, sym, refl, ap, subst, ℕ, zero, suc, ◌+◌, ◌<◌, ◌≤◌, ◌-◌, List, length, true, false, nat_lt, Option, Some, None, arith}
use Rattle.std.proofs.lemmas.Bool.Decides.{nat_tests}
use Rattle.beeb_bits.specs.declared.Tick.{Tick}
use Rattle.beeb_bits.specs.declared.Side.{Side}
use Rattle.tube_chip.specs.declared.Op.{Op}
use Rattle.tube_chip.specs.declared.Answer.{Answer}
use Rattle.tube_chip.specs.declared.Answer.TheVariants.{Byte, Seen}
use Rattle.tube_chip.specs.State.{lines_of, power_on}
use Rattle.tube_chip.specs.declared.Lines.{Lines}
use Rattle.tube_chip.specs.Act.{Query, access, look}
use Rattle.tube_trace.specs.declared.Entry.{Entry}
use Rattle.tube_party.specs.declared.party.Ask.{Ask}
use Rattle.tube_party.specs.declared.party.Ask.TheVariants.{Nothing, Access, Look}
use Rattle.tube_party.specs.Transitions.{Transitions, IsLawful, PortRunToAsk, IsAskedFor, FitsAnswer, shown_lines}
use Rattle.tube_party.specs.Replay.{Numbered, Ended, own_from, finish_leaves, next_line, doing_of, differs, one_step, replay_from, replay_of, chip_before}
use Rattle.tube_party.specs.CodeCursor.{Takes, Misses, Owned, IsTaken}
use Rattle.tube_party.proofs.Runs.{Glances, Here, Past, Seeing, glances_rise, Talking, Last, Next, talking_of}

pub low_true : (a n : ℕ) → a < n → nat_lt a n ≡ true
low_true a n h = grind (arith, nat_tests)

low_false : (a n : ℕ) → n ≤ a → nat_lt a n ≡ false
low_false a n h = grind (arith, nat_tests)

-- what a replay still has to do, with steps enough for it
pub record Goes {S : Type 0} (m : Transitions S) (side : Side) (trace : List Entry) (n : ℕ) (whole : Ended S) (s : S) (own : List Numbered) : Type 0 where
  pub steps : ℕ
  pub enough : n ≤ m.due s + steps
  pub same : whole ≡ replay_from m side trace n steps s own

module _ {S : Type 0} (m : Transitions S) (side : Side) (trace : List Entry) (n : ℕ) where
  -- at or past n nothing is done
  pub at_end : (steps : ℕ) (s : S) (own : List Numbered) → n ≤ m.due s → replay_from m side trace n steps s own ≡ finish_leaves m n s own
  at_end zero s own h = refl
  at_end (suc k) s own h = rw (low_false (m.due s) n h) refl

  -- below n one step is done
  pub step_now : (k : ℕ) (s : S) (own : List Numbered) → m.due s < n → replay_from m side trace n (suc k) s own ≡ one_step m side trace s own (m.asks s) (replay_from m side trace n k)
  step_now k s own low = rw (low_true (m.due s) n low) refl

  later : IsLawful m → (s : S) (a : Option Answer) (k : ℕ) → n ≤ m.due s + suc k → n ≤ m.due (m.next s a) + k
  later lawful s a k h = let rise = lawful.rises s a in omega arith

module _ {S : Type 0} {m : Transitions S} {side : Side} {trace : List Entry} {n : ℕ} {whole : Ended S} {s : S} {own : List Numbered} (goes : Goes m side trace n whole s own) where
  pub goes_end : n ≤ m.due s → whole ≡ finish_leaves m n s own
  goes_end over = goes.same ∙ at_end m side trace n goes.steps s own over

  -- one step that asks nothing
  pub goes_none : IsLawful m → m.due s < n → m.asks s ≡ None → Goes m side trace n whole (m.next s None) own
  goes_none lawful low is = grind (arith, nat_tests)

  -- a look
  pub goes_look : IsLawful m → m.due s < n → m.asks s ≡ Some look →
      Goes m side trace n whole (m.next s (Some (Seen (lines_of (chip_before side (m.due s) power_on trace))))) own
  goes_look lawful low is = grind (arith, nat_tests)

  -- an access that is the side's next entry
  pub goes_access : IsLawful m → (others : List Numbered) (op : Op) (byte : ℕ) → m.due s < n → m.asks s ≡ Some (access op) →
      Takes own others (m.due s) op byte → Goes m side trace n whole (m.next s (Some (Byte byte))) others
  goes_access lawful others op byte low is takes = grind (arith, nat_tests)

  -- an access that is not
  pub goes_differs : (op : Op) (line : ℕ) → m.due s < n → m.asks s ≡ Some (access op) → Misses own (length trace) (m.due s) op line → whole ≡ differs m side s op line
  goes_differs op line low is h = grind (arith, nat_tests)

-- the whole replay, before its first step
pub goes_all : {S : Type 0} (m : Transitions S) (side : Side) (trace : List Entry) (n : ℕ) (s : S) → Goes m side trace n (replay_of m side trace n s) s (own_from side n 1 trace)
unfolding replay_of
goes_all m side trace n s = record { steps = n; enough = omega arith; same = refl }

-- from a tick on, looks below another see these lines
abbrev IsShown : Side → List Entry → Lines → ℕ → ℕ → Type 0
IsShown side trace lines safe_until from = (t : ℕ) → from ≤ t → t < safe_until → lines_of (chip_before side t power_on trace) ≡ lines

module _ {S : Type 0} (m : Transitions S) (side : Side) (trace : List Entry) (n : ℕ) (whole : Ended S) (old new : S) (d e : Owned) where
  -- what still has to be done after some steps, with the entries that are left
  record Talked : Type 0 where
    goes : Goes m side trace n whole new e.left
    lines_same : e.lines ≡ d.lines
    later : m.due old ≤ m.due new

  -- and this is asked of the Tube at the next step
  pub record Stands (tick : ℕ) (q : Query) : Type 0 where
    pub goes : Goes m side trace n whole new e.left
    pub lines_same : e.lines ≡ d.lines
    pub later : m.due old ≤ m.due new
    pub tick_is : tick ≡ m.due new
    pub below : m.due new < n
    pub asks : m.asks new ≡ Some q

-- steps among which looks see what the entries before them leave, and accesses that the port
-- answers, each by the side's next entry
module _ {S : Type 0} {m : Transitions S} {side : Side} {trace : List Entry} {n : ℕ} (lawful : IsLawful m) {whole : Ended S} {lines : Lines} {safe_until : ℕ} where
  goes_seeing : {own : List Numbered} {last s : S} → Goes m side trace n whole s own → IsShown side trace lines safe_until (m.due s) → Glances m n (shown_lines lines safe_until) last s
      → Goes m side trace n whole last own
  goes_seeing goes same Here = goes
  goes_seeing goes same (Past {s = s} low none on) =
      goes_seeing (goes_none goes lawful low none) (λ t a b. same t (omega (arith, lawful.rises s None, a)) b) on
  goes_seeing goes same (Seeing {s = s} low is before on) =
      goes_seeing (rw (same (m.due s) (omega arith) before) at (goes_look goes lawful low is))
      (λ t a b. same t (omega (arith, lawful.rises s (Some (Seen lines)), a)) b) on

  goes_port_run : {last : S} {e : Owned} {s : S} {d : Owned} → Goes m side trace n whole s d.left → IsShown side trace lines safe_until (m.due s)
      → Talking m IsTaken n (shown_lines lines safe_until) last e s d → Talked m side trace n whole s last d e
  goes_port_run goes same (Last looks) = record { goes = goes_seeing goes same looks; lines_same = refl; later = glances_rise lawful looks }
  goes_port_run goes same (Next {at = at} {on = on} {f = f} looks took port_run) =
      let up = glances_rise lawful looks in
      let answered = goes_access (goes_seeing goes same looks) lawful f.left took.op took.byte took.below took.asks took.answered.0 in
      let beyond : m.due at < m.due on = rw took.goes (lawful.rises at (Some (Byte took.byte))) in
      let rest = goes_port_run (rw (← took.goes) at answered) (λ t a b. same t (omega (arith, up, beyond, a)) b) port_run in
      record { goes = rest.goes; lines_same = rest.lines_same ∙ took.answered.1; later = omega (arith, up, beyond, rest.later) }

  module _ {old new : S} {d e : Owned} {ask : Ask} (so_far : Goes m side trace n whole old d.left) (same : IsShown side trace lines safe_until (m.due old))
      (heard : PortRunToAsk m IsTaken n (shown_lines lines safe_until) old d ask new e) where
    talked : Talked m side trace n whole old heard.last d e
    talked = goes_port_run so_far same (talking_of heard.accesses heard.port_run)

    -- it asks for nothing below n
    pub ran_out : ask ≡ Nothing → (new ≡ whole.machine) × (next_line e.left ≡ whole.place)
    ran_out is =
        let asked = rw is at heard.asked in
        let ended = goes_end talked.goes asked.0 in
        (asked.1 ∙ sym (ap (λ x. x.machine) ended), sym (ap (λ x. x.place) ended))

    -- it asks this of the Tube at its next step
    stands : (tick : ℕ) (q : Query) → (tick ≡ m.due heard.last) × (tick < n) × (m.asks heard.last ≡ Some q) × (new ≡ heard.last) → Stands m side trace n whole old new d e tick q
    stands tick q asked =
        let same_due : m.due new ≡ m.due heard.last = ap m.due asked.3 in
        record {
          goes = rw asked.3 talked.goes;
          lines_same = talked.lines_same;
          later = omega (arith, talked.later, same_due);
          tick_is = asked.0 ∙ sym same_due;
          below = omega (arith, asked.0, asked.1, same_due);
          asks = ap m.asks asked.3 ∙ asked.2;
        }

    pub stands_access : (t : Tick) (op : Op) → ask ≡ Access t op → Stands m side trace n whole old new d e t.0 (access op)
    stands_access t op is = stands t.0 (access op) (rw is at heard.asked)

    pub stands_look : (t : Tick) → ask ≡ Look t → Stands m side trace n whole old new d e t.0 look × (safe_until ≤ t.0)
    stands_look t is =
        (stands t.0 look (rw is at heard.asked), rw is at heard.not_safe)

-- an answer to what is asked
asked_for : {S : Type 0} (m : Transitions S) (most : ℕ) (s : S) (q : Query) (a : Answer) → m.due s < most → m.asks s ≡ Some q → FitsAnswer q a → IsAskedFor m most s a
asked_for m most s q a low is fits = record { below = low; kind = rw is fits }

-- what follows if it asks
module _ {S : Type 0} {m : Transitions S} {side : Side} {trace : List Entry} {n : ℕ} {whole : Ended S} {old new : S} {d e : Owned} {tick : ℕ} where
  -- an access that is not the side's next entry
  pub went_apart : {op : Op} {line : ℕ} → Stands m side trace n whole old new d e tick (access op) → d.lines ≡ length trace → Misses e.left e.lines tick op line
      → (new ≡ whole.machine) × (Some (line, Some (doing_of tick side op)) ≡ whole.place)
  went_apart {op} {line} stands lines misses =
      let here : Misses e.left (length trace) (m.due new) op line =
      subst (λ t. Misses e.left (length trace) t op line) stands.tick_is
      (rw (stands.lines_same ∙ lines) at misses) in
      let ended : whole ≡ differs m side new op line = goes_differs stands.goes op line stands.below stands.asks here in
      (sym (ap (λ x. x.machine) ended), rw stands.tick_is (sym (ap (λ x. x.place) ended)))

  -- an answer to it
  pub stands_asking : {q : Query} {a : Answer} → Stands m side trace n whole old new d e tick q → n ≤ 1073741824 → FitsAnswer q a → IsAskedFor m 1073741824 new a
  stands_asking {q} {a} stands low fits = asked_for m 1073741824 new q a (omega (arith, stands.below)) stands.asks fits

  pub stands_rises : {q : Query} {a : Answer} {after : S} → IsLawful m → Stands m side trace n whole old new d e tick q → after ≡ m.next new (Some a)
      → (m.due new < m.due after) × (n - m.due after < n - m.due old)
  stands_rises {a = a} lawful stands is =
      let rises = lawful.rises new (Some a) in
      let same = ap m.due is in
      (omega arith, omega (arith, stands.later, stands.below))
