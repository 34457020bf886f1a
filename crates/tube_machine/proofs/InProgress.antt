-- A machine of which device steps are owed: it represents the one in which they are done.
use Rattle.std.proofs.Common.{◌≡◌, ◌≤◌, ◌<◌, ◌∙◌, ◌+◌, ◌-◌, ◌⊎◌, inl, inr, refl, sym, ap, subst, ℕ, suc, Bool, true, false, is_none, Option, Some, None, IsSome, arith, if◌then◌else◌}
use Rattle.std.specs.Prelude.{nat_lt}
use Rattle.std.proofs.lemmas.Bool.{lt-ltb, le-ltb}
use Rattle.op_table.specs.declared.names.Part.{Part}
use Rattle.cpu_alu.specs.declared.Cycle.{Cycle}
use Rattle.cpu_alu.specs.declared.Regs.{Regs}
use Rattle.cpu_core.specs.declared.Sequence.{Sequence}
use Rattle.cpu_core.specs.declared.Sequence.TheVariants.{Instruction}
use Rattle.cpu_core.specs.State as cpu
use Rattle.cpu_core.specs.Sequences.{next_cycle, after_byte, after, sequence_at_look, fresh}
use Rattle.tube_chip.specs.Act.{look}
use Rattle.tube_chip.specs.declared.Lines.{Lines}
use Rattle.tube_chip.specs.declared.Answer.TheVariants.{Seen}
use Rattle.tube_party.specs.Transitions.{Looks, shown_lines}
use Rattle.tube_party.specs.Steps.{silent_last, look_last}
use Rattle.tube_machine.specs.BusModel.{BusModel, IsWired, StaysPlain}
use Rattle.tube_machine.specs.Step.{At, at_of, is_break, begin_leaves, asks, asks_by, closed_to, next_state, after_look, transitions_of}
use Rattle.tube_machine.specs.Lawful.{asked_closed, break_closed, next_closed}
use Rattle.tube_machine.specs.NoBreak.{no-break, plain-asks, plain-next}
use Rattle.tube_machine.specs.Exchange.{IsQuick, behind, owed_at}

-- the tick to which the device steps are owed

pub owed-some : (n since due closed : ℕ) → since < due → owed_at n since due closed ≡ due - (n - 1)
owed-some n since due closed gone = rw (lt-ltb since due gone) refl

pub behind-none : (t : ℕ) → behind t t ≡ 0
behind-none t = rw (le-ltb t t (omega arith)) refl

pub behind-some : (from due : ℕ) → from < due → behind from due ≡ due
behind-some from due gone = rw (lt-ltb from due gone) refl

pub behind-most : (from due : ℕ) → behind from due ≤ due
behind-most from due = by (nat_lt from due)
  where
    by : (b : Bool) → (if b then due else 0) ≤ due
    by true = omega arith
    by false = omega arith

-- a sequence that begins has a first access
pub begins : (part : Part) (sequence : Sequence) (r : Regs) → IsSome (next_cycle part (fresh sequence r))
begins part Instruction r = refl
begins part _ r = refl

on-by : (o : Option Cycle) (t n : ℕ) → IsSome o → (if is_none o then t + (n - 1) else t + n) ≡ t + n
on-by (Some d) t n h = refl
on-by None t n h = absurd (cc)

pub at-same : {B : Type 0} {c d : cpu.State} {a b : B} {t u : ℕ} → c ≡ d → a ≡ b → t ≡ u → at_of c a t ≡ at_of d b u
at-same p q r = cc

module _ (part : Part) {B : Type 0} (w : BusModel B) where
  -- no break is pending below this tick
  abbrev pub IsFree : ℕ → B → Type 0
  IsFree far b = (t : ℕ) → t < far → w.pending b t ≡ false

  -- some steps, of which each asked nothing or saw the lines
  abbrev pub Came : ℕ → Lines → ℕ → At B → At B → Type 0
  Came until lines safe_until start s = (k : ℕ) × Looks (transitions_of part w) until (shown_lines lines safe_until) k start s

  -- A look that takes no reset.
  pub plain-look : (s : At B) (l : Lines) → w.resets s.bus l ≡ false →
      after_look part w s l ≡ begin_leaves s (fresh (sequence_at_look (w.nmi s.bus l) (w.irq s.bus l) (after part s.cpu)) (after part s.cpu)) (w.taken s.bus l)
  plain-look s l none = rw none

-- The steps until here asked nothing, or saw these lines. The next one is an access, and device
-- steps are owed if there was an access since a tick. A cycle has n ticks, and no break comes below
-- tick far. Looks are plain if they were so at the start.
pub record IsInProgress (part : Part) {B : Type 0} (w : BusModel B) (plain : B → Lines → Bool) (far n until : ℕ) (lines : Lines) (safe_until : ℕ) (start s : At B) (since : ℕ) : Type 0 where
  pub cycle : n ≡ w.cycle s.bus
  pub goes_on : IsSome (next_cycle part s.cpu)
  pub looks : (k : ℕ) × Looks (transitions_of part w) until (shown_lines lines safe_until) k start (closed_to w s (owed_at n since s.due (w.closed s.bus)))
  pub low : w.closed s.bus ≤ owed_at n since s.due (w.closed s.bus)
  pub high : owed_at n since s.due (w.closed s.bus) ≤ s.due + 1
  pub free : IsFree part w far s.bus
  pub since_then : (since ≡ s.due) ⊎ ((since + n ≤ s.due) × (s.due < until + n))
  pub kept : plain start.bus lines ≡ true → plain s.bus lines ≡ true

module _ (part : Part) {B : Type 0} {w : BusModel B} (wired : IsWired w) {plain : B → Lines → Bool} (stays : StaysPlain w plain) where
  -- no steps are owed
  none-owed : (s : At B) → closed_to w s (w.closed s.bus) ≡ s
  none-owed s = ap (λ (b : B). record s { bus = b }) (wired.still s.bus (w.closed s.bus) (omega arith))

  -- after a plain look the devices are closed up to the next step, which is an access, and nothing
  -- more changed
  pub record IsLookedAt (lines : Lines) (t : ℕ) (s new : At B) : Type 0 where
    pub goes_on : IsSome (next_cycle part new.cpu)
    pub closed : w.closed new.bus ≡ t
    pub cycle : w.cycle s.bus ≡ w.cycle new.bus
    pub free : (far : ℕ) → IsFree part w far s.bus → IsFree part w far new.bus
    pub is_plain : plain new.bus lines ≡ true
    pub due : new.due ≡ s.due + 1

  pub after-look : {lines : Lines} (s : At B) {new : At B} (t : ℕ) → w.closed s.bus ≤ t → plain s.bus lines ≡ true
      → new ≡ after_look part w (closed_to w s t) lines → IsLookedAt lines t s new
  after-look {lines} s {new} t low is_plain is =
      let x : At B = closed_to w s t in
      let plain_there : plain x.bus lines ≡ true = stays.close s.bus lines t ∙ is_plain in
      let at : At B = begin_leaves x (fresh (sequence_at_look (w.nmi x.bus lines) (w.irq x.bus lines) (after part s.cpu)) (after part s.cpu)) (w.taken x.bus lines) in
      let same : new ≡ at = is ∙ plain-look part w x lines (stays.resets x.bus lines plain_there) in
      rw same (record {
        goes_on = begins part at.cpu.sequence at.cpu.regs;
        closed = wired.closed_taken x.bus lines ∙ wired.closed s.bus t ∙ omega (arith, low);
        cycle = sym (wired.cycle_taken x.bus lines ∙ wired.cycle_close s.bus t);
        free = λ far free u high. wired.pending_taken x.bus lines u ∙ wired.pending_close s.bus t u ∙ free u high;
        is_plain = stays.taken x.bus lines plain_there;
        due = refl;
      })

  -- A look of a machine that represents one closed further.
  module _ (c : cpu.State) (b : B) (t u : ℕ) (over : next_cycle part c ≡ None) (none : w.pending b t ≡ false) where
    abbrev stands : At B
    stands = at_of c (w.close b u) t

    free : is_break part w stands ≡ false
    free = no-break part w stands (wired.pending_close b u t ∙ none)

    pub look-asks : asks part w stands ≡ Some look
    look-asks = plain-asks part w stands free ∙ ap (asks_by w stands.bus) over

    pub look-next : (lines : Lines) {new : At B} → u ≤ t + 1 → new ≡ after_look part w (closed_to w (at_of c b t) (t + 1)) lines → new ≡ next_state part w stands (Some (Seen lines))
    look-next lines high is = grind arith

  -- a plain look below `safe_until`
  sees-on : (until : ℕ) (lines : Lines) (safe_until : ℕ) (start : At B) (c : cpu.State) (b : B) (t u : ℕ) (new : At B)
      → Came part w until lines safe_until start (at_of c (w.close b u) t) → u ≤ t + 1
      → next_cycle part c ≡ None → t < until → t < safe_until → w.pending b t ≡ false →
      new ≡ after_look part w (closed_to w (at_of c b t) (t + 1)) lines → Came part w until lines safe_until start new
  sees-on until lines safe_until start c b t u new came high over low early none is =
      rw (look-next c b t u over none lines high is)
      (suc came.0, look_last (transitions_of part w) until lines safe_until came.0 start (at_of c (w.close b u) t) came.1 low (look-asks c b t u over none) early)

  module _ {far n until : ℕ} {lines : Lines} {safe_until : ℕ} {start s : At B} where
    -- before the next access, if no steps are owed
    pub caught-up : n ≡ w.cycle s.bus → IsSome (next_cycle part s.cpu) → w.closed s.bus ≤ s.due + 1 → IsFree part w far s.bus
        → (plain start.bus lines ≡ true → plain s.bus lines ≡ true) →
        Came part w until lines safe_until start s → IsInProgress part w plain far n until lines safe_until start s s.due
    caught-up cycle goes_on before free kept came = grind arith

    -- a look that sees the lines, before the first access
    pub at-look : n ≡ w.cycle start.bus → next_cycle part start.cpu ≡ None → w.closed start.bus ≤ start.due + 1 → IsFree part w far start.bus → plain start.bus lines ≡ true →
        start.due < until → start.due < safe_until → start.due < far →
        s ≡ after_look part w (closed_to w start (start.due + 1)) lines → IsInProgress part w plain far n until lines safe_until start s s.due
    at-look cycle over before free is_plain low early far_on is =
        let saw = sees-on until lines safe_until start start.cpu start.bus start.due (w.closed start.bus) s (0, sym (none-owed start)) before over low early (free start.due far_on) is in
        let looked = after-look start (start.due + 1) before is_plain is in
        caught-up (cycle ∙ looked.cycle) looked.goes_on (omega (arith, looked.closed, looked.due)) (looked.free far free) (λ _. looked.is_plain) saw

    -- nothing is owed at a step before which there was no access
    pub came-there : IsInProgress part w plain far n until lines safe_until start s s.due → Came part w until lines safe_until start s
    came-there way = grind arith

  module _ {far n until : ℕ} {lines : Lines} {safe_until : ℕ} {start s : At B} {since : ℕ} (way : IsInProgress part w plain far n until lines safe_until start s since) where
    -- a step that asked nothing, of the machine whose steps are owed
    steps-on : s.due < until → is_break part w s ≡ false → asks_by w s.bus (next_cycle part s.cpu) ≡ None → Came part w until lines safe_until start (next_state part w s None)
    steps-on low free none =
        let owed : ℕ = owed_at n since s.due (w.closed s.bus) in
        let x : At B = closed_to w s owed in
        let asks = plain-asks part w x (break_closed part w wired s owed ∙ free) ∙ asked_closed part w wired false (next_cycle part s.cpu) s.bus owed ∙ none in
        subst (Came part w until lines safe_until start) (next_closed part w wired s owed None way.high)
        (suc way.looks.0, silent_last (transitions_of part w) until lines safe_until way.looks.0 start x way.looks.1 low asks)

    -- a quick access leaves cycles, breaks and looks as they were
    module _ {byte : ℕ} {c : Cycle} (b : B) (is : next_cycle part s.cpu ≡ Some c) (done : IsQuick w s.bus s.due c (Some byte) b) where
      quick-cycle : n ≡ w.cycle b
      quick-cycle =
          way.cycle
          ∙ sym (sym (wired.cycle_close b (s.due + 1)) ∙ ap w.cycle done.2 ∙ wired.cycle_after (w.close s.bus (s.due + 1)) c ∙ wired.cycle_close s.bus (s.due + 1))

      pub quick-free : IsFree part w far b
      quick-free u low =
          sym (wired.pending_close b (s.due + 1) u) ∙ ap (λ (d : B). w.pending d u) done.2 ∙ wired.pending_after (w.close s.bus (s.due + 1)) c u ∙ wired.pending_close s.bus (s.due + 1) u
          ∙ way.free u low

      pub quick-plain : plain start.bus lines ≡ true → plain b lines ≡ true
      quick-plain first =
          sym (stays.close b lines (s.due + 1)) ∙ ap (λ (d : B). plain d lines) done.2 ∙ stays.after (w.close s.bus (s.due + 1)) lines c ∙ stays.close s.bus lines (s.due + 1) ∙ way.kept first

      module _ (low : s.due < until) (far_on : s.due + (n - 1) < far) {on : cpu.State} (gave : on ≡ after_byte part s.cpu byte) where
        -- it is such a step, which leaves the device steps before it for later
        quick-on : Came part w until lines safe_until start (at_of on (w.close b (s.due + 1)) (if is_none (next_cycle part on) then s.due + (n - 1) else s.due + n))
        quick-on =
            let x : At B = closed_to w s (s.due + 1) in
            let none : is_break part w s ≡ false = no-break part w s (way.free s.due (omega (arith, far_on))) in
            let pends : w.pending x.bus (s.due + (n - 1)) ≡ false = wired.pending_close s.bus (s.due + 1) (s.due + (n - 1)) ∙ way.free (s.due + (n - 1)) far_on in
            let same : next_state part w s None ≡ at_of on (w.close b (s.due + 1)) (if is_none (next_cycle part on) then s.due + (n - 1) else s.due + n) =
            plain-next part w s None none ∙ rw (is, done.3 ∙ sym way.cycle, pends, ← done.1, ← gave, ← done.2) in
            subst (Came part w until lines safe_until start) same (steps-on low none (ap (asks_by w s.bus) is ∙ done.0))

        -- and then comes the next access
        pub quick-more : w.closed b ≤ s.due + 1 → IsSome (next_cycle part on) → IsInProgress part w plain far n until lines safe_until start (at_of on b (s.due + n)) since
        quick-more before more =
            let some : 1 < n = omega (arith, way.cycle, wired.some s.bus) in
            let gone : since < s.due + n = elim way.since_then [ inl e ↦ omega (arith, e, some) | inr e ↦ omega (arith, e.0, some) ] in
            let owed : owed_at n since (s.due + n) (w.closed b) ≡ s.due + 1 = owed-some n since (s.due + n) (w.closed b) gone ∙ omega (arith, some) in
            let due : (if is_none (next_cycle part on) then s.due + (n - 1) else s.due + n) ≡ s.due + n = on-by (next_cycle part on) s.due n more in
            record {
              cycle = quick-cycle;
              goes_on = more;
              looks = subst (Came part w until lines safe_until start) (ap (at_of on (w.close b (s.due + 1))) due ∙ ap (λ (t : ℕ). at_of on (w.close b t) (s.due + n)) (sym owed)) quick-on;
              low = omega (arith, owed, before);
              high = omega (arith, owed);
              free = quick-free;
              since_then = inr (elim way.since_then [ inl e ↦ omega (arith, e) | inr e ↦ omega (arith, e.0) ], omega (arith, low));
              kept = quick-plain;
            }

        -- or the look at the end of the sequence
        pub quick-last : next_cycle part on ≡ None → {t : ℕ} → t ≡ s.due + (n - 1) → Came part w until lines safe_until start (at_of on (w.close b (s.due + 1)) t)
        quick-last over here =
            subst (Came part w until lines safe_until start)
            (ap (λ (o : Option Cycle). at_of on (w.close b (s.due + 1)) (if is_none o then s.due + (n - 1) else s.due + n)) over ∙ ap (at_of on (w.close b (s.due + 1))) (sym here)) quick-on

        -- after which comes another access
        pub quick-past : w.closed b ≤ s.due + 1 → next_cycle part on ≡ None → plain start.bus lines ≡ true → s.due + (n - 1) < until → s.due + (n - 1) < safe_until →
            {t : ℕ} → t ≡ s.due + (n - 1) → {new : At B} → new ≡ after_look part w (closed_to w (at_of on b t) (t + 1)) lines
            → IsInProgress part w plain far n until lines safe_until start new new.due
        quick-past before over first in_run early {t} here {new} there =
            let some : 1 < n = omega (arith, way.cycle, wired.some s.bus) in
            let saw = sees-on until lines safe_until start on b t (s.due + 1) new (quick-last over here) (omega (arith, here, some)) over (omega (arith, here, in_run)) (omega (arith, here, early))
            (quick-free t (omega (arith, here, far_on))) there in
            let looked = after-look (at_of on b t) (t + 1) (omega (arith, before, here, some)) (quick-plain first) there in
            caught-up (quick-cycle ∙ looked.cycle) looked.goes_on (omega (arith, looked.closed, looked.due)) (looked.free far quick-free) (λ _. looked.is_plain) saw
