-- A party that keeps the chosen starts among those from which it did a step.
use Rattle.std.specs.Prelude.{ℕ, ◌≡◌, Bool, Option, None, Some, if◌then◌else◌, refl}
use Rattle.std.proofs.Common.{ap}
use Rattle.op_table.specs.declared.names.Part.{Part}
use Rattle.tube_party.specs.Transitions.{Transitions, IsLawful, IsClosing}
use Rattle.follow.specs.declared.choice.Choice.{Choice}
use Rattle.follow.specs.Sight.{Sight, IsSameSight, IsSeen}
use Rattle.follow.specs.CodeNotes.{Kept, keep}
use Rattle.follow.specs.Start.{StartState, watched_byte, start_at, start_of}

-- the processor's part, and the starts that are listed
pub record Order : Type 0 where
  pub part : Part
  pub choice : Choice

abbrev pub order : Part → Choice → Order
order part choice = record { part = part; choice = choice }

-- A party, the starts that are to be listed, and the notes of the starts from which it did a step.
pub record Watched (S : Type 0) : Type 0 where
  pub now : S
  pub order : Order
  pub kept : Kept

abbrev pub watched_of : {S : Type 0} → S → Order → Kept → Watched S
watched_of s order kept = record { now = s; order = order; kept = kept }

abbrev pub keep_if : Bool → Choice → Kept → StartState → Kept
keep_if is choice k x = if is then keep choice k x else k

module _ {S : Type 0} (m : Transitions S) (sights : S → Sight) where
  -- the notes, with this state if it starts an instruction
  abbrev pub noted : S → Choice → Kept → Kept
  noted s choice kept = keep_if (sights s).starting choice kept (start_of m sights choice.watch s)

  -- Its steps are the party's.
  abbrev pub watched_transitions : Transitions (Watched S)
  watched_transitions = record {
    due = λ w. m.due w.now;
    asks = λ w. m.asks w.now;
    next = λ w a. watched_of (m.next w.now a) w.order (noted w.now w.order.choice w.kept);
    closed = λ w. m.closed w.now;
    close = λ w t. watched_of (m.close w.now t) w.order w.kept;
  }

  watched_same : (watch : Option ℕ) (p q : ℕ → Option ℕ) → ((at : ℕ) → p at ≡ q at) → watched_byte watch p ≡ watched_byte watch q
  watched_same None p q same = refl
  watched_same (Some at) p q same = same at

  start_same : (tick : ℕ) (watch : Option ℕ) (a b : Sight) → IsSameSight a b → start_at tick watch a ≡ start_at tick watch b
  start_same tick watch a b same = simp (same.regs, same.peek, watched_same watch a.peek b.peek same.peek)

  -- Closing the party leaves the notes as they are.
  noted_closed : (s : S) (choice : Choice) (kept : Kept) (t : ℕ) → IsSameSight (sights (m.close s t)) (sights s) → m.due (m.close s t) ≡ m.due s →
      noted (m.close s t) choice kept ≡ noted s choice kept
  noted_closed s choice kept t same due =
      rw same.starting (ap (keep_if (sights s).starting choice kept) (rw due (start_same (m.due s) choice.watch (sights (m.close s t)) (sights s) same)))

  pub watched_lawful : IsSeen m sights → IsLawful watched_transitions
  watched_lawful seen = record {
    rises = λ w a. seen.lawful.rises w.now a;
    within = λ w. seen.lawful.within w.now;
    closing = λ w t low high.
        let closing : IsClosing m w.now t = seen.lawful.closing w.now t low high in record {
          closed = closing.closed;
          due = closing.due;
          asks = closing.asks;
          next = λ a. rw (closing.next a, noted_closed w.now w.order.choice w.kept t (seen.closing w.now t) closing.due);
          again = λ u low2 high2. rw (closing.again u low2 high2);
        };
  }
