-- If two parties each follow their side of a trace that the chip answers, the chip answers the
-- merge of their lists too, and the trace is its accesses.
use Rattle.std.proofs.Common.{ℕ, zero, suc, ◌≡◌, ◌+◌, ◌<◌, ◌≤◌, ◌⊎◌, inl, inr, refl, sym, ◌∙◌, ap, subst, arith, false, List, [], ◌∷◌, ◌++◌, length, None, Some}
use Rattle.std.specs.Prelude.{All, IsTrue}
use Rattle.std.proofs.lemmas.List.Elements.{All-nil, All-cons, All-head, All-tail, All-weaker, All-filter}
use Rattle.std.proofs.lemmas.Bool.Decides.{nat_tests}
use Rattle.beeb_bits.specs.Order.{before}
use Rattle.beeb_bits.specs.declared.Side.{Side}
use Rattle.beeb_bits.specs.declared.Side.TheVariants.{Host, Para}
use Rattle.tube_chip.specs.declared.Answer.{Answer}
use Rattle.tube_chip.specs.declared.Answer.TheVariants.{Byte, Seen}
use Rattle.tube_chip.specs.declared.Op.{Op}
use Rattle.tube_chip.specs.State.{State, lines_of}
use Rattle.tube_chip.specs.Act.{Query, access, look, act}
use Rattle.tube_chip.specs.Events.{Event, IsBefore, Rises, RisesAfter, IsAnsweredFrom, after_from, merge, is_side}
use Rattle.tube_chip.proofs.Merged.{rises_tail}
use Rattle.tube_trace.specs.declared.Entry.{Entry}
use Rattle.tube_trace.specs.Entries.{entry_of, accesses, event_of, events_of}
use Rattle.tube_trace.proofs.MergeLemmas.{accesses_back}
use Rattle.tube_party.specs.Transitions.{Transitions, IsLawful}
use Rattle.tube_party.specs.Replay.{chip_before}
use Rattle.tube_party.proofs.Runs.{event, IsOf, Steps, Over, Silent, Asking}
use Rattle.tube_party.proofs.Listed.{before-then}
use Rattle.tube_party.proofs.Followed.{side_self}
use Rattle.tube_party.proofs.Replayed.{own, On, tail_by, all_after}
use Rattle.tube_party.proofs.Replayed.{placed}
use Rattle.tube_party.proofs.Meet.{merge_first, merge_second}

own_first : (side : Side) (x : Entry) (trace : List Entry) → x.side ≡ side → own side (x ∷ trace) ≡ x ∷ own side trace
own_first side x trace is = rw (ap (is_side side) is ∙ side_self side) refl

own_other : (side : Side) (x : Entry) (trace : List Entry) → is_side side x.side ≡ false → own side (x ∷ trace) ≡ own side trace
own_other side x trace is = rw is refl

-- Events of one side, each before the next. Their accesses are the side's entries of a trace, and
-- the trace answers their looks, from chip c on.
pub record IsPart (side : Side) (c : State) (trace : List Entry) (l : List Event) : Type 0 where
  pub rises : Rises l
  pub each : All (IsOf side) l
  pub own_is : accesses l ≡ own side trace
  pub told : All (On c trace) l

-- entries, each before the next, which the chip answers, from chip c on
pub record IsTold (c : State) (trace : List Entry) : Type 0 where
  pub rises : Rises (events_of trace)
  pub answered : IsAnsweredFrom c (events_of trace)

-- the event comes before the entry
abbrev IsAhead : Event → Entry → Type 0
IsAhead x e = IsTrue (before x.tick x.side (e.tick).0 e.side)

-- and before the first of a trace
abbrev IsAheadOf : Event → List Entry → Type 0
IsAheadOf x [] = Unit {0}
IsAheadOf x (e ∷ trace) = IsAhead x e

ahead_of_accesses : (x : Event) (l : List Event) → All (IsBefore x) l → All (IsAhead x) (accesses l)
ahead_of_accesses x l all = placed (λ t side. IsTrue (before x.tick x.side t side)) l all

-- an entry comes before all that follow it
behind_entry : (e : Entry) (trace : List Entry) → RisesAfter (event_of e) (events_of trace) → All (IsAhead (event_of e)) trace
behind_entry e trace rises =
    rw (accesses_back trace) at (ahead_of_accesses (event_of e) (events_of trace) (all_after (event_of e) (events_of trace) rises))

-- a look before all entries sees the chip as it is
chip_stays : (x : Event) (c : State) (trace : List Entry) → IsAheadOf x trace → chip_before x.side x.tick c trace ≡ c
chip_stays x c trace ahead = grind (arith, nat_tests)

head_holds : (P : Entry → Type 0) (side : Side) (e : Entry) (trace : List Entry) (l : List Event) → e.side ≡ side → accesses l ≡ own side (e ∷ trace) → All P (accesses l) → P e
head_holds P side e trace l is same all = grind (arith, nat_tests)

not_both : (x y : ℕ) (a b : Side) → IsTrue (before x a y b) → IsTrue (before y b x a) → ⊥
not_both x y a b one two = grind (arith, nat_tests)

-- The chip answers the events, from chip c on, and their accesses are the trace.
pub record IsJoined (c : State) (trace : List Entry) (l : List Event) : Type 0 where
  pub answered : IsAnsweredFrom c l
  pub same : accesses l ≡ trace
  pub chip : after_from c l ≡ after_from c (events_of trace)

-- The first of the events of both sides, which is of side `one`.
module _ (one other : Side) (apart : is_side one other ≡ false) (back : is_side other one ≡ false) (which : (x : Side) → (x ≡ one) ⊎ (x ≡ other)) where
  ahead_of_trace : (x : Event) (trace : List Entry) (l m : List Event) → accesses l ≡ own one trace → accesses m ≡ own other trace
      → All (IsBefore x) l → All (IsBefore x) m → IsAheadOf x trace
  ahead_of_trace x [] l m ol om al am = tt
  ahead_of_trace x (e ∷ trace) l m ol om al am = elim (which e.side) [
    | inl is ↦ head_holds (IsAhead x) one e trace l is ol (ahead_of_accesses x l al)
    | inr is ↦ head_holds (IsAhead x) other e trace m is om (ahead_of_accesses x m am)
  ]

  -- the rest of the events are answered by the rest of the trace
  tail_told : (c : State) (t : ℕ) (side : Side) (op : Op) (b : ℕ) (rest : List Entry) (l : List Event) →
      let x : Event = event t side (access op) (Byte b) in
      All (IsBefore x) l → All (On c (entry_of t side (access op) (Byte b) ++ rest)) l → All (On (act c side (access op)).0 rest) l
  tail_told c t side op b rest l later told =
      let x : Event = event t side (access op) (Byte b) in
      let d : State = (act c side (access op)).0 in
      let trace : List Entry = entry_of t side (access op) (Byte b) ++ rest in
      let both : All (λ f. IsBefore x f × On c trace f) l = λ k e low. (later k e low, told k e low) in
      All-weaker (λ f. IsBefore x f × On c trace f) (On d rest)
      (λ f h. tail_by d c rest trace f.tick f.side f.query f.answer (sym (does f h.0)) h.1) l both
    where
      does : (f : Event) → IsTrue (before t side f.tick f.side) →
          chip_before f.side f.tick c (entry_of t side (access op) (Byte b) ++ rest) ≡ chip_before f.side f.tick (act c side (access op)).0 rest
      does f first = rw first refl

  -- what follows it joins the rest of a trace
  abbrev Then : List Event → List Event → List Event → Type 0
  Then l m others = (d : State) (rest : List Entry) → IsPart one d rest l → IsPart other d rest m → IsTold d rest → IsJoined d rest others

  -- it is an access, and the first entry is it
  access_here : (c : State) (t : ℕ) (side : Side) (op : Op) (b : ℕ) (rest : List Entry) (l m others : List Event) →
      let x : Event = event t side (access op) (Byte b) in
      let trace : List Entry = entry_of t side (access op) (Byte b) ++ rest in
      side ≡ one → IsPart one c trace (x ∷ l) → accesses l ≡ own one rest → IsPart other c trace m → All (IsBefore x) m → IsTold c trace → Then l m others
      → IsJoined c trace (x ∷ others)
  access_here c t side op b rest l m others is part own_is other_part am legal then =
      let x : Event = event t side (access op) (Byte b) in
      let first : Entry = record { tick = record { 0 = t }; side = side; op = op; answer = b } in
      let on : IsJoined (act c side (access op)).0 rest others =
      then (act c side (access op)).0 rest
      (record {
        rises = rises_tail x l part.rises;
        each = All-tail (IsOf one) x l part.each;
        own_is = own_is;
        told = tail_told c t side op b rest l (all_after x l part.rises) (All-tail (On c (first ∷ rest)) x l part.told);
      })
      (record {
        rises = other_part.rises;
        each = other_part.each;
        own_is = other_part.own_is ∙ own_other other first rest (ap (is_side other) is ∙ back);
        told = tail_told c t side op b rest m am other_part.told;
      })
      (record { rises = rises_tail x (events_of rest) legal.rises; answered = legal.answered.1 }) in
      record { answered = (legal.answered.0, on.answered); same = ap (λ y. first ∷ y) on.same; chip = on.chip }

  step : (c : State) (t : ℕ) (side : Side) (q : Query) (a : Answer) (trace : List Entry) (l m others : List Event) →
      let x : Event = event t side q a in
      IsPart one c trace (x ∷ l) → IsPart other c trace m → All (IsBefore x) m → IsTold c trace → Then l m others → IsJoined c trace (x ∷ others)
  step c t side look a trace l m others part other_part am legal then =
      let x : Event = event t side look a in
      let still = chip_stays x c trace (ahead_of_trace x trace l m part.own_is other_part.own_is (all_after x l part.rises) am) in
      let here : a ≡ Seen (lines_of (chip_before side t c trace)) = All-head (On c trace) x l part.told in
      let on : IsJoined c trace others =
      then c trace
      (record {
        rises = rises_tail x l part.rises;
        each = All-tail (IsOf one) x l part.each;
        own_is = part.own_is;
        told = All-tail (On c trace) x l part.told;
      })
      other_part legal in
      record { answered = (sym (here ∙ ap (λ d. Seen (lines_of d)) still), on.answered); same = on.same; chip = on.chip }
  step c t side (access op) (Seen s) trace l m others part other_part am legal then =
      absurd (All-head (On c trace) (event t side (access op) (Seen s)) l part.told)
  step c t side (access op) (Byte b) [] l m others part other_part am legal then = let no = part.own_is in cc
  step c t side (access op) (Byte b) (e ∷ rest) l m others part other_part am legal then =
      let x : Event = event t side (access op) (Byte b) in
      let first : Entry = record { tick = record { 0 = t }; side = side; op = op; answer = b } in
      let is : side ≡ one = All-head (IsOf one) x l part.each in
      elim (which e.side) [
        | inl here ↦
            let same : first ∷ accesses l ≡ e ∷ own one rest = part.own_is ∙ own_first one e rest here in
            let head : first ≡ e = cc in
            let tail : accesses l ≡ own one rest = cc in
            subst (λ y. IsPart one c (y ∷ rest) (x ∷ l) → IsPart other c (y ∷ rest) m → IsTold c (y ∷ rest) → IsJoined c (y ∷ rest) (x ∷ others)) head
            (λ p o ok. access_here c t side op b rest l m others is p tail o am ok then) part other_part legal
        | inr there ↦
            let ahead : IsAhead x e = head_holds (IsAhead x) other e rest m there other_part.own_is (ahead_of_accesses x m am) in
            let same : first ∷ accesses l ≡ own one rest = part.own_is ∙ own_other one e rest (ap (is_side one) there ∙ apart) in
            let late : All (IsAhead (event_of e)) (own one rest) =
            All-filter (λ y. is_side one y.side) (IsAhead (event_of e)) rest (behind_entry e rest legal.rises) in
            absurd (not_both t (e.tick).0 side e.side ahead (All-head (IsAhead (event_of e)) first (accesses l) (subst (All (IsAhead (event_of e))) (sym same) late)))
      ]

host_or_para : (x : Side) → (x ≡ Host) ⊎ (x ≡ Para)
host_or_para Host = inl refl
host_or_para Para = inr refl

para_or_host : (x : Side) → (x ≡ Para) ⊎ (x ≡ Host)
para_or_host Host = inr refl
para_or_host Para = inl refl

by_tick : (x y : ℕ) → (x ≤ y) ⊎ (y < x)
by_tick x y = grind arith

host_ahead : (t u : ℕ) (a b : Side) → a ≡ Host → b ≡ Para → t ≤ u → IsTrue (before t a u b)
host_ahead t u a b ea eb le = grind (arith, nat_tests)

ahead_below : (t u : ℕ) (a b : Side) → t < u → IsTrue (before t a u b)
ahead_below t u a b lt = grind (arith, nat_tests)

-- and so it comes before all that follow that
ahead_all : (x y : Event) (l : List Event) → IsBefore x y → RisesAfter y l → All (IsBefore x) (y ∷ l)
ahead_all x y l first rises =
    All-cons (IsBefore x) y l first (All-weaker (IsBefore y) (IsBefore x) (λ f h. before-then x.tick y.tick f.tick x.side y.side f.side first h) l (all_after y l rises))

no_entries : (trace : List Entry) → (let l : List Entry = [] in l) ≡ own Host trace → (let l : List Entry = [] in l) ≡ own Para trace → trace ≡ []
no_entries [] oh op = refl
no_entries (e ∷ trace) oh op = elim (host_or_para e.side) [
  | inl is ↦ let no : (let l : List Entry = [] in l) ≡ e ∷ own Host trace = oh ∙ own_first Host e trace is in cc
  | inr is ↦ let no : (let l : List Entry = [] in l) ≡ e ∷ own Para trace = op ∙ own_first Para e trace is in cc
]

abbrev Joins : ℕ → Type 0
Joins bound =
    (c : State) (trace : List Entry) (a b : List Event) → length a + length b < bound → IsPart Host c trace a → IsPart Para c trace b → IsTold c trace → IsJoined c trace (merge a b)

-- the host's event comes first
host_joins : (bound : ℕ) → Joins bound → (c : State) (trace : List Entry) (x : Event) (a b : List Event) → length a + length b < bound → IsPart Host c trace (x ∷ a)
    → IsPart Para c trace b → All (IsBefore x) b → IsTold c trace → IsJoined c trace (x ∷ merge a b)
host_joins bound joins c trace x a b low part other am legal =
    step Host Para refl refl host_or_para c x.tick x.side x.query x.answer trace a b (merge a b) part other am legal (λ d rest p q ok. joins d rest a b low p q ok)

para_joins : (bound : ℕ) → Joins bound → (c : State) (trace : List Entry) (y : Event) (a b : List Event) → length a + length b < bound → IsPart Host c trace a
    → IsPart Para c trace (y ∷ b) → All (IsBefore y) a → IsTold c trace → IsJoined c trace (y ∷ merge a b)
para_joins bound joins c trace y a b low other part am legal =
    step Para Host refl refl para_or_host c y.tick y.side y.query y.answer trace b a (merge a b) part other am legal (λ d rest p q ok. joins d rest a b low q p ok)

joins_by : (bound : ℕ) → Joins bound → Joins (suc bound)
joins_by bound joins c trace [] [] low host para legal =
    let none : trace ≡ [] = no_entries trace host.own_is para.own_is in
    record { answered = tt; same = sym none; chip = ap (λ l. after_from c (events_of l)) (sym none) }
joins_by bound joins c trace (x ∷ a) [] low host para legal = host_joins bound joins c trace x a [] (omega arith) host para (All-nil (IsBefore x)) legal
joins_by bound joins c trace [] (y ∷ b) low host para legal = para_joins bound joins c trace y [] b (omega arith) host para (All-nil (IsBefore y)) legal
joins_by bound joins c trace (x ∷ a) (y ∷ b) low host para legal =
    let at_host : x.side ≡ Host = All-head (IsOf Host) x a host.each in
    let at_para : y.side ≡ Para = All-head (IsOf Para) y b para.each in
    elim (by_tick x.tick y.tick) [
      | inl le ↦
          let first : IsBefore x y = host_ahead x.tick y.tick x.side y.side at_host at_para le in
          subst (IsJoined c trace) (sym (merge_first x y a b le)) (host_joins bound joins c trace x a (y ∷ b) (omega arith) host para (ahead_all x y b first para.rises) legal)
      | inr gt ↦
          let first : IsBefore y x = ahead_below y.tick x.tick y.side x.side gt in
          subst (IsJoined c trace) (sym (merge_second x y a b gt)) (para_joins bound joins c trace y (x ∷ a) b (omega arith) host para (ahead_all y x a first host.rises) legal)
    ]

joins_all : (bound : ℕ) → Joins bound
joins_all zero c trace a b low host para legal = absurd (omega arith)
joins_all (suc bound) c trace a b low host para legal = joins_by bound (joins_all bound) c trace a b low host para legal

pub joined : (c : State) (trace : List Entry) (a b : List Event) → IsPart Host c trace a → IsPart Para c trace b → IsTold c trace → IsJoined c trace (merge a b)
joined c trace a b = joins_all (suc (length a + length b)) c trace a b (omega arith)

-- The events of a run are its side's, and each comes before the next.
pub record IsLine (side : Side) (t : ℕ) (l : List Event) : Type 0 where
  pub rises : Rises l
  pub each : All (IsOf side) l
  pub from : All (λ (e : Event). t ≤ e.tick) l

rises_from : (t u : ℕ) (side : Side) (q : Query) (a : Answer) (l : List Event) → t < u → All (λ (e : Event). u ≤ e.tick) l → Rises l → RisesAfter (event t side q a) l
rises_from t u side q a [] lt from rises = tt
rises_from t u side q a (f ∷ l) lt from rises =
    let low : u ≤ f.tick = All-head (λ e. u ≤ e.tick) f l from in
    (ahead_below t f.tick side f.side (omega arith), rises)

line_on : (side : Side) (t u : ℕ) (l : List Event) → t ≤ u → IsLine side u l → IsLine side t l
line_on side t u l le x = record { rises = x.rises; each = x.each; from = All-weaker (λ e. u ≤ e.tick) (λ e. t ≤ e.tick) (λ e h. omega arith) l x.from }

module _ {S : Type 0} (m : Transitions S) (lawful : IsLawful m) (side : Side) (n : ℕ) where
  pub line_of_runs : {last s : S} {events : List Event} → Steps m side n last s events → IsLine side (m.due s) events
  line_of_runs {last} Over = record { rises = tt; each = All-nil (IsOf side); from = All-nil (λ e. m.due last ≤ e.tick) }
  line_of_runs (Silent {s = s} {events = events} low none on) =
      let up = lawful.rises s None in line_on side (m.due s) (m.due (m.next s None)) events (omega arith) (line_of_runs on)
  line_of_runs (Asking {s = s} {others = others} q a low is on) =
      let up = lawful.rises s (Some a) in
      let more = line_of_runs on in
      let line = line_on side (m.due s) (m.due (m.next s (Some a))) others (omega arith) more in
      let e : Event = event (m.due s) side q a in
      record {
        rises = rises_from (m.due s) (m.due (m.next s (Some a))) side q a others up more.from more.rises;
        each = All-cons (IsOf side) e others refl line.each;
        from = All-cons (λ x. m.due s ≤ x.tick) e others (let d : ℕ = m.due s in omega arith) line.from;
      }
