-- The effect of each event of a program on a controller whose command continues; and bytes that
-- come to its data register one after the other: those of a sector, or of an ID field. The program
-- must take each before the next.
use Rattle.std.proofs.Common.{◌≡◌, ◌∙◌, sym, ap, subst, refl, ℕ, ◌+◌, ◌<◌, ◌≤◌, ◌==◌, Bool, true, false, List, [], ◌∷◌, ◌++◌, arith, inl, inr, ◌-◌, ◌*◌, ◌/◌}
use Rattle.std.proofs.Common.{◌%◌, ◌&&◌, ◌||◌, not, ◌⊎◌, min, length, take}
use Rattle.std.specs.Prelude.{if◌then◌else◌, Some, nat_le, slice_index}
use Rattle.std.proofs.lemmas.Bool.{cases_Bool, cases_eq, ne_eqb, true≢false, cases_lt, eq-eqb, le-leb, or_parts}
use Rattle.std.proofs.lemmas.List.{append-nil, append_assoc, take_more}
use Rattle.wd1770.specs.State.{State}
use Rattle.wd1770.specs.Select.{is_reset}
use Rattle.wd1770.specs.Ends.{is_asking, count_leaves}
use Rattle.wd1770.specs.Commands.{latch_leaves}
use Rattle.wd1770.specs.Registers.{read_leaves, write_leaves}
use Rattle.wd1770.specs.Step.{step, work_leaves}
use Rattle.wd1770.specs.History.{Event, microsecond, read, write, latch, happens, history, count_steps}
use Rattle.law_chips.specs.SectorReads.{Reads, AllRead, taken_by, bytes_taken, waiting_byte}
use Rattle.law_chips.specs.SectorWrites.{Writes, AllWritten, given_by, bytes_given}
use Rattle.law_chips.specs.Searches.{Waits, AllWait}
use Rattle.law_chips.specs.LostData.{LetsGo, AllLetGo, place_if, accesses}
use Rattle.std.specs.List.{list_any}
use Rattle.std.proofs.Math.Bool.{or-false}
use Rattle.std.proofs.lemmas.List.Folds.{list_any-append}
use Rattle.wd1770.specs.declared.command.Command.{Command}
use Rattle.law_chips.proofs.Losing.{kept_before}

-- ---- The effect of an access

-- an access of the data register, or of another
pub record Accessed (data_register : Bool) (s x : State) : Type 0 where
  pub command : x.command ≡ s.command
  pub angle : x.angle ≡ s.angle
  pub drive0 : x.drive0 ≡ s.drive0
  pub drive1 : x.drive1 ≡ s.drive1
  pub lost : x.lost_data ≡ s.lost_data
  pub drq : x.drq ≡ (if data_register then false else s.drq)
  pub byte : data_register ≡ false → x.byte ≡ s.byte

read_leaves_it : (reg : ℕ) (s : State) → Accessed (reg == 3) s (read_leaves reg s)
read_leaves_it reg s = grind arith

-- a law of the registers that can be written while a command continues
pub of_three : (P : ℕ → Type 0) → P 1 → P 2 → P 3 → (reg : ℕ) → 1 ≤ reg → reg ≤ 3 → P reg
of_three P one two three reg low high = grind arith

write_leaves_it : (reg v : ℕ) (s : State) → 1 ≤ reg → reg ≤ 3 → Accessed (reg == 3) s (write_leaves reg v s)
write_leaves_it reg v s =
    of_three (λ r. Accessed (r == 3) s (write_leaves r v s))
    (assumption)
    (assumption)
    (record { command = refl; angle = refl; drive0 = refl; drive1 = refl; lost = refl; drq = refl; byte = λ h. absurd (true≢false h) })
    reg

latch_leaves_it : (v : ℕ) (s : State) → is_reset v ≡ false → Accessed false s (latch_leaves v s)
latch_leaves_it v s off = grind arith

-- ---- Events.

abbrev pub IsAccess : Event → Type 0
IsAccess microsecond = ⊥
IsAccess (read reg) = Unit {0}
IsAccess (write reg v) = Unit {0}
IsAccess (latch v) = Unit {0}

-- an access of the data register
abbrev pub is_data : Event → Bool
is_data microsecond = false
is_data (read reg) = reg == 3
is_data (write reg v) = reg == 3
is_data (latch v) = false

accessed : (e : Event) (s : State) → LetsGo e → IsAccess e → Accessed (is_data e) s (happens e s)
accessed microsecond s may is = absurd is
accessed (read reg) s may is = read_leaves_it reg s
accessed (write reg v) s may is = write_leaves_it reg v s may.0 may.1
accessed (latch v) s may is = latch_leaves_it v s may

-- the number of steps after an event, if there were `m` before
abbrev pub steps_behind : ℕ → Event → ℕ
steps_behind m microsecond = m + 1
steps_behind m (read reg) = m
steps_behind m (write reg v) = m
steps_behind m (latch v) = m

counts : (m : ℕ) (e : Event) (es : List Event) → steps_behind m e + count_steps es ≡ m + count_steps (e ∷ es)
counts m e es = grind arith

-- ---- Programs.

-- The events that a program may do while it lets a command continue, one and in a run; and the
-- notes of an event, and of a run.
pub record Program : Type 1 where
  pub may : State → Event → Type 0
  pub all : State → List Event → Type 0
  pub out : State → ℕ → Event → List ℕ
  pub outs : State → ℕ → List Event → List ℕ
  pub parts : (s : State) (e : Event) (es : List Event) → all s (e ∷ es) → may s e × all (happens e s) es
  pub lets : (s : State) (e : Event) → may s e → LetsGo e
  pub quiet : (s : State) (m : ℕ) → out s m microsecond ≡ []
  pub none : (s : State) (m : ℕ) → outs s m [] ≡ []
  pub more : (s : State) (m : ℕ) (e : Event) (es : List Event) → outs s m (e ∷ es) ≡ out s m e ++ outs (happens e s) (steps_behind m e) es

pub reads_let : (e : Event) → Reads e → LetsGo e
reads_let e may = grind arith

-- a program that waits reads no more than a reader may
pub waits_read : (e : Event) → Waits e → Reads e
waits_read e may = grind arith

pub writes_let : (s : State) (e : Event) → Writes s e → LetsGo e
writes_let s e may = grind arith

-- one that takes the bytes of a sector
abbrev pub reading : Program
reading = record {
  may = λ s e. Reads e;
  all = λ s es. AllRead es;
  out = λ s m e. taken_by s e;
  outs = λ s m es. bytes_taken s es;
  parts = λ s e es all. all;
  lets = λ s e may. reads_let e may;
  quiet = λ s m. refl;
  none = λ s m. refl;
  more = λ s m e es. refl;
}

-- one that writes no register
abbrev pub waiting : Program
waiting = record {
  may = λ s e. Waits e;
  all = λ s es. AllWait es;
  out = λ s m e. taken_by s e;
  outs = λ s m es. bytes_taken s es;
  parts = λ s e es all. all;
  lets = λ s e may. reads_let e (waits_read e may);
  quiet = λ s m. refl;
  none = λ s m. refl;
  more = λ s m e es. refl;
}

-- one that gives the bytes of a sector
abbrev pub writing : Program
writing = record {
  may = Writes;
  all = AllWritten;
  out = λ s m e. given_by e;
  outs = λ s m es. bytes_given es;
  parts = λ s e es all. all;
  lets = writes_let;
  quiet = λ s m. refl;
  none = λ s m. refl;
  more = λ s m e es. refl;
}

pub more_places : (s : State) (m : ℕ) (e : Event) (es : List Event) → accesses m (e ∷ es) ≡ place_if (is_data e) m ++ accesses (steps_behind m e) es
more_places s m e es = grind arith

-- any program, and the places at which it accesses the data register
abbrev pub letting_go : Program
letting_go = record {
  may = λ s e. LetsGo e;
  all = λ s es. AllLetGo es;
  out = λ s m e. place_if (is_data e) m;
  outs = λ s m es. accesses m es;
  parts = λ s e es all. all;
  lets = λ s e may. may;
  quiet = λ s m. refl;
  none = λ s m. refl;
  more = more_places;
}

pub lets_go : (p : Program) (s : State) (events : List Event) → p.all s events → AllLetGo events
lets_go p s [] all = tt
lets_go p s (e ∷ es) all = let parts = p.parts s e es all in (p.lets s e parts.0, lets_go p (happens e s) es parts.1)

-- A property of state and notes that each step and each access keeps holds at the end of a run of
-- steps.
module _ (p : Program) (P : State → ℕ → List ℕ → Type 0) (last : ℕ)
    (step_keeps : (s : State) (m : ℕ) (got : List ℕ) → m < last → P s m got → P (step s) (m + 1) got)
    (access_keeps : (e : Event) (s : State) (m : ℕ) (got : List ℕ) → IsAccess e → p.may s e → Accessed (is_data e) s (happens e s) → P s m got →
    P (happens e s) m (got ++ p.out s m e)) where
  one_event : (e : Event) (es : List Event) (s : State) (m : ℕ) (got : List ℕ) → p.may s e → m + count_steps (e ∷ es) ≤ last → P s m got →
      P (happens e s) (steps_behind m e) (got ++ p.out s m e)
  one_event microsecond es s m got may most is =
      subst (P (step s) (m + 1)) (sym (ap (λ xs. got ++ xs) (p.quiet s m) ∙ append-nil got)) (step_keeps s m got (omega arith) is)
  one_event (read reg) es s m got may most is = access_keeps (read reg) s m got tt may (accessed (read reg) s (p.lets s (read reg) may) tt) is
  one_event (write reg v) es s m got may most is = access_keeps (write reg v) s m got tt may (accessed (write reg v) s (p.lets s (write reg v) may) tt) is
  one_event (latch v) es s m got may most is = access_keeps (latch v) s m got tt may (accessed (latch v) s (p.lets s (latch v) may) tt) is

  runs : (events : List Event) (s : State) (m : ℕ) (got : List ℕ) → p.all s events → m + count_steps events ≤ last → P s m got →
      P (history events s) (m + count_steps events) (got ++ p.outs s m events)
  runs [] s m got all most is =
      let same : m ≡ m + 0 = omega arith in
      subst (P s (m + 0)) (sym (ap (λ xs. got ++ xs) (p.none s m) ∙ append-nil got)) (subst (λ n. P s n got) same is)
  runs (e ∷ es) s m got all most is =
      let parts = p.parts s e es all in
      let x = happens e s in
      let n = steps_behind m e in
      let total = counts m e es in
      subst (λ n. P (history es x) n (got ++ p.outs s m (e ∷ es))) total
      (subst (P (history es x) (n + count_steps es))
      (append_assoc got (p.out s m e) (p.outs x n es) ∙ ap (λ xs. got ++ xs) (sym (p.more s m e es)))
      (runs es x n (got ++ p.out s m e) parts.1 (subst (λ n. n ≤ last) (sym total) most) (one_event e es s m got parts.0 most is)))

  -- from the beginning, in n steps
  pub runs_all : (n : ℕ) (events : List Event) (s : State) → p.all s events → count_steps events ≡ n → n ≤ last → P s 0 [] →
      P (history events s) n (p.outs s 0 events)
  runs_all n events s all count most is = grind (arith, runs)

-- true if a place is one of these
unfoldable pub has_place : ℕ → List ℕ → Bool
has_place place ps = list_any (λ p. p == place) ps

-- The effect of one more access on a test of places.
pub any_push : (f : ℕ → Bool) (ps : List ℕ) (p : ℕ) → list_any f (ps ++ p ∷ []) ≡ (list_any f ps || f p)
any_push f ps p = list_any-append f ps (p ∷ []) ∙ ap (λ b. list_any f ps || b) (or-false (f p))

pub any_stays : (f : ℕ → Bool) (ps : List ℕ) (p : ℕ) → list_any f ps ≡ true → list_any f (ps ++ p ∷ []) ≡ true
any_stays f ps p has = any_push f ps p ∙ ap (λ b. b || f p) has

pub any_other : (f : ℕ → Bool) (ps : List ℕ) (p : ℕ) → list_any f ps ≡ false → f p ≡ false → list_any f (ps ++ p ∷ []) ≡ false
any_other f ps p none off = any_push f ps p ∙ ap (λ b. b || f p) none ∙ off

pub or_true : (b : Bool) → (b || true) ≡ true
or_true true = refl
or_true false = refl

pub and_false : (b : Bool) → (b && false) ≡ false
and_false true = refl
and_false false = refl

pub any_now : (f : ℕ → Bool) (ps : List ℕ) (p : ℕ) → f p ≡ true → list_any f (ps ++ p ∷ []) ≡ true
any_now f ps p on = grind (arith, any_push, or_true)

by_contrary : (a b : Bool) → (b ≡ false → a ≡ false) → a ≡ true → b ≡ true
by_contrary a b h is = grind arith

-- lost data stays set
pub stays_lost : (s : State) → s.lost_data ≡ true → (step s).lost_data ≡ true
stays_lost s is = by_contrary s.lost_data (step s).lost_data (kept_before s) is

-- ---- A command that begins at the angle `base`, gives bytes 0 to l, byte i at its place `first` +
-- i, and ends at its place `last`.

-- A byte was not taken, and lost data is set.
pub record Missed (first l : ℕ) (s : State) (m : ℕ) (ps : List ℕ) : Type 0 where
  pub lost : s.lost_data ≡ true
  pub byte : ℕ
  pub inside : byte < l
  pub over : 64 * (first + byte + 1) ≤ m
  pub missed : has_place (first + byte) ps ≡ false

-- a command that gives bytes
pub record Stream : Type 1 where
  pub command : Command
  pub base : ℕ
  pub first : ℕ
  pub l : ℕ
  pub last : ℕ
  pub gives : State → ℕ → ℕ
  pub Over : State → Type 0

module _ (f : Stream) where
  -- One step of it, from m steps on.
  pub record Next (s x : State) (m : ℕ) : Type 0 where
    pub command : m + 1 < 64 * f.last → x.command ≡ f.command
    pub over : 64 * f.last ≤ m + 1 → f.Over x
    pub angle : x.angle ≡ Some (f.base + (m + 1))
    pub drive0 : x.drive0 ≡ s.drive0
    pub drive1 : x.drive1 ≡ s.drive1
    pub byte : (m + 1) % 64 ≡ 0 → f.first ≤ (m + 1) / 64 → (m + 1) / 64 ≤ f.first + f.l →
        (x.drq ≡ true) × (x.lost_data ≡ (s.lost_data || s.drq)) × (x.byte ≡ f.gives s ((m + 1) / 64 - f.first))
    pub none : ((m + 1) % 64 ≡ 0 → f.first ≤ (m + 1) / 64 → (m + 1) / 64 ≤ f.first + f.l → ⊥) →
        (x.drq ≡ s.drq) × (x.lost_data ≡ s.lost_data) × (x.byte ≡ s.byte)

  abbrev pub GoesOn : Type 0
  GoesOn =
      (s : State) (m : ℕ) → m < 64 * f.last → s.command ≡ f.command → s.angle ≡ Some (f.base + m) → Next s (work_leaves s) m

  -- After m steps, and accesses in these places, nothing is lost and each byte was taken.
  pub record Fine (s : State) (m : ℕ) (ps : List ℕ) : Type 0 where
    pub command : m < 64 * f.last → s.command ≡ f.command
    pub angle : s.angle ≡ Some (f.base + m)
    pub kept : s.lost_data ≡ false
    pub drq : m < 64 * (f.first + f.l + 1) → s.drq ≡ (nat_le f.first (m / 64) && not (has_place (m / 64) ps))
    pub served : (i : ℕ) → i < f.l → 64 * (f.first + i + 1) ≤ m → has_place (f.first + i) ps ≡ true
    pub ahead : (p : ℕ) → m / 64 < p → has_place p ps ≡ false
    pub last_taken : 64 * (f.first + f.l) ≤ m → has_place (f.first + f.l) ps ≡ true → s.drq ≡ false

  abbrev pub Either : State → ℕ → List ℕ → Type 0
  Either s m ps = Fine s m ps ⊎ Missed f.first f.l s m ps

  -- a byte comes in this step, the one before was taken
  comes : (s x : State) (m : ℕ) (ps : List ℕ) → 1 ≤ f.first → (m + 1) % 64 ≡ 0 → f.first ≤ (m + 1) / 64 → (m + 1) / 64 ≤ f.first + f.l →
      s.drq ≡ false → (f.first < (m + 1) / 64 → has_place (m / 64) ps ≡ true) → Next s x m → Fine s m ps →
      Fine x (m + 1) ps
  unfolding has_place
  comes s x m ps some place low high off taken next is =
      let now = next.byte place low high in
      let new : has_place ((m + 1) / 64) ps ≡ false = is.ahead ((m + 1) / 64) (omega arith) in
      record {
        command = next.command;
        angle = next.angle;
        kept = now.1 ∙ ap (λ b. b || s.drq) is.kept ∙ off;
        drq = λ h. now.0 ∙ sym (rw (le-leb f.first ((m + 1) / 64) low, new));
        served = λ i inside over. elim (cases_lt (m + 1) (64 * (f.first + i + 1) + 1)) [
          | inl last_one ↦
              let here : m / 64 ≡ f.first + i = omega arith in
              subst (λ n. has_place n ps ≡ true) here (taken (omega arith))
          | inr before ↦ is.served i inside (omega arith)
        ];
        ahead = λ p more. is.ahead p (omega arith);
        last_taken = λ over had. absurd (true≢false (sym had ∙ is.ahead (f.first + f.l) (omega arith)));
      }

  -- nothing comes
  passes : (s x : State) (m : ℕ) (ps : List ℕ) → ((m + 1) % 64 ≡ 0 → f.first ≤ (m + 1) / 64 → (m + 1) / 64 ≤ f.first + f.l → ⊥) →
      Next s x m → Fine s m ps → Fine x (m + 1) ps
  unfolding has_place
  passes s x m ps none next is = grind arith

  counted : (before : Bool) (s : State) (m : ℕ) (ps : List ℕ) → Fine s m ps → Fine (count_leaves before s) m ps
  unfolding has_place
  counted before s m ps is = assumption

  -- DRQ in the place before another
  drq_before : (s : State) (m : ℕ) (ps : List ℕ) (b : Bool) → m < 64 * (f.first + f.l + 1) → Fine s m ps →
      (f.first ≤ m / 64 → has_place (m / 64) ps ≡ b) → (m / 64 < f.first → b ≡ true) → s.drq ≡ not b
  drq_before s m ps b inside is has early = grind arith

  stepped_fine : (s : State) (m : ℕ) (ps : List ℕ) → GoesOn → 1 ≤ f.first → m < 64 * f.last →
      Fine s m ps → Either (step s) (m + 1) ps
  unfolding has_place
  stepped_fine s m ps goes some inside is =
      let next = goes s m inside (is.command inside) is.angle in
      let fine : Fine (work_leaves s) (m + 1) ps → Either (step s) (m + 1) ps =
      λ is. inl (counted (is_asking s) (work_leaves s) (m + 1) ps is) in
      elim (cases_eq ((m + 1) % 64) 0) [
        | inr inner ↦ fine (passes s (work_leaves s) m ps (λ place low high. inner place) next is)
        | inl place ↦
            elim (cases_lt ((m + 1) / 64) f.first) [
              | inl early ↦ fine (passes s (work_leaves s) m ps (λ h low high. omega arith) next is)
              | inr low ↦
                  elim (cases_lt (f.first + f.l) ((m + 1) / 64)) [
                    | inl late ↦ fine (passes s (work_leaves s) m ps (λ h l' high. omega arith) next is)
                    | inr high ↦
                        elim (cases_eq ((m + 1) / 64) f.first) [
                          | inl at_first ↦
                              let off : s.drq ≡ false =
                              drq_before s m ps true (omega arith) is (λ h. absurd (omega arith)) (λ h. refl) in
                              fine (comes s (work_leaves s) m ps some place low high off (λ h. absurd (omega arith)) next is)
                          | inr later ↦
                              elim (cases_Bool (has_place (m / 64) ps)) [
                                | inl taken ↦
                                    let off : s.drq ≡ false = drq_before s m ps true (omega arith) is (λ h. taken) (λ h. refl) in
                                    fine (comes s (work_leaves s) m ps some place low high off (λ h. taken) next is)
                                | inr missed ↦
                                    let on : s.drq ≡ true =
                                    drq_before s m ps false (omega arith) is (λ h. missed) (λ h. absurd (omega arith)) in
                                    let which : f.first + (m / 64 - f.first) ≡ m / 64 = omega arith in
                                    inr (record {
                                      lost = (next.byte place low high).1 ∙ ap (λ b. s.lost_data || b) on ∙ or_true s.lost_data;
                                      byte = m / 64 - f.first;
                                      inside = omega arith;
                                      over = omega arith;
                                      missed = ap (λ n. has_place n ps) which ∙ missed;
                                    })
                              ]
                        ]
                  ]
            ]
      ]

  pub stepped : (s : State) (m : ℕ) (ps : List ℕ) → GoesOn → 1 ≤ f.first → m < 64 * f.last →
      Either s m ps → Either (step s) (m + 1) ps
  stepped s m ps goes some inside (inl is) = stepped_fine s m ps goes some inside is
  stepped s m ps goes some inside (inr is) =
      inr (record { lost = stays_lost s is.lost; byte = is.byte; inside = is.inside; over = omega arith; missed = is.missed })

  -- An access of the data register, or another.
  accessed_in : (b : Bool) (s x : State) (m : ℕ) (ps : List ℕ) → Accessed b s x → Either s m ps → Either x m (ps ++ place_if b m)
  unfolding has_place
  accessed_in true s x m ps acc (inl is) = inl (record {
    command = λ h. acc.command ∙ is.command h;
    angle = acc.angle ∙ is.angle;
    kept = acc.lost ∙ is.kept;
    drq = λ h.
        acc.drq
        ∙ sym (ap (λ b. nat_le f.first (m / 64) && not b) (any_now (λ p. p == m / 64) ps (m / 64) (eq-eqb (m / 64) (m / 64) refl)) ∙ and_false
        (nat_le f.first (m / 64)));
    served = λ i inside over. any_stays (λ p. p == f.first + i) ps (m / 64) (is.served i inside over);
    ahead = λ p more. any_other (λ q. q == p) ps (m / 64) (is.ahead p more) (ne_eqb (m / 64) p (λ e. omega arith));
    last_taken = λ over had. acc.drq;
  })
  accessed_in false s x m ps acc (inl is) =
      subst (Either x m) (sym (append-nil ps)) (inl (record {
        command = λ h. acc.command ∙ is.command h;
        angle = acc.angle ∙ is.angle;
        kept = acc.lost ∙ is.kept;
        drq = λ h. acc.drq ∙ is.drq h;
        served = is.served;
        ahead = is.ahead;
        last_taken = λ over had. acc.drq ∙ is.last_taken over had;
      }))
  accessed_in true s x m ps acc (inr is) = inr (record {
    lost = acc.lost ∙ is.lost;
    byte = is.byte;
    inside = is.inside;
    over = is.over;
    missed = any_other (λ p. p == f.first + is.byte) ps (m / 64) is.missed (ne_eqb (m / 64) (f.first + is.byte) (λ e. omega arith));
  })
  accessed_in false s x m ps acc (inr is) =
      subst (Either x m) (sym (append-nil ps))
      (inr (record { lost = acc.lost ∙ is.lost; byte = is.byte; inside = is.inside; over = is.over; missed = is.missed }))

  -- no byte has come
  begins : (s : State) → 1 ≤ f.first → s.command ≡ f.command → s.angle ≡ Some f.base → s.lost_data ≡ false → s.drq ≡ false →
      Fine s 0 []
  unfolding has_place
  begins s some command angle kept off = grind arith

  pub run : GoesOn → 1 ≤ f.first → (events : List Event) (s : State) → AllLetGo events → count_steps events ≤ 64 * f.last →
      s.command ≡ f.command → s.angle ≡ Some f.base → s.lost_data ≡ false → s.drq ≡ false → Either (history events s) (count_steps events) (accesses 0 events)
  run goes some events s all most command angle kept off =
      runs_all letting_go Either (64 * f.last) (λ s m ps inside is. stepped s m ps goes some inside is)
      (λ e s m ps access may acc is. accessed_in (is_data e) s (happens e s) m ps acc is)
      (count_steps events) events s all refl most (inl (begins s some command angle kept off))

-- the number of bytes that have come `m` steps after the beginning
abbrev pub come : Stream → ℕ → ℕ
come f m = min (f.l + 1) (m / 64 - (f.first - 1))

-- the byte that an access takes: the waiting one, if it is an access of the data register
taken_is : (e : Event) (s : State) → Reads e → taken_by s e ≡ (if is_data e && s.drq then s.byte ∷ [] else [])
taken_is e s may = grind arith

-- the bytes taken, and the waiting one after them
took : (b : Bool) (s x : State) (got : List ℕ) → Accessed b s x → (got ++ (if b && s.drq then s.byte ∷ [] else [])) ++ waiting_byte x ≡ got ++ waiting_byte s
took b s x got acc = grind (arith, append-nil)

module _ (f : Stream) (bytes : List ℕ) (s0 : State) where
  -- `m` steps after the beginning in state `s0`; the bytes `got` have been taken
  pub record Taking (s : State) (m : ℕ) (got : List ℕ) : Type 0 where
    pub going : m < 64 * f.last → s.command ≡ f.command
    pub over : 64 * f.last ≤ m → f.Over s
    pub angle : s.angle ≡ Some (f.base + m)
    pub drive0 : s.drive0 ≡ s0.drive0
    pub drive1 : s.drive1 ≡ s0.drive1
    pub taken : s.lost_data ≡ false → got ++ waiting_byte s ≡ take (come f m) bytes

  -- the bytes are those that the command gives
  pub record IsGiven : Type 0 where
    pub goes : GoesOn f
    pub some : 1 ≤ f.first
    pub long : length bytes ≡ f.l + 1
    pub gives : (s : State) (i : ℕ) → s.drive0 ≡ s0.drive0 → s.drive1 ≡ s0.drive1 → f.gives s i ≡ slice_index bytes i
    pub counted : (b : Bool) (s : State) → f.Over s → f.Over (count_leaves b s)

  -- no byte waits
  waits_on : (s x : State) (m : ℕ) (got : List ℕ) →
      ((m + 1) % 64 ≡ 0 → f.first ≤ (m + 1) / 64 → (m + 1) / 64 ≤ f.first + f.l → ⊥) → come f (m + 1) ≡ come f m → Next f s x m → Taking s m got →
      x.lost_data ≡ false → got ++ waiting_byte x ≡ take (come f (m + 1)) bytes
  waits_on s x m got none same next is kept = grind arith

  -- a byte waits
  one_comes : (s x : State) (m : ℕ) (got : List ℕ) → IsGiven → (m + 1) % 64 ≡ 0 → f.first ≤ (m + 1) / 64 → (m + 1) / 64 ≤ f.first + f.l → Next f s x m →
      Taking s m got → x.lost_data ≡ false → got ++ waiting_byte x ≡ take (come f (m + 1)) bytes
  one_comes s x m got given place low high next is kept = grind (arith, or_parts, append-nil, take_more)

  waits_behind : (s x : State) (m : ℕ) (got : List ℕ) → IsGiven → Next f s x m → Taking s m got →
      x.lost_data ≡ false → got ++ waiting_byte x ≡ take (come f (m + 1)) bytes
  waits_behind s x m got given next is kept = grind (arith, waits_on, one_comes)

  -- a step
  pub takes_step : (s : State) (m : ℕ) (got : List ℕ) → IsGiven → m < 64 * f.last → Taking s m got → Taking (step s) (m + 1) got
  takes_step s m got given inside is =
      let next = given.goes s m inside (is.going inside) is.angle in
      record {
        going = next.command;
        over = λ h. given.counted (is_asking s) (work_leaves s) (next.over h);
        angle = next.angle;
        drive0 = next.drive0 ∙ is.drive0;
        drive1 = next.drive1 ∙ is.drive1;
        taken = waits_behind s (work_leaves s) m got given next is;
      }

  -- an access
  pub takes_access : (e : Event) (s : State) (m : ℕ) (got : List ℕ) → Reads e → Accessed (is_data e) s (happens e s) → (f.Over s → f.Over (happens e s)) →
      Taking s m got → Taking (happens e s) m (got ++ taken_by s e)
  takes_access e s m got may acc keeps is = grind (arith, taken_is, took)

  -- no byte has come
  pub takes_first : 1 ≤ f.last → s0.command ≡ f.command → s0.angle ≡ Some f.base → s0.drq ≡ false → Taking s0 0 []
  takes_first some command angle off = grind arith
