-- A whole instruction and the look after it are steps of the machine.
use Rattle.std.proofs.Common.{◌≡◌, ◌≤◌, ◌<◌, ◌∙◌, ◌+◌, ◌-◌, ◌*◌, refl, sym, ap, subst, ℕ, zero, suc, max, length, [], List, Bool}
use Rattle.std.proofs.Common.{true, false, Option, Some, None, IsSome, MatchOption, arith}
use Rattle.std.proofs.Math.Nat.{mul-one}
use Rattle.op_table.specs.declared.names.Part.{Part}
use Rattle.cpu_alu.specs.declared.Cycle.{Cycle}
use Rattle.cpu_alu.specs.declared.Cycle.TheVariants.{Read, Write}
use Rattle.cpu_alu.specs.declared.Regs.{Regs}
use Rattle.cpu_alu.specs.declared.flags.TheConstants.{INTERRUPT}
use Rattle.cpu_alu.specs.Flags.{has_flag}
use Rattle.cpu_core.specs.declared.Sequence.{Sequence}
use Rattle.cpu_core.specs.declared.Sequence.TheVariants.{Instruction}
use Rattle.cpu_core.specs.State as cpu
use Rattle.cpu_core.specs.Sequences.{next_cycle, after_byte, halted, starting, is_start, after, sequence_at_look, fresh}
use Rattle.cpu_whole.specs.Whole.{Reach, Carried, IsDone, is_plain, shows, leaves}
use Rattle.tube_chip.specs.declared.Lines.{Lines}
use Rattle.tube_machine.specs.BusModel.{BusModel, IsWired, StaysPlain}
use Rattle.tube_machine.specs.Step.{At, at_of, closed_to, after_look}
use Rattle.tube_machine.specs.Exchange.{IsQuick, IsAtTube}
use Rattle.tube_machine.specs.Whole.{reach_of, IsMemory, IsAtRest, StaysAtRest, IsOnward}
use Rattle.tube_machine.proofs.Spends.{one-more, seen-on}
use Rattle.tube_machine.proofs.InProgress.{IsInProgress, IsFree, at-same, plain-look, came-there, quick-more, quick-past, quick-plain}

pub next-more : (c n : ℕ) → c * suc n ≡ c * n + c
next-more c n = let same : suc n ≡ n + 1 = omega arith in ap (λ (k : ℕ). c * k) same ∙ one-more c n

-- a processor at the start of an instruction
pub begins-there : (s : cpu.State) → starting s ≡ true → s ≡ fresh Instruction s.regs
begins-there s is = by s.seen s.sequence is
  where
    by : (seen : List (Option ℕ)) (sequence : Sequence) → is_start seen sequence ≡ true → record s { seen = seen; sequence = sequence } ≡ fresh Instruction s.regs
    by [] Instruction h = refl
    by _ _ h = cc

module _ (part : Part) where
  -- the first of some cycles, and the others
  pub record IsFirst {M : Type 0} (g : Reach M) (t k : ℕ) (s : cpu.State) (m : M) (last : cpu.State) (there : M) : Type 0 where
    pub cycle : Cycle
    pub next : next_cycle part s ≡ Some cycle
    pub plain : is_plain g cycle ≡ true
    pub rest : Carried g t part k (after_byte part s (shows g m cycle)) (leaves g t m (length s.seen) cycle) last there

  first-of : {M : Type 0} → (g : Reach M) (t k : ℕ) (s : cpu.State) (m : M) (last : cpu.State) (there : M) → Carried g t part (suc k) s m last there → IsFirst g t k s m last there
  first-of g t k s m last there h = by (next_cycle part s) refl h
    where
      by : (o : Option Cycle) → next_cycle part s ≡ o
          → MatchOption o ⊥ (λ (c : Cycle). (is_plain g c ≡ true) × Carried g t part k (after_byte part s (shows g m c)) (leaves g t m (length s.seen) c) last there) → IsFirst g t k s m last there
      by None is h = absurd h
      by (Some c) is h = record { cycle = c; next = is; plain = h.0; rest = h.1 }

  some-first : {M : Type 0} → (g : Reach M) (t k : ℕ) (s : cpu.State) (m : M) (last : cpu.State) (there : M) → Carried g t part (suc k) s m last there → IsSome (next_cycle part s)
  some-first g t k s m last there h = rw (first-of g t k s m last there h).next

  -- a halted part stays where it is
  stays-halted : {M : Type 0} → (g : Reach M) (t k : ℕ) (s : cpu.State) (m : M) (last : cpu.State) (there : M) → halted part s ≡ true → Carried g t part k s m last there → last ≡ s
  stays-halted g t zero s m last there halts h = sym h.0
  stays-halted g t (suc k) s m last there halts h =
      let one = first-of g t k s m last there h in
      let byte : ℕ = shows g m one.cycle in
      let b = leaves g t m (length s.seen) one.cycle in
      let same : after_byte part s byte ≡ s = rw halts in
      stays-halted g t k s b last there halts (rw same at one.rest)

  -- so the processor is not halted in an instruction that ends
  none-halted : {M : Type 0} → (g : Reach M) (t k : ℕ) (s : cpu.State) (m : M) (last : cpu.State) (there : M)
      → Carried g t part (suc k) s m last there → next_cycle part last ≡ None → halted part s ≡ false
  none-halted g t k s m last there h over = by (halted part s) refl
    where
      by : (b : Bool) → halted part s ≡ b → b ≡ false
      by false is = refl
      by true is =
          let one = first-of g t k s m last there h in
          let same : last ≡ s = stays-halted g t (suc k) s m last there is h in
          cc

module _ (part : Part) {B : Type 0} {w : BusModel B} (wired : IsWired w) {reads writes : ℕ → Bool} (memory : IsMemory w reads writes) where
  abbrev reach : Reach B
  reach = reach_of w reads writes

  -- a plain access of an instruction that begins at tick t, in its cycle j, is quick
  is-quick : (t j due : ℕ) (m : B) (c : Cycle) → is_plain reach c ≡ true → due ≡ t + w.cycle m * j → w.closed m ≤ due + 1 →
      IsQuick w m due c (Some (shows reach m c)) (leaves reach t m j c)
  is-quick t j due m c is there before = grind arith

  is-closed : (t j due : ℕ) (m : B) (c : Cycle) → is_plain reach c ≡ true → due ≡ t + w.cycle m * j → w.closed m ≤ due + 1
      → w.closed (leaves reach t m j c) ≤ due + 1
  is-closed t j due m c is there before = grind arith

  -- Cycles over a bus whose devices are closed already, up to the tick to which the first cycle
  -- closes them: they lead to a bus that is equal once it is closed from that tick on.
  abbrev Comes : ℕ → ℕ → cpu.State → Option Cycle → B → cpu.State → B → Type 0
  Comes t k s o m last there =
      MatchOption o ⊥ (λ (c : Cycle). (is_plain reach c ≡ true) × Carried reach t part k
      (after_byte part s (shows reach m c)) (leaves reach t m (length s.seen) c) last there)

  abbrev pub Closes : ℕ → ℕ → cpu.State → B → cpu.State → B → ℕ → Type 0
  Closes t k s m last there u = (far : B) × (Carried reach t part k s (w.close m u) last far × ((v : ℕ) → u ≤ v → w.close far v ≡ w.close there v))

  closes-by : (t k : ℕ) (s : cpu.State) (m : B) (last : cpu.State) (there : B) (u : ℕ) (o : Option Cycle) → u ≤ t + 1 →
      ((on : cpu.State) → Carried reach t part k on m last there → Closes t k on m last there u) → Comes t k s o m last there →
      (far : B) × (Comes t k s o (w.close m u) last far × ((v : ℕ) → u ≤ v → w.close far v ≡ w.close there v))
  closes-by t k s m last there u None low rec h = absurd h
  closes-by t k s m last there u (Some (Read at)) low rec h =
      let same : w.answer (w.close m u) 0 at ≡ w.answer m 0 at = memory.shows m 0 u at h.0 in
      let c : Closes t k (after_byte part s (w.answer m 0 at)) m last there u = rec (after_byte part s (w.answer m 0 at)) h.1 in
      (c.0, ((h.0, rw same c.1.0), c.1.1))
  closes-by t k s m last there u (Some (Write at byte)) low rec h =
      let j : ℕ = length s.seen in
      let same : w.after (w.close (w.close m u) (t + w.cycle (w.close m u) * j + 1)) (Write at byte) ≡ w.after (w.close m (t + w.cycle m * j + 1)) (Write at byte) =
      ap (λ (n : ℕ). w.after (w.close (w.close m u) (t + n * j + 1)) (Write at byte)) (wired.cycle_close m u)
      ∙ ap (λ (b : B). w.after b (Write at byte)) (wired.again m u (t + w.cycle m * j + 1) (omega (arith, low))) in
      (there, ((h.0, rw same h.1), λ v from. refl))

  pub carried-closed : (t k : ℕ) (s : cpu.State) (m : B) (last : cpu.State) (there : B) (u : ℕ) → u ≤ t + 1 → Carried reach t part k s m last there → Closes t k s m last there u
  carried-closed t zero s m last there u low h = (w.close m u, ((h.0, refl), λ v from. wired.again m u v from ∙ ap (λ (b : B). w.close b v) h.1))
  carried-closed t (suc k) s m last there u low h = closes-by t k s m last there u (next_cycle part s) low (λ on c. carried-closed t k on m last there u low c) h

  -- a plain access is none of the Tube's
  apart : (c : Cycle) → is_plain reach c ≡ true → (b : B) → IsAtTube w b c → ⊥
  apart c is b tube = grind arith

  module _ {rests : B → Lines → Bool → ℕ → Type 0} (stays_at_rest : StaysAtRest w writes rests) where
    rests-on : (t j due : ℕ) (m : B) (c : Cycle) (lines : Lines) (masks : Bool) (far : ℕ) → is_plain reach c ≡ true → due ≡ t + w.cycle m * j → due < far →
        rests m lines masks far → rests (leaves reach t m j c) lines masks far
    rests-on t j due m c lines masks far is there low rest = grind arith

    module _ {plain : B → Lines → Bool} (stays : StaysPlain w plain) where
      -- the look after an instruction, which is at rest
      pub look-on : {lines : Lines} {masks : Bool} {far : ℕ} (on : cpu.State) (b : B) (t : ℕ) → plain b lines ≡ true → rests b lines masks far → t < far
          → masks ≡ has_flag (after part on).p INTERRUPT →
          at_of (fresh Instruction (after part on)) (w.close b (t + 1)) (t + 1) ≡ after_look part w (closed_to w (at_of on b t) (t + 1)) lines
      look-on {lines} {masks} {far} on b t is_plain rest low held =
          let c : B = w.close b (t + 1) in
          let r : Regs = after part on in
          let rested : IsAtRest w c lines masks = stays_at_rest.looks b lines masks far t rest low in
          let x : At B = closed_to w (at_of on b t) (t + 1) in
          let sequence : sequence_at_look (w.nmi c lines) (w.irq c lines) r ≡ Instruction =
          rw (rested.nmi, ← held, rested.irq) in
          let looked = plain-look part w x lines (stays.resets c lines (stays.close b lines (t + 1) ∙ is_plain)) in
          sym (looked ∙ rw (sequence, rested.taken))

      module _ (far until : ℕ) (lines : Lines) (safe_until n : ℕ) (start : At B) (masks : Bool) (quiet : ℕ) where
        -- the middle of an instruction that began at tick t
        pub record IsMid (t : ℕ) (s : At B) (since : ℕ) : Type 0 where
          pub way : IsInProgress part w plain far n until lines safe_until start s since
          pub tick : s.due ≡ t + n * length s.cpu.seen
          pub before : w.closed s.bus ≤ s.due + 1
          pub rest : rests s.bus lines masks quiet

        module _ {t : ℕ} {s : At B} {since : ℕ} (mid : IsMid t s since) {c : Cycle} (is : next_cycle part s.cpu ≡ Some c) (apart_is : is_plain reach c ≡ true) where
          abbrev byte : ℕ
          byte = shows reach s.bus c

          abbrev b : B
          b = leaves reach t s.bus (length s.cpu.seen) c

          abbrev on : cpu.State
          on = after_byte part s.cpu byte

          tick-there : s.due ≡ t + w.cycle s.bus * length s.cpu.seen
          tick-there = mid.tick ∙ ap (λ (c : ℕ). t + c * length s.cpu.seen) mid.way.cycle

          -- its next access is quick
          quick : IsQuick w s.bus s.due c (Some byte) b
          quick = is-quick t (length s.cpu.seen) s.due s.bus c apart_is tick-there mid.before

          closed : w.closed b ≤ s.due + 1
          closed = is-closed t (length s.cpu.seen) s.due s.bus c apart_is tick-there mid.before

          rested : s.due < quiet → rests b lines masks quiet
          rested still = rests-on t (length s.cpu.seen) s.due s.bus c lines masks quiet apart_is tick-there still mid.rest

          -- and after it comes the next one
          mid-on : halted part s.cpu ≡ false → IsSome (next_cycle part on) → s.due + n ≤ far → s.due + n ≤ until → s.due + n ≤ quiet → IsMid t (at_of on b (s.due + n)) since
          mid-on goes more far_on in_run still =
              let some : 1 < n = omega (arith, mid.way.cycle, wired.some s.bus) in
              let one : length on.seen ≡ length s.cpu.seen + 1 = seen-on part s.cpu on byte refl goes in
              let sum : n * length on.seen ≡ n * length s.cpu.seen + n = ap (λ (x : ℕ). n * x) one ∙ one-more n (length s.cpu.seen) in
              record {
                way = quick-more part wired stays mid.way b is quick (omega (arith, in_run, some)) (omega (arith, far_on, some)) refl closed more;
                tick = omega (arith, mid.tick, sum);
                before = omega (arith, closed);
                rest = rested (omega (arith, still, some));
              }

        module _ (c : Cycle) (x : B) (last : cpu.State) (next : next_cycle part last ≡ Some c) (tube : IsAtTube w x c) where
          -- the processor is not halted in an instruction that reaches the Tube
          unhalted : (t k : ℕ) (s : cpu.State) (m there : B) → Carried reach t part (suc k) s m last there → halted part s ≡ false
          unhalted t k s m there h = by (halted part s) refl
            where
              by : (b : Bool) → halted part s ≡ b → b ≡ false
              by false is = refl
              by true is =
                  let one = first-of part reach t k s m last there h in
                  let same : last ≡ s = stays-halted part reach t (suc k) s m last there is h in
                  let cycle : c ≡ one.cycle = cc in
                  absurd (apart one.cycle one.plain x (subst (λ (c : Cycle). IsAtTube w x c) cycle tube))

          more-there : (t k : ℕ) (s : cpu.State) (m there : B) → Carried reach t part k s m last there → IsSome (next_cycle part s)
          more-there t k s m there h = grind arith

          -- all its accesses up to that one are plain: they are steps, and then comes that access
          pub to-tube : (k : ℕ) (s : At B) (since t : ℕ) (there : B) (top : ℕ) → IsMid t s since → Carried reach t part k s.cpu s.bus last there →
              s.due + n * k ≡ top → top ≤ far → top ≤ until → top ≤ quiet → IsInProgress part w plain far n until lines safe_until start (at_of last there top) since
          to-tube zero s since t there top mid h fits far_on in_run still =
              let same : s ≡ at_of last there top = at-same h.0 h.1 (omega (arith, fits)) in
              rw same at mid.way
          to-tube (suc k) s since t there top mid h fits far_on in_run still =
              let sum : n * suc k ≡ n * k + n = next-more n k in
              let one = first-of part reach t k s.cpu s.bus last there h in
              let on = mid-on mid one.next one.plain (unhalted t k s.cpu s.bus there h) (more-there t k _ _ there one.rest) (omega (arith, fits, sum, far_on)) (omega (arith, fits, sum, in_run))
              (omega (arith, fits, sum, still)) in
              to-tube k _ since t there top on one.rest (omega (arith, fits, sum)) far_on in_run still

        -- an instruction that ends before tick top is done but for its last access
        walk : (k : ℕ) (s : At B) (since t : ℕ) (last : cpu.State) (there : B) (top : ℕ) → IsMid t s since
            → Carried reach t part (suc k) s.cpu s.bus last there → next_cycle part last ≡ None →
            s.due + n * suc k ≡ top → top ≤ far → top ≤ until → top ≤ quiet
            → (p : At B) × (IsMid t p since × (Carried reach t part (suc zero) p.cpu p.bus last there × (p.due + n ≡ top)))
        walk zero s since t last there top mid h over fits far_on in_run still = (s, (mid, (h, ap (λ (x : ℕ). s.due + x) (sym (mul-one n)) ∙ fits)))
        walk (suc k) s since t last there top mid h over fits far_on in_run still =
            let sum : n * suc (suc k) ≡ n * suc k + n = next-more n (suc k) in
            let one = first-of part reach t (suc k) s.cpu s.bus last there h in
            let on = mid-on mid one.next one.plain (none-halted part reach t (suc k) s.cpu s.bus last there h over) (some-first part reach t k _ _ last there one.rest)
            (omega (arith, fits, sum, far_on)) (omega (arith, fits, sum, in_run)) (omega (arith, fits, sum, still)) in
            walk k _ since t last there top on one.rest over (omega (arith, fits, sum)) far_on in_run still

        -- the last access of an instruction is quick, and the look after it leads to new
        pub record IsLast (since : ℕ) (new : At B) : Type 0 where
          pub s : At B
          pub way : IsInProgress part w plain far n until lines safe_until start s since
          pub c : Cycle
          pub byte : ℕ
          pub b : B
          pub next : next_cycle part s.cpu ≡ Some c
          pub done : IsQuick w s.bus s.due c (Some byte) b
          pub before : w.closed b ≤ s.due + 1
          pub over : next_cycle part (after_byte part s.cpu byte) ≡ None
          pub tick : s.due + n ≡ new.due
          pub looked : new ≡ after_look part w (closed_to w (at_of (after_byte part s.cpu byte) b (s.due + (n - 1))) (s.due + (n - 1) + 1)) lines

        pub whole-last : (k due : ℕ) (r new : Regs) (m there : B) → 0 < k → IsInProgress part w plain far n until lines safe_until start (at_of (fresh Instruction r) m due) due →
            IsDone part reach due r m k new there → w.closed m ≤ due + 1 → due + n * k ≤ far → due + n * k ≤ until → due + n * k ≤ quiet → rests m lines masks quiet
            → has_flag r.p INTERRUPT ≡ masks → plain start.bus lines ≡ true →
            IsLast due (at_of (fresh Instruction new) (w.close there (due + n * k)) (due + n * k)) × rests (w.close there (due + n * k)) lines masks quiet
        whole-last zero due r new m there more way done before far_on in_run still rest held first = absurd (omega (arith, more))
        whole-last (suc k) due r new m there more way done before far_on in_run still rest held first =
            let top : ℕ = due + n * suc k in
            let walked = walk k (at_of (fresh Instruction r) m due) due due done.last there top
            (record { way = way; tick = omega arith; before = before; rest = rest }) done.carried done.over refl far_on in_run still in
            let s : At B = walked.0 in
            let mid = walked.1.0 in
            let tick : s.due + n ≡ top = walked.1.1.1 in
            let one = first-of part reach due zero s.cpu s.bus done.last there walked.1.1.0 in
            let byte : ℕ = shows reach s.bus one.cycle in
            let b : B = leaves reach due s.bus (length s.cpu.seen) one.cycle in
            let on : cpu.State = after_byte part s.cpu byte in
            let u : ℕ = s.due + (n - 1) in
            let some : 1 < n = omega (arith, way.cycle, wired.some m) in
            let last : on ≡ done.last = one.rest.0 in
            let bus : b ≡ there = one.rest.1 in
            let is_quick : IsQuick w s.bus s.due one.cycle (Some byte) b = quick mid one.next one.plain in
            let rest_on : rests b lines masks quiet = rested mid one.next one.plain (omega (arith, tick, still, some)) in
            let here : u + 1 ≡ top = omega (arith, tick, some) in
            let regs : after part on ≡ new = ap (after part) last ∙ done.regs in
            let held_on : masks ≡ has_flag (after part on).p INTERRUPT = rw regs (sym (done.masks ∙ held)) in
            let closed_there : w.close b (u + 1) ≡ w.close there top = cc in
            let same : at_of (fresh Instruction (after part on)) (w.close b (u + 1)) (u + 1) ≡ at_of (fresh Instruction new) (w.close there top) top =
            at-same (ap (fresh Instruction) regs) closed_there here in (
              record {
                s = s;
                way = mid.way;
                c = one.cycle;
                byte = byte;
                b = b;
                next = one.next;
                done = is_quick;
                before = closed mid one.next one.plain;
                over = ap (next_cycle part) last ∙ done.over;
                tick = tick;
                looked = sym same ∙ look-on on b u (quick-plain part wired stays mid.way b one.next is_quick first) rest_on (omega (arith, tick, still, some)) held_on;
              },
              stays_at_rest.close there lines masks quiet top (rw bus at rest_on) still,
            )

        -- an instruction done whole, and the look after it
        pub whole-on : (k due : ℕ) (r new : Regs) (m there : B) → 0 < k → IsInProgress part w plain far n until lines safe_until start (at_of (fresh Instruction r) m due) due →
            IsDone part reach due r m k new there → w.closed m ≤ due + 1 → due + n * k ≤ far → due + n * k ≤ until → due + n * k ≤ safe_until → due + n * k ≤ quiet →
            rests m lines masks quiet → has_flag r.p INTERRUPT ≡ masks → plain start.bus lines ≡ true →
            IsInProgress part w plain far n until lines safe_until start (at_of (fresh Instruction new) (w.close there (due + n * k)) (due + n * k))
            (due + n * k) × rests (w.close there (due + n * k)) lines masks quiet
        whole-on k due r new m there more way done before far_on in_run early still rest held first =
            let last = whole-last k due r new m there more way done before far_on in_run still rest held first in
            let l = last.0 in
            let some : 1 < n = omega (arith, way.cycle, wired.some m) in
            let tick : l.s.due + n ≡ due + n * k = l.tick in
            let low : l.s.due + (n - 1) < until = omega (arith, tick, in_run, some) in (
              quick-past part wired stays l.way l.b l.next l.done (omega (arith, low)) (omega (arith, tick, far_on, some)) refl l.before l.over first low
                  (omega (arith, tick, early, some)) refl l.looked,
              last.1,
            )

        -- as above, from a bus whose devices need not be closed yet as far as it counts
        pub whole-behind : (k due u : ℕ) (r new : Regs) (m there : B) → 0 < k → u ≤ due
            → IsInProgress part w plain far n until lines safe_until start (at_of (fresh Instruction r) (w.close m u) due) due →
            IsDone part reach due r m k new there → w.closed m ≤ due + 1 → due + n * k ≤ far → due + n * k ≤ until → due + n * k ≤ safe_until → due + n * k ≤ quiet →
            rests (w.close m u) lines masks quiet → has_flag r.p INTERRUPT ≡ masks → plain start.bus lines ≡ true →
            IsInProgress part w plain far n until lines safe_until start (at_of (fresh Instruction new) (w.close there (due + n * k)) (due + n * k))
            (due + n * k) × rests (w.close there (due + n * k)) lines masks quiet
        whole-behind k due u r new m there more low way done before far_on in_run early still rest held first =
            let top : ℕ = due + n * k in
            let c = carried-closed due k (fresh Instruction r) m done.last there u (omega (arith, low)) done.carried in
            let again : IsDone part reach due r (w.close m u) k new c.0 = record { last = done.last; carried = c.1.0; over = done.over; regs = done.regs; masks = done.masks } in
            let closed : w.closed (w.close m u) ≡ max u (w.closed m) = wired.closed m u in
            rw (c.1.1 top (omega (arith, low))) at
            (whole-on k due r new (w.close m u) c.0 more way again (omega (arith, closed, before, low)) far_on in_run early still rest held first)

-- the result of whole instructions
pub onward : (part : Part) {B : Type 0} {w : BusModel B} (wired : IsWired w) {plain : B → Lines → Bool} (stays : StaysPlain w plain) {lines : Lines} {n bound : ℕ} {start s : At B} →
    ((far until safe_until : ℕ) → bound ≤ far → bound ≤ until → bound ≤ safe_until → IsFree part w far start.bus → IsInProgress part w plain far n until lines safe_until start s s.due) →
    IsFree part w bound start.bus → n ≡ w.cycle start.bus → w.closed s.bus ≤ s.due + 1 → plain start.bus lines ≡ true → IsOnward part w plain lines bound start s
onward part wired stays {bound = bound} way free cycle before first =
    let here = way bound bound bound (omega arith) (omega arith) (omega arith) free in
    record {
      looks = λ until safe_until in_run early. came-there part wired stays (way bound until safe_until (omega arith) in_run early free);
      alike = record {
        goes_on = here.goes_on;
        closed = before;
        cycle = sym cycle ∙ here.cycle;
        free = λ far far_on none. (way far bound bound far_on (omega arith) (omega arith) none).free;
        is_plain = here.kept first;
      };
    }
