-- A machine that is held is at a look, and goes past looks there; one that starts an instruction is
-- not held.
use Rattle.std.proofs.Common.{◌≡◌, ◌∙◌, refl, sym, ap, subst, ℕ, zero, suc, ◌+◌, ◌<◌, ◌≤◌, ◌==◌, not, Bool, true, false, is_none, Option, None, Some, List, [], if◌then◌else◌}
use Rattle.std.proofs.lemmas.Bool.{ne_eqb}
use Rattle.op_table.specs.declared.names.Part.TheVariants.{Cmos}
use Rattle.cpu_alu.specs.declared.Cycle.{Cycle}
use Rattle.cpu_core.specs.State as cpu
use Rattle.cpu_core.specs.declared.Sequence.{Sequence}
use Rattle.cpu_core.specs.declared.Sequence.TheVariants.{Instruction}
use Rattle.cpu_core.specs.Sequences.{is_start}
use Rattle.cpu65c02.specs.Sequences.{next_cycle, after, starting}
use Rattle.tube_chip.specs.Act.{Query}
use Rattle.tube_chip.specs.declared.Lines.{Lines}
use Rattle.tube_chip.specs.declared.Op.{Op}
use Rattle.tube_chip.specs.declared.Answer.{Answer}
use Rattle.tube_chip.specs.declared.Answer.TheVariants.{Byte, Seen}
use Rattle.tube_party.specs.Transitions.{Shown, Looks, PortRun, LookRunToAsk, PortRunToAsk, PortRunToAnyAsk, IsAsk, shown_lines}
use Rattle.tube_party.specs.Steps.{After, look_last, looks_wider, silent_all, port_run_on}
use Rattle.tube_party.specs.declared.party.Ask.{Ask}
use Rattle.tube_party.specs.declared.party.Ask.TheVariants.{Nothing, Access, Look}
use Rattle.tube_machine.specs.Step.{asks_by, after_held_cycle, after_step, closed_to, lines_in}
use Rattle.tube_machine.specs.declared.skip_while.SkipWhile.{SkipWhile}
use Rattle.tube_machine.specs.SkipWhile.{IsSkipped, ToLook, Passes, skipped_at}
use Rattle.para_mach.specs.State.{ParaBusState, ParaState, shown_regs}
use Rattle.para_mach.specs.Peek.{peek_of, para_peek}
use Rattle.para_mach.specs.Step.{para_bus_model, para_transitions, next_state}
use Rattle.para_mach.specs.CodeNotes.{LooksOn, IsHeldAtLook, part_kept}

-- no step changes that
look_by : (resets prst : Bool) (s held reset taken : ParaState) → (next_cycle held.cpu ≡ None) → (reset.bus.is_held ≡ false) → (taken.bus.is_held ≡ false) →
    IsHeldAtLook (if resets then (if prst then held else reset) else taken)
look_by true true s held reset taken a b c is = ap is_none a
look_by true false s held reset taken a b c is = cc
look_by false prst s held reset taken a b c is = cc

step_by : (o : Option Cycle) (s : ParaState) (a : Option Answer) → next_cycle s.cpu ≡ o → IsHeldAtLook s → IsHeldAtLook (after_step Cmos para_bus_model o s a)
step_by None s a over held =
    let l : Lines = lines_in a in
    look_by (not (l.resets == s.bus.resets)) l.prst s _ _ _ over refl refl
step_by (Some c) s a over held = λ is. let no : true ≡ false = sym (held is) ∙ ap is_none over in cc

pub next_held : (s : ParaState) (a : Option Answer) → IsHeldAtLook s → IsHeldAtLook (next_state s a)
next_held s a held = step_by (next_cycle s.cpu) (closed_to para_bus_model s (s.due + 1)) a refl held

module _ (n : ℕ) (lines : Lines) (safe_until : ℕ) where
  looks_by : (k : ℕ) (s last : ParaState) (o : Option Query) → IsHeldAtLook s
      → ((u : ParaState) → IsHeldAtLook u → Looks para_transitions n (shown_lines lines safe_until) k u last → IsHeldAtLook last)
      → After para_transitions n lines safe_until k s last o → IsHeldAtLook last
  looks_by k s last None held on h = on (next_state s None) (next_held s None held) h
  looks_by k s last (Some q) held on h = on (next_state s (Some (Seen lines))) (next_held s (Some (Seen lines)) held) h.2

  pub looks_held : (k : ℕ) (s last : ParaState) → IsHeldAtLook s → Looks para_transitions n (shown_lines lines safe_until) k s last → IsHeldAtLook last
  looks_held zero s last held h = subst IsHeldAtLook h held
  looks_held (suc k) s last held h = looks_by k s last (para_transitions.asks s) held (λ u there on. looks_held k u last there on) h.1

  ask_held : (last new : ParaState) (ask : Ask) → IsHeldAtLook last → IsAsk para_transitions n last ask new → IsHeldAtLook new
  ask_held last new Nothing held is = rw is.1 held
  ask_held last new (Access t o) held is = rw is.3 held
  ask_held last new (Look t) held is = rw is.3 held

  port_run_held : {D : Type 0} (answers : D → ℕ → Op → ℕ → D → Type 0) (j : ℕ) (s last : ParaState) (d e : D) → IsHeldAtLook s
      → PortRun para_transitions answers n (shown_lines lines safe_until) j s d last e → IsHeldAtLook last
  port_run_held answers zero s last d e held h = looks_held h.1.0 s last held h.1.1
  port_run_held answers (suc j) s last d e held h =
      let there : IsHeldAtLook h.0 = looks_held h.3.0 s h.0 held h.3.1 in
      port_run_held answers j h.1 last h.2 e (rw h.4.goes (next_held h.0 (Some (Byte h.4.byte)) there)) h.5

module _ {n : ℕ} {lines : Lines} {safe_until : ℕ} {old new : ParaState} {ask : Ask} (held : IsHeldAtLook old) where
  pub sees_held : LookRunToAsk para_transitions n (shown_lines lines safe_until) old ask new → IsHeldAtLook new
  sees_held sees = ask_held n lines safe_until sees.last new ask (looks_held n lines safe_until sees.steps old sees.last held sees.looks) sees.asked

  pub port_run_to_ask_held : {D : Type 0} {answers : D → ℕ → Op → ℕ → D → Type 0} {d e : D}
      → PortRunToAsk para_transitions answers n (shown_lines lines safe_until) old d ask new e → IsHeldAtLook new
  port_run_to_ask_held {answers = answers} {d} {e} port_run_to_ask =
      ask_held n lines safe_until port_run_to_ask.last new ask (port_run_held n lines safe_until answers port_run_to_ask.accesses old port_run_to_ask.last d e held port_run_to_ask.port_run) port_run_to_ask.asked

-- ---- Held

-- the reset line is on for one more reset
held_look : (s : ParaState) (l : Lines) → next_cycle s.cpu ≡ None → l.prst ≡ true → (l.resets ≡ s.bus.resets → ⊥)
    → next_state s (Some (Seen l)) ≡ after_held_cycle Cmos para_bus_model (closed_to para_bus_model s (s.due + 1))
held_look s l over stands other = rw (over, ne_eqb l.resets s.bus.resets other, stands)

-- until here a machine passed looks at that line
pub record IsHeldOn (n : ℕ) (lines : Lines) (safe_until : ℕ) (start s : ParaState) : Type 0 where
  pub came : (k : ℕ) × Looks para_transitions n (shown_lines lines safe_until) k start s
  pub over : next_cycle s.cpu ≡ None
  pub kept : part_kept s.bus.ram s.bus ≡ part_kept start.bus.ram start.bus
  pub before : s.bus.closed ≤ s.due + 1

pub held_more : {n : ℕ} {lines : Lines} {safe_until : ℕ} {start s new : ParaState} → IsHeldOn n lines safe_until start s → lines.prst ≡ true
    → (lines.resets ≡ start.bus.resets → ⊥) → s.due < n → s.due < safe_until →
    new ≡ next_state s (Some (Seen lines)) → new.bus.closed ≤ new.due + 1 → IsHeldOn n lines safe_until start new
held_more {n} {lines} {safe_until} {start} {s} {new} so_far stands other low early is before =
    let same : s.bus.resets ≡ start.bus.resets = ap (λ (b : ParaBusState). b.resets) so_far.kept in
    let stays : new ≡ after_held_cycle Cmos para_bus_model (closed_to para_bus_model s (s.due + 1)) = is ∙ held_look s lines so_far.over stands (λ e. other (e ∙ same)) in
    record {
      came = (
        suc so_far.came.0,
        rw is (look_last para_transitions n lines safe_until so_far.came.0 start s so_far.came.1 low (ap (asks_by para_bus_model s.bus) so_far.over) early),
      );
      over = rw stays so_far.over;
      kept = rw stays so_far.kept;
      before = before;
    }

-- ---- Room

-- the steps of a run, and the next ask; its looks may be nearer than they need be
module _ (n : ℕ) (lines : Lines) {near safe_until : ℕ} {D : Type 0} (answers : D → ℕ → Op → ℕ → D → Type 0) (low : near ≤ safe_until) where
  port_run_wider : (j : ℕ) (s last : ParaState) (d e : D) → PortRun para_transitions answers n (shown_lines lines near) j s d last e
      → PortRun para_transitions answers n (shown_lines lines safe_until) j s d last e
  port_run_wider zero s last d e h = (h.0, (h.1.0, looks_wider para_transitions n lines near safe_until h.1.0 s last low h.1.1))
  port_run_wider (suc j) s last d e h = (h.0, h.1, h.2, (h.3.0, looks_wider para_transitions n lines near safe_until h.3.0 s h.0 low h.3.1), h.4, port_run_wider j h.1 last h.2 e h.5)

module _ {n : ℕ} {lines : Lines} {near safe_until : ℕ} {D : Type 0} {answers : D → ℕ → Op → ℕ → D → Type 0} (low : near ≤ safe_until) {old new : ParaState} {d e : D} {ask : Ask} where
  pub port_run_to_ask_wider : PortRunToAsk para_transitions answers n (shown_lines lines near) old d ask new e
      → PortRunToAnyAsk para_transitions answers n (shown_lines lines safe_until) old d ask new e
  port_run_to_ask_wider port_run_to_ask =
      record { accesses = port_run_to_ask.accesses; last = port_run_to_ask.last; port_run = port_run_wider n lines answers low port_run_to_ask.accesses old port_run_to_ask.last d e port_run_to_ask.port_run; asked = port_run_to_ask.asked }

  pub goes_on_wider : {last : ParaState} → (j : ℕ) × PortRun para_transitions answers n (shown_lines lines near) j old d last e
      → LooksOn n (shown_lines lines safe_until) last ask new → PortRunToAnyAsk para_transitions answers n (shown_lines lines safe_until) old d ask new e
  goes_on_wider {last} came goes =
      let all = port_run_on para_transitions answers n lines safe_until came.0 0 old last goes.last d e e (port_run_wider n lines answers low came.0 old last d e came.1) (refl, (goes.steps, goes.looks)) in
      record { accesses = all.0; last = goes.last; port_run = all.1; asked = goes.asked }

-- ---- Rolled back

-- what notes restore of a bus, as it was
pub back : (ram : List ℕ) (b old : ParaBusState) → part_kept ram b ≡ part_kept old.ram old → record b { ram = ram; is_held = old.is_held; closed = old.closed } ≡ old
back ram b old is = ap (λ (x : ParaBusState). record x { is_held = old.is_held; closed = old.closed }) is

-- ---- Starts that are skipped

goes_on : (c : cpu.State) → starting c ≡ true → is_none (next_cycle c) ≡ false
goes_on c is = by c.seen c.sequence is
  where
    by : (seen : List (Option ℕ)) (q : Sequence) → is_start seen q ≡ true → is_none (next_cycle (record c { seen = seen; sequence = q })) ≡ false
    by [] Instruction h = refl
    by _ _ h = cc

-- a machine that starts an instruction is not held
shown_at : (s : ParaState) → IsHeldAtLook s → starting s.cpu ≡ true → shown_regs s ≡ s.cpu.regs
shown_at s held is = by s.bus.is_held refl
  where
    by : (b : Bool) → s.bus.is_held ≡ b → (if b then after s.cpu else s.cpu.regs) ≡ s.cpu.regs
    by false e = refl
    by true e = let no : true ≡ false = sym (held e) ∙ goes_on s.cpu is in cc

to_look_held : (n : ℕ) (v : Shown) (s u : ParaState) → IsHeldAtLook s → ToLook para_transitions n v s u → IsHeldAtLook u
to_look_held n v s u held looks =
    let last : ParaState = looks.goes.last in
    let there : IsHeldAtLook last = looks_held n v.lines 0 looks.goes.steps s last held (silent_all para_transitions n v.lines 0 looks.goes.steps s last looks.goes.runs) in
    rw looks.next (next_held looks.last (Some (Seen v.lines)) (rw looks.goes.asked.3 there))

-- by the registers that are shown
pub passes_held : (skip : SkipWhile) (n : ℕ) (v : Shown) (k : ℕ) (s last : ParaState) → IsHeldAtLook s
    → Passes para_transitions (skipped_at (λ b at. peek_of b.ram b.rom b.rom_in at) skip) n v k s last →
    Passes para_transitions (λ (x : ParaState). IsSkipped skip x.due (shown_regs x).pc (para_peek x)) n v k s last × IsHeldAtLook last
passes_held skip n v zero s last held h = (h, subst IsHeldAtLook h held)
passes_held skip n v (suc k) s last held h =
    let u : ParaState = h.1.0 in
    let rest = passes_held skip n v k u last (to_look_held n v s u held h.1.1.0) h.1.1.1 in
    let over : IsSkipped skip s.due (shown_regs s).pc (para_peek s) = rw (shown_at s held h.0.0) h.0.1 in
    ((over, (u, (h.1.1.0, rest.0))), rest.1)
