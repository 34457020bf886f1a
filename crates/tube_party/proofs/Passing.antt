-- The turns of both parties, with the accesses that the port answers.
use Rattle.std.proofs.Common.{ℕ, ◌≡◌, ◌+◌, ◌<◌, ◌≤◌, ◌⊎◌, Bool, true, false, refl, sym, ◌∙◌, ap, subst, arith, List, [], ◌∷◌, length, take, Some}
use Rattle.tube_chip.specs.State.{State, lines_of}
use Rattle.tube_chip.specs.declared.Lines.{Lines}
use Rattle.tube_chip.specs.declared.Answer.TheVariants.{Byte}
use Rattle.tube_chip.specs.declared.Op.{Op}
use Rattle.tube_chip.specs.Act.{Query, access, act, answer_of}
use Rattle.tube_trace.specs.declared.Entry.{Entry}
use Rattle.beeb_bits.specs.declared.Side.{Side}
use Rattle.beeb_bits.specs.declared.Side.TheVariants.{Host, Para}
use Rattle.beeb_bits.specs.declared.Tick.{Tick}
use Rattle.tube_party.specs.declared.log.Log.{Log}
use Rattle.tube_party.specs.declared.log.LogMark.{LogMark}
use Rattle.tube_party.specs.declared.party.Ask.{Ask}
use Rattle.tube_party.specs.declared.party.Ask.TheVariants.{Access}
use Rattle.tube_party.specs.Transitions.{Transitions, SeesHirqAlone, IsAsk, PortRunToAsk, IsAnswered, shown_lines}
use Rattle.tube_party.specs.Turn.{IsPending, first_of, tick_of, ticks_left, IsSafe, note_leaves, note_all_leaves}
use Rattle.tube_party.specs.CodeAtWork.{Acts, at_work, own_of}
use Rattle.tube_party.specs.Logs.{HasNoted}
use Rattle.tube_party.specs.Steps.{port_run_rise}
use Rattle.tube_party.specs.CodePassing.{ChipPortState, StaysSeen, IsPassed, chip_behind, passed_entry}
use Rattle.tube_party.specs.CodeStanding.{Standing, IsGone, IsRolledBack, para_turn}
use Rattle.tube_party.proofs.Runs.{Talking, Last, Next, talking_of}
use Rattle.tube_party.proofs.Ways.{IsWay, glance_leaves, way_of_looks, way_first, way_on}
use Rattle.tube_party.proofs.First.{IsFirst, host_first, tick_of_first}
use Rattle.tube_party.proofs.InProgress.{Run, Part, part_of, seated, IsAt, IsGoing, Mark}
use Rattle.tube_party.proofs.Both.{rest_of, IsSeen, in_time, stands, stood, host_goes, host_smaller, para_step, para_turns, para_smaller, goes_along, goes_on}
use Rattle.tube_party.proofs.Both.{rolled_back, back_smaller}

-- if an access comes before a tick that is safe by what the parasite asks, the host comes first
still_first : (t : Tick) (safe_until : ℕ) (op : Op) (ask_p : Ask) → t.0 < safe_until → IsSafe 1 ask_p safe_until → first_of (Access t op) ask_p ≡ Some Host
still_first t safe_until op ask_p early told = grind arith

-- the chip after what the host asks
behind_is : {S : Type 0} (h : Transitions S) (n : ℕ) (s : S) (c : State) (ask : Ask) (q : Query) → IsPending h n s ask → h.asks s ≡ Some q
    → (act c Host q).0 ≡ chip_behind c ask
behind_is h n s c ask q pending asks = grind arith

-- ---- What an access at the port leaves of both logs

abbrev pub other : Side → Side
other Host = Para
other Para = Host

abbrev pub log_of : Side → ChipPortState → Log
log_of Host d = d.host
log_of Para d = d.para

own_own : (side : Side) (tick : ℕ) (op : Op) (byte : ℕ) → own_of side (passed_entry side tick op byte) ≡ passed_entry side tick op byte ∷ []
own_own Host tick op byte = refl
own_own Para tick op byte = refl

own_none : (side : Side) (tick : ℕ) (op : Op) (byte : ℕ) → own_of (other side) (passed_entry side tick op byte) ≡ []
own_none Host tick op byte = refl
own_none Para tick op byte = refl

noted_in : (side : Side) {tick : ℕ} {op : Op} {byte : ℕ} {d f : ChipPortState} → IsPassed d tick op byte f
    → HasNoted (own_of side (passed_entry d.turn tick op byte)) (log_of side d) (log_of side f)
noted_in Host x = x.host_noted
noted_in Para x = x.para_noted

-- The other side's log is unchanged.
other_stays : (side : Side) {tick : ℕ} {op : Op} {byte : ℕ} {d f : ChipPortState} → d.turn ≡ side → IsPassed d tick op byte f
    → ((log_of (other side) f).list.items ≡ (log_of (other side) d).list.items) × ((log_of (other side) f).count ≡ (log_of (other side) d).count)
other_stays side {tick} {op} {byte} {d} turn x =
    let noted = noted_in (other side) x in
    let log : Log = log_of (other side) d in
    let none = ap (λ z. own_of (other side) (passed_entry z tick op byte)) turn ∙ own_none side tick op byte in
    let zero : log.count + 0 ≡ log.count = omega arith in
    (noted.list_is ∙ ap (note_all_leaves log.keep log.list.items) none, noted.count_is ∙ ap (λ z. log.count + length z) none ∙ zero)

-- ---- The parasite reads its status registers at the port

-- Among its steps from t to last, `entries` are the reads of status registers: they left the chip
-- unchanged, and were noted.
pub record HasRead {T : Type 0} (p : Transitions T) (n safe_until keep : ℕ) (t last : T) (d e : ChipPortState) : Type 0 where
  pub entries : List Entry
  pub way : IsWay p n safe_until d.chip t last entries
  pub chip_is : e.chip ≡ d.chip
  pub list_is : e.para.list.items ≡ note_all_leaves keep d.para.list.items entries
  pub count_is : e.para.count ≡ d.para.count + length entries
  pub keep_is : e.para.keep ≡ keep
  pub host_list : e.host.list.items ≡ d.host.list.items
  pub host_count : e.host.count ≡ d.host.count
  pub host_keep : e.host.keep ≡ d.host.keep

para_reads : {T : Type 0} {p : Transitions T} {n safe_until keep : ℕ} {lines : Lines} {last : T} {e : ChipPortState} {t : T} {d : ChipPortState}
    → lines ≡ lines_of d.chip → d.turn ≡ Para → d.is_read ≡ true → d.safe_until ≡ safe_until → d.para.keep ≡ keep
    → Talking p IsPassed n (shown_lines lines safe_until) last e t d → HasRead p n safe_until keep t last d e
para_reads same turn ahead until kept (Last looks) =
    record {
      entries = [];
      way = way_of_looks (rw same at looks);
      chip_is = refl;
      list_is = refl;
      count_is = omega arith;
      keep_is = kept;
      host_list = refl;
      host_count = refl;
      host_keep = refl;
    }
para_reads {p = p} {n} {safe_until} {keep} {last = last} {d = d} same turn ahead until kept (Next {at = at} {on} {f = f} looks answered port_run) =
    let passed = answered.answered in
    let chip_is : f.chip ≡ d.chip = (rw turn at passed.chip_is) ∙ glance_leaves d.chip (access answered.op) (passed.reads ahead turn) in
    let more = para_reads (same ∙ ap lines_of (sym chip_is)) (passed.turn_is ∙ turn) (passed.is_read_is ∙ ahead) (passed.safe_until_is ∙ until) (passed.para_noted.keep_is ∙ kept) port_run in
    let noted = rw turn at passed.para_noted in
    let count_is : f.para.count ≡ d.para.count + 1 = noted.count_is in
    let host = other_stays Para turn passed in
    let x : Entry = passed_entry Para (p.due at) answered.op answered.byte in
    record {
      entries = x ∷ more.entries;
      way = way_on (way_of_looks (rw same at looks))
          (way_first answered.below answered.asks answered.goes (omega (arith, passed.early, until)) (passed.reads ahead turn) (rw turn at passed.byte_is)
          (subst (λ z. IsWay p n safe_until z on last more.entries) chip_is more.way));
      chip_is = more.chip_is ∙ chip_is;
      list_is = more.list_is ∙ ap (λ z. note_all_leaves keep z more.entries) (noted.list_is ∙ ap (λ z. note_leaves z d.para.list.items x) kept);
      count_is = omega (arith, more.count_is, count_is);
      keep_is = more.keep_is;
      host_list = more.host_list ∙ host.0;
      host_count = more.host_count ∙ host.1;
      host_keep = more.host_keep ∙ passed.host_noted.keep_is;
    }

-- an access at the port is a step at the chip
passed_act : {U : Type 0} {m : Transitions U} {n keep : ℕ} {at on : U} {d f : ChipPortState} (side : Side) → d.turn ≡ side → (log_of side d).keep ≡ keep
    → IsAnswered m IsPassed n at d on f → Acts m side keep (at_work at d.chip (log_of side d)) (at_work on f.chip (log_of side f))
passed_act {m = m} {at = at} {d = d} side turn kept answered =
    let op = answered.op in
    let x = answered.answered in
    let old : Log = log_of side d in
    let is = rw turn at x.byte_is in
    let noted = noted_in side x in
    let entries : own_of side (passed_entry d.turn (m.due at) op answered.byte) ≡ passed_entry side (m.due at) op (answer_of d.chip side op) ∷ [] =
    ap (λ z. own_of side (passed_entry z (m.due at) op answered.byte)) turn ∙ own_own side (m.due at) op answered.byte
    ∙ ap (λ z. passed_entry side (m.due at) op z ∷ []) is in
    record {
      query = access op;
      asks = answered.asks;
      state_is = answered.goes ∙ ap (λ z. m.next at (Some (Byte z))) is;
      chip_is = rw turn at x.chip_is;
      list_is =
          noted.list_is ∙ ap (note_all_leaves old.keep old.list.items) entries
          ∙ ap (λ z. note_leaves z old.list.items (passed_entry side (m.due at) op (answer_of d.chip side op))) kept;
      count_is = noted.count_is ∙ ap (λ z. old.count + length z) entries;
    }

-- the host's looks see after it what they saw before
still_seen : {S : Type 0} (h : Transitions S) (safe_until : ℕ) (ask_p : Ask) {tick : ℕ} {op : Op} {byte : ℕ} {d f : ChipPortState} → IsPassed d tick op byte f
    → IsSeen h d.chip ask_p safe_until → IsSeen h f.chip ask_p safe_until
still_seen h safe_until ask_p passed is = grind arith

seen_so : {S : Type 0} (h : Transitions S) (c : State) (ask : Ask) (until seen : Tick) → IsSafe 1 ask until.0
    → (seen ≡ until) ⊎ (SeesHirqAlone h × (c.flags.q ≡ false)) → IsSeen h c ask seen.0
seen_so h c ask until seen told is = grind arith

-- The state of the port during a side's turn; the other side's log is `log`.
record IsSides (keep : ℕ) (side : Side) (until : ℕ) (lines : Lines) (log : Log) (d : ChipPortState) : Type 0 where
  turn : d.turn ≡ side
  until_is : d.safe_until ≡ until
  lines_is : lines ≡ lines_of d.chip
  host_keep : d.host.keep ≡ keep
  para_keep : d.para.keep ≡ keep
  list_is : (log_of (other side) d).list.items ≡ log.list.items
  count_is : (log_of (other side) d).count ≡ log.count

still_sides : {keep : ℕ} {side : Side} {until : ℕ} {lines : Lines} {log : Log} {tick : ℕ} {op : Op} {byte : ℕ} {d f : ChipPortState}
    → IsSides keep side until lines log d → IsPassed d tick op byte f → IsSides keep side until lines log f
still_sides {side = side} x passed =
    let stays = other_stays side x.turn passed in
    record {
      turn = passed.turn_is ∙ x.turn;
      until_is = passed.safe_until_is ∙ x.until_is;
      lines_is = x.lines_is ∙ sym (ap lines_of passed.chip_is ∙ passed.stays.0);
      host_keep = passed.host_noted.keep_is ∙ x.host_keep;
      para_keep = passed.para_noted.keep_is ∙ x.para_keep;
      list_is = stays.0 ∙ x.list_is;
      count_is = stays.1 ∙ x.count_is;
    }

module _ {S T : Type 0} (r : Run S T) where
  -- what the loop keeps of the port
  pub record IsKeptUp (ahead : Bool) (from : Mark T) (s : S) (t : T) (ask_h ask_p : Ask) (lines : Lines) (e : ChipPortState) : Type 0 where
    pub way : IsGoing r ahead from ask_h ask_p (part_of s e.host) (part_of t e.para) e.chip
    pub lines_is : lines ≡ lines_of e.chip
    pub host_keep : e.host.keep ≡ r.keep
    pub para_keep : e.para.keep ≡ r.keep

  -- It holds after a turn, and less is left.
  pub record IsOver (left : ℕ) (ahead : Bool) (from : Mark T) (s : S) (t : T) (ask_h ask_p : Ask) (lines : Lines) (e : ChipPortState) : Type 0 where
    pub kept : IsKeptUp ahead from s t ask_h ask_p lines e
    pub smaller : ticks_left r.n ask_h + rest_of r.p r.n ahead from.state ask_p < left

  -- The parasite arrives where the reference does, as long as the host's next step does not come
  -- before.
  abbrev IsAlong : ℕ → S → T → Lines → Ask → Log → ChipPortState → Type 0
  IsAlong until s last lines ask_h host e = IsAt r ask_h (part_of s host) (part_of last e.para) e.chip × IsSides r.keep Para until lines host e

module _ {S T : Type 0} {r : Run S T} where
  open r use {h, p, lp, n, keep}

  over_on : {left more : ℕ} {ahead : Bool} {from : Mark T} {s : S} {t : T} {ask_h ask_p : Ask} {lines : Lines} {e : ChipPortState} → left ≤ more
      → IsOver r left ahead from s t ask_h ask_p lines e → IsOver r more ahead from s t ask_h ask_p lines e
  over_on le x = record { kept = x.kept; smaller = omega (arith, x.smaller) }

  -- ---- The host's turn

  host_passes : {until safe_until : ℕ} {ahead : Bool} {from : Mark T} {s3 last : S} {t : T} {lines : Lines} {ask_p ask2 : Ask} {log : Log}
      {e : ChipPortState} {s2 : S} {d : ChipPortState} {ask_h : Ask} {a : Part S} {c : State}
      → IsGoing r ahead from ask_h ask_p a (part_of t log) c
      → first_of ask_h ask_p ≡ Some Host
      → Acts h Host keep (seated a c) (at_work s2 d.chip d.host)
      → (d.is_read ≡ false → ahead ≡ true → log.count ≡ from.count) → (ahead ≡ true → StaysSeen d.is_read c d.chip)
      → IsSafe 1 ask_p until → IsSeen h d.chip ask_p safe_until
      → IsSides keep Host until lines log d → IsAsk h n last ask2 s3
      → Talking h IsPassed n (shown_lines lines safe_until) last e s2 d
      → IsOver r (ticks_left n ask_h + rest_of p n ahead from.state ask_p) ahead from s3 t ask2 ask_p lines e
  host_passes {s3 = s3} {ask2 = ask2} {d = d} w first acts none stays told seen x asked (Last looks) =
      let sees = rw x.lines_is at looks in
      let less = host_smaller ask2 s3 w first acts sees asked in
      record {
        kept = record {
          way = rw (x.list_is, x.count_is) (host_goes ask2 s3 w first acts sees asked d.is_read none stays seen);
          lines_is = x.lines_is;
          host_keep = x.host_keep;
          para_keep = x.para_keep;
        };
        smaller = omega arith;
      }
  host_passes {until} {safe_until} {ask_p = ask_p} {log = log} {d = d} w first acts none stays told seen x asked (Next {at = at} {f = f} looks answered port_run) =
      let passed = answered.answered in
      let tick : Tick = record { 0 = h.due at } in
      let ask : Ask = Access tick answered.op in
      let here : IsAsk h n at ask at = (refl, answered.below, answered.asks, refl) in
      let sees = rw x.lines_is at looks in
      let less = host_smaller ask at w first acts sees here in
      over_on (omega (arith, less))
      (host_passes {log = log} (host_goes ask at w first acts sees here d.is_read none stays seen)
      (still_first tick until answered.op ask_p (omega (arith, passed.early, x.until_is)) told)
      (passed_act Host x.turn x.host_keep answered)
      (λ is. none (sym passed.is_read_is ∙ is))
      (λ _. rw (passed.is_read_is, passed.chip_is) passed.stays)
      told (still_seen h safe_until ask_p passed seen) (still_sides x passed) asked port_run)

  -- ---- The parasite's turn, as long as the port answers its accesses

  para_along : {until : ℕ} {s : S} {lines : Lines} {ask_h : Ask} {host : Log} {last : T} {e : ChipPortState} {t : T} {d : ChipPortState} → IsSafe 0 ask_h until
      → IsAt r ask_h (part_of s host) (part_of t d.para) d.chip → IsSides keep Para until lines host d
      → Talking p IsPassed n (shown_lines lines until) last e t d
      → IsAlong r until s last lines ask_h host e
  para_along told at x (Last looks) = (goes_along at told (rw x.lines_is at looks), x)
  para_along {until} {s} {ask_h = ask_h} {d = d} told at x (Next {at = mid} looks answered port_run) =
      let passed = answered.answered in
      let there = goes_along at told (rw x.lines_is at looks) in
      let first : IsFirst p h n 1 mid mid there.host_last (Access (record { 0 = p.due mid }) answered.op) = record {
        pending = (refl, answered.below, answered.asks);
        here = refl;
        below = answered.below;
        first = omega (
          arith,
          in_time h n 0 until s there.host_last ask_h there.host_asked told (p.due mid) answered.below (omega (arith, passed.early, x.until_is)),
        );
      } in
      para_along told (para_step {b = part_of mid d.para} there first (passed_act Para x.turn x.para_keep answered)) (still_sides x passed) port_run

  -- ---- The parasite is rolled back

  pub rolls_back : {at : ℕ} {mark : LogMark} {ahead : Bool} {from : Mark T} {s : S} {t t2 : T} {lines : Lines} {ask_h ask_p ask2 : Ask} {d e : ChipPortState}
      → IsRolledBack p n lines at mark from.state d ask2 t2 e
      → IsGoing r ahead from ask_h ask_p (part_of s d.host) (part_of t d.para) d.chip → lines ≡ lines_of d.chip → d.host.keep ≡ keep → d.para.keep ≡ keep
      → first_of ask_h ask_p ≡ Some Host
      → ahead ≡ true → at ≡ tick_of ask_h → (from.len ≡ mark.len) × (from.count ≡ mark.count)
      → (from2 : Mark T) → IsOver r (ticks_left n ask_h + rest_of p n ahead from.state ask_p) false from2 s t2 ask_h ask2 lines e
  rolls_back {at} {ahead = ahead} {from} {s} {t} {t2} {lines} {ask_h} {ask_p} {ask2} {d} {e} back w lines_is host_keep para_keep first is tick marks from2 =
      let log = back.log in
      let read : HasRead p n at keep from.state back.goes.last (para_turn d log at) e =
      para_reads lines_is refl refl refl (back.keep_is ∙ para_keep) (talking_of back.goes.accesses back.goes.port_run) in
      let there : IsAt r ask_h (part_of s d.host) (part_of from.state log) d.chip =
      rolled_back w is (back.list_is ∙ ap (λ x. take x d.para.list.items) (sym marks.0)) (back.count_is ∙ sym marks.1) in
      let f = host_first h p n s there.host_last t w.last ask_h ask_p there.host_asked w.asked first in
      let due = tick_of_first h n s there.host_last ask_h f.pending f.here in
      let going : IsGoing r false from2 ask_h ask2 (part_of s d.host) (part_of t2 e.para) d.chip =
      goes_on false there read.way back.goes.asked read.list_is read.count_is (λ b. cc) (λ b x low early. omega (arith, early, tick, due)) in
      let less = back_smaller r t2 ask_p ask2 ahead is read.way back.goes.asked in
      record {
        kept = record {
          way = rw (read.chip_is, read.host_list, read.host_count) going;
          lines_is = lines_is ∙ ap lines_of (sym read.chip_is);
          host_keep = read.host_keep ∙ host_keep;
          para_keep = read.keep_is;
        };
        smaller = omega arith;
      }

module _ {S T : Type 0} {r : Run S T} {ahead : Bool} {from : Mark T} {s : S} {t : T} {lines : Lines} {ask_h ask_p : Ask} {d0 : ChipPortState}
    (k : IsKeptUp r ahead from s t ask_h ask_p lines d0) where
  open r use {h, p, lp, n, keep}

  abbrev left : ℕ
  left = ticks_left n ask_h + rest_of p n ahead from.state ask_p

  pub host_turn : {until seen : Tick} {s2 s3 : S} {lines2 : Lines} {ask2 : Ask} {d e : ChipPortState} → first_of ask_h ask_p ≡ Some Host
      → PortRunToAsk h IsPassed n (shown_lines lines2 seen.0) s2 d ask2 s3 e
      → Acts h Host d0.host.keep (at_work s d0.chip d0.host) (at_work s2 d.chip d.host)
      → d.turn ≡ Host → d.safe_until ≡ until.0 → lines2 ≡ lines_of d.chip → d.host.keep ≡ keep → d.para ≡ d0.para
      → (d.is_read ≡ false → ahead ≡ true → d0.para.count ≡ from.count)
      → (ahead ≡ true → StaysSeen d.is_read d0.chip (chip_behind d0.chip ask_h))
      → IsSafe 1 ask_p until.0 → (seen ≡ until) ⊎ (SeesHirqAlone h × (d.chip.flags.q ≡ false))
      → IsOver r left ahead from s3 t ask2 ask_p lines2 e
  host_turn {until} {seen} {d = d} first port_run_to_ask acts turn until_is lines_is host_keep para none stays told free =
      let w = k.way in
      let f = host_first h p n s w.at.host_last t w.last ask_h ask_p w.at.host_asked w.asked first in
      let is : chip_behind d0.chip ask_h ≡ d.chip = sym (acts.chip_is ∙ behind_is h n s d0.chip ask_h acts.query f.pending acts.asks) in
      host_passes {log = d0.para} w first (rw k.host_keep at acts) none (λ b. rw is at (stays b)) told
      (seen_so h d.chip ask_p until seen told free)
      (record {
        turn = turn;
        until_is = until_is;
        lines_is = lines_is;
        host_keep = host_keep;
        para_keep = ap (λ x. x.keep) para ∙ k.para_keep;
        list_is = ap (λ x. x.list.items) para;
        count_is = ap (λ x. x.count) para;
      }) port_run_to_ask.asked (talking_of port_run_to_ask.accesses port_run_to_ask.port_run)

  pub para_turn_over : {until : ℕ} {from2 : Mark T} {t2 t3 : T} {lines2 : Lines} {asked : Ask} {d b e : ChipPortState} {new : Standing T} → first_of ask_h ask_p ≡ Some Para
      → PortRunToAsk p IsPassed n (shown_lines lines2 until) t2 d asked t3 b
      → IsGone p n lines2 t3 b asked new e
      → Acts p Para d0.para.keep (at_work t d0.chip d0.para) (at_work t2 d.chip d.para)
      → d.host ≡ d0.host → d.turn ≡ Para → d.safe_until ≡ until → d.para.keep ≡ keep → lines2 ≡ lines_of d.chip
      → IsSafe 0 ask_h until
      → (from2.state ≡ new.mark) × (from2.len ≡ length b.para.list.items) × (from2.count ≡ b.para.count)
      → IsOver r left new.ahead from2 s new.state ask_h new.ask lines2 e
  para_turn_over {until} {from2} {t2} {t3} {lines2} {asked} {d} {b} {e} {new} first port_run_to_ask gone acts0 host turn until_is para_keep lines_is told is = by new.ahead refl
    where
      acts : Acts p Para keep (at_work t d0.chip d0.para) (at_work t2 d.chip d.para)
      acts = rw k.para_keep at acts0

      along : IsAlong r until s port_run_to_ask.last lines2 ask_h d0.host b
      along = para_along told (para_turns k.way first acts)
          (record {
            turn = turn;
            until_is = until_is;
            lines_is = lines_is;
            para_keep = para_keep;
            host_keep = ap (λ x. x.keep) host ∙ k.host_keep;
            list_is = ap (λ x. x.list.items) host;
            count_is = ap (λ x. x.count) host;
          }) (talking_of port_run_to_ask.accesses port_run_to_ask.port_run)

      rise : p.due t2 ≤ p.due port_run_to_ask.last
      rise = port_run_rise p IsPassed n lines2 until port_run_to_ask.accesses t2 port_run_to_ask.last d b lp port_run_to_ask.port_run

      by : (x : Bool) → new.ahead ≡ x
          → IsOver r left new.ahead from2 s new.state ask_h new.ask lines2 e
      by true ea =
          let g = gone.goes ea in
          let here : t3 ≡ port_run_to_ask.last = stood p n port_run_to_ask.last t3 asked port_run_to_ask.asked g.0 in
          let read : HasRead p n gone.far keep t3 g.2.last (para_turn b b.para gone.far) e =
          para_reads along.1.lines_is refl refl refl along.1.para_keep (talking_of g.2.accesses g.2.port_run) in
          let there : IsAt r ask_h (part_of s d0.host) (part_of t3 b.para) b.chip = rw here along.0 in
          let going : IsGoing r new.ahead from2 ask_h new.ask (part_of s d0.host) (part_of new.state e.para) b.chip =
          goes_on new.ahead there read.way g.2.asked read.list_is read.count_is (λ _. (sym (is.0 ∙ g.1), sym is.1, sym is.2)) (λ no. cc) in
          let smaller = para_smaller k.way first acts new.ahead from2.state new.ask (λ _. omega (arith, rise, ap p.due (is.0 ∙ g.1 ∙ here))) (λ no. cc) in
          record {
            kept = record {
              way = rw (read.chip_is, read.host_list ∙ along.1.list_is, read.host_count ∙ along.1.count_is) going;
              lines_is = along.1.lines_is ∙ ap lines_of (sym read.chip_is);
              host_keep = read.host_keep ∙ along.1.host_keep;
              para_keep = read.keep_is;
            };
            smaller = omega (arith, smaller);
          }
      by false ea =
          let g = gone.stays ea in
          let there : IsGoing r false from2 ask_h asked (part_of s d0.host) (part_of t3 b.para) b.chip = stands {b = part_of port_run_to_ask.last b.para} along.0 port_run_to_ask.asked in
          let smaller = para_smaller k.way first acts false from2.state asked (λ no. cc) (λ _. (port_run_to_ask.last, t3, rise, port_run_to_ask.asked)) in
          rw (ea, g.0, g.1, g.2) (record {
            kept = record {
              way = rw (along.1.list_is, along.1.count_is) there;
              lines_is = along.1.lines_is;
              host_keep = along.1.host_keep;
              para_keep = along.1.para_keep;
            };
            smaller = omega (arith, smaller);
          })
