-- The loop over both parties.
use Rattle.std.proofs.Common.{ℕ, ◌≡◌, ◌≢◌, ◌+◌, ◌-◌, ◌<◌, ◌≤◌, Bool, true, false, refl, sym, ◌∙◌, ap, subst, arith, List, [], ◌∷◌, ◌++◌, length}
use Rattle.std.proofs.Common.{take, None, Some, ◌⊎◌, inl, inr}
use Rattle.std.specs.Prelude.{All}
use Rattle.std.proofs.lemmas.List.Elements.{All-nil}
use Rattle.tube_chip.specs.State.{State, lines_of}
use Rattle.tube_chip.specs.Act.{look, act}
use Rattle.tube_chip.specs.Events.{Event, of_side}
use Rattle.tube_chip.specs.declared.Answer.{Answer}
use Rattle.tube_trace.specs.declared.Entry.{Entry}
use Rattle.beeb_bits.specs.declared.Side.{Side}
use Rattle.beeb_bits.specs.declared.Side.TheVariants.{Host, Para}
use Rattle.tube_party.specs.declared.party.Ask.{Ask}
use Rattle.tube_party.specs.declared.party.Ask.TheVariants.{Nothing}
use Rattle.tube_party.specs.Transitions.{Transitions, SeesHirqAlone, IsAsk, Advances, close_leaves, shown_lines}
use Rattle.tube_party.specs.Reference.{ticks, step_leaves, with_host}
use Rattle.tube_party.specs.GoingOn.{IsLike, reference_from}
use Rattle.tube_trace.specs.Entries.{accesses}
use Rattle.tube_party.specs.OneThread.{IsKept, Played, IsPlayed}
use Rattle.tube_party.specs.Turn.{first_of, ticks_left, note_all_leaves, IsSafe}
use Rattle.tube_party.specs.CodeAtWork.{Acts}
use Rattle.tube_party.specs.CodePassing.{StaysSeen}
use Rattle.tube_party.proofs.Ticks.{seat, world, rest, host_silent, para_next, para_silent}
use Rattle.tube_party.proofs.Runs.{event, Steps, Over, Silent, Asking, steps_of, Glances, Here, Past, Seeing, glances_rise}
use Rattle.tube_party.proofs.Kept.{kept_own, kept_more, kept_beside}
use Rattle.tube_party.specs.Logs.{at_most_one}
use Rattle.tube_party.proofs.Ways.{IsIdle, IsWay, way_of_looks, execution_of, no_way, seen_still, all_own, cut_back, none_of}
use Rattle.tube_party.proofs.InProgress.{Run, Part, part, seated, onward, IsAt, IsGoing, Mark}
use Rattle.tube_party.proofs.Early.{alike, like_on, no_access, like_ticks, IsEarly, early_host, free_look, para_does}
use Rattle.tube_party.proofs.First.{IsFirst, host_first, para_first, not_first, none_left}

-- a party whose machine continued
abbrev pub moved : {S : Type 0} → Part S → S → Part S
moved a s = part s a.list a.count

abbrev pub left_as : {S T : Type 0} → Part S → Part T → State → Played S T
left_as a b c = record { host = a.state; para = b.state; chip = c; host_list = a.list; para_list = b.list; host_count = a.count; para_count = b.count }

-- an ask leaves the ticks from its own on
ticks_are : {S : Type 0} (r : Transitions S) (n : ℕ) (last s : S) (ask : Ask) → IsAsk r n last ask s → ticks_left n ask ≡ n - r.due last
ticks_are r n last s ask h = grind arith

-- the ticks left of the parasite's ask, or of its rollback point: a rollback leaves fewer
abbrev pub rest_of : {T : Type 0} → Transitions T → ℕ → Bool → T → Ask → ℕ
rest_of p n true mark ask = (n - p.due mark) + (n - p.due mark) + 1
rest_of p n false mark ask = ticks_left n ask + ticks_left n ask

moved_kept : {side : Side} {events : List Event} {keep : ℕ} {l m : List Entry} {a b : ℕ} → l ≡ m → a ≡ b → IsKept side events keep m b → IsKept side events keep l a
moved_kept el ea k = record { list_is = el ∙ k.list_is; count_is = ea ∙ k.count_is }

kept_alike : {side : Side} {l m : List Event} {keep : ℕ} {list : List Entry} {count : ℕ} → accesses (of_side side l) ≡ accesses (of_side side m)
    → IsKept side l keep list count → IsKept side m keep list count
kept_alike {keep = keep} same k = record { list_is = k.list_is ∙ ap (take keep) same; count_is = k.count_is ∙ ap length same }

-- looks that are safe by what a party asks come at most `tie_offset` ticks after its step
pub in_time : {S : Type 0} (r : Transitions S) (n tie_offset safe_until : ℕ) (s last : S) (ask : Ask) → IsAsk r n last ask s
    → IsSafe tie_offset ask safe_until → (x : ℕ) → x < n → x < safe_until
    → x < r.due last + tie_offset
in_time r n tie_offset safe_until s last ask is told x low early = grind arith

-- the state that asks is the last of the steps
pub stood : {S : Type 0} (r : Transitions S) (n : ℕ) (last new : S) (ask : Ask) → IsAsk r n last ask new → ask ≢ Nothing → new ≡ last
stood r n last new ask asked some = grind arith

-- The host's looks below a tick see the lines as the chip shows them: by what the parasite asks
-- they come in time, or each sees the host's request alone, and the chip enables none.
abbrev pub IsSeen : {S : Type 0} → Transitions S → State → Ask → ℕ → Type 0
IsSeen h c ask safe_until = IsSafe 1 ask safe_until ⊎ (SeesHirqAlone h × (c.flags.q ≡ false))

module _ {S T : Type 0} (r : Run S T) where
  open r use {h, p, lh, lp, n}

  silent_host : {m s : S} {events : List Event} → Steps h Host n m s events → events ≡ [] → (t : T) (c : State) (l : List Event)
      → onward r s t c l ≡ onward r m t c l
  silent_host Over none t c l = refl
  silent_host (Silent {s = s} low is on) none t c l = host_silent h p lh lp n 0 s t c l (omega arith) (omega arith) is ∙ silent_host on none t c l
  silent_host (Asking q a low is on) none t c l = cc

  silent_para : {m t : T} {events : List Event} → Steps p Host n m t events → events ≡ [] → (s : S) (c : State) (l : List Event)
      → onward r s t c l ≡ onward r s m c l
  silent_para Over none s c l = refl
  silent_para (Silent {s = t} low is on) none s c l = para_silent h p lh lp n 0 s t c l (omega arith) (omega arith) is ∙ silent_para on none s c l
  silent_para (Asking q a low is on) none s c l = cc

  -- a party that is rolled back is no longer ahead
  pub back_smaller : {far : ℕ} {mark last : T} {c : State} {entries : List Entry} (t : T) (ask ask2 : Ask) (ahead : Bool) → ahead ≡ true
      → IsWay p n far c mark last entries → IsAsk p n last ask2 t
      → rest_of p n false mark ask2 < rest_of p n ahead mark ask
  back_smaller t ask ask2 false is way asked = cc
  back_smaller {last = last} t ask ask2 true is way asked =
      let rise = (execution_of p lp n way.runs).few in
      omega (arith, ticks_are p n last t ask2 asked)

  -- each of the host's looks below a tick may be done at once
  abbrev IsEarlyLook : ℕ → T → State → Type 0
  IsEarlyLook safe_until t c = (u : S) (l : List Event) → h.due u < n → h.due u < safe_until → h.asks u ≡ Some look → IsEarly h p lh lp n u t c look l

  -- the reference continues as it would after them
  host_saw : (c : State) {safe_until : ℕ} {last u : S} (t : T) (l : List Event) → IsEarlyLook safe_until t c → Glances h n (shown_lines (lines_of c) safe_until) last u
      → IsLike (onward r u t c l) (onward r last t c l)
  host_saw c t l early Here = alike refl
  host_saw c t l early (Past {s = u} low is on) =
      like_on (alike (host_silent h p lh lp n 0 u t c l (omega arith) (omega arith) is)) (host_saw c t l early on)
  host_saw c t l early (Seeing {s = u} low is before on) =
      like_on (early u l low before is) (like_on (like_ticks h p lh lp n 0 _ t c _ l (no_access l _ _)) (host_saw c t l early on))

-- ---- The parasite where the reference is

module _ {S T : Type 0} {r : Run S T} where
  open r use {h, p, lh, lp, n, few, keep, w0}

  pub stands : {from : Mark T} {ask_h ask_p : Ask} {a : Part S} {b : Part T} {t : T} {c : State} → IsAt r ask_h a b c → IsAsk p n b.state ask_p t
      → IsGoing r false from ask_h ask_p a (moved b t) c
  stands {b = b} at asked =
      record {
        mark = b;
        last = b.state;
        entries = [];
        far = 0;
        at = at;
        way = no_way;
        asked = asked;
        list_is = refl;
        count_is = omega arith;
        here = λ _. refl;
        back = λ is. cc;
      }

  pub begins : {from : Mark T} {ask_h ask_p : Ask} {a : Part S} {b : Part T} {c : State} → Advances h n w0.host ask_h a.state → Advances p n w0.para ask_p b.state
      → c ≡ w0.chip → IsKept Host w0.list keep a.list a.count → IsKept Para w0.list keep b.list b.count → a.count ≤ few → b.count ≤ few
      → IsGoing r false from ask_h ask_p a b c
  begins {a = a} {b = b} ah bp ec kh kp fh fp =
      stands {b = moved b bp.last}
      (record {
        host_last = ah.last;
        events = w0.list;
        host_asked = ah.asked;
        same = alike (
            silent_host r (steps_of h Host n ah.steps ah.runs) refl w0.para w0.chip w0.list
            ∙ silent_para r (steps_of p Host n bp.steps bp.runs) refl ah.last w0.chip w0.list
            ∙ ap (λ x. onward r ah.last bp.last x w0.list) (sym ec));
        host_kept = kh;
        para_kept = kp;
        host_few = omega arith;
        para_few = omega arith;
      }) bp.asked

  -- the parasite's steps ahead are the reference's, if the host's next step does not come before
  -- what it asks
  pub catch_up : {far : ℕ} {ask_h : Ask} {a : Part S} {mark : Part T} {last : T} {c : State} {list entries : List Entry} {count : ℕ}
      (w : IsAt r ask_h a mark c) (way : IsWay p n far c mark.state last entries)
      → ((x : ℕ) → x < n → x < far → x < p.due last → x < h.due w.host_last)
      → list ≡ note_all_leaves keep mark.list entries → count ≡ mark.count + length entries
      → IsAt r ask_h a (part last list count) c
  catch_up {mark = mark} {c = c} w way first list_is count_is =
      let execution = execution_of p lp n way.runs in
      let own = all_own way.events (λ k e low. (execution.each k e low).0) in
      record {
        host_last = w.host_last;
        events = w.events ++ way.events;
        host_asked = w.host_asked;
        same = like_on w.same (alike (para_does h p lh lp n w.host_last c w.events way.runs way.idle
            (λ k e low. first _ (execution.each k e low).1 (way.early k e low) (execution.each k e low).2)));
        host_kept = kept_beside way.events (ap accesses own.1) w.host_kept;
        para_kept =
            moved_kept (list_is ∙ ap (note_all_leaves keep mark.list) (sym way.noted)) (count_is ∙ ap (λ x. mark.count + length x) (sym way.noted))
            (rw own.0 at (kept_more way.events w.para_kept));
        host_few = w.host_few;
        para_few = omega (arith, w.para_few, execution.few, count_is, ap length way.noted);
      }

  -- so are the parasite's looks that are safe by what the host asks
  pub goes_along : {until : ℕ} {ask_h : Ask} {a : Part S} {b : Part T} {c : State} {last : T} → IsAt r ask_h a b c → IsSafe 0 ask_h until
      → Glances p n (shown_lines (lines_of c) until) last b.state → IsAt r ask_h a (moved b last) c
  goes_along {until} {ask_h} {a} w told looks =
      catch_up w (way_of_looks looks) (λ x low early _. omega (arith, in_time h n 0 until a.state w.host_last ask_h w.host_asked told x low early)) refl
      (omega arith)

  -- and all its steps ahead, if the host's step does not come first
  pub settled : {ahead : Bool} {from : Mark T} {ask_h ask_p : Ask} {a : Part S} {b : Part T} {c : State} (w : IsGoing r ahead from ask_h ask_p a b c)
      → first_of ask_h ask_p ≢ Some Host → IsAt r ask_h a (moved b w.last) c
  settled {ask_h = ask_h} {ask_p} {a} {b} w never =
      catch_up w.at w.way (λ x low _ early. not_first h p n a.state w.at.host_last b.state w.last ask_h ask_p w.at.host_asked w.asked never x low early)
      w.list_is w.count_is

  -- the parasite continues from there, and is ahead, or where the reference is
  pub goes_on : {from : Mark T} {ask_h ask_p : Ask} {a : Part S} {mark b : Part T} {last : T} {c : State} {far : ℕ} {entries : List Entry} (ahead : Bool)
      (w : IsAt r ask_h a mark c) (way : IsWay p n far c mark.state last entries) → IsAsk p n last ask_p b.state
      → b.list ≡ note_all_leaves keep mark.list entries → b.count ≡ mark.count + length entries
      → (ahead ≡ true → (mark.state ≡ from.state) × (length mark.list ≡ from.len) × (mark.count ≡ from.count))
      → (ahead ≡ false → (x : ℕ) → x < n → x < far → x < h.due w.host_last)
      → IsGoing r ahead from ask_h ask_p a b c
  goes_on {mark = mark} {last = last} {far = far} {entries} true w way asked list_is count_is back first =
      record {
        mark = mark;
        last = last;
        entries = entries;
        far = far;
        at = w;
        way = way;
        asked = asked;
        list_is = list_is;
        count_is = count_is;
        here = λ is. cc;
        back = back;
      }
  goes_on {b = b} {last = last} false w way asked list_is count_is back first =
      stands {b = moved b last} (catch_up w way (λ x low early _. first refl x low early) list_is count_is) asked

  -- the reference is where the parasite is rolled back to
  pub rolled_back : {ahead : Bool} {from : Mark T} {ask_h ask_p : Ask} {a : Part S} {b : Part T} {c : State} {list : List Entry} {count : ℕ}
      → IsGoing r ahead from ask_h ask_p a b c → ahead ≡ true → list ≡ take from.len b.list → count ≡ from.count
      → IsAt r ask_h a (part from.state list count) c
  rolled_back {b = b} {list = list} w is list_is count_is =
      let back = w.back is in
      let same : list ≡ w.mark.list =
      list_is ∙ ap (λ x. take x b.list) (sym back.1) ∙ ap (take (length w.mark.list)) w.list_is ∙ cut_back keep w.mark.list w.entries in
      rw (same, count_is ∙ sym back.2, ← back.0) w.at

  -- the parasite's step
  pub para_step : {ask_h ask_p : Ask} {a : Part S} {b b2 : Part T} {last : T} {c c2 : State} (w : IsAt r ask_h a (moved b last) c)
      → IsFirst p h n 1 b.state last w.host_last ask_p → Acts p Para keep (seated b c) (seated b2 c2) → IsAt r ask_h a b2 c2
  para_step {b = b} {c = c} {c2 = c2} w f d =
      let t = b.state in
      let x : Answer = (act c Para d.query).1 in
      let here = ap p.due f.here in
      let up = lp.rises t (Some x) in
      let to = ap p.due d.state_is in
      let one = at_most_one (p.due t) Para d.query x in
      let more : List Event = event (p.due t) Para d.query x ∷ [] in
      record {
        host_last = w.host_last;
        events = w.events ++ more;
        host_asked = w.host_asked;
        same =
            like_on w.same (alike (
            ap (λ z. onward r w.host_last z c w.events) (sym f.here)
            ∙ para_next h p lh lp n 0 w.host_last t c w.events (omega arith) (omega (arith, f.below)) (omega (arith, f.first))
            ∙ ap (λ o. ticks h p n 0 (with_host w.host_last (step_leaves p Para (seat t c w.events) o))) d.asks
            ∙ ap (λ z. onward r w.host_last (p.next t (Some x)) z (w.events ++ more)) (sym d.chip_is)
            ∙ ap (λ z. onward r w.host_last z c2 (w.events ++ more)) (sym d.state_is)));
        host_kept = kept_beside more refl w.host_kept;
        para_kept = moved_kept d.list_is d.count_is (kept_own Para (p.due t) d.query x w.para_kept);
        host_few = w.host_few;
        para_few = omega (arith, w.para_few, d.count_is);
      }

  -- ---- The end

  pub finishes : {ahead : Bool} {from : Mark T} {ask_h ask_p : Ask} {a : Part S} {b : Part T} {c : State} → IsGoing r ahead from ask_h ask_p a b c
      → first_of ask_h ask_p ≡ None → IsPlayed (reference_from h p w0 n) keep (left_as a b c)
  finishes {ask_h = ask_h} {ask_p} {a} {b} {c} w e =
      let none = none_left ask_h ask_p e in
      let at : IsAt r ask_h a (moved b w.last) c = settled w (λ x. cc) in
      let ah : IsAsk h n at.host_last Nothing a.state = subst (λ x. IsAsk h n at.host_last x a.state) none.0 at.host_asked in
      let bp : IsAsk p n w.last Nothing b.state = rw none.1 at w.asked in
      let x : IsLike (ticks h p n 0 w0) (world at.host_last w.last c at.events) =
      like_on at.same (alike (rest h p lh lp n 0 at.host_last w.last c at.events (omega (arith, ah.0)) (omega (arith, bp.0)))) in
      record {
        host_is = ah.1 ∙ ap (λ z. close_leaves h z n) (sym x.host);
        para_is = bp.1 ∙ ap (λ z. close_leaves p z n) (sym x.para);
        chip_is = sym x.chip;
        host_kept = kept_alike (sym (x.listed Host)) at.host_kept;
        para_kept = kept_alike (sym (x.listed Para)) at.para_kept;
      }

-- ---- The host's turn

module _ {S T : Type 0} {r : Run S T} {ahead : Bool} {from : Mark T} {ask_h ask_p : Ask} {a a2 : Part S} {b : Part T} {c c2 : State} {last : S} {safe_until : ℕ}
    (ask2 : Ask) (s3 : S) (w : IsGoing r ahead from ask_h ask_p a b c) (e : first_of ask_h ask_p ≡ Some Host) (d : Acts r.h Host r.keep (seated a c) (seated a2 c2))
    (looks : Glances r.h r.n (shown_lines (lines_of c2) safe_until) last a2.state) (asked : IsAsk r.h r.n last ask2 s3) where
  open r use {h, p, lh, lp, n}

  first : IsFirst h p n 0 a.state w.at.host_last w.last ask_h
  first = host_first h p n a.state w.at.host_last b.state w.last ask_h ask_p w.at.host_asked w.asked e

  rises : h.due a.state < h.due last
  rises =
      let up = lh.rises a.state (Some (act c Host d.query).1) in
      let to = ap h.due d.state_is in
      let on = glances_rise lh looks in
      omega arith

  -- what the parasite saw stays
  still_idle : (is_read : Bool) → (is_read ≡ false → ahead ≡ true → b.count ≡ from.count) → (ahead ≡ true → StaysSeen is_read c c2) → All (IsIdle c2) w.way.events
  still_idle is_read none stays = by ahead refl
    where
      by : (x : Bool) → ahead ≡ x → All (IsIdle c2) w.way.events
      by false is = rw (w.here is) (All-nil (IsIdle c2))
      by true is = seen_still is_read c c2 (stays is).0 (stays is).2 w.way.events w.way.idle
          (λ er. w.way.noted ∙ none_of w.entries (omega (arith, w.count_is, (w.back is).2, none er is)))

  -- so its looks may be done at once if they come in time, or see its own request alone
  early_look : All (IsIdle c2) w.way.events → IsSeen h c2 ask_p safe_until → IsEarlyLook r safe_until w.mark.state c2
  early_look still (inl told) = λ u l low early asks.
      early_host h p lh lp n u c2 look l low (omega (arith, in_time p n 1 safe_until b.state w.last ask_p w.asked told (h.due u) low early)) asks w.way.runs still still
  early_look still (inr free) = λ u l low early asks. free_look h p lh lp n u w.mark.state c2 l free.0 free.1 low asks

  pub host_goes : (is_read : Bool) → (is_read ≡ false → ahead ≡ true → b.count ≡ from.count) → (ahead ≡ true → StaysSeen is_read c c2) → IsSeen h c2 ask_p safe_until
      → IsGoing r ahead from ask2 ask_p (moved a2 s3) b c2
  host_goes is_read none stays seen =
      let s = a.state in
      let t = w.mark.state in
      let still = still_idle is_read none stays in
      let x : Answer = (act c Host d.query).1 in
      let more : List Event = event (h.due s) Host d.query x ∷ [] in
      let done : List Event = w.at.events ++ more in
      let here = ap h.due first.here in
      let one = at_most_one (h.due s) Host d.query x in
      record {
        mark = w.mark;
        last = w.last;
        entries = w.entries;
        far = w.far;
        at = record {
          host_last = last;
          events = done;
          host_asked = asked;
          same =
              like_on w.at.same
              (like_on (alike (ap (λ z. onward r z t c w.at.events) (sym first.here)))
              (like_on (early_host h p lh lp n s c d.query w.at.events (omega (arith, first.below)) (omega (arith, first.first)) d.asks w.way.runs w.way.idle
              (rw d.chip_is at still))
              (like_on (alike (ap (λ z. onward r (h.next s (Some x)) t z done) (sym d.chip_is) ∙ ap (λ z. onward r z t c2 done) (sym d.state_is)))
              (host_saw r c2 t done (early_look still seen) looks))));
          host_kept = moved_kept d.list_is d.count_is (kept_own Host (h.due s) d.query x w.at.host_kept);
          para_kept = kept_beside more refl w.at.para_kept;
          host_few = omega (arith, w.at.host_few, d.count_is, rises);
          para_few = w.at.para_few;
        };
        way = record { events = w.way.events; runs = w.way.runs; idle = still; early = w.way.early; noted = w.way.noted };
        asked = w.asked;
        list_is = w.list_is;
        count_is = w.count_is;
        here = w.here;
        back = w.back;
      }

  pub host_smaller : ticks_left n ask2 < ticks_left n ask_h
  host_smaller =
      omega (
        arith,
        first.below,
        ap h.due first.here,
        rises,
        ticks_are h n w.at.host_last a.state ask_h w.at.host_asked,
        ticks_are h n last s3 ask2 asked,
      )

-- ---- The parasite's turn

module _ {S T : Type 0} {r : Run S T} {ahead : Bool} {from : Mark T} {ask_h ask_p : Ask} {a : Part S} {b : Part T} {c : State}
    (w : IsGoing r ahead from ask_h ask_p a b c) (e : first_of ask_h ask_p ≡ Some Para) where
  open r use {h, p, lp, n, few, keep}

  para_settled : IsAt r ask_h a (moved b w.last) c
  para_settled = settled w (λ x. cc)

  para_is_first : IsFirst p h n 1 b.state w.last para_settled.host_last ask_p
  para_is_first = para_first h p n a.state para_settled.host_last b.state w.last ask_h ask_p para_settled.host_asked w.asked e

  -- there are fewer accesses than ticks
  pub para_count : b.count < few + n
  para_count = omega (arith, para_settled.para_few, para_is_first.below)

  pub para_turns : {b2 : Part T} {c2 : State} → Acts p Para keep (seated b c) (seated b2 c2) → IsAt r ask_h a b2 c2
  para_turns d = para_step para_settled para_is_first d

  -- what is left gets less
  pub para_smaller : {b2 : Part T} {c2 : State} → Acts p Para keep (seated b c) (seated b2 c2) → (ahead2 : Bool) (mark2 : T) (ask2 : Ask)
      → (ahead2 ≡ true → p.due b2.state ≤ p.due mark2)
      → (ahead2 ≡ false → (last : T) × (new : T) × (p.due b2.state ≤ p.due last) × IsAsk p n last ask2 new)
      → rest_of p n ahead2 mark2 ask2 < rest_of p n ahead from.state ask_p
  para_smaller {b2} d ahead2 mark2 ask2 far near =
      let before = old ahead refl in
      let after = new ahead2 refl in
      omega arith
    where
      up : p.due b.state < p.due b2.state
      up = let more = lp.rises b.state (Some (act c Para d.query).1) in let to = ap p.due d.state_is in omega arith

      low : p.due b.state < n
      low = omega (arith, ap p.due para_is_first.here, para_is_first.below)

      old : (x : Bool) → ahead ≡ x → (n - p.due b.state) + (n - p.due b.state) ≤ rest_of p n x from.state ask_p
      old false is = omega (arith, ap p.due para_is_first.here, ticks_are p n w.last b.state ask_p w.asked)
      old true is = omega (arith, ap p.due para_is_first.here, ap p.due (w.back is).0, (execution_of p lp n w.way.runs).few)

      new : (x : Bool) → ahead2 ≡ x → rest_of p n x mark2 ask2 < (n - p.due b.state) + (n - p.due b.state)
      new true is = omega (arith, up, low, far is)
      new false is = let at = near is in omega (arith, up, low, at.2, ticks_are p n at.0 at.1 ask2 at.3)
