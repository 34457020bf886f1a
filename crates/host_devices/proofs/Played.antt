-- The tables of keys and levels, by the events of a script.
use Rattle.std.proofs.Common.{◌≡◌, ◌∙◌, sym, refl, ap, ℕ, ◌+◌, ◌<◌, ◌≤◌, ◌==◌, zero, suc, Bool, false}
use Rattle.std.proofs.Common.{cond, List, [], ◌∷◌, ◌++◌, replicate, length, drop, get_or, Option, Some, None, if◌then◌else◌, arith}
use Rattle.std.proofs.lemmas.Bool.{ne_eqb, eq-eqb, le-leb, lt-leb}
use Rattle.std.proofs.lemmas.List.{drop_more, append_assoc, append-nil, get_or-set_same, get_or-set_other}
use Rattle.std.proofs.lemmas.List.Sums.{sum_by-append}
use Rattle.std.specs.Prelude.{unwrap_or, slice_set}
use Rattle.beeb_bits.specs.Zeros.{zeros, zeros-at}
use Rattle.keyboard.specs.Keys.{Keys, keys_of}
use Rattle.key_script.specs.declared.Event.{Event}
use Rattle.key_script.specs.declared.What.{What}
use Rattle.key_script.specs.declared.What.TheVariants.{Down, Up, Level}
use Rattle.key_script.specs.Events.{tick_of, is_shot, shots, NeverFallsFrom, IsInRange}
use Rattle.key_script.specs.Last.{said_by, or_earlier, last_said}
use Rattle.key_script.specs.Keys.{made_of}
use Rattle.key_script.specs.Levels.{level_given}
use Rattle.host_devices.specs.Devices.{keys_at, levels_at}
use Rattle.host_devices.specs.Shots.{shots_at, shot_at}
use Rattle.host_devices.specs.CodePlayback.{keys_after, level_turned, level_of, IsLeft, HasLeft, IsPlayed}
use Rattle.host_devices.specs.declared.playback.Playback.{Playback}

-- ticks that never fall from a tick on do not fall from an earlier one on
pub not-before : {from t : ℕ} (left : List Event) → NeverFallsFrom from left → t ≤ from → NeverFallsFrom t left
not-before [] later low = later
not-before (e ∷ left) later low = (omega (arith, later.0, low), later.1)

-- no event has a value before the first one
pub none-said : {A : Type 0} (kind : What → Option A) (first k : ℕ) (left : List Event) → NeverFallsFrom first left → k < first → last_said kind k left ≡ None
none-said kind first k [] later low = refl
none-said kind first k (e ∷ left) later low =
    rw (none-said kind (tick_of e) k left later.1 (omega (arith, later.0, low)), lt-leb (tick_of e) k (omega (arith, later.0, low)))

-- the state of a key by an event, or otherwise by the table, is that of the table after the event
pub key-or : (what : What) (keys : Keys) (key : ℕ) → unwrap_or (made_of key what) (keys key) ≡ keys_after what keys key
key-or (Down k) keys key = grind arith
key-or (Up k) keys key = grind arith
key-or _ keys key = refl

-- the level of a channel, likewise
set-or : (levels : List ℕ) {c : ℕ} (level i : ℕ) → c < length levels → unwrap_or (if c == i then Some level else None) (level_of levels i) ≡ level_of (slice_set levels c level) i
set-or levels {c} level i low = grind (arith, get_or-set_same levels c level 0 low, get_or-set_other levels c i level 0)

pub level-or : (what : What) (levels : List ℕ) (i : ℕ) → IsInRange what → length levels ≡ 4 → unwrap_or (level_given i what) (level_of levels i) ≡ level_of (level_turned what levels) i
level-or (Level c level) levels i low four = set-or levels level i (omega (arith, low, four))
level-or _ levels i low four = refl

or-both : {A : Type 0} (a b : Option A) (d : A) → unwrap_or (or_earlier a b) d ≡ unwrap_or a (unwrap_or b d)
or-both (Some last) b d = refl
or-both None b d = refl

module _ {A : Type 0} (kind : ℕ → What → Option A) (first : A) (script : List Event) where
  -- one more event is done, and changes the table
  pub left-more : {place : ℕ} (d : Event) (table : ℕ → A) {on : ℕ → A} {t : ℕ} → place < length script → tick_of (get_or script place d) + 1 ≡ t →
      ((i : ℕ) → unwrap_or (kind i ((get_or script place d).what)) (table i) ≡ on i) → IsLeft kind first script (drop place script) table t →
      IsLeft kind first script (drop (place + 1) script) on t
  left-more {place} d table low at turns left = λ k i late.
      let e = get_or script place d in
      let rest = drop (place + 1) script in
      let now : said_by (kind i) k e ≡ kind i e.what = ap (λ (b : Bool). if b then kind i e.what else None) (le-leb (tick_of e) k (omega (arith, at, late))) in
      rw (drop_more script place d low, or-both (last_said (kind i) k rest) (said_by (kind i) k e) (table i), now, turns i) at (left k i late)

  -- for later ticks
  pub left-later : (left : List Event) (table : ℕ → A) {t u : ℕ} → IsLeft kind first script left table t → t ≤ u → IsLeft kind first script left table u
  left-later left table h low = λ k i late. h k i (omega (arith, late, low))

  -- from the last tick that is done up to the next event the table has the state of each key or
  -- channel
  said-is : (left : List Event) (table : ℕ → A) (t k event : ℕ) → IsLeft kind first script left table t → NeverFallsFrom event left → t ≤ k + 1 → k < event →
      (i : ℕ) → table i ≡ unwrap_or (last_said (kind i) k script) first
  said-is left table t k event h later late early = λ i. sym (rw (none-said (kind i) event k left later early) at (h k i late))

-- no level is given yet
pub no-level : (channel : ℕ) → level_of (replicate 4 0) channel ≡ 0
unfolding zeros
no-level channel = zeros-at 4 channel

four-levels : (levels : List ℕ) → length levels ≡ 4 → levels ≡ level_of levels 0 ∷ level_of levels 1 ∷ level_of levels 2 ∷ level_of levels 3 ∷ []
four-levels (a ∷ b ∷ c ∷ d ∷ []) four = refl
four-levels _ four = absurd (omega (arith, four))

-- the keys and the levels are then those of the tables
pub stay : {p : Playback} {t : ℕ} (k : ℕ) → IsPlayed p t → t ≤ k + 1 → k < p.event → (keys_of p.keys ≡ keys_at k p.script) × (p.levels ≡ levels_at k p.script)
stay {p} {t} k h late early =
    let left = drop p.place p.script in
    let level = said-is level_given 0 p.script left (level_of p.levels) t k p.event h.at_level h.later late early in (
      λ i. λ key. said-is made_of false p.script left (keys_of p.keys) t k p.event h.is_left h.later late early key i,
      four-levels p.levels h.four ∙ rw (level 0, level 1, level 2, level 3) refl,
    )

-- no shot comes before the first event
pub no-shots : {first k : ℕ} (left : List Event) → NeverFallsFrom first left → k < first → shots_at k left ≡ zero
no-shots [] later low = refl
no-shots {k} (e ∷ left) later low =
    rw (ne_eqb (tick_of e) k (λ same. omega (arith, same, later.0, low))) (no-shots left later.1 (omega (arith, later.0, low)))

-- no shot is between two ticks
abbrev pub HasNone : List Event → ℕ → ℕ → Type 0
HasNone script from to = (k : ℕ) → from ≤ k → k < to → shots_at k script ≡ 0

pub none-between : {p : Playback} {t : ℕ} (next : ℕ) → IsPlayed p t → next ≤ p.event → HasNone p.script t next
none-between {p} next h low = λ k from to. h.has_left k from ∙ no-shots (drop p.place p.script) h.later (omega (arith, to, low))

-- one more event is done, and its frame is taken if it is a shot
shot-by : (shot : Bool) (n : ℕ) (frame : List ℕ) (old : List (List ℕ)) → (if shot then old ++ frame ∷ [] else old) ++ replicate n frame ≡ old ++ replicate (if shot then suc n else n) frame
shot-by shot n frame old = grind (arith, append_assoc old (frame ∷ []) (replicate n frame))

-- The invariant of the frames during the events of tick k: the frames taken, with those of tick k
-- that are left, are all of that tick.
pub record AreTaken (script : List Event) (place k : ℕ) (frame : List ℕ) (so_far all : List (List ℕ)) : Type 0 where
  pub has_left : HasLeft script (drop place script) (k + 1)
  pub taken : shot_at k (drop place script) frame so_far ≡ all

pub taken-more : {script : List Event} {place k : ℕ} (d : Event) {frame : List ℕ} {old new all : List (List ℕ)} → place < length script → tick_of (get_or script place d) ≡ k →
    new ≡ (if is_shot (get_or script place d) then old ++ frame ∷ [] else old) → AreTaken script place k frame old all → AreTaken script (place + 1) k frame new all
taken-more {script} {place} {k} d {frame} {old} low at is so =
    let e = get_or script place d in
    record {
      has_left = λ i late. rw (drop_more script place d low, ne_eqb (tick_of e) i (λ same. omega (arith, same, at, late))) at (so.has_left i late);
      taken = rw is (shot-by (is_shot e) (shots_at k (drop (place + 1) script)) frame old ∙ (rw (drop_more script place d low, eq-eqb (tick_of e) k at) at so.taken));
    }

-- there is memory for the shots after it
pub room-more : (script : List Event) {place : ℕ} (d : Event) {old new : ℕ} → place < length script → new + shots (get_or script place d ∷ []) ≡ old →
    shots (drop place script) ≤ old → shots (drop (place + 1) script) ≤ new
room-more script {place} d low took room =
    let e = get_or script place d in
    let rest = drop (place + 1) script in
    let all : shots (drop place script) ≡ shots (e ∷ []) + shots rest = rw (drop_more script place d low) (sum_by-append (λ (x : Event). cond (is_shot x) 1 0) (e ∷ []) rest) in
    omega (arith, all, took, room)

-- all shots of a tick are done
pub all-shot : (left : List Event) (k : ℕ) (frame : List ℕ) {new all : List (List ℕ)} → NeverFallsFrom (k + 1) left → new ++ replicate (shots_at k left) frame ≡ all → new ≡ all
all-shot left k frame {new} later so = rw (no-shots {k = k} left later (omega arith), append-nil new) at so

-- a tick before the next event
pub played-later : {p : Playback} {t : ℕ} (u : ℕ) → IsPlayed p t → t ≤ u → u ≤ p.event → IsPlayed p u
played-later {p} u h low high = record {
  within = h.within;
  room = h.room;
  has_left = λ k late. h.has_left k (omega (arith, late, low));
  is_left = left-later made_of false p.script (drop p.place p.script) _ h.is_left low;
  at_level = left-later level_given 0 p.script (drop p.place p.script) _ h.at_level low;
  four = h.four;
  later = h.later;
  early = high;
}
