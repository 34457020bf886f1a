-- The steps of the board's code, as closing.
use Rattle.std.proofs.Common.{◌≡◌, ◌∙◌, sym, refl, ap, inl, inr, ◌⊎◌, ℕ, zero, suc, ◌+◌, ◌-◌, ◌*◌, ◌/◌, ◌<◌, ◌≤◌, ◌%◌, subst}
use Rattle.std.proofs.Common.{Bool, min, max, List, arith}
use Rattle.std.proofs.lemmas.Bool.{cases_lt, eq-eqb, ne_eqb}
use Rattle.std.proofs.Math.Nat.{add-mod_right, lt_of_mul-lt-mul_right}
use Rattle.std.proofs.lemmas.Grind.{div_ceil_times}
use Rattle.std.proofs.lemmas.List.{append-nil}
use Rattle.beeb_bits.specs.Clock.{micro}
use Rattle.beeb_bits.specs.declared.clock.Clock.{Clock}
use Rattle.keyboard.specs.Keys.{Keys, keys_of}
use Rattle.host_devices.specs.Devices.{keys_at, levels_at, microsecond, microseconds}
use Rattle.host_devices.specs.Apart.{AreCalm}
use Rattle.host_devices.specs.Shots.{shots_at}
use Rattle.host_bus.specs.Board.{BoardState, Around, Moving, around, moving_part, closed_with, tick, ticks, board_closed, board_irq, board_nmis}
use Rattle.host_bus.specs.CodeBoard.{board_seen, IsValid}
use Rattle.host_bus.specs.Lag.{IsCalm}
use Rattle.host_devices.specs.CodePlayback.{IsPlayed, IsOnTime}
use Rattle.host_bus.specs.Closing.{ticks-add, board-again, board-still}
use Rattle.host_bus.specs.declared.board.Board.TheInside.{Inside}
use Rattle.host_devices.specs.declared.playback.Playback.{Playback}
use Rattle.host_devices.proofs.Beats.{apart, next-one, some-micro}
use Rattle.host_devices.proofs.Heard.{in-time-later}
use Rattle.host_devices.proofs.Played.{HasNone, none-between, played-later, stay}

-- before the next microsecond or event there is no shot
pub quiet : {p : Playback} {u closed next : ℕ} → IsPlayed p closed → IsOnTime u closed p.event next → HasNone p.script closed next
quiet {next} played h = none-between next played (omega (arith, h.least))

-- nothing happens in ticks before the next microsecond and the next event
module _ (a : Around) {closed event next : ℕ} (h : IsOnTime (micro a.clock) closed event next) (none : HasNone a.script closed next) where
  idle-tick : (k : ℕ) (m : Moving) → closed ≤ k → k < next → tick a k m ≡ m
  idle-tick k m low high =
      let within : k % micro a.clock ≡ 0 → ⊥ = λ z. omega (arith, apart (micro a.clock) k h.step z h.begins (omega (arith, h.least, high)), h.near, low) in
      rw (none k low high, append-nil m.shots, ne_eqb (k % micro a.clock) 0 within) refl

  pub idle : (n k : ℕ) (m : Moving) → closed ≤ k → k + n ≤ next → ticks a n k m ≡ m
  idle zero k m low high = refl
  idle (suc n) k m low high = rw (idle-tick k m low (omega (arith, high))) (idle n (k + 1) m (omega (arith, low)) (omega (arith, high)))

pub still-on-time : {u closed event next : ℕ} (t : ℕ) → IsOnTime u closed event next → closed ≤ t → t ≤ next → IsOnTime u t event next
still-on-time t h low high = record { step = h.step; begins = h.begins; first = omega (arith, h.least, high); near = omega (arith, low, h.near); least = h.least }

-- a board closed before the next microsecond or event is valid, and contracts see it as closed
pub valid-later : {b : Inside} (t : ℕ) → IsValid b → b.closed ≤ t → t ≤ b.next → IsValid (record b { closed = t })
valid-later {b} t h low high = record {
  stored = h.stored;
  played = played-later t h.played low (omega (arith, h.on_time.least, high));
  on_time = still-on-time t h.on_time low high;
  next_break = h.next_break;
  in_time = in-time-later t h.in_time low;
}

-- a board whose devices did the ticks after those that are closed
pub gone : (b : BoardState) (u : ℕ) (m : Moving) → b.closed ≤ u → m ≡ ticks (around b) (u - b.closed) b.closed (moving_part b) → closed_with b u m ≡ board_closed b u
gone b u m low is =
    let most : max u b.closed ≡ u = omega (arith, low) in
    rw (is, most) refl

pub seen-later : {b : Inside} (t : ℕ) → IsValid b → b.closed ≤ t → t ≤ b.next → board_seen (record b { closed = t }) ≡ board_closed (board_seen b) t
seen-later {b} t h low high =
    gone (board_seen b) t (moving_part (board_seen b)) low
    (sym (idle (around (board_seen b)) h.on_time (quiet h.played h.on_time) (t - b.closed) b.closed _ (omega arith) (omega (arith, low, high))))

-- no ticks, or equal ones
shifted : (a : Around) (n j k : ℕ) (m : Moving) → (n ≡ 0) ⊎ (j ≡ k) → ticks a n j m ≡ ticks a n k m
shifted a n j k m (inl none) = rw none refl
shifted a n j k m (inr same) = rw same refl

module _ (a : Around) (to : ℕ) where
  -- a tick that is a microsecond and has no shot
  beat-tick : (k : ℕ) (m : Moving) → k % micro a.clock ≡ 0 → shots_at k a.script ≡ 0 →
      tick a k m ≡ record m { devices = microsecond a.ram a.font (keys_at k a.script) (levels_at k a.script) m.devices }
  beat-tick k m begins none = rw (none, append-nil m.shots, eq-eqb (k % micro a.clock) 0 begins) refl

  -- the ticks from a microsecond on, up to the next
  one-beat : (k : ℕ) (m : Moving) → k % micro a.clock ≡ 0 → HasNone a.script k to → k < to →
      ticks a (to - k) k m
      ≡ ticks a (to - (k + micro a.clock)) (k + micro a.clock) (record m { devices = microsecond a.ram a.font (keys_at k a.script) (levels_at k a.script) m.devices })
  one-beat k m begins none low =
      let u = micro a.clock in
      let some = some-micro a.clock in
      let behind = min (k + u) to in
      let next : Moving = record m { devices = microsecond a.ram a.font (keys_at k a.script) (levels_at k a.script) m.devices } in
      let first : to - k ≡ suc (to - (k + 1)) = omega (arith, low) in
      let parts : to - (k + 1) ≡ (behind - (k + 1)) + (to - (k + u)) = omega (arith, low, some) in
      let still = idle a (next-one u k to behind some begins refl) (λ i late high. none i (omega (arith, late)) (omega (arith, high)))
      (behind - (k + 1)) (k + 1) next (omega arith) (omega (arith, low, some)) in
      ap (λ (n : ℕ). ticks a n k m) first
      ∙ ap (λ (x : Moving). ticks a (to - (k + 1)) (k + 1) x) (beat-tick k m begins (none k (omega arith) low))
      ∙ ap (λ (n : ℕ). ticks a n (k + 1) next) parts
      ∙ sym (ticks-add a (behind - (k + 1)) (to - (k + u)) (k + 1) next)
      ∙ ap (λ (x : Moving). ticks a (to - (k + u)) ((k + 1) + (behind - (k + 1))) x) still
      ∙ shifted a (to - (k + u)) ((k + 1) + (behind - (k + 1))) (k + u) next (elim (cases_lt to (k + u)) [
        | inl less ↦ inl (omega (arith, less))
        | inr more ↦ inr (omega (arith, more, some))
      ])

  -- Ticks from a microsecond on, up to a tick. Before that tick n microseconds begin, there is no
  -- shot, and keys and levels do not change.
  microseconds_in : (n k : ℕ) {keys : Keys} {levels : List ℕ} (m : Moving) → k % micro a.clock ≡ 0 → HasNone a.script k to →
      ((i : ℕ) → k ≤ i → i < to → (keys ≡ keys_at i a.script) × (levels ≡ levels_at i a.script)) →
      to ≤ k + n * micro a.clock → k + n * micro a.clock < to + micro a.clock →
      ticks a (to - k) k m ≡ record m { devices = microseconds a.ram a.font keys levels n m.devices }
  microseconds_in zero k m begins none are all no_more =
      let nothing : 0 * micro a.clock ≡ 0 = omega arith in
      let over : to - k ≡ 0 = omega (arith, all, nothing) in
      rw over refl
  microseconds_in (suc n) k {keys} {levels} m begins none are all no_more =
      let u = micro a.clock in
      let more : suc n * u ≡ n * u + u = grind arith in
      let low : k < to = omega (arith, more, no_more) in
      let (typed, set) = are k (omega arith) low in
      rw (one-beat k m begins none low, ← typed, ← set)
      (microseconds_in n (k + u) (record m { devices = microsecond a.ram a.font keys levels m.devices }) (add-mod_right k u ∙ begins)
      (λ i late high. none i (omega (arith, late)) high) (λ i late high. are i (omega (arith, late)) high) (omega (arith, more, all)) (omega (arith, more, no_more)))

-- these ticks before the next event
pub microseconds_in-played : (a : Around) (n : ℕ) {k : ℕ} (to : ℕ) (p : Playback) (m : Moving) → a.script ≡ p.script → IsPlayed p k → k % micro a.clock ≡ 0 → to ≤ p.event →
    to ≤ k + n * micro a.clock → k + n * micro a.clock < to + micro a.clock →
    ticks a (to - k) k m ≡ record m { devices = microseconds a.ram a.font (keys_of p.keys) p.levels n m.devices }
microseconds_in-played a n {k} to p m same h begins early all no_more =
    microseconds_in a to n k m begins (rw same (none-between to h early))
    (λ i late high. rw same (stay i h (omega (arith, late)) (omega (arith, high, early))))
    all no_more

-- a board that was closed before t first
pub caught : (b : BoardState) {x all : BoardState} (u t : ℕ) → x ≡ board_closed b u → u ≤ t → board_closed b t ≡ all → board_closed x t ≡ all
caught b u t is high so = rw is (board-again b u t high ∙ so)

-- the number of microseconds that begin in a span of ticks
how-many : (clock : Clock) (span n : ℕ) → span ≤ n * micro clock → (m : ℕ) × (m ≤ n) × (span ≤ m * micro clock) × (m * micro clock < span + micro clock)
how-many clock span n few =
    let u = micro clock in
    let m = span / u + min 1 (span % u) in
    let some = some-micro clock in
    let (all, no_more) = div_ceil_times span u some in
    let sum : (n + 1) * u ≡ n * u + u = grind arith in
    let less : m < n + 1 = lt_of_mul-lt-mul_right u (omega (arith, no_more, few, sum)) in
    (m, omega (arith, less), all, no_more)

-- the lines to the processor
abbrev lines : BoardState → Bool × ℕ
lines s = (board_irq s, board_nmis s)

-- the lines of a board that is closed at the next microsecond, after it is closed further
later-lines : {b : Inside} {n t : ℕ} → IsValid b → b.closed ≡ b.next → b.next < t → t ≤ b.playback.event → t - b.next ≤ n * micro b.clock →
    AreCalm (keys_of b.playback.keys) n (board_seen b).devices → lines (board_closed (board_seen b) t) ≡ lines (board_seen b)
later-lines {b} {n} {t} h here low early few calm =
    let p = b.playback in
    let u = micro b.clock in
    let (m, less, all, no_more) = how-many b.clock (t - b.next) n few in
    let begins : b.closed % u ≡ 0 = subst (λ (k : ℕ). k % u ≡ 0) (omega (arith, here, h.on_time.least, low, early)) h.on_time.begins in
    let moved = microseconds_in-played (around (board_seen b)) m t p (moving_part (board_seen b)) refl h.played begins early (omega (arith, here, low, all)) (omega (arith, here, low, no_more)) in
    rw (moved, calm.irq b.ram.items b.glyphs.font p.levels m less, calm.nmis b.ram.items b.glyphs.font p.levels m less) refl

-- the lines up to an event, and up to the end of the calm microseconds
calm-lines : {b : Inside} {n t : ℕ} → IsValid b → AreCalm (keys_of b.playback.keys) n (board_seen b).devices → t ≤ b.playback.event → t ≤ b.next + n * micro b.clock →
    lines (board_closed (board_seen b) t) ≡ lines (board_seen b)
calm-lines {b} {n} {t} h calm early few = elim (cases_lt b.next t) [
  | inl less ↦
      let low : b.closed ≤ b.next = omega (arith, h.on_time.least, h.on_time.first, h.played.early) in
      let same : board_closed (board_seen (record b { closed = b.next })) t ≡ board_closed (board_seen b) t =
      ap (λ (s : BoardState). board_closed s t) (seen-later b.next h low (omega arith)) ∙ board-again (board_seen b) b.next t (omega (arith, less)) in
      ap lines (sym same) ∙ later-lines (valid-later b.next h low (omega arith)) refl less early (omega (arith, less, few)) calm
  | inr more ↦ elim (cases_lt t b.closed) [
    | inl before ↦ ap lines (board-still (board_seen b) t (omega (arith, before)))
    | inr behind ↦ ap lines (sym (seen-later t h behind more))
  ]
]

pub calm-until : {b : Inside} {n : ℕ} (t : ℕ) → IsValid b → AreCalm (keys_of b.playback.keys) n (board_seen b).devices → t ≤ b.playback.event → t ≤ b.next + n * micro b.clock →
    IsCalm t (board_seen b)
calm-until {b} {n} t h calm early few =
    let same : (u : ℕ) → u ≤ t → lines (board_closed (board_seen b) u) ≡ lines (board_seen b) = λ u low. calm-lines h calm (omega (arith, low, early)) (omega (arith, low, few)) in
    record { irq = λ u low. ap (λ l. l.0) (same u low); nmis = λ u low. ap (λ l. l.1) (same u low) }
