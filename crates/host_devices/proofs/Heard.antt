-- The writes to the sound chip stay in time.
use Rattle.std.proofs.Common.{◌≡◌, ◌≤◌, ◌<◌, ◌+◌, ◌*◌, refl, ℕ, nat_lt, Bool, true, false, List, [], ◌∷◌, ◌++◌, length, if◌then◌else◌, arith}
use Rattle.sn76489.specs.declared.SoundWrite.{SoundWrite}
use Rattle.sn76489.specs.Samples.{NeverFallFrom}
use Rattle.std.specs.Int.{div_ceil}
use Rattle.beeb_bits.specs.declared.clock.Clock.{Clock}
use Rattle.beeb_bits.specs.declared.clock.Clock.TheVariants.{Three, Four}
use Rattle.beeb_bits.specs.Clock.{micro}
use Rattle.host_devices.specs.Sound.{moment_at, with_write, last_moment_from, IsInTime}
use Rattle.host_devices.proofs.Beats.{some-micro}

-- as ticks go by
pub in-time-later : {u closed : ℕ} (t : ℕ) {sound : List SoundWrite} → IsInTime u closed sound → closed ≤ t → IsInTime u t sound
in-time-later t h low = record { order = h.order; last = omega (arith, low, h.last) }

-- before the first
pub first-in-time : (c : Clock) {sound : List SoundWrite} → sound ≡ [] → IsInTime (micro c) 0 sound
first-in-time c none = rw none (record { order = tt; last = omega (arith, some-micro c) })

order-behind : (m : ℕ) (sound : List SoundWrite) (w : SoundWrite) → NeverFallFrom m sound → last_moment_from m sound ≤ w.moment → NeverFallFrom m (sound ++ w ∷ [])
order-behind m [] w order late = (late, tt)
order-behind m (v ∷ sound) w order late = (order.0, order-behind v.moment sound w order.1 late)

last-behind : (m : ℕ) (sound : List SoundWrite) (w : SoundWrite) → last_moment_from m (sound ++ w ∷ []) ≡ w.moment
last-behind m [] w = refl
last-behind m (v ∷ sound) w = last-behind v.moment sound w

-- the moment of a write now is at least that of the last one, and is in time
late-enough : (c : Clock) (closed : ℕ) {last : ℕ} → last * micro c < closed + micro c → last ≤ moment_at (micro c) closed
late-enough Three closed h = omega (arith, h)
late-enough Four closed h = omega (arith, h)

near-enough : (c : Clock) (closed : ℕ) → moment_at (micro c) closed * micro c < closed + micro c
near-enough Three closed = omega arith
near-enough Four closed = omega arith

-- one more write, now
in-time-by : (c : Clock) {closed : ℕ} (w : SoundWrite) {sound : List SoundWrite} (room : Bool) → w.moment ≡ moment_at (micro c) closed → IsInTime (micro c) closed sound →
    IsInTime (micro c) closed (if room then sound ++ w ∷ [] else sound)
in-time-by c {closed} w {sound} true now h = record {
  order = order-behind 0 sound w h.order (rw now (late-enough c closed h.last));
  last = rw (last-behind 0 sound w, now) (near-enough c closed);
}
in-time-by c w false now h = h

pub in-time-with : (c : Clock) {closed : ℕ} (w : SoundWrite) {sound : List SoundWrite} → w.moment ≡ moment_at (micro c) closed → IsInTime (micro c) closed sound →
    IsInTime (micro c) closed (with_write w sound)
in-time-with c w {sound} now h = in-time-by c w (nat_lt (length sound) 1048576) now h

-- the code's division
pub rounded-up : (c : Clock) (closed : ℕ) → div_ceil closed (micro c) ≡ moment_at (micro c) closed
rounded-up Three closed = omega arith
rounded-up Four closed = omega arith
