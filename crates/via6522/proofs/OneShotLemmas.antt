-- Timer 2, and timer 1 in one-shot mode, step by step: both count down once.
use Rattle.std.proofs.Common.{◌≡◌, refl, ℕ, suc, ◌+◌, ◌<◌, ◌≤◌, ◌==◌, ◌&&◌, Bool, true, false, not, List, [], ◌∷◌, length, add-zero, zero-add, arith}
use Rattle.std.specs.Prelude.{if◌then◌else◌}
use Rattle.std.proofs.lemmas.Bool.Decides.{nat_tests}
use Rattle.via6522.specs.declared.Pins.{Pins}
use Rattle.beeb_bits.specs.Bits.{bit}
use Rattle.via6522.specs.State.{State, Timer1, Timer2}
use Rattle.via6522.specs.Timers.{word, one_less, runs_out, timer1_after, timer1_flags, timer2_after, timer2_flags}
use Rattle.via6522.specs.Step.{step, after_steps}

-- The state that both have: a first step that does not count is still due, the counter, and the
-- flag may still be set.
pub record Shot : Type 0 where
  pub waits : Bool
  pub counter : ℕ
  pub armed : Bool

-- one step; the first one loads the counter
shot_after : ℕ → Shot → Shot
shot_after loaded s =
    if s.waits then record { waits = false; counter = loaded; armed = s.armed }
    else if not (runs_out s.counter) then record s { counter = one_less s.counter }
    else record s { counter = 65535; armed = false }

shot_flags : Shot → Bool
shot_flags s = not s.waits && runs_out s.counter && s.armed

pub shot1 : Timer1 → Shot
shot1 t = record { waits = t.reload; counter = t.counter; armed = t.armed }

pub shot2 : Timer2 → Shot
shot2 t = record { waits = t.fresh; counter = t.counter; armed = t.armed }

after1 : (t : Timer1) → shot1 (timer1_after false t) ≡ shot_after (word t.latch_high t.latch_low) (shot1 t)
unfolding shot1 shot_after
after1 t = grind arith

after2 : (t : Timer2) → shot2 (timer2_after false t) ≡ shot_after t.counter (shot2 t)
unfolding shot2 shot_after
after2 t = grind arith

-- The state k steps after v was written.
pub record IsShot (v k : ℕ) (s : Shot) : Type 0 where
  pub first : k ≡ 0 → s.waits ≡ true
  pub later : 0 < k → s.waits ≡ false
  pub counts : 0 < k → k ≤ v + 1 → s.counter + k ≡ v + 1
  pub ready : k ≤ v + 1 → s.armed ≡ true
  pub spent : v + 1 < k → s.armed ≡ false

-- the flag of a step, and the state after it
record Leads (v k loaded : ℕ) (s : Shot) : Type 0 where
  pub flag : shot_flags s ≡ (k + 1 == v + 2)
  pub after : IsShot v (k + 1) (shot_after loaded s)

shot_leads : (v k loaded : ℕ) (s : Shot) → v < 65536 → (k ≡ 0 → loaded ≡ v) → IsShot v k s → Leads v k loaded s
unfolding shot_after shot_flags
shot_leads v k loaded s small load at = record {
  flag = grind (arith, nat_tests);
  after = record {
    first = λ e. absurd (omega (arith, e));
    later = λ h. grind (arith, nat_tests);
    counts = λ h l. grind (arith, nat_tests);
    ready = λ h. grind (arith, nat_tests);
    spent = λ h. grind (arith, nat_tests);
  };
}

-- the step after these sets the flag exactly if it is step v + 2 after the write
pub sets_once1 : (v k : ℕ) (c : State) (pins : List Pins) → v < 65536 → bit c.acr 6 ≡ false → (k ≡ 0 → word c.timer1.latch_high c.timer1.latch_low ≡ v) →
    IsShot v k (shot1 c.timer1) → timer1_flags (bit (after_steps pins c).acr 6) (after_steps pins c).timer1 ≡ (k + length pins + 1 == v + 2)
unfolding shot1 shot_flags
sets_once1 v k c [] small off load at =
    rw (off, add-zero) (shot_leads v k (word c.timer1.latch_high c.timer1.latch_low) (shot1 c.timer1) small load at).flag
sets_once1 v k c (p ∷ pins) small off load at =
    let leads = shot_leads v k (word c.timer1.latch_high c.timer1.latch_low) (shot1 c.timer1) small load at in
    let after : IsShot v (k + 1) (shot1 (step p c).timer1) = rw (off, after1 c.timer1) leads.after in
    let more : k + 1 + length pins + 1 ≡ k + suc (length pins) + 1 = omega arith in
    rw (← more) (sets_once1 v (k + 1) (step p c) pins small off (λ e. absurd (omega (arith, e))) after)

pub sets_once2 : (v k : ℕ) (c : State) (pins : List Pins) → v < 65536 → bit c.acr 5 ≡ false → (k ≡ 0 → c.timer2.counter ≡ v) →
    IsShot v k (shot2 c.timer2) → timer2_flags (bit (after_steps pins c).acr 5) (after_steps pins c).timer2 ≡ (k + length pins + 1 == v + 2)
unfolding shot2 shot_flags
sets_once2 v k c [] small counts load at =
    rw (counts, add-zero) (shot_leads v k c.timer2.counter (shot2 c.timer2) small load at).flag
sets_once2 v k c (p ∷ pins) small counts load at =
    let leads = shot_leads v k c.timer2.counter (shot2 c.timer2) small load at in
    let after : IsShot v (k + 1) (shot2 (step p c).timer2) = rw (counts, after2 c.timer2) leads.after in
    let more : k + 1 + length pins + 1 ≡ k + suc (length pins) + 1 = omega arith in
    rw (← more) (sets_once2 v (k + 1) (step p c) pins small counts (λ e. absurd (omega (arith, e))) after)

-- the state after a write is the one-shot state before its first step
shot_begins : (v counter : ℕ) → IsShot v 0 (record { waits = true; counter = counter; armed = true })
shot_begins v counter = record {
  first = λ e. refl;
  later = λ h. absurd (omega (arith, h));
  counts = λ h l. absurd (omega (arith, h));
  ready = λ h. refl;
  spent = λ h. absurd (omega (arith, h));
}

pub fires_once1 : (c : State) (pins : List Pins) → word c.timer1.latch_high c.timer1.latch_low < 65536 → bit c.acr 6 ≡ false →
    c.timer1.reload ≡ true → c.timer1.armed ≡ true →
    timer1_flags (bit (after_steps pins c).acr 6) (after_steps pins c).timer1 ≡ (length pins + 1 == word c.timer1.latch_high c.timer1.latch_low + 2)
unfolding shot1
fires_once1 c pins small off waits armed =
    let begins : IsShot (word c.timer1.latch_high c.timer1.latch_low) 0 (shot1 c.timer1) =
    rw (waits, armed) (shot_begins (word c.timer1.latch_high c.timer1.latch_low) c.timer1.counter) in
    rw zero-add at (sets_once1 (word c.timer1.latch_high c.timer1.latch_low) 0 c pins small off (λ e. refl) begins)

pub fires_once2 : (c : State) (pins : List Pins) → c.timer2.counter < 65536 → bit c.acr 5 ≡ false → c.timer2.fresh ≡ true → c.timer2.armed ≡ true →
    timer2_flags (bit (after_steps pins c).acr 5) (after_steps pins c).timer2 ≡ (length pins + 1 == c.timer2.counter + 2)
unfolding shot2
fires_once2 c pins small counts fresh armed =
    let begins : IsShot c.timer2.counter 0 (shot2 c.timer2) = rw (fresh, armed) (shot_begins c.timer2.counter c.timer2.counter) in
    rw zero-add at (sets_once2 c.timer2.counter 0 c pins small counts (λ e. refl) begins)
