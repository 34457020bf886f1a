-- A tone, clock by clock, as a square wave.
use Rattle.std.proofs.Common.{◌≡◌, ◌≢◌, ◌∙◌, sym, ap, subst, refl, ℕ, zero, suc, max, ◌+◌, ◌-◌, ◌*◌, ◌/◌, ◌%◌, ◌<◌, ◌≤◌, ◌==◌, Bool, true, false, not, arith, inl, inr, add-one}
use Rattle.std.specs.Prelude.{nat_le, if◌then◌else◌}
use Rattle.std.proofs.lemmas.Bool.{cases_lt, true≢false}
use Rattle.std.proofs.lemmas.Bool.Decides.{nat_tests}
use Rattle.std.proofs.lemmas.Nat.{div-add-mod', mod_below, div-mul-add, mod-mul-add}
use Rattle.beeb_bits.specs.Bits.{bit}
use Rattle.sn76489.specs.State.{State, Tone}
use Rattle.sn76489.specs.Writes.{register_of, period_with, tone_with_period, register_written, write_leaves}
use Rattle.sn76489.specs.Clock.{period_clocks, tone_clock_leaves, clock_leaves, clocks}
use Rattle.law_chips.specs.Tones.{Channel, one, two, three, tone_of, output, period_byte, with_period, with_volume, half_wave, square, TonesAreSquareWaves}

-- ---- clocks

no_clock : (c : State) → clocks 0 c ≡ c
unfolding clocks
no_clock c = refl

clock_more : (m : ℕ) (c : State) → clocks (suc m) c ≡ clock_leaves (clocks m c)
unfolding clocks
clock_more m c = refl

clocks_behind : (m j : ℕ) (c : State) → clocks (m + j) c ≡ clocks j (clocks m c)
clocks_behind m zero c = let e : m + 0 ≡ m = omega arith in ap (λ n. clocks n c) e ∙ sym (no_clock (clocks m c))
clocks_behind m (suc j) c =
    let e : m + suc j ≡ suc (m + j) = omega arith in
    ap (λ n. clocks n c) e ∙ clock_more (m + j) c ∙ ap clock_leaves (clocks_behind m j c) ∙ sym (clock_more j (clocks m c))

-- a tone of the chip depends only on itself
is_tone : (k : Channel) (c : State) → tone_of k (clock_leaves c) ≡ tone_clock_leaves (tone_of k c)
is_tone one c = refl
is_tone two c = refl
is_tone three c = refl

tone_more : (k : Channel) (m : ℕ) (c : State) → tone_of k (clocks (suc m) c) ≡ tone_clock_leaves (tone_of k (clocks m c))
tone_more k m c = ap (tone_of k) (clock_more m c) ∙ is_tone k (clocks m c)

-- ---- two tones that differ in their volume only

record Alike (t u : Tone) : Type 0 where
  pub period : t.period ≡ u.period
  pub counter : t.counter ≡ u.counter
  pub output : t.output ≡ u.output

alike_more : (t u : Tone) → Alike t u → Alike (tone_clock_leaves t) (tone_clock_leaves u)
alike_more t u same =
    let p = same.period in
    let n = same.counter in
    let o = same.output in
    record { period = grind (arith, nat_tests); counter = grind (arith, nat_tests); output = grind (arith, nat_tests) }

alike_after : (k : Channel) (m : ℕ) (c d : State) → Alike (tone_of k c) (tone_of k d) → Alike (tone_of k (clocks m c)) (tone_of k (clocks m d))
alike_after k zero c d same = rw (no_clock c, no_clock d) same
alike_after k (suc m) c d same =
    rw (tone_more k m c, tone_more k m d) (alike_more (tone_of k (clocks m c)) (tone_of k (clocks m d)) (alike_after k m c d same))

-- ---- one clock of a square wave

record Next (h j : ℕ) : Type 0 where
  pub inner : j % h + 1 < h → ((j + 1) % h ≡ j % h + 1) × ((j + 1) / h ≡ j / h)
  pub last : j % h + 1 ≡ h → ((j + 1) % h ≡ 0) × ((j + 1) / h ≡ j / h + 1)

next : (h j : ℕ) → 0 < h → Next h j
next h j some =
    let q = j / h in
    let r = j % h in
    let parts : q * h + r ≡ j = div-add-mod' j h in
    record {
      inner = λ low.
          let same : q * h + (r + 1) ≡ j + 1 = omega (arith, parts) in
          (ap (λ i. i % h) (sym same) ∙ mod-mul-add q h (r + 1) low, ap (λ i. i / h) (sym same) ∙ div-mul-add q h (r + 1) low);
      last = λ full.
          let more : (q + 1) * h ≡ q * h + h = omega arith in
          let same : (q + 1) * h + 0 ≡ j + 1 = omega (arith, parts, full, more) in
          (ap (λ i. i % h) (sym same) ∙ mod-mul-add (q + 1) h 0 some, ap (λ i. i / h) (sym same) ∙ div-mul-add (q + 1) h 0 some);
    }

-- a tone j clocks after a change of its output
record Stands (n j : ℕ) (first : Bool) (t : Tone) : Type 0 where
  pub period : t.period ≡ n
  pub counter : t.counter ≡ half_wave n - j % half_wave n
  pub output : t.output ≡ square (half_wave n) j first

some_clocks : (n : ℕ) → 0 < half_wave n
some_clocks n = grind (arith, nat_tests)

stays : (t : Tone) → 1 < t.counter → (tone_clock_leaves t).output ≡ t.output
stays t high = grind (arith, nat_tests)

lowers : (t : Tone) → 1 < t.counter → (tone_clock_leaves t).counter ≡ t.counter - 1
lowers t high = grind (arith, nat_tests)

turns : (t : Tone) → t.counter ≤ 1 → (tone_clock_leaves t).output ≡ not t.output
turns t low = grind (arith, nat_tests)

starts : (t : Tone) → t.counter ≤ 1 → (tone_clock_leaves t).counter ≡ half_wave t.period
starts t low = grind (arith, nat_tests)

keeps : (t : Tone) → (tone_clock_leaves t).period ≡ t.period
keeps t = grind (arith, nat_tests)

other_parity : (a b : ℕ) (first : Bool) → b ≡ a + 1 → (if b % 2 == 0 then first else not first) ≡ not (if a % 2 == 0 then first else not first)
other_parity a b first more = grind (arith, nat_tests)

stands_more : (n j : ℕ) (first : Bool) (t : Tone) → Stands n j first t → Stands n (j + 1) first (tone_clock_leaves t)
stands_more n j first t is =
    let h = half_wave n in
    let some : 0 < h = some_clocks n in
    let below : j % h < h = mod_below j h some in
    let count = is.counter in
    elim (cases_lt (j % h + 1) h) [
      | inl low ↦
          let at = (next h j some).inner low in
          let high : 1 < t.counter = omega (arith, count, low) in
          record {
            period = keeps t ∙ is.period;
            counter = lowers t high ∙ omega (arith, count, at.0);
            output = stays t high ∙ is.output ∙ ap (λ i. if i % 2 == 0 then first else not first) (sym at.1);
          }
      | inr high ↦
          let full : j % h + 1 ≡ h = omega (arith, below, high) in
          let at = (next h j some).last full in
          let low : t.counter ≤ 1 = omega (arith, count, full) in
          record {
            period = keeps t ∙ is.period;
            counter = starts t low ∙ ap half_wave is.period ∙ omega (arith, at.0);
            output = turns t low ∙ ap not is.output ∙ sym (other_parity (j / h) ((j + 1) / h) first at.1);
          }
    ]

stands : (k : Channel) (n j : ℕ) (first : Bool) (c : State) → Stands n 0 first (tone_of k c) → Stands n j first (tone_of k (clocks j c))
stands k n zero first c is = rw (no_clock c) is
stands k n (suc j) first c is =
    rw (tone_more k j c, ← add-one) (stands_more n j first (tone_of k (clocks j c)) (stands k n j first c is))

-- ---- from a change of the output on

itself : (b : Bool) → b ≢ not b
itself true e = absurd (true≢false e)
itself false e = absurd (true≢false (sym e))

changed : (t : Tone) → (tone_clock_leaves t).output ≡ not t.output → t.counter ≤ 1
changed t turned = elim (cases_lt 1 t.counter) [
  | inl high ↦ absurd (itself t.output (sym (stays t high) ∙ turned))
  | inr low ↦ low
]

stood : (n : ℕ) (t : Tone) → t.period ≡ n → (tone_clock_leaves t).output ≡ not t.output →
    Stands n 0 (tone_clock_leaves t).output (tone_clock_leaves t)
stood n t is turned =
    let some : 0 < half_wave n = some_clocks n in
    let whole : 0 ≡ 0 * half_wave n + 0 = omega arith in
    let rest : 0 % half_wave n ≡ 0 = ap (λ i. i % half_wave n) whole ∙ mod-mul-add 0 (half_wave n) 0 some in
    let none : 0 / half_wave n ≡ 0 = ap (λ i. i / half_wave n) whole ∙ div-mul-add 0 (half_wave n) 0 some in
    record {
      period = keeps t ∙ is;
      counter = starts t (changed t turned) ∙ ap half_wave is ∙ omega (arith, rest);
      output = sym (ap (λ i. if i % 2 == 0 then (tone_clock_leaves t).output else not (tone_clock_leaves t).output) none);
    }

period_stays : (k : Channel) (m : ℕ) (c : State) → (tone_of k (clocks m c)).period ≡ (tone_of k c).period
period_stays k zero c = ap (λ d. (tone_of k d).period) (no_clock c)
period_stays k (suc m) c = ap (λ (t : Tone). t.period) (tone_more k m c) ∙ keeps (tone_of k (clocks m c)) ∙ period_stays k m c

-- ---- the bytes of a period and of a volume

abbrev register : Channel → ℕ
register one = 0
register two = 2
register three = 4

record First (k : Channel) (x : ℕ) (c d : State) : Type 0 where
  pub latched : d.latched ≡ register k
  pub period : (tone_of k d).period ≡ 16 * ((tone_of k c).period / 16) + (period_byte k + x) % 16
  pub counter : (tone_of k d).counter ≡ (tone_of k c).counter
  pub output : output k d ≡ output k c

is_top : (k : Channel) (x : ℕ) → x < 16 → bit (period_byte k + x) 7 ≡ true
is_top one x below = grind arith
is_top two x below = grind arith
is_top three x below = grind arith

is_register : (k : Channel) (x : ℕ) → x < 16 → (period_byte k + x) / 16 % 8 ≡ register k
is_register one x below = omega (arith, below)
is_register two x below = omega (arith, below)
is_register three x below = omega (arith, below)

latches : (v r : ℕ) (c : State) → bit v 7 ≡ true → v / 16 % 8 ≡ r → register_of v c ≡ r
latches v r c top is = ap (λ b. if b then v / 16 % 8 else c.latched) top ∙ is

lower : (v period : ℕ) → bit v 7 ≡ true → period_with v period ≡ 16 * (period / 16) + v % 16
lower v period top = ap (λ b. if b then 16 * (period / 16) + v % 16 else 16 * (v % 64) + period % 16) top

-- a channel whose period a byte is for
to_register : (k : Channel) (v : ℕ) (c : State) → register_of v c ≡ register k →
    tone_of k (write_leaves v c) ≡ tone_with_period v (tone_of k c)
to_register one v c is = ap (λ r. tone_of one (register_written r v (record c { latched = r }))) is
to_register two v c is = ap (λ r. tone_of two (register_written r v (record c { latched = r }))) is
to_register three v c is = ap (λ r. tone_of three (register_written r v (record c { latched = r }))) is

stays_latched : (k : Channel) (v : ℕ) (c : State) → register_of v c ≡ register k → (write_leaves v c).latched ≡ register k
stays_latched one v c is = ap (λ r. (register_written r v (record c { latched = r })).latched) is
stays_latched two v c is = ap (λ r. (register_written r v (record c { latched = r })).latched) is
stays_latched three v c is = ap (λ r. (register_written r v (record c { latched = r })).latched) is

first : (k : Channel) (x : ℕ) (c : State) → x < 16 → First k x c (write_leaves (period_byte k + x) c)
first k x c below =
    let v = period_byte k + x in
    let top = is_top k x below in
    let is = latches v (register k) c top (is_register k x below) in
    let there = to_register k v c is in
    record {
      latched = stays_latched k v c is;
      period = ap (λ (t : Tone). t.period) there ∙ lower v (tone_of k c).period top;
      counter = ap (λ (t : Tone). t.counter) there;
      output = ap (λ (t : Tone). t.output) there;
    }

low_four : (k : Channel) (x : ℕ) → x < 16 → (period_byte k + x) % 16 ≡ x
low_four one x below = omega (arith, below)
low_four two x below = omega (arith, below)
low_four three x below = omega (arith, below)

record Second (k : Channel) (y : ℕ) (c d : State) : Type 0 where
  pub period : (tone_of k d).period ≡ 16 * y + (tone_of k c).period % 16
  pub counter : (tone_of k d).counter ≡ (tone_of k c).counter
  pub output : output k d ≡ output k c

second : (k : Channel) (y : ℕ) (c : State) → y < 64 → c.latched ≡ register k → Second k y c (write_leaves y c)
second one y c below is = record { period = grind arith; counter = grind arith; output = grind arith }
second two y c below is = record { period = grind arith; counter = grind arith; output = grind arith }
second three y c below is = record { period = grind arith; counter = grind arith; output = grind arith }

-- a channel after both bytes of a period
record Written (k : Channel) (n : ℕ) (c d : State) : Type 0 where
  pub period : (tone_of k d).period ≡ n
  pub counter : (tone_of k d).counter ≡ (tone_of k c).counter
  pub output : output k d ≡ output k c

written : (k : Channel) (n : ℕ) (c : State) → n < 1024 → Written k n c (with_period k n c)
written k n c below =
    let a = first k (n % 16) c (omega arith) in
    let d = write_leaves (period_byte k + n % 16) c in
    let b = second k (n / 16) d (omega (arith, below)) a.latched in
    let low = a.period in
    let four = low_four k (n % 16) (omega arith) in
    let all = b.period in
    record { period = omega (arith, low, four, all); counter = b.counter ∙ a.counter; output = b.output ∙ a.output }

alike : (t : Tone) → Alike t t
alike t = record { period = refl; counter = refl; output = refl }

any_volume : (k other : Channel) (v : ℕ) (c : State) → v < 16 → Alike (tone_of k (with_volume other v c)) (tone_of k c)
any_volume one one v c below = grind arith
any_volume one two v c below = grind arith
any_volume one three v c below = grind arith
any_volume two one v c below = grind arith
any_volume two two v c below = grind arith
any_volume two three v c below = grind arith
any_volume three one v c below = grind arith
any_volume three two v c below = grind arith
any_volume three three v c below = grind arith

any_other : (k other : Channel) (n : ℕ) (c : State) → n < 1024 → k ≢ other → tone_of k (with_period other n c) ≡ tone_of k c
any_other one one n c below apart = absurd (apart refl)
any_other one two n c below apart = grind arith
any_other one three n c below apart = grind arith
any_other two one n c below apart = grind arith
any_other two two n c below apart = absurd (apart refl)
any_other two three n c below apart = grind arith
any_other three one n c below apart = grind arith
any_other three two n c below apart = grind arith
any_other three three n c below apart = absurd (apart refl)

-- ---- before the first change

record Rests (m : ℕ) (first t : Tone) : Type 0 where
  pub counter : t.counter ≡ first.counter - m
  pub output : t.output ≡ first.output

rests : (k : Channel) (m : ℕ) (c : State) → m < max (tone_of k c).counter 1 → Rests m (tone_of k c) (tone_of k (clocks m c))
rests k zero c low = rw (no_clock c) (record { counter = omega arith; output = refl })
rests k (suc m) c low =
    let so_far = rests k m c (omega (arith, low)) in
    let count = so_far.counter in
    let t = tone_of k (clocks m c) in
    let high : 1 < t.counter = omega (arith, count, low) in
    rw (tone_more k m c) (record { counter = lowers t high ∙ omega (arith, count); output = stays t high ∙ so_far.output })

pub all_waves : TonesAreSquareWaves
all_waves = record {
  begins = λ k n c below.
      let w = with_period k n c in
      let same = (written k n c below).counter in
      let last = max (tone_of k c).counter 1 - 1 in
      let so_far = rests k last w (omega (arith, same)) in
      let count = so_far.counter in
      let e : max (tone_of k c).counter 1 ≡ suc last = omega arith in
      ap (λ m. output k (clocks m w)) e ∙ ap (λ (t : Tone). t.output) (tone_more k last w)
      ∙ turns (tone_of k (clocks last w)) (omega (arith, count, same)) ∙ ap not (so_far.output ∙ (written k n c below).output);
  rests = λ k n m c below low.
      let same = (written k n c below).counter in
      (rests k m (with_period k n c) (omega (arith, same, low))).output ∙ (written k n c below).output;
  wave = λ k n m j c below turned.
      let w = with_period k n c in
      let t = tone_of k (clocks m w) in
      let more : tone_of k (clocks (m + 1) w) ≡ tone_clock_leaves t = rw add-one (tone_more k m w) in
      let is : t.period ≡ n = period_stays k m w ∙ (written k n c below).period in
      let begun : Stands n 0 (output k (clocks (m + 1) w)) (tone_of k (clocks (m + 1) w)) =
      subst (λ (u : Tone). Stands n 0 u.output u) (sym more) (stood n t is (sym (ap (λ (u : Tone). u.output) more) ∙ turned)) in
      ap (output k) (clocks_behind (m + 1) j w) ∙ (stands k n j (output k (clocks (m + 1) w)) (clocks (m + 1) w) begun).output;
  any_volume = λ k other v m c below. (alike_after k m (with_volume other v c) c (any_volume k other v c below)).output;
  any_other = λ k other n m c below apart.
      let same : Alike (tone_of k (with_period other n c)) (tone_of k c) = rw (any_other k other n c below apart) (alike (tone_of k c)) in
      (alike_after k m (with_period other n c) c same).output;
}
