-- The place after n clocks in a frame, and an invariant at each clock.
use Rattle.std.proofs.Common.{◌≡◌, ◌∙◌, sym, ap, ℕ, zero, suc, ◌+◌, ◌*◌, ◌/◌, ◌%◌, ◌<◌, ◌≤◌, ◌==◌, true, false, arith, inl, inr}
use Rattle.std.proofs.lemmas.Bool.{cases_lt}
use Rattle.std.proofs.lemmas.Bool.Decides.{nat_tests}
use Rattle.std.proofs.lemmas.Nat.{same_from_place, div-mul-add, mod-mul-add}
use Rattle.std.proofs.Math.Nat.{mod-eq_of_lt, mod-add-mod, mod_self, mul-le-mul_left, div-add-mod}
use Rattle.crtc6845.specs.State.{Registers, State}
use Rattle.crtc6845.specs.Clock.{start_leaves, ends_frame, clock_leaves}
use Rattle.crtc6845.specs.Laws.{clocks, line_characters, frame_lines, frame_clocks, HaveTheirBits, BeginsFrame}
use Rattle.crtc6845.proofs.Frames.{IsClock, first_clock, inner_clock, last_clock, lines_below}

-- the place of a character in its frame, and that of the one after it
below : (r : Registers) (l h : ℕ) → l < frame_lines r → h ≤ r.horizontal_total → line_characters r * l + h < frame_clocks r
below r l h lines within =
    let row : line_characters r * (l + 1) ≡ line_characters r * l + line_characters r = grind arith in
    let all : line_characters r * (l + 1) ≤ line_characters r * frame_lines r = mul-le-mul_left (line_characters r) (omega arith) in
    omega arith

pub same_place : (r : Registers) (l h m g : ℕ) → h ≤ r.horizontal_total → g ≤ r.horizontal_total →
    line_characters r * l + h ≡ line_characters r * m + g → (l ≡ m) × (h ≡ g)
same_place r l h m g p q e = same_from_place l h m g (line_characters r) (omega arith) (omega arith) (omega (arith, e))

-- an invariant at character h of line l, which each clock preserves
pub record IsKeptOn (r : Registers) (P : ℕ → ℕ → State → Type 0) : Type 0 where
  pub inner : (l h : ℕ) (c : State) → IsClock r l h c → P l h c → h < r.horizontal_total → P l (h + 1) (clock_leaves c)
  pub line : (l h : ℕ) (c : State) → IsClock r l h c → P l h c → h ≡ r.horizontal_total → l + 1 < frame_lines r → P (l + 1) 0 (clock_leaves c)
  pub frame : (l h : ℕ) (c : State) → IsClock r l h c → P l h c → h ≡ r.horizontal_total → l + 1 ≡ frame_lines r → P 0 0 (clock_leaves c)

-- it is clock j of a frame, counted from 0, plus the clocks of whole frames
pub record Place (r : Registers) (P : ℕ → ℕ → State → Type 0) (j : ℕ) (c : State) : Type 0 where
  pub l : ℕ
  pub h : ℕ
  pub place : line_characters r * l + h ≡ j % frame_clocks r
  pub at : IsClock r l h c
  pub holds : P l h c

next_mod : (j m k : ℕ) → k ≡ j % m → k + 1 < m → k + 1 ≡ (j + 1) % m
next_mod j m k e more = sym (mod-eq_of_lt more) ∙ ap (λ n. (n + 1) % m) e ∙ mod-add-mod j m 1

last_mod : (j m k : ℕ) → k ≡ j % m → k + 1 ≡ m → 0 ≡ (j + 1) % m
last_mod j m k e end = sym (mod_self m) ∙ ap (λ n. n % m) (sym end ∙ ap (λ n. n + 1) e) ∙ mod-add-mod j m 1

step : (r : Registers) (P : ℕ → ℕ → State → Type 0) (j : ℕ) (c : State) → HaveTheirBits r → IsKeptOn r P → Place r P j c → Place r P (j + 1) (clock_leaves c)
step r P j c bits kept p =
    let within = p.at.within in
    let lines = lines_below r p.l p.h c p.at in
    let row : line_characters r * (p.l + 1) ≡ line_characters r * p.l + line_characters r = grind arith in
    elim (cases_lt p.h r.horizontal_total) [
      | inl inner ↦
          let next = below r p.l (p.h + 1) lines (omega arith) in
          record {
            l = p.l;
            h = p.h + 1;
            place = omega (arith, next_mod j (frame_clocks r) _ p.place (omega arith));
            at = (inner_clock r p.l p.h c bits p.at inner).1;
            holds = kept.inner p.l p.h c p.at p.holds inner;
          }
      | inr end ↦
          let last : p.h ≡ r.horizontal_total = omega arith in
          elim (last_clock r p.l p.h c bits p.at last) [
            | inl o ↦
                let more = lines_below r (p.l + 1) 0 (clock_leaves c) o.1 in
                let next = below r (p.l + 1) 0 more (omega arith) in
                record {
                  l = p.l + 1;
                  h = 0;
                  place = omega (arith, next_mod j (frame_clocks r) _ p.place (omega arith));
                  at = o.1;
                  holds = kept.line p.l p.h c p.at p.holds last more;
                }
            | inr o ↦
                let all : line_characters r * (p.l + 1) ≡ frame_clocks r = ap (λ n. line_characters r * n) o.1 in
                record {
                  l = 0;
                  h = 0;
                  place = omega (arith, last_mod j (frame_clocks r) _ p.place (omega arith));
                  at = o.2;
                  holds = kept.frame p.l p.h c p.at p.holds last o.1;
                }
          ]
    ]

walk : (r : Registers) (P : ℕ → ℕ → State → Type 0) (n j : ℕ) (c : State) → HaveTheirBits r → IsKeptOn r P → Place r P j c → Place r P (n + j) (clocks n c)
walk r P zero j c bits kept p = let e : j ≡ 0 + j = omega arith in rw e at p
walk r P (suc n) j c bits kept p =
    let e : n + (j + 1) ≡ suc n + j = omega arith in
    rw e at (walk r P n (j + 1) (clock_leaves c) bits kept (step r P j c bits kept p))

-- n clocks after a frame's first
pub walk_frames : (c : State) (P : ℕ → ℕ → State → Type 0) → HaveTheirBits c.registers → BeginsFrame c → IsKeptOn c.registers P → (n : ℕ) → P 0 0 c →
    Place c.registers P n (clocks n c)
walk_frames c P bits begins kept n holds =
    let first = first_clock c begins in
    let whole = below c.registers 0 0 (lines_below c.registers 0 0 c first) (omega arith) in
    let e : n + 0 ≡ n = omega arith in
    rw e at (walk c.registers P n 0 c bits kept (record { l = 0; h = 0; place = omega (arith, mod-eq_of_lt whole); at = first; holds = holds }))

-- the line and the character of clock n
pub place_is : (r : Registers) (P : ℕ → ℕ → State → Type 0) (n : ℕ) (c : State) (p : Place r P n c) → (n / line_characters r % frame_lines r ≡ p.l) × (n % line_characters r ≡ p.h)
place_is r P n c p =
    let w = line_characters r in
    let f = frame_lines r in
    let q = n / frame_clocks r in
    let within = p.at.within in
    let split : frame_clocks r * q + n % frame_clocks r ≡ n = div-add-mod n (frame_clocks r) in
    let turn : (q * f + p.l) * w + p.h ≡ w * f * q + (w * p.l + p.h) = grind arith in
    let whole : (q * f + p.l) * w + p.h ≡ n = omega (arith, p.place) in (
      ap (λ m. m % f) (sym (ap (λ m. m / w) whole) ∙ div-mul-add (q * f + p.l) w p.h (omega arith)) ∙ mod-mul-add q f p.l (lines_below r p.l p.h c p.at),
      sym (ap (λ m. m % w) whole) ∙ mod-mul-add (q * f + p.l) w p.h (omega arith),
    )

-- the invariant is only the place
abbrev pub Anything : ℕ → ℕ → State → Type 0
Anything l h c = zero ≡ zero

pub place_after : (c : State) (n : ℕ) → HaveTheirBits c.registers → BeginsFrame c → Place c.registers Anything n (clocks n c)
place_after c n bits begins = walk_frames c Anything bits begins (record { inner = search; line = search; frame = search }) n (search)

-- the last clock of a frame
pub restarts : (c : State) (n : ℕ) → HaveTheirBits c.registers → BeginsFrame c →
    ends_frame (start_leaves (clocks n c)) ≡ ((n + 1) % frame_clocks c.registers == 0)
restarts c n bits begins =
    let r = c.registers in
    let p = place_after c n bits begins in
    let within = p.at.within in
    let lines = lines_below r p.l p.h (clocks n c) p.at in
    let row : line_characters r * (p.l + 1) ≡ line_characters r * p.l + line_characters r = grind arith in
    elim (cases_lt p.h r.horizontal_total) [
      | inl inner ↦
          let next = below r p.l (p.h + 1) lines (omega arith) in
          let to = next_mod n (frame_clocks r) _ p.place (omega arith) in
          (inner_clock r p.l p.h (clocks n c) bits p.at inner).0 ∙ sym (other _ (omega (arith, to)))
      | inr end ↦
          let last : p.h ≡ r.horizontal_total = omega arith in
          elim (last_clock r p.l p.h (clocks n c) bits p.at last) [
            | inl o ↦
                let next = below r (p.l + 1) 0 (lines_below r (p.l + 1) 0 (clock_leaves (clocks n c)) o.1) (omega arith) in
                let to = next_mod n (frame_clocks r) _ p.place (omega arith) in
                o.0 ∙ sym (other _ (omega (arith, to)))
            | inr o ↦
                let all : line_characters r * (p.l + 1) ≡ frame_clocks r = ap (λ k. line_characters r * k) o.1 in
                o.0 ∙ sym (here _ (sym (last_mod n (frame_clocks r) _ p.place (omega arith))))
          ]
    ]
  where
    other : (k : ℕ) → 0 < k → (k == 0) ≡ false
    other k h = grind (arith, nat_tests)

    here : (k : ℕ) → k ≡ 0 → (k == 0) ≡ true
    here k h = grind (arith, nat_tests)
