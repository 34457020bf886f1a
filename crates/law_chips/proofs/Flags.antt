-- The latches of the 6522, its edges and ports, its flags, and the bytes that show them.
use Rattle.std.proofs.Common.{◌≡◌, ◌∙◌, refl, ◌&&◌, ◌||◌, Bool, true, false, not, List, [], ◌∷◌, map, sym, ℕ, ◌<◌, arith, ap, ◌-◌}
use Rattle.std.proofs.Common.{◌==◌, min, max, inl, inr, ◌+◌, ◌*◌}
use Rattle.beeb_bits.specs.Bits.{bit, weight}
use Rattle.via6522.specs.declared.Pins.{Pins}
use Rattle.via6522.specs.Lines.{is_edge}
use Rattle.via6522.specs.Step.{step}
use Rattle.law_chips.specs.Edges.{has_active, Ca1Sees, Ca2Sees, Cb1Sees, Cb2Sees}
use Rattle.via6522.specs.State.{State, power_on, InterruptFlags}
use Rattle.via6522.specs.Registers.{read_leaves, write_leaves, port, answer_of, asks, causes_byte, set_marked, clear_marked}
use Rattle.law_chips.specs.ViaBytes.{Move, microsecond, read, write, after_move, after_moves, WritesByte, WriteBytes, HasByteLatches, LatchesAreBytes}
use Rattle.std.specs.Prelude.{bit_and, bit_or, if◌then◌else◌}
use Rattle.std.specs.Int.{bit_at}
use Rattle.std.proofs.lemmas.Bool.{cases_eq, ne_eqb, true≢false}
use Rattle.std.proofs.lemmas.Nat.Bits.{bit_at_and, bit_at_or, bit_at-lt}
use Rattle.law_chips.specs.ViaPorts.{PortsShowTheirBits}
use Rattle.std.proofs.lemmas.Grind.{common_steps}
use Rattle.law_chips.specs.ViaFlags.{Flag, timer_1, timer_2, line_cb1, line_cb2, shift_register, line_ca1, line_ca2, bit_of, is_set, is_cleared, NoneClears}
use Rattle.law_chips.specs.ViaFlags.{FlagsAreCleared, some_enabled, FlagsAreShown}

or_none : (flag : Bool) → flag ≡ flag || false
or_none flag = grind arith

-- the first edge of a row, or a later one
first_or_later : (flag up before now : Bool) (levels : List Bool) →
    (flag || is_edge up before now) || has_active up now levels ≡ flag || has_active up before (now ∷ levels)
first_or_later flag up before now levels = grind arith

none : (flag up before : Bool) → flag ≡ flag || has_active up before []
none flag up before = grind arith

-- the same for a line that may be an output
first_or_later_in : (out flag up before now : Bool) (levels : List Bool) →
    (flag || (not out && is_edge up before now)) || (not out && has_active up now levels) ≡ flag || (not out && has_active up before (now ∷ levels))
first_or_later_in out flag up before now levels = grind arith

none_in : (out flag up before : Bool) → flag ≡ flag || (not out && has_active up before [])
none_in out flag up before = grind arith

pub ca1_sees : Ca1Sees
ca1_sees c [] = none c.flags.ca1 (bit c.pcr 0) c.levels.ca1
ca1_sees c (p ∷ pins) = ca1_sees (step p c) pins ∙ first_or_later c.flags.ca1 (bit c.pcr 0) c.levels.ca1 p.ca1 (map (λ (q : Pins). q.ca1) pins)

pub ca2_sees : Ca2Sees
ca2_sees c [] = none_in (bit c.pcr 3) c.flags.ca2 (bit c.pcr 2) c.levels.ca2
ca2_sees c (p ∷ pins) =
    ca2_sees (step p c) pins
    ∙ first_or_later_in (bit c.pcr 3) c.flags.ca2 (bit c.pcr 2) c.levels.ca2 p.ca2 (map (λ (q : Pins). q.ca2) pins)

pub cb1_sees : Cb1Sees
cb1_sees c [] = none c.flags.cb1 (bit c.pcr 4) c.levels.cb1
cb1_sees c (p ∷ pins) = cb1_sees (step p c) pins ∙ first_or_later c.flags.cb1 (bit c.pcr 4) c.levels.cb1 p.cb1 (map (λ (q : Pins). q.cb1) pins)

pub cb2_sees : Cb2Sees
cb2_sees c [] = none_in (bit c.pcr 7) c.flags.cb2 (bit c.pcr 6) c.levels.cb2
cb2_sees c (p ∷ pins) =
    cb2_sees (step p c) pins
    ∙ first_or_later_in (bit c.pcr 7) c.flags.cb2 (bit c.pcr 6) c.levels.cb2 p.cb2 (map (λ (q : Pins). q.cb2) pins)

moved : (m : Move) (c : State) → WritesByte m → HasByteLatches c → HasByteLatches (after_move m c)
moved (microsecond pins) c byte h = grind arith
moved (read reg) c byte h = grind arith
moved (write reg v) c byte h = grind arith

all_moved : (moves : List Move) (c : State) → WriteBytes moves → HasByteLatches c → HasByteLatches (after_moves moves c)
all_moved [] c bytes h = h
all_moved (m ∷ moves) c bytes h = all_moved moves (after_move m c) bytes.1 (moved m c bytes.0 h)

pub latches_are_bytes : LatchesAreBytes
latches_are_bytes = record {
  keeps = moved;
  reached = λ moves bytes. all_moved moves power_on bytes (record { timer1 = omega arith; timer2 = omega arith });
}

by_digits : (f : ℕ → ℕ → ℕ) (g : Bool → Bool → Bool) → (f 0 0 == 1) ≡ g false false → (f 0 1 == 1) ≡ g false true → (f 1 0 == 1) ≡ g true false →
    (f 1 1 == 1) ≡ g true true →
    (p q : ℕ) → p < 2 → q < 2 → (f p q == 1) ≡ g (p == 1) (q == 1)
by_digits f g a b c d p q lp lq = grind arith

and_bit : (a b n : ℕ) → bit (bit_and a b) n ≡ (bit a n && bit b n)
and_bit a b n = ap (λ d. d == 1) (bit_at_and a b n) ∙ by_digits min ◌&&◌ refl refl refl refl (bit_at a n) (bit_at b n) (bit_at-lt a n) (bit_at-lt b n)

or_bit : (a b n : ℕ) → bit (bit_or a b) n ≡ (bit a n || bit b n)
or_bit a b n = ap (λ d. d == 1) (bit_at_or a b n) ∙ by_digits max ◌||◌ refl refl refl refl (bit_at a n) (bit_at b n) (bit_at-lt a n) (bit_at-lt b n)

-- a law of bits 0 to 7
pub by_bit : (P : ℕ → Type 0) → P 0 → P 1 → P 2 → P 3 → P 4 → P 5 → P 6 → P 7 → (n : ℕ) → n < 8 → P n
by_bit P p0 p1 p2 p3 p4 p5 p6 p7 n h = grind arith

flipped : (p q : ℕ) → p < 2 → q ≡ 1 - p → (q == 1) ≡ not (p == 1)
flipped p q small is = grind arith

-- each bit of 255 - d is the other one
not_bit : (d n : ℕ) → d < 256 → n < 8 → bit (255 - d) n ≡ not (bit d n)
not_bit d n byte inside =
    by_bit (λ n. bit (255 - d) n ≡ not (bit d n))
    (flipped _ _ (omega arith) (omega arith))
    (flipped _ _ (omega arith) (omega arith))
    (flipped _ _ (omega arith) (omega arith))
    (flipped _ _ (omega arith) (omega arith))
    (flipped _ _ (omega arith) (omega arith))
    (flipped _ _ (omega arith) (omega arith))
    (flipped _ _ (omega arith) (omega arith))
    (flipped _ _ (omega arith) (omega arith))
    n inside

chosen : (d o p : Bool) → ((o && d) || (p && not d)) ≡ (if d then o else p)
chosen d o p = grind arith

port_bit : (d o p n : ℕ) → n < 8 → d < 256 → bit (port d o p) n ≡ (if bit d n then bit o n else bit p n)
port_bit d o p n inside byte =
    or_bit (bit_and o d) (bit_and p (255 - d)) n ∙ ap (λ b. b || bit (bit_and p (255 - d)) n) (and_bit o d n)
    ∙ ap (λ b. (bit o n && bit d n) || b) (and_bit p (255 - d) n ∙ ap (λ b. bit p n && b) (not_bit d n byte inside)) ∙ chosen (bit d n) (bit o n) (bit p n)

-- all bits of FF are 1
all_ones : (n : ℕ) → n < 8 → bit 255 n ≡ true
all_ones n inside = by_bit (λ n. bit 255 n ≡ true) refl refl refl refl refl refl refl refl n inside

a_register : (reg : ℕ) (pins : Pins) (c : State) → ((reg == 1) || (reg == 15)) ≡ true → answer_of reg pins c ≡ port c.ddra c.ora pins.a
a_register reg pins c is = elim (cases_eq reg 1) [
  | inl one ↦ ap (λ r. answer_of r pins c) one
  | inr other ↦
      elim (cases_eq reg 15) [
        | inl last ↦ ap (λ r. answer_of r pins c) last
        | inr none ↦
            absurd (true≢false (sym is ∙ ap (λ b. b || (reg == 15)) (ne_eqb reg 1 other) ∙ ne_eqb reg 15 none))
      ]
]

pub ports_show_their_bits : PortsShowTheirBits
ports_show_their_bits = record {
  port_b = λ n pins c inside byte. port_bit c.ddrb c.orb pins.b n inside byte;
  port_a = λ n reg pins c inside byte is. ap (λ v. bit v n) (a_register reg pins c is) ∙ port_bit c.ddra c.ora pins.a n inside byte;
  out_of_b = λ n c inside byte. port_bit c.ddrb c.orb 255 n inside byte ∙ ap (λ b. if bit c.ddrb n then bit c.orb n else b) (all_ones n inside);
  out_of_a = λ n c inside byte. port_bit c.ddra c.ora 255 n inside byte ∙ ap (λ b. if bit c.ddra n then bit c.ora n else b) (all_ones n inside);
}

-- ---- Accesses.

by_read : (f : Flag) (reg : ℕ) (c : State) → is_set f (read_leaves reg c).flags ≡ (is_set f c.flags && not (is_cleared f (read reg) c))
by_read timer_1 reg c = grind (arith, common_steps)
by_read timer_2 reg c = grind (arith, common_steps)
by_read line_cb1 reg c = grind (arith, common_steps)
by_read line_cb2 reg c = grind (arith, common_steps)
by_read shift_register reg c = grind (arith, common_steps)
by_read line_ca1 reg c = grind (arith, common_steps)
by_read line_ca2 reg c = grind (arith, common_steps)

and_on : (b : Bool) → b ≡ (b && true)
and_on true = refl
and_on false = refl

-- a law of each flag
each : (P : Flag → Type 0) → P timer_1 → P timer_2 → P line_cb1 → P line_cb2 → P shift_register → P line_ca1 → P line_ca2 → (f : Flag) → P f
each P t1 t2 cb1 cb2 sr ca1 ca2 timer_1 = t1
each P t1 t2 cb1 cb2 sr ca1 ca2 timer_2 = t2
each P t1 t2 cb1 cb2 sr ca1 ca2 line_cb1 = cb1
each P t1 t2 cb1 cb2 sr ca1 ca2 line_cb2 = cb2
each P t1 t2 cb1 cb2 sr ca1 ca2 shift_register = sr
each P t1 t2 cb1 cb2 sr ca1 ca2 line_ca1 = ca1
each P t1 t2 cb1 cb2 sr ca1 ca2 line_ca2 = ca2

-- a write of this register leaves the flag as it is, or clears it, as the data sheet's table says
IsAsTold : ℕ → ℕ → State → Flag → Type 0
IsAsTold reg v c f = is_set f (write_leaves reg v c).flags ≡ (is_set f c.flags && not (is_cleared f (write reg v) c))

at_orb : (v : ℕ) (c : State) (f : Flag) → IsAsTold 0 v c f
unfolding IsAsTold
at_orb v c f = grind arith

at_ora : (v : ℕ) (c : State) (f : Flag) → IsAsTold 1 v c f
unfolding IsAsTold
at_ora v c f = grind arith

at_t1_counter : (v : ℕ) (c : State) (f : Flag) → IsAsTold 5 v c f
unfolding IsAsTold
at_t1_counter v c f = grind arith

at_t1_latch : (v : ℕ) (c : State) (f : Flag) → IsAsTold 7 v c f
unfolding IsAsTold
at_t1_latch v c f = grind arith

at_t2_counter : (v : ℕ) (c : State) (f : Flag) → IsAsTold 9 v c f
unfolding IsAsTold
at_t2_counter v c f = grind arith

at_sr : (v : ℕ) (c : State) (f : Flag) → IsAsTold 10 v c f
unfolding IsAsTold
at_sr v c f = grind arith

at_ifr : (v : ℕ) (c : State) (f : Flag) → IsAsTold 13 v c f
unfolding IsAsTold
at_ifr v c = each (IsAsTold 13 v c) refl refl refl refl refl refl refl

-- a register whose writes clear no flag
record IsOther (reg : ℕ) : Type 0 where
  pub orb : (reg == 0) ≡ false
  pub ora : (reg == 1) ≡ false
  pub t1_counter : (reg == 5) ≡ false
  pub t1_latch : (reg == 7) ≡ false
  pub t2_counter : (reg == 9) ≡ false
  pub sr : (reg == 10) ≡ false
  pub ifr : (reg == 13) ≡ false

-- two branches that leave the flags
either : (b : Bool) (c x y : State) → x.flags ≡ c.flags → y.flags ≡ c.flags → (if b then x else y).flags ≡ c.flags
either true c x y p q = p
either false c x y p q = q

-- such a write leaves the flags
others_keep : (reg v : ℕ) (c : State) → IsOther reg → (write_leaves reg v c).flags ≡ c.flags
others_keep reg v c o =
    rw (o.orb, o.ora, o.t1_counter, o.t1_latch, o.t2_counter, o.sr, o.ifr)
    (either (reg == 2) c _ _ refl (either (reg == 3) c _ _ refl (either (reg == 4) c _ _ refl (either (reg == 6) c _ _ refl
    (either (reg == 8) c _ _ refl (either (reg == 11) c _ _ refl (either (reg == 12) c _ _ refl (either (reg == 14) c _ _ refl refl))))))))

none_cleared : (reg v : ℕ) (c : State) → IsOther reg → (f : Flag) → is_cleared f (write reg v) c ≡ false
none_cleared reg v c o f = grind arith

kept : (f : Flag) (reg v : ℕ) (c : State) → IsOther reg → IsAsTold reg v c f
unfolding IsAsTold
kept f reg v c o =
    ap (is_set f) (others_keep reg v c o) ∙ and_on (is_set f c.flags) ∙ ap (λ b. is_set f c.flags && not b) (sym (none_cleared reg v c o f))

-- this register or another
unless : (P : ℕ → Type 0) (n reg : ℕ) → P n → ((reg == n) ≡ false → P reg) → P reg
unless P n reg at other = grind arith

told : (f : Flag) (reg v : ℕ) (c : State) → IsAsTold reg v c f
told f reg v c =
    let P = λ (r : ℕ). IsAsTold r v c f in
    unless P 0 reg (at_orb v c f) (λ n0. unless P 1 reg (at_ora v c f) (λ n1. unless P 5 reg (at_t1_counter v c f) (λ n5.
    unless P 7 reg (at_t1_latch v c f) (λ n7. unless P 9 reg (at_t2_counter v c f) (λ n9. unless P 10 reg (at_sr v c f) (λ n10.
    unless P 13 reg (at_ifr v c f) (λ n13.
    kept f reg v c (assumption))))))))

by_write : (f : Flag) (reg v : ℕ) (c : State) → is_set f (write_leaves reg v c).flags ≡ (is_set f c.flags && not (is_cleared f (write reg v) c))
unfolding IsAsTold
by_write f reg v c = told f reg v c

by_step : (f : Flag) (p : Pins) (c : State) → is_set f c.flags ≡ true → is_set f (step p c).flags ≡ true
by_step f p c is = grind arith

both : (a b : Bool) → a ≡ true → b ≡ false → (a && not b) ≡ true
both a b is none = ap (λ x. x && not b) is ∙ ap not none

by_move : (f : Flag) (m : Move) (c : State) → is_set f c.flags ≡ true → is_cleared f m c ≡ false → is_set f (after_move m c).flags ≡ true
by_move f (microsecond pins) c is none = by_step f pins c is
by_move f (read reg) c is none = by_read f reg c ∙ both (is_set f c.flags) (is_cleared f (read reg) c) is none
by_move f (write reg v) c is none = by_write f reg v c ∙ both (is_set f c.flags) (is_cleared f (write reg v) c) is none

stays : (f : Flag) (moves : List Move) (c : State) → is_set f c.flags ≡ true → NoneClears f moves c → is_set f (after_moves moves c).flags ≡ true
stays f [] c is none = is
stays f (m ∷ moves) c is none = stays f moves (after_move m c) (by_move f m c is none.0) none.1

pub flags_are_cleared : FlagsAreCleared
flags_are_cleared = record { by_read = by_read; by_write = by_write; stays = stays; no_shift = λ pins c. refl }

-- ---- The bytes that show them.

one : Bool → ℕ
one b = if b then 1 else 0

small : (b : Bool) → one b < 2
unfolding one
small true = omega arith
small false = omega arith

weighs : (n : ℕ) (b : Bool) → weight n b ≡ n * one b
unfolding one
weighs n true = omega arith
weighs n false = omega arith

shown : (b : Bool) → (one b == 1) ≡ b
unfolding one
shown true = refl
shown false = refl

-- a byte of eight bits, the highest first
byte_of : (a b c d e f g h : Bool) → ℕ
byte_of a b c d e f g h = weight 128 a + (weight 64 b + weight 32 c + weight 16 d + weight 8 e + weight 4 f + weight 2 g + weight 1 h)

-- as digits
digits : (a b c d e f g h : Bool) → byte_of a b c d e f g h ≡ 128 * one a + 64 * one b + 32 * one c + 16 * one d + 8 * one e + 4 * one f + 2 * one g + one h
unfolding byte_of
digits a b c d e f g h = omega (arith, weighs)

record Digits (a b c d e f g h : Bool) : Type 0 where
  pub bit7 : bit (byte_of a b c d e f g h) 7 ≡ a
  pub bit6 : bit (byte_of a b c d e f g h) 6 ≡ b
  pub bit5 : bit (byte_of a b c d e f g h) 5 ≡ c
  pub bit4 : bit (byte_of a b c d e f g h) 4 ≡ d
  pub bit3 : bit (byte_of a b c d e f g h) 3 ≡ e
  pub bit2 : bit (byte_of a b c d e f g h) 2 ≡ f
  pub bit1 : bit (byte_of a b c d e f g h) 1 ≡ g
  pub bit0 : bit (byte_of a b c d e f g h) 0 ≡ h

has_digits : (a b c d e f g h : Bool) → Digits a b c d e f g h
has_digits a b c d e f g h =
    let digit : (n : ℕ) (b : Bool) → n ≡ one b → (n == 1) ≡ b = λ n b is. ap (λ k. k == 1) is ∙ shown b in
    record {
      bit7 = digit _ a (omega (arith, digits a b c d e f g h, small));
      bit6 = digit _ b (omega (arith, digits a b c d e f g h, small));
      bit5 = digit _ c (omega (arith, digits a b c d e f g h, small));
      bit4 = digit _ d (omega (arith, digits a b c d e f g h, small));
      bit3 = digit _ e (omega (arith, digits a b c d e f g h, small));
      bit2 = digit _ f (omega (arith, digits a b c d e f g h, small));
      bit1 = digit _ g (omega (arith, digits a b c d e f g h, small));
      bit0 = digit _ h (omega (arith, digits a b c d e f g h, small));
    }

-- a register of flags, with something in bit 7
flag_bit : (top : Bool) (s : InterruptFlags) (f : Flag) → bit (weight 128 top + causes_byte s) (bit_of f) ≡ is_set f s
unfolding byte_of
flag_bit top s =
    let is = has_digits top s.timer1 s.timer2 s.cb1 s.cb2 s.shift s.ca1 s.ca2 in
    each (λ f. bit (weight 128 top + causes_byte s) (bit_of f) ≡ is_set f s) is.bit6 is.bit5 is.bit4 is.bit3 is.bit2 is.bit1 is.bit0

top_bit : (top : Bool) (s : InterruptFlags) → bit (weight 128 top + causes_byte s) 7 ≡ top
unfolding byte_of
top_bit top s = (has_digits top s.timer1 s.timer2 s.cb1 s.cb2 s.shift s.ca1 s.ca2).bit7

-- one of seven
some_of : (a b c d e f g : Bool) → (a || b || c || d || e || f || g) ≡ (a || (b || (c || (d || (e || (f || (g || false)))))))
some_of a b c d e f g = grind arith

line : (c : State) → asks c ≡ some_enabled c
line c =
    some_of (c.flags.timer1 && c.enabled.timer1) (c.flags.timer2 && c.enabled.timer2) (c.flags.cb1 && c.enabled.cb1) (c.flags.cb2 && c.enabled.cb2)
    (c.flags.shift && c.enabled.shift) (c.flags.ca1 && c.enabled.ca1) (c.flags.ca2 && c.enabled.ca2)

-- the effect of a write to IER on a flag
marked : (up mark before : Bool) → (if up then before || mark else before && not mark) ≡ (if mark then up else before)
marked up mark before = grind arith

set_by : (up : Bool) (v : ℕ) (s : InterruptFlags) (f : Flag) →
    is_set f (if up then set_marked v s else clear_marked v s) ≡ (if up then is_set f s || bit v (bit_of f) else is_set f s && not (bit v (bit_of f)))
set_by up v s f = grind arith

pub flags_are_shown : FlagsAreShown
flags_are_shown = record {
  flag = λ f pins c. flag_bit (asks c) c.flags f;
  top = λ pins c. top_bit (asks c) c.flags ∙ line c;
  line = line;
  enabled = λ f pins c. flag_bit true c.enabled f;
  always = λ pins c. top_bit true c.enabled;
  enabling = λ f v c. set_by (bit v 7) v c.enabled f ∙ marked (bit v 7) (bit v (bit_of f)) (is_set f c.enabled);
}
