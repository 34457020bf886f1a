-- A line, character by character.
use Rattle.std.proofs.Common.{◌≡◌, ◌∙◌, sym, ap, refl, ℕ, zero, suc, ◌+◌, ◌%◌, ◌<◌, ◌≤◌, ◌≢◌, true, add-zero, arith, inl, inr}
use Rattle.std.proofs.lemmas.Bool.{cases_lt}
use Rattle.std.proofs.lemmas.Bool.Decides.{nat_tests}
use Rattle.std.proofs.Math.Nat.{add-mod_left, mod-eq_of_lt}
use Rattle.crtc6845.specs.State.{Registers, State}
use Rattle.crtc6845.specs.Clock.{start_leaves, ends_line, is_last_line, ends_frame, line_ended, clock_leaves}
use Rattle.crtc6845.specs.Laws.{clocks}

-- the start of a line changes only the counts of sync lines and of fields
pub start_leaves-kept : (c : State) → start_leaves c ≡ record c { sync_lines = (start_leaves c).sync_lines; fields = (start_leaves c).fields }
start_leaves-kept c = grind arith

pub start_leaves-registers : (c : State) → (start_leaves c).registers ≡ c.registers
start_leaves-registers c = grind arith

pub clock_leaves-registers : (c : State) → (clock_leaves c).registers ≡ c.registers
clock_leaves-registers c = grind arith

-- a clock that does not start or end a line
pub clock_in : (c : State) → c.character ≢ 0 → c.character ≢ c.registers.horizontal_total → clock_leaves c ≡ record c { character = (c.character + 1) % 256 }
clock_in c start end = grind (arith, nat_tests)

-- the last character of a line is followed by character 0, and another one by the next
pub clock_leaves-last : (c : State) → c.character ≡ c.registers.horizontal_total → (clock_leaves c).character ≡ 0
clock_leaves-last c h = grind (arith, nat_tests)

pub clock_leaves-inner : (c : State) → c.character < c.registers.horizontal_total → c.registers.horizontal_total < 256 →
    clock_leaves c ≡ record (start_leaves c) { character = c.character + 1 }
clock_leaves-inner c h small = grind (arith, nat_tests)

pub clock_leaves-ended : (c : State) → c.character ≡ c.registers.horizontal_total →
    (clock_leaves c ≡ line_ended (start_leaves c)) × (ends_frame (start_leaves c) ≡ is_last_line (start_leaves c))
clock_leaves-ended c h =
    let kept = start_leaves-kept c in
    let last : ends_line (start_leaves c) ≡ true = grind (arith, nat_tests) in
    (rw last refl, rw last refl)

-- n clocks after character h of a line
pub character_after : (total n h : ℕ) (c : State) → c.registers.horizontal_total ≡ total → total < 256 → c.character ≡ h → h ≤ total →
    (clocks n c).character ≡ (h + n) % (total + 1)
character_after total zero h c t small is within = is ∙ sym (rw add-zero (mod-eq_of_lt (omega arith)))
character_after total (suc n) h c t small is within =
    let kept : (clock_leaves c).registers.horizontal_total ≡ total = ap (λ (r : Registers). r.horizontal_total) (clock_leaves-registers c) ∙ t in
    elim (cases_lt h total) [
      | inl inner ↦
          let next : (clock_leaves c).character ≡ h + 1 = ap (λ (d : State). d.character) (clock_leaves-inner c (omega arith) (omega arith)) ∙ ap (λ k. k + 1) is in
          let e : h + 1 + n ≡ h + suc n = omega arith in
          rw (← e) (character_after total n (h + 1) (clock_leaves c) kept small next (omega arith))
      | inr last ↦
          let e : h + suc n ≡ (total + 1) + n = omega arith in
          let z : 0 + n ≡ n = omega arith in
          character_after total n 0 (clock_leaves c) kept small (clock_leaves-last c (omega arith)) (omega arith) ∙ rw (e, z) (sym (add-mod_left (total + 1) n))
    ]

pub clocks-registers : (n : ℕ) (c : State) → (clocks n c).registers ≡ c.registers
clocks-registers zero c = refl
clocks-registers (suc n) c = clocks-registers n (clock_leaves c) ∙ clock_leaves-registers c
