-- The time during which vertical sync does not change, from one clock to the next.
use Rattle.std.proofs.Common.{◌≡◌, ◌∙◌, sym, ap, subst, refl, ℕ, zero, suc, ◌+◌, ◌-◌, ◌*◌, ◌%◌, ◌<◌, ◌≤◌, ◌≢◌, ◌==◌, false, arith, inl, inr}
use Rattle.std.specs.Prelude.{if◌then◌else◌, nat_lt}
use Rattle.std.proofs.lemmas.Bool.{cases_lt}
use Rattle.std.proofs.lemmas.Bool.Decides.{nat_tests}
use Rattle.std.proofs.Math.Nat.{mul-le-mul_right}
use Rattle.crtc6845.specs.State.{Registers, State}
use Rattle.crtc6845.specs.Clock.{starts_line, begins_sync, sync_counted, start_leaves, line_ended, count_leaves, clock_leaves, is_in_sync}
use Rattle.crtc6845.specs.Laws.{clocks, line_characters}
use Rattle.crtc6845.specs.Calm.{Fits, clocks_to_line, lines_before_sync, quiet_lines, quiet_lines_by, calm_of}
use Rattle.crtc6845.proofs.Lines.{clock_in, clock_leaves-registers, clock_leaves-last, clock_leaves-ended}
use Rattle.crtc6845.proofs.SyncLines.{count_leaves-sync}
use Rattle.crtc6845.proofs.Calm.{Moves, line_moves, step_down}

-- one clock lowers the number by at most one, and does not change sync
pub record Calms (c d : State) : Type 0 where
  pub sync : is_in_sync d ≡ is_in_sync c
  pub calm : calm_of c ≤ calm_of d + 1

abbrev lines_of : State → ℕ
lines_of c = quiet_lines_by (is_in_sync c) c

-- a clock that does not start or end a line
inner : (c : State) → c.character < 256 → c.registers.horizontal_total < 256 → c.character ≢ 0 → c.character ≢ c.registers.horizontal_total →
    calm_of c ≤ calm_of (record c { character = (c.character + 1) % 256 }) + 1
inner c fits wide apart end = grind (arith, nat_tests)

-- a clock that starts a line, and does not end it: no sync begins
not_begun : (c : State) → c.character ≡ 0 → 1 ≤ calm_of c → begins_sync (sync_counted c) ≡ false
not_begun c start some = grind (arith, nat_tests)

clock_from : (c : State) → c.character ≡ 0 → c.registers.horizontal_total ≢ 0 → begins_sync (sync_counted c) ≡ false →
    clock_leaves c ≡ record c { character = 1; sync_lines = c.sync_lines - 1 }
clock_from c start wide off = grind (arith, nat_tests)

some_lines : (c : State) → c.character ≡ 0 → 1 ≤ calm_of c → 1 ≤ lines_of c
some_lines c start some = elim (cases_lt 0 (lines_of c)) [
  | inl more ↦ more
  | inr none ↦
      let z : lines_of c * line_characters c.registers ≤ 0 * line_characters c.registers = mul-le-mul_right (line_characters c.registers) none in
      let at : clocks_to_line c ≡ 0 = grind (arith, nat_tests) in
      absurd (omega arith)
]

starting : (c : State) → c.character ≡ 0 → c.registers.horizontal_total ≢ 0 → 1 ≤ calm_of c → Calms c (record c { character = 1; sync_lines = c.sync_lines - 1 })
starting c start wide some =
    let d : State = record c { character = 1; sync_lines = c.sync_lines - 1 } in
    let lines = some_lines c start some in
    let less : lines_of c ≤ lines_of d + 1 = grind (arith, nat_tests) in
    let all = step_down (lines_of c) (lines_of d) (line_characters c.registers) less in
    let here : clocks_to_line c ≡ 0 = grind (arith, nat_tests) in
    let there : clocks_to_line d + 1 ≡ line_characters c.registers = grind (arith, nat_tests) in
    record { sync = grind (arith, nat_tests); calm = omega arith }

-- a clock that ends a line: the lines that are left of s lines of sync, or of q lines without it
abbrev left : ℕ → ℕ → ℕ
left s q = if nat_lt 0 s then s - 1 else q

same_left : (s q n p : ℕ) → q ≤ n - 1 → n ≤ p + 1 → left s q ≤ left s p
same_left s q n p most next = grind (arith, nat_tests)

less_left : (s q n p : ℕ) → q ≤ n → n ≤ p + 1 → 1 ≤ left s q → (nat_lt 0 (s - 1) ≡ nat_lt 0 s) × (left s q ≤ left (s - 1) p + 1)
less_left s q n p most next some = grind (arith, nat_tests)

quiet_first : (c : State) → c.character ≡ 0 → (clocks_to_line c ≡ 0) × (quiet_lines c ≤ lines_before_sync c)
quiet_first c start = grind (arith, nat_tests)

quiet_last : (c : State) → 0 < c.character → c.character ≡ c.registers.horizontal_total → (clocks_to_line c ≡ 1) × (quiet_lines c ≤ lines_before_sync c - 1)
quiet_last c inside end = grind (arith, nat_tests)

quiet_next : (n : ℕ) (d : State) → d.character ≡ 0 → (2 ≤ n → Moves n d) → n ≤ quiet_lines d + 1
quiet_next n d start moves = elim (cases_lt n 2) [
  | inl few ↦ omega arith
  | inr more ↦
      let m = moves more in
      let e : quiet_lines d ≡ lines_before_sync d = rw (start, m.0) refl in
      omega (arith, m.1)
]

ending : (c d : State) → d.registers ≡ c.registers → d.sync_lines ≡ (if starts_line c then c.sync_lines - 1 else c.sync_lines) → d.character ≡ 0 →
    c.character ≡ c.registers.horizontal_total → (c.character ≡ 0 → 1 ≤ lines_of c) → (2 ≤ lines_before_sync c → Moves (lines_before_sync c) d) → Calms c d
ending c d regs sync start end some moves =
    let w = line_characters c.registers in
    let to = (quiet_first d start).0 in
    let there : lines_of d * line_characters d.registers ≡ lines_of d * w = ap (λ (r : Registers). lines_of d * line_characters r) regs in
    let next = quiet_next (lines_before_sync c) d start moves in
    elim (cases_lt 0 c.character) [
      | inl inside ↦
          let here = quiet_last c inside end in
          let same : d.sync_lines ≡ c.sync_lines = sync ∙ rw (other c.character inside) refl in
          let less : lines_of c ≤ lines_of d = rw same (same_left c.sync_lines _ _ _ here.1 next) in
          let all = mul-le-mul_right w less in
          record { sync = rw same refl; calm = omega (arith, here.0) }
      | inr first ↦
          let zeroth : c.character ≡ 0 = omega arith in
          let here = quiet_first c zeroth in
          let same : d.sync_lines ≡ c.sync_lines - 1 = sync ∙ rw zeroth refl in
          let less = less_left c.sync_lines _ _ _ here.1 next (some zeroth) in
          let fewer : lines_of c ≤ lines_of d + 1 = rw same less.1 in
          let all = step_down (lines_of c) (lines_of d) w fewer in
          record { sync = rw same less.0; calm = omega (arith, here.0) }
    ]
  where
    other : (k : ℕ) → 0 < k → (k == 0) ≡ false
    other k h = grind (arith, nat_tests)

pub clock_calms : (c : State) → Fits c → 1 ≤ calm_of c → Calms c (clock_leaves c)
clock_calms c f some =
    let total = c.registers.horizontal_total in
    let regs = clock_leaves-registers c in
    let same = count_leaves-sync (start_leaves c) in
    elim (cases_lt 0 c.character) [
      | inl inside ↦
          let in_line : c.character ≢ total → Calms c (clock_leaves c) = λ other.
          rw (clock_in c (λ e. omega (arith, e)) other) (record { sync = refl; calm = inner c f.character f.bits.horizontal_total (λ e. omega (arith, e)) other }) in
          elim (cases_lt c.character total) [
            | inl p ↦ in_line (λ e. omega (arith, e))
            | inr p ↦ elim (cases_lt total c.character) [
              | inl q ↦ in_line (λ e. omega (arith, e))
              | inr q ↦
                  let last : c.character ≡ total = omega arith in
                  let is : start_leaves c ≡ c = grind (arith, nat_tests) in
                  let ended : clock_leaves c ≡ line_ended c = (clock_leaves-ended c last).0 ∙ ap (λ (d : State). line_ended d) is in
                  ending c (clock_leaves c) regs (grind (arith, nat_tests)) (clock_leaves-last c last) last (λ e. absurd (omega (arith, e)))
                  (λ two. subst (λ (d : State). Moves (lines_before_sync c) d) (sym ended) (line_moves c f.bits f.row two))
            ]
          ]
      | inr at ↦
          let start : c.character ≡ 0 = omega arith in
          let off = not_begun c start some in
          elim (cases_lt 0 total) [
            | inl more ↦ rw (clock_from c start (λ e. omega (arith, e)) off) (starting c start (λ e. omega (arith, e)) some)
            | inr none ↦
                let last : c.character ≡ total = omega arith in
                let is : start_leaves c ≡ sync_counted c = grind (arith, nat_tests) in
                let ended : clock_leaves c ≡ line_ended (sync_counted c) = (clock_leaves-ended c last).0 ∙ ap (λ (d : State). line_ended d) is in
                ending c (clock_leaves c) regs (grind (arith, nat_tests)) (clock_leaves-last c last) last (λ e. some_lines c start some)
                (λ two. subst (λ (d : State). Moves (lines_before_sync c) d) (sym ended) (line_moves (sync_counted c) f.bits f.row two))
          ]
    ]

count_leaves-fits : (c : State) → (count_leaves c).character < 256
count_leaves-fits c = grind arith

pub stays_in_sync : (n : ℕ) (c : State) → Fits c → n ≤ calm_of c → is_in_sync (clocks n c) ≡ is_in_sync c
stays_in_sync zero c f h = refl
stays_in_sync (suc n) c f h =
    let one = clock_calms c f (omega arith) in
    let calm = one.calm in
    let e = clock_leaves-registers c in
    let fits : Fits (clock_leaves c) = record {
      character = count_leaves-fits (start_leaves c);
      bits = rw e f.bits;
      row = subst (λ (r : Registers). r.vertical_sync_position < 128) (sym e) f.row;
    } in
    stays_in_sync n (clock_leaves c) fits (omega arith) ∙ one.sync
