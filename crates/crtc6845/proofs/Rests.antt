-- Clocks of a quiet chip.
use Rattle.std.proofs.Common.{◌≡◌, ◌∙◌, sym, ap, refl, ℕ, zero, suc, ◌+◌, ◌-◌, ◌*◌, ◌/◌, ◌%◌, ◌^◌, ◌<◌, ◌≤◌, ◌≢◌, ◌==◌, ◌⊎◌, Bool, true, false, arith, inl, inr}
use Rattle.std.specs.Prelude.{if◌then◌else◌}
use Rattle.std.proofs.lemmas.Bool.{cases_lt}
use Rattle.std.proofs.lemmas.Bool.Decides.{nat_tests}
use Rattle.std.proofs.Math.Nat.{mod-add-mod, div-add-mod}
use Rattle.crtc6845.specs.State.{Registers, State}
use Rattle.crtc6845.specs.Clock.{starts_line, is_shown, has_cursor, ends_row, ends_frame, sync_height, start_leaves, finishes_frame, count_leaves, clock_leaves, beam_told, is_in_sync}
use Rattle.crtc6845.specs.Laws.{clocks}
use Rattle.crtc6845.specs.CodeSteps.{is_quiet, quiet_beam}
use Rattle.crtc6845.specs.Rests.{frames_in, clocks_past_frame, sync_after, RestsOn}
use Rattle.crtc6845.proofs.Lines.{start_leaves-kept}

-- the line ends, and the next one starts from the same state
counted_rest : (c : State) → is_quiet c ≡ true → count_leaves c ≡ c
counted_rest c h = grind (arith, nat_tests)

-- a quiet chip with this number of lines of sync left
abbrev timed : State → ℕ → ℕ → State
timed c s f = record c { sync_lines = s; fields = f }

timed_rests : (c : State) (s f : ℕ) → is_quiet c ≡ true → is_quiet (timed c s f) ≡ true
timed_rests c s f h = grind (arith, nat_tests)

quiet_told : (c d : State) → starts_line c ≡ true → is_quiet d ≡ true → beam_told c d ≡ quiet_beam (finishes_frame c) d
quiet_told c d start h =
    let cursor : has_cursor d ≡ false = grind (arith, nat_tests) in
    let shown : is_shown d ≡ false = grind (arith, nat_tests) in
    let row_end : ends_row d ≡ false = grind (arith, nat_tests) in
    let restart : ends_frame d ≡ true = grind (arith, nat_tests) in
    rw (start, cursor, shown, row_end, restart) refl

-- Each clock has the same outputs.
pub rests_on : (c : State) → is_quiet c ≡ true → RestsOn c
rests_on c h =
    let d = start_leaves c in
    let start : starts_line c ≡ true = grind (arith, nat_tests) in
    let kept = start_leaves-kept c in
    let rest : is_quiet d ≡ true = rw kept (timed_rests c d.sync_lines d.fields h) in
    let is : clock_leaves c ≡ d = counted_rest d rest in
    record { rest = rw is rest; stays = rw is kept; told = rw is (quiet_told c d start rest) }

step_on : (c : State) (s f : ℕ) → is_quiet c ≡ true → (1 < s) ⊎ (c.registers.vertical_sync_position ≢ 0) →
    (clock_leaves (timed c s f) ≡ timed c (s - 1) f) × (finishes_frame (timed c s f) ≡ false)
step_on c s f h goes = grind (arith, nat_tests)

step_new : (c : State) (s f : ℕ) → is_quiet c ≡ true → c.registers.vertical_sync_position ≡ 0 → s ≤ 1 →
    (clock_leaves (timed c s f) ≡ timed c (sync_height c.registers) ((f + 1) % 2 ^ 32)) × (finishes_frame (timed c s f) ≡ true)
step_new c s f h first few = grind (arith, nat_tests)

-- the state after n clocks, and their frames
pub record Run (n before : ℕ) (c d : State) (x y : ℕ) : Type 0 where
  pub state : clocks n c ≡ d
  pub frames : frames_in n c ≡ x
  pub past : clocks_past_frame n before c ≡ y

-- one clock, and then those
ahead : (n before : ℕ) (c d e : State) (b : Bool) (frames past : ℕ) → clock_leaves c ≡ d → finishes_frame c ≡ b → Run n (if b then 0 else before + 1) d e frames past →
    Run (suc n) before c e ((if b then 1 else 0) + frames) past
ahead n before c d e b frames past step ends run =
    record { state = rw step run.state; frames = rw (ends, step, run.frames) refl; past = rw (ends, step) run.past }

-- clocks without the beginning of sync
within : (n before : ℕ) (c : State) (s f : ℕ) → is_quiet c ≡ true → (n < s) ⊎ (c.registers.vertical_sync_position ≢ 0) →
    Run n before (timed c s f) (timed c (s - n) f) 0 (before + n)
within zero before c s f h goes =
    let e : s - 0 ≡ s = omega arith in
    record { state = rw e refl; frames = refl; past = omega arith }
within (suc n) before c s f h goes =
    let one = step_on c s f h (elim goes [ inl p ↦ inl (omega arith) | inr p ↦ inr p ]) in
    let rest = within n (before + 1) c (s - 1) f h (elim goes [ inl p ↦ inl (omega arith) | inr p ↦ inr p ]) in
    let e : s - 1 - n ≡ s - suc n = omega arith in
    let g : before + 1 + n ≡ before + suc n = omega arith in
    rw (e, g) at (ahead n before (timed c s f) (timed c (s - 1) f) (timed c (s - 1 - n) f) false 0 (before + 1 + n) one.0 one.1 rest)

-- the clocks up to the next beginning, that one, and those after it
turn : (n m before : ℕ) (c e : State) (s f frames past : ℕ) → is_quiet c ≡ true → c.registers.vertical_sync_position ≡ 0 → s ≤ n + 1 → n < s ⊎ (n ≡ 0) →
    Run m 0 (timed c (sync_height c.registers) ((f + 1) % 2 ^ 32)) e frames past →
    Run (n + suc m) before (timed c s f) e (1 + frames) past
turn zero m before c e s f frames past h first few some run =
    let one = step_new c s f h first (omega arith) in
    let z : suc m ≡ 0 + suc m = omega arith in
    rw z at (ahead m before (timed c s f) _ e true frames past one.0 one.1 run)
turn (suc n) m before c e s f frames past h first few some run =
    let more : suc n < s = elim some [ inl p ↦ p | inr p ↦ absurd (omega arith) ] in
    let one = step_on c s f h (inl (omega arith)) in
    let rest = turn n m (before + 1) c e (s - 1) f frames past h first (omega arith) (inl (omega arith)) run in
    let z : suc (n + suc m) ≡ suc n + suc m = omega arith in
    let y : 0 + (1 + frames) ≡ 1 + frames = omega arith in
    rw (z, y) at (ahead (n + suc m) before (timed c s f) (timed c (s - 1) f) e false (1 + frames) past one.0 one.1 rest)

tall : (r : Registers) → 1 ≤ sync_height r
tall r = grind (arith, nat_tests)

-- whole heights of sync, and clocks of the last one
turns : (q m : ℕ) (c : State) (f : ℕ) → is_quiet c ≡ true → c.registers.vertical_sync_position ≡ 0 → m < sync_height c.registers →
    Run (sync_height c.registers * q + m) 0 (timed c (sync_height c.registers) (f % 2 ^ 32)) (timed c (sync_height c.registers - m) ((f + q) % 2 ^ 32)) q m
turns zero m c f h first small =
    let height = sync_height c.registers in
    let z : height * 0 + m ≡ m = omega arith in
    let y : 0 + m ≡ m = omega arith in
    let x : f + 0 ≡ f = omega arith in
    rw (z, x) (rw y at (within m 0 c height (f % 2 ^ 32) h (inl small)))
turns (suc q) m c f h first small =
    let height = sync_height c.registers in
    let some = tall c.registers in
    let next : (f % 2 ^ 32 + 1) % 2 ^ 32 ≡ (f + 1) % 2 ^ 32 = mod-add-mod f (2 ^ 32) 1 in
    let x : f + suc q ≡ f + 1 + q = omega arith in
    let w : height * suc q ≡ height * q + height = grind arith in
    let z : height * suc q + m ≡ height - 1 + suc (height * q + m) = omega arith in
    let y : suc q ≡ 1 + q = omega arith in
    let to : State = timed c (height - m) ((f + 1 + q) % 2 ^ 32) in
    let all : Run (height - 1 + suc (height * q + m)) 0 (timed c height (f % 2 ^ 32)) to (1 + q) m =
    turn (height - 1) (height * q + m) 0 c to height (f % 2 ^ 32) q m h first (omega arith) (inl (omega arith)) (rw next (turns q m c (f + 1) h first small)) in
    rw (z, x, y) all

-- vertical sync is on
on_yes : (c : State) → 0 < c.sync_lines → is_in_sync c ≡ true
on_yes c h = grind (arith, nat_tests)

on_always : (k : ℕ) (c : State) (s f : ℕ) → is_quiet c ≡ true → c.registers.vertical_sync_position ≡ 0 → 0 < s → is_in_sync (clocks k (timed c s f)) ≡ true
on_always zero c s f h first on = on_yes (timed c s f) on
on_always (suc k) c s f h first on =
    let up = tall c.registers in
    elim (cases_lt 1 s) [
      | inl more ↦ ap (λ (d : State). is_in_sync (clocks k d)) (step_on c s f h (inl more)).0 ∙ on_always k c (s - 1) f h first (omega arith)
      | inr last ↦ ap (λ (d : State). is_in_sync (clocks k d)) (step_new c s f h first (omega arith)).0 ∙ on_always k c (sync_height c.registers) ((f + 1) % 2 ^ 32) h first (omega arith)
    ]

pub calm_always : (c : State) → is_quiet c ≡ true → c.registers.vertical_sync_position ≡ 0 → 0 < c.sync_lines → (k : ℕ) → is_in_sync (clocks k c) ≡ is_in_sync c
calm_always c h first on k = on_always k c c.sync_lines c.fields h first on ∙ sym (on_yes c on)

pub calm_within : (c : State) → is_quiet c ≡ true → c.registers.vertical_sync_position ≢ 0 → (k : ℕ) → (k < c.sync_lines) ⊎ (c.sync_lines ≡ 0) →
    is_in_sync (clocks k c) ≡ is_in_sync c
calm_within c h other k goes = rw (within k 0 c c.sync_lines c.fields h (inr other)).state (grind (arith, nat_tests))

pub rest_other : (n : ℕ) (c : State) → is_quiet c ≡ true → (n < c.sync_lines) ⊎ (c.registers.vertical_sync_position ≢ 0) → Run n 0 c (record c { sync_lines = c.sync_lines - n }) 0 n
rest_other n c h goes = let z : 0 + n ≡ n = omega arith in rw z at (within n 0 c c.sync_lines c.fields h goes)

-- n clocks, some of which begin sync
pub rest_turns : (n left : ℕ) (c : State) → is_quiet c ≡ true → c.registers.vertical_sync_position ≡ 0 → c.sync_lines ≤ left → 1 ≤ left → left ≤ n →
    (left ≡ c.sync_lines) ⊎ (left ≡ 1) →
    Run n 0 c (sync_after (n - left) c) (1 + (n - left) / sync_height c.registers) ((n - left) % sync_height c.registers)
rest_turns n left c h first most some fits is =
    let height = sync_height c.registers in
    let up = tall c.registers in
    let past = n - left in
    let q = past / height in
    let m = past % height in
    let split : height * q + m ≡ past = div-add-mod past height in
    let to : State = timed c (height - m) ((c.fields + 1 + q) % 2 ^ 32) in
    let rest : Run past 0 (timed c height ((c.fields + 1) % 2 ^ 32)) to q m = rw split at (turns q m c (c.fields + 1) h first (omega arith)) in
    let z : left - 1 + suc past ≡ n = omega arith in
    rw z at (turn (left - 1) past 0 c to c.sync_lines c.fields q m h first (omega arith) (elim is [ inl p ↦ inl (omega arith) | inr p ↦ inr (omega arith) ]) rest)

-- the clocks past a frame, counted from any number
pub past_from : (n y : ℕ) (c : State) → clocks_past_frame n y c ≡ (if frames_in n c == 0 then y + n else clocks_past_frame n 0 c)
past_from zero y c = omega arith
past_from (suc n) y c = past_step (finishes_frame c) n y (clock_leaves c) (past_from n (y + 1) (clock_leaves c)) (past_from n (0 + 1) (clock_leaves c))
  where
    past_step : (b : Bool) (n y : ℕ) (d : State) → clocks_past_frame n (y + 1) d ≡ (if frames_in n d == 0 then y + 1 + n else clocks_past_frame n 0 d) →
        clocks_past_frame n (0 + 1) d ≡ (if frames_in n d == 0 then 0 + 1 + n else clocks_past_frame n 0 d) →
        clocks_past_frame n (if b then 0 else y + 1) d
        ≡ (if (if b then 1 else 0) + frames_in n d == 0 then y + suc n else clocks_past_frame n (if b then 0 else 0 + 1) d)
    past_step b n y d here there = grind (arith, nat_tests)
