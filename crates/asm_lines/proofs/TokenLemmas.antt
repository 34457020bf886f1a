-- The run at the front of code, and the tokens after it.
use Rattle.std.proofs.Common.{◌≡◌, refl, ap, ℕ, ◌-◌, ◌<◌, ◌≤◌, List, [], ◌∷◌, length, take, drop, Bool, true, false, arith, one-add}
use Rattle.std.specs.List.{prefix_len}
use Rattle.std.proofs.lemmas.List.{take_all, length-drop}
use Rattle.asm_lines.specs.Tokens.{Cut, cut_of, cut_with, tokens_of_cut, tokens_of, is_word_byte}

-- a byte of no run ends it
no_run : (b : ℕ) (c : Cut) → is_word_byte b ≡ false → (cut_with b c).run ≡ []
no_run b c e = grind arith

no_word : (c : Cut) → c.run ≡ [] → c.tokens ≡ tokens_of_cut c
no_word c e = rw e

-- The run is the longest at the front, and the other tokens are those of the code after it.
abbrev RunIs : List ℕ → ℕ → Type 0
RunIs code n = ((cut_of code).run ≡ take n code) × ((cut_of code).tokens ≡ tokens_of (drop n code))

run_in : (b : ℕ) (code : List ℕ) (t : Bool) → is_word_byte b ≡ t → RunIs code (prefix_len is_word_byte code)
    → RunIs (b ∷ code) (prefix_len is_word_byte (b ∷ code))
run_in b code true e rest = rw (e, one-add (prefix_len is_word_byte code)) (ap (λ run. b ∷ run) rest.0, rest.1)
run_in b code false e rest =
    let none : prefix_len is_word_byte (b ∷ code) ≡ 0 = rw e in
    rw none (no_run b (cut_of code) e, no_word (cut_with b (cut_of code)) (no_run b (cut_of code) e))

pub run_is : (code : List ℕ) (n : ℕ) → n ≡ prefix_len is_word_byte code → RunIs code n
run_is code n e = rw e (all code)
  where
    all : (code : List ℕ) → RunIs code (prefix_len is_word_byte code)
    all [] = (refl, refl)
    all (b ∷ code) = run_in b code (is_word_byte b) refl (all code)

pub run_rest : (code : List ℕ) (n : ℕ) → n ≡ prefix_len is_word_byte code → n ≤ length code
    → (cut_of code).tokens ≡ tokens_of (take (length code - n) (drop n code))
run_rest code n e within =
    let all : take (length code - n) (drop n code) ≡ drop n code = take_all _ _ (omega (arith, length-drop n code)) in
    rw all (run_is code n e).1

-- the run of a word has a byte
pub word_has_byte : (first : ℕ) (behind code run : List ℕ) → code ≡ first ∷ behind → true ≡ is_word_byte first → (cut_of code).run ≡ run → 0 < length run
word_has_byte first behind code run e is r = rw (← r, e, ← is) (omega arith)
