-- A text by its first line.
use Rattle.std.proofs.Common.{◌≡◌, refl, ℕ, suc, ◌+◌, ◌-◌, ◌<◌, ◌≤◌, List, [], ◌∷◌, length, take, drop, not, Bool, true, false, ◌==◌, arith, one-add}
use Rattle.std.specs.List.{prefix_len}
use Rattle.std.proofs.lemmas.List.{take_all, drop_all}
use Rattle.digits.specs.Lines.{text_lines}

-- the number of bytes before the first line feed
abbrev before_feed : List ℕ → ℕ
before_feed text = prefix_len (λ b. not (b == 10)) text

-- a text begins with the bytes up to its first line feed
abbrev Begins : List ℕ → Type 0
Begins text = text_lines text ≡ take (suc (before_feed text)) text ∷ text_lines (drop (suc (before_feed text)) text)

begins_with : (b : ℕ) (text : List ℕ) (t : Bool) → (b == 10) ≡ t → (0 < length text → Begins text) → Begins (b ∷ text)
begins_with b text true e rest = rw e
begins_with b [] false e rest = rw e
begins_with b (x ∷ text) false e rest =
    let more : before_feed (b ∷ x ∷ text) ≡ suc (before_feed (x ∷ text)) = rw e (one-add (before_feed (x ∷ text))) in
    rw more (rw (e, rest (omega arith)))

begins : (text : List ℕ) → 0 < length text → Begins text
begins [] h = absurd (omega arith)
begins (b ∷ text) h = begins_with b text (b == 10) refl (begins text)

-- the first line, if a line feed ends it
pub line_to_feed : (text : List ℕ) {front back : List ℕ} {n : ℕ} → 0 < length text → n ≡ before_feed text → front ≡ take (n + 1) text → back ≡ drop (n + 1) text
    → text_lines text ≡ front ∷ text_lines back
line_to_feed text {n = n} h e first rest = let more : n + 1 ≡ suc (before_feed text) = omega arith in rw (first, rest, more) (begins text h)

-- the first line, if the text ends with it
pub line_to_end : (text : List ℕ) (n : ℕ) → 0 < length text → n ≡ before_feed text → length text ≤ n
    → text_lines text ≡ text ∷ text_lines (take (length text - n) (drop n text))
line_to_end text n h e end =
    let none : length text - n ≡ 0 = omega arith in
    let all : take (suc (before_feed text)) text ≡ text = take_all (suc (before_feed text)) text (omega arith) in
    let past : drop (suc (before_feed text)) text ≡ [] = drop_all (suc (before_feed text)) text (omega arith) in
    rw none (rw (all, past) at (begins text h))
