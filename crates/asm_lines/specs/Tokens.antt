-- The code of a line of a source text, and its tokens.
use Rattle.std.specs.Prelude.{ℕ, ◌==◌, ◌&&◌, ◌||◌, nat_le, Bool, not, List, [], ◌∷◌, take_while, if◌then◌else◌}
use Rattle.digits.specs.Decimal.{is_digit}

-- neither a line feed nor `;`, which begins a comment
abbrev pub is_code : ℕ → Bool
is_code b = not (b == 10) && not (b == 59)

-- a line up to its comment or its line feed
abbrev pub code_of : List ℕ → List ℕ
code_of line = take_while is_code line

abbrev pub is_letter : ℕ → Bool
is_letter b = (nat_le 65 b && nat_le b 90) || (nat_le 97 b && nat_le b 122)

-- a letter, a digit or `_`
abbrev pub is_word_byte : ℕ → Bool
is_word_byte b = is_letter b || is_digit b || b == 95

-- a space or a tab
abbrev pub is_blank : ℕ → Bool
is_blank b = b == 32 || b == 9

pub data Token : Type 0 where
  -- a run of letters, digits and `_`
  word : (run : List ℕ) → Token
  -- `&` and the run directly after it, which may be empty
  hex : (run : List ℕ) → Token
  -- `:`
  colon : Token
  -- `,`
  comma : Token
  -- `#`
  hash : Token
  -- `(`
  left : Token
  -- `)`
  right : Token
  -- `<`
  low : Token
  -- `>`
  high : Token
  -- `+`
  plus : Token
  -- a byte of any other kind
  other : Token

-- the token of a single byte
abbrev pub mark : ℕ → Token
mark b =
    if b == 58 then colon
    else if b == 44 then comma
    else if b == 35 then hash
    else if b == 40 then left
    else if b == 41 then right
    else if b == 60 then low
    else if b == 62 then high
    else if b == 43 then plus
    else other

-- Bytes as a run at their beginning, which may be empty, and the tokens after it.
pub record Cut : Type 0 where
  pub run : List ℕ
  pub tokens : List Token

-- the run as a word, if it has a byte
abbrev pub word_before : List ℕ → List Token → List Token
word_before [] tokens = tokens
word_before (b ∷ run) tokens = word (b ∷ run) ∷ tokens

abbrev pub tokens_of_cut : Cut → List Token
tokens_of_cut c = word_before c.run c.tokens

-- a cut with a byte added at its front
abbrev pub cut_with : ℕ → Cut → Cut
cut_with b c =
    if is_word_byte b then record { run = b ∷ c.run; tokens = c.tokens }
    else if b == 38 then record { run = []; tokens = hex c.run ∷ c.tokens }
    else if is_blank b then record { run = []; tokens = tokens_of_cut c }
    else record { run = []; tokens = mark b ∷ tokens_of_cut c }

abbrev pub cut_of : List ℕ → Cut
cut_of [] = record { run = []; tokens = [] }
cut_of (b ∷ bytes) = cut_with b (cut_of bytes)

-- The tokens of the code of a line. Blanks separate words, and may come between any tokens.
abbrev pub tokens_of : List ℕ → List Token
tokens_of bytes = tokens_of_cut (cut_of bytes)
