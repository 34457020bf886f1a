-- The names given for outputs.
use Rattle.std.specs.Prelude.{ℕ, List, Option, None}
use Rattle.cmd_words.specs.Given.{Values, wav_of, save_of}

-- Names are lists of bytes.
pub record Names : Type 0 where
  -- the name of all outputs without one of their own
  pub out : List ℕ
  -- the name of the sound file, if given
  pub wav : Option (List ℕ)
  -- the name of the session file, if given
  pub save : Option (List ℕ)

abbrev pub names_of : List ℕ → Values → Names
names_of out given = record { out = out; wav = wav_of given; save = save_of given }

-- one name for all outputs
abbrev pub one_name : List ℕ → Names
one_name out = record { out = out; wav = None; save = None }
