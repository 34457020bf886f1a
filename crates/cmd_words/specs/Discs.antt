-- The kinds of the discs in both drives, by the names of their images.
use Rattle.std.specs.Prelude.{ℕ, ◌-◌, Bool, List, drop, length, Option, Some, None, if◌then◌else◌, codes}
use Rattle.std.specs.Str.{bytes_eq}
use Rattle.disc_image.specs.declared.Kind.{Kind}
use Rattle.disc_image.specs.declared.Kind.TheVariants.{Ssd, Dsd}
use Rattle.cmd_words.specs.Given.{Values, value_of}

-- the name ends in `.dsd`
abbrev pub is_dsd : List ℕ → Bool
is_dsd name = bytes_eq (drop (length name - 4) name) (codes ".dsd")

-- A name that ends in `.dsd` is that of a DSD. Any other is that of an SSD.
abbrev pub kind_of : List ℕ → Kind
kind_of name = if is_dsd name then Dsd else Ssd

-- The kind does not matter if there is no disc.
abbrev pub kind_in : Option (List ℕ) → Kind
kind_in None = Ssd
kind_in (Some name) = kind_of name

-- the kinds of the discs in drive 0 and drive 1, by the values of their keys
abbrev pub kinds_of : Values → Kind × Kind
kinds_of values = (kind_in (value_of values (codes "--disc0")), kind_in (value_of values (codes "--disc1")))
