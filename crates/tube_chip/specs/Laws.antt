-- What holds of the definitions themselves.
use Rattle.std.specs.Prelude.{◌≡◌, List}
use Rattle.beeb_bits.specs.declared.Side.TheVariants.{Host, Para}
use Rattle.tube_chip.specs.Events.{Event, Rises, merge, of_side}

-- a list that rises by event order is the merge of its two sides
abbrev pub RisingListIsMerge : Type 0
RisingListIsMerge = (events : List Event) → Rises events → merge (of_side Host events) (of_side Para events) ≡ events
