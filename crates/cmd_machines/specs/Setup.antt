-- The setup of the machines, from the options.
use Rattle.std.specs.Prelude.{ℕ, Bool, List, take}
use Rattle.beeb_bits.specs.declared.clock.Clock.{Clock}
use Rattle.disc_image.specs.declared.Kind.{Kind}
use Rattle.bus_plug.specs.Plug.{Plug}
use Rattle.cmd_words.specs.Given.{Values, clock_of, plugs_of, tube_of}
use Rattle.cmd_words.specs.Discs.{kinds_of}

pub record Setup : Type 0 where
  pub clock : Clock
  -- the kinds of the discs in drive 0 and drive 1
  pub kinds : Kind × Kind
  -- the number of devices asked for
  pub number : ℕ
  -- the devices that are plugged
  pub plugs : List Plug
  -- true if the host has a Tube, which a pair always has
  pub tube : Bool

abbrev pub setup : Clock → Kind × Kind → ℕ → List Plug → Bool → Setup
setup clock kinds number plugs tube = record { clock = clock; kinds = kinds; number = number; plugs = plugs; tube = tube }

-- The first plugs_of given of the given devices are plugged, or all if they are fewer.
abbrev pub setup_of : Values → List Plug → Setup
setup_of given plugs = setup (clock_of given) (kinds_of given) (plugs_of given) (take (plugs_of given) plugs) (tube_of given)
