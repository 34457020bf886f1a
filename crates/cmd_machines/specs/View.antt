-- The program's inputs, as the definitions see them.
use Rattle.std.specs.Prelude.{ℕ, List, map, option_map}
use Rattle.std.specs.declared.vec.Vec.{Vec}
use Rattle.std.specs.declared.alloc.Global.{Global}
use Rattle.bus_plug.specs.Plug.{Plug}
use Rattle.rom_set.specs.Roms.{roms_seen}
use Rattle.cmd_machines.specs.declared.inputs.Inputs.{Inputs}
use Rattle.cmd_machines.specs.declared.setup.Setup.{Setup}
use Rattle.cmd_machines.specs.Inputs as inputs
use Rattle.cmd_machines.specs.Setup as setups

abbrev pub items : Vec ℕ Global → List ℕ
items v = v.items

abbrev pub seen_inputs : Inputs → inputs.Inputs
seen_inputs i = record {
  trace = i.trace.items;
  source = i.source.items;
  image = i.image.items;
  state = i.state.items;
  os = i.os.items;
  tube = i.tube.items;
  roms = roms_seen i.roms.items;
  font = option_map items i.font;
  disc0 = option_map items i.disc0;
  disc1 = option_map items i.disc1;
  keys = option_map items i.keys;
  points = option_map items i.points;
}

-- the setup of the machines; plug gives the view of a plugged device
abbrev pub seen_setup : {D : Type 0} → (D → Plug) → Setup D → setups.Setup
seen_setup plug s = setups.setup s.clock s.kinds s.number (map plug s.plugs.items) s.tube
