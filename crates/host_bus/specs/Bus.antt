-- The bus of the host: the board, and the plugged devices on FRED and JIM.
use Rattle.std.specs.Prelude.{ℕ, Bool, true, false, List, Option, if◌then◌else◌}
use Rattle.beeb_bits.specs.declared.clock.Clock.{Clock}
use Rattle.bus_plug.specs.Plug.{Plug}
use Rattle.rom_set.specs.Roms.{Roms}
use Rattle.disc_image.specs.Image.{Image}
use Rattle.wd1770.specs.Select.{disc_of}
use Rattle.key_script.specs.declared.Event.{Event}
use Rattle.host_devices.specs.Map.{Place, Plugs, place_of}
use Rattle.host_bus.specs.Board.{BoardState, board_closed, answer_at, read_at, written_at, board_irq, board_nmis, break_pending, next_break, break_taken, first_board}
use Rattle.host_bus.specs.Plugs.{plugs_answer, plugs_after_read, plugs_after_write}

pub record BusState : Type 0 where
  pub board : BoardState
  pub plugs : List Plug

-- the length of its ticks
abbrev pub clock_of : BusState → Clock
clock_of b = b.board.clock

-- all device steps below tick t are done, and all that were done before
abbrev pub bus_closed : BusState → ℕ → BusState
bus_closed b t = record b { board = board_closed b.board t }

-- the tick where the bus is closed: all steps below it are done
abbrev pub closed_at : BusState → ℕ
closed_at b = b.board.closed

abbrev pub is_plugs : Place → Bool
is_plugs Plugs = true
is_plugs _ = false

-- an access to a plugged device is one call of the first that owns the address; every other access
-- is the board's
abbrev pub answer_of : Place → BusState → ℕ → ℕ → ℕ
answer_of place b t at = if is_plugs place then plugs_answer b.plugs at else answer_at place b.board t at

abbrev pub after_read_of : Place → BusState → ℕ → BusState
after_read_of place b at =
    if is_plugs place then record b { plugs = plugs_after_read b.plugs at } else record b { board = read_at place at b.board }

abbrev pub after_write_of : Place → BusState → ℕ → ℕ → BusState
after_write_of place b at v =
    if is_plugs place then record b { plugs = plugs_after_write b.plugs at v } else record b { board = written_at place at v b.board }

-- the answer of a read at tick t, and the bus after an access
abbrev pub bus_answer : BusState → ℕ → ℕ → ℕ
bus_answer b t at = answer_of (place_of at) b t at

abbrev pub bus_after_read : BusState → ℕ → BusState
bus_after_read b at = after_read_of (place_of at) b at

abbrev pub bus_after_write : BusState → ℕ → ℕ → BusState
bus_after_write b at v = after_write_of (place_of at) b at v

-- the lines to the processor: the interrupt request of the devices, and the number of rises of the
-- NMI line
abbrev pub bus_irq : BusState → Bool
bus_irq b = board_irq b.board

abbrev pub bus_nmis : BusState → ℕ
bus_nmis b = board_nmis b.board

-- A break is pending at a tick; and the tick of the first that was not taken.
abbrev pub bus_break_pending : BusState → ℕ → Bool
bus_break_pending b t = break_pending b.board t

abbrev pub bus_next_break : BusState → Option ℕ
bus_next_break b = next_break b.board

-- the bus after every break up to a tick was taken; no plugged device sees a break
abbrev pub bus_break_taken : BusState → ℕ → BusState
bus_break_taken b t = record b { board = break_taken b.board t }

-- the disc in a drive
abbrev pub bus_disc : ℕ → BusState → Option Image
bus_disc drive b = disc_of drive b.board.devices.disc

-- the bus at power-on, by its clock, images, discs of both drives, script and plugged devices
abbrev pub bus_power_on : Clock → Roms → Option Image → Option Image → List Event → List Plug → BusState
bus_power_on clock roms d0 d1 script plugs = record { board = first_board clock roms d0 d1 script; plugs = plugs }
