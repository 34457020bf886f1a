-- The addressable latch of the system VIA, and the keyboard's answers by it. (BBC Microcomputer
-- Advanced User Guide, The system VIA.)
use Rattle.std.specs.Prelude.{ℕ, ◌%◌, Bool, false, List, slice_set, slice_index_or, Some, None, if◌then◌else◌}
use Rattle.beeb_bits.specs.Bits.{bit}
use Rattle.keyboard.specs.Keys.{Keys, any}

-- A write to port B: bit `p AND 7` of the latch becomes bit 3 of p, the pins of port B.
abbrev pub latch_after : ℕ → List Bool → List Bool
latch_after p latch = slice_set latch (p % 8) (bit p 3)

abbrev pub latch_bit : ℕ → List Bool → Bool
latch_bit n latch = slice_index_or latch n false

-- Bit 3, keyboard write enable, is active low. If it is set, the keyboard scans its columns by
-- itself.
abbrev pub scans_itself : List Bool → Bool
scans_itself latch = latch_bit 3 latch

-- Port A bit 7: the state of the key whose number is port A bits 0 to 6, or 0 while the keyboard
-- scans by itself.
abbrev pub port_a_bit_7 : List Bool → ℕ → Keys → Bool
port_a_bit_7 latch port_a keys = if scans_itself latch then false else keys (port_a % 128)

-- CA2: a key of rows 1 to 7 is down in the column of port A bits 0 to 3. While the keyboard scans
-- by itself, the key may be in any column.
abbrev pub ca2 : List Bool → ℕ → Keys → Bool
ca2 latch port_a keys = any (if scans_itself latch then None else Some (port_a % 16)) keys

-- The bytes of the screen, by bits 5 and 4.
abbrev pub screen_size : List Bool → ℕ
screen_size latch =
    if latch_bit 5 latch then (if latch_bit 4 latch then 10240 else 20480) else (if latch_bit 4 latch then 8192 else 16384)
