-- The printer latch: one address that stores the bytes written to it. (Profile.)
use Rattle.std.specs.Prelude.{ℕ, ◌%◌, ◌==◌, nat_lt, List, [], ◌∷◌, ◌++◌, length, if◌then◌else◌}
use Rattle.bus_plug.specs.Plug.{Rules, Plug}

-- Its state is the stored bytes. A write stores the byte, up to 65,536 of them. Later ones are
-- ignored.
abbrev pub latch_written : List ℕ → ℕ → ℕ → List ℕ
latch_written kept at v = if nat_lt (length kept) 65536 then kept ++ v ∷ [] else kept

-- A read gives the low byte of the number of stored bytes.
abbrev pub latch_rules : Rules
latch_rules = record {
  owned = λ kept at. at == 0xFC10;
  read_answer = λ kept at. length kept % 256;
  read_next = λ kept at. kept;
  write_next = latch_written;
  spilled = λ kept. kept;
}

-- at power-on no byte is stored
abbrev pub new_latch : Plug
new_latch = record { rules = latch_rules; state = [] }
