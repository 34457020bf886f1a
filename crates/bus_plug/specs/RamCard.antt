-- The RAM card: a page register, and the pages of a memory of 65,536 bytes. (Profile. BBC
-- Microcomputer Advanced User Guide, the 1 MHz bus: JIM is one page, which a register at FCFF
-- selects.)
use Rattle.std.specs.Prelude.{ℕ, ◌+◌, ◌-◌, ◌*◌, ◌==◌, ◌||◌, nat_le, Bool, List, [], ◌∷◌, slice_index, slice_set, if◌then◌else◌}
use Rattle.beeb_bits.specs.Zeros.{zeros}
use Rattle.bus_plug.specs.Plug.{Rules, Plug}

-- its addresses
abbrev pub is_page_register : ℕ → Bool
is_page_register at = at == 0xFCFF

abbrev pub is_in_page : ℕ → Bool
is_in_page at = nat_le 0xFD00 at

-- the place in the memory of an address from FD00 on, on a page
abbrev pub card_place : ℕ → ℕ → ℕ
card_place page at = page * 256 + (at - 0xFD00)

-- Its state is the page register, and then the 65,536 bytes. Other addresses are not the card's: a
-- read there is FF.
abbrev pub card_answer : List ℕ → ℕ → ℕ
card_answer [] at = 0xFF
card_answer (page ∷ bytes) at =
    if is_page_register at then page
    else if is_in_page at then slice_index bytes (card_place page at)
    else 0xFF

abbrev pub card_written : List ℕ → ℕ → ℕ → List ℕ
card_written [] at v = []
card_written (page ∷ bytes) at v =
    if is_page_register at then v ∷ bytes
    else if is_in_page at then page ∷ slice_set bytes (card_place page at) v
    else page ∷ bytes

abbrev pub card_spilled : List ℕ → List ℕ
card_spilled [] = []
card_spilled (page ∷ bytes) = bytes

abbrev pub card_rules : Rules
card_rules = record {
  owned = λ state at. is_page_register at || is_in_page at;
  read_answer = card_answer;
  read_next = λ state at. state;
  write_next = card_written;
  spilled = card_spilled;
}

-- at power-on all bytes are 00
abbrev pub clear : List ℕ
clear = zeros 65536

abbrev pub new_card : Plug
new_card = record { rules = card_rules; state = 0 ∷ clear }
