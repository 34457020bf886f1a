-- The bytes of the RAM card, access by access.
use Rattle.std.proofs.Common.{◌≡◌, ◌∙◌, sym, ap, refl, ℕ, ◌<◌, ◌≤◌, ◌==◌, ◌&&◌, Bool, List, [], ◌∷◌, length, get_or}
use Rattle.std.proofs.Common.{length-set, arith}
use Rattle.std.specs.Prelude.{slice_set, if◌then◌else◌}
use Rattle.std.proofs.lemmas.Bool.{eq-eqb, ne_eqb, le-leb, lt-leb}
use Rattle.std.proofs.lemmas.Grind.{common_steps}
use Rattle.beeb_bits.specs.Zeros.{zeros-long, zeros-at}
use Rattle.bus_plug.specs.Plug.{Plug, plug_answer}
use Rattle.bus_plug.specs.RamCard.{is_page_register, is_in_page, card_place, card_rules, clear, new_card}
use Rattle.law_chips.specs.Cards.{Access, read, write, after_access, after_accesses, IsAccess, AreAccesses, page_after, last_page, byte_after, last_written}
use Rattle.law_chips.specs.Cards.{CardRemembers}

-- a card with this page selected, and these bytes
card : ℕ → List ℕ → Plug
card page bytes = record { rules = card_rules; state = page ∷ bytes }

-- the bytes after an access
bytes_after : ℕ → Access → List ℕ → List ℕ
bytes_after page (read at) bytes = bytes
bytes_after page (write at v) bytes =
    if is_page_register at then bytes else if is_in_page at then slice_set bytes (card_place page at) v else bytes

parted : (register inside : Bool) (page v : ℕ) (bytes stored : List ℕ) →
    (if register then v ∷ bytes else if inside then page ∷ stored else page ∷ bytes)
    ≡ (if register then v else page) ∷ (if register then bytes else if inside then stored else bytes)
parted register inside page v bytes stored = grind arith

one_access : (a : Access) (page : ℕ) (bytes : List ℕ) → after_access a (card page bytes) ≡ card (page_after a page) (bytes_after page a bytes)
unfolding card bytes_after
one_access a page bytes = grind arith

-- the bytes keep their number

as_long : (a : Access) (page : ℕ) (bytes : List ℕ) → length (bytes_after page a bytes) ≡ length bytes
unfolding bytes_after
as_long a page bytes = grind (arith, length-set {A = ℕ})

page_is_byte : (a : Access) (page : ℕ) → IsAccess a → page < 256 → page_after a page < 256
page_is_byte a page is small = grind arith

-- the place of an address of JIM on a page
place_in : (page at : ℕ) → page < 256 → 0xFD00 ≤ at → at ≤ 0xFDFF → card_place page at < 65536
place_in page at small low high = omega arith

-- No two of them are the same.
places_differ : (page of to at : ℕ) → 0xFD00 ≤ to → to ≤ 0xFDFF → 0xFD00 ≤ at → at ≤ 0xFDFF → card_place of at ≡ card_place page to →
    (page ≡ of) × (to ≡ at)
places_differ page of to at low' high' low high same = omega arith

-- a write in JIM
stored : (page of to at v : ℕ) (bytes : List ℕ) → length bytes ≡ 65536 → page < 256 → 0xFD00 ≤ to → to ≤ 0xFDFF → 0xFD00 ≤ at → at ≤ 0xFDFF →
    (if (page == of) && (to == at) then v else get_or bytes (card_place of at) 0) ≡ get_or (slice_set bytes (card_place page to) v) (card_place of at) 0
stored page of to at v bytes long small low' high' low high = grind (arith, common_steps)

-- a write outside JIM leaves its bytes
elsewhere : (page of to at v b : ℕ) → to < 0xFD00 → 0xFD00 ≤ at → (if (page == of) && (to == at) then v else b) ≡ b
elsewhere page of to at v b out low = grind arith

one_byte : (a : Access) (page of at : ℕ) (bytes : List ℕ) → IsAccess a → length bytes ≡ 65536 → page < 256 → 0xFD00 ≤ at → at ≤ 0xFDFF →
    byte_after page of at a (get_or bytes (card_place of at) 0) ≡ get_or (bytes_after page a bytes) (card_place of at) 0
unfolding bytes_after
one_byte a page of at bytes is long small low high = grind (arith, ne_eqb, le-leb, stored, eq-eqb, elsewhere, lt-leb)

-- the answers in JIM, and of the page register
in_jim : (page at : ℕ) (bytes : List ℕ) → 0xFD00 ≤ at → plug_answer (card page bytes) at ≡ get_or bytes (card_place page at) 0
unfolding card
in_jim page at bytes low = grind arith

remembers : (accesses : List Access) (page at : ℕ) (bytes : List ℕ) → AreAccesses accesses → length bytes ≡ 65536 → page < 256 → 0xFD00 ≤ at → at ≤ 0xFDFF →
    plug_answer (after_accesses accesses (card page bytes)) at
    ≡ last_written page (last_page accesses page) at accesses (get_or bytes (card_place (last_page accesses page) at) 0)
remembers [] page at bytes are long small low high = in_jim page at bytes low
remembers (a ∷ accesses) page at bytes are long small low high =
    let of = last_page accesses (page_after a page) in
    ap (λ p. plug_answer (after_accesses accesses p) at) (one_access a page bytes)
    ∙ remembers accesses (page_after a page) at (bytes_after page a bytes) are.1 (as_long a page bytes ∙ long) (page_is_byte a page are.0 small) low high
    ∙ ap (last_written (page_after a page) of at accesses) (sym (one_byte a page of at bytes are.0 long small low high))

shows_page : (accesses : List Access) (page : ℕ) (bytes : List ℕ) → plug_answer (after_accesses accesses (card page bytes)) 0xFCFF ≡ last_page accesses page
unfolding card
shows_page [] page bytes = refl
shows_page (a ∷ accesses) page bytes =
    ap (λ p. plug_answer (after_accesses accesses p) 0xFCFF) (one_access a page bytes) ∙ shows_page accesses (page_after a page) (bytes_after page a bytes)

-- at power-on all bytes are 00
begins : new_card ≡ card 0 clear
unfolding card
begins = refl

pub card_remembers : CardRemembers
card_remembers = record {
  bytes = λ accesses at are low high.
      ap (λ p. plug_answer (after_accesses accesses p) at) begins
      ∙ remembers accesses 0 at clear are (zeros-long 65536) (omega arith) low high
      ∙ ap (last_written 0 (last_page accesses 0) at accesses) (zeros-at 65536 (card_place (last_page accesses 0) at));
  page = λ accesses are. ap (λ p. plug_answer (after_accesses accesses p) 0xFCFF) begins ∙ shows_page accesses 0 clear;
}
