-- The slots of the paged ROMs among the files that a command reads.
use Rattle.std.proofs.Common.{refl, ℕ, ◌+◌, ◌≤◌, List, [], ◌∷◌, ◌++◌, map, Option, Some, None, IsTrue, arith}
use Rattle.std.proofs.lemmas.Bool.Decides.{nat_tests}
use Rattle.std.specs.List.{filter_map, cons_option}
use Rattle.cmd_words.specs.declared.keys.InputKind.{InputKind}
use Rattle.cmd_words.specs.Keys.{Value, file, Key, keys}
use Rattle.cmd_words.specs.Given.{Values}
use Rattle.cmd_words.specs.Command.{Command, replay, solo, run, follow}
use Rattle.cmd_words.specs.Reads.{reads, file_of, files_of, rom_slot, rise_from, HaveRomSlots, IsLimited, IsWithin}

-- numbers that rise from one number on rise from a smaller one on
from_below : (low high : ℕ) (ns : List ℕ) → low ≤ high → IsTrue (rise_from high ns) → IsTrue (rise_from low ns)
from_below low high [] le rises = refl
from_below low high (n ∷ ns) le rises = grind (arith, nat_tests)

-- the slot of a paged ROM, by its key
abbrev key_slot : Value → Option ℕ
key_slot (file slot) = rom_slot slot
key_slot value = None

abbrev slots_of : List Key → List ℕ
slots_of [] = []
slots_of (k ∷ ks) = cons_option (key_slot k.value) (slots_of ks)

abbrev slots_read : List (InputKind × List ℕ × ℕ) → List ℕ
slots_read ws = filter_map rom_slot (map (λ w. w.0) ws)

pub left_out : (low : ℕ) (o : Option ℕ) (ns : List ℕ) → IsTrue (rise_from low (cons_option o ns)) → IsTrue (rise_from low ns)
left_out low None ns rises = rises
left_out low (Some n) ns rises = let le : low ≤ n + 1 = grind (arith, nat_tests) in from_below low (n + 1) ns le (grind (arith, nat_tests))

pub taken : (low : ℕ) (o : Option ℕ) (ns ms : List ℕ) → ((from : ℕ) → IsTrue (rise_from from ns) → IsTrue (rise_from from ms)) →
    IsTrue (rise_from low (cons_option o ns)) → IsTrue (rise_from low (cons_option o ms))
taken low None ns ms more rises = more low rises
taken low (Some n) ns ms more rises = let later = more (n + 1) (grind (arith, nat_tests)) in grind (arith, nat_tests)

file_rises : (value : Value) (v : Option (List ℕ)) (ns : List ℕ) (ws : List (InputKind × List ℕ × ℕ)) (low : ℕ) →
    ((from : ℕ) → IsTrue (rise_from from ns) → IsTrue (rise_from from (slots_read ws))) →
    IsTrue (rise_from low (cons_option (key_slot value) ns)) → IsTrue (rise_from low (slots_read (file_of value v ++ ws)))
file_rises (file slot) (Some name) ns ws low more rises = taken low (rom_slot slot) ns (slots_read ws) more rises
file_rises (file slot) None ns ws low more rises = more low (left_out low (rom_slot slot) ns rises)
file_rises value v ns ws low more rises = more low rises

files_rise : (ks : List Key) (vs : Values) (low : ℕ) → IsTrue (rise_from low (slots_of ks)) → IsTrue (rise_from low (slots_read (files_of ks vs)))
files_rise [] vs low rises = refl
files_rise (k ∷ ks) [] low rises = refl
files_rise (k ∷ ks) (v ∷ vs) low rises = file_rises k.value v (slots_of ks) (files_of ks vs) low (files_rise ks vs) rises

keys_rise : IsTrue (rise_from 0 (slots_of keys))
unfolding keys
keys_rise = refl

-- the paged ROMs that a command reads have different slots
have_rom_slots : (c : Command) → HaveRomSlots (map (λ w. w.0) (reads c))
have_rom_slots (replay side trace ticks out given) = files_rise keys given 0 keys_rise
have_rom_slots (solo ticks out keep given) = files_rise keys given 0 keys_rise
have_rom_slots (run ticks out keep given) = files_rise keys given 0 keys_rise
have_rom_slots (follow side trace ticks out given) = files_rise keys given 0 keys_rise
have_rom_slots command = refl

pub is_within : (c : Command) → IsLimited c → IsWithin c
is_within c few = record { ticks = few.0; keep = few.1; roms = have_rom_slots c }
