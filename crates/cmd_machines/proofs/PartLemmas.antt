-- The inputs of a session's machines: slots that rise and are below 16, and a script within a
-- session's limit.
use Rattle.std.proofs.Common.{◌≡◌, ◌∙◌, sym, refl, ap, subst, ℕ, zero, suc, ◌+◌, ◌<◌, ◌≤◌, length, map, slice_index_or, get_or, IsTrue}
use Rattle.std.proofs.Common.{List, [], ◌∷◌, ◌++◌, Option, Some, None, option_map, Result, Ok, Err, IfOk, IfSome, arith}
use Rattle.std.proofs.lemmas.Bool.Decides.{nat_tests}
use Rattle.std.proofs.lemmas.Simd.{map-map}
use Rattle.std.specs.List.{All, range_with_len, filter_map}
use Rattle.std.specs.declared.vec.Vec.{Vec}
use Rattle.std.specs.declared.alloc.Global.{Global}
use Rattle.rom_set.specs.Roms.{Rom, rom_seen}
use Rattle.cmd_words.specs.declared.keys.InputKind.{InputKind}
use Rattle.cmd_words.specs.declared.keys.InputKind.TheVariants as slots
use Rattle.cmd_words.specs.Reads.{rom_slot, rise_from}
use Rattle.cmd_words.proofs.InputKindLemmas.{left_out, taken}
use Rattle.cmd_stages.specs.Plan.{Want, AreWithin}
use Rattle.save_state.specs.declared.Kind.TheVariants as parts
use Rattle.save_state.specs.Saved.{Session}
use Rattle.save_state.specs.File.{IsPart, IsSession, part}
use Rattle.cmd_machines.specs.Inputs.{Inputs, no_inputs, inputs_of}
use Rattle.cmd_machines.specs.Sessions.{part_slots, if_there, there, inputs_in}
use Rattle.cmd_machines.specs.View.{items, seen_inputs}
use Rattle.cmd_machines.specs.declared.inputs.Inputs as held
use Rattle.cmd_machines.proofs.ReadLemmas.{numbers_of, numbers_read, IsCapped, AreCapped, ShortKeys, all_short as short_read}

-- ---- the slots of the paged ROMs

abbrev these : List (InputKind × List ℕ) → List ℕ
these list = filter_map rom_slot (map (λ (one : InputKind × List ℕ). one.0) list)

-- those that are present rise as the slots do
rise : (low : ℕ) (all : List InputKind) (ps : List (Option (List ℕ))) → IsTrue (rise_from low (filter_map rom_slot all)) →
    IsTrue (rise_from low (these (there all ps)))
rise low [] ps rises = refl
rise low (slot ∷ all) [] rises = refl
rise low (slot ∷ all) (None ∷ ps) rises = rise low all ps (left_out low (rom_slot slot) (filter_map rom_slot all) rises)
rise low (slot ∷ all) (Some bytes ∷ ps) rises = taken low (rom_slot slot) (filter_map rom_slot all) (these (there all ps)) (λ from. rise from all ps) rises

pub roms_rise : (s : Session) → IsTrue (rise_from 0 (numbers_of (inputs_in s).roms))
unfolding inputs_in inputs_of part_slots
roms_rise s = subst (λ (ns : List ℕ). IsTrue (rise_from 0 ns)) (sym (numbers_read (there part_slots s.parts) no_inputs)) (rise 0 part_slots s.parts refl)

-- slots that rise are below 16
pub below_at : (xs : List (ℕ × Vec ℕ Global)) (low : ℕ) → IsTrue (rise_from low (map (λ (x : ℕ × Vec ℕ Global). x.0) xs)) →
    (k : ℕ) (d : ℕ × Vec ℕ Global) → k < length xs → (get_or xs k d).0 < 16
below_at [] low rises k d h = absurd (omega (arith, h))
below_at (x ∷ xs) low rises zero d h = grind (arith, nat_tests)
below_at (x ∷ xs) low rises (suc k) d h =
    let later : IsTrue (rise_from (x.0 + 1) (map (λ (x : ℕ × Vec ℕ Global). x.0) xs)) = grind (arith, nat_tests) in below_at xs (x.0 + 1) later k d
    (omega (arith, h))

-- ---- the length of the key script

-- the parts that are present as files to read, without names, each with its length as the limit
abbrev wants_of : List (InputKind × List ℕ) → List (Want InputKind)
wants_of list = map (λ (x : InputKind × List ℕ). (x.0, [], length x.1)) list

all_within : (list : List (InputKind × List ℕ)) → AreWithin (wants_of list) list
all_within [] = tt
all_within (x ∷ list) = (refl, omega arith, all_within list)

one_part : (slot : InputKind) (p : Option (List ℕ)) (more : List (InputKind × List ℕ)) → ((bytes : List ℕ) → p ≡ Some bytes → IsCapped slot (length bytes)) →
    AreCapped (wants_of more) → AreCapped (wants_of (if_there slot p ++ more))
one_part slot None more capped each = each
one_part slot (Some bytes) more capped each = (capped bytes refl, each)

-- slots whose parts may be of any length
abbrev AreFree : List InputKind → Type 0
AreFree [] = Unit {0}
AreFree (slot ∷ slots) = ((cap : ℕ) → IsCapped slot cap) × AreFree slots

each_there : (front : List InputKind) (ps : List (Option (List ℕ))) → AreFree front →
    ((bytes : List ℕ) → slice_index_or ps (length front) None ≡ Some bytes → length bytes ≤ 1048576) →
    AreCapped (wants_of (there (front ++ slots.Keys ∷ []) ps))
each_there [] [] free keys = tt
each_there [] (p ∷ ps) free keys = one_part slots.Keys p (there [] ps) keys tt
each_there (slot ∷ front) [] free keys = tt
each_there (slot ∷ front) (p ∷ ps) free keys =
    one_part slot p (there (front ++ slots.Keys ∷ []) ps) (λ bytes is. free.0 (length bytes)) (each_there front ps free.1 keys)

abbrev front_slots : List InputKind
front_slots = slots.Os ∷ slots.Tube ∷ map slots.Rom (range_with_len 0 16) ++ slots.Font ∷ slots.Disc 0 ∷ slots.Disc 1 ∷ []

free_front : AreFree front_slots
free_front = omega arith

keys_part : (p : Option (List ℕ)) (bytes : List ℕ) → IsPart parts.Keys p → p ≡ Some bytes → length bytes ≤ 1048576
keys_part None bytes is some = cc
keys_part (Some body) bytes is some = grind (arith, nat_tests)

pub keys_stand : (s : Session) → IsPart parts.Keys (part s 21) → ShortKeys (inputs_in s)
unfolding inputs_in inputs_of part_slots
keys_stand s keys =
    let list : List (InputKind × List ℕ) = there part_slots s.parts in
    short_read (wants_of list) list no_inputs (all_within list)
    (each_there front_slots s.parts free_front (λ bytes some. keys_part (part s 21) bytes keys some)) tt

-- the slots that contracts see of some inputs
pub numbers_seen : (i : held.Inputs) → map (λ (x : ℕ × Vec ℕ Global). x.0) i.roms.items ≡ numbers_of (seen_inputs i).roms
numbers_seen i = sym (map-map (λ (r : Rom). r.slot) rom_seen i.roms.items)

pub keys_held : (keys : Option (Vec ℕ Global)) → IfSome (option_map items keys) (λ keys. length keys ≤ 1048576) → IfSome keys (λ keys. length keys.items ≤ 1048576)
keys_held None short = tt
keys_held (Some bytes) short = short

module _ (i : held.Inputs) (s : Session) (keeps : IsSession s) (is : seen_inputs i ≡ inputs_in s) where
  slots_low : All (λ (slot : ℕ × Vec ℕ Global). slot.0 < 16) i.roms.items
  slots_low =
      let numbers : map (λ (x : ℕ × Vec ℕ Global). x.0) i.roms.items ≡ numbers_of (inputs_in s).roms =
      numbers_seen i ∙ ap (λ (x : Inputs). numbers_of x.roms) is in
      below_at i.roms.items 0 (rw numbers (roms_rise s))

  keys_short : IfSome i.keys (λ keys. length keys.items ≤ 1048576)
  keys_short = keys_held i.keys (subst ShortKeys (sym is) (keys_stand s keeps.keys))

module _ (list : List (InputKind × List ℕ)) (ps : List (Option (List ℕ))) (listed : list ≡ there part_slots ps) (s : Session) (keeps : IsSession s) (same : s.parts ≡ ps) where
  made : inputs_of list ≡ inputs_in s
  unfolding inputs_in
  made = ap inputs_of (listed ∙ ap (there part_slots) (sym same))

  pub all_low : {E : Type 0} (r : Result held.Inputs E) → IfOk r (λ i. seen_inputs i ≡ inputs_of list) → IfOk r (λ i. All (λ (slot : ℕ × Vec ℕ Global). slot.0 < 16) i.roms.items)
  all_low (Ok i) is = slots_low i s keeps (is ∙ made)
  all_low (Err e) is = tt

  pub all_short : {E : Type 0} (r : Result held.Inputs E) → IfOk r (λ i. seen_inputs i ≡ inputs_of list) → IfOk r (λ i. IfSome i.keys (λ keys. length keys.items ≤ 1048576))
  all_short (Ok i) is = keys_short i s keeps (is ∙ made)
  all_short (Err e) is = tt
