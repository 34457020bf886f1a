-- The slots of the paged ROMs that a command read.
use Rattle.std.proofs.Common.{◌≡◌, ◌∙◌, sym, ap, subst, ℕ, ◌<◌, ◌≤◌, List, map, length, IfSome}
use Rattle.std.specs.List.{All, filter_map}
use Rattle.std.specs.declared.vec.Vec.{Vec}
use Rattle.std.specs.declared.alloc.Global.{Global}
use Rattle.cmd_words.specs.declared.keys.InputKind.{InputKind}
use Rattle.cmd_words.specs.Keys.{keys}
use Rattle.cmd_words.specs.Command.{Command, replay, solo, run, follow, gen}
use Rattle.cmd_words.specs.Reads.{reads, rom_slot, HaveRomSlots}
use Rattle.cmd_stages.specs.Plan.{Want, Inputs, AreWithin}
use Rattle.cmd_machines.specs.Inputs as inputs
use Rattle.cmd_machines.specs.View.{seen_inputs}
use Rattle.cmd_machines.specs.declared.inputs.Inputs as held
use Rattle.cmd_machines.proofs.PartLemmas.{keys_held, below_at, numbers_seen}
use Rattle.cmd_machines.proofs.ReadLemmas.{numbers_of, same_slots, numbers_read, AreCapped, ShortKeys, all_short, files_capped}

-- The paged ROMs read by a plan have slots below 16 if those of the plan have.
pub slots_below : (ws : List (Want InputKind)) (list : Inputs InputKind) (i : held.Inputs) → AreWithin ws list → HaveRomSlots (map (λ (w : Want InputKind). w.0) ws) →
    seen_inputs i ≡ inputs.inputs_of list → All (λ (slot : ℕ × Vec ℕ Global). slot.0 < 16) i.roms.items
unfolding inputs.inputs_of
slots_below ws list i fits rise is =
    let wanted : map (λ (x : ℕ × Vec ℕ Global). x.0) i.roms.items ≡ filter_map rom_slot (map (λ (w : Want InputKind). w.0) ws) =
    numbers_seen i ∙ ap (λ (x : inputs.Inputs). numbers_of x.roms) is ∙ numbers_read list inputs.no_inputs
    ∙ ap (λ (slots : List InputKind). filter_map rom_slot slots) (same_slots ws list fits) in
    below_at i.roms.items 0 (rw wanted rise)

-- ---- the length of the key script

-- of each command
pub all_capped : (c : Command) → AreCapped (reads c)
all_capped (replay side trace ticks out given) = (tt, files_capped keys given)
all_capped (solo ticks out keep given) = files_capped keys given
all_capped (run ticks out keep given) = files_capped keys given
all_capped (follow side trace ticks out given) = (tt, files_capped keys given)
all_capped (gen seed) = tt
all_capped c = (tt, tt)

-- the script that a command read is no longer than a session's
pub keys_short : (c : Command) (list : Inputs InputKind) (i : held.Inputs) → AreWithin (reads c) list → seen_inputs i ≡ inputs.inputs_of list →
    IfSome i.keys (λ keys. length keys.items ≤ 1048576)
unfolding inputs.inputs_of
keys_short c list i fits is = keys_held i.keys (subst ShortKeys (sym is) (all_short (reads c) list inputs.no_inputs fits (all_capped c) tt))
