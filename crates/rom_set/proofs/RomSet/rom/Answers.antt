use Rattle.std.proofs.Common.{◌∙◌, ap, sym, arith}
use Rattle.std.proofs.lemmas.Grind.{common_steps}
use Rattle.rom_set.specs.Roms.{Roms, roms_seen, font_seen, rom_byte, byte_in}
use Rattle.rom_set.specs.Places.{in_this}
use Rattle.rom_set.proofs.Found.{kept, absent, held, long, shown}
use Rattle.rom_set.proofs.RomSet.rom.Goals as goal

pub index-requires : goal.index-requires
index-requires c =
    let r = c.self.inside in
    let low = held r.slots.items (in_this c.args.slot) c.in-Some.place (kept r.slots.items c.args.slot (c.self.invariant.1 c.args.slot c.requires) c.in-Some.is) in
    grind (arith, common_steps, low)

pub returns-in-Some-clause-bytes : goal.returns-in-Some-clause-bytes
returns-in-Some-clause-bytes c = λ at.
    let r = c.self.inside in
    let here = kept r.slots.items c.args.slot (c.self.invariant.1 c.args.slot c.requires) c.in-Some.is in
    sym (shown r.slots.items c.args.slot at c.in-Some.place c.index.result.now c.deref.result.now here c.index.ensures c.deref.ensures.value
    ∙ ap (λ (x : Roms). rom_byte x.slots c.args.slot at) c.self.view_is)

pub returns-in-Some-clause-length : goal.returns-in-Some-clause-length
returns-in-Some-clause-length c =
    let r = c.self.inside in
    let here = kept r.slots.items c.args.slot (c.self.invariant.1 c.args.slot c.requires) c.in-Some.is in
    long r.os.items r.slots.items (font_seen r.font) (in_this c.args.slot) c.in-Some.place c.index.result.now c.deref.result.now c.self.invariant.0 here c.index.ensures c.deref.ensures.value

pub returns-in-None-clause-bytes : goal.returns-in-None-clause-bytes
returns-in-None-clause-bytes c = λ at.
    let r = c.self.inside in
    let none = absent (in_this c.args.slot) (roms_seen r.slots.items) 0 (sym (c.self.invariant.1 c.args.slot c.requires) ∙ c.in-None.is) in
    sym (sym (ap (λ o. byte_in o at) none)
    ∙ ap (λ (x : Roms). rom_byte x.slots c.args.slot at) c.self.view_is)
