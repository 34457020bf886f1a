use Rattle.std.proofs.Common.{◌∙◌, ap, sym, arith}
use Rattle.std.proofs.lemmas.Grind.{common_steps}
use Rattle.rom_set.specs.Roms.{Roms, roms_seen, font_seen, rom_byte, byte_in}
use Rattle.rom_set.specs.Places.{in_this}
use Rattle.rom_set.proofs.Found.{kept, absent, held, long, shown}
use Rattle.rom_set.proofs.RomSet.byte.Goals as goal

pub index-requires : goal.index-requires
index-requires c =
    let r = c.self.inside in
    let low = held r.slots.items (in_this c.args.slot) c.in-Some.place (kept r.slots.items c.args.slot (c.self.invariant.1 c.args.slot c.requires.slot) c.in-Some.is) in
    grind (arith, common_steps, low)

pub byte_of-requires-clause-length : goal.byte_of-requires-clause-length
byte_of-requires-clause-length c =
    let r = c.self.inside in
    let here = kept r.slots.items c.args.slot (c.self.invariant.1 c.args.slot c.requires.slot) c.in-Some.is in
    long r.os.items r.slots.items (font_seen r.font) (in_this c.args.slot) c.in-Some.place c.index.result.now c.deref.result.now c.self.invariant.0 here c.index.ensures c.deref.ensures.value

pub returns-in-Some : goal.returns-in-Some
returns-in-Some c =
    let r = c.self.inside in
    let here = kept r.slots.items c.args.slot (c.self.invariant.1 c.args.slot c.requires.slot) c.in-Some.is in
    c.byte_of.ensures
    ∙ shown r.slots.items c.args.slot c.args.at c.in-Some.place c.index.result.now c.deref.result.now here c.index.ensures c.deref.ensures.value
    ∙ ap (λ (x : Roms). rom_byte x.slots c.args.slot c.args.at) c.self.view_is

pub returns-in-None : goal.returns-in-None
returns-in-None c =
    let r = c.self.inside in
    let none = absent (in_this c.args.slot) (roms_seen r.slots.items) 0 (sym (c.self.invariant.1 c.args.slot c.requires.slot) ∙ c.in-None.is) in
    sym (ap (λ o. byte_in o c.args.at) none)
    ∙ ap (λ (x : Roms). rom_byte x.slots c.args.slot c.args.at) c.self.view_is
