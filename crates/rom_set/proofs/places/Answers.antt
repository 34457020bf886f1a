use Rattle.std.proofs.Common.{◌≡◌, ◌<◌, ◌+◌, ◌-◌, ℕ, None, get_or, drop, length, subst, arith}
use Rattle.std.proofs.lemmas.Grind.{common_steps}
use Rattle.std.specs.List.{position_from}
use Rattle.rom_set.specs.Roms.{roms_seen}
use Rattle.rom_set.specs.Places.{in_this}
use Rattle.rom_set.proofs.Placed.{placed}
use Rattle.rom_set.proofs.places.Goals as goal

pub loop-place-preserved : goal.loop-place-preserved
loop-place-preserved c =
    let k = c.loop-place.place - 1 in
    let d = c.index-slots-place.result in
    let at : c.loop-place.place ≡ k + 1 = omega (arith, c.loop-place-test.true) in
    let low : k < length c.args.slots.now = omega (arith, c.loop-place.invariant.within, c.loop-place-test.true) in
    let slot : (get_or c.args.slots.now k d).0 < length c.loop-place.places = omega (arith, c.requires k d low, c.loop-place.invariant.room) in
    record {
      within = omega (arith, low);
      room = grind (arith, common_steps);
      so_far = λ s h. placed c.args.slots.now c.loop-place.places k d s low slot
          (subst (λ (n : ℕ). get_or c.loop-place.places s None ≡ position_from (in_this s) n (roms_seen (drop n c.args.slots.now))) at (c.loop-place.invariant.so_far s h));
    }

pub returns : goal.returns
returns c = λ s h.
    let none : c.loop-place.place ≡ 0 = omega (arith, c.loop-place-test.false) in
    subst (λ (n : ℕ). get_or c.loop-place.places s None ≡ position_from (in_this s) n (roms_seen (drop n c.args.slots.now))) none (c.loop-place.invariant.so_far s h)
