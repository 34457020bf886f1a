use Rattle.std.proofs.Common.{rules, ◌≡◌, true, false, ◌≤◌, length, arith}
use Rattle.std.proofs.Math.ListN.{drop_of_length-le}
use Rattle.beeb_bits.specs.Bits.{bit}
use Rattle.video_ula.proofs.DotLemmas.{first_eight-are, all-are}
use Rattle.video_ula.proofs.ula.Ula.pixels.Goals as goal

pub returns-then-bit-clause-dots : goal.returns-then-bit-clause-dots
returns-then-bit-clause-dots c =
    let on : bit c.args.self.now.control 4 ≡ true = search rules in
    first_eight-are c.args.self.now c.args.byte c.args.cursor c.dots-dots.result c.copy_from_slice.new.self c.args.to.now on c.dots-dots.ensures c.copy_from_slice.ensures.after

pub returns-else-bit-clause-dots : goal.returns-else-bit-clause-dots
returns-else-bit-clause-dots c =
    let off : bit c.args.self.now.control 4 ≡ false = search rules in
    let whole : length c.args.to.now ≤ 16 = omega arith in
    all-are c.args.self.now c.args.byte c.args.cursor c.dots-dots.result c.args.to.now off (drop_of_length-le c.args.to.now whole) c.dots-dots.ensures
