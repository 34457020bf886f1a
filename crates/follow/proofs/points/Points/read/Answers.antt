use Rattle.std.proofs.Common.{rules, ◌≡◌, ℕ, ◌+◌, ◌<◌, length, replicate, false, inl, refl, ap, sym, arith, Bool, List}
use Rattle.std.proofs.lemmas.List.{length-replicate}
use Rattle.follow.specs.Points.{points_from, points_of_lines, points}
use Rattle.follow.proofs.Pointing.{begins, read_all}
use Rattle.follow.proofs.points.Points.read.Goals as goal

pub loop-rest-init : goal.loop-rest-init
loop-rest-init c = begins c.args.bytes.now c.in-Ok.marked.items (c.in-Ok.ensures.items_if_clones_equal (λ y same. same))

pub returns : goal.returns
returns c =
    let none : length c.loop-rest.rest.now ≡ 0 = search rules in
    inl (read_all c.args.bytes.now c.loop-rest.marked.items c.loop-rest.line c.loop-rest.least c.loop-rest.rest.now c.loop-rest.invariant none)
