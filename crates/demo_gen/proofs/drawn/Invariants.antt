use Rattle.std.proofs.Common.{◌≡◌, ◌++◌, ◌-◌, ◌≤◌, ◌%◌, map}
use Rattle.demo_gen.specs.Demo.{words, drawn_bytes}
use Rattle.demo_gen.proofs.drawn.Given as goal

abbrev pub invariant-loop : goal.invariant-loop
invariant-loop l = (l.bytes.items ++ map (λ w. w % 256) (words (256 - l.counter) l.generator) ≡ drawn_bytes l.seed) × (l.counter ≤ 256)
