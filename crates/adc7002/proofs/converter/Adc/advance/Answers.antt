use Rattle.std.proofs.Common.{◌≡◌, ◌∙◌, sym, ap, ◌-◌, arith, slice_index}
use Rattle.adc7002.specs.State.{State}
use Rattle.adc7002.specs.Registers.{channel}
use Rattle.adc7002.specs.Step.{end_leaves}
use Rattle.adc7002.proofs.Runs.{no_steps_left, steps_inside, steps_to_end}
use Rattle.adc7002.proofs.converter.Adc.advance.Goals as goal

pub returns-then-n-left : goal.returns-then-n-left
returns-then-n-left c =
    let left : c.args.self.now.left ≡ c.self.inside.left = ap (λ (a : State). a.left) (sym c.self.view_is) in
    sym (steps_inside c.args.levels c.args.n (c.from-left.result - c.args.n) c.args.self.now (omega arith) (omega arith)
    ∙ ap (λ (a : State). record a { left = c.from-left.result - c.args.n }) (sym c.self.view_is))

pub returns-then-left-ne0 : goal.returns-then-left-ne0
returns-then-left-ne0 c =
    let left : c.args.self.now.left ≡ c.self.inside.left = ap (λ (a : State). a.left) (sym c.self.view_is) in
    let kept : c.from.result ≡ channel c.args.self.now.kept = c.from.ensures ∙ ap (λ (a : State). channel a.kept) c.end.view_is in
    c.end-then-left-ne0.ensures ∙ ap (λ k. end_leaves (slice_index c.args.levels k) c.args.self.now) kept
    ∙ sym (steps_to_end c.args.levels c.args.n c.args.self.now (omega arith) (omega arith))

pub returns-else-left-ne0 : goal.returns-else-left-ne0
returns-else-left-ne0 c =
    let left : c.args.self.now.left ≡ c.self.inside.left = ap (λ (a : State). a.left) (sym c.self.view_is) in
    sym (no_steps_left c.args.levels c.args.n c.args.self.now (omega arith))
