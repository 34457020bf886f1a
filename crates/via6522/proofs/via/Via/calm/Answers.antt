use Rattle.std.proofs.Common.{◌≡◌, ◌∙◌, sym, ap, subst, true}
use Rattle.via6522.specs.State.{State}
use Rattle.via6522.specs.Lines.{levels_of}
use Rattle.via6522.specs.Registers.{asks}
use Rattle.via6522.specs.CodeQuiet.{levels_in, ahead}
use Rattle.via6522.specs.Jumps.{AsksAlike}
use Rattle.via6522.proofs.Calm.{asking_is_calm, now_is_calm, timers_are_calm}
use Rattle.via6522.proofs.via.Via.calm.Goals as goal

pub returns-then-self : goal.returns-then-self
returns-then-self c =
    let on : asks (ahead c.self.inside.quiet c.self.inside.chip) ≡ true = sym c.self.invariant.1 ∙ c.if-self.true in
    asking_is_calm c.args.pins 18446744073709551615 c.args.self.now (sym (ap asks c.self.view_is) ∙ on)

pub returns-then-lines_of-lines : goal.returns-then-lines_of-lines
returns-then-lines_of-lines c = now_is_calm c.args.pins c.args.self.now

pub returns : goal.returns
returns c =
    let same : levels_of c.args.pins ≡ (c.self.inside.chip).levels = sym c.lines_of.ensures ∙ ap levels_in c.if-lines_of-lines.false ∙ c.lines.ensures in
    subst (λ (s : State). AsksAlike c.args.pins c.calm.result s) c.self.view_is
    (timers_are_calm c.args.pins c.calm.result (ahead c.self.inside.quiet c.self.inside.chip) same c.calm.ensures.timer1 c.calm.ensures.timer2)
