use Rattle.std.proofs.Common.{◌≡◌, ◌∙◌, sym, ap, ◌<◌, ◌≤◌, ◌+◌, Bool, false, arith}
use Rattle.via6522.specs.State.{Timer2}
use Rattle.via6522.proofs.Seen.{seen2}
use Rattle.via6522.specs.CodeQuiet.{timer2_ahead}
use Rattle.via6522.specs.Jumps.{timer2_flags_within}
use Rattle.via6522.proofs.Calm.{calm2, disarmed2, still_is_calm}
use Rattle.via6522.proofs.timer2.Timer2.calm.Goals as goal

pub returns-then-not-self : goal.returns-then-not-self
returns-then-not-self c = λ m within.
    let t = seen2 c.self.inside in
    let count : t.counter ≡ c.args.self.now.counter = ap (λ (u : Timer2). u.counter) c.self.view_is in
    let small : t.counter + c.args.quiet < 65536 = omega (arith, count, c.requires c.if-stands_still.false) in
    ap (λ (b : Bool). timer2_flags_within b m (timer2_ahead b c.args.quiet c.args.self.now)) c.if-stands_still.false
    ∙ sym (ap (λ (u : Timer2). timer2_flags_within false m (record u { counter = u.counter + c.args.quiet })) c.self.view_is)
    ∙ disarmed2 m (record t { counter = t.counter + c.args.quiet }) small c.if-not-self.true

pub returns : goal.returns
returns c = λ m within.
    let t = seen2 c.self.inside in
    let count : t.counter ≡ c.args.self.now.counter = ap (λ (u : Timer2). u.counter) c.self.view_is in
    let small : t.counter + c.args.quiet < 65536 = omega (arith, count, c.requires c.if-stands_still.false) in
    let inside : m ≤ t.counter + c.args.quiet = omega (arith, c.from.ensures, c.from-2.ensures, within) in
    ap (λ (b : Bool). timer2_flags_within b m (timer2_ahead b c.args.quiet c.args.self.now)) c.if-stands_still.false
    ∙ sym (ap (λ (u : Timer2). timer2_flags_within false m (record u { counter = u.counter + c.args.quiet })) c.self.view_is)
    ∙ calm2 m (record t { counter = t.counter + c.args.quiet }) small inside

pub returns-then-stands_still : goal.returns-then-stands_still
returns-then-stands_still c = λ m within.
    ap (λ (b : Bool). timer2_flags_within b m (timer2_ahead b c.args.quiet c.args.self.now)) c.if-stands_still.true
    ∙ still_is_calm m c.args.self.now
