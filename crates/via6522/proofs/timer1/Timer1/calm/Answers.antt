use Rattle.std.proofs.Common.{◌≡◌, ◌∙◌, sym, ap, ◌<◌, ◌≤◌, ◌+◌, Bool, arith}
use Rattle.via6522.specs.State.{Timer1}
use Rattle.via6522.proofs.Seen.{seen1}
use Rattle.via6522.specs.Timers.{word}
use Rattle.via6522.specs.CodeQuiet.{timer1_ahead}
use Rattle.via6522.specs.Jumps.{timer1_flags_within}
use Rattle.via6522.proofs.Calm.{calm1, calm_to_load1, disarmed1}
use Rattle.via6522.proofs.timer1.Timer1.calm.Goals as goal

pub returns-then-not-self : goal.returns-then-not-self
returns-then-not-self c = λ m within.
    let t = seen1 c.self.inside in
    let count : t.counter ≡ c.args.self.now.counter = ap (λ (u : Timer1). u.counter) c.self.view_is in
    let small : t.counter + c.args.quiet < 65536 = omega (arith, count, c.requires.within) in
    let latch : word t.latch_high t.latch_low < 65536 = omega arith in
    sym (ap (λ (u : Timer1). timer1_flags_within c.args.runs_free m (timer1_ahead c.args.quiet u)) c.self.view_is)
    ∙ ap (λ (b : Bool). timer1_flags_within b m (timer1_ahead c.args.quiet t)) c.if-not-runs_free.true ∙ disarmed1 m (timer1_ahead c.args.quiet t) small latch c.if-not-self.true

pub returns-then-self : goal.returns-then-self
returns-then-self c = λ m within.
    let t = seen1 c.self.inside in
    let latch : word t.latch_high t.latch_low < 65536 = omega arith in
    let inside : m ≤ word t.latch_high t.latch_low + 1 = omega (arith, c.from.ensures, c.word.ensures, within) in
    sym (ap (λ (u : Timer1). timer1_flags_within c.args.runs_free m (timer1_ahead c.args.quiet u)) c.self.view_is)
    ∙ calm_to_load1 c.args.runs_free m (timer1_ahead c.args.quiet t) c.if-self.true latch inside

pub returns : goal.returns
returns c = λ m within.
    let t = seen1 c.self.inside in
    let count : t.counter ≡ c.args.self.now.counter = ap (λ (u : Timer1). u.counter) c.self.view_is in
    let small : t.counter + c.args.quiet < 65536 = omega (arith, count, c.requires.within) in
    let inside : m ≤ t.counter + c.args.quiet = omega (arith, c.from-2.ensures, c.from-3.ensures, within) in
    sym (ap (λ (u : Timer1). timer1_flags_within c.args.runs_free m (timer1_ahead c.args.quiet u)) c.self.view_is)
    ∙ calm1 c.args.runs_free m (timer1_ahead c.args.quiet t) c.if-self.false small inside
