use Rattle.std.proofs.Common.{◌≡◌, ◌∙◌, sym, ap, arith}
use Rattle.tube_chip.specs.declared.Answer.TheVariants.{Byte, Seen}
use Rattle.tube_chip.specs.State.{power_on, lines_of}
use Rattle.tube_chip.specs.Act.{access, look}
use Rattle.tube_party.specs.Transitions.{Transitions}
use Rattle.tube_party.specs.Replay.{chip_before}
use Rattle.tube_party.proofs.ReplayLemmas.{goes_access, goes_look, ran_out, stands_access, stands_look, stands_asking, stands_rises, went_apart}
use Rattle.tube_party.proofs.replaying.replay.Goals as goal

pub returns-in-Nothing-clause-machine : goal.returns-in-Nothing-clause-machine
returns-in-Nothing-clause-machine g c = (ran_out g.met.M.Party.lawful c.steps.invariant.goes c.steps.invariant.early c.advance_at.ensures c.in-Nothing.is).0

pub returns-in-Nothing-clause-place : goal.returns-in-Nothing-clause-place
returns-in-Nothing-clause-place g c =
    c.next_line.ensures ∙ (ran_out g.met.M.Party.lawful c.steps.invariant.goes c.steps.invariant.early c.advance_at.ensures c.in-Nothing.is).1

pub returns-in-Err-clause-machine : goal.returns-in-Err-clause-machine
returns-in-Err-clause-machine g c =
    (went_apart
    (stands_access g.met.M.Party.lawful c.steps.invariant.goes c.steps.invariant.early c.advance_at.ensures c.in-Access.tick c.in-Access.op c.in-Access.is)
    c.steps.invariant.own_lines c.in-Err.ensures.1).0

pub returns-in-Err-clause-place : goal.returns-in-Err-clause-place
returns-in-Err-clause-place g c =
    (went_apart
    (stands_access g.met.M.Party.lawful c.steps.invariant.goes c.steps.invariant.early c.advance_at.ensures c.in-Access.tick c.in-Access.op c.in-Access.is)
    c.steps.invariant.own_lines c.in-Err.ensures.1).1

pub answer-requires : goal.answer-requires
answer-requires g c =
    stands_asking {q = access c.in-Access.op} {a = Byte c.in-Ok.byte}
    (stands_access g.met.M.Party.lawful c.steps.invariant.goes c.steps.invariant.early c.advance_at.ensures c.in-Access.tick c.in-Access.op c.in-Access.is)
    c.requires.ticks tt

pub answer-requires-in-Look : goal.answer-requires-in-Look
answer-requires-in-Look g c =
    stands_asking {q = look} {a = Seen c.lines_at.new.lines}
    (stands_look g.met.M.Party.lawful c.steps.invariant.goes c.steps.invariant.early c.advance_at.ensures c.in-Look.tick c.in-Look.is).0 c.requires.ticks tt

pub steps-smaller-in-Ok : goal.steps-smaller-in-Ok
steps-smaller-in-Ok g c =
    (stands_rises {a = Byte c.in-Ok.byte} g.met.M.Party.lawful
    (stands_access g.met.M.Party.lawful c.steps.invariant.goes c.steps.invariant.early c.advance_at.ensures c.in-Access.tick c.in-Access.op c.in-Access.is)
    c.answer.ensures).1

pub steps-smaller : goal.steps-smaller
steps-smaller g c =
    (stands_rises {a = Seen c.lines_at.new.lines} g.met.M.Party.lawful
    (stands_look g.met.M.Party.lawful c.steps.invariant.goes c.steps.invariant.early c.advance_at.ensures c.in-Look.tick c.in-Look.is).0
    c.answer-in-Look.ensures).1

pub steps-preserved-in-Ok : goal.steps-preserved-in-Ok
steps-preserved-in-Ok g c =
    let stands =
    stands_access g.met.M.Party.lawful c.steps.invariant.goes c.steps.invariant.early c.advance_at.ensures c.in-Access.tick c.in-Access.op c.in-Access.is in
    let rises = (stands_rises {a = Byte c.in-Ok.byte} g.met.M.Party.lawful
    (stands_access g.met.M.Party.lawful c.steps.invariant.goes c.steps.invariant.early c.advance_at.ensures c.in-Access.tick c.in-Access.op c.in-Access.is)
    c.answer.ensures).0 in
    record {
      goes = rw c.answer.ensures (goes_access stands.goes g.met.M.Party.lawful c.take.new.self.left c.in-Access.op c.in-Ok.byte stands.below stands.asks
          (rw stands.tick_is at c.in-Ok.ensures.0));
      own_lines = c.in-Ok.ensures.1 ∙ stands.lines_same ∙ c.steps.invariant.own_lines;
      seen_within = c.steps.invariant.seen_within;
      early = λ t a b. c.steps.invariant.early t (omega (arith, stands.later, rises, a)) b;
      late = λ t a b. c.steps.invariant.late t (omega (arith, stands.later, rises, a)) b;
    }

pub steps-preserved : goal.steps-preserved
steps-preserved g c =
    let m : Transitions g.M.Party.State = g.M.Party.transitions in
    let at : g.M.Party.State = g.M.Party.state c.advance_at.new.self in
    let both = stands_look g.met.M.Party.lawful c.steps.invariant.goes c.steps.invariant.early c.advance_at.ensures c.in-Look.tick c.in-Look.is in
    let stands = both.0 in
    let low = c.requires.ticks in
    let there : c.in-Look.tick.0 ≡ m.due at = stands.tick_is in
    let rises = (stands_rises {a = Seen c.lines_at.new.lines} g.met.M.Party.lawful
    (stands_look g.met.M.Party.lawful c.steps.invariant.goes c.steps.invariant.early c.advance_at.ensures c.in-Look.tick c.in-Look.is).0
    c.answer-in-Look.ensures).0 in
    let chip_is = c.steps.invariant.late (m.due at) stands.later (omega (arith, there, both.1)) (omega (arith, stands.below, low)) in
    let lines_is : c.lines_at.new.lines ≡ lines_of (chip_before c.args.side (m.due at) power_on c.args.trace.now) =
    rw there at c.lines_at.ensures.lines
    ∙ sym (ap lines_of chip_is) in
    record {
      goes = rw (c.answer-in-Look.ensures, lines_is) (goes_look stands.goes g.met.M.Party.lawful stands.below stands.asks);
      own_lines = stands.lines_same ∙ c.steps.invariant.own_lines;
      seen_within = c.lines_at.ensures.within;
      early = λ t a b.
          ap lines_of (c.steps.invariant.late t (omega (arith, stands.later, rises, a)) (omega (arith, there, both.1, rises, a)) (omega (arith, b, c.lines_at.ensures.most)))
          ∙ c.lines_at.ensures.early t (omega (arith, there, rises, a)) b;
      late = λ t a b f.
          c.steps.invariant.late t (omega (arith, stands.later, rises, a)) (omega (arith, there, both.1, rises, a)) f
          ∙ c.lines_at.ensures.late t (omega (arith, there, rises, a)) b f;
    }
