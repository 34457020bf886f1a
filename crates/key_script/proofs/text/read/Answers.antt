use Rattle.std.proofs.Common.{rules, ◌≡◌, sym, None, length, ◌+◌, [], ◌∷◌, ◌++◌, cond}
use Rattle.key_script.specs.Events.{is_shot}
use Rattle.key_script.specs.Text.{fault}
use Rattle.key_script.proofs.ReadLemmas.{read_more}
use Rattle.key_script.proofs.text.read.Goals as goal

pub loop-rest-preserved : goal.loop-rest-preserved
loop-rest-preserved c =
    let pushed : c.push.new.self.items ≡ c.loop-rest.events.items ++ c.in-Some.event ∷ [] = search rules in
    let lines : c.len.result ≡ length c.loop-rest.events.items = search rules in
    let clear : fault (length c.loop-rest.events.items + 1) (c.loop-rest.last).0 c.loop-rest.shots c.in-Some.event ≡ None = rw (← lines) (sym c.in_default-fault.ensures) in
    let more : c.from-shots.result ≡ cond (is_shot c.in-Some.event) 1 0 = search rules in
    rw pushed (read_more c.args.bytes.now c.loop-rest.events.items _ _ _ c.loop-rest.rest.now c.in-Some.others.now c.in-Some.event
    c.loop-rest.invariant c.in-Some.ensures.lines c.in-Some.ensures.event c.in-Some.ensures.shorter clear more)
