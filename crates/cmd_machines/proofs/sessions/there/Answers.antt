use Rattle.std.proofs.Common.{◌≡◌, ◌∙◌, sym, ap, ◌++◌, List, [], ℕ, Option, drop, map}
use Rattle.cmd_stages.specs.View.{seen_input}
use Rattle.cmd_words.specs.declared.keys.InputKind.{InputKind}
use Rattle.cmd_machines.specs.Sessions.{there}
use Rattle.cmd_machines.proofs.SessionLemmas.{there_end, all_gone}
use Rattle.cmd_machines.proofs.sessions.there.Goals as goal

pub returns : goal.returns
returns c =
    let none : c.loop-part.part-iterator.rest.items ≡ [] =
    all_gone c.loop-part.part-iterator.rest.items (sym c.loop-part.part-iterator.rest.ok.0 ∙ c.in-None.ensures.steps.0) in
    sym (there_end (map seen_input c.loop-part.list.items) (drop c.loop-part.place c.part_slots-slots.result))
    ∙ ap (λ (rest : List (Option (List ℕ))). map seen_input c.loop-part.list.items ++ there (drop c.loop-part.place c.part_slots-slots.result) rest) (sym none)
    ∙ c.loop-part.invariant
    ∙ ap (λ (slots : List InputKind). there slots c.args.parts.items) c.part_slots-slots.ensures
