use Rattle.std.proofs.Common.{◌≡◌, ◌⊎◌, ◌∙◌, ◌+◌, ◌-◌, ◌/◌, ◌%◌, ◌≤◌, sym, arith, rules, inl, inr}
use Rattle.crtc6845.specs.Clock.{sync_height}
use Rattle.crtc6845.specs.Rests.{sync_after}
use Rattle.crtc6845.proofs.Rests.{Run, rest_other, rest_turns}
use Rattle.crtc6845.proofs.crtc.Crtc.rest_by_turns.Goals as goal
use Rattle.crtc6845.proofs.crtc.Crtc.rest_by_turns.Goals.{then-left-eq0, else-left-eq0}

pub returns-then-sync_row-ne0 : goal.returns-then-sync_row-ne0
returns-then-sync_row-ne0 c =
    let run = rest_other c.args.n c.args.self.now c.requires (inr (λ e. omega (arith, e))) in
    record { state = c.count_sync.ensures ∙ sym run.state; frames = sym run.frames; past = sym run.past; rest = search rules }

pub returns-then-n-left : goal.returns-then-n-left
returns-then-n-left c =
    let run = rest_other c.args.n c.args.self.now c.requires (inl (omega arith)) in
    record { state = c.count_sync-then-n-left.ensures ∙ sym run.state; frames = sym run.frames; past = sym run.past; rest = search rules }

turned : (c : goal.After-turn_sync) → Run c.args.n 0 c.args.self.now (sync_after (c.args.n - c.if-left-eq0.first) c.args.self.now)
    (1 + (c.args.n - c.if-left-eq0.first) / sync_height c.args.self.now.registers) ((c.args.n - c.if-left-eq0.first) % sync_height c.args.self.now.registers)
turned c =
    let first = c.if-left-eq0.first in
    let most : c.args.self.now.sync_lines ≤ first = elim c.if-left-eq0.branch [ then-left-eq0 w ↦ omega arith | else-left-eq0 w ↦ omega arith ] in
    let some : 1 ≤ first = elim c.if-left-eq0.branch [ then-left-eq0 w ↦ omega arith | else-left-eq0 w ↦ omega (arith, w.if-left-eq0.false) ] in
    let fits : first ≤ c.args.n = elim c.if-left-eq0.branch [ then-left-eq0 w ↦ omega (arith, c.if-n-eq0.false) | else-left-eq0 w ↦ omega arith ] in
    let is : (first ≡ c.args.self.now.sync_lines) ⊎ (first ≡ 1) =
    elim c.if-left-eq0.branch [ then-left-eq0 w ↦ inr (omega arith) | else-left-eq0 w ↦ inl (omega arith) ] in
    rest_turns c.args.n first c.args.self.now c.requires (omega arith) most some fits is

pub returns-clause-state : goal.returns-clause-state
returns-clause-state c = c.turn_sync.ensures.state ∙ sym (turned c).state

pub returns-clause-frames : goal.returns-clause-frames
returns-clause-frames c = c.turn_sync.ensures.frames ∙ sym (turned c).frames

pub returns-clause-past : goal.returns-clause-past
returns-clause-past c = c.turn_sync.ensures.past ∙ sym (turned c).past
