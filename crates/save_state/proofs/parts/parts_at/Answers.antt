use Rattle.std.proofs.Common.{append_assoc}
use Rattle.save_state.specs.Parts.{parts_at}
use Rattle.save_state.proofs.parts.parts_at.Goals as goal

pub returns : goal.returns
unfolding parts_at
returns c =
    rw (
      c.in_ok-push-3.ensures.items,
      c.in_ok-push-2.ensures.items,
      c.in_ok-push.ensures.items,
      c.in_ok-parts.ensures,
      c.in_ok-disc0.ensures,
      c.in_ok-disc1.ensures,
      c.in_ok-keys.ensures,
    ) (simp append_assoc)
