use Rattle.std.proofs.Common.{◌≡◌, ap, subst, ◌∙◌, arith, List, ℕ, Result, Ok, Err, IfOk}
use Rattle.save_state.specs.declared.Saved.{Saved}
use Rattle.save_state.specs.declared.StateError.{StateError}
use Rattle.save_state.specs.Fields.{Gives}
use Rattle.save_state.specs.Saved.{session}
use Rattle.save_state.specs.File.{file, file_of, IsSession}
use Rattle.save_state.specs.Laws.{AreBytes}
use Rattle.save_state.proofs.FileLaws.{file_back, file_only}
use Rattle.save_state.proofs.decoding.decode.Goals as goal

is_found : (bytes : List ℕ) (r : Result Saved StateError) → AreBytes bytes → Gives session r (file bytes) → IfOk r (λ s. IsSession (session s) × (bytes ≡ file_of (session s)))
is_found bytes (Ok s) are given = let p = file_only bytes (session s) are given in (p.1, p.0)
is_found bytes (Err e) are given = tt

pub returns-clause-found : goal.returns-clause-found
returns-clause-found c = is_found c.args.bytes.now c.file.result (λ i. omega (arith, c.type_inv.bytes i)) c.file.ensures

pub returns-clause-only : goal.returns-clause-only
returns-clause-only c = λ s is e. subst (λ f. Gives session c.file.result f) (ap file e ∙ file_back s is) c.file.ensures
