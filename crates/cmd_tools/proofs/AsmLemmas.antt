-- Refusals of the assembler.
use Rattle.std.proofs.Common.{◌≡◌, ◌⊎◌, refl, List, ℕ, Err, inl, inr}
use Rattle.op_table.specs.declared.Part.{Part}
use Rattle.asm65.specs.declared.AsmError.{AsmError}
use Rattle.asm65.specs.declared.AsmError.TheVariants.{Syntax, NoSuchForm, UnknownLabel, Repeated, OutOfRange, TooLong, NoMemory}
use Rattle.asm65.specs.Source.{source}
use Rattle.bus_plug.specs.Plug.{Plug}
use Rattle.cmd_stages.specs.View.{Gives}
use Rattle.cmd_tools.specs.Asm.{refusal_of, asm_after}
use Rattle.cmd_outcome.specs.View.{verdict_of}

pub asm_refused : {D : Type 0} (plug : D → Plug) (part : Part) (out text : List ℕ) (error : AsmError) → (error ≡ NoMemory) ⊎ (source part text ≡ Err error) →
    Gives (verdict_of plug) (Err (refusal_of error)) (asm_after part out text)
unfolding asm_after
asm_refused plug part out text NoMemory h = tt
asm_refused plug part out text (Syntax line) (inl h) = cc
asm_refused plug part out text (Syntax line) (inr h) = rw h refl
asm_refused plug part out text (NoSuchForm line) (inl h) = cc
asm_refused plug part out text (NoSuchForm line) (inr h) = rw h refl
asm_refused plug part out text (UnknownLabel line) (inl h) = cc
asm_refused plug part out text (UnknownLabel line) (inr h) = rw h refl
asm_refused plug part out text (Repeated line) (inl h) = cc
asm_refused plug part out text (Repeated line) (inr h) = rw h refl
asm_refused plug part out text (OutOfRange line) (inl h) = cc
asm_refused plug part out text (OutOfRange line) (inr h) = rw h refl
asm_refused plug part out text (TooLong line) (inl h) = cc
asm_refused plug part out text (TooLong line) (inr h) = rw h refl
