-- One more place is stored.
use Rattle.std.proofs.Common.{ℕ, ◌≡◌, ◌<◌, ◌+◌, ◌==◌, refl, ap, sym, ◌∙◌, Bool, true, false, cond, List, ◌∷◌, Option, Some, None, length, get_or, drop, add-one, drop-cons, arith}
use Rattle.std.proofs.Math.ListN.{set}
use Rattle.std.proofs.lemmas.Grind.{common_steps}
use Rattle.std.specs.Prelude.{Vec}
use Rattle.std.specs.List.{position_from}
use Rattle.std.specs.declared.alloc.Global.{Global}
use Rattle.rom_set.specs.Roms.{roms_seen}
use Rattle.rom_set.specs.Places.{in_this}

by-slot : (places : List (Option ℕ)) (k this slot : ℕ) (rest : Option ℕ) (b : Bool) → (this == slot) ≡ b → this < length places → get_or places slot None ≡ rest →
    get_or (set places this (Some k)) slot None ≡ cond b (Some k) rest
by-slot places k this slot rest true is low so = grind (arith, common_steps)
by-slot places k this slot rest false is low so = grind (arith, common_steps)

pub placed : (slots : List (ℕ × Vec ℕ Global)) (places : List (Option ℕ)) (k : ℕ) (d : ℕ × Vec ℕ Global) (slot : ℕ) → k < length slots → (get_or slots k d).0 < length places →
    get_or places slot None ≡ position_from (in_this slot) (k + 1) (roms_seen (drop (k + 1) slots)) →
    get_or (set places (get_or slots k d).0 (Some k)) slot None ≡ position_from (in_this slot) k (roms_seen (drop k slots))
placed slots places k d slot low room so =
    let this = get_or slots k d in
    let apart : drop k slots ≡ this ∷ drop (k + 1) slots = drop-cons slots k d low ∙ ap (λ n. this ∷ drop n slots) (sym (add-one k)) in
    by-slot places k this.0 slot (position_from (in_this slot) (k + 1) (roms_seen (drop (k + 1) slots))) (this.0 == slot) refl room so
    ∙ ap (λ (xs : List (ℕ × Vec ℕ Global)). position_from (in_this slot) k (roms_seen xs)) (sym apart)
