-- Two sides at their end are what the reference run leaves.
use Rattle.std.proofs.Common.{ℕ, ◌≡◌, refl, sym, ◌∙◌, ap, subst, [], ◌++◌, length, take}
use Rattle.beeb_bits.specs.declared.Side.TheVariants.{Host, Para}
use Rattle.tube_chip.specs.State.{State}
use Rattle.tube_chip.specs.Events.{merge, after, IsLegal}
use Rattle.tube_trace.specs.Entries.{accesses}
use Rattle.tube_cell.specs.Passes.{PassState}
use Rattle.tube_party.specs.Transitions.{Transitions}
use Rattle.tube_party.specs.Reference.{reference, LegalMergeIsReference}
use Rattle.tube_party.specs.OneThread.{Played, IsPlayed}
use Rattle.session.specs.CodeSideAndLog.{place, SideAndLog}
use Rattle.session.specs.Work.{HasWorked}
use Rattle.session.proofs.Merged.{sided, split}

-- that of two sides with their logs
abbrev left_as : {S T : Type 0} → SideAndLog S → SideAndLog T → State → Played S T
left_as x y chip = record {
  host = x.at.state;
  para = y.at.state;
  chip = chip;
  host_list = x.log.list.items;
  para_list = y.log.list.items;
  host_count = x.log.count;
  para_count = y.log.count;
}

pub ended : {S T : Type 0} {h : Transitions S} {p : Transitions T} → LegalMergeIsReference h p
    → (s : S) (t : T) {n keep : ℕ} (p1 q1 : PassState) {x : SideAndLog S} {y : SideAndLog T} {chip : State}
    → (p1.side ≡ Host) × (p1.events ≡ []) → (q1.side ≡ Para) × (q1.events ≡ [])
    → IsLegal (merge x.at.pass.events y.at.pass.events) → chip ≡ after (merge x.at.pass.events y.at.pass.events)
    → HasWorked h n keep (place s p1) x → HasWorked p n keep (place t q1) y → IsPlayed (reference h p s t n) keep (left_as x y chip)
ended {h} {p} law s t {n} {keep} p1 q1 {x} {y} {chip} xs ys legal chip_is wh wp =
    let a = wh.added in
    let b = wp.added in
    let host = rw xs.0 at wh.follows in
    let para = rw ys.0 at wp.follows in
    let both : merge x.at.pass.events y.at.pass.events ≡ merge a b = λ i. merge ((wh.events ∙ ap (λ l. l ++ a) xs.1) i) ((wp.events ∙ ap (λ l. l ++ b) ys.1) i) in
    let own = split a (sided h _ n _ s host.last a host.runs) b (sided p _ n _ t para.last b para.runs) in
    subst (λ w. IsPlayed w keep (left_as x y chip)) (sym (law s x.at.state t y.at.state a b n host para (subst IsLegal both legal))) (record {
      host_is = refl;
      para_is = refl;
      chip_is = chip_is ∙ ap after both;
      host_kept = record { list_is = wh.kept ∙ ap (λ l. take keep (accesses l)) (sym own.0); count_is = wh.counted ∙ ap (λ l. length (accesses l)) (sym own.0) };
      para_kept = record { list_is = wp.kept ∙ ap (λ l. take keep (accesses l)) (sym own.1); count_is = wp.counted ∙ ap (λ l. length (accesses l)) (sym own.1) };
    })

-- the same run, with its parts by other names
pub worked_as : {S : Type 0} (m : Transitions S) {n n2 keep keep2 : ℕ} {s s2 : S} (p : PassState) {y : SideAndLog S} → n2 ≡ n → keep2 ≡ keep → s2 ≡ s
    → HasWorked m n2 keep2 (place s2 p) y → HasWorked m n keep (place s p) y
worked_as m p en ek es w = rw (en, ek, es) at w
