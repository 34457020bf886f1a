-- What steps do to the reference's ticks.
use Rattle.std.proofs.Common.{ℕ, zero, suc, ◌≡◌, ◌+◌, ◌<◌, ◌≤◌, ◌⊎◌, inl, inr, refl, sym, ◌∙◌, ap, arith, List, Option, None}
use Rattle.std.proofs.lemmas.Bool.{ne_eqb, eq-eqb}
use Rattle.tube_chip.specs.State.{State}
use Rattle.tube_chip.specs.Act.{Query}
use Rattle.tube_chip.specs.Events.{Event}
use Rattle.beeb_bits.specs.declared.Side.{Side}
use Rattle.beeb_bits.specs.declared.Side.TheVariants.{Host, Para}
use Rattle.tube_party.specs.Transitions.{Transitions, IsLawful}
use Rattle.tube_party.specs.Reference.{Seat, World, step_leaves, step_if_due, with_host, para_part, tick, ticks}

abbrev pub seat : {S : Type 0} → S → State → List Event → Seat S
seat s c l = record { state = s; chip = c; list = l }

abbrev pub world : {S T : Type 0} → S → T → State → List Event → World S T
world s t c l = record { host = s; para = t; chip = c; list = l }

abbrev pub host_done : {S T : Type 0} → Seat S → T → World S T
host_done x t = record { host = x.state; para = t; chip = x.chip; list = x.list }

pub still : {S : Type 0} (r : Transitions S) (side : Side) (k : ℕ) (x : Seat S) → k < r.due x.state → step_if_due r side k x ≡ x
still r side k x up = rw (ne_eqb (r.due x.state) k (λ e. omega (arith, e, up))) refl

pub now : {S : Type 0} (r : Transitions S) (side : Side) (k : ℕ) (x : Seat S) → r.due x.state ≡ k → step_if_due r side k x ≡ step_leaves r side x (r.asks x.state)
now r side k x e = rw (eq-eqb (r.due x.state) k e) refl

later : {S : Type 0} (r : Transitions S) → IsLawful r → (side : Side) (x : Seat S) (o : Option Query) → r.due x.state < r.due (step_leaves r side x o).state
later r lr side x o = grind arith

pub same_or_above : (a k : ℕ) → k ≤ a → (a ≡ k) ⊎ (k < a)
same_or_above a k h = grind arith

module _ {S T : Type 0} (h : Transitions S) (p : Transitions T) (lh : IsLawful h) (lp : IsLawful p) where
  -- after its step
  abbrev host_did : S → State → List Event → Seat S
  host_did s c l = step_leaves h Host (seat s c l) (h.asks s)

  abbrev para_did : T → State → List Event → Seat T
  para_did t c l = step_leaves p Para (seat t c l) (p.asks t)

  -- neither is due at k
  idle : (k : ℕ) (s : S) (t : T) (c : State) (l : List Event) → k < h.due s → k < p.due t → tick h p k (world s t c l) ≡ world s t c l
  idle k s t c l hs ht = grind arith

  -- two worlds in which neither is due at k continue alike if they do so from k + 1
  both_idle : (j k : ℕ) (s u : S) (t v : T) (c d : State) (l m : List Event)
      → k < h.due s → k < p.due t → k < h.due u → k < p.due v
      → ticks h p j (k + 1) (world s t c l) ≡ ticks h p j (k + 1) (world u v d m)
      → ticks h p (suc j) k (world s t c l) ≡ ticks h p (suc j) k (world u v d m)
  both_idle j k s u t v c d l m hs ht hu hv e = grind arith

  -- neither is due below k + j
  pub rest : (j k : ℕ) (s : S) (t : T) (c : State) (l : List Event) → k + j ≤ h.due s → k + j ≤ p.due t → ticks h p j k (world s t c l) ≡ world s t c l
  rest zero k s t c l hs ht = refl
  rest (suc j) k s t c l hs ht =
      let us : k < h.due s = omega arith in
      let ut : k < p.due t = omega arith in
      ap (ticks h p j (k + 1)) (idle k s t c l us ut) ∙ rest j (k + 1) s t c l (omega arith) (omega arith)

  -- at k, the host being due there
  pub host_here : (j k : ℕ) (s : S) (t : T) (c : State) (l : List Event) → h.due s ≡ k
      → ticks h p (suc j) k (world s t c l) ≡ ticks h p (suc j) k (host_done (host_did s c l) t)
  host_here j k s t c l e =
      let rise = later h lh Host (seat s c l) (h.asks s) in
      ap (λ y. ticks h p j (k + 1) (para_part p k y t))
      (now h Host k (seat s c l) e ∙ sym (still h Host k (host_did s c l) (omega arith)))

  -- the host's step is the next one
  pub host_next : (j k : ℕ) (s : S) (t : T) (c : State) (l : List Event)
      → k ≤ h.due s → h.due s < k + j → h.due s ≤ p.due t
      → ticks h p j k (world s t c l) ≡ ticks h p j k (host_done (host_did s c l) t)
  host_next zero k s t c l lo hi first = absurd (omega arith)
  host_next (suc j) k s t c l lo hi first =
      elim (same_or_above (h.due s) k lo) [
        | inl e ↦ host_here j k s t c l e
        | inr up ↦
            let rise = later h lh Host (seat s c l) (h.asks s) in
            let x : Seat S = host_did s c l in
            both_idle j k s x.state t t c x.chip l x.list (omega arith) (omega arith) (omega arith) (omega arith)
            (host_next j (k + 1) s t c l (omega arith) (omega arith) first)
      ]

  -- the host's step asks nothing, and its turn comes below k + j
  pub host_silent : (j k : ℕ) (s : S) (t : T) (c : State) (l : List Event)
      → k ≤ h.due s → h.due s < k + j → h.asks s ≡ None
      → ticks h p j k (world s t c l) ≡ ticks h p j k (world (h.next s None) t c l)
  host_silent zero k s t c l lo hi none = absurd (omega arith)
  host_silent (suc j) k s t c l lo hi none =
      elim (same_or_above (h.due s) k lo) [
        | inl e ↦
            host_here j k s t c l e
            ∙ ap (λ o. ticks h p (suc j) k (host_done (step_leaves h Host (seat s c l) o) t)) none
        | inr up ↦
            let rise = lh.rises s None in
            let y : Seat T = step_if_due p Para k (seat t c l) in
            ap (λ x. ticks h p j (k + 1) (para_part p k x t)) (still h Host k (seat s c l) (omega arith))
            ∙ host_silent j (k + 1) s y.state y.chip y.list (omega arith) (omega arith) none
            ∙ sym (ap (λ x. ticks h p j (k + 1) (para_part p k x t)) (still h Host k (seat (h.next s None) c l) (omega arith)))
      ]

  -- at k, the parasite being due there, and x being what the host's part of the tick leaves
  pub para_here : (k : ℕ) (s : S) (t : T) (c : State) (l : List Event) → p.due t ≡ k
      → with_host s (step_if_due p Para k (seat t c l)) ≡ with_host s (step_if_due p Para k (para_did t c l))
  para_here k s t c l e = grind arith

  -- the parasite's step is the next one
  pub para_next : (j k : ℕ) (s : S) (t : T) (c : State) (l : List Event)
      → k ≤ p.due t → p.due t < k + j → p.due t < h.due s
      → ticks h p j k (world s t c l) ≡ ticks h p j k (with_host s (para_did t c l))
  para_next zero k s t c l lo hi first = absurd (omega arith)
  para_next (suc j) k s t c l lo hi first =
      elim (same_or_above (p.due t) k lo) [
        | inl e ↦
            let x : Seat T = para_did t c l in
            ap (λ y. ticks h p j (k + 1) (para_part p k y t)) (still h Host k (seat s c l) (omega arith))
            ∙ ap (ticks h p j (k + 1)) (para_here k s t c l e)
            ∙ sym (ap (λ y. ticks h p j (k + 1) (para_part p k y x.state)) (still h Host k (seat s x.chip x.list) (omega arith)))
        | inr up ↦
            let rise = later p lp Para (seat t c l) (p.asks t) in
            let x : Seat T = para_did t c l in
            both_idle j k s s t x.state c x.chip l x.list (omega arith) (omega arith) (omega arith) (omega arith)
            (para_next j (k + 1) s t c l (omega arith) (omega arith) first)
      ]

  -- the parasite's step asks nothing, and its turn comes below k + j
  pub para_silent : (j k : ℕ) (s : S) (t : T) (c : State) (l : List Event)
      → k ≤ p.due t → p.due t < k + j → p.asks t ≡ None
      → ticks h p j k (world s t c l) ≡ ticks h p j k (world s (p.next t None) c l)
  para_silent zero k s t c l lo hi none = absurd (omega arith)
  para_silent (suc j) k s t c l lo hi none =
      let x : Seat S = step_if_due h Host k (seat s c l) in
      elim (same_or_above (p.due t) k lo) [
        | inl e ↦
            ap (ticks h p j (k + 1))
            (para_here k x.state t x.chip x.list e
            ∙ ap (λ o. with_host x.state (step_if_due p Para k (step_leaves p Para (seat t x.chip x.list) o))) none)
        | inr up ↦
            let rise = lp.rises t None in
            ap (λ y. ticks h p j (k + 1) (with_host x.state y)) (still p Para k (seat t x.chip x.list) (omega arith))
            ∙ para_silent j (k + 1) x.state t x.chip x.list (omega arith) (omega arith) none
            ∙ sym (ap (λ y. ticks h p j (k + 1) (with_host x.state y)) (still p Para k (seat (p.next t None) x.chip x.list) (omega arith)))
      ]
