-- The starts of instructions in the reference run of two parties.
use Rattle.std.specs.Prelude.{ℕ, zero, suc, ◌≡◌, ◌+◌, nat_eq, List, [], ◌∷◌, ◌++◌, if◌then◌else◌}
use Rattle.beeb_bits.specs.declared.Side.{Side}
use Rattle.beeb_bits.specs.declared.Side.TheVariants.{Host, Para}
use Rattle.op_table.specs.declared.names.Part.{Part}
use Rattle.tube_trace.specs.Entries.{accesses}
use Rattle.tube_party.specs.Transitions.{Transitions}
use Rattle.tube_party.specs.Reference.{World, tick, start, reference}
use Rattle.follow.specs.declared.choice.Choice.{Choice}
use Rattle.follow.specs.Sight.{Sight}
use Rattle.follow.specs.Listing.{ListingState, listing_of, starts_of, replay_listing}

-- the state, if its next step is due at tick `k`
abbrev pub due_at : {S : Type 0} → Transitions S → ℕ → S → List S
due_at m k s = if nat_eq (m.due s) k then s ∷ [] else []

module _ {S T X : Type 0} (h : Transitions S) (p : Transitions T) (m : Transitions X) (state : World S T → X) where
  -- The states from which a side does its steps in the `j` ticks from tick `k` on, where `j` is the
  -- first argument.
  abbrev pub reference_run : ℕ → ℕ → World S T → List X
  reference_run zero k w = []
  reference_run (suc j) k w = due_at m k (state w) ++ reference_run j (k + 1) (tick h p k w)

  -- The listing of a side of the reference run of n ticks.
  abbrev pub reference_listing : (X → Sight) → Part → Choice → S → T → ℕ → ListingState
  reference_listing sights part choice s t n = listing_of part choice n (starts_of m sights choice.watch (reference_run n 0 (start s t)))

  -- Replayed against the accesses of the reference run, the side has the listing of the reference
  -- run.
  abbrev pub ListingIsReference : Side → (X → Sight) → Type 0
  ListingIsReference side sights =
      (part : Part) (choice : Choice) (s : S) (t : T) (n : ℕ) →
      replay_listing m sights part side (accesses (reference h p s t n).list) n choice (state (start s t)) ≡ reference_listing sights part choice s t n

abbrev pub HostListingIsReference : {S T : Type 0} → Transitions S → (S → Sight) → Transitions T → Type 0
HostListingIsReference h sights p = ListingIsReference h p h (λ w. w.host) Host sights

abbrev pub ParaListingIsReference : {S T : Type 0} → Transitions S → Transitions T → (T → Sight) → Type 0
ParaListingIsReference h p sights = ListingIsReference h p p (λ w. w.para) Para sights
