-- The entries of a trace rise.
use Rattle.std.proofs.Common.{◌≡◌, ap, refl, ℕ, ◌+◌, List, [], ◌∷◌, map, true, Option, Some, None, Ok, arith}
use Rattle.tube_chip.specs.Events.{Rises, RisesAfter}
use Rattle.tube_trace.specs.declared.Entry.{Entry}
use Rattle.tube_trace.specs.Trace.{follows, entries_behind}
use Rattle.tube_trace.specs.Entries.{event_of, events_of}

-- the events rise, after an entry if there is one
abbrev pub RisesBehind : Option Entry → List Entry → Type 0
RisesBehind None entries = Rises (events_of entries)
RisesBehind (Some e) entries = RisesAfter (event_of e) (events_of entries)

pub none_behind : (last : Option Entry) → RisesBehind last []
none_behind None = tt
none_behind (Some e) = tt

-- an entry that follows, and then others
pub rises_on : (last : Option Entry) (e : Entry) (entries : List Entry) → follows last e ≡ true → RisesBehind (Some e) entries → RisesBehind last (e ∷ entries)
rises_on None e entries is rises = rises
rises_on (Some d) e entries is rises = (is, rises)

pub follows_behind : (last : Option Entry) (e : Entry) (entries : List Entry) → RisesBehind last (e ∷ entries) → (follows last e ≡ true) × RisesBehind (Some e) entries
follows_behind None e entries rises = (refl, rises)
follows_behind (Some d) e entries rises = rises

-- what the entries that were read of a line and others say
taken_apart : (line : ℕ) (last : Option Entry) (e : Entry) (lines : List (Option Entry)) (entries : List Entry) → entries_behind line last (Some e ∷ lines) ≡ Ok entries →
    (more : List Entry) × (follows last e ≡ true) × (entries_behind (line + 1) (Some e) lines ≡ Ok more) × (e ∷ more ≡ entries)
taken_apart line last e lines entries h = grind arith

-- entries that were read are those of the lines, and rise
pub read_tells : (line : ℕ) (last : Option Entry) (lines : List (Option Entry)) (entries : List Entry) → entries_behind line last lines ≡ Ok entries →
    (lines ≡ map Some entries) × RisesBehind last entries
read_tells line last [] entries h = let none : [] ≡ entries = cc in rw (← none) (refl, none_behind last)
read_tells line last (None ∷ lines) entries h = absurd cc
read_tells line last (Some e ∷ lines) entries h =
    let x = taken_apart line last e lines entries h in
    let on = read_tells (line + 1) (Some e) lines x.0 x.2 in
    rw (← x.3) (ap (λ (ls : List (Option Entry)). Some e ∷ ls) on.0, rises_on last e x.0 x.1 on.1)

-- and rising entries are read
pub rising_read : (line : ℕ) (last : Option Entry) (entries : List Entry) → RisesBehind last entries → entries_behind line last (map Some entries) ≡ Ok entries
rising_read line last [] rises = refl
rising_read line last (e ∷ entries) rises =
    let here = follows_behind last e entries rises in
    rw (here.0, rising_read (line + 1) (Some e) entries here.1)
