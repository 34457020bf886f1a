use Rattle.std.proofs.Common.{◌≡◌, ◌↔◌, ◌∙◌, ap, ℕ, Option, Some, None, Result, Err}
use Rattle.tube_party.specs.declared.replaying.Doing.{Doing}
use Rattle.follow.specs.declared.listing.FollowError.{FollowError}
use Rattle.follow.specs.declared.listing.FollowError.TheVariants.{Differs, NoMemory}
use Rattle.follow.specs.declared.listing.Listing.{Listing}
use Rattle.follow.proofs.Listed.{place_told, listing_told}
use Rattle.follow.proofs.listing.list.Goals as goal

-- the answer of a place
abbrev answer_of : Option (ℕ × Option Doing) → Result Listing FollowError
answer_of None = Err NoMemory
answer_of (Some place) = Err (Differs place.0 place.1)

abbrev place : ℕ → Option Doing → Option (ℕ × Option Doing)
place line doing = Some (line, doing)

same_place : (l line : ℕ) (d doing : Option Doing) → (answer_of (place l d) ≡ answer_of (place line doing)) ↔ (place l d ≡ place line doing)
same_place l line d doing = (λ same. cc, λ there. ap answer_of there)

pub returns-in-Some-clause-differs : goal.returns-in-Some-clause-differs
returns-in-Some-clause-differs g c =
    let told = place_told g.met.M.Seen.same g.M.Seen.sights _ _ _ c.args.machine c.new.ensures.part c.new.ensures.choice c.new.ensures.none c.replay-watcher.ensures.place in
    λ line doing. rw (told ∙ c.in-Some.is) (same_place c.in-Some.line line c.in-Some.doing doing)

pub returns-in-Some-finish-clause-differs : goal.returns-in-Some-finish-clause-differs
returns-in-Some-finish-clause-differs g c =
    let told = place_told g.met.M.Seen.same g.M.Seen.sights _ _ _ c.args.machine c.new.ensures.part c.new.ensures.choice c.new.ensures.none c.replay-watcher.ensures.place in
    λ line doing. rw (told ∙ c.in-None.is) (λ same. cc, λ there. cc)

pub returns-in-Some-finish-clause-follows : goal.returns-in-Some-finish-clause-follows
returns-in-Some-finish-clause-follows g c =
    place_told g.met.M.Seen.same g.M.Seen.sights _ _ _ c.args.machine c.new.ensures.part c.new.ensures.choice c.new.ensures.none c.replay-watcher.ensures.place ∙ c.in-None.is

pub returns-in-Some-finish-clause-listing : goal.returns-in-Some-finish-clause-listing
returns-in-Some-finish-clause-listing g c =
    c.in-Some-finish.ensures
    ∙ listing_told g.met.M.Seen.same g.M.Seen.sights _ _ _ c.args.machine c.requires.ticks c.new.ensures.part c.new.ensures.choice c.new.ensures.none c.replay-watcher.ensures.machine

pub returns-clause-differs : goal.returns-clause-differs
returns-clause-differs g c =
    let told = place_told g.met.M.Seen.same g.M.Seen.sights _ _ _ c.args.machine c.new.ensures.part c.new.ensures.choice c.new.ensures.none c.replay-watcher.ensures.place in
    λ line doing. rw (told ∙ c.in-None.is) (λ same. cc, λ there. cc)
