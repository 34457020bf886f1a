use Rattle.follow.specs.CodeNotes.{none_kept}
use Rattle.follow.specs.CodeWatched.{order, watched_of}
use Rattle.follow.proofs.Referred.{para_replayed}
use Rattle.follow.proofs.law.para_listing_is_reference.Goals as goal

pub returns : goal.returns
returns g c = λ part choice s t n.
    let set = order part choice in
    para_replayed g.H.Party.transitions g.P.Seen.steps g.P.Seen.sights set s t n (c.reference_is_replayed.ensures s (watched_of t set none_kept) n).1
