use Rattle.follow.specs.CodeNotes.{none_kept}
use Rattle.follow.specs.CodeWatched.{order, watched_of}
use Rattle.follow.proofs.Referred.{host_replayed}
use Rattle.follow.proofs.law.host_listing_is_reference.Goals as goal

pub returns : goal.returns
returns g c = λ part choice s t n.
    let set = order part choice in
    host_replayed g.H.Seen.steps g.H.Seen.sights g.P.Party.transitions set s t n (c.reference_is_replayed.ensures (watched_of s set none_kept) t n).0
