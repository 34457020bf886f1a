-- A listing, as contracts see it.
use Rattle.std.specs.Prelude.{ℕ, List, option_map}
use Rattle.std.specs.declared.vec.Vec.{Vec}
use Rattle.std.specs.declared.alloc.Global.{Global}
use Rattle.follow.specs.declared.listing.Listing.{Listing}
use Rattle.follow.specs.Listing.{ListingState}

abbrev pub items : Vec ℕ Global → List ℕ
items v = v.items

abbrev pub listing_seen : Listing → ListingState
listing_seen l = record { text = l.text.items; listed = l.listed; chosen = l.chosen; counts = option_map items l.counts }
