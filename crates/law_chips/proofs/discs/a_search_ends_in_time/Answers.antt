use Rattle.law_chips.proofs.Search.{search_ends}
use Rattle.law_chips.proofs.discs.a_search_ends_in_time.Goals as goal

pub returns : goal.returns
returns c = search_ends
