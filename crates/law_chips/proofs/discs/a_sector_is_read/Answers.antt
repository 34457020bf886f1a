use Rattle.law_chips.proofs.Reading.{sector_read}
use Rattle.law_chips.proofs.Timely.{searched_and_read}
use Rattle.law_chips.proofs.Timely.{reads_in_time}
use Rattle.law_chips.proofs.discs.a_sector_is_read.Goals as goal

pub returns : goal.returns
returns c = record { sector = sector_read; searched = searched_and_read; in_time = reads_in_time }
