use Rattle.law_chips.proofs.Writing.{sector_written}
use Rattle.law_chips.proofs.Timely.{writes_in_time}
use Rattle.law_chips.proofs.discs.a_sector_is_written.Goals as goal

pub returns : goal.returns
returns c =
    let back = c.a_byte_put_is_read_back.ensures.back in
    let others = c.a_byte_put_is_read_back.ensures.others in
    record { sector = sector_written back others; in_time = writes_in_time back others }
