use Rattle.law_chips.proofs.Several.{sectors_follow}
use Rattle.law_chips.proofs.Several.{sectors_are_written}
use Rattle.law_chips.proofs.discs.sectors_follow.Goals as goal

pub returns : goal.returns
returns c = record {
  read = sectors_follow;
  written = sectors_are_written c.a_byte_put_is_read_back.ensures.back c.a_byte_put_is_read_back.ensures.others;
}
