use Rattle.dis65.proofs.LawLemmas.{decode_means}
use Rattle.dis65.proofs.decode_means_its_bytes.Goals as goal

pub returns : goal.returns
returns c = decode_means
