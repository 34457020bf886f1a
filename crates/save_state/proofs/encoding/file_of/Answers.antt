use Rattle.save_state.proofs.FileLaws.{all_short}
use Rattle.save_state.proofs.encoding.file_of.Goals as goal

pub push_parts-requires-clause-short : goal.push_parts-requires-clause-short
push_parts-requires-clause-short c = all_short c.requires
