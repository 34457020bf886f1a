use Rattle.save_state.proofs.FileLaws.{file_back, file_only}
use Rattle.save_state.proofs.law.file_reads_back.Goals as goal

pub returns-clause-back : goal.returns-clause-back
returns-clause-back c = file_back

pub returns-clause-only : goal.returns-clause-only
returns-clause-only c = file_only
