use Rattle.tube_trace.proofs.LineLaws.{line_read, line_only}
use Rattle.tube_trace.proofs.ClockLaws.{text_read, text_only}
use Rattle.tube_trace.proofs.law.text_reads_back.Goals as goal

pub returns-clause-line : goal.returns-clause-line
returns-clause-line c = line_read

pub returns-clause-only_line : goal.returns-clause-only_line
returns-clause-only_line c = line_only

pub returns-clause-text : goal.returns-clause-text
returns-clause-text c = text_read

pub returns-clause-only_text : goal.returns-clause-only_text
returns-clause-only_text c = text_only
