use Rattle.para_mach.proofs.Noted.{put_back_written}
use Rattle.para_mach.proofs.notes.UndoLogNotes.note.Goals as goal

pub returns-clause-noted : goal.returns-clause-noted
returns-clause-noted c =
    λ noted ram x stood. put_back_written c.args.self.now.stood.items c.push_reserved.new.self.items (record { at = c.args.at; byte = c.args.byte }) ram x c.push_reserved.ensures.items stood
