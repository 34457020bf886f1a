use Rattle.video_ula.proofs.ready.Ready.first.Goals as goal

pub returns-clause-eight : goal.returns-clause-eight
returns-clause-eight c = (c.requires c.args.byte c.ranges.byte.fits).0
