use Rattle.session.specs.CodeSpecRun.{spec_start}
use Rattle.session.proofs.InSpeculation.{is_speculation}
use Rattle.session.proofs.ahead.go_past.Goals as goal

pub go_ahead-requires-clause-is_speculation : goal.go_ahead-requires-clause-is_speculation
go_ahead-requires-clause-is_speculation g c =
    is_speculation g.met.M.Party.lawful c.args.n.0 (spec_start (g.M.Party.state c.args.half.now.machine)
    (record { mark = record { tick = c.next_tick-tick.result; readings = c.readings-readings.result }; log = c.mark.result }))
