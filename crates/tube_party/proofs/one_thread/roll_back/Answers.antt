use Rattle.std.proofs.Common.{subst}
use Rattle.tube_party.specs.Transitions.{PortRun, shown_lines}
use Rattle.tube_party.specs.CodePassing.{IsPassed, chip_port_state}
use Rattle.tube_party.specs.CodeStanding.{para_turn}
use Rattle.tube_party.proofs.one_thread.roll_back.Goals as goal

pub returns : goal.returns
returns g c =
    let port_run_to_ask = c.advance_at.ensures in
    record {
      log = c.cut.new.self;
      list_is = c.cut.ensures.list;
      count_is = c.cut.ensures.count;
      keep_is = c.cut.ensures.keep;
      goes = record {
        accesses = port_run_to_ask.accesses;
        last = port_run_to_ask.last;
        port_run = subst (λ x. PortRun g.M.Party.transitions IsPassed c.args.n.0 (shown_lines c.args.lines.now c.args.at.0) port_run_to_ask.accesses x
            (para_turn (chip_port_state c.args.chip_port.now) c.cut.new.self c.args.at.0) port_run_to_ask.last (chip_port_state c.advance_at.new.port)) c.rewind.ensures port_run_to_ask.port_run;
        asked = port_run_to_ask.asked;
      };
    }
