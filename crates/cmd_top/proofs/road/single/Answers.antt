use Rattle.std.proofs.Common.{◌∙◌, refl, ap, map, Err}
use Rattle.cmd_stages.specs.Plan.{stop_of}
use Rattle.cmd_stages.proofs.ReadLemmas.{err_is}
use Rattle.cmd_words.specs.View.{seen_want}
use Rattle.cmd_outcome.specs.View.{verdict_of}
use Rattle.cmd_top.proofs.StageLemmas.{reads_as, same_counts, crew_stays, alone_stopped, alone_worked}
use Rattle.cmd_top.proofs.road.single.Goals as goal

pub returns-in_err-inputs : goal.returns-in_err-inputs
returns-in_err-inputs g c = λ crew.
    rw (err_is c.from_residual-in_err-inputs.result c.in_err-inputs.field-0.0 c.from_residual-in_err-inputs.ensures.1)
    (c.stages_carry_out.ensures.reading _ _ _ _
    (reads_as _ _ _ _ (Err c.in_err-inputs.field-0.0) (ap (map seen_want) c.deref.ensures.value ∙ c.in_ok-wants.ensures) c.in_err-inputs.ensures.read) refl refl
    (record {
      read = c.in_err-inputs.ensures.counts;
      written = same_counts _;
      crew = crew_stays _ _;
      files = c.in_err-inputs.ensures.files;
    }))

pub returns-in_err-outcome : goal.returns-in_err-outcome
returns-in_err-outcome g c = λ crew.
    rw (err_is c.from_residual-in_err-outcome.result (stop_of c.in_err-outcome.field-0.0) c.from_residual-in_err-outcome.ensures.1)
    (c.stages_carry_out.ensures.work _ _ _ c.in_ok-inputs.inputs _ (rw (c.deref.ensures.value, c.in_ok-wants.ensures) at c.in_ok-inputs.ensures.read)
    (alone_stopped _ c.requires.unpaired crew _ (verdict_of g.D.BusDevice.plug) c.in_err-outcome.field-0.0 c.in_err-outcome.ensures)
    refl
    (record {
      read = c.in_ok-inputs.ensures.counts;
      written = same_counts _;
      crew = crew_stays _ _;
      files = c.in_ok-inputs.ensures.files;
    }))

pub returns : goal.returns
returns g c = λ crew.
    c.stages_carry_out.ensures.writing _ _ _ c.in_ok-inputs.inputs (verdict_of g.D.BusDevice.plug c.in_ok-outcome.outcome) _
    (rw (c.deref.ensures.value, c.in_ok-wants.ensures) at c.in_ok-inputs.ensures.read)
    (alone_worked _ c.requires.unpaired crew _ (verdict_of g.D.BusDevice.plug) c.in_ok-outcome.outcome c.in_ok-outcome.ensures)
    c.write_outcome.ensures.writes
    (record {
      read = c.in_ok-inputs.ensures.counts;
      written = c.write_outcome.ensures.counts;
      crew = crew_stays _ _;
      files = c.in_ok-inputs.ensures.files;
    })
