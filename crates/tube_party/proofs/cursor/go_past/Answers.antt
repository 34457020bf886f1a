use Rattle.std.proofs.Common.{◌<◌, inl, inr, ◌+◌, ◌∙◌, sym, ap, drop, arith}
use Rattle.std.proofs.lemmas.Bool.{cases_lt}
use Rattle.tube_chip.specs.State.{lines_of}
use Rattle.tube_party.specs.Replay.{chip_before}
use Rattle.tube_party.proofs.CursorLemmas.{chip_past, chip_here, chip_end}
use Rattle.tube_party.proofs.cursor.go_past.Goals as goal

pub returns-then-not-leaves_lines-clause-early : goal.returns-then-not-leaves_lines-clause-early
returns-then-not-leaves_lines-clause-early c = λ t low.
    let far : t < 1073741824 = omega (arith, low, c.min.ensures) in
    elim (cases_lt t c.loop-at.safe_until) [
      | inl before ↦ c.loop-at.invariant.early t before far
      | inr past ↦ ap lines_of (c.loop-at.invariant.late t past far
          ∙ chip_here c.args.trace.now c.args.side t c.loop-at.at _ c.loop-at.chip c.loop-at-test.true (c.first_look-safe_until.ensures.below t past (omega (arith, low, c.min.ensures))))
          ∙ sym c.loop-at.invariant.kept
    ]

pub returns-then-not-leaves_lines-clause-late : goal.returns-then-not-leaves_lines-clause-late
returns-then-not-leaves_lines-clause-late c = λ t high far.
    c.loop-at.invariant.late t (omega (arith, high, far, c.first_look-safe_until.ensures.least, c.min.ensures)) far
    ∙ chip_past c.args.trace.now c.args.side t c.loop-at.at _ c.loop-at.chip c.loop-at-test.true (c.first_look-safe_until.ensures.from t (omega (arith, high, far, c.min.ensures)) far)
    ∙ ap (λ x. chip_before c.args.side t x (drop (c.loop-at.at + 1) c.args.trace.now)) (sym c.leaves_lines.ensures.chip)

pub loop-at-preserved : goal.loop-at-preserved
loop-at-preserved c = record {
  within = omega (arith, c.loop-at-test.true);
  kept = c.leaves_lines.ensures.kept c.if-not-leaves_lines.false;
  early = λ t low far. elim (cases_lt t c.loop-at.safe_until) [
    | inl before ↦ c.loop-at.invariant.early t before far
    | inr past ↦ ap lines_of (c.loop-at.invariant.late t past far
        ∙ chip_here c.args.trace.now c.args.side t c.loop-at.at _ c.loop-at.chip c.loop-at-test.true (c.first_look-safe_until.ensures.below t past low))
        ∙ sym c.loop-at.invariant.kept
  ];
  late = λ t high far.
      c.loop-at.invariant.late t (omega (arith, high, c.first_look-safe_until.ensures.least)) far
      ∙ chip_past c.args.trace.now c.args.side t c.loop-at.at _ c.loop-at.chip c.loop-at-test.true (c.first_look-safe_until.ensures.from t high far)
      ∙ ap (λ x. chip_before c.args.side t x (drop (c.loop-at.at + 1) c.args.trace.now)) (sym c.leaves_lines.ensures.chip);
}

pub returns-clause-early : goal.returns-clause-early
returns-clause-early c = λ t far. elim (cases_lt t c.loop-at.safe_until) [
  | inl before ↦ c.loop-at.invariant.early t before far
  | inr past ↦ ap lines_of (c.loop-at.invariant.late t past far ∙ chip_end c.args.trace.now c.args.side t c.loop-at.at c.loop-at.chip c.loop-at-test.false) ∙ sym c.loop-at.invariant.kept
]
