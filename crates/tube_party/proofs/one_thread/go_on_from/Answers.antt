use Rattle.std.proofs.Common.{◌∙◌, refl, arith}
use Rattle.tube_party.proofs.InProgress.{mark_of}
use Rattle.tube_party.proofs.Both.{begins, finishes, para_count}
use Rattle.tube_party.proofs.Passing.{host_turn, para_turn_over, rolls_back}
use Rattle.tube_party.proofs.Noted.{kept_of}
use Rattle.tube_party.proofs.one_thread.go_on_from.Goals as goal

pub loop-side-init : goal.loop-side-init
loop-side-init g c = record {
  way = begins c.advance-host_ask.ensures c.advance-para_ask.ensures c.note_all-chip.ensures.chip
      (kept_of c.args.room.host.keep_is c.note_all-chip.ensures.host) (kept_of c.args.room.para.keep_is c.note_all-chip.ensures.para)
      c.note_all-chip.ensures.few.0 c.note_all-chip.ensures.few.1;
  lines_is = c.lines-lines.ensures;
  host_keep = c.note_all-chip.ensures.keep.0 ∙ c.args.room.host.keep_is;
  para_keep = c.note_all-chip.ensures.keep.1 ∙ c.args.room.para.keep_is;
}

pub loop-side-smaller-then-not-stays : goal.loop-side-smaller-then-not-stays
loop-side-smaller-then-not-stays g c =
    (rolls_back c.roll_back-para_ask.ensures c.loop-side.invariant.way c.loop-side.invariant.lines_is
    c.loop-side.invariant.host_keep c.loop-side.invariant.para_keep (cc) (c.stays.ensures.ahead c.if-not-stays.true)
    c.tick_of-at.ensures (refl, refl)
    (mark_of (g.P.Party.state (g.P.Rewinds.before c.roll_back-para_ask.new.past c.roll_back-para_ask.new.machine)) c.loop-side.mark.len
    c.loop-side.mark.count)).smaller

pub loop-side-preserved-then-not-stays : goal.loop-side-preserved-then-not-stays
loop-side-preserved-then-not-stays g c =
    (rolls_back c.roll_back-para_ask.ensures c.loop-side.invariant.way c.loop-side.invariant.lines_is
    c.loop-side.invariant.host_keep c.loop-side.invariant.para_keep (cc) (c.stays.ensures.ahead c.if-not-stays.true)
    c.tick_of-at.ensures (refl, refl) _).kept

pub loop-side-smaller-in-Host : goal.loop-side-smaller-in-Host
loop-side-smaller-in-Host g c =
    (host_turn c.loop-side.invariant (cc) c.advance_at-host_ask.ensures c.act.ensures.acts refl refl c.act.ensures.kept
    (c.act.ensures.keep ∙ c.loop-side.invariant.host_keep) refl c.has_read.ensures (c.stays.ensures.stays c.if-not-stays.false) c.lookahead-chip_port.ensures
    c.seen_until-seen.ensures).smaller

pub loop-side-preserved-in-Host : goal.loop-side-preserved-in-Host
loop-side-preserved-in-Host g c =
    (host_turn c.loop-side.invariant (cc) c.advance_at-host_ask.ensures c.act.ensures.acts refl refl c.act.ensures.kept
    (c.act.ensures.keep ∙ c.loop-side.invariant.host_keep) refl c.has_read.ensures (c.stays.ensures.stays c.if-not-stays.false) c.lookahead-chip_port.ensures
    c.seen_until-seen.ensures).kept

pub act-requires-in-Para-clause-count : goal.act-requires-in-Para-clause-count
act-requires-in-Para-clause-count g c = omega (arith, c.requires.ticks, para_count c.loop-side.invariant.way (cc))

pub loop-side-smaller : goal.loop-side-smaller
loop-side-smaller g c =
    (para_turn_over c.loop-side.invariant
    {from2 = mark_of (g.P.Party.state (g.P.Rewinds.before c.go_ahead.new.past c.go_ahead.new.machine)) c.mark-mark-in-Para.result.len c.mark-mark-in-Para.result.count}
    (cc) c.advance_at-asked.ensures c.go_ahead.ensures c.act-in-Para.ensures.acts refl refl refl
    (c.act-in-Para.ensures.keep ∙ c.loop-side.invariant.para_keep) c.act-in-Para.ensures.kept c.lookahead-chip_port-in-Para.ensures
    (refl, c.mark-mark-in-Para.ensures.len, c.mark-mark-in-Para.ensures.count)).smaller

pub loop-side-preserved : goal.loop-side-preserved
loop-side-preserved g c =
    (para_turn_over c.loop-side.invariant (cc) c.advance_at-asked.ensures c.go_ahead.ensures c.act-in-Para.ensures.acts refl refl refl
    (c.act-in-Para.ensures.keep ∙ c.loop-side.invariant.para_keep) c.act-in-Para.ensures.kept c.lookahead-chip_port-in-Para.ensures
    (refl, c.mark-mark-in-Para.ensures.len, c.mark-mark-in-Para.ensures.count)).kept

pub returns : goal.returns
returns g c = finishes c.loop-side.invariant.way (cc)
