use Rattle.std.proofs.Common.{◌≡◌, ◌≤◌, take}
use Rattle.beeb_bits.specs.declared.Side.TheVariants.{Host, Para}
use Rattle.tube_chip.specs.Events.{after}
use Rattle.tube_trace.specs.Entries.{events_of}
use Rattle.tube_party.specs.OneThread.{IsKept}
use Rattle.tube_party.proofs.noting.note_all.Given as goal

abbrev pub invariant-loop-entry : goal.invariant-loop-entry
invariant-loop-entry l = record {
  chip : l.chip ≡ after (events_of (take l.entry-index l.entries));
  host : IsKept Host (events_of (take l.entry-index l.entries)) l.fn.host_log.keep l.host_log.list.items l.host_log.count;
  para : IsKept Para (events_of (take l.entry-index l.entries)) l.fn.para_log.keep l.para_log.list.items l.para_log.count;
  host_keep : l.host_log.keep ≡ l.fn.host_log.keep;
  para_keep : l.para_log.keep ≡ l.fn.para_log.keep;
  host_few : l.host_log.count ≤ l.entry-index;
  para_few : l.para_log.count ≤ l.entry-index;
}
