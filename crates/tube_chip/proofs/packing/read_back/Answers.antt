use Rattle.std.proofs.Common.{◌∙◌, ap, ◌/◌, ◌%◌, slice_index}
use Rattle.tube_chip.specs.Packing.{unpacked_chip, flags_from, host_from, para_from}
use Rattle.tube_chip.proofs.packing.read_back.Goals as goal

pub returns : goal.returns
unfolding unpacked_chip
returns c =
    let flags = c.flags_from.ensures ∙ ap (λ bytes. flags_from (slice_index bytes 0)) c.to_le_bytes-bytes.ensures in
    let host = c.host_from.ensures ∙ (λ i. host_from (c.queue_from-queue.ensures i) (c.to_le_bytes-bytes.ensures i)) in
    let para = c.para_from.ensures ∙ ap para_from c.to_le_bytes.ensures in
    λ i. record { flags = flags i; to_host = host i; to_para = para i; nmis = slice_index c.args.words.now 0 % 4294967296; resets = slice_index c.args.words.now 0 / 4294967296 }
