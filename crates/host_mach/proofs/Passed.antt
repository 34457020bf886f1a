-- Starts that are skipped, as they are seen.
use Rattle.std.proofs.Common.{ℕ, zero, suc}
use Rattle.tube_party.specs.Transitions.{Shown}
use Rattle.tube_machine.specs.declared.skip_while.SkipWhile.{SkipWhile}
use Rattle.tube_machine.specs.SkipWhile.{IsSkipped, Passes, skipped_at}
use Rattle.host_bus.specs.Peek.{bus_peek}
use Rattle.host_mach.specs.State.{HostState}
use Rattle.host_mach.specs.Step.{host_transitions}
use Rattle.host_mach.specs.Peek.{host_peek}

pub passes_seen : (skip : SkipWhile) (n : ℕ) (v : Shown) (k : ℕ) (s last : HostState) → Passes host_transitions (skipped_at (λ b at. bus_peek b.bus at) skip) n v k s last →
    Passes host_transitions (λ (x : HostState). IsSkipped skip x.due x.cpu.regs.pc (host_peek x)) n v k s last
passes_seen skip n v zero s last h = h
passes_seen skip n v (suc k) s last h = (h.0.1, (h.1.0, (h.1.1.0, passes_seen skip n v k h.1.0 last h.1.1.1)))
