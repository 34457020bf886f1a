-- BREAK, component by component.
use Rattle.std.proofs.Common.{◌≡◌, sym, subst, refl, ℕ, ◌+◌, ◌*◌, Bool, true, false, List, [], ◌∷◌, arith}
use Rattle.std.specs.Prelude.{Option, None, Some, is_none, if◌then◌else◌}
use Rattle.std.proofs.lemmas.Bool.{true≢false, false≢true}
use Rattle.op_table.specs.declared.names.Part.TheVariants.{Nmos}
use Rattle.op_table.specs.declared.rows.Row.{Row}
use Rattle.cpu_alu.specs.declared.Regs.{Regs}
use Rattle.cpu_core.specs.declared.Sequence.{Sequence}
use Rattle.cpu_core.specs.declared.Sequence.TheVariants.{Instruction, Reset, Nmi, Irq}
use Rattle.cpu_core.specs.Accesses.{byte, row_at}
use Rattle.cpu_core.specs.Results.{after_opcode}
use Rattle.cpu_core.specs.Sequences.{halts, result_of}
use Rattle.cpu6502.specs.Sequences.{after, fresh}
use Rattle.tube_chip.specs.declared.Answer.{Answer}
use Rattle.tube_chip.specs.declared.Op.TheVariants as op
use Rattle.tube_chip.specs.Act.{access}
use Rattle.wd1770.specs.declared.command.Command.{Command}
use Rattle.wd1770.specs.declared.command.Command.TheVariants.{Idle}
use Rattle.wd1770.specs.Commands.{latch_leaves}
use Rattle.wd1770.specs.Ends.{is_busy, end_leaves}
use Rattle.wd1770.specs.State as disc
use Rattle.host_devices.specs.Devices.{devices_reset}
use Rattle.host_mach.specs.State.{HostState}
use Rattle.host_mach.specs.Step.{is_break, host_transitions, after_break, host_closed, next_state}
use Rattle.law_machines.specs.Resets.{ProcessorIsReset, ControllerIsReset, IsReset, BreakResets}

-- ---- The processor

as_word : (low high : ℕ) → low + high * 256 ≡ low + 256 * high
as_word low high = omega arith

processor : (r : Regs) → ProcessorIsReset r (fresh Reset r)
processor r = record {
  sequence = refl;
  none_done = refl;
  runs = refl;
  start = refl;
  pc = λ seen. as_word (byte seen 5) (byte seen 6);
  a = λ seen. refl;
  x = λ seen. refl;
  y = λ seen. refl;
  s = λ seen. refl;
  p = λ seen. refl;
}

without_row : (o : Option Row) (r : Regs) (seen : List (Option ℕ)) → is_none o ≡ true → after_opcode Nmos o r seen ≡ r
without_row None r seen none = refl
without_row (Some row) r seen none = absurd (false≢true none)

halted_by : (seen : List (Option ℕ)) (sequence : Sequence) (r : Regs) → halts seen Nmos sequence ≡ true → result_of Nmos sequence r seen ≡ r
halted_by [] q r is = absurd (false≢true is)
halted_by (None ∷ seen) q r is = absurd (false≢true is)
halted_by (Some op ∷ x ∷ seen) q r is = absurd (false≢true is)
halted_by (Some op ∷ []) Reset r is = absurd (false≢true is)
halted_by (Some op ∷ []) Nmi r is = absurd (false≢true is)
halted_by (Some op ∷ []) Irq r is = absurd (false≢true is)
halted_by (Some op ∷ []) Instruction r is = without_row (row_at Nmos op) r (Some op ∷ []) is

-- ---- The disc controller

-- a choice of the whole state is one of each field
field : {A : Type 0} (f : disc.State → A) (b : Bool) (d : disc.State) → f (end_leaves d) ≡ f d → f (if b then end_leaves d else d) ≡ f d
field f true d same = same
field f false d same = refl

motor_by : (b : Bool) (d : disc.State) → (if b then end_leaves d else d).motor ≡ (if b then 2000000 else d.motor)
motor_by true d = refl
motor_by false d = refl

idle : (c : Command) → is_busy c ≡ false → c ≡ Idle
idle Idle rests = refl
idle _ rests = absurd (true≢false rests)

idle_by : (b : Bool) (d : disc.State) → is_busy d.command ≡ b → (if b then end_leaves d else d).command ≡ Idle
idle_by true d is = refl
idle_by false d is = idle d.command is

controller : (d : disc.State) → ControllerIsReset d (latch_leaves 0 d)
controller d =
    let b = is_busy d.command in
    let e = record d { latch = 0 } in
    record {
      latch = field (λ (x : disc.State). x.latch) b e refl;
      command = idle_by b e refl;
      drq = refl;
      intrq = refl;
      motor = motor_by b e;
      track = field (λ (x : disc.State). x.track) b e refl;
      sector = field (λ (x : disc.State). x.sector) b e refl;
      byte = field (λ (x : disc.State). x.byte) b e refl;
      angle = field (λ (x : disc.State). x.angle) b e refl;
      head0 = field (λ (x : disc.State). x.drive0.head) b e refl;
      head1 = field (λ (x : disc.State). x.drive1.head) b e refl;
      disc0 = field (λ (x : disc.State). x.drive0.disc) b e refl;
      disc1 = field (λ (x : disc.State). x.drive1.disc) b e refl;
      direction = field (λ (x : disc.State). x.last_inward) b e refl;
      type_one = field (λ (x : disc.State). x.type_one) b e refl;
      record_not_found = field (λ (x : disc.State). x.record_not_found) b e refl;
      lost_data = field (λ (x : disc.State). x.lost_data) b e refl;
      rises = field (λ (x : disc.State). x.nmis) b e refl;
    }

-- ---- The host

broken : (s : HostState) → IsReset s (host_closed s (s.due + 1)) (after_break (host_closed s (s.due + 1)))
unfolding devices_reset
broken s = record {
  processor = processor (after s.cpu);
  of_halted = λ is. halted_by s.cpu.seen s.cpu.sequence s.cpu.regs is;
  user_via = record {
    orb = refl;
    ora = refl;
    ddrb = refl;
    ddra = refl;
    timer1_counter = refl;
    timer1_latch_low = refl;
    timer1_latch_high = refl;
    timer1_reload = refl;
    timer1_armed = refl;
    timer2_counter = refl;
    timer2_latch_low = refl;
    timer2_fresh = refl;
    timer2_armed = refl;
    sr = refl;
    acr = refl;
    pcr = refl;
    ifr_timer1 = refl;
    ifr_timer2 = refl;
    ifr_cb1 = refl;
    ifr_cb2 = refl;
    ifr_shift = refl;
    ifr_ca1 = refl;
    ifr_ca2 = refl;
    ier_timer1 = refl;
    ier_timer2 = refl;
    ier_cb1 = refl;
    ier_cb2 = refl;
    ier_shift = refl;
    ier_ca1 = refl;
    ier_ca2 = refl;
    level_ca1 = refl;
    level_ca2 = refl;
    level_cb1 = refl;
    level_cb2 = refl;
  };
  controller = controller (host_closed s (s.due + 1)).bus.bus.board.devices.disc;
  system_via = refl;
  latch = refl;
  converter = refl;
  crtc = refl;
  ula = refl;
  teletext = refl;
  beam = refl;
  cursor = refl;
  working = refl;
  finished = refl;
  shots = refl;
  ram = refl;
  roms = refl;
  rom_latch = refl;
  plugs = refl;
  sound = refl;
  clock = refl;
  script = refl;
  tube = refl;
  breaks = refl;
  nmis = (controller (host_closed s (s.due + 1)).bus.bus.board.devices.disc).rises;
  closed = refl;
  due = refl;
}

breaks_so : (s : HostState) (a : Option Answer) → is_break s ≡ true → next_state s a ≡ after_break (host_closed s (s.due + 1))
breaks_so s a is = rw is

asks_so : (s : HostState) → is_break s ≡ true → host_transitions.asks s ≡ (if s.bus.tube then Some (access op.Reset) else None)
asks_so s is = rw is

pub break_resets : BreakResets
break_resets = record {
  host = λ s a is. subst (IsReset s (host_closed s (s.due + 1))) (sym (breaks_so s a is)) (broken s);
  asks = asks_so;
  tube = λ c. record {
    p = refl;
    v = refl;
    m = refl;
    j = refl;
    i = refl;
    q = refl;
    to_host_1 = record { none = refl; shown = refl };
    to_host_2 = record { none = refl; shown = refl };
    to_host_3 = refl;
    to_host_3_shown = refl;
    to_host_4 = record { none = refl; shown = refl };
    to_para_1 = record { none = refl; shown = refl };
    to_para_2 = record { none = refl; shown = refl };
    to_para_3 = record { none = refl; shown = refl };
    to_para_4 = record { none = refl; shown = refl };
    resets = refl;
    nmis = refl;
  };
  answer = λ c. refl;
}
