-- What BREAK resets, and what it leaves, component by component. (Acorn, BBC Microcomputer Advanced
-- User Guide, the BREAK key; MCS6500 Hardware Manual, reset; 6522 and WD1770 data sheets, RES and
-- MR. What BREAK leaves, the Tube's counts, and the levels before the 6522's first step are this
-- project's.)
use Rattle.std.specs.Prelude.{ℕ, ◌+◌, ◌*◌, ◌%◌, ◌≡◌, true, false, List, [], Option, Some, None, bit_or, if◌then◌else◌}
use Rattle.beeb_bits.specs.declared.Side.TheVariants.{Host}
use Rattle.cpu_alu.specs.declared.Regs.{Regs}
use Rattle.cpu_core.specs.declared.Sequence.TheVariants.{Reset}
use Rattle.cpu_core.specs.State as cpu
use Rattle.cpu_core.specs.Accesses.{byte}
use Rattle.cpu6502.specs.Sequences.{after, halted}
use Rattle.tube_chip.specs.declared.Op.TheVariants as op
use Rattle.tube_chip.specs.declared.Answer.{Answer}
use Rattle.tube_chip.specs.declared.Answer.TheVariants.{Byte}
use Rattle.tube_chip.specs.Act.{access, act}
use Rattle.tube_chip.specs.Register.{Register, count, front_of}
use Rattle.tube_chip.specs.State as chip
use Rattle.via6522.specs.State as via
use Rattle.wd1770.specs.declared.command.Command.TheVariants.{Idle}
use Rattle.wd1770.specs.Ends.{is_busy}
use Rattle.wd1770.specs.State as disc
use Rattle.host_devices.specs.Breaks.{breaks_until}
use Rattle.host_mach.specs.State.{HostState}
use Rattle.host_mach.specs.Step.{is_break, host_transitions, host_closed, next_state}

-- The processor begins a reset with the registers r. After its seven cycles, whose last two read
-- the vector, PC is the vector, S is lower by three and I, bit 2 of P, is set.
pub record ProcessorIsReset (r : Regs) (after_it : cpu.State) : Type 0 where
  pub sequence : after_it.sequence ≡ Reset
  pub none_done : after_it.seen ≡ []
  pub runs : halted after_it ≡ false
  pub start : after_it.regs ≡ r
  pub pc : (seen : List (Option ℕ)) → (after (record after_it { seen = seen })).pc ≡ byte seen 5 + 256 * byte seen 6
  pub a : (seen : List (Option ℕ)) → (after (record after_it { seen = seen })).a ≡ r.a
  pub x : (seen : List (Option ℕ)) → (after (record after_it { seen = seen })).x ≡ r.x
  pub y : (seen : List (Option ℕ)) → (after (record after_it { seen = seen })).y ≡ r.y
  pub s : (seen : List (Option ℕ)) → (after (record after_it { seen = seen })).s ≡ (r.s + 253) % 256
  pub p : (seen : List (Option ℕ)) → (after (record after_it { seen = seen })).p ≡ bit_or r.p 0x04

-- Each register of a 6522 is 0, the timers do not run, and no interrupt is enabled or flagged. The
-- levels of the lines before the next step are 0 for CA1 and CA2, and 1 for CB1 and CB2.
pub record ViaIsReset (v : via.State) : Type 0 where
  pub orb : v.orb ≡ 0
  pub ora : v.ora ≡ 0
  pub ddrb : v.ddrb ≡ 0
  pub ddra : v.ddra ≡ 0
  pub timer1_counter : v.timer1.counter ≡ 0
  pub timer1_latch_low : v.timer1.latch_low ≡ 0
  pub timer1_latch_high : v.timer1.latch_high ≡ 0
  pub timer1_reload : v.timer1.reload ≡ false
  pub timer1_armed : v.timer1.armed ≡ false
  pub timer2_counter : v.timer2.counter ≡ 0
  pub timer2_latch_low : v.timer2.latch_low ≡ 0
  pub timer2_fresh : v.timer2.fresh ≡ false
  pub timer2_armed : v.timer2.armed ≡ false
  pub sr : v.sr ≡ 0
  pub acr : v.acr ≡ 0
  pub pcr : v.pcr ≡ 0
  pub ifr_timer1 : v.flags.timer1 ≡ false
  pub ifr_timer2 : v.flags.timer2 ≡ false
  pub ifr_cb1 : v.flags.cb1 ≡ false
  pub ifr_cb2 : v.flags.cb2 ≡ false
  pub ifr_shift : v.flags.shift ≡ false
  pub ifr_ca1 : v.flags.ca1 ≡ false
  pub ifr_ca2 : v.flags.ca2 ≡ false
  pub ier_timer1 : v.enabled.timer1 ≡ false
  pub ier_timer2 : v.enabled.timer2 ≡ false
  pub ier_cb1 : v.enabled.cb1 ≡ false
  pub ier_cb2 : v.enabled.cb2 ≡ false
  pub ier_shift : v.enabled.shift ≡ false
  pub ier_ca1 : v.enabled.ca1 ≡ false
  pub ier_ca2 : v.enabled.ca2 ≡ false
  pub level_ca1 : v.levels.ca1 ≡ false
  pub level_ca2 : v.levels.ca2 ≡ false
  pub level_cb1 : v.levels.cb1 ≡ true
  pub level_cb2 : v.levels.cb2 ≡ true

-- The latch of the disc controller becomes 00: a command in progress ends, and DRQ and INTRQ become
-- clear. The motor goes off 2,000,000 microseconds after the end of a command, and otherwise at its
-- time. The registers, the rest of the status, the heads, the angle and the discs stay.
pub record ControllerIsReset (before now : disc.State) : Type 0 where
  pub latch : now.latch ≡ 0
  pub command : now.command ≡ Idle
  pub drq : now.drq ≡ false
  pub intrq : now.intrq ≡ false
  pub motor : now.motor ≡ (if is_busy before.command then 2000000 else before.motor)
  pub track : now.track ≡ before.track
  pub sector : now.sector ≡ before.sector
  pub byte : now.byte ≡ before.byte
  pub angle : now.angle ≡ before.angle
  pub head0 : now.drive0.head ≡ before.drive0.head
  pub head1 : now.drive1.head ≡ before.drive1.head
  pub disc0 : now.drive0.disc ≡ before.drive0.disc
  pub disc1 : now.drive1.disc ≡ before.drive1.disc
  pub direction : now.last_inward ≡ before.last_inward
  pub type_one : now.type_one ≡ before.type_one
  pub record_not_found : now.record_not_found ≡ before.record_not_found
  pub lost_data : now.lost_data ≡ before.lost_data
  pub rises : now.nmis ≡ before.nmis

-- The state `now` after a break step from state s. The step first runs the devices up to its tick:
-- that is state `before`.
pub record IsReset (s before now : HostState) : Type 0 where
  pub processor : ProcessorIsReset (after s.cpu) now.cpu
  -- A halted processor has the registers of its opcode's start.
  pub of_halted : halted s.cpu ≡ true → now.cpu.regs ≡ s.cpu.regs
  pub user_via : ViaIsReset now.bus.bus.board.devices.user
  pub controller : ControllerIsReset before.bus.bus.board.devices.disc now.bus.bus.board.devices.disc
  -- the system's 6522, and the addressable latch beside it
  pub system_via : now.bus.bus.board.devices.system ≡ before.bus.bus.board.devices.system
  pub latch : now.bus.bus.board.devices.latch ≡ before.bus.bus.board.devices.latch
  pub converter : now.bus.bus.board.devices.converter ≡ before.bus.bus.board.devices.converter
  -- the picture
  pub crtc : now.bus.bus.board.devices.video.crtc ≡ before.bus.bus.board.devices.video.crtc
  pub ula : now.bus.bus.board.devices.video.ula ≡ before.bus.bus.board.devices.video.ula
  pub teletext : now.bus.bus.board.devices.video.text ≡ before.bus.bus.board.devices.video.text
  pub beam : now.bus.bus.board.devices.video.place ≡ before.bus.bus.board.devices.video.place
  pub cursor : now.bus.bus.board.devices.video.cursor ≡ before.bus.bus.board.devices.video.cursor
  pub working : now.bus.bus.board.devices.video.working ≡ before.bus.bus.board.devices.video.working
  pub finished : now.bus.bus.board.devices.video.finished ≡ before.bus.bus.board.devices.video.finished
  pub shots : now.bus.bus.board.shots ≡ before.bus.bus.board.shots
  -- memory, the ROMs and the latch that selects one, the plugged devices, and the writes that the
  -- sound chip has heard
  pub ram : now.bus.bus.board.ram ≡ s.bus.bus.board.ram
  pub roms : now.bus.bus.board.roms ≡ s.bus.bus.board.roms
  pub rom_latch : now.bus.bus.board.latch ≡ s.bus.bus.board.latch
  pub plugs : now.bus.bus.plugs ≡ s.bus.bus.plugs
  pub sound : now.bus.bus.board.sound ≡ s.bus.bus.board.sound
  -- the clock, the keys and other events, and whether there is a Tube
  pub clock : now.bus.bus.board.clock ≡ s.bus.bus.board.clock
  pub script : now.bus.bus.board.script ≡ s.bus.bus.board.script
  pub tube : now.bus.tube ≡ s.bus.tube
  -- Each break up to this tick counts as taken, and each rise of the NMI line.
  pub breaks : now.bus.bus.board.breaks ≡ breaks_until s.due s.bus.bus.board.script
  pub nmis : now.bus.nmis ≡ before.bus.bus.board.devices.disc.nmis
  -- The devices stay at their tick, and the reset's first access is at the next one.
  pub closed : now.bus.bus.board.closed ≡ before.bus.bus.board.closed
  pub due : now.due ≡ s.due + 1

-- A register of the Tube holds no byte, and shows 00.
pub record IsEmpty (r : Register) : Type 0 where
  pub none : count r ≡ 0
  pub shown : front_of r ≡ 0

-- The Tube after the host's reset: no flag is set, and no register holds a byte but register 3 to
-- the host, which holds one, 00. The count of resets is one more, so that the second processor is
-- reset, and the count of NMIs stays.
pub record TubeIsReset (before now : chip.State) : Type 0 where
  pub p : now.flags.p ≡ false
  pub v : now.flags.v ≡ false
  pub m : now.flags.m ≡ false
  pub j : now.flags.j ≡ false
  pub i : now.flags.i ≡ false
  pub q : now.flags.q ≡ false
  pub to_host_1 : IsEmpty now.to_host.r1
  pub to_host_2 : IsEmpty now.to_host.r2
  pub to_host_3 : count now.to_host.r3 ≡ 1
  pub to_host_3_shown : front_of now.to_host.r3 ≡ 0
  pub to_host_4 : IsEmpty now.to_host.r4
  pub to_para_1 : IsEmpty now.to_para.r1
  pub to_para_2 : IsEmpty now.to_para.r2
  pub to_para_3 : IsEmpty now.to_para.r3
  pub to_para_4 : IsEmpty now.to_para.r4
  pub resets : now.resets ≡ (before.resets + 1) % 4294967296
  pub nmis : now.nmis ≡ before.nmis

pub record BreakResets : Type 0 where
  pub host : (s : HostState) (answer : Option Answer) → is_break s ≡ true → IsReset s (host_closed s (s.due + 1)) (next_state s answer)
  -- A host with a Tube asks for its reset, and one without asks nothing.
  pub asks : (s : HostState) → is_break s ≡ true → host_transitions.asks s ≡ (if s.bus.tube then Some (access op.Reset) else None)
  pub tube : (c : chip.State) → TubeIsReset c (act c Host (access op.Reset)).0
  pub answer : (c : chip.State) → (act c Host (access op.Reset)).1 ≡ Byte 0
