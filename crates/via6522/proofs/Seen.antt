-- The timers, by the fields of their code.
use Rattle.via6522.specs.State.{Timer1, Timer2}
use Rattle.via6522.specs.declared.timer1.Timer1.TheInside.{Inside as Inside1}
use Rattle.via6522.specs.declared.timer2.Timer2.TheInside.{Inside as Inside2}

abbrev pub seen1 : Inside1 → Timer1
seen1 i = record { counter = i.counter; latch_low = i.latch_low; latch_high = i.latch_high; reload = i.reload; armed = i.armed }

abbrev pub seen2 : Inside2 → Timer2
seen2 i = record { counter = i.counter; latch_low = i.latch_low; fresh = i.fresh; armed = i.armed }
