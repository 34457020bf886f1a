-- The lines of a report.
use Rattle.std.specs.Prelude.{ℕ, List, [], ◌++◌, Option, Some, None, bit_and, bit_or, decimal, codes, if◌then◌else◌}
use Rattle.digits.specs.Hexadecimal.{hex_digits}
use Rattle.cpu_alu.specs.declared.Regs.{Regs}
use Rattle.report.specs.declared.Line.{Line}

-- P with bit 5 set and bit 4 clear
abbrev pub shown_flags : ℕ → ℕ
shown_flags p = bit_or (bit_and p 0xCF) 0x20

unfoldable pub regs_text : Regs → List ℕ
regs_text r =
    codes " PC=" ++ hex_digits 4 r.pc
    ++ codes " A=" ++ hex_digits 2 r.a
    ++ codes " X=" ++ hex_digits 2 r.x
    ++ codes " Y=" ++ hex_digits 2 r.y
    ++ codes " S=" ++ hex_digits 2 r.s
    ++ codes " P=" ++ hex_digits 2 (shown_flags r.p)

-- a machine's line: its name, its registers, and the word stop if it has stopped
abbrev pub line_text : List ℕ → List ℕ → Option Line → List ℕ
line_text name stop None = []
line_text name stop (Some line) = name ++ regs_text line.regs ++ (if line.stopped then stop else []) ++ codes "\n"

-- a count, with its name before it
abbrev pub count_text : List ℕ → ℕ → List ℕ
count_text name n = name ++ decimal n ++ codes "\n"

abbrev pub option_text : List ℕ → Option ℕ → List ℕ
option_text name None = []
option_text name (Some n) = count_text name n

-- n ticks, the lines of the machines that are present, the number of Tube accesses, and the other
-- counts if given
abbrev pub text : ℕ → Option Line → Option Line → ℕ → Option ℕ → Option ℕ → List ℕ
text n host para tube kept frames =
    count_text (codes "ticks ") n
    ++ line_text (codes "host") (codes " halted") host
    ++ line_text (codes "para") (codes " held") para
    ++ count_text (codes "tube ") tube
    ++ option_text (codes "kept ") kept
    ++ option_text (codes "frames ") frames
