-- The listing of a replay: the starts of its run, the chosen starts, and a line for each of the
-- first 1,048,576 chosen starts. (This project's own format.)
use Rattle.std.specs.Prelude.{ℕ, zero, suc, ◌==◌, ◌&&◌, nat_le, nat_lt, min, not, List, [], ◌∷◌, ◌++◌, length, map, filter}
use Rattle.std.specs.Prelude.{take, slice_index_or, flat_map, Bool, true, false, Option, None, Some, if◌then◌else◌, codes}
use Rattle.digits.specs.Hexadecimal.{hex_digits}
use Rattle.beeb_bits.specs.declared.Side.{Side}
use Rattle.op_table.specs.declared.names.Part.{Part}
use Rattle.cpu_alu.specs.declared.Regs.{Regs}
use Rattle.dis65.specs.Listing.{decode}
use Rattle.report.specs.Text.{shown_flags}
use Rattle.tube_chip.specs.declared.Op.{Op}
use Rattle.tube_chip.specs.declared.Answer.TheVariants.{Byte, Seen}
use Rattle.tube_chip.specs.State.{lines_of, power_on}
use Rattle.tube_chip.specs.Act.{Query, access, look}
use Rattle.tube_trace.specs.declared.Entry.{Entry}
use Rattle.tube_party.specs.Transitions.{Transitions}
use Rattle.tube_party.specs.Replay.{Numbered, own_from, is_that, chip_before}
use Rattle.follow.specs.declared.choice.Choice.{Choice}
use Rattle.follow.specs.Sight.{Sight}
use Rattle.follow.specs.Start.{StartState, start_of}
use Rattle.follow.specs.Counts.{counted_of, counts_of_counted}

-- ---- The run: the states from which a replay does a step

-- the state and those after it, if its access is the side's next entry; otherwise none
abbrev pub access_run : {S : Type 0} → Transitions S → S → Op → List Numbered → (S → List Numbered → List S) → List S
access_run m s op [] behind = []
access_run m s op (x ∷ own) behind = if is_that x.entry (m.due s) op then s ∷ behind (m.next s (Some (Byte x.entry.answer))) own else []

abbrev pub step_run : {S : Type 0} → Transitions S → Side → List Entry → S → List Numbered → Option Query → (S → List Numbered → List S) → List S
step_run m side trace s own None behind = s ∷ behind (m.next s None) own
step_run m side trace s own (Some look) behind = s ∷ behind (m.next s (Some (Seen (lines_of (chip_before side (m.due s) power_on trace))))) own
step_run m side trace s own (Some (access op)) behind = access_run m s op own behind

-- at most `k` steps below tick `n`, with the side's entries that are left
abbrev pub run_from : {S : Type 0} → Transitions S → Side → List Entry → ℕ → ℕ → S → List Numbered → List S
run_from m side trace n zero s own = []
run_from m side trace n (suc k) s own =
    if nat_lt (m.due s) n then step_run m side trace s own (m.asks s) (run_from m side trace n k) else []

-- Ticks rise from step to step, so `n` steps are enough.
unfoldable pub run_of : {S : Type 0} → Transitions S → Side → List Entry → ℕ → S → List S
run_of m side trace n s = run_from m side trace n n s (own_from side n 1 trace)

-- the starts of a list of states: one for each state that starts an instruction, in order
abbrev pub starts_of : {S : Type 0} → Transitions S → (S → Sight) → Option ℕ → List S → List StartState
starts_of m sights watch states = map (λ s. start_of m sights watch s) (filter (λ s. (sights s).starting) states)

-- ---- The starts that are chosen

-- The program counter is the address, if one is given.
abbrev pub is_at : Option ℕ → ℕ → Bool
is_at None pc = true
is_at (Some at) pc = at == pc

-- The program counter is one of the addresses, if they are given.
abbrev pub is_in : Option (List Bool) → ℕ → Bool
is_in None pc = true
is_in (Some points) pc = slice_index_or points pc false

-- The two bytes are equal, or both are none.
abbrev pub is_same_byte : Option ℕ → Option ℕ → Bool
is_same_byte None None = true
is_same_byte (Some a) (Some b) = a == b
is_same_byte None (Some b) = false
is_same_byte (Some a) None = false

-- If an address is watched, its byte differs from that at the start before. At the first start
-- there is no change.
abbrev pub has_changed : Option ℕ → Option (Option ℕ) → Option ℕ → Bool
has_changed None before now = true
has_changed (Some at) None now = false
has_changed (Some at) (Some before) now = not (is_same_byte before now)

-- A start at this tick and address with this watched byte is chosen. `before` is the byte watched
-- at the start before, if there was one.
abbrev pub is_chosen : Choice → Option (Option ℕ) → ℕ → ℕ → Option ℕ → Bool
is_chosen choice before tick pc watched = nat_le choice.from tick && is_at choice.at pc && is_in choice.points pc && has_changed choice.watch before watched

-- the chosen ones of `starts`, after a start with watched byte `before`
abbrev pub chosen_from : Choice → Option (Option ℕ) → List StartState → List StartState
chosen_from choice before [] = []
chosen_from choice before (s ∷ starts) =
    if is_chosen choice before s.tick s.regs.pc s.watched then s ∷ chosen_from choice (Some s.watched) starts else chosen_from choice (Some s.watched) starts

abbrev pub chosen_of : Choice → List StartState → List StartState
chosen_of choice starts = chosen_from choice None starts

-- ---- Their lines

-- a text after its first line, and the first line of a text
abbrev pub behind_line : List ℕ → List ℕ
behind_line [] = []
behind_line (c ∷ text) = if c == 10 then text else behind_line text

abbrev pub first_line : List ℕ → List ℕ
first_line [] = []
first_line (c ∷ text) = if c == 10 then [] else c ∷ first_line text

-- the second line of the disassembly of the bytes at the program counter, or `?` if there is no
-- byte
abbrev pub instruction_text : Part → ℕ → List ℕ → List ℕ
instruction_text part pc [] = codes "?"
instruction_text part pc (b ∷ bytes) = first_line (behind_line (decode part (b ∷ bytes) pc))

-- the registers except the program counter, as in a report
unfoldable pub registers_text : Regs → List ℕ
registers_text r =
    codes " A=" ++ hex_digits 2 r.a
    ++ codes " X=" ++ hex_digits 2 r.x
    ++ codes " Y=" ++ hex_digits 2 r.y
    ++ codes " S=" ++ hex_digits 2 r.s
    ++ codes " P=" ++ hex_digits 2 (shown_flags r.p)

unfoldable pub start_line : Part → StartState → List ℕ
start_line part s =
    hex_digits 10 s.tick ++ codes " " ++ hex_digits 4 s.regs.pc ++ registers_text s.regs ++ codes " " ++ instruction_text part s.regs.pc s.code
    ++ codes "\n"

-- ---- The listing

-- the text, the number of its lines, the number of chosen starts and, if counts are requested,
-- their text
pub record ListingState : Type 0 where
  pub text : List ℕ
  pub listed : ℕ
  pub chosen : ℕ
  pub counts : Option (List ℕ)

-- the lines of the first 1,048,576 chosen starts
unfoldable pub lines_of_starts : Part → List StartState → List ℕ
lines_of_starts part chosen = flat_map (λ s. start_line part s) (take 1048576 chosen)

abbrev pub listing_with : Part → List StartState → Option (List ℕ) → ListingState
listing_with part chosen counts =
    record { text = lines_of_starts part chosen; listed = min (length chosen) 1048576; chosen = length chosen; counts = counts }

-- the listing of the chosen starts of a run up to tick `n`, with the counts of its counted starts
abbrev pub listing_of_chosen : Part → Choice → ℕ → List StartState → List StartState → ListingState
listing_of_chosen part choice n chosen counted = listing_with part chosen (counts_of_counted choice.counts n counted)

abbrev pub listing_of : Part → Choice → ℕ → List StartState → ListingState
listing_of part choice n starts = listing_of_chosen part choice n (chosen_of choice starts) (counted_of choice starts)

-- The listing of the replay of a machine up to tick `n` against its side of a trace.
abbrev pub replay_listing : {S : Type 0} → Transitions S → (S → Sight) → Part → Side → List Entry → ℕ → Choice → S → ListingState
replay_listing m sights part side trace n choice s =
    listing_of part choice n (starts_of m sights choice.watch (run_of m side trace n s))
