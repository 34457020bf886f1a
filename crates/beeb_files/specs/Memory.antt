-- The shelf and the outlet in memory: their states in contracts, the calls that fail, and the
-- states after a call.
use Rattle.std.specs.Prelude.{ℕ, ◌-◌, ◌^◌, ◌==◌, ◌||◌, ◌≢◌, Bool, List, ◌++◌, map, Some, is_none, string_bytes, if◌then◌else◌, AllPairs, refl}
use Rattle.std.specs.List.{list_any}
use Rattle.std.specs.FinMap as files
use Rattle.std.specs.Coded.{Coded, code_by, coded×, coded_ℕ, coded_list}
use Rattle.std.specs.declared.string.String.{String}
use Rattle.std.specs.declared.vec.Vec.{Vec}
use Rattle.std.specs.declared.alloc.Global.{Global}
use Rattle.beeb_files.specs.Files.{Files, bytes_of}
use Rattle.beeb_files.specs.Counts.{one_more}
use Rattle.beeb_files.specs.Shelf.{ShelfState}
use Rattle.beeb_files.specs.Outlet.{OutletState}

-- a name and its bytes in the program
abbrev pub Entry : Type 0
Entry = String Global × Vec ℕ Global

-- a name and its bytes as lists of bytes
abbrev pub entry_bytes : Entry → List ℕ × List ℕ
entry_bytes e = (string_bytes e.0, e.1.items)

-- the files of a list; the first entry of a name counts
abbrev pub files_of : List Entry → Files
files_of es = files.from_entries (map entry_bytes es)

-- all names differ
abbrev pub NamesDiffer : List Entry → Type 0
NamesDiffer es = AllPairs (λ a b. string_bytes a.0 ≢ string_bytes b.0) es

-- the files, the numbers of the calls that must fail, and the counts of calls and of failed calls
pub record MemShelfState : Type 0 where
  pub files : Files
  pub failing : List ℕ
  pub calls : ℕ
  pub faults : ℕ

-- the state of an outlet: that of a shelf, and all bytes said
pub record MemOutletState : Type 0 where
  pub files : Files
  pub said : List ℕ
  pub failing : List ℕ
  pub calls : ℕ
  pub faults : ℕ

abbrev pub files_code : Coded Files
files_code = files.code (coded_list coded_ℕ) (coded_list coded_ℕ)

abbrev pub mem_shelf_code : Coded MemShelfState
mem_shelf_code =
    code_by (Files × (List ℕ × (ℕ × ℕ)))
    (coded× files_code (coded× (coded_list coded_ℕ) (coded× coded_ℕ coded_ℕ)))
    (λ s. (s.files, (s.failing, (s.calls, s.faults))))
    (λ p. record { files = p.0; failing = p.1.0; calls = p.1.1.0; faults = p.1.1.1 })
    (λ _. refl)

abbrev pub mem_outlet_code : Coded MemOutletState
mem_outlet_code =
    code_by (Files × (List ℕ × (List ℕ × (ℕ × ℕ))))
    (coded× files_code (coded× (coded_list coded_ℕ) (coded× (coded_list coded_ℕ) (coded× coded_ℕ coded_ℕ))))
    (λ o. (o.files, (o.said, (o.failing, (o.calls, o.faults)))))
    (λ p. record { files = p.0; said = p.1.0; failing = p.1.1.0; calls = p.1.1.1.0; faults = p.1.1.1.1 })
    (λ _. refl)

-- one counter serves every name
abbrev pub mem_shelf_state : MemShelfState → ShelfState
mem_shelf_state s = record { files = Some s.files; faults = λ _. s.faults }

-- one counter serves every name and the bytes said
abbrev pub mem_outlet_state : MemOutletState → OutletState
mem_outlet_state o = record {
  files = Some o.files;
  said = Some o.said;
  faults = λ _. o.faults;
  say_faults = o.faults;
}

-- the call of this number fails: it is listed, or the count of faults is at its last value
abbrev pub fails_at : List ℕ → ℕ → ℕ → Bool
fails_at failing call faults = (faults == 2 ^ 64 - 1) || list_any (λ n. n == call) failing

-- the next `get` of the name fails
abbrev pub get_fails : MemShelfState → List ℕ → Bool
get_fails s name = fails_at s.failing s.calls s.faults || is_none (bytes_of s.files name)

-- the next `put` or `say` fails
abbrev pub write_fails : MemOutletState → Bool
write_fails o = fails_at o.failing o.calls o.faults

-- the shelf after a `get` of the name
abbrev pub after_get : List ℕ → MemShelfState → MemShelfState
after_get name s = record s {
  calls = one_more s.calls;
  faults = (if get_fails s name then one_more s.faults else s.faults);
}

-- the outlet after a `put` or a `say` that wrote nothing
abbrev pub after_write : MemOutletState → MemOutletState
after_write o = record o {
  calls = one_more o.calls;
  faults = (if write_fails o then one_more o.faults else o.faults);
}

-- the outlet with the bytes in the file of the name
abbrev pub with_file : List ℕ → List ℕ → MemOutletState → MemOutletState
with_file name bytes o = record o { files = files.insert o.files name bytes }

-- the outlet after the bytes were said
abbrev pub with_said : List ℕ → MemOutletState → MemOutletState
with_said bytes o = record o { said = o.said ++ bytes }
