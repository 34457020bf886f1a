-- The words of `solo` and of `run`, with the files that they name, begin a run.
use Rattle.std.proofs.Common.{◌≡◌, refl, ℕ, ◌≤◌, List, map, Bool, ◌&&◌, nat_le, Option, Some, None, Ok, arith, if◌then◌else◌}
use Rattle.std.specs.Prelude.{unwrap_or, codes}
use Rattle.std.proofs.lemmas.Bool.Decides.{nat_tests}
use Rattle.bus_plug.specs.Plug.{Plug}
use Rattle.digits.specs.Decimal.{is_decimal, decimal_value}
use Rattle.host_mach.specs.State.{HostState}
use Rattle.para_mach.specs.State.{ParaState}
use Rattle.cmd_words.specs.declared.keys.InputKind.{InputKind}
use Rattle.cmd_words.specs.Keys.{keys}
use Rattle.cmd_words.specs.Given.{Values, value_of, plugs_in}
use Rattle.cmd_words.specs.Reads.{files_of, HaveRomSlots}
use Rattle.cmd_stages.specs.Plan.{Want, Inputs, AreWithin}
use Rattle.cmd_machines.specs.Inputs as inputs
use Rattle.cmd_machines.specs.Setup.{setup_of}
use Rattle.cmd_machines.specs.Machines.{machines_of}
use Rattle.cmd_machines.proofs.ReadLemmas.{same_slots, numbers_read, AreCapped, all_short, files_capped}
use Rattle.law_sessions.specs.OneRun.{Begins}
use Rattle.law_sessions.specs.Words.{WordsBegin}

-- ---- the number of devices

few_plugs : (value : Option (List ℕ)) → plugs_in value ≤ 8
few_plugs None = omega arith
few_plugs (Some word) = by_value (is_decimal word) (decimal_value word)
  where
    by_value : (b : Bool) (n : ℕ) → unwrap_or (if b && nat_le n 8 then Some n else None) 0 ≤ 8
    by_value b n = grind (arith, nat_tests)

-- ---- a run that begins

begins : (given : Values) (ws : List (Want InputKind)) → AreCapped ws → HaveRomSlots (map (λ (w : Want InputKind). w.0) ws) →
    (list : Inputs InputKind) (plugs : List Plug) (m : HostState × ParaState) → AreWithin ws list → machines_of (setup_of given plugs) (inputs.inputs_of list) ≡ Ok m →
    Begins (setup_of given plugs) (inputs.inputs_of list) plugs m
unfolding inputs.inputs_of
begins given ws capped rise list plugs m fits made =
    record {
      made = made;
      number = few_plugs (value_of given (codes "--plugs"));
      plugged = refl;
      roms = rw (numbers_read list inputs.no_inputs, same_slots ws list fits) rise;
      keys = all_short ws list inputs.no_inputs fits capped tt;
    }

pub words_begin : WordsBegin
words_begin = record {
  solo = λ ticks out keep given within. begins given (files_of keys given) (files_capped keys given) within.roms;
  run = λ ticks out keep given within. begins given (files_of keys given) (files_capped keys given) within.roms;
}
