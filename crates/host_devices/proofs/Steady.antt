-- The devices while the two lines between them do not change.
use Rattle.std.proofs.Common.{◌≡◌, ◌∙◌, sym, ap, refl, ℕ, zero, suc, ◌+◌, ◌-◌, ◌≤◌, List, [], ◌∷◌, ◌++◌, replicate, subst, arith}
use Rattle.std.proofs.Math.Nat.{zero-add, suc-add}
use Rattle.std.proofs.lemmas.List.{length-append, length-replicate}
use Rattle.saa5050.specs.Shapes.{Font}
use Rattle.raster.specs.State as picture
use Rattle.raster.specs.Clock as beam
use Rattle.raster.specs.Reads.{StaysInSync, SyncStaysOn}
use Rattle.wd1770.specs.State as disc
use Rattle.wd1770.specs.Step as turn
use Rattle.adc7002.specs.State as adc
use Rattle.adc7002.specs.Registers.{cb1}
use Rattle.adc7002.specs.Step as conversion
use Rattle.adc7002.specs.Calm.{KeepsItsLine}
use Rattle.via6522.specs.Step.{step, steps}
use Rattle.via6522.specs.Registers.{asks}
use Rattle.keyboard.specs.Keys.{Keys}
use Rattle.keyboard.specs.Latch.{screen_size}
use Rattle.host_devices.specs.Devices.{Devices, system_pins, user_pins, raster_after, microsecond, microseconds, devices_ask}
use Rattle.host_devices.specs.Apart.{each_by_itself, AreApart, AreCalm}

-- vertical sync that stays for n microseconds stays for fewer
pub fewer : (n m : ℕ) (s : picture.State) → m ≤ n → StaysInSync n s → StaysInSync m s
fewer n m s less stays = λ ram size font k low. stays ram size font k (omega (arith, less, low))

-- if no microsecond is owed, vertical sync stays for none
pub nothing_owed : (owed : ℕ) (s : picture.State) → owed ≡ 0 → StaysInSync (owed + 0) s
nothing_owed owed s none = λ ram size font k low. let first : k ≡ 0 = omega arith in rw first refl

pub no_step : (a : adc.State) → KeepsItsLine 0 a
no_step a [] few = refl
no_step a (l ∷ levels) few = absurd (omega (arith, few))

-- one step by itself
pub one_step : (levels : List ℕ) (a : adc.State) → conversion.steps levels 1 a ≡ conversion.step levels a
unfolding conversion.steps
one_step levels a = refl

-- n microseconds and then m are n + m
pub pictures_add : (ram : List ℕ) (size : ℕ) (font : Font) (n m : ℕ) (s : picture.State) →
    beam.microseconds ram size font m (beam.microseconds ram size font n s) ≡ beam.microseconds ram size font (n + m) s
pictures_add ram size font zero m s = rw (zero-add m) refl
pictures_add ram size font (suc n) m s = rw (suc-add n m) (pictures_add ram size font n m (beam.microsecond ram size font s))

pub all_add : (ram : List ℕ) (font : Font) (keys : Keys) (levels : List ℕ) (n m : ℕ) (d : Devices) →
    microseconds ram font keys levels m (microseconds ram font keys levels n d) ≡ microseconds ram font keys levels (n + m) d
all_add ram font keys levels zero m d = rw (zero-add m) refl
all_add ram font keys levels (suc n) m d = rw (suc-add n m) (all_add ram font keys levels n m (microsecond ram font keys levels d))

-- the picture has the same sync after it draws what it owes, and keeps it for the rest of the time
pub sync_owed : (ram : List ℕ) (size : ℕ) (font : Font) (owed steady : ℕ) (s : picture.State) → StaysInSync (owed + steady) s →
    beam.vsync_of (beam.microseconds ram size font owed s) ≡ beam.vsync_of s
sync_owed ram size font owed steady s stays = stays ram size font owed (omega arith)

pub stays_ahead : SyncStaysOn → (ram : List ℕ) (size : ℕ) (font : Font) (owed : ℕ) {steady n : ℕ} (s : picture.State) → n ≤ steady → StaysInSync (owed + steady) s →
    StaysInSync n (beam.microseconds ram size font owed s)
stays_ahead law ram size font owed {steady} {n} s few stays =
    fewer ((owed + steady) - owed) n (beam.microseconds ram size font owed s) (omega (arith, few)) (law (owed + steady) owed size ram font s (omega arith) stays)

-- the converter's line stays for the rest of those steps
levels_add : (first then_ : List (List ℕ)) (a : adc.State) → conversion.after_steps then_ (conversion.after_steps first a) ≡ conversion.after_steps (first ++ then_) a
levels_add [] then_ a = refl
levels_add (l ∷ first) then_ a = levels_add first then_ (conversion.step l a)

pub line_stays_on : (levels : List ℕ) {n m : ℕ} {a : adc.State} → m ≤ n → KeepsItsLine n a → KeepsItsLine (n - m) (conversion.steps levels m a)
unfolding conversion.steps
line_stays_on levels {m} {a} less keeps = λ on few.
    let first = replicate m levels in
    ap cb1 (levels_add first on a)
    ∙ keeps (first ++ on) (rw (length-append first on, length-replicate m levels) (omega (arith, less, few)))
    ∙ sym (keeps first (rw (length-replicate m levels) less))

-- one step of each
abbrev one_of_each : List ℕ → Font → Keys → List ℕ → Devices → Devices
one_of_each ram font keys levels d = record d {
  video = raster_after ram font d;
  disc = turn.step d.disc;
  converter = conversion.step levels d.converter;
  system = step (system_pins (beam.vsync_of d.video) (cb1 d.converter) keys d) d.system;
  user = step user_pins d.user;
}

-- one step of each device is one microsecond of all
one_apart : (ram : List ℕ) (font : Font) (keys : Keys) (levels : List ℕ) (d : Devices) → StaysInSync 1 d.video → KeepsItsLine 1 d.converter →
    microsecond ram font keys levels d ≡ one_of_each ram font keys levels d
unfolding microsecond
one_apart ram font keys levels d stays keeps = rw (stays ram (screen_size d.latch) font 1 (omega arith), keeps (levels ∷ []) (omega arith)) refl

-- steps of the disc controller from the front
disc_front : (n : ℕ) (s : disc.State) → turn.steps n (turn.step s) ≡ turn.steps (suc n) s
unfolding turn.steps
disc_front zero s = refl
disc_front (suc n) s = ap (λ (x : disc.State). turn.step x) (disc_front n s)

-- n microseconds are n steps of each
pub apart : SyncStaysOn → AreApart
unfolding conversion.steps turn.steps steps
apart on ram font keys levels zero d stays keeps = refl
apart on ram font keys levels (suc n) d stays keeps =
    let less : suc n - 1 ≡ n = omega arith in
    let sync = subst (λ (k : ℕ). StaysInSync k (raster_after ram font d)) less (on (suc n) 1 (screen_size d.latch) ram font d.video (omega arith) stays) in
    let line = subst (λ (k : ℕ). KeepsItsLine k (conversion.step levels d.converter)) less (line_stays_on levels {m = 1} (omega arith) keeps) in
    rw (
      one_apart ram font keys levels d (λ r z f k low. stays r z f k (omega (arith, low))) (λ l few. keeps l (omega (arith, few))),
      apart on ram font keys levels n (one_of_each ram font keys levels d) sync line,
      stays ram (screen_size d.latch) font 1 (omega arith),
      keeps (levels ∷ []) (omega arith),
      disc_front n d.disc,
    ) refl

-- m microseconds of n, of each device by itself, and the rest
pub gone_apart : AreApart → (ram : List ℕ) (font : Font) (keys : Keys) (levels : List ℕ) {n m : ℕ} (d : Devices) → m ≤ n → StaysInSync m d.video → KeepsItsLine m d.converter →
    microseconds ram font keys levels (n - m) (each_by_itself ram font keys levels m d) ≡ microseconds ram font keys levels n d
gone_apart law ram font keys levels {n} {m} d less sync line =
    let all : m + (n - m) ≡ n = omega (arith, less) in
    rw (← law ram font keys levels m d sync line, all_add ram font keys levels m (n - m) d, all) refl

-- the lines to the processor stay while those between the devices stay and no chip changes its own
pub are_calm : AreApart → {keys : Keys} {n : ℕ} {d : Devices} → StaysInSync n d.video → KeepsItsLine n d.converter →
    ((k : ℕ) → k ≤ n → asks (steps (system_pins (beam.vsync_of d.video) (cb1 d.converter) keys d) k d.system) ≡ asks d.system) →
    ((k : ℕ) → k ≤ n → asks (steps user_pins k d.user) ≡ asks d.user) →
    ((k : ℕ) → k ≤ n → (turn.steps k d.disc).nmis ≡ d.disc.nmis) → AreCalm keys n d
unfolding devices_ask
are_calm law {keys} {n} {d} sync line system user nmis = record {
  irq = λ ram font levels k low. rw (apart_by ram font levels k low, system k low, user k low) refl;
  nmis = λ ram font levels k low. rw (apart_by ram font levels k low) (nmis k low);
}
  where
    apart_by : (ram : List ℕ) (font : Font) (levels : List ℕ) (k : ℕ) → k ≤ n → microseconds ram font keys levels k d ≡ each_by_itself ram font keys levels k d
    apart_by ram font levels k low = law ram font keys levels k d (λ r z f j few. sync r z f j (omega (arith, low, few))) (λ l few. line l (omega (arith, low, few)))
