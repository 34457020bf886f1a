-- The bytes that the beam reads, and those that it does not.
use Rattle.std.proofs.Common.{◌≡◌, ◌∙◌, sym, ap, subst, refl, ℕ, zero, suc, ◌+◌, ◌*◌, ◌%◌, ◌<◌, ◌≤◌, ◌≢◌, Bool, true, false, List, arith}
use Rattle.std.specs.Prelude.{slice_index, slice_set, if◌then◌else◌}
use Rattle.std.proofs.lemmas.List.{get_or-set_other}
use Rattle.std.proofs.Math.Nat.{mul-le-mul_right}
use Rattle.beeb_bits.specs.Bits.{bit}
use Rattle.crtc6845.specs.declared.Beam.{Beam}
use Rattle.crtc6845.specs.State.{State as CrtcState}
use Rattle.crtc6845.specs.Clock.{beam_of, clock_leaves, is_in_sync}
use Rattle.crtc6845.specs.Laws.{clocks}
use Rattle.crtc6845.specs.Calm.{StaysInSync as CrtcStaysInSync}
use Rattle.video_ula.specs.State.{State as UlaState}
use Rattle.saa5050.specs.Shapes.{Font}
use Rattle.raster.specs.Beam.{byte_address}
use Rattle.raster.specs.State.{State}
use Rattle.raster.specs.Clock.{begin_leaves, char_clock_leaves, draw_byte_leaves, draw_cell_leaves, show_leaves, pass_leaves, microseconds}
use Rattle.raster.specs.CodeSteps.{char_clocks}
use Rattle.raster.specs.Reads.{ReadsFrom, StaysInSync, SyncStaysOn}
use Rattle.raster.proofs.Micros.{rate_by, char_crtc, chars_crtc, chars_ula, micros_are}

-- `ReadsFrom` continues to hold
char_reads : (low size : ℕ) (ram : List ℕ) (font : Font) (s : State) → ReadsFrom low size s → ReadsFrom low size (char_clock_leaves ram size font s)
char_reads low size ram font s reads n = rw (char_crtc ram size font s) (reads (suc n))

chars_read : (low size n : ℕ) (ram : List ℕ) (font : Font) (s : State) → ReadsFrom low size s → ReadsFrom low size (char_clocks ram size font n s)
chars_read low size zero ram font s reads = reads
chars_read low size (suc n) ram font s reads = chars_read low size n ram font (char_clock_leaves ram size font s) (char_reads low size ram font s reads)

pub reads_on : (low size n : ℕ) (ram : List ℕ) (font : Font) (s : State) → ReadsFrom low size s → ReadsFrom low size (microseconds ram size font n s)
reads_on low size n ram font s reads =
    subst (λ (t : State). ReadsFrom low size t) (sym (micros_are ram size font n _ s refl)) (chars_read low size (n * rate_by (bit s.ula.control 4)) ram font s reads)

-- a byte below is not read
shown_by : (b : Bool) (ram : List ℕ) (size at v : ℕ) (font : Font) (beam : Beam) (s : State) → beam.shown ≡ b →
    (beam.shown ≡ true → byte_address beam.ma beam.ra size ≢ at) → show_leaves (slice_set ram at v) size font beam s ≡ show_leaves ram size font beam s
shown_by false ram size at v font beam s e h = rw e refl
shown_by true ram size at v font beam s e h =
    let there = byte_address beam.ma beam.ra size in
    let same : slice_index (slice_set ram at v) there ≡ slice_index ram there = get_or-set_other ram at there v 0 (h e) in
    ap (λ byte. if beam.shown then (if bit s.ula.control 1 then draw_cell_leaves font beam (byte % 128) s else draw_byte_leaves beam byte s) else s) same

char_unseen : (low size at v : ℕ) (ram : List ℕ) (font : Font) (s : State) → ReadsFrom low size s → at < low →
    char_clock_leaves (slice_set ram at v) size font s ≡ char_clock_leaves ram size font s
unfolding char_clock_leaves
char_unseen low size at v ram font s reads below =
    let beam = beam_of s.crtc in
    let other : beam.shown ≡ true → byte_address beam.ma beam.ra size ≢ at = λ h e. let l = reads 0 h in omega (arith, e, l) in
    ap (λ (x : State). pass_leaves beam x) (shown_by beam.shown ram size at v font beam (begin_leaves beam (record s { crtc = clock_leaves s.crtc })) refl other)

chars_unseen : (low size n at v : ℕ) (ram : List ℕ) (font : Font) (s : State) → ReadsFrom low size s → at < low →
    char_clocks (slice_set ram at v) size font n s ≡ char_clocks ram size font n s
chars_unseen low size zero at v ram font s reads below = refl
chars_unseen low size (suc n) at v ram font s reads below =
    ap (λ (x : State). char_clocks (slice_set ram at v) size font n x) (char_unseen low size at v ram font s reads below)
    ∙ chars_unseen low size n at v ram font (char_clock_leaves ram size font s) (char_reads low size ram font s reads) below

pub unseen : (low size n at v : ℕ) (ram : List ℕ) (font : Font) (s : State) → ReadsFrom low size s → at < low →
    microseconds (slice_set ram at v) size font n s ≡ microseconds ram size font n s
unseen low size n at v ram font s reads below =
    micros_are (slice_set ram at v) size font n _ s refl ∙ chars_unseen low size (n * rate_by (bit s.ula.control 4)) at v ram font s reads below ∙ sym (micros_are ram size font n _ s refl)

-- the 6845 depends only on the clocks, and not on what is drawn
crtc_after : (n : ℕ) (b : Bool) (ram : List ℕ) (size : ℕ) (font : Font) (s : State) → bit s.ula.control 4 ≡ b →
    (microseconds ram size font n s).crtc ≡ clocks (n * rate_by b) s.crtc
crtc_after n b ram size font s e = ap (λ (t : State). t.crtc) (micros_are ram size font n b s e) ∙ chars_crtc ram size font (n * rate_by b) s

-- vertical sync stays for this number of microseconds
pub calm_micro : (n calm : ℕ) (b : Bool) (s : State) → bit s.ula.control 4 ≡ b → CrtcStaysInSync calm s.crtc → n * rate_by b ≤ calm → StaysInSync n s
calm_micro n calm b s e stays few ram size font k h =
    let less : k * rate_by b ≤ n * rate_by b = mul-le-mul_right (rate_by b) h in
    ap (λ (c : CrtcState). is_in_sync c) (crtc_after k b ram size font s e) ∙ stays (k * rate_by b) (omega arith)

clocks_more : (n m : ℕ) (c : CrtcState) → clocks n (clocks m c) ≡ clocks (m + n) c
clocks_more n zero c = let z : 0 + n ≡ n = omega arith in rw z refl
clocks_more n (suc m) c = let z : suc m + n ≡ suc (m + n) = omega arith in rw z (clocks_more n m (clock_leaves c))

crtc_on : (ram ram_on : List ℕ) (size size_on m k : ℕ) (font font_on : Font) (s : State) →
    (microseconds ram_on size_on font_on k (microseconds ram size font m s)).crtc ≡ (microseconds ram size font (m + k) s).crtc
crtc_on ram ram_on size size_on m k font font_on s =
    let b = bit s.ula.control 4 in
    let there = microseconds ram size font m s in
    let same : bit there.ula.control 4 ≡ b =
    ap (λ (t : State). bit t.ula.control 4) (micros_are ram size font m b s refl) ∙ ap (λ (u : UlaState). bit u.control 4) (chars_ula ram size font (m * rate_by b) s) in
    let sum : m * rate_by b + k * rate_by b ≡ (m + k) * rate_by b = grind arith in
    crtc_after k b ram_on size_on font_on there same
    ∙ ap (λ (c : CrtcState). clocks (k * rate_by b) c) (crtc_after m b ram size font s refl)
    ∙ clocks_more (k * rate_by b) (m * rate_by b) s.crtc
    ∙ ap (λ n. clocks n s.crtc) sum
    ∙ sym (crtc_after (m + k) b ram size font s refl)

pub sync_on : SyncStaysOn
sync_on n m size ram font s less stays ram_on size_on font_on k low =
    ap (λ (c : CrtcState). is_in_sync c) (crtc_on ram ram_on size size_on m k font font_on s)
    ∙ stays ram size font (m + k) (omega (arith, less, low))
    ∙ sym (stays ram size font m less)
