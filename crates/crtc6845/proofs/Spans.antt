-- Characters inside a line.
use Rattle.std.proofs.Common.{◌≡◌, ◌∙◌, sym, ap, refl, ℕ, zero, suc, ◌+◌, ◌%◌, ◌<◌, ◌≤◌, ◌≢◌, ◌==◌, ◌&&◌, true, false, arith, inl, inr, add-zero}
use Rattle.std.specs.Prelude.{if◌then◌else◌, nat_le}
use Rattle.std.proofs.lemmas.Bool.{cases_lt}
use Rattle.std.proofs.lemmas.Bool.Decides.{nat_tests}
use Rattle.std.proofs.Math.Nat.{mod-eq_of_lt, mod-add-mod}
use Rattle.crtc6845.specs.declared.Beam.{Beam}
use Rattle.crtc6845.specs.declared.Span.{Span}
use Rattle.crtc6845.specs.State.{State}
use Rattle.crtc6845.specs.Clock.{is_shown, address, has_cursor, clock_leaves, beam_of, begins_horizontal_sync}
use Rattle.crtc6845.specs.Laws.{clocks}
use Rattle.crtc6845.proofs.Lines.{clock_in}
use Rattle.crtc6845.specs.Spans.{inside_clocks, TellsSpan, CursorIsFirst, beam_in_span}

abbrev at : State → ℕ → State
at c h = record c { character = h }

-- up to R0 or, past it, 256
abbrev line_end : State → ℕ
line_end c = if nat_le c.character c.registers.horizontal_total then c.registers.horizontal_total else 256

inside_end : (c : State) → c.character < 256 → c.character + inside_clocks c ≡ line_end c
inside_end c fits = grind (arith, nat_tests)

before_end : (c : State) (k : ℕ) → c.character < 256 → c.registers.horizontal_total < 256 → c.character + k < line_end c →
    (c.character + k < 256) × (c.character + k ≢ c.registers.horizontal_total)
before_end c k fits wide within = grind (arith, nat_tests)

same_end : (c : State) → c.character + 1 < 256 → c.character < line_end c → c.character + 1 ≤ line_end c → line_end c ≤ line_end (at c (c.character + 1))
same_end c fits within more = grind (arith, nat_tests)

pub pass_is : (k : ℕ) (c : State) → c.character ≢ 0 → c.character < 256 → c.registers.horizontal_total < 256 → k ≤ inside_clocks c → clocks k c ≡ at c ((c.character + k) % 256)
pass_is zero c start fits wide within = let e : c.character ≡ (c.character + 0) % 256 = sym (rw add-zero (mod-eq_of_lt fits)) in ap (λ n. at c n) e
pass_is (suc k) c start fits wide within =
    let e = inside_end c fits in
    let here = before_end c 0 fits wide (omega arith) in
    let one : clock_leaves c ≡ at c ((c.character + 1) % 256) = clock_in c start (λ z. here.1 (omega (arith, z))) in
    elim (cases_lt c.character 255) [
      | inl more ↦
          let stays : (c.character + 1) % 256 ≡ c.character + 1 = mod-eq_of_lt (omega arith) in
          let next : State = at c (c.character + 1) in
          let f = inside_end next (omega arith) in
          let same = same_end c (omega arith) (omega arith) (omega arith) in
          let z : c.character + 1 + k ≡ c.character + suc k = omega arith in
          ap (λ (s : State). clocks k s) (one ∙ ap (λ n. at c n) stays) ∙ pass_is k next (λ z. omega (arith, z)) (omega arith) wide (omega arith) ∙ ap (λ n. at c (n % 256)) z
      | inr last ↦
          let most : line_end c ≤ 256 = grind (arith, nat_tests) in
          let none : k ≡ 0 = omega arith in
          rw none one
    ]

-- the outputs of a clock inside a line
abbrev inside_told : State → Beam
inside_told c = record {
  shown = is_shown c;
  ma = address c;
  ra = c.raster;
  cursor = has_cursor c;
  line_start = false;
  sync_start = begins_horizontal_sync c;
  frame_end = false;
  fields = c.fields;
  row_end = false;
  restart = false;
}

beam_in : (c : State) → c.character ≢ 0 → c.character ≢ c.registers.horizontal_total → beam_of c ≡ inside_told c
beam_in c start end = grind (arith, nat_tests)

still_shown : (k : ℕ) (c : State) → (is_shown c ≡ true → c.character + k < c.registers.horizontal_displayed) → is_shown (at c (c.character + k)) ≡ is_shown c
still_shown k c h = grind (arith, nat_tests)

address_in : (k : ℕ) (c : State) → address (at c (c.character + k)) ≡ (address c + k) % 16384
address_in k c =
    let add : c.base + (c.character + k) ≡ c.base + c.character + k = omega arith in
    ap (λ n. n % 16384) add ∙ sym (mod-add-mod (c.base + c.character) 16384 k)

sync_at : (h k s to : ℕ) → h + k < 256 → (h ≤ s → h + to ≡ s) → (s < h → to ≡ 256) → (h + k == s) ≡ (k == to)
sync_at h k s to small here past = grind (arith, nat_tests)

cursor_as : (k n : ℕ) (c : State) → k < n → CursorIsFirst n c → has_cursor (at c (c.character + k)) ≡ (has_cursor c && k == 0)
cursor_as k n c h first = grind (arith, nat_tests)

-- the conditions of a span
pub record IsSpan (span : Span) (c : State) : Type 0 where
  pub inside : span.clocks ≤ inside_clocks c
  pub shown : span.shown ≡ is_shown c
  pub ma : span.ma ≡ address c
  pub ra : span.ra ≡ c.raster
  pub cursor : span.cursor ≡ has_cursor c
  pub here : c.character ≤ c.registers.horizontal_sync_position → c.character + span.to_sync ≡ c.registers.horizontal_sync_position
  pub past : c.registers.horizontal_sync_position < c.character → span.to_sync ≡ 256
  pub fields : span.fields ≡ c.fields
  pub within : is_shown c ≡ true → c.character + span.clocks ≤ c.registers.horizontal_displayed
  pub first : CursorIsFirst span.clocks c

pub span_tells : (span : Span) (c : State) → c.character ≢ 0 → c.character < 256 → c.registers.horizontal_total < 256 → IsSpan span c → TellsSpan span c
span_tells span c start fits wide is k less =
    let inside = is.inside in
    let e = inside_end c fits in
    let low = before_end c k fits wide (omega arith) in
    let d = at c (c.character + k) in
    let there : clocks k c ≡ d = pass_is k c start fits wide (omega arith) ∙ ap (λ n. at c n) (mod-eq_of_lt low.0) in
    let shown : is_shown d ≡ span.shown = still_shown k c (λ x. let l = is.within x in omega arith) ∙ sym is.shown in
    let sync : begins_horizontal_sync d ≡ (k == span.to_sync) = sync_at c.character k c.registers.horizontal_sync_position span.to_sync low.0 is.here is.past in
    let cursor : has_cursor d ≡ (span.cursor && k == 0) = cursor_as k span.clocks c less is.first ∙ ap (λ x. x && k == 0) (sym is.cursor) in
    let ma : address d ≡ (span.ma + k) % 16384 = address_in k c ∙ ap (λ n. (n + k) % 16384) (sym is.ma) in
    let same : inside_told d ≡ beam_in_span span k = rw (cursor, shown, ma, sync, is.ra, is.fields) refl in
    ap (λ (s : State). beam_of s) there ∙ beam_in d (λ x. start (omega (arith, x))) low.1 ∙ same
