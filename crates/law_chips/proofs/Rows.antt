-- The rows of a teletext page that are the lower ones of double height, clock by clock.
use Rattle.std.proofs.Common.{◌≡◌, ◌∙◌, sym, ap, subst, refl, ℕ, zero, suc, ◌+◌, ◌*◌, ◌/◌, ◌%◌, ◌<◌, ◌≤◌, ◌==◌, ◌&&◌, ◌⊎◌, not, Bool, true, false, List}
use Rattle.std.proofs.Common.{add-one, arith}
use Rattle.std.proofs.Common.{inl, inr, true≢false}
use Rattle.std.specs.Prelude.{if◌then◌else◌}
use Rattle.std.proofs.lemmas.Bool.{cases_Bool, cases_lt, cases_eq, eqb-true}
use Rattle.std.proofs.lemmas.Nat.{div-add-mod', le-div}
use Rattle.std.proofs.Math.Nat.{zero-mod, zero-div}
use Rattle.beeb_bits.specs.Bits.{bit}
use Rattle.crtc6845.specs.declared.Beam.{Beam}
use Rattle.crtc6845.specs.State.{Registers, State as Crtc}
use Rattle.crtc6845.specs.Clock.{start_leaves, ends_line, is_last_line, ends_row}
use Rattle.crtc6845.specs.Laws.{clocks, tells, line_characters, row_lines, frame_lines, HaveTheirBits, LinesHaveTheirCharacters, FramesHaveTheirClocks}
use Rattle.crtc6845.specs.Pictures.{line_at, row_at, ShownAddressesCount}
use Rattle.saa5050.specs.Shapes.{Font}
use Rattle.raster.specs.Text.{Text, text_at, codes_after, text_after, next_row, first_row, text_past}
use Rattle.raster.specs.State.{State}
use Rattle.law_chips.specs.ShownBytes.{char_clocks, CharactersAreShown, MakesFrames}
use Rattle.law_chips.specs.TeletextFrames.{frame_index, IsAbove, Doubles, is_lower, LowerRowsFollow}
use Rattle.law_chips.proofs.BeamWalk.{next_place, test_true, test_false}
use Rattle.law_chips.proofs.Rasters.{frame_some, and_left, and_false, at_clock, not_last, kept, last_of, next_of, InRow, IsAt, walk}
use Rattle.law_chips.proofs.PageDots.{told_code, told, bottom_kept, here}

-- the laws of the 6845
pub record Facts : Type 0 where
  pub lines : LinesHaveTheirCharacters
  pub frames : FramesHaveTheirClocks
  pub count : ShownAddressesCount
  pub shown : CharactersAreShown

-- ---- The position of the next clock

-- in the same row, in the next one, after the rows, or in the next frame
record Stays (c : Crtc) (n : ℕ) : Type 0 where
  pub frame : frame_index c.registers (n + 1) ≡ frame_index c.registers n
  pub row : row_at c.registers (n + 1) ≡ row_at c.registers n
  pub restart : (tells n c).restart ≡ false
  pub row_end : (tells n c).row_end ≡ false

record Steps (c : Crtc) (n : ℕ) : Type 0 where
  pub frame : frame_index c.registers (n + 1) ≡ frame_index c.registers n
  pub row : row_at c.registers (n + 1) ≡ row_at c.registers n + 1
  pub restart : (tells n c).restart ≡ false
  pub row_end : (tells n c).row_end ≡ true

record Begins (c : Crtc) (n : ℕ) : Type 0 where
  pub frame : frame_index c.registers (n + 1) ≡ frame_index c.registers n + 1
  pub row : row_at c.registers (n + 1) ≡ 0
  pub restart : (tells n c).restart ≡ true

-- It is after the rows.
Beyond : Crtc → ℕ → Type 0
Beyond c n = c.registers.vertical_total < row_at c.registers (n + 1)

abbrev Goes : Crtc → ℕ → Type 0
Goes c n = (Stays c n ⊎ Steps c n) ⊎ (Begins c n ⊎ Beyond c n)

-- the end of a row, by the parts of its test
ends_row_by : (e a d l : Bool) (w x y z : Bool) → e ≡ w → a ≡ x → d ≡ y → l ≡ z → (e && a && d && not l) ≡ (w && x && y && not z)
ends_row_by e a d l w x y z p q s t = rw (p, q, s, t)

-- the end of a line among the rows
row_end_in : (c d : Crtc) (l : ℕ) → d.registers ≡ c.registers → HaveTheirBits c.registers → ends_line d ≡ true → is_last_line d ≡ false →
    InRow c.registers l d.adjust d.row d.raster →
    (((l + 1) / row_lines c.registers ≡ l / row_lines c.registers) × (ends_row d ≡ false))
    ⊎ (((l + 1) / row_lines c.registers ≡ l / row_lines c.registers + 1) × (ends_row d ≡ true))
row_end_in c d l regs bits end goes at = grind (arith, next_place, test_true, last_of, ends_row_by, next_of, test_false)

no_row_end : (d : Crtc) → ends_line d ≡ false → ends_row d ≡ false
no_row_end d is = rw is

-- clock by clock
goes : Facts → (c : Crtc) → MakesFrames c → (n : ℕ) → Goes c n
unfolding Beyond
goes facts c makes n =
    let r = c.registers in
    let w = line_characters r in
    let f = frame_lines r in
    let h = row_lines r in
    let x = clocks n c in
    let d = start_leaves x in
    let k = kept x in
    let clock = at_clock facts.lines c makes.bits makes.begins.character n in
    let some = clock.some in
    let regs = clock.registers in
    let digits = clock.digits in
    let at : IsAt r (line_at r n) d = subst (IsAt r (line_at r n)) (sym k.1.1) (walk facts.lines facts.frames c makes.bits makes.begins n) in
    let law : (tells n c).restart ≡ ((n + 1) % (w * f) == 0) = facts.frames c n makes.bits makes.begins in
    elim (next_place w n (omega arith)) [
      | inr o ↦
          let line : (n + 1) / w ≡ n / w = o.1.0 in
          let inner = not_last c n clock o.0 o.1.1 in
          inl (inl (record {
            frame = ap (λ i. i / f) line;
            row = ap (λ i. i % f / h) line;
            restart = law ∙ inner.1;
            row_end = no_row_end d inner.0;
          }))
      | inl o ↦
          let line : (n + 1) / w ≡ n / w + 1 = o.1.0 in
          let test : ends_line d ≡ true = test_true d.character d.registers.horizontal_total (omega arith) in
          elim (next_place f (n / w) some) [
            | inl i ↦
                let none : (n + 1) / w % f ≡ 0 = ap (λ k. k % f) line ∙ i.0 in
                let zeroed : (n + 1) / w % f * w ≡ 0 = ap (λ k. k * w) none ∙ omega arith in
                inr (inl (record {
                  frame = ap (λ i. i / f) line ∙ i.1.0;
                  row = ap (λ i. i / h) none ∙ zero-div h;
                  restart = law ∙ test_true ((n + 1) % (w * f)) 0 (digits ∙ omega arith);
                }))
            | inr i ↦
                let more : (n + 1) / w % f ≡ n / w % f + 1 = ap (λ k. k % f) line ∙ i.0 in
                let up : (n / w % f + 1) * w ≡ n / w % f * w + w = grind arith in
                let many : (n + 1) / w % f * w ≡ n / w % f * w + w = ap (λ k. k * w) more ∙ up in
                let restart : (tells n c).restart ≡ false = law ∙ test_false ((n + 1) % (w * f)) 0 (λ none. omega arith) in
                let other : is_last_line d ≡ false = sym (and_left (ends_line d) (is_last_line d) test) ∙ restart in
                let frame : frame_index r (n + 1) ≡ frame_index r n = ap (λ i. i / f) line ∙ i.1.0 in
                let next : row_at r (n + 1) ≡ (line_at r n + 1) / h = ap (λ i. i / h) more in
                elim at [
                  | inl rows ↦
                      elim (row_end_in c d (line_at r n) regs makes.bits test other rows) [
                        | inl same ↦ inl (inl (record { frame = frame; row = next ∙ same.0; restart = restart; row_end = same.1 }))
                        | inr over ↦ inl (inr (record { frame = frame; row = next ∙ over.0; restart = restart; row_end = over.1 }))
                      ]
                  | inr adjust ↦
                      let large : r.vertical_total + 1 ≤ (line_at r n + 1) / h =
                      le-div (r.vertical_total + 1) (line_at r n + 1) h (omega arith) (omega arith) in
                      inr (inr (omega arith))
                ]
          ]
    ]

-- ---- Earlier clocks are in no later row.

div_grows : (m n k : ℕ) → 0 < k → m ≤ n → m / k ≤ n / k
div_grows m n k some before = grind arith

frame_grows : (r : Registers) (m n : ℕ) → m ≤ n → frame_index r m ≤ frame_index r n
frame_grows r m n before = grind (arith, div_grows, frame_some)

row_grows : (r : Registers) (m n : ℕ) → m ≤ n → frame_index r m ≡ frame_index r n → row_at r m ≤ row_at r n
row_grows r m n before same = grind (arith, div-add-mod', div_grows)

-- ---- The effect of a clock on the text

-- the codes of the line have one for double height only if the row has
Covers : Text → Type 0
Covers t = t.codes.had_double ≡ true → t.doubled ≡ true

-- the text after a character, before the line or the row ends
shown_text : Bool → ℕ → Text → Text
shown_text shown code t = if shown then text_after code t else t

covers_on : (shown : Bool) (code : ℕ) (t : Text) → Covers t → Covers (shown_text shown code t)
unfolding Covers shown_text codes_after
covers_on shown code t is = grind arith

-- a row then has such a code if it had one before, or the character has it
doubled_on : (shown : Bool) (code : ℕ) (t : Text) → Covers t → (shown_text shown code t).doubled ≡ true →
    (t.doubled ≡ true) ⊎ ((shown ≡ true) × (code ≡ 0x0D))
unfolding Covers shown_text codes_after
doubled_on shown code t is had = grind (arith, eqb-true, true≢false)

doubled_before : (shown : Bool) (code : ℕ) (t : Text) → t.doubled ≡ true → (shown_text shown code t).doubled ≡ true
unfolding shown_text codes_after
doubled_before shown code t is = grind arith

doubled_here : (shown : Bool) (code : ℕ) (t : Text) → shown ≡ true → code ≡ 0x0D → (shown_text shown code t).doubled ≡ true
unfolding shown_text codes_after
doubled_here shown code t is double = grind arith

bottom_on : (shown : Bool) (code : ℕ) (t : Text) → (shown_text shown code t).bottom ≡ t.bottom
unfolding shown_text
bottom_on true code t = refl
bottom_on false code t = refl

-- a line that starts has no codes
covers_at : (b : Beam) (t : Text) (p : Bool) → b.line_start ≡ p → (p ≡ false → Covers t) → Covers (text_at b t)
unfolding Covers
covers_at b t p is keeps = grind arith

doubled_kept : (b : Beam) (t : Text) → (text_at b t).doubled ≡ t.doubled
doubled_kept b t = grind arith

past_plain : (b : Beam) (t : Text) → b.restart ≡ false → b.row_end ≡ false → text_past b t ≡ t
past_plain b t p q = grind arith

past_row : (b : Beam) (t : Text) → b.restart ≡ false → b.row_end ≡ true → text_past b t ≡ next_row t
past_row b t p q = grind arith

past_frame : (b : Beam) (t : Text) → b.restart ≡ true → text_past b t ≡ first_row t
past_frame b t p = grind arith

-- ---- The invariant at each clock of a row

-- the row up to this clock has a character with the code
record Had (ram : ℕ → List ℕ) (size : ℕ → ℕ) (r : Registers) (n : ℕ) : Type 0 where
  pub clock : ℕ
  pub earlier : clock < n
  pub frame : frame_index r clock ≡ frame_index r n
  pub row : row_at r clock ≡ row_at r n
  pub doubles : Doubles ram size r clock

record Holds (ram : ℕ → List ℕ) (size : ℕ → ℕ) (font : Font) (s : State) (n : ℕ) : Type 0 where
  pub found : (char_clocks ram size font n s).text.doubled ≡ true → Had ram size s.crtc.registers n
  pub finds : Had ram size s.crtc.registers n → (char_clocks ram size font n s).text.doubled ≡ true
  pub row : (m : ℕ) → m ≤ n → frame_index s.crtc.registers m ≡ frame_index s.crtc.registers n → row_at s.crtc.registers m ≡ row_at s.crtc.registers n →
      is_lower ram size font s m ≡ is_lower ram size font s n
  pub first : row_at s.crtc.registers n ≡ 0 → is_lower ram size font s n ≡ false
  pub below : (m : ℕ) → IsAbove s.crtc.registers m n → Doubles ram size s.crtc.registers m → is_lower ram size font s n ≡ not (is_lower ram size font s m)
  pub plain : ((m : ℕ) → IsAbove s.crtc.registers m n → Doubles ram size s.crtc.registers m → ⊥) → is_lower ram size font s n ≡ false

-- the text during a clock, and after its character
during : (ℕ → List ℕ) → (ℕ → ℕ) → Font → State → ℕ → Text
during ram size font s n = text_at (tells n s.crtc) (char_clocks ram size font n s).text

behind : (ℕ → List ℕ) → (ℕ → ℕ) → Font → State → ℕ → Text
behind ram size font s n = shown_text (tells n s.crtc).shown (told_code (ram n) (size n) (tells n s.crtc)) (during ram size font s n)

next_text : (ram : ℕ → List ℕ) (size : ℕ → ℕ) (font : Font) (s : State) → bit s.ula.control 1 ≡ true → (n : ℕ) →
    (char_clocks ram size font (n + 1) s).text ≡ text_past (tells n s.crtc) (behind ram size font s n)
unfolding behind during shown_text
next_text ram size font s on n = grind (arith, told)

-- the end of a row, or of a frame, is that of a line
line_follows : Facts → (c : Crtc) → MakesFrames c → (n : ℕ) → (tells (n + 1) c).line_start ≡ false →
    ((tells n c).restart ≡ false) × ((tells n c).row_end ≡ false)
line_follows facts c makes n inner =
    let r = c.registers in
    let w = line_characters r in
    elim (next_place w n (omega arith)) [
      | inl o ↦
          absurd (true≢false (sym (facts.lines c (n + 1) makes.bits makes.begins.character ∙ test_true ((n + 1) % w) 0 o.0) ∙ inner))
      | inr o ↦
          let inner = not_last c n (at_clock facts.lines c makes.bits makes.begins.character n) o.0 o.1.1 in
          (facts.frames c n makes.bits makes.begins ∙ inner.1, no_row_end (start_leaves (clocks n c)) inner.0)
    ]

behind_bottom : (ram : ℕ → List ℕ) (size : ℕ → ℕ) (font : Font) (s : State) (n : ℕ) → (behind ram size font s n).bottom ≡ is_lower ram size font s n
unfolding behind during
behind_bottom ram size font s n = grind (arith, bottom_on, bottom_kept)

and_on : (b : Bool) → (b && true) ≡ b
and_on true = refl
and_on false = refl

too_far : (c : Crtc) (n : ℕ) → row_at c.registers (n + 1) ≤ c.registers.vertical_total → Beyond c n → ⊥
unfolding Beyond
too_far c n inside beyond = omega arith

-- no earlier clock is in the row that begins
new_row : (r : Registers) (n m : ℕ) → frame_index r (n + 1) ≡ frame_index r n → row_at r (n + 1) ≡ row_at r n + 1 → m ≤ n →
    frame_index r m ≡ frame_index r (n + 1) → row_at r m ≡ row_at r (n + 1) → ⊥
new_row r n m frame row before same_frame same_row = grind (arith, row_grows)

-- the next frame begins
to_frame : (ram : ℕ → List ℕ) (size : ℕ → ℕ) (font : Font) (s : State) → bit s.ula.control 1 ≡ true → (n : ℕ) → Begins s.crtc n → Holds ram size font s (n + 1)
to_frame ram size font s on n begins =
    let r = s.crtc.registers in
    let text : (char_clocks ram size font (n + 1) s).text ≡ first_row (behind ram size font s n) =
    next_text ram size font s on n ∙ past_frame (tells n s.crtc) (behind ram size font s n) begins.restart in
    let none : (char_clocks ram size font (n + 1) s).text.doubled ≡ false = ap (λ (t : Text). t.doubled) text in
    let lower : is_lower ram size font s (n + 1) ≡ false = ap (λ (t : Text). t.bottom) text in
    let row = begins.row in
    let earlier_none : (m : ℕ) → m ≤ n → frame_index r m ≡ frame_index r (n + 1) → ⊥ = λ m before same.
    let low = frame_grows r m n before in omega arith in
    record {
      found = λ had. absurd (true≢false (sym had ∙ none));
      finds = λ had. let earlier = had.earlier in absurd (earlier_none had.clock (omega arith) had.frame);
      row = λ m before same same_row. elim (cases_eq m (n + 1)) [
        | inl is ↦ ap (is_lower ram size font s) is
        | inr other ↦ absurd (earlier_none m (omega arith) same)
      ];
      first = λ top. lower;
      below = λ m is doubles. absurd (omega arith);
      plain = λ nothing. lower;
    }

module _ (facts : Facts) (ram : ℕ → List ℕ) (size : ℕ → ℕ) (font : Font) (s : State) (makes : MakesFrames s.crtc) (on : bit s.ula.control 1 ≡ true) where
  -- the codes of a line are covered at each clock
  covered : (n : ℕ) →
      Covers (during ram size font s n)
  unfolding during behind
  covered zero =
      covers_at (tells 0 s.crtc) s.text true
      (facts.lines s.crtc 0 makes.bits makes.begins.character ∙ test_true (0 % line_characters s.crtc.registers) 0
      (zero-mod (line_characters s.crtc.registers)))
      (λ h. absurd (true≢false h))
  covered (suc n) =
      let e : n + 1 ≡ suc n = add-one n in
      let b = tells n s.crtc in
      subst (λ i. Covers (text_at (tells i s.crtc) (char_clocks ram size font i s).text)) e
      (covers_at (tells (n + 1) s.crtc) (char_clocks ram size font (n + 1) s).text (tells (n + 1) s.crtc).line_start refl
      (λ inner.
      let ends = line_follows facts s.crtc makes n inner in
      subst Covers (sym (next_text ram size font s on n ∙ past_plain b (behind ram size font s n) ends.0 ends.1))
      (covers_on b.shown (told_code (ram n) (size n) b) (during ram size font s n) (covered n))))

  -- the row has the code after a character
  had_behind : (n : ℕ) →
      Holds ram size font s n → (behind ram size font s n).doubled ≡ true →
      Had ram size s.crtc.registers n ⊎ Doubles ram size s.crtc.registers n
  unfolding behind during
  had_behind n holds had =
      let b = tells n s.crtc in
      elim (doubled_on b.shown (told_code (ram n) (size n) b) (during ram size font s n) (covered n) had) [
        | inl before ↦ inl (holds.found (sym (doubled_kept b (char_clocks ram size font n s).text) ∙ before))
        | inr now ↦
            inr (record {
              shown = sym (facts.shown.which s.crtc n makes.bits makes.begins) ∙ now.0;
              code = sym (here facts.count facts.shown ram size s n makes now.0).code ∙ now.1;
            })
      ]

  behind_had : (n : ℕ) →
      Holds ram size font s n → Had ram size s.crtc.registers n → (behind ram size font s n).doubled ≡ true
  unfolding behind during
  behind_had n holds had =
      let b = tells n s.crtc in
      doubled_before b.shown (told_code (ram n) (size n) b) (during ram size font s n) (doubled_kept b (char_clocks ram size font n s).text ∙ holds.finds had)

  behind_now : (n : ℕ) →
      Doubles ram size s.crtc.registers n → (behind ram size font s n).doubled ≡ true
  unfolding behind during
  behind_now n doubles = grind (arith, doubled_here, here)

  -- one clock further, in the same row
  in_row : (n : ℕ) →
      Stays s.crtc n → Holds ram size font s n → Holds ram size font s (n + 1)
  in_row n stays holds =
      let r = s.crtc.registers in
      let text : (char_clocks ram size font (n + 1) s).text ≡ behind ram size font s n =
      next_text ram size font s on n ∙ past_plain (tells n s.crtc) (behind ram size font s n) stays.restart stays.row_end in
      let doubled : (char_clocks ram size font (n + 1) s).text.doubled ≡ (behind ram size font s n).doubled = ap (λ (t : Text). t.doubled) text in
      let lower : is_lower ram size font s (n + 1) ≡ is_lower ram size font s n = ap (λ (t : Text). t.bottom) text ∙ behind_bottom ram size font s n in
      let above : (m : ℕ) → IsAbove r m (n + 1) → IsAbove r m n = λ m is. record { frame = is.frame ∙ stays.frame; row = is.row ∙ stays.row } in
      let above_back : (m : ℕ) → IsAbove r m n → IsAbove r m (n + 1) = λ m is. record { frame = is.frame ∙ sym stays.frame; row = is.row ∙ sym stays.row } in
      record {
        found = λ had. elim (had_behind n holds (sym doubled ∙ had)) [
          | inl before ↦
              let earlier = before.earlier in
              record {
                clock = before.clock;
                earlier = omega arith;
                frame = before.frame ∙ sym stays.frame;
                row = before.row ∙ sym stays.row;
                doubles = before.doubles;
              }
          | inr now ↦ record { clock = n; earlier = omega arith; frame = sym stays.frame; row = sym stays.row; doubles = now }
        ];
        finds = λ had. doubled ∙ (elim (cases_eq had.clock n) [
          | inl now ↦ behind_now n (subst (Doubles ram size r) now had.doubles)
          | inr before ↦
              let earlier = had.earlier in
              behind_had n holds (record {
                clock = had.clock;
                earlier = omega arith;
                frame = had.frame ∙ stays.frame;
                row = had.row ∙ stays.row;
                doubles = had.doubles;
              })
        ]);
        row = λ m before frame row. elim (cases_eq m (n + 1)) [
          | inl same ↦ ap (is_lower ram size font s) same
          | inr other ↦ holds.row m (omega arith) (frame ∙ stays.frame) (row ∙ stays.row) ∙ sym lower
        ];
        first = λ top. lower ∙ holds.first (sym stays.row ∙ top);
        below = λ m is doubles. lower ∙ holds.below m (above m is) doubles;
        plain = λ none. lower ∙ holds.plain (λ m is doubles. none m (above_back m is) doubles);
      }

  -- the next row begins
  to_row : (n : ℕ) →
      Steps s.crtc n → Holds ram size font s n → Holds ram size font s (n + 1)
  to_row n goes holds =
      let r = s.crtc.registers in
      let t = behind ram size font s n in
      let text : (char_clocks ram size font (n + 1) s).text ≡ next_row t =
      next_text ram size font s on n ∙ past_row (tells n s.crtc) t goes.restart goes.row_end in
      let none : (char_clocks ram size font (n + 1) s).text.doubled ≡ false = ap (λ (t : Text). t.doubled) text in
      let lower : is_lower ram size font s (n + 1) ≡ (not (is_lower ram size font s n) && t.doubled) =
      ap (λ (t : Text). t.bottom) text ∙ ap (λ b. not b && t.doubled) (behind_bottom ram size font s n) in
      let row = goes.row in
      let in_it : (m : ℕ) → IsAbove r m (n + 1) → (m ≤ n) × (row_at r m ≡ row_at r n) = λ m is.
      let same : row_at r m ≡ row_at r n = omega arith in (
        elim (cases_lt n m) [
          | inl later ↦
              let high = row_grows r (n + 1) m (omega arith) (sym is.frame) in absurd (omega arith)
          | inr before ↦ before
        ],
        same,
      ) in
      let above_now : IsAbove r n (n + 1) = record { frame = sym goes.frame; row = sym row } in
      record {
        found = λ had. absurd (true≢false (sym had ∙ none));
        finds = λ had.
            let earlier = had.earlier in absurd (new_row r n had.clock goes.frame row (omega arith) had.frame had.row);
        row = λ m before frame same. elim (cases_eq m (n + 1)) [
          | inl is ↦ ap (is_lower ram size font s) is
          | inr other ↦ absurd (new_row r n m goes.frame row (omega arith) frame same)
        ];
        first = λ top. absurd (omega arith);
        below = λ m is doubles.
            let where_it_is = in_it m is in
            let had : t.doubled ≡ true = elim (cases_eq m n) [
              | inl now ↦ behind_now n (subst (Doubles ram size r) now doubles)
              | inr other ↦
                  behind_had n holds (record {
                    clock = m;
                    earlier = omega arith;
                    frame = is.frame ∙ goes.frame;
                    row = where_it_is.1;
                    doubles = doubles;
                  })
            ] in
            lower ∙ ap (λ b. not (is_lower ram size font s n) && b) had ∙ and_on (not (is_lower ram size font s n))
            ∙ ap not (sym (holds.row m where_it_is.0 (is.frame ∙ goes.frame) where_it_is.1));
        plain = λ nothing.
            let off : t.doubled ≡ false = elim (cases_Bool t.doubled) [
              | inr off ↦ off
              | inl had ↦
                  elim (had_behind n holds had) [
                    | inl before ↦
                        absurd (nothing before.clock
                        (record { frame = before.frame ∙ sym goes.frame; row = ap (λ i. i + 1) before.row ∙ sym row }) before.doubles)
                    | inr now ↦ absurd (nothing n above_now now)
                  ]
            ] in
            lower ∙ ap (λ b. not (is_lower ram size font s n) && b) off ∙ and_false (not (is_lower ram size font s n));
      }

  at_each : (n : ℕ) →
      1 ≤ frame_index s.crtc.registers n → row_at s.crtc.registers n ≤ s.crtc.registers.vertical_total → Holds ram size font s n
  at_each zero some inside =
      let r = s.crtc.registers in
      let none : frame_index r 0 ≡ 0 = ap (λ i. i / frame_lines r) (zero-div (line_characters r)) ∙ zero-div (frame_lines r) in
      absurd (omega arith)
  at_each (suc n) some inside =
      let r = s.crtc.registers in
      let e : suc n ≡ n + 1 = sym (add-one n) in
      let some_too : 1 ≤ frame_index r (n + 1) = subst (λ i. 1 ≤ frame_index r i) e some in
      let inside_too : row_at r (n + 1) ≤ r.vertical_total = subst (λ i. row_at r i ≤ r.vertical_total) e inside in
      subst (Holds ram size font s) (sym e) (elim (goes facts s.crtc makes n) [
        | inl on_it ↦
            elim on_it [
              | inl stays ↦
                  let frame = stays.frame in
                  let row = stays.row in
                  in_row n stays (at_each n (omega arith) (omega arith))
              | inr next ↦
                  to_row n next (at_each n (omega arith) (omega arith))
            ]
        | inr far ↦
            elim far [
              | inl begins ↦ to_frame ram size font s on n begins
              | inr beyond ↦ absurd (too_far s.crtc n inside_too beyond)
            ]
      ])

pub lower_rows_follow : Facts → LowerRowsFollow
lower_rows_follow facts = record {
  first = λ ram size font s n makes on some top.
      (at_each facts ram size font s makes on n some (omega arith)).first top;
  below = λ ram size font s n m makes on some inside is doubles. (at_each facts ram size font s makes on n some inside).below m is doubles;
  plain = λ ram size font s n makes on some inside none. (at_each facts ram size font s makes on n some inside).plain none;
}
