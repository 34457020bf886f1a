-- A session that is read is in its one file, and is read of it.
use Rattle.std.proofs.Common.{◌≡◌, ◌∙◌, refl, sym, ap, ℕ, ◌+◌, ◌≤◌, Bool, false, List, [], ◌∷◌, ◌++◌, length, get_or, take, None, Some, Ok, codes}
use Rattle.std.proofs.Common.{All, append-nil, append_assoc, arith, eq-eqb, le-leb}
use Rattle.std.proofs.lemmas.Bool.Decides.{nat_tests}
use Rattle.std.proofs.lemmas.Grind.{common_steps}
use Rattle.std.specs.List.{flat_map}
use Rattle.std.specs.Int.{w32, to_be_bytes}
use Rattle.std.proofs.lemmas.List.Elements.{All-append, All-from_recursion}
use Rattle.std.proofs.lemmas.List.{take_at, take-append-drop, drop_more, length-append, get_or-append-add}
use Rattle.std.proofs.Math.ListN.{drop_of_length-le}
use Rattle.beeb_bits.specs.declared.clock.Clock.{Clock}
use Rattle.tube_trace.specs.declared.Entry.{Entry}
use Rattle.save_state.specs.declared.parts.Kind.TheVariants.{Keys}
use Rattle.save_state.specs.Fields.{Fields, with_nothing_behind, up_to, ◌>>=◌}
use Rattle.save_state.specs.Saved.{Session}
use Rattle.save_state.specs.Parts.{Parts, parts_at, first_kinds, part_bytes, disc_bytes}
use Rattle.save_state.specs.Entries.{entries_at, entry_bytes}
use Rattle.save_state.specs.File.{clock_in, Header, header_at, list_at, file, speed_of, header_bytes, part, is_dsd, list_bytes, file_of, IsSession, IsPart, IsDisc, ArePartsOf}
use Rattle.save_state.specs.Laws.{FileReadsBack, OnlyFileReads}
use Rattle.save_state.proofs.Standing.{Stands, bind_ok}
use Rattle.save_state.proofs.Reading.{Reads, alike, then, last, of_byte, number_law, exact_law}
use Rattle.save_state.proofs.PartLaws.{Part, IsShort, part_short, disc_short, each_short, part_law, disc_law, each_law, as_many}
use Rattle.save_state.proofs.EntryLaws.{Behind, entries_law}

-- ---- the fields before the parts

clock_again : (clock : Clock) → clock_in (speed_of clock) ≡ Some clock
clock_again clock = grind arith

header_law : Reads header_at (λ h. header_bytes h.clock h.ticks h.plugs) (λ h. (h.ticks ≤ 1073741824) × (h.plugs ≤ 8))
unfolding header_at
header_law =
    then _ (λ h. codes "BTUB") (λ h. 1 ∷ speed_of h.clock ∷ to_be_bytes w32 h.ticks ++ h.plugs ∷ []) (exact_law (codes "BTUB")) (λ h is. (refl, refl)) (λ name is_name.
    then _ (λ h. 1 ∷ []) (λ h. speed_of h.clock ∷ to_be_bytes w32 h.ticks ++ h.plugs ∷ []) (exact_law (1 ∷ [])) (λ h is. (refl, refl)) (λ form is_form.
    then _ (λ h. h.clock) (λ h. to_be_bytes w32 h.ticks ++ h.plugs ∷ []) (of_byte clock_in speed_of clock_to (λ c is. clock_again c)) (λ h is. (tt, refl)) (λ clock is_clock.
    then _ (λ h. h.ticks) (λ h. h.plugs ∷ []) (number_law 1073741824 (omega arith)) (λ h is. (is.0.0.0.0, refl)) (λ ticks early.
    last (λ plugs. record { clock = clock; ticks = ticks; plugs = plugs }) (of_byte (up_to 8) (λ n. n) plugs_to plugs_again)
    (λ plugs few. ((((((early, few), is_name), is_form), refl), refl), refl))
    (λ h is. (h.plugs, is.0.0.0.0.1, λ i. record { clock = (sym is.0.1) i; ticks = (sym is.1) i; plugs = h.plugs }))))))
  where
    clock_to : (v : ℕ) (clock : Clock) → clock_in v ≡ Some clock → (speed_of clock ≡ v) × Unit {0}
    clock_to v clock means = let is : speed_of clock ≡ v = grind (arith, nat_tests) in (is, tt)

    plugs_to : (v n : ℕ) → up_to 8 v ≡ Some n → (n ≡ v) × (n ≤ 8)
    plugs_to v n means = grind (arith, nat_tests)

    plugs_again : (n : ℕ) → n ≤ 8 → up_to 8 n ≡ Some n
    plugs_again n few = rw (le-leb n 8 few)

-- ---- the parts

split_parts : {parts : List Part} → length parts ≡ 22 → take 19 parts ++ get_or parts 19 None ∷ get_or parts 20 None ∷ get_or parts 21 None ∷ [] ≡ parts
split_parts {parts} long =
    rw (drop_more parts 19 None (omega arith), drop_more parts 20 None (omega arith), drop_more parts 21 None (omega arith), drop_of_length-le parts {i = 22} (omega arith))
    at (take-append-drop 19 parts)

two : (xs : List Bool) → length xs ≡ 2 → get_or xs 0 false ∷ get_or xs 1 false ∷ [] ≡ xs
two xs l = grind (arith, common_steps)

-- The rules of the parts alone.
record ArePart (parts : List Part) (dsd : List Bool) : Type 0 where
  many : length parts ≡ 22
  both : length dsd ≡ 2
  first : ArePartsOf first_kinds (take 19 parts)
  disc0 : IsDisc (get_or parts 19 None) (get_or dsd 0 false)
  disc1 : IsDisc (get_or parts 20 None) (get_or dsd 1 false)
  keys : IsPart Keys (get_or parts 21 None)

abbrev text_of : List Part → List Bool → List ℕ
text_of parts dsd =
    flat_map part_bytes (take 19 parts) ++ disc_bytes (get_or parts 19 None) (get_or dsd 0 false) ++ disc_bytes (get_or parts 20 None) (get_or dsd 1 false)
    ++ part_bytes (get_or parts 21 None)

-- parts by their places
abbrev parted : List Part → Part × Bool → Part × Bool → Part → Parts
parted first d0 d1 k = record { parts = first ++ d0.0 ∷ d1.0 ∷ k ∷ []; dsd = d0.1 ∷ d1.1 ∷ [] }

-- a disc by its place and its drive
abbrev disc_of : Parts → ℕ → ℕ → Part × Bool
disc_of p place drive = (get_or p.parts place None, get_or p.dsd drive false)

abbrev disc_text : Parts → ℕ → ℕ → List ℕ
disc_text p place drive = disc_bytes (disc_of p place drive).0 (disc_of p place drive).1

-- parts of which these were read before the last
abbrev Are : List Part → Part × Bool → Part × Bool → Parts → Type 0
Are first d0 d1 p = ((ArePart p.parts p.dsd × (take 19 p.parts ≡ first)) × (disc_of p 19 0 ≡ d0)) × (disc_of p 20 1 ≡ d1)

parts_law : Reads parts_at (λ p. text_of p.parts p.dsd) (λ p. ArePart p.parts p.dsd)
unfolding parts_at
parts_law =
    then _ (λ p. take 19 p.parts) (λ p. disc_text p 19 0 ++ (disc_text p 20 1 ++ part_bytes (get_or p.parts 21 None))) (each_law first_kinds)
    (λ p is. (is.first, simp append_assoc)) (λ first are.
    then _ (λ p. disc_of p 19 0) (λ p. disc_text p 20 1 ++ part_bytes (get_or p.parts 21 None)) disc_law (λ p is. (is.0.disc0, refl)) (λ d0 is0.
    then _ (λ p. disc_of p 20 1) (λ p. part_bytes (get_or p.parts 21 None)) disc_law (λ p is. (is.0.0.disc1, refl)) (λ d1 is1.
    last (parted first d0 d1) (part_law Keys) (made first d0 d1 are is0 is1) (there first d0 d1))))
  where
    made : (first : List Part) (d0 d1 : Part × Bool) → ArePartsOf first_kinds first → IsDisc d0.0 d0.1 → IsDisc d1.0 d1.1 →
        (k : Part) → IsPart Keys k →
        Are first d0 d1 (parted first d0 d1 k) × (part_bytes (get_or (parted first d0 d1 k).parts 21 None) ≡ part_bytes k)
    made first d0 d1 are is0 is1 k isk =
        let long : length first ≡ 19 = as_many first_kinds first are in
        let rest : List Part = d0.0 ∷ d1.0 ∷ k ∷ [] in
        let front : take 19 (first ++ rest) ≡ first = take_at first rest 19 long in
        let at : (i : ℕ) → get_or (first ++ rest) (19 + i) None ≡ get_or rest i None =
        λ i. ap (λ (n : ℕ). get_or (first ++ rest) (n + i) None) (sym long) ∙ get_or-append-add first rest i None in
        let all : ArePart (first ++ rest) (d0.1 ∷ d1.1 ∷ []) = record {
          many = omega (arith, long, length-append first rest);
          both = refl;
          first = rw front are;
          disc0 = rw (at 0) is0;
          disc1 = rw (at 1) is1;
          keys = rw (at 2) isk;
        } in
        ((((all, front), λ i. (at 0 i, d0.1)), λ i. (at 1 i, d1.1)), ap part_bytes (at 2))

    there : (first : List Part) (d0 d1 : Part × Bool) (p : Parts) → Are first d0 d1 p → (k : Part) × IsPart Keys k × (parted first d0 d1 k ≡ p)
    there first d0 d1 p is =
        let are = is.0.0.0 in
        let k = get_or p.parts 21 None in
        let parts : first ++ d0.0 ∷ d1.0 ∷ k ∷ [] ≡ p.parts = rw (← is.0.0.1, ← is.0.1, ← is.1) (split_parts are.many) in
        let dsd : d0.1 ∷ d1.1 ∷ [] ≡ p.dsd = rw (← is.0.1, ← is.1) (two p.dsd are.both) in
        (k, are.keys, λ i. record { parts = parts i; dsd = dsd i })

-- ---- the accesses

list_law : (ticks : ℕ) → Reads (list_at ticks) list_bytes (λ es. (length es ≤ 4194304) × Behind ticks None es)
unfolding list_at
list_law ticks =
    then (λ n. entries_at ticks n None) length (flat_map entry_bytes) (number_law 4194304 (omega arith)) (λ es is. (is.0, refl))
    (λ n few. alike (entries_law n ticks None) (λ es is. ((rw is.0 few, is.1), is.0)) (λ es is. (is.1, is.0.1)))

-- ---- the file

ended_ok : (bytes : List ℕ) {x : Session × ℕ} {s : Session} → with_nothing_behind bytes x ≡ Ok s → (length bytes ≡ x.1) × (x.0 ≡ s)
ended_ok bytes e = grind (arith, nat_tests)

-- a session by what is read in order
abbrev made : Header → Parts → List Entry → Session
made h p es = record { clock = h.clock; ticks = h.ticks; plugs = h.plugs; parts = p.parts; dsd = p.dsd; entries = es }

abbrev whole : Fields Session
whole bytes at = header_at bytes at >>= λ h. parts_at bytes h.1 >>= λ p. list_at h.0.ticks bytes p.1 >>= λ l. Ok (made h.0 p.0 l.0, l.1)

file_is : (bytes : List ℕ) → file bytes ≡ (whole bytes 0 >>= with_nothing_behind bytes)
unfolding file
file_is bytes = grind arith

whole_law : Reads whole file_of IsSession
unfolding file_of
whole_law =
    then _ (λ s. record { clock = s.clock; ticks = s.ticks; plugs = s.plugs }) (λ s. text_of s.parts s.dsd ++ list_bytes s.entries) header_law
    (λ s is. ((is.ticks, is.plugs), append_assoc (header_bytes s.clock s.ticks s.plugs) (text_of s.parts s.dsd) (list_bytes s.entries))) (λ h early.
    then _ (λ s. record { parts = s.parts; dsd = s.dsd }) (λ s. list_bytes s.entries) parts_law (λ s is. (assumption, refl)) (λ p are.
    last (made h p) (list_law h.ticks) (λ es list. (((assumption, refl), refl), refl))
    (λ s is. rw (← is.1, ← is.0.1) (s.entries, (is.0.0.few, assumption), refl))))

pub file_only : OnlyFileReads
file_only bytes s are e =
    let w = bind_ok (whole bytes 0) (sym (file_is bytes) ∙ e) in
    let r = whole_law.reads bytes 0 w.0 are (omega arith) w.1 in
    let over = ended_ok bytes w.2 in
    rw (← over.1) (rw (drop_of_length-le bytes {i = w.0.1} (omega (arith, over.0)), append-nil) at r.0.here, r.1)

pub file_back : FileReadsBack
file_back s is =
    let bytes : List ℕ = file_of s in
    let end_ : ℕ = length bytes in
    let all : Stands bytes 0 bytes end_ = record { here = rw (drop_of_length-le bytes {i = end_} (omega arith), append-nil); to = omega arith; within = omega arith } in
    file_is bytes ∙ (rw (whole_law.again bytes 0 s end_ is all, eq-eqb end_ end_ refl))

-- each part of a session is shorter than the number of an absent one
pub all_short : {s : Session} → IsSession s → All IsShort s.parts
all_short {s} is =
    let xs : List Part = take 19 s.parts in
    let rest : List Part = part s 19 ∷ part s 20 ∷ part s 21 ∷ [] in
    let last : All IsShort rest =
    All-from_recursion IsShort rest (disc_short (part s 19) (is_dsd s 0) is.disc0, (disc_short (part s 20) (is_dsd s 1) is.disc1, (part_short Keys (part s 21) is.keys, tt))) in
    rw (split_parts is.many) at (All-append IsShort xs rest (each_short first_kinds xs is.first) last)
