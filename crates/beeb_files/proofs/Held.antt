-- A look-up in the files of a list of entries, one entry at a time.
use Rattle.std.proofs.lemmas.List.{drop_more}
use Rattle.std.proofs.Math.ListN.{drop_of_length-le}
use Rattle.std.proofs.Common.{true, false, ◌+◌, ◌<◌, ◌≤◌, length, get_or, ◌≡◌, ℕ, List, [], ◌∷◌, drop, cond, Some, None, ap, ◌∙◌, string_bytes, arith}
use Rattle.std.specs.Ordering.{nat_cmp}
use Rattle.std.specs.Cmp.Lexicographic.{slice_cmp, nat_list_cmp_total}
use Rattle.std.specs.Str.{bytes_eq}
use Rattle.std.specs.FinMap.{get-empty, get-insert}
use Rattle.std.proofs.lemmas.Map.Text.{is_eq-slice_cmp}
use Rattle.beeb_files.specs.Files.{bytes_of}
use Rattle.beeb_files.specs.Memory.{Entry, files_of}

-- no entry, no bytes
pub bytes_of-none : (es : List Entry) (name : List ℕ) → length es ≡ 0 → bytes_of (files_of es) name ≡ None
bytes_of-none [] name none = get-empty (slice_cmp nat_cmp) name
bytes_of-none (e ∷ es) name none = absurd (omega arith)

-- The first entry of a name gives its bytes.
bytes_of-cons : (e : Entry) (es : List Entry) (name : List ℕ) →
    bytes_of (files_of (e ∷ es)) name ≡ cond (bytes_eq name (string_bytes e.0)) (Some e.1.items) (bytes_of (files_of es) name)
bytes_of-cons e es name =
    get-insert nat_list_cmp_total (files_of es) (string_bytes e.0) e.1.items name
    ∙ ap (λ b. cond b (Some e.1.items) (bytes_of (files_of es) name)) (is_eq-slice_cmp name (string_bytes e.0))

-- A first entry with the name gives its own bytes.
pub bytes_of-first : (es : List Entry) (e : Entry) (later : List Entry) (name : List ℕ) → es ≡ e ∷ later →
    bytes_eq name (string_bytes e.0) ≡ true → bytes_of (files_of es) name ≡ Some e.1.items
bytes_of-first es e later name split same = rw split (rw (bytes_of-cons e later name, same))

-- a first entry with another name leaves the bytes to the later ones
pub bytes_of-later : (es : List Entry) (e : Entry) (later : List Entry) (name : List ℕ) → es ≡ e ∷ later →
    bytes_eq name (string_bytes e.0) ≡ false → bytes_of (files_of es) name ≡ bytes_of (files_of later) name
bytes_of-later es e later name split other = rw split (rw (bytes_of-cons e later name, other))

-- the entries from the place i on begin with the entry there
pub drop-here : (es : List Entry) (i : ℕ) (e : Entry) →
    i < length es → e ≡ get_or es i e → drop i es ≡ e ∷ drop (i + 1) es
drop-here es i e h is = rw (← is) at (drop_more es i e h)

-- past the last entry there are no bytes
pub bytes_of-past : (es : List Entry) (i : ℕ) (name : List ℕ) → length es ≤ i →
    bytes_of (files_of (drop i es)) name ≡ None
bytes_of-past es i name h = rw (drop_of_length-le es h) (get-empty (slice_cmp nat_cmp) name)
