-- The lengths of both images.
use Rattle.std.proofs.Common.{arith, true≢false, sym, ap, ◌∙◌, ◌≡◌, refl, ℕ, zero, suc, ◌+◌, ◌-◌, ◌%◌, ◌≤◌, List, [], ◌∷◌, ◌++◌, map, length, Result, Ok, Err, IsOk}
use Rattle.std.specs.Prelude.{take, drop}
use Rattle.std.proofs.lemmas.List.{length-append, length-take-le, length-drop, length-map}
use Rattle.op_table.specs.Names.{mnemonic_of}
use Rattle.op_table.specs.Forms.{find_form}
use Rattle.op_table.specs.declared.Part.TheVariants.{Nmos, Cmos}
use Rattle.rand_pcg.specs.Lcg.{Lcg}
use Rattle.rand_pcg.specs.Pcg.{pcg32}
use Rattle.asm65.specs.declared.AsmError.{AsmError}
use Rattle.asm65.specs.Source.{Program, source}
use Rattle.demo_gen.specs.Demo.{host_text, tube_text, words, drawn_bytes, image_with, image_of, image_holding, ImagesFit}
use Rattle.demo_gen.proofs.Assembling.{host_assembles, tube_assembles}

bytes_meant : Result Program AsmError → List ℕ
bytes_meant (Ok program) = program.1
bytes_meant (Err e) = []

-- the checker computes both lengths, as it does the programs
host_length : length (bytes_meant (source Nmos host_text)) ≡ 16384
unfolding source host_text mnemonic_of find_form bytes_meant
host_length = refl

tube_length : length (bytes_meant (source Cmos tube_text)) ≡ 2048
unfolding source tube_text mnemonic_of find_form bytes_meant
tube_length = refl

image_is : (r : Result Program AsmError) → IsOk r → image_of r ≡ Ok (bytes_meant r)
unfolding bytes_meant
image_is (Ok program) is = refl
image_is (Err e) is = absurd (true≢false (sym is))

holding_is : (bytes : List ℕ) (r : Result Program AsmError) → IsOk r → image_holding bytes r ≡ Ok (image_with bytes (bytes_meant r))
unfolding bytes_meant
holding_is bytes (Ok program) is = refl
holding_is bytes (Err e) is = absurd (true≢false (sym is))

words_length : (n : ℕ) (g : Lcg) → length (words n g) ≡ n
unfolding words
words_length zero g = refl
words_length (suc n) g = ap suc (words_length n (pcg32 g).1)

with_length : (bytes image : List ℕ) → length bytes ≡ 256 → length image ≡ 2048 → length (image_with bytes image) ≡ 2048
with_length bytes image some is =
    let front : length (take 256 image) ≡ 256 = length-take-le 256 image (omega (arith, is)) in
    let back : length (drop 512 image) ≡ length image - 512 = length-drop 512 image in
    let parts : length (image_with bytes image) ≡ length (take 256 image) + length bytes + length (drop 512 image) =
    length-append (take 256 image ++ bytes) (drop 512 image)
    ∙ ap (λ n. n + length (drop 512 image)) (length-append (take 256 image) bytes) in
    let all : length (take 256 image) + length bytes + length (drop 512 image) ≡ 2048 = omega (arith, front, back, some, is) in
    parts ∙ all

pub all_fit : ImagesFit
all_fit seed = record {
  os = bytes_meant (source Nmos host_text);
  os_is = image_is (source Nmos host_text) host_assembles;
  os_fits = host_length;
  tube = image_with (drawn_bytes seed) (bytes_meant (source Cmos tube_text));
  tube_is = holding_is (drawn_bytes seed) (source Cmos tube_text) tube_assembles;
  tube_fits = with_length (drawn_bytes seed) (bytes_meant (source Cmos tube_text)) (length-map (words 256 _) (λ w. w % 256) ∙ words_length 256 _) tube_length;
}
