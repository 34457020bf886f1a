-- Small disassemblies, computed: a text, one that is cut, and one read back.
use Rattle.std.proofs.Common.{◌≡◌, refl, [], ◌∷◌, Ok, codes}
use Rattle.op_table.specs.declared.Part.TheVariants.{Nmos, Cmos}
use Rattle.op_table.specs.Forms.{find_form}
use Rattle.op_table.specs.Names.{mnemonic_of}
use Rattle.asm65.specs.Source.{source}
use Rattle.digits.specs.Hexadecimal.{hex_digits}
use Rattle.dis65.specs.Listing.{decode}

small : decode Nmos (0xA9 ∷ 0x41 ∷ 0x8D ∷ 0x70 ∷ 0x00 ∷ 0xD0 ∷ 0xF9 ∷ []) 0xC000 ≡ codes "org &C000\nLDA #&41\nSTA &0070\nBNE &C000\n"
unfolding decode hex_digits
small = refl

cut : decode Nmos (0xA9 ∷ 0x02 ∷ 0x41 ∷ 0x12 ∷ 0x8D ∷ 0x70 ∷ []) 0 ≡ codes "org &0000\nLDA #&02\nEOR (&12,X)\nbyte &8D\nbyte &70\n"
unfolding decode hex_digits
cut = refl

back : source Cmos (decode Cmos (0xD0 ∷ 0x80 ∷ 0x7C ∷ 0xFF ∷ 0xFF ∷ 0xB2 ∷ 1 ∷ 0x0A ∷ 0x44 ∷ []) 0xFFF0)
    ≡ Ok (0xFFF0, 0xD0 ∷ 0x80 ∷ 0x7C ∷ 0xFF ∷ 0xFF ∷ 0xB2 ∷ 1 ∷ 0x0A ∷ 0x44 ∷ [])
unfolding source decode hex_digits find_form mnemonic_of
back = refl
