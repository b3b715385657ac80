-- Short headers of files, written by the definition.
use Rattle.std.proofs.Common.{◌≡◌, true, false, [], ◌∷◌, Some, None, refl}
use Rattle.jbig2_framing.specs.declared.file_header.FileOrganization.TheVariants.{Sequential, RandomAccess}
use Rattle.jbig2_inverses.specs.FileWriter.{file_header_bytes}

-- the file of T.88 H.1: sequential, of three pages
of_three_pages : file_header_bytes (record { organization = Sequential; number_of_pages = Some 3; uses_extended_templates = false; contains_coloured_regions = false })
    ≡ 0x97 ∷ 0x4A ∷ 0x42 ∷ 0x32 ∷ 0x0D ∷ 0x0A ∷ 0x1A ∷ 0x0A ∷ 1 ∷ 0 ∷ 0 ∷ 0 ∷ 3 ∷ []
unfolding file_header_bytes
of_three_pages = refl

-- in random access, of an unknown number of pages, with twelve adaptive pixels
of_unknown_pages : file_header_bytes (record { organization = RandomAccess; number_of_pages = None; uses_extended_templates = true; contains_coloured_regions = false })
    ≡ 0x97 ∷ 0x4A ∷ 0x42 ∷ 0x32 ∷ 0x0D ∷ 0x0A ∷ 0x1A ∷ 0x0A ∷ 6 ∷ []
unfolding file_header_bytes
of_unknown_pages = refl
