-- The data of a pattern dictionary segment up to its coded bytes (T.88, 7.4.4): flags, a pattern's sides and GRAYMAX.
-- The bytes give the header, and the coded bytes after it.
use Rattle.std.specs.Prelude.{ℕ, ◌/◌, ◌%◌, ◌==◌, Bool, List, Result, Ok}
use Rattle.std.specs.Int.{w8, w32}
use Rattle.jbig2_base.specs.Results.{◌>>=◌, refuse_if}
use Rattle.jbig2_base.specs.Fields.{number_at, end_of_bytes}
use Rattle.jbig2_base.specs.declared.error.DecodeError.{DecodeError}
use Rattle.jbig2_region.specs.Templates.{template_of}
use Rattle.jbig2_region.specs.declared.template.Template.{Template}

-- What is needed to decode a dictionary's coded bytes. There is one pattern more than GRAYMAX says (7.4.4.1.4).
pub record PatternHeader : Type 0 where
  pub mmr : Bool
  pub template : Template
  pub pattern_width : ℕ
  pub pattern_height : ℕ
  pub gray_max : ℕ
  pub bytes : List ℕ
  pub strict : Bool

-- a side of a pattern; 0 counts as a missing side (our own rule)
abbrev pub side_at : List ℕ → Result (ℕ × List ℕ) DecodeError
side_at bytes = do
  (side, rest) ← number_at w8 bytes
  some ← refuse_if (side == 0) end_of_bytes
  Ok (side, rest)

unfoldable pub pattern_header_at : Bool → List ℕ → Result (PatternHeader × List ℕ) DecodeError
pattern_header_at strict bytes = do
  (flags, rest) ← number_at w8 bytes
  (width, rest) ← side_at rest
  (height, rest) ← side_at rest
  (largest, rest) ← number_at w32 rest
  Ok (
    record {
      mmr = flags % 2 == 1;
      template = template_of (flags / 2 % 4);
      pattern_width = width;
      pattern_height = height;
      gray_max = largest;
      bytes = rest;
      strict = strict;
    },
    rest,
  )
