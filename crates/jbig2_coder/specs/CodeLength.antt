-- The fewest bits of a code (T.88, 6.5.8.2.3), which number symbols and patterns.
use Rattle.std.specs.Prelude.{nat_le, ℕ, ◌^◌}
use Rattle.jbig2_base.specs.Search.{place_from}

abbrev pub code_length : ℕ → ℕ  -- the fewest bits that can number this many things
code_length count = place_from (λ bits. nat_le count (2 ^ bits)) 0 count
