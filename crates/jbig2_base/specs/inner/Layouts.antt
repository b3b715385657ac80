-- How the rows of a block lie in words of 64 pixels.
use Rattle.std.specs.Prelude.{◌≡◌, ◌+◌, ◌-◌, ◌/◌, ◌%◌, ◌<◌, ◌≤◌, ℕ}
use Rattle.jbig2_base.specs.declared.bitmap.rows.blocks.Layout.{Layout}
use Rattle.jbig2_base.specs.declared.bitmap.rows.blocks.Layout.TheVariants.{Near, Narrow, Aligned}

-- how a row of this many columns lies, from column `left` of the page and column `from` of the source on
abbrev pub IsLaid : Layout → ℕ → ℕ → ℕ → Type 0
IsLaid Near left columns from = (from / 64 ≡ (from + columns - 1) / 64) × (left % 64 + columns ≤ 64)
IsLaid Narrow left columns from = from / 64 ≡ (from + columns - 1) / 64
IsLaid Aligned left columns from = (left % 64 ≡ from % 64) × (left / 64 < (left + columns - 1) / 64)
