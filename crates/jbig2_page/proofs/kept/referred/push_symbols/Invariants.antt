use Rattle.std.proofs.Common.{◌≡◌, ◌+◌, ◌++◌, length, map, take}
use Rattle.jbig2_page.proofs.kept.referred.push_symbols.Given as goal

abbrev pub invariant-loop-bitmap : goal.invariant-loop-bitmap
invariant-loop-bitmap g l =
    (map (λ b. b.now) l.symbols.items ≡ map (λ b. b.now) l.fn.symbols.items ++ take l.bitmap-index l.bitmaps)
    × (length l.symbols.items ≡ length l.fn.symbols.items + l.bitmap-index)
