use Rattle.std.proofs.Common.{◌≡◌, ◌++◌}
use Rattle.std.specs.List.{flat_map}
use Rattle.jbig2_page.specs.Files.{pages_of}
use Rattle.jbig2_program.specs.Printed.{page_line}
use Rattle.jbig2_program.proofs.pages.page_lines.Given as goal

-- the lines so far and those of the pages that are left are those of all
abbrev pub invariant-loop-page : goal.invariant-loop-page
invariant-loop-page g l = record { made : l.lines.items ++ flat_map page_line l.page-iterator ≡ flat_map page_line (pages_of l.file) }
