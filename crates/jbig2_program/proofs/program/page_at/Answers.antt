use Rattle.std.proofs.Common.{◌≡◌}
use Rattle.std.specs.Str.Parse.{digits_value}
use Rattle.jbig2_page.specs.Files.{page_of}
use Rattle.jbig2_program.proofs.Naming.{names_none, names_page, parsed, unparsed}
use Rattle.jbig2_program.proofs.program.page_at.Goals as goal
use Rattle.jbig2_program.proofs.program.page_at.Goals.{in-Ok, in-Err}

pub returns-in-Some-clause-page : goal.returns-in-Some-clause-page
returns-in-Some-clause-page g c =
    let same : page_of c.args.file.now c.match-parse.index ≡ page_of c.args.file.now (digits_value 10 c.args.index.now) =
    elim c.match-parse.branch [
      | in-Ok w ↦ rw w.index-is (parsed c.args.index.now c.args.file.now c.parse.result w.in-Ok.index c.requires c.parse.ensures.value.0 w.in-Ok.is)
      | in-Err w ↦ rw w.index-is (unparsed c.args.index.now c.args.file.now c.parse.result _ w.page_count-index.result c.requires c.parse.ensures.value.0 w.in-Err.is w.page_count-index.ensures w.page_count-index.type_inv)
    ] in
    names_page c.args.index.now c.args.file.now c.match-parse.index c.in-Some.page same c.in-Some.ensures.value

pub returns-in-None-clause-fault : goal.returns-in-None-clause-fault
returns-in-None-clause-fault g c =
    let same : page_of c.args.file.now c.match-parse.index ≡ page_of c.args.file.now (digits_value 10 c.args.index.now) =
    elim c.match-parse.branch [
      | in-Ok w ↦ rw w.index-is (parsed c.args.index.now c.args.file.now c.parse.result w.in-Ok.index c.requires c.parse.ensures.value.0 w.in-Ok.is)
      | in-Err w ↦ rw w.index-is (unparsed c.args.index.now c.args.file.now c.parse.result _ w.page_count-index.result c.requires c.parse.ensures.value.0 w.in-Err.is w.page_count-index.ensures w.page_count-index.type_inv)
    ] in
    names_none c.args.index.now c.args.file.now c.match-parse.index same c.in-None.ensures.value
