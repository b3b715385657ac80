use Rattle.std.proofs.Common.{rules}
use Rattle.jbig2_framing.specs.File.{file_header_at}
use Rattle.jbig2_framing.proofs.FileHeaderCauses.{file_header_cause}
use Rattle.jbig2_framing.proofs.file_header.parse_file_header.Goals as goal

pub returns-in_err-front-clause-causes : goal.returns-in_err-front-clause-causes
unfolding file_header_at
returns-in_err-front-clause-causes c = file_header_cause c.args.reader.now.bytes _ (search rules)

pub returns-then-not-is_identification-clause-causes : goal.returns-then-not-is_identification-clause-causes
unfolding file_header_at
returns-then-not-is_identification-clause-causes c = file_header_cause c.args.reader.now.bytes _ (search rules)

pub returns-in_err-flags-clause-causes : goal.returns-in_err-flags-clause-causes
unfolding file_header_at
returns-in_err-flags-clause-causes c = file_header_cause c.args.reader.now.bytes _ (search rules)

pub returns-then-flags-ne0-clause-causes : goal.returns-then-flags-ne0-clause-causes
unfolding file_header_at
returns-then-flags-ne0-clause-causes c = file_header_cause c.args.reader.now.bytes _ (search rules)

pub returns-in_err-number_of_pages-clause-causes : goal.returns-in_err-number_of_pages-clause-causes
unfolding file_header_at
returns-in_err-number_of_pages-clause-causes c = file_header_cause c.args.reader.now.bytes _ (search rules)

pub returns-clause-causes : goal.returns-clause-causes
returns-clause-causes c = file_header_cause c.args.reader.now.bytes _ tt
