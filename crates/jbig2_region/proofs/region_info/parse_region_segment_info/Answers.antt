use Rattle.std.proofs.Common.{rules}
use Rattle.jbig2_region.proofs.ParsedCauses.{err-parses}
use Rattle.jbig2_region.specs.RegionInfo.{region_info_at}
use Rattle.jbig2_region.proofs.Causes.{info_has_cause}
use Rattle.jbig2_region.proofs.region_info.parse_region_segment_info.Goals as goal

pub returns-in_err-width-clause-parses : goal.returns-in_err-width-clause-parses
unfolding region_info_at
returns-in_err-width-clause-parses c = search rules

pub returns-in_err-width-clause-causes : goal.returns-in_err-width-clause-causes
returns-in_err-width-clause-causes c = info_has_cause c.args.reader.now.bytes _ (err-parses (returns-in_err-width-clause-parses c))

pub returns-in_err-height-clause-parses : goal.returns-in_err-height-clause-parses
unfolding region_info_at
returns-in_err-height-clause-parses c = search rules

pub returns-in_err-height-clause-causes : goal.returns-in_err-height-clause-causes
returns-in_err-height-clause-causes c = info_has_cause c.args.reader.now.bytes _ (err-parses (returns-in_err-height-clause-parses c))

pub returns-in_err-x_location-clause-parses : goal.returns-in_err-x_location-clause-parses
unfolding region_info_at
returns-in_err-x_location-clause-parses c = search rules

pub returns-in_err-x_location-clause-causes : goal.returns-in_err-x_location-clause-causes
returns-in_err-x_location-clause-causes c = info_has_cause c.args.reader.now.bytes _ (err-parses (returns-in_err-x_location-clause-parses c))

pub returns-in_err-y_location-clause-parses : goal.returns-in_err-y_location-clause-parses
unfolding region_info_at
returns-in_err-y_location-clause-parses c = search rules

pub returns-in_err-y_location-clause-causes : goal.returns-in_err-y_location-clause-causes
returns-in_err-y_location-clause-causes c = info_has_cause c.args.reader.now.bytes _ (err-parses (returns-in_err-y_location-clause-parses c))

pub returns-in_err-flags-clause-parses : goal.returns-in_err-flags-clause-parses
unfolding region_info_at
returns-in_err-flags-clause-parses c = search rules

pub returns-in_err-flags-clause-causes : goal.returns-in_err-flags-clause-causes
returns-in_err-flags-clause-causes c = info_has_cause c.args.reader.now.bytes _ (err-parses (returns-in_err-flags-clause-parses c))

pub returns-in_err-combination_operator-clause-parses : goal.returns-in_err-combination_operator-clause-parses
unfolding region_info_at
returns-in_err-combination_operator-clause-parses c = search rules

pub returns-in_err-combination_operator-clause-causes : goal.returns-in_err-combination_operator-clause-causes
returns-in_err-combination_operator-clause-causes c = info_has_cause c.args.reader.now.bytes _ (err-parses (returns-in_err-combination_operator-clause-parses c))

pub returns-then-flags-eq1-clause-parses : goal.returns-then-flags-eq1-clause-parses
unfolding region_info_at
returns-then-flags-eq1-clause-parses c = search rules

pub returns-then-flags-eq1-clause-causes : goal.returns-then-flags-eq1-clause-causes
returns-then-flags-eq1-clause-causes c = info_has_cause c.args.reader.now.bytes _ (err-parses (returns-then-flags-eq1-clause-parses c))

pub returns-clause-causes : goal.returns-clause-causes
returns-clause-causes c = info_has_cause c.args.reader.now.bytes _ tt
