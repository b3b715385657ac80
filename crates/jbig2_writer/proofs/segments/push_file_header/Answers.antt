use Rattle.std.proofs.Common.{◌≡◌, ◌++◌, List, ℕ, subst, sym}
use Rattle.jbig2_writer.proofs.SegmentLemmas.{header-is}
use Rattle.jbig2_writer.proofs.segments.push_file_header.Goals as goal

pub returns : goal.returns
returns g c =
    subst (λ (l : List ℕ). c.extend_from_slice.new.self.items ≡ c.args.bytes.now.items ++ l) (sym header-is) c.in_ok-extend_from_slice.ensures.items
