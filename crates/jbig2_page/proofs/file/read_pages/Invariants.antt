use Rattle.std.proofs.Common.{◌≡◌, ◌++◌, length}
use Rattle.std.specs.Vec.Iter.{into_iter_items, into_iter_len}
use Rattle.jbig2_page.proofs.Books.{with_pages}
use Rattle.jbig2_page.specs.inner.ByPages.{pages_view}
use Rattle.jbig2_page.specs.Files.{pages_in_file, left_out_of}
use Rattle.jbig2_page.proofs.file.read_pages.Given as goal

abbrev pub invariant-loop-own : goal.invariant-loop-own
invariant-loop-own g l = record {
  counted : into_iter_len l.own-iterator ≡ length (into_iter_items l.own-iterator);
  filed : with_pages l.pages.items (pages_in_file l.reading (pages_view (into_iter_items l.own-iterator))) ≡ pages_in_file l.reading (pages_view l.fn.segments.items);
  left : l.left_out.items ++ left_out_of l.reading (pages_view (into_iter_items l.own-iterator)) ≡ l.fn.left_out.items ++ left_out_of l.reading (pages_view l.fn.segments.items);
}
