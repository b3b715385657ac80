use Rattle.jbig2_page.proofs.DrawnPages.{gives-grid}
use Rattle.hayro_jbig2.proofs.page.Page.draw_in.Goals as goal

pub returns-clause-value : goal.returns-clause-value
returns-clause-value g c = gives-grid c.args.self.now c.draw_counted.result c.draw_counted.new.context.drawing c.draw_counted.ensures.drawing
