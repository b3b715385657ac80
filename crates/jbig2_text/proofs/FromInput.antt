-- Law: no definition of text regions returns an error that bytes cannot bring about, whatever the numbers are coded by.
use Rattle.std.proofs.Common.{ℕ, zero, suc, Bool, true, false, List, Option, Some, None, ℤ, pos, negsuc}
use Rattle.jbig2_base.specs.Grid.{Grid}
use Rattle.jbig2_base.specs.declared.error.DecodeError.{DecodeError}
use Rattle.jbig2_base.proofs.FromInput.{FromInput, IsFromInput, from_input-if, from_input-next, from_input-refusal}
use Rattle.jbig2_base.specs.Results.{word_or}
use Rattle.jbig2_region.specs.Refinement.{Reference}
use Rattle.jbig2_text.specs.Refining.{Refining}
use Rattle.jbig2_text.specs.Text.{TextState, Readings, TextParams, after_instances, next_cursor, edge, instance_symbol, with_ids, plain_symbol, refined_outline, refined_symbol, refinement_deltas, side_of, some_symbol, strip_start, strip_delta, symbol_placed, t_in_strip, text_region, with_instance, with_symbol}
use Rattle.jbig2_text.specs.inner.FunctionResults.{s_before, s_after}
use Rattle.jbig2_text.specs.declared.cursor.Cursor.{Cursor}
use Rattle.jbig2_text.specs.declared.refined.RefinementDeltas.{RefinementDeltas}
use Rattle.jbig2_text.specs.declared.header.TextRegionFlags.{TextRegionFlags}

-- each reading returns such errors alone
pub record AreFromInput {S : Type 0} (r : Readings S) : Type 0 where
  pub delta_t : (s : S) → FromInput (r.delta_t s)
  pub first_s : (s : S) → FromInput (r.first_s s)
  pub delta_s : (s : S) → FromInput (r.delta_s s)
  pub t_bits : (log : ℕ) (s : S) → FromInput (r.t_bits log s)
  pub id : (s : S) → FromInput (r.id s)
  pub is_refined : (s : S) → FromInput (r.is_refined s)
  pub width_delta : (s : S) → FromInput (r.width_delta s)
  pub height_delta : (s : S) → FromInput (r.height_delta s)
  pub x_delta : (s : S) → FromInput (r.x_delta s)
  pub y_delta : (s : S) → FromInput (r.y_delta s)
  pub refined : (from : Reference) (width height : ℕ) (f : Refining) (s : S) → FromInput (r.refined from width height f s)

from_input-word : (e : DecodeError) (n : ℤ) → IsFromInput e → FromInput (word_or e n)
from_input-word e (pos n) is = search (from_input-if, is)
from_input-word e (negsuc n) is = search (from_input-if, is)

-- ---- strips
from_input-strip_delta : {S : Type 0} (r : Readings S) (a : AreFromInput r) (flags : TextRegionFlags) (s : S) → FromInput (strip_delta r flags s)
unfolding strip_delta
from_input-strip_delta r a flags s = search (from_input-next, from_input-word, a.delta_t)

from_input-strip_start : {S : Type 0} (r : Readings S) (a : AreFromInput r) (flags : TextRegionFlags) (stript firsts : ℤ) (s : S) → FromInput (strip_start r flags stript firsts s)
unfolding strip_start
from_input-strip_start r a flags stript firsts s = search (from_input-next, from_input-word, from_input-strip_delta r a, a.first_s) depth 8

from_input-moved : {S : Type 0} (r : Readings S) (a : AreFromInput r) (flags : TextRegionFlags) (c : Cursor) (ids : Option ℤ) (s : S) → FromInput (with_ids r flags c ids s)
from_input-moved r a flags c None s = from_input-strip_start r a flags c.strip_t c.first_s s
from_input-moved r a flags c (Some ids) s = search (from_input-next, from_input-word)

from_input-cursor : {S : Type 0} (r : Readings S) (a : AreFromInput r) (flags : TextRegionFlags) (c : Cursor) (s : S) → FromInput (next_cursor r flags c s)
unfolding next_cursor
from_input-cursor r a flags c s = search (from_input-next, from_input-moved r a, a.delta_s)

from_input-t : {S : Type 0} (r : Readings S) (a : AreFromInput r) (flags : TextRegionFlags) (s : S) → FromInput (t_in_strip r flags s)
from_input-t r a flags s = search (from_input-if, a.t_bits)

-- ---- symbols
pub from_input-some_symbol : (g : Option Grid) → FromInput (some_symbol g)
from_input-some_symbol (Some g) = tt
from_input-some_symbol None = tt

from_input-side : (n : ℤ) → FromInput (side_of n)
from_input-side (pos n) = search (from_input-next, from_input-refusal)
from_input-side (negsuc n) = tt

from_input-deltas : {S : Type 0} (r : Readings S) (a : AreFromInput r) (s : S) → FromInput (refinement_deltas r s)
unfolding refinement_deltas
from_input-deltas r a s = search (from_input-next, a.width_delta, a.height_delta, a.x_delta, a.y_delta) depth 8

from_input-outline : (from : Grid) (rd : RefinementDeltas) → FromInput (refined_outline from rd)
unfolding refined_outline
from_input-outline from rd = search (from_input-next, from_input-side, from_input-word) depth 8

pub from_input-refined_symbol : {S : Type 0} (r : Readings S) (a : AreFromInput r) (symbols : List Grid) (id : ℤ) (f : Refining) (s : S) → FromInput (refined_symbol r symbols id f s)
unfolding refined_symbol
from_input-refined_symbol r a symbols id f s =
    search (from_input-next, from_input-some_symbol, from_input-deltas r a, from_input-outline, from_input-refusal, a.refined) depth 10

from_input-plain : (strict : Bool) (g : Option Grid) → FromInput (plain_symbol strict g)
from_input-plain strict (Some g) = tt
from_input-plain true None = tt
from_input-plain false None = tt

from_input-symbol : {S : Type 0} (r : Readings S) (a : AreFromInput r) (p : TextParams) (id : ℤ) (f : Refining) (s : S) → FromInput (instance_symbol r p id f s)
unfolding instance_symbol
from_input-symbol r a p id f s = search (from_input-next, from_input-if, a.is_refined, from_input-refined_symbol r a, from_input-plain) depth 8

-- ---- places
from_input-before : (flags : TextRegionFlags) (g : Grid) (curs : ℤ) → FromInput (s_before flags g curs)
from_input-before flags g curs = search (from_input-if, from_input-word)

from_input-after : (flags : TextRegionFlags) (g : Grid) (curs : ℤ) → FromInput (s_after flags g curs)
from_input-after flags g curs = search (from_input-if, from_input-word)

from_input-edge : (at_last : Bool) (side : ℕ) (place : ℤ) → FromInput (edge at_last side place)
from_input-edge at_last side place = search (from_input-if, from_input-word)

from_input-placed : (flags : TextRegionFlags) (g : Grid) (curs ti : ℤ) → FromInput (symbol_placed flags g curs ti)
unfolding symbol_placed
from_input-placed flags g curs ti = search (from_input-next, from_input-before, from_input-edge, from_input-after) depth 8

-- ---- instances
from_input-with_symbol : (flags : TextRegionFlags) (region : Grid) (c : Cursor) (ti : ℤ) (g : Option Grid) → FromInput (with_symbol flags region c ti g)
from_input-with_symbol flags region c ti None = tt
from_input-with_symbol flags region c ti (Some g) = search (from_input-next, from_input-placed)

from_input-instance : {S : Type 0} (r : Readings S) (a : AreFromInput r) (p : TextParams) (x : TextState S) → FromInput (with_instance r p x)
unfolding with_instance
from_input-instance r a p x = search (from_input-next, from_input-t r a, from_input-word, a.id, from_input-symbol r a, from_input-with_symbol) depth 10

from_input-instances : {S : Type 0} (r : Readings S) (a : AreFromInput r) (p : TextParams) (n : ℕ) (x : TextState S) → FromInput (after_instances r p n x)
unfolding after_instances
from_input-instances r a p zero x = tt
from_input-instances r a p (suc n) x =
    let others = from_input-instances r a p n in
    search (from_input-next, from_input-instance r a, from_input-cursor r a, others)

pub from_input-text_region : {S : Type 0} (r : Readings S) (a : AreFromInput r) (p : TextParams) (region : Grid) (f : Refining) (s : S) → FromInput (text_region r p region f s)
unfolding text_region
from_input-text_region r a p region f s =
    search (from_input-next, from_input-refusal, from_input-if, from_input-strip_delta r a, from_input-word, from_input-strip_start r a, from_input-instances r a, from_input-instance r a, a.delta_s) depth 18
