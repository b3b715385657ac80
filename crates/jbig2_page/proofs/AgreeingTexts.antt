-- Where strict reading accepts, lenient reading gives the same: text regions.
use Rattle.std.proofs.Common.{ℕ, zero, suc, ◌-◌, ◌*◌, eqb, Bool, true, false, ◌||◌, nat_lt, cond, ℤ, pos, ◌-ℤ◌, ◌+ℤ◌, List, Option, Some, None, Result, Ok, Err, refl}
use Rattle.std.specs.Option.{is_some}
use Rattle.jbig2_base.specs.Results.{◌>>=◌, refuse_if}
use Rattle.jbig2_base.specs.Grid.{Grid, blank}
use Rattle.jbig2_base.specs.declared.error.DecodeError.{DecodeError}
use Rattle.jbig2_base.specs.declared.error.DecodeError.TheVariants.{Overflow, Symbol}
use Rattle.jbig2_base.specs.declared.error.OverflowError.TheVariants.{BitmapDimension}
use Rattle.jbig2_base.specs.declared.error.SymbolError.TheVariants.{OutOfRange, TooManyInstances}
use Rattle.jbig2_coder.specs.PrefixCode.{Member}
use Rattle.jbig2_region.specs.RegionInfo.{region_info_at}
use Rattle.jbig2_text.specs.Refining.{Refining}
use Rattle.jbig2_text.specs.Text.{TextState, Readings, TextParams, after_instances, coordinate, next_cursor, instance_symbol, plain_symbol, refined_symbol, strip_start, strip_delta, symbol_of, t_in_strip, text_region, with_instance, with_symbol}
use Rattle.jbig2_text.specs.TextCoding.{by_coder, by_prefix_codes}
use Rattle.jbig2_text.specs.TextHeader.{NumberCoding, TextHeader, ArithmeticCoding, HuffmanCoding, coding_at, text_fields_at, text_header_at}
use Rattle.jbig2_text.specs.TextRegion.{coder_of, prefix_codes_of, refining_of, region_by, region_from, text_result, text_decoded, text_params}
use Rattle.jbig2_framing.proofs.Agreeing.{Agrees, Same, agrees-then, same-if, same-itself, same-next, same-refusal, same-then, same-unless}

abbrev pub lenient_params : TextParams → TextParams
lenient_params p = record p { strict = false }

-- ---- instances
symbol-same : (strict : Bool) (g : Option Grid) → Same (plain_symbol strict g) (plain_symbol false g)
symbol-same strict (Some g) = refl
symbol-same strict None = same-unless strict (Symbol OutOfRange) (Ok None)

instance-symbol-same : {S : Type 0} (r : Readings S) (p : TextParams) (id : ℤ) (f : Refining) (s : S) → Same (instance_symbol r p id f s) (instance_symbol r (lenient_params p) id f s)
unfolding instance_symbol
instance-symbol-same {S = S} r p id f s =
    same-then (cond p.flags.use_refinement (r.is_refined s) (Ok (false, s))) _ _ (λ (ri : Bool × S). same-if ri.0 _ _ _ _
    (same-itself (refined_symbol r p.symbols id f ri.1 >>= λ g. Ok (Some g.0, g.1, g.2)))
    (same-next (plain_symbol p.strict (symbol_of p.symbols id)) (plain_symbol false (symbol_of p.symbols id)) _ _ (symbol-same p.strict (symbol_of p.symbols id)) (λ g. refl)))

with-instance-same : {S : Type 0} (r : Readings S) (p : TextParams) (x : TextState S) → Same (with_instance r p x) (with_instance r (lenient_params p) x)
unfolding with_instance
with-instance-same r p x =
    same-then (t_in_strip r p.flags x.state) _ _ (λ curt. same-then (coordinate (x.cursor.strip_t +ℤ curt.0)) _ _ (λ ti. same-then (r.id curt.1) _ _ (λ id.
    same-next (instance_symbol r p id.0 x.refining id.1) (instance_symbol r (lenient_params p) id.0 x.refining id.1) _ _ (instance-symbol-same r p id.0 x.refining id.1) (λ ib.
    same-itself (with_symbol p.flags x.region x.cursor ti ib.0 >>= λ more. Ok (record { region = more.0; cursor = more.1; refining = ib.1; state = ib.2 }))))))

after-instances-same : {S : Type 0} (r : Readings S) (p : TextParams) (n : ℕ) (x : TextState S) → Same (after_instances r p n x) (after_instances r (lenient_params p) n x)
unfolding after_instances
after-instances-same r p zero x = refl
after-instances-same r p (suc n) x =
    same-next (with_instance r p x) (with_instance r (lenient_params p) x) _ _ (with-instance-same r p x) (λ y.
    same-then (next_cursor r p.flags y.cursor y.state) _ _ (λ c. after-instances-same r p n (record y { cursor = c.0; state = c.1 })))

-- the last delta of a strip is judged in strict mode alone
ends-same : (strict : Bool) (delta : Result (Option ℤ) DecodeError) → Same (cond strict (delta >>= λ ids. refuse_if (is_some ids) (Symbol TooManyInstances)) (Ok tt)) (Ok tt)
ends-same true (Ok ids) = same-refusal (is_some ids) (Symbol TooManyInstances)
ends-same true (Err e) = tt
ends-same false delta = refl

pub text-region-same : {S : Type 0} (r : Readings S) (p : TextParams) (region : Grid) (f : Refining) (s : S) → Same (text_region r p region f s) (text_region r (lenient_params p) region f s)
unfolding text_region
text-region-same r p region f s =
    same-then (refuse_if (nat_lt (32 * p.data_length) p.count) (Symbol TooManyInstances)) _ _ (λ few. same-then (strip_delta r p.flags s) _ _ (λ dt.
    same-then (coordinate (pos 0 -ℤ dt.0)) _ _ (λ stript. same-if (eqb p.count 0) (Ok (region, f, dt.1)) (Ok (region, f, dt.1)) _ _ refl
    (same-then (strip_start r p.flags stript (pos 0) dt.1) _ _ (λ c.
    same-next (after_instances r p (p.count - 1) (record { region = region; cursor = c.0; refining = f; state = c.1 })) (after_instances r (lenient_params p) (p.count - 1) (record { region = region; cursor = c.0; refining = f; state = c.1 })) _ _
    (after-instances-same r p (p.count - 1) (record { region = region; cursor = c.0; refining = f; state = c.1 })) (λ x.
    same-next (with_instance r p x) (with_instance r (lenient_params p) x) _ _ (with-instance-same r p x) (λ last.
    same-next (cond p.strict (r.delta_s last.state >>= λ ids. refuse_if (is_some ids) (Symbol TooManyInstances)) (Ok tt)) (Ok tt) _ _ (ends-same p.strict (r.delta_s last.state)) (λ ends. refl))))))))

-- ---- text regions
abbrev pub lenient_text : TextHeader → TextHeader
lenient_text h = record h { strict = false }

pub text-header-agrees : (symbols : ℕ) (bytes : List ℕ) → Agrees (λ h. (lenient_text h.0, h.1)) (text_header_at symbols true bytes) (text_header_at symbols false bytes)
unfolding text_header_at
text-header-agrees symbols bytes =
    let view : TextHeader × List ℕ → TextHeader × List ℕ = λ h. (lenient_text h.0, h.1) in
    agrees-then view (region_info_at bytes) _ _ (λ info. agrees-then view (text_fields_at info.1) _ _ (λ fields. agrees-then view (coding_at fields.0.table_numbers symbols fields.1) _ _ (λ coding. refl)))

from-same : {S : Type 0} (r : Readings S) (h : TextHeader) (symbols : List Grid) (region : Grid) (s : S) → Same (region_from r h symbols region s) (region_from r (lenient_text h) symbols region s)
unfolding region_from
from-same r h symbols region s =
    same-next (text_region r (text_params h symbols) region (refining_of h) s) (text_region r (lenient_params (text_params h symbols)) region (refining_of h) s) _ _ (text-region-same r (text_params h symbols) region (refining_of h) s) (λ found. refl)

by-same : (h : TextHeader) (coding : NumberCoding) (symbols : List Grid) (customs : List (List Member)) (region : Grid) → Same (region_by h coding symbols customs region) (region_by (lenient_text h) coding symbols customs region)
by-same h ArithmeticCoding symbols customs region = from-same by_coder h symbols region (coder_of h symbols)
by-same h (HuffmanCoding numbers ids) symbols customs region =
    same-then (prefix_codes_of h numbers ids customs) _ _ (λ s. from-same by_prefix_codes h symbols region s)

result-same : (h : TextHeader) (symbols : List Grid) (customs : List (List Member)) → Same (text_result h symbols customs) (text_result (lenient_text h) symbols customs)
unfolding text_result
result-same h symbols customs = by-same h h.coding symbols customs (blank h.region_info.width h.region_info.height h.flags.default_pixel)

pub text-same : (h : TextHeader) (symbols : List Grid) (customs : List (List Member)) → Same (text_decoded h symbols customs) (text_decoded (lenient_text h) symbols customs)
unfolding text_decoded
text-same h symbols customs =
    same-then (refuse_if (nat_lt 65535 h.region_info.width || nat_lt 65535 h.region_info.height) (Overflow BitmapDimension)) _ _ (λ fits.
    same-next (text_result h symbols customs) (text_result (lenient_text h) symbols customs) _ _ (result-same h symbols customs) (λ grid. refl))
