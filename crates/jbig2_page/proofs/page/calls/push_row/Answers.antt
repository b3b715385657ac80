use Rattle.std.proofs.Common.{◌+◌, ◌-◌, ◌*◌, take, drop, List, [], ◌∷◌, Result, Ok, Err, refl, arith}
use Rattle.jbig2_base.specs.declared.error.DecodeError.{DecodeError}
use Rattle.jbig2_page.specs.Calls.{Call, Chunk, Line, row_of_grid, singles, Conduct, Sends, TakesCall}
use Rattle.jbig2_page.proofs.Runs.{left_calls, left-byte, left-last, left-run, left-start}
use Rattle.jbig2_page.proofs.Sending.{Half, goes_on, half_as, half_done, half_none, one_stops, stops_at}
use Rattle.jbig2_page.proofs.page.calls.push_row.Goals as goal

pub loop-x-init : goal.loop-x-init
loop-x-init g c = record {
  within = omega arith;
  sent = half_as _ _ _ _ _ _ (left-start c.args.bitmap.now c.args.y) (half_none _ _ _);
  steps = omega arith;
}

pub returns-in-Err-clause-calls : goal.returns-in-Err-clause-calls
returns-in-Err-clause-calls g c =
    stops_at g.D.Decoder.conduct (left_calls c.args.bitmap.now c.args.y (c.loop-x.x + 8 * c.in-Some.count)) (left-run c.args.bitmap.now c.args.y c.loop-x.x c.in-Some.count c.in-Some.black (omega arith) c.in-Some.ensures.run.0 c.in-Some.ensures.run.1)
    c.loop-x.invariant.sent (one_stops g.D.Decoder.conduct (Chunk c.in-Some.black c.in-Some.count) c.in-Err.error c.loop-x.decoder c.push_pixel_chunk.new.self c.in-Err.ensures)

pub overflow_mul-x : goal.overflow_mul-x
overflow_mul-x g c = omega (arith, c.in-Some.ensures.run.2)

pub overflow_add-x : goal.overflow_add-x
overflow_add-x g c = omega (arith, c.in-Some.ensures.run.2)

pub loop-x-preserved-in-Some : goal.loop-x-preserved-in-Some
loop-x-preserved-in-Some g c = record {
  within = omega (arith, c.in-Some.ensures.run.2);
  sent =
      goes_on g.D.Decoder.conduct (Chunk c.in-Some.black c.in-Some.count ∷ []) (left-run c.args.bitmap.now c.args.y c.loop-x.x c.in-Some.count c.in-Some.black (omega arith) c.in-Some.ensures.run.0 c.in-Some.ensures.run.1)
      c.loop-x.invariant.sent c.in-Ok.ensures;
  steps = omega (arith, c.loop-x.invariant.steps, c.in-Some.ensures.steps, c.in-Some.ensures.run.1);
}

pub returns-in-Err-push_pixels-clause-calls : goal.returns-in-Err-push_pixels-clause-calls
returns-in-Err-push_pixels-clause-calls g c =
    stops_at g.D.Decoder.conduct (left_calls c.args.bitmap.now c.args.y (c.loop-x.x + 8)) (left-byte c.args.bitmap.now c.args.y c.loop-x.x (omega arith) c.in_default.ensures.run.0 c.in_default.ensures.run.1)
    c.loop-x.invariant.sent c.in-Err-push_pixels.ensures.calls

pub loop-x-preserved : goal.loop-x-preserved
loop-x-preserved g c = record {
  within = omega arith;
  sent =
      goes_on g.D.Decoder.conduct (singles (take (c.loop-x.x + 8 - c.loop-x.x) (drop c.loop-x.x (row_of_grid c.args.bitmap.now c.args.y)))) (left-byte c.args.bitmap.now c.args.y c.loop-x.x (omega arith) c.in_default.ensures.run.0 c.in_default.ensures.run.1)
      c.loop-x.invariant.sent c.in-Ok-push_pixels.ensures.calls;
  steps = omega (arith, c.loop-x.invariant.steps, c.in_default.ensures.steps, c.in-Ok-push_pixels.ensures.steps);
}

pub returns-in-Err-push_pixels-2-clause-calls : goal.returns-in-Err-push_pixels-2-clause-calls
returns-in-Err-push_pixels-2-clause-calls g c =
    stops_at g.D.Decoder.conduct (Line ∷ []) (left-last c.args.bitmap.now c.args.y c.loop-x.x c.width-width.result c.width-width.ensures.value (omega arith))
    c.loop-x.invariant.sent c.in-Err-push_pixels-2.ensures.calls

-- the last call, taken or refused
last_call : {S : Type 0} (d : Conduct S) (all : List Call) (call : Call) (r : Result (Unit {0}) DecodeError) (old mid new : S) → Half d all (call ∷ []) old mid → TakesCall d call r mid new → Sends d all r old new
last_call d all call (Ok u) old mid new h taken = half_done d all old new (goes_on d (call ∷ []) refl h taken)
last_call d all call (Err e) old mid new h refused = stops_at d [] refl h (one_stops d call e mid new refused)

pub returns-clause-calls : goal.returns-clause-calls
returns-clause-calls g c =
    last_call g.D.Decoder.conduct _ Line c.next_line.result _ _ _
    (goes_on g.D.Decoder.conduct (singles (take (c.width-width.result - c.loop-x.x) (drop c.loop-x.x (row_of_grid c.args.bitmap.now c.args.y)))) (left-last c.args.bitmap.now c.args.y c.loop-x.x c.width-width.result c.width-width.ensures.value (omega arith)) c.loop-x.invariant.sent c.in-Ok-push_pixels-2.ensures.calls)
    c.next_line.ensures
