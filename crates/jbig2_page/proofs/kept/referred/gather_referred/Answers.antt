use Rattle.std.proofs.Common.{◌≡◌, ℕ, ◌+◌, ◌<◌, Bool, List, length, drop, get_or, inl, inr, ⊎_elim, sym, ap, ◌∙◌, arith}
use Rattle.std.proofs.lemmas.List.{at_drop_more}
use Rattle.jbig2_base.specs.Results.{◌>>=◌}
use Rattle.jbig2_base.specs.declared.error.DecodeError.TheVariants.{OutOfMemory}
use Rattle.jbig2_page.specs.Names.{Names, ReferredValues, with_number, with_numbers}
use Rattle.jbig2_page.proofs.SegmentCauses.{referred_cause}
use Rattle.jbig2_page.proofs.kept.referred.gather_referred.Goals as goal

numbers-first : (strict : Bool) (own shared : Names) (numbers : List ℕ) (i : ℕ) (r : ReferredValues) → i < length numbers → with_numbers strict own shared (drop i numbers) r ≡ (with_number strict own shared (get_or numbers i 0) r >>= λ more. with_numbers strict own shared (drop (i + 1) numbers) more)
numbers-first strict own shared numbers i r inside = at_drop_more (λ left. with_numbers strict own shared left r) numbers i 0 inside

pub loop-number-preserved : goal.loop-number-preserved
loop-number-preserved g c =
    let i = c.loop-number.number-index in
    record {
      same =
          sym
          (numbers-first c.args.lookup.now.strict c.args.lookup.now.own.now c.args.lookup.now.globals.now c.args.numbers.now i c.loop-number.referred (omega arith)
          ∙ ap (λ added. added >>= λ more. with_numbers c.args.lookup.now.strict c.args.lookup.now.own.now c.args.lookup.now.globals.now (drop (i + 1) c.args.numbers.now) more) c.in-Ok.ensures.value)
          ∙ c.loop-number.invariant.same;
      taken = omega (arith, c.in-Ok.ensures.taken, c.loop-number.invariant.taken);
    }

pub returns-in-Err-clause-value : goal.returns-in-Err-clause-value
returns-in-Err-clause-value g c =
    let i = c.loop-number.number-index in
    ⊎_elim
    (λ (memory : c.in-Err.error ≡ OutOfMemory). inl memory)
    (λ refused.
    inr
    (sym c.loop-number.invariant.same
    ∙ numbers-first c.args.lookup.now.strict c.args.lookup.now.own.now c.args.lookup.now.globals.now c.args.numbers.now i c.loop-number.referred (omega arith)
    ∙ ap (λ added. added >>= λ more. with_numbers c.args.lookup.now.strict c.args.lookup.now.own.now c.args.lookup.now.globals.now (drop (i + 1) c.args.numbers.now) more) refused))
    c.in-Err.ensures.value

pub returns-in-Err-clause-causes : goal.returns-in-Err-clause-causes
returns-in-Err-clause-causes g c = referred_cause c.args.lookup.now.strict c.args.lookup.now.own.now c.args.lookup.now.globals.now c.args.numbers.now _ (returns-in-Err-clause-value g c)
