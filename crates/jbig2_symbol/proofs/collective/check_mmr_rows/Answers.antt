use Rattle.std.proofs.Common.{◌<◌, ◌/◌, ◌+◌, inl, inr, false, arith, sym, ◌∙◌}
use Rattle.std.proofs.lemmas.Bool.{ltb-false, ltb-true}
use Rattle.jbig2_base.specs.Grid.{blank}
use Rattle.jbig2_symbol.proofs.TallClasses.{mmr-passed, mmr-refused}
use Rattle.jbig2_symbol.proofs.collective.check_mmr_rows.Goals as goal
use Rattle.jbig2_symbol.proofs.collective.check_mmr_rows.Goals.{then-strict, else-strict, else-is_checked-via-then-is_checked+else-div_ceil-size, else-is_checked-via-else-is_checked}

pub returns-then-is_checked-2-clause-value : goal.returns-then-is_checked-2-clause-value
returns-then-is_checked-2-clause-value g c =
    elim c.if-strict.branch [
      | then-strict w ↦
          let wide = ltb-true 0 c.args.sides.width (sym w.is_checked-is ∙ c.if-is_checked-2.true) in
          elim c.else-is_checked.branch [
            | else-is_checked-via-then-is_checked+else-div_ceil-size v ↦
                let short : c.args.size < (c.args.sides.height + 7) / 8 = omega arith in
                rw c.into.ensures (inr (mmr-refused c.args.strict c.args.size c.args.sides.width c.args.sides.height c.args.reader.now.bytes c.in_ok-bytes_field.field-0.now c.bytes_field.new.reader.bytes (blank c.args.sides.width c.args.sides.height false) w.if-strict.true wide short c.in_ok-bytes_field.ensures.parses.value c.in_ok-check_pixels.ensures))
            | else-is_checked-via-else-is_checked v ↦ absurd (let t = c.if-is_checked-2.true in let f = v.if-is_checked.false in cc)
          ]
      | else-strict w ↦ absurd (let t = c.if-is_checked-2.true in let f = w.is_checked-is in cc)
    ]

pub returns-clause-value : goal.returns-clause-value
returns-clause-value g c =
    mmr-passed c.args.strict c.args.size c.args.sides.width c.args.sides.height c.args.reader.now.bytes c.in_ok-bytes_field.field-0.now c.bytes_field.new.reader.bytes (blank c.args.sides.width c.args.sides.height false)
    (elim c.if-strict.branch [
      | then-strict w ↦ let thin = ltb-false 0 c.args.sides.width (sym w.is_checked-is ∙ c.if-is_checked-2.false) in inr (omega arith)
      | else-strict w ↦ inl w.if-strict.false
    ])
    c.in_ok-bytes_field.ensures.parses.value
    c.in_ok-check_pixels.ensures
