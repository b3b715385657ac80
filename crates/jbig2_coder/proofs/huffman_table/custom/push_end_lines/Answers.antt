use Rattle.std.proofs.Common.{rules, ◌≡◌, ℤ, pos, [], ◌∷◌, ◌++◌, ap, ◌∙◌, arith}
use Rattle.std.specs.Prelude.{◌-ℤ◌}
use Rattle.std.specs.Int.{w32}
use mir.Val.{SFits}
use Rattle.std.proofs.lemmas.Int.{to_z-of_z}
use Rattle.jbig2_coder.specs.declared.huffman_table.line.TableLine.{TableLine}
use Rattle.jbig2_coder.specs.Tables.{lower, upper}
use Rattle.jbig2_coder.proofs.CustomReading.{ends-none, ends-oob, short-push}
use Rattle.jbig2_coder.proofs.huffman_table.custom.push_end_lines.Goals as goal

pub returns-in_ok-push-3-clause-lines : goal.returns-in_ok-push-3-clause-lines
returns-in_ok-push-3-clause-lines g c =
    let h = c.args.header.now in
    let p = c.args.reader.now in
    let q = c.bits_field.new.reader in
    let r = c.bits_field-2.new.reader in
    let fits_low : SFits w32 h.minimum = search rules in
    let fits_high : SFits w32 h.maximum = search rules in
    let first : c.lower.result ≡ lower c.in_ok-lower.lower (h.minimum -ℤ pos 1) = c.lower.ensures ∙ ap (λ (n : ℤ). lower c.in_ok-lower.lower (n -ℤ pos 1)) (to_z-of_z w32 h.minimum fits_low) in
    let second : c.new.result ≡ upper c.in_ok-upper.upper h.maximum = c.new.ensures ∙ ap (λ (n : ℤ). upper c.in_ok-upper.upper n) (to_z-of_z w32 h.maximum fits_high) in
    let one = c.in_ok-push.ensures.items ∙ ap (λ (x : TableLine). c.args.lines.now.items ++ x ∷ []) first in
    let two = c.in_ok-push-2.ensures.items ∙ ap (λ (x : TableLine). c.push.new.self.items ++ x ∷ []) second in
    let three = c.in_ok-push-3.ensures.items ∙ ap (λ (x : TableLine). c.push-2.new.self.items ++ x ∷ []) c.out_of_band.ensures in
    ends-oob h p q r c.bits_field-then-header.new.reader c.in_ok-lower.lower c.in_ok-upper.upper c.in_ok-out_of_band.out_of_band c.args.lines.now.items c.push.new.self.items c.push-2.new.self.items c.push-then-header.new.self.items
    c.in_ok-lower.ensures.number c.in_ok-lower.ensures.place c.in_ok-upper.ensures.number c.in_ok-upper.ensures.place c.in_ok-out_of_band.ensures.number c.in_ok-out_of_band.ensures.place one two three c.if-header.true

pub returns-in_ok-push-3-clause-short : goal.returns-in_ok-push-3-clause-short
returns-in_ok-push-3-clause-short g c =
    let first = short-push c.args.lines.now.items c.push.new.self.items c.lower.result c.requires.short (omega (arith, ap (λ (x : TableLine). x.range_length) c.lower.ensures)) c.in_ok-push.ensures.items in
    let second = short-push c.push.new.self.items c.push-2.new.self.items c.new.result first (omega (arith, ap (λ (x : TableLine). x.range_length) c.new.ensures)) c.in_ok-push-2.ensures.items in
    short-push c.push-2.new.self.items c.push-then-header.new.self.items c.out_of_band.result second (omega (arith, ap (λ (x : TableLine). x.range_length) c.out_of_band.ensures)) c.in_ok-push-3.ensures.items

pub returns-else-header-clause-lines : goal.returns-else-header-clause-lines
returns-else-header-clause-lines g c =
    let h = c.args.header.now in
    let p = c.args.reader.now in
    let q = c.bits_field.new.reader in
    let r = c.bits_field-2.new.reader in
    let fits_low : SFits w32 h.minimum = search rules in
    let fits_high : SFits w32 h.maximum = search rules in
    let first : c.lower.result ≡ lower c.in_ok-lower.lower (h.minimum -ℤ pos 1) = c.lower.ensures ∙ ap (λ (n : ℤ). lower c.in_ok-lower.lower (n -ℤ pos 1)) (to_z-of_z w32 h.minimum fits_low) in
    let second : c.new.result ≡ upper c.in_ok-upper.upper h.maximum = c.new.ensures ∙ ap (λ (n : ℤ). upper c.in_ok-upper.upper n) (to_z-of_z w32 h.maximum fits_high) in
    let one = c.in_ok-push.ensures.items ∙ ap (λ (x : TableLine). c.args.lines.now.items ++ x ∷ []) first in
    let two = c.in_ok-push-2.ensures.items ∙ ap (λ (x : TableLine). c.push.new.self.items ++ x ∷ []) second in
    ends-none h p q r c.in_ok-lower.lower c.in_ok-upper.upper c.args.lines.now.items c.push.new.self.items c.push-2.new.self.items
    c.in_ok-lower.ensures.number c.in_ok-lower.ensures.place c.in_ok-upper.ensures.number c.in_ok-upper.ensures.place one two c.if-header.false

pub returns-else-header-clause-short : goal.returns-else-header-clause-short
returns-else-header-clause-short g c =
    let first = short-push c.args.lines.now.items c.push.new.self.items c.lower.result c.requires.short (omega (arith, ap (λ (x : TableLine). x.range_length) c.lower.ensures)) c.in_ok-push.ensures.items in
    let second = short-push c.push.new.self.items c.push-2.new.self.items c.new.result first (omega (arith, ap (λ (x : TableLine). x.range_length) c.new.ensures)) c.in_ok-push-2.ensures.items in
    second
