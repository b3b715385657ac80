-- Bytes that are put one after the other.
use Rattle.std.proofs.Common.{◌≡◌, ℕ, ◌+◌, ◌<◌, ◌≤◌, List, length, get_or, set, refl, ap, sym, subst, ◌∙◌, ⊎_elim, arith}
use Rattle.std.proofs.lemmas.Bool.{cases_lt}
use Rattle.std.proofs.lemmas.List.{get_or-set_same, get_or-set_other, length-set}
use Rattle.jbig2_page.specs.inner.BufferBytes.{Fills}

pub puts-none : (byte : ℕ → ℕ) (place count : ℕ) (buf : List ℕ) → count ≡ 0 → Fills byte place count buf buf
puts-none byte place count buf none = record {
  sized = refl;
  before = λ k early. refl;
  bytes = λ i below. absurd (omega (arith, below, none));
}

pub puts-next : (byte : ℕ → ℕ) (place i : ℕ) (old buf : List ℕ) (value : ℕ) → place + i < length buf → value ≡ byte i → Fills byte place i old buf → Fills byte place (i + 1) old (set buf (place + i) value)
puts-next byte place i old buf value inside is kept =
    let at : ℕ = place + i in
    record {
      sized = length-set buf at value ∙ kept.sized;
      before = λ k early. get_or-set_other buf at k value 0 (λ e. omega (arith, e, early)) ∙ kept.before k early;
      bytes = λ j below.
          ⊎_elim
          (λ (early : j < i). get_or-set_other buf at (place + j) value 0 (λ e. omega (arith, e, early)) ∙ kept.bytes j early)
          (λ (late : i ≤ j).
          let same : j ≡ i = omega (arith, late, below) in
          ap (λ (n : ℕ). get_or (set buf at value) (place + n) 0) same ∙ get_or-set_same buf at value 0 inside ∙ is ∙ ap byte (sym same))
          (cases_lt j i);
    }

pub puts-all : (byte : ℕ → ℕ) (place i count : ℕ) (old new : List ℕ) → i ≡ count → Fills byte place i old new → Fills byte place count old new
puts-all byte place i count old new all put = subst (λ (n : ℕ). Fills byte place n old new) all put
