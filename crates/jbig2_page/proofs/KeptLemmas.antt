-- What is looked up among kept values is what is looked up among their views.
use Rattle.std.proofs.Common.{◌≡◌, ℕ, ◌==◌, Bool, true, false, cond, List, [], ◌∷◌, Option, Some, None, refl, sym, ◌∙◌, ap}
use Rattle.std.specs.Borrow.{Bor}
use Rattle.std.specs.Option.{option_map, option_or}
use Rattle.jbig2_page.specs.Names.{first_kept, kept_of}
use Rattle.jbig2_page.specs.inner.KeptViews.{found_value, kept_values}
use Rattle.jbig2_page.specs.declared.kept.Kept.{Kept}

mapped-cond : {X V : Type 0} (view : X → V) (b : Bool) (x : X) (o : Option X) → option_map view (cond b (Some x) o) ≡ cond b (Some (view x)) (option_map view o)
mapped-cond view true x o = refl
mapped-cond view false x o = refl

first_kept-seen : {X V : Type 0} (view : X → V) (number : ℕ) (kept : List (Kept X)) → first_kept number (kept_values view kept) ≡ option_map view (first_kept number kept)
first_kept-seen view number [] = refl
first_kept-seen view number (k ∷ kept) =
    ap (λ (o : Option _). cond (k.segment_number == number) (Some (view k.value)) o) (first_kept-seen view number kept)
    ∙ sym (mapped-cond view (k.segment_number == number) k.value (first_kept number kept))

mapped-else : {X V : Type 0} (view : X → V) (own shared : Option X) → option_map view (option_or own shared) ≡ option_or (option_map view own) (option_map view shared)
mapped-else view None shared = refl
mapped-else view (Some x) shared = refl

found-mapped : {X V : Type 0} (view : X → V) (value : Option (Bor X)) → found_value view value ≡ option_map view (found_value (λ v. v) value)
found-mapped view None = refl
found-mapped view (Some b) = refl

-- A value that was found, by its view.
pub found-named : {X V : Type 0} (view : X → V) (value : Option (Bor X)) (number : ℕ) (own shared : List (Kept X)) (owns shares : List (Kept V))
    → kept_values view own ≡ owns → kept_values view shared ≡ shares → found_value (λ v. v) value ≡ kept_of number own shared → found_value view value ≡ kept_of number owns shares
found-named view value number own shared owns shares is_own is_shared h =
    found-mapped view value
    ∙ ap (λ (o : Option _). option_map view o) h
    ∙ mapped-else view (first_kept number own) (first_kept number shared)
    ∙ ap (λ (o : Option _). option_or o (option_map view (first_kept number shared))) (sym (first_kept-seen view number own))
    ∙ ap (λ (o : Option _). option_or (first_kept number (kept_values view own)) o) (sym (first_kept-seen view number shared))
    ∙ ap (λ (ks : List (Kept _)). option_or (first_kept number ks) (first_kept number (kept_values view shared))) is_own
    ∙ ap (λ (ks : List (Kept _)). option_or (first_kept number owns) (first_kept number ks)) is_shared

-- the same of what is kept in one place
pub found-first : {X V : Type 0} (view : X → V) (value : Option (Bor X)) (number : ℕ) (kept : List (Kept X)) → found_value (λ v. v) value ≡ first_kept number kept → found_value view value ≡ first_kept number (kept_values view kept)
found-first view value number kept h =
    found-mapped view value ∙ ap (λ (o : Option _). option_map view o) h ∙ sym (first_kept-seen view number kept)
