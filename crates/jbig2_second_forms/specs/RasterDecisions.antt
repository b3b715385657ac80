-- Regions that are coded pixel by pixel (T.88, 6.2.5 and 6.3.5) as functions of their decisions, without a coder: what
-- the decisions so far make of a region, and in which context the next one is asked. The law: the coder's answers, if
-- it is asked in these contexts one after the other, make the region that `Raster` decodes.
use Rattle.std.specs.Prelude.{◌≡◌, ℕ, zero, suc, ◌*◌, ◌/◌, ◌%◌, ◌==◌, Bool, false, if◌then◌else◌, List, [], ◌∷◌, ◌++◌}
use Rattle.std.specs.Prelude.{length, slice_index_or, slice_set, Option, Some, None}
use Rattle.jbig2_base.specs.Grid.{differ}
use Rattle.jbig2_coder.specs.Coder.{Context, Registers, decision, fresh}
use Rattle.jbig2_region.specs.Raster.{Coding, decoded_region, no_pixels, so_far}

-- the pixels so far, whether their last row is predicted (LTP), and the contexts of the decisions so far
pub record Seen : Type 0 where
  pub pixels : List Bool
  pub predicted : Bool
  pub asked : List ℕ

-- a region of w columns and h rows, with the decisions by their numbers
module _ (coding : Coding) (w h : ℕ) (decisions : ℕ → Bool) where
  -- With typical prediction a row begins with a decision, which says whether LTP changes (6.2.5.7).
  abbrev pub with_ltp : Option ℕ → Seen → Seen
  with_ltp None s = s
  with_ltp (Some k) s = record s {
    predicted = differ (decisions (length s.asked)) s.predicted;
    asked = s.asked ++ k ∷ [];
  }

  abbrev pub at_row : ℕ → Seen → Seen  -- before pixel n
  at_row n s = if n % w == 0 then with_ltp coding.row_context s else s

  -- a pixel has its known colour, or else that of the next decision, in the context k
  abbrev pub with_colour : ℕ → Option Bool → Seen → Seen
  with_colour k (Some colour) s = record s { pixels = s.pixels ++ colour ∷ [] }
  with_colour k None s = record s {
    pixels = s.pixels ++ decisions (length s.asked) ∷ [];
    asked = s.asked ++ k ∷ [];
  }

  -- pixel n, whose context and known colour the pixels before it give
  abbrev pub with_decided_pixel : ℕ → Seen → Seen
  with_decided_pixel n s =
      let g = so_far w h s.pixels in
      with_colour (coding.context g (n % w) (n / w)) (coding.known s.predicted g (n % w) (n / w)) s

  unfoldable pub seen_after : ℕ → Seen  -- after the first n pixels of the raster
  seen_after zero = record { pixels = []; predicted = false; asked = [] }
  seen_after (suc n) = with_decided_pixel n (at_row n (seen_after n))

-- what the coder over these bytes answers, if it is asked in these contexts
abbrev pub answers : List ℕ → Registers → List Context → List ℕ → List Bool
answers bytes registers contexts [] = []
answers bytes registers contexts (k ∷ asked) =
    let d = decision bytes registers (slice_index_or contexts k fresh) in
    d.symbol ∷ answers bytes d.registers (slice_set contexts k d.context) asked

abbrev pub decision_in : List Bool → ℕ → Bool
decision_in decisions k = slice_index_or decisions k false

-- There are decisions which make the region, and which are the coder's answers in just the contexts that they ask for.
pub record IsOfDecisions (coding : Coding) (w h : ℕ) (bytes : List ℕ) (registers : Registers)
    (contexts : List Context) : Type 0 where
  pub decisions : List Bool
  pub answered :
      answers bytes registers contexts (seen_after coding w h (decision_in decisions) (w * h)).asked ≡ decisions
  pub pixels : (decoded_region coding w h bytes (no_pixels registers contexts)).pixels
      ≡ (seen_after coding w h (decision_in decisions) (w * h)).pixels

abbrev pub RegionsAreOfDecisions : Type 0
RegionsAreOfDecisions = (coding : Coding) (w h : ℕ) (bytes : List ℕ) (registers : Registers) (contexts : List Context)
    → IsOfDecisions coding w h bytes registers contexts
