-- The parts that are written are a page or a file, and both read back.
use Rattle.std.proofs.Common.{◌≡◌, ℕ, zero, suc, ◌+◌, ◌*◌, ◌<◌, ◌≤◌, eqb, Bool, true, false, ◌&&◌, cond, nat_le, List, [], ◌++◌, length, Option, Some, None, Result, Ok, Err, MatchResult, IsErrAnd, IfOk, refl, sym, ◌∙◌, ap, subst, arith, append-nil, append_assoc, length-append, ne_eqb, ⊎_elim}
use Rattle.std.specs.List.{flat_map}
use Rattle.std.proofs.lemmas.Bool.{and_parts, cases_Bool, cond-false}
use Rattle.std.proofs.lemmas.Bool.Decides.{nat_tests}
use Rattle.jbig2_base.specs.Results.{◌>>=◌}
use Rattle.jbig2_base.specs.declared.error.DecodeError.{DecodeError}
use Rattle.jbig2_base.specs.Bits.{nonzero}
use Rattle.jbig2_base.specs.Grid.{Grid, IsTable, max_side, pixel_at}
use Rattle.jbig2_coder.specs.Encoder.{encoded_bytes}
use Rattle.jbig2_region.specs.Generic.{generic_coding}
use Rattle.jbig2_region.specs.Templates.{nominal_adaptive_pixels, takes_extended, adaptive_pixel_count}
use Rattle.jbig2_region.specs.declared.template.Template.{Template}
use Rattle.jbig2_region.specs.declared.template.Template.TheVariants.{Template0, Template1, Template2, Template3}
use Rattle.jbig2_inverses.specs.MmrWriter.{mmr_bytes}
use Rattle.jbig2_inverses.specs.FileWriter.{file_header_bytes}
use Rattle.jbig2_inverses.specs.GenericSegmentWriter.{AreAdaptive, adaptive_bytes, generic_bytes, info_bytes}
use Rattle.jbig2_inverses.specs.RegionWriter.{entries_before, generic_entries, is_typical}
use Rattle.jbig2_inverses.specs.SegmentWriter.{IsResolution, information_bytes, number_or_0, segment_bytes}
use Rattle.jbig2_page.specs.Files.{book_at}
use Rattle.jbig2_page.specs.Page.{IsSide, page_from}
use Rattle.jbig2_page_inverse.specs.PageFile.{file_header, page_file}
use Rattle.jbig2_page_inverse.specs.PageWriter.{IsChoice, coded_bytes, page_bytes, region_of_bytes}
use Rattle.jbig2_page_inverse.proofs.PageFileInverse.{page_files_read_back}
use Rattle.jbig2_page_inverse.proofs.PageInverse.{by-coder-short, by-mmr-short, pages_read_back}
use Rattle.jbig2_writer.specs.declared.settings.Container.{Container}
use Rattle.jbig2_writer.specs.declared.settings.Container.TheVariants.{EmbeddedPage, File}
use Rattle.jbig2_writer.specs.declared.settings.ArithmeticCoding.{ArithmeticCoding}
use Rattle.jbig2_writer.specs.declared.settings.RegionCoding.{RegionCoding}
use Rattle.jbig2_writer.specs.declared.settings.RegionCoding.TheVariants.{Arithmetic, Mmr}
use Rattle.jbig2_writer.specs.declared.settings.WriteSettings.{WriteSettings}
use Rattle.jbig2_writer.specs.inner.Rows.{decisions_of_rows}
use Rattle.jbig2_writer.specs.inner.Segments.{FitsResolution, file_of, information_of, page_information, region_data, segment_of, container_bytes, segments_of}
use Rattle.jbig2_writer.specs.Written.{IsReadIn, ReadsBack, adaptive_of, bytes_in, check_size, choice_of, choice_with, is_mmr, is_side, stated, template_of}
use Rattle.jbig2_writer.specs.declared.error.WriteError.{WriteError}
use Rattle.jbig2_writer.specs.declared.error.WriteError.TheVariants.{InvalidSides}
use Rattle.jbig2_writer.proofs.EntryLemmas.{rows-are}

-- ---- the coded bytes
entries-are : (a : ArithmeticCoding) (x y : Option ℕ) (g : Grid) → 0 < g.width
    → decisions_of_rows a g g.height ≡ generic_entries (region_of_bytes (choice_with (Arithmetic a) x y) g.width g.height (pixel_at g) false []) (pixel_at g)
unfolding generic_entries
entries-are a x y g wide =
    let header = region_of_bytes (choice_with (Arithmetic a) x y) g.width g.height (pixel_at g) false [] in
    let turned : g.height * g.width ≡ g.width * g.height = omega arith in
    rows-are a g g.height wide
    ∙ ap (λ (n : ℕ). entries_before (generic_coding header) g.width g.height (pixel_at g) (is_typical a.typical g.width (pixel_at g)) 0 n) turned

arithmetic-coded : (a : ArithmeticCoding) (x y : Option ℕ) (g : Grid) → 1 ≤ g.width → encoded_bytes (decisions_of_rows a g g.height) ≡ coded_bytes (choice_with (Arithmetic a) x y) g.width g.height (pixel_at g)
unfolding coded_bytes
arithmetic-coded a x y g some = ap encoded_bytes (entries-are a x y g (omega (arith, some)))

mmr-coded : (x y : Option ℕ) (g : Grid) → mmr_bytes true g.width g.height (pixel_at g) ≡ coded_bytes (choice_with Mmr x y) g.width g.height (pixel_at g)
unfolding coded_bytes
mmr-coded x y g = refl

-- the bytes that are coded by these settings
abbrev coded_with : (s : WriteSettings) (g : Grid) → RegionCoding → List ℕ
coded_with s g coding = coded_bytes (choice_with coding (stated s.x_resolution) (stated s.y_resolution)) g.width g.height (pixel_at g)

pub coded-by-arithmetic : (s : WriteSettings) (a : ArithmeticCoding) (g : Grid) → s.coding ≡ Arithmetic a → 1 ≤ g.width → encoded_bytes (decisions_of_rows a g g.height) ≡ coded_bytes (choice_of s) g.width g.height (pixel_at g)
coded-by-arithmetic s a g is some = arithmetic-coded a (stated s.x_resolution) (stated s.y_resolution) g some ∙ ap (coded_with s g) (sym is)

pub coded-by-mmr : (s : WriteSettings) (g : Grid) → s.coding ≡ Mmr → mmr_bytes true g.width g.height (pixel_at g) ≡ coded_bytes (choice_of s) g.width g.height (pixel_at g)
coded-by-mmr s g is = mmr-coded (stated s.x_resolution) (stated s.y_resolution) g ∙ ap (coded_with s g) (sym is)

-- what the encoder gives, with its error changed
pub mapped-bytes : {X D : Type 0} (view : X → List ℕ) (r : Result X DecodeError) (m : Result X D) (post : DecodeError → D → Type 0) (made meant : List ℕ) → IfOk r (λ x. view x ≡ made) → made ≡ meant
    → MatchResult r (λ x. m ≡ Ok x) (λ e. IsErrAnd m (post e)) → IfOk m (λ x. view x ≡ meant)
mapped-bytes {X = X} {D = D} view (Ok x) m post made meant given is same =
    let P : Result X D → Type 0 = λ q. IfOk q (λ y. view y ≡ meant) in
    subst P (sym same) (given ∙ is)
mapped-bytes view (Err e) (Ok x) post made meant given is same = absurd same
mapped-bytes view (Err e) (Err d) post made meant given is same = tt

-- ---- their length
length-nominal : (template : Template) → length (flat_map adaptive_bytes (nominal_adaptive_pixels template)) ≤ 8
length-nominal Template0 = omega arith
length-nominal Template1 = omega arith
length-nominal Template2 = omega arith
length-nominal Template3 = omega arith

length-adaptive : (coding : RegionCoding) → length (flat_map adaptive_bytes (adaptive_of coding)) ≤ 8
length-adaptive (Arithmetic a) = length-nominal a.template
length-adaptive Mmr = omega arith

length-data : (s : WriteSettings) (w h : ℕ) (coded : List ℕ) → length (region_data s w h coded) ≡ 18 + length (flat_map adaptive_bytes (adaptive_of s.coding) ++ coded)
unfolding generic_bytes info_bytes
length-data s w h coded = omega arith

pub region-short : (s : WriteSettings) (w h : ℕ) (none bytes coded slice : List ℕ) → none ≡ [] → bytes ≡ none ++ region_data s w h coded → length coded + 26 < 4294967296 → slice ≡ bytes → length slice < 4294967296
region-short s w h none bytes coded slice empty is short same =
    let all : slice ≡ region_data s w h coded = same ∙ is ∙ ap (λ (l : List ℕ). l ++ region_data s w h coded) empty in
    let size = length-data s w h coded in
    let parts = length-append (flat_map adaptive_bytes (adaptive_of s.coding)) coded in
    omega (arith, ap length all, size, parts, length-adaptive s.coding, short)

pub information-short : (none bytes slice : List ℕ) (w h x y : ℕ) → none ≡ [] → bytes ≡ none ++ page_information w h x y → slice ≡ bytes → length slice < 4294967296
unfolding page_information
information-short none bytes slice w h x y empty is same =
    let all : slice ≡ page_information w h x y = same ∙ is ∙ ap (λ (l : List ℕ). l ++ page_information w h x y) empty in
    let size : length (page_information w h x y) ≡ 19 = refl in
    omega (arith, ap length all, size)

-- ---- the size
pub record IsAllowed (w h : ℕ) : Type 0 where
  pub columns : IsSide w
  pub rows : IsSide h

side-is : (n : ℕ) → is_side n ≡ true → IsSide n
side-is n e = let both = and_parts (nat_le 1 n) (nat_le n max_side) e in (grind (arith, nat_tests), grind (arith, nat_tests))

allowed-by : (good : Bool) (unit : Unit {0}) → cond good (Ok tt) (Err InvalidSides) ≡ Ok unit → good ≡ true
allowed-by true unit e = refl
allowed-by false unit e = absurd (cc)

pub allowed : (w h : ℕ) (r : Result (Unit {0}) WriteError) (unit : Unit {0}) → r ≡ check_size w h → r ≡ Ok unit → IsAllowed w h
allowed w h r unit is e =
    let sides = and_parts (is_side w) (is_side h) (allowed-by (is_side w && is_side h) unit (sym is ∙ e)) in
    record { columns = side-is w sides.0; rows = side-is h sides.1 }

-- ---- the page
number-back : (n : ℕ) → number_or_0 (nonzero n) ≡ n
number-back zero = refl
number-back (suc n) = ap number_or_0 (cond-false (eqb (suc n) 0) None (Some (suc n)) (ne_eqb (suc n) 0 (λ e. omega (arith, e))))

-- page information with these numbers, and the region
abbrev pub parts_of : WriteSettings → ℕ → ℕ → ℕ → ℕ → List ℕ → List ℕ → List ℕ
parts_of s w h x y coded rest =
    segment_of 0 48 1 (page_information w h x y) ++ (segment_of 1 38 1 (region_data s w h coded) ++ rest)

page-is : (s : WriteSettings) (w h : ℕ) (pixels : ℕ → ℕ → Bool)
    → page_bytes (choice_of s) w h pixels ≡ parts_of s w h (number_or_0 s.x_resolution) (number_or_0 s.y_resolution) (coded_bytes (choice_of s) w h pixels) []
unfolding page_bytes segment_bytes segment_of information_bytes page_information generic_bytes
page-is s w h pixels =
    λ i. parts_of s w h (number-back (number_or_0 s.x_resolution) i) (number-back (number_or_0 s.y_resolution) i) (coded_bytes (choice_of s) w h pixels) []

file-is : (s : WriteSettings) (w h : ℕ) (pixels : ℕ → ℕ → Bool)
    → page_file (choice_of s) w h pixels ≡ file_header_bytes (file_header false) ++ parts_of s w h (number_or_0 s.x_resolution) (number_or_0 s.y_resolution) (coded_bytes (choice_of s) w h pixels) (segment_of 2 49 1 [] ++ (segment_of 3 51 0 [] ++ []))
unfolding page_file segment_bytes segment_of information_bytes page_information generic_bytes
file-is s w h pixels =
    λ i. file_header_bytes (file_header false) ++ parts_of s w h (number-back (number_or_0 s.x_resolution) i) (number-back (number_or_0 s.y_resolution) i) (coded_bytes (choice_of s) w h pixels) (segment_of 2 49 1 [] ++ (segment_of 3 51 0 [] ++ []))

-- the two segments, one after the other
pub segments-added : (s : WriteSettings) (w h x y : ℕ) (old mid end no_information information first no_region region second coded : List ℕ) → x ≡ number_or_0 s.x_resolution → y ≡ number_or_0 s.y_resolution → no_information ≡ [] → no_region ≡ []
    → information ≡ no_information ++ page_information w h x y → first ≡ information → region ≡ no_region ++ region_data s w h coded → second ≡ region
    → mid ≡ old ++ segment_of 0 48 1 first → end ≡ mid ++ segment_of 1 38 1 second → end ≡ old ++ segments_of s w h coded
segments-added s w h x y old mid end no_information information first no_region region second coded is_x is_y no_i no_r is_i is_first is_r is_second is_mid is_end =
    let one : first ≡ information_of s w h = is_first ∙ is_i ∙ ap (λ (l : List ℕ). l ++ page_information w h x y) no_i ∙ (λ i. page_information w h (is_x i) (is_y i)) in
    let two : second ≡ region_data s w h coded = is_second ∙ is_r ∙ ap (λ (l : List ℕ). l ++ region_data s w h coded) no_r in
    is_end ∙ ap (λ (l : List ℕ). l ++ segment_of 1 38 1 second) is_mid
    ∙ append_assoc old (segment_of 0 48 1 first) (segment_of 1 38 1 second)
    ∙ ap (λ (l : List ℕ). old ++ (segment_of 0 48 1 l ++ segment_of 1 38 1 second)) one
    ∙ ap (λ (l : List ℕ). old ++ (segment_of 0 48 1 (information_of s w h) ++ segment_of 1 38 1 l)) two

-- a file, part by part
pub file-added : (s : WriteSettings) (w h : ℕ) (start front mid body end coded : List ℕ) → front ≡ start ++ file_header_bytes (file_header false) → mid ≡ front ++ segments_of s w h coded → body ≡ mid ++ segment_of 2 49 1 []
    → end ≡ body ++ segment_of 3 51 0 [] → end ≡ start ++ file_of s w h coded
file-added s w h start front mid body end coded is_front is_mid is_body is_end =
    let header : List ℕ = file_header_bytes (file_header false) in
    let segments : List ℕ = segments_of s w h coded in
    let page_end : List ℕ = segment_of 2 49 1 [] in
    let file_end : List ℕ = segment_of 3 51 0 [] in
    is_end ∙ ap (λ (l : List ℕ). l ++ file_end) (is_body ∙ ap (λ (l : List ℕ). l ++ page_end) (is_mid ∙ ap (λ (l : List ℕ). l ++ segments) is_front))
    ∙ append_assoc ((start ++ header) ++ segments) page_end file_end
    ∙ append_assoc (start ++ header) segments (page_end ++ file_end)
    ∙ append_assoc start header (segments ++ (page_end ++ file_end))

-- the coded bytes, and the size of the bitmap
coded-parts : (s : WriteSettings) (g : Grid) (w h : ℕ) (made : ℕ → ℕ → List ℕ → List ℕ) (coded slice : List ℕ) → w ≡ g.width → h ≡ g.height → slice ≡ coded → coded ≡ coded_bytes (choice_of s) g.width g.height (pixel_at g)
    → made w h slice ≡ made g.width g.height (coded_bytes (choice_of s) g.width g.height (pixel_at g))
coded-parts s g w h made coded slice is_w is_h is_slice is_coded = λ i. made (is_w i) (is_h i) ((is_slice ∙ is_coded) i)

-- they are the page or the file
pub page-made : (s : WriteSettings) (g : Grid) (w h : ℕ) (bytes coded slice : List ℕ) → w ≡ g.width → h ≡ g.height → bytes ≡ container_bytes s.container s w h slice → slice ≡ coded → coded ≡ coded_bytes (choice_of s) g.width g.height (pixel_at g)
    → bytes ≡ bytes_in s.container (choice_of s) g.width g.height (pixel_at g)
page-made s g w h bytes coded slice is_w is_h is_bytes is_slice is_coded =
    is_bytes ∙ coded-parts s g w h (container_bytes s.container s) coded slice is_w is_h is_slice is_coded ∙ in_container s.container
  where
    in_container : (container : Container) → container_bytes container s g.width g.height (coded_bytes (choice_of s) g.width g.height (pixel_at g)) ≡ bytes_in container (choice_of s) g.width g.height (pixel_at g)
    in_container EmbeddedPage =
        ap (λ (l : List ℕ). segment_of 0 48 1 (information_of s g.width g.height) ++ l) (sym (append-nil (segment_of 1 38 1 (region_data s g.width g.height (coded_bytes (choice_of s) g.width g.height (pixel_at g))))))
        ∙ sym (page-is s g.width g.height (pixel_at g))
    in_container File =
        let header : List ℕ = file_header_bytes (file_header false) in
        let one : List ℕ = segment_of 0 48 1 (information_of s g.width g.height) in
        let two : List ℕ = segment_of 1 38 1 (region_data s g.width g.height (coded_bytes (choice_of s) g.width g.height (pixel_at g))) in
        ap (λ (l : List ℕ). header ++ l) (append_assoc one two (segment_of 2 49 1 [] ++ segment_of 3 51 0 []))
        ∙ ap (λ (l : List ℕ). header ++ (one ++ (two ++ (segment_of 2 49 1 [] ++ l)))) (sym (append-nil (segment_of 3 51 0 [])))
        ∙ sym (file-is s g.width g.height (pixel_at g))

pub coded-fits : (s : WriteSettings) (g : Grid) (w h : ℕ) (coded slice : List ℕ) → w ≡ g.width → h ≡ g.height → IsAllowed w h → slice ≡ coded → coded ≡ coded_bytes (choice_of s) g.width g.height (pixel_at g) → length slice + 26 < 4294967296
coded-fits s g w h coded slice is_w is_h is is_slice is_coded =
    let columns : g.width ≤ max_side = subst (λ (n : ℕ). n ≤ max_side) is_w is.columns.1 in
    let rows : g.height ≤ max_side = subst (λ (n : ℕ). n ≤ max_side) is_h is.rows.1 in
    let size = ap length (is_slice ∙ is_coded) in
    ⊎_elim
    (λ (e : is_mmr s.coding ≡ true). let short = by-mmr-short (choice_of s) g.width g.height (pixel_at g) e columns rows in omega (arith, size, short))
    (λ (e : is_mmr s.coding ≡ false). let short = by-coder-short (choice_of s) g.width g.height (pixel_at g) e columns rows in omega (arith, size, short))
    (cases_Bool (is_mmr s.coding))

-- what is written for a bitmap of an allowed size
pub given : (s : WriteSettings) (g : Grid) (w h : ℕ) (meant bytes : List ℕ) (r : Result (Unit {0}) WriteError) (unit : Unit {0}) → w ≡ g.width → h ≡ g.height → r ≡ check_size w h → r ≡ Ok unit → bytes ≡ meant
    → (check_size g.width g.height >>= λ _. Ok meant) ≡ Ok bytes
given s g w h meant bytes r unit is_w is_h is_r ok made =
    let next : Result (Unit {0}) WriteError → Result (List ℕ) WriteError = λ q. q >>= λ _. Ok meant in
    ap next (ap (λ (n : ℕ). check_size n g.height) (sym is_w) ∙ ap (λ (n : ℕ). check_size w n) (sym is_h) ∙ sym is_r ∙ ok)
    ∙ ap (λ (l : List ℕ). Ok l) (sym made)

-- ---- it reads back
resolution-is : (n : ℕ) → n < 4294967296 → IsResolution (nonzero n)
resolution-is zero small = tt
resolution-is (suc n) small =
    subst IsResolution (sym (cond-false (eqb (suc n) 0) None (Some (suc n)) (ne_eqb (suc n) 0 (λ e. omega (arith, e))))) (omega arith, omega (arith, small))

choice-is : (s : WriteSettings) → FitsResolution s → IsChoice (choice_of s)
choice-is s fits = record {
  template = tt;
  extended = extended s.coding;
  count = count s.coding;
  pixels = pixels s.coding;
  x_resolution = resolution-is (number_or_0 s.x_resolution) (omega (arith, fits.0));
  y_resolution = resolution-is (number_or_0 s.y_resolution) (omega (arith, fits.1));
}
  where
    extended : (coding : RegionCoding) → takes_extended (is_mmr coding) false (template_of coding) ≡ false
    extended (Arithmetic a) = refl
    extended Mmr = refl

    nominal-count : (t : Template) → length (nominal_adaptive_pixels t) ≡ adaptive_pixel_count false false t
    nominal-count Template0 = refl
    nominal-count Template1 = refl
    nominal-count Template2 = refl
    nominal-count Template3 = refl

    count : (coding : RegionCoding) → length (adaptive_of coding) ≡ adaptive_pixel_count (is_mmr coding) false (template_of coding)
    count (Arithmetic a) = nominal-count a.template
    count Mmr = refl

    nominal-pixels : (t : Template) → AreAdaptive (nominal_adaptive_pixels t)
    nominal-pixels Template0 = (refl, omega arith, omega arith, (refl, omega arith, omega arith, (refl, omega arith, omega arith, (refl, omega arith, omega arith, tt))))
    nominal-pixels Template1 = (refl, omega arith, omega arith, tt)
    nominal-pixels Template2 = (refl, omega arith, omega arith, tt)
    nominal-pixels Template3 = (refl, omega arith, omega arith, tt)

    pixels : (coding : RegionCoding) → AreAdaptive (adaptive_of coding)
    pixels (Arithmetic a) = nominal-pixels a.template
    pixels Mmr = tt

sides-are : (g : Grid) (w h : ℕ) → w ≡ g.width → h ≡ g.height → IsAllowed w h → IsAllowed g.width g.height
sides-are g w h is_w is_h allows = subst (λ (n : ℕ). IsAllowed g.width n) is_h (subst (λ (n : ℕ). IsAllowed n h) is_w allows)

pub reads-back : (s : WriteSettings) (g : Grid) (w h : ℕ) (bytes : List ℕ) → IsTable g → w ≡ g.width → h ≡ g.height → IsAllowed w h → FitsResolution s → bytes ≡ bytes_in s.container (choice_of s) g.width g.height (pixel_at g) → ReadsBack s bytes g
reads-back s g w h bytes whole is_w is_h allows fits made = of_container s.container made
  where
    sides : IsAllowed g.width g.height
    sides = sides-are g w h is_w is_h allows

    of_container : (container : Container) → bytes ≡ bytes_in container (choice_of s) g.width g.height (pixel_at g) → IsReadIn container s bytes g
    of_container EmbeddedPage same = λ reading globals.
        let read = pages_read_back reading globals (choice_of s) g.width g.height (pixel_at g) (choice-is s fits) sides.columns sides.rows in
        (read.0, ap (λ (l : List ℕ). page_from reading globals l) same ∙ read.1, (read.2.drawn ∙ ap (λ (h : Grid). Ok h) (sym whole), read.2.resolution))
    of_container File same = λ reading.
        let read = page_files_read_back reading (choice_of s) g.width g.height (pixel_at g) (choice-is s fits) sides.columns sides.rows in
        (read.book, read.page, ap (λ (l : List ℕ). book_at reading l) same ∙ read.read, read.only, (read.shows.drawn ∙ ap (λ (h : Grid). Ok h) (sym whole), read.shows.resolution))
