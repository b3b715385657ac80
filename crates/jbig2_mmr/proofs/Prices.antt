-- What is counted for MMR data, and for making its bitmap, is within the price of the bitmap and a unit for each byte.
use Rattle.std.specs.Prelude.{if◌then◌else◌}
use Rattle.std.proofs.Common.{◌≡◌, ℕ, ◌+◌, ◌*◌, ◌≤◌, Bool, true, false, not, ◌&&◌, List, length, Result, Ok, Err, subst, arith}
use Rattle.std.proofs.Math.Nat.{mul-le-mul_right}
use Rattle.jbig2_base.specs.Results.{Returns}
use Rattle.jbig2_base.specs.Counts.{Counts, KeepsLanes, words_of}
use Rattle.jbig2_base.specs.Grid.{Grid}
use Rattle.jbig2_base.specs.declared.error.DecodeError.{DecodeError}
use Rattle.jbig2_steps.specs.Work.{CountsBeside, paid_words, sum_of_counts, price_of_bitmap, words_of_row}
use Rattle.jbig2_steps.proofs.WorkLemmas.{room-paid}
use Rattle.jbig2_mmr.specs.Steps.{MovesWithin, bytes_taken}
use Rattle.jbig2_mmr.specs.T6.{DecodedRows, mmr_rows, rows_of}

used-within : (strict : Bool) (w h : ℕ) (bytes : List ℕ) (d : DecodedRows) → mmr_rows strict w h bytes ≡ Ok d → d.used ≤ length bytes
unfolding mmr_rows
used-within strict w h bytes d is = either (strict && not (rows_of w h bytes).whole) _ _ (omega arith) is
  where
    either : (c : Bool) (e : DecodeError) (x : DecodedRows) → x.used ≤ length bytes → (if c then Err e else Ok x) ≡ Ok d → d.used ≤ length bytes
    either true e x few same = absurd (cc)
    either false e x few same = let one : x ≡ d = cc in subst (λ (y : DecodedRows). y.used ≤ length bytes) one few

taken-within : (result : Result ℕ DecodeError) (grid : Grid) (strict : Bool) (w h : ℕ) (bytes : List ℕ) → Returns (λ used. record { grid = grid; used = used }) result (mmr_rows strict w h bytes) → bytes_taken result (length bytes) ≤ length bytes
taken-within (Ok used) grid strict w h bytes is = used-within strict w h bytes _ is
taken-within (Err e) grid strict w h bytes is = omega arith

thrice : (n words height : ℕ) → n ≤ words * height → 3 * n ≤ 2047 * (words * height)
thrice n words height few = omega arith

pub mmr-paid : (g : Grid) (bytes : List ℕ) (taken : ℕ) (old new : Counts) → taken ≤ length bytes → KeepsLanes old new → MovesWithin (3 * (words_of g + 8 * taken)) old new → sum_of_counts new + paid_words g.width g.height ≤ sum_of_counts old + (32 * price_of_bitmap g.width g.height + 32 * length bytes)
mmr-paid g bytes taken old new within lanes moves =
    let few : words_of g ≤ words_of_row g.width * g.height = mul-le-mul_right g.height (omega arith) in
    let paid : 3 * words_of g + paid_words g.width g.height ≤ 32 * price_of_bitmap g.width g.height = room-paid g.width g.height (3 * words_of g) (thrice (words_of g) (words_of_row g.width) g.height few) in
    omega (arith, paid, moves.moves, moves.decisions, moves.run_tests, lanes.groups, lanes.pixels, lanes.cleared)

pub decode-paid : (result : Result ℕ DecodeError) (old new : Grid) (strict : Bool) (bytes : List ℕ) (before after : Counts) → Returns (λ used. record { grid = new; used = used }) result (mmr_rows strict old.width old.height bytes) → KeepsLanes before after → MovesWithin (3 * (words_of old + 8 * bytes_taken result (length bytes))) before after → CountsBeside (paid_words old.width old.height) (price_of_bitmap old.width old.height + length bytes) before after
decode-paid result old new strict bytes before after value lanes moves =
    let paid = mmr-paid old bytes (bytes_taken result (length bytes)) before after (taken-within result new strict old.width old.height bytes value) lanes moves in
    omega (arith, paid)
