-- A degree's values are as many as those of the degree before, and a segment has six coefficients for each axis, whatever the arithmetic.
use Prim.Native.Nat.{ℕ, ◌+◌, ◌*◌}
use mathlib.Core.List.{List}
use mathlib.Core.Path.{◌≡◌, refl, ◌∙◌}
use native.Mathlib.Omega.{arith}
use lib.ListN.{length, get_or, length-set}
use Rattle.arith.specs.Operations.{Arith}
use Rattle.arith.proofs.Loops.{each_keeps}
use Rattle.bspline.specs.Segments.{add_turn, add_row, scale_turn, segment_of, span_segments, Scaled}
use Rattle.bspline.specs.Values.{inner_turn, inner_loop, Inner}
use Rattle.window.proofs.Joined.{join_length}

pub inner_length : {A : Type 0} (o : Arith A) (left right : List A) (j : ℕ) (b : List A) → length (inner_loop o left right j b) ≡ length b
unfolding inner_loop inner_turn
inner_length {A} o left right j b =
    simp length-set (each_keeps (λ (s : Inner A). length s.row ≡ length b) (inner_turn o left right j) 0 j
    (record { row = b; saved = o.zero })
    (λ i s h. simp length-set h) refl)

pub segment_length : {A : Type 0} (o : Arith A) (rows : List A) (h : A) (c : List A) (at d : ℕ) → length (segment_of o rows h c at d) ≡ 6
unfolding segment_of scale_turn add_row add_turn
segment_length {A} o rows h c at d =
    each_keeps (λ (s : Scaled A). length s.coefficients ≡ 6) (scale_turn o h) 0 6 _ (λ k s e. simp length-set e)
    (each_keeps (λ (p : List A). length p ≡ 6) (add_row o rows c at d) 0 6 _
    (λ r p e. each_keeps (λ (q : List A). length q ≡ 6) (add_turn o rows r (get_or c (at + r * d) o.outside)) 0 6 p
    (λ k q e. simp length-set e) e) refl)

-- the segments of a span fill six cells for each axis
pub segments_length : {A : Type 0} (o : Arith A) (t c : List A) (d span : ℕ) → length (span_segments o t c d span) ≡ 6 * d
segments_length o t c d span = join_length d 6 _ (λ i l. segment_length o _ _ c _ d) ∙ omega arith
