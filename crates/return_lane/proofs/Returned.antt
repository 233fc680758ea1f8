-- The return lane of a well-formed curve has as many cells in each slice, and is well formed where its breaks rise.
use mathlib.Core.Path.{◌≡◌, refl, sym, ap, subst, ◌∙◌}
use mathlib.Core.Bool.{Bool, true, false, ◌&&◌, ◌||◌, cond}
use mathlib.Core.List.{List, [], ◌∷◌}
use Prim.Native.Nat.{ℕ, ◌+◌, ◌-◌, ◌*◌, ◌<◌}
use native.Mathlib.Omega.{arith}
use borrow.Author.Tests.{eq-eqb, eqb-true}
use lib.Dec.{T, eqb}
use lib.IntN.{pos}
use lib.ListN.{length}
use lib.Ieee.{Float, nan, binary64, fits, of_bits, sub, lt, le, eq}
use lib.Ieee.Bits.{of_bits-fits}
use lib.Ieee.Scale.{finite}
use Rattle.arith.specs.Operations.{floats}
use Rattle.arith.proofs.Truth.{and_parts, clash}
use Rattle.arith.proofs.FloatOrder.{le_not_lt}
use Rattle.fraction.specs.Rational.{ℚ, ◌+q◌, negq, ◌≤q◌}
use Rattle.fraction.specs.RationalRing.{rational_ring}
use Rattle.fraction.specs.Ring.{◌⊖◌, con, solve, v0}
use Rattle.fraction.specs.Rounding.{Rounded}
use Rattle.fraction.specs.Value.{value}
use Rattle.fraction.proofs.Comparison.{eq_finite, eq_value}
use Rattle.fraction.proofs.OwnRounding.{rounds_above, rounds_below}
use Rattle.fraction.proofs.Rational.{≤q-refl}
use Rattle.fraction.proofs.Rounding.{sub_rounded}
use Rattle.window.specs.Cells.{+0, at}
use Rattle.window.proofs.Joined.{join_length, list_at, list_length, table_length}
use Rattle.curve.specs.declared.Curve.{Curve}
use Rattle.curve.specs.Form.{Slices, with_widths, set_formed, others_formed, well_formed}
use Rattle.curve.proofs.SameBits.{zero_finite, zero_value}
use Rattle.curve.proofs.Formed.{formed, well_formed_law, set_parts, set_formed_law, with_length, with_kept}
use Rattle.return_lane.specs.Segment.{return_coefficient}
use Rattle.return_lane.specs.Return.{return_break, return_breaks, return_segment, return_coefficients, return_slices, rises_back}

abbrev one : Float
one = of_bits binary64 0x3ff0_0000_0000_0000

-- ---- lengths
module _ (breaks : List Float) where
  pub breaks_length : length (return_breaks breaks) ≡ length breaks
  unfolding return_breaks
  breaks_length = list_length (length breaks) (return_break breaks)

  pub break_at_law : (i : ℕ) → i < length breaks → at (return_breaks breaks) i ≡ return_break breaks i
  unfolding return_breaks
  break_at_law i l = list_at (length breaks) (return_break breaks) nan i l

-- break i is below the next
abbrev pub rises_at : List Float → ℕ → Bool
rises_at breaks i = lt (at (return_breaks breaks) i) (at (return_breaks breaks) (i + 1))

pub segment_length : (m : ℕ) (c : List Float) (i : ℕ) → length (return_segment m c i) ≡ m * 6
unfolding return_segment
segment_length m c i = table_length m 6 (λ a k. return_coefficient floats (λ j. at c (6 * (i * m + a) + j)) k)

pub coefficients_length : (m n : ℕ) (c : List Float) → length (return_coefficients m n c) ≡ 6 * (n * m)
unfolding return_coefficients
coefficients_length m n c =
    join_length n (m * 6) (λ i. return_segment m c (n - (i + 1))) (λ i l. segment_length m c (n - (i + 1))) ∙ omega arith

pub set_length : (m n : ℕ) (b c : List Float)
    → length (with_widths (return_breaks b) (return_coefficients m n c)) ≡ 6 * (n * m) + (length b - 1)
set_length m n b c =
    with_length (return_breaks b) (return_coefficients m n c)
    ∙ (λ i. coefficients_length m n c i + (breaks_length b i - 1))

-- ---- the ends
or_second : (a b : Bool) → (a || b) ≡ true → a ≡ false → b ≡ true
or_second true b h e = clash refl e
or_second false b h e = h

-- a number is equal to what its value rounds to
rounds_to : (r y : Float) (z : ℚ) → T (fits binary64 y) → T (finite y) → Rounded binary64 r z → z ≡ value y → eq r y ≡ true
unfolding le
rounds_to r y z F Y R e =
    let low = rounds_below binary64 y F Y r z R (subst (λ (w : ℚ). w ≤q value y) (sym e) (≤q-refl (value y))) in
    let high = rounds_above binary64 y F Y r z R (subst (λ (w : ℚ). value y ≤q w) (sym e) (≤q-refl (value y))) in
    or_second (lt r y) (eq r y) low (le_not_lt y r high)

one_finite : T (finite one)
unfolding of_bits
one_finite = tt

-- 1 minus what equals 1 equals 0, and 1 minus what equals 0 equals 1
to_zero : (x : Float) → eq x one ≡ true → eq (sub binary64 one x) +0 ≡ true
to_zero x h =
    let t : T (eq x one) = subst T (sym h) tt in
    rounds_to (sub binary64 one x) +0 (value one +q negq (value x)) (of_bits-fits binary64 0) zero_finite
    (sub_rounded binary64 one x one_finite (eq_finite x one t one_finite))
    (ap (λ (v : ℚ). value one +q negq v) (eq_value x one one_finite t)
    ∙ solve rational_ring (value one ∷ []) (v0 ⊖ v0) (con (pos 0)) tt ∙ sym zero_value)

to_one : (x : Float) → eq x +0 ≡ true → eq (sub binary64 one x) one ≡ true
to_one x h =
    let t : T (eq x +0) = subst T (sym h) tt in
    rounds_to (sub binary64 one x) one (value one +q negq (value x)) (of_bits-fits binary64 0x3ff0_0000_0000_0000) one_finite
    (sub_rounded binary64 one x one_finite (eq_finite x +0 t zero_finite))
    (ap (λ (v : ℚ). value one +q negq v) (eq_value x +0 zero_finite t ∙ zero_value)
    ∙ solve rational_ring (value one ∷ []) (v0 ⊖ con (pos 0)) v0 tt)

-- ---- a set
set_returned : (m n : ℕ) (b c : List Float) → set_formed m n b c ≡ true → rises_back b ≡ true
    → set_formed m n (return_breaks b) (with_widths (return_breaks b) (return_coefficients m n c)) ≡ true
unfolding rises_back
set_returned m n b c h r =
    let z = set_parts m n b c h in
    let e = breaks_length b in
    let count : length b - 1 ≡ n = omega (arith, z.breaks_length) in
    let last : length b - (0 + 1) ≡ n = omega (arith, z.breaks_length) in
    let first : length b - (n + 1) ≡ 0 = omega (arith, z.breaks_length) in
    set_formed_law m n (return_breaks b) (with_widths (return_breaks b) (return_coefficients m n c))
    (record {
      some = z.some;
      most = z.most;
      breaks_length = e ∙ z.breaks_length;
      coefficients_length = omega (arith, set_length m n b c, count);
      from_zero = rw (break_at_law b 0 (omega (arith, z.breaks_length)), last) (to_zero (at b n) z.to_one);
      rising = rw count at r;
      to_one = rw (break_at_law b n (omega (arith, z.breaks_length)), first) (to_one (at b 0) z.from_zero);
      kept = with_kept (return_breaks b) (return_coefficients m n c) (6 * (n * m)) n (coefficients_length m n c) (omega (arith, e, count));
    })

others_returned : (m n : ℕ) (b c : List Float) → others_formed m n b c ≡ true → rises_back b ≡ true
    → others_formed m n (return_breaks b) (with_widths (return_breaks b) (return_coefficients m n c)) ≡ true
unfolding others_formed
others_returned m n b c h r = go (eqb m 0) refl h
  where
    back : List Float
    back = with_widths (return_breaks b) (return_coefficients m n c)

    go : (t : Bool) → eqb m 0 ≡ t → cond t (eqb n 0 && eqb (length b) 0 && eqb (length c) 0) (set_formed m n b c) ≡ true
        → cond t (eqb n 0 && eqb (length (return_breaks b)) 0 && eqb (length back) 0) (set_formed m n (return_breaks b) back) ≡ true
    go true e g =
        let p = and_parts (eqb n 0 && eqb (length b) 0) (eqb (length c) 0) g in
        let q = and_parts (eqb n 0) (eqb (length b) 0) p.0 in
        let none : n ≡ 0 = eqb-true n 0 q.0 in
        let short : length b ≡ 0 = eqb-true (length b) 0 q.1 in
        let k : n * m ≡ 0 = rw none (omega arith) in
        rw (q.0, eq-eqb (length (return_breaks b)) 0 (breaks_length b ∙ short), eq-eqb (length back) 0 (omega (arith, set_length m n b c)))
    go false e g = set_returned m n b c g r

-- ---- the curve
module _ (c : Curve) (s : Slices) (h : well_formed c s ≡ true) where
  pub return_well_formed : rises_back s.breaks ≡ true → rises_back s.other_breaks ≡ true → well_formed c (return_slices c s) ≡ true
  return_well_formed r q =
      let f = formed c s h in
      well_formed_law c (return_slices c s)
      (record {
        d_low = f.d_low;
        d_high = f.d_high;
        k_low = f.k_low;
        k_high = f.k_high;
        axes_formed_law = f.axes_formed_law;
        set_formed_law = set_returned c.k c.segments s.breaks s.coefficients f.set_formed_law r;
        others_formed_law = others_returned (c.d - c.k) c.other_segments s.other_breaks s.other_coefficients f.others_formed_law q;
        range_formed_law = f.range_formed_law;
      })
