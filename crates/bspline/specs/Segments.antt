-- The spline as polynomials, span by span: the source's `BSpline::polynomial`, step by step.
use Rattle.std.specs.Prelude.{ℕ, ◌+◌, ◌-◌, ◌*◌, cond, List, [], ◌∷◌, ◌++◌, get_or, set, replicate}
use Rattle.arith.specs.Operations.{Arith}
use Rattle.arith.specs.Loop.{each}
use Rattle.bspline.specs.Powers.{powers_of}
use Rattle.window.specs.Rows.{join}

-- `p[k] += row[k] * c`, with row r of the table of powers
unfoldable pub add_turn : {A : Type 0} → Arith A → List A → ℕ → A → ℕ → List A → List A
add_turn o rows r c k p = set p k (o.plus (get_or p k o.outside) (o.times (get_or rows (6 * r + k) o.outside) c))

-- row r times the axis of control r of the span; `at` is where the axis of its control 0 stands, and d the step to the next control
unfoldable pub add_row : {A : Type 0} → Arith A → List A → List A → ℕ → ℕ → ℕ → List A → List A
add_row o rows c at d r p = each (add_turn o rows r (get_or c (at + r * d) o.outside)) 0 6 p

-- `*v *= scale; scale *= h`
pub record Scaled (A : Type 0) : Type 0 where
  pub coefficients : List A
  pub scale : A

unfoldable pub scale_turn : {A : Type 0} → Arith A → A → ℕ → Scaled A → Scaled A
scale_turn o h k s =
    record {
      coefficients = set s.coefficients k (o.times (get_or s.coefficients k o.outside) s.scale);
      scale = o.times s.scale h;
    }

-- coefficient k times h to the k
abbrev pub scaled_by : {A : Type 0} → Arith A → A → List A → List A
scaled_by o h p = (each (scale_turn o h) 0 6 (record { coefficients = p; scale = o.one })).coefficients

-- the six coefficients of one axis on a span of width h, by powers of the local parameter, 0 to 1
unfoldable pub segment_of : {A : Type 0} → Arith A → List A → A → List A → ℕ → ℕ → List A
segment_of o rows h c at d = scaled_by o h (each (add_row o rows c at d) 0 6 (replicate 6 o.zero))

-- `t[span]`, and the span's width
abbrev pub span_start : {A : Type 0} → Arith A → List A → ℕ → A
span_start o t span = get_or t span o.outside

abbrev pub span_width : {A : Type 0} → Arith A → List A → ℕ → A
span_width o t span = o.minus (get_or t (span + 1) o.outside) (span_start o t span)

-- the coefficients of all d axes on a span, axis after axis
abbrev pub span_segments : {A : Type 0} → Arith A → List A → List A → ℕ → ℕ → List A
span_segments o t c d span =
    join d (λ i. segment_of o (powers_of o t span (span_start o t span)) (span_width o t span) c ((span - 5) * d + i) d)

-- the source's `Polynomial`, its coefficients flat
pub record Polynomial (A : Type 0) : Type 0 where
  pub breaks : List A
  pub coefficients : List A

-- the turn of the loop over spans; a span of no width is passed over
unfoldable pub span_turn : {A : Type 0} → Arith A → List A → List A → ℕ → ℕ → Polynomial A → Polynomial A
span_turn o t c d span p =
    cond (o.at_most (span_width o t span) o.zero) p
    (record {
      breaks = p.breaks ++ (span_start o t span ∷ []);
      coefficients = p.coefficients ++ span_segments o t c d span;
    })

-- the polynomial of the spline with knots t and m controls c of d axes
unfoldable pub polynomial_of : {A : Type 0} → Arith A → List A → List A → ℕ → ℕ → Polynomial A
polynomial_of o t c d m =
    let p = each (span_turn o t c d) 5 m (record { breaks = []; coefficients = [] }) in
    record { breaks = p.breaks ++ (o.one ∷ []); coefficients = p.coefficients }
