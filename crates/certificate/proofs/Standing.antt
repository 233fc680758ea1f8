-- Where the walk stands, and how it goes on: what the code's loop keeps.
use mathlib.Core.Bool.{Bool, cond, false, not, true}
use mathlib.Core.List.{List}
use mathlib.Core.Path.{◌∙◌, ◌≡◌, ap, subst, sym}
use Prim.Native.Nat.{ℕ, ◌*◌, ◌+◌, ◌-◌, ◌<◌, ◌≤◌}
use native.Mathlib.Omega.{arith}
use lib.Dec.{T}
use lib.Ieee.{Float, lt}
use lib.ListN.{drop, length, take}
use Rattle.window.specs.Cells.{+0, at}
use Rattle.request.specs.declared.parameters.Spacing.{Spacing}
use Rattle.request.specs.Parameters.{normalised_of, parameter_list}
use Rattle.figure.specs.Axis.{axis_of}
use Rattle.figure.specs.Distance.{Rises}
use Rattle.figure.specs.Figure.{Figure, figure, figure_of, intersection, intersection_figure, larger, meeting, with_intersection}
use Rattle.figure.specs.Intersection.{Intersection}
use Rattle.certificate.proofs.Coefficients.{cell_of_six, six_count}
use Rattle.certificate.proofs.Steps.{next_interval, next_segment, rest, rest_all, rest_done, segment_remains}

-- At interval i, which lies between two parameters, and segment m, with the largest so far.
pub record Standing (breaks coefficients : List Float) (k place : ℕ) (points : List Float) (d axis n : ℕ) (spacing : Spacing)
    (parameters : List Float) (depth i m : ℕ) (from to : Float) (so_far : Figure) : Type 0 where
  pub interval : i < n
  pub segment : m + 1 < length breaks
  pub start : from ≡ normalised_of (parameter_list spacing parameters points d n) n i
  pub end : i + 1 < n → to ≡ normalised_of (parameter_list spacing parameters points d n) n (i + 1)
  -- what is left to do gives the figure
  pub gives : rest depth (axis_of breaks coefficients k place points d axis n spacing parameters) i m so_far
      ≡ figure_of depth (axis_of breaks coefficients k place points d axis n spacing parameters)

-- the largest so far with that of an intersection, as the code has it
abbrev counted : ℕ → Intersection → Figure → Figure
counted depth y g = cond (lt y.left y.right) (larger g (intersection_figure depth y)) g

module _ {breaks coefficients : List Float} {k place : ℕ} {points : List Float} {d axis n : ℕ} {spacing : Spacing}
    {parameters : List Float} {depth : ℕ}
  where
    -- at interval 0 and segment 0
    pub standing_first : {from to : Float} → 2 ≤ n → 2 ≤ length breaks
        → from ≡ normalised_of (parameter_list spacing parameters points d n) n 0
        → to ≡ normalised_of (parameter_list spacing parameters points d n) n 1
        → Standing breaks coefficients k place points d axis n spacing parameters depth 0 0 from to (figure +0)
    standing_first l h f t = record {
      interval = omega arith;
      segment = omega arith;
      start = f;
      end = λ _. t;
      gives = rest_all depth (axis_of breaks coefficients k place points d axis n spacing parameters);
    }

    module _ {i m : ℕ} {from to : Float} {g : Figure}
        (s : Standing breaks coefficients k place points d axis n spacing parameters depth i m from to g) where
      -- after the last interval
      pub standing_last : n ≤ i + 1 → g ≡ figure_of depth (axis_of breaks coefficients k place points d axis n spacing parameters)
      standing_last l = sym (rest_done depth (axis_of breaks coefficients k place points d axis n spacing parameters) i m g (omega arith))
          ∙ s.gives

      module _ (rising : Rises (length breaks - 1) (at breaks)
          × Rises (n - 1) (normalised_of (parameter_list spacing parameters points d n) n)) (more : i + 1 < n)
          {y : Intersection} {h : Figure}
          (is-met : y ≡ meeting (at breaks m) (at breaks (m + 1)) (at (take 6 (drop (6 * (m * k + place)) coefficients))) from to
          (at points (i * d + axis)) (at points ((i + 1) * d + axis)))
          (is-counted : h ≡ counted depth y g) where
        visited : h ≡ with_intersection depth (axis_of breaks coefficients k place points d axis n spacing parameters) i m g
        unfolding with_intersection intersection
        visited =
            let z = intersection (axis_of breaks coefficients k place points d axis n spacing parameters) i m in
            is-counted ∙ ap (λ (y : Intersection). counted depth y g) is-met
            ∙ rw (s.start, s.end more) (ap (λ (f : Figure). cond (lt z.left z.right) (larger g f) g)
            (six_count depth z (at (take 6 (drop (6 * (m * k + place)) coefficients))) (cell_of_six coefficients (6 * (m * k + place)))))

        -- on to the next segment
        pub standing_segment : lt (at breaks (m + 1)) to ≡ true
            → Standing breaks coefficients k place points d axis n spacing parameters depth i (m + 1) from to h
        standing_segment t =
            let x = axis_of breaks coefficients k place points d axis n spacing parameters in
            let inside = subst T (sym (rw (s.end more) at t)) tt in
            let left = segment_remains depth x rising.0 rising.1 i m (omega arith) (omega arith) inside in
            record {
              interval = s.interval;
              segment = omega arith;
              start = s.start;
              end = s.end;
              gives = ap (rest depth x i (m + 1)) visited ∙ sym (next_segment depth x rising.0 rising.1 i m (omega arith)
                  (omega arith) inside g)
                  ∙ s.gives;
            }

        -- on to the next interval
        pub standing_interval : {next : Float} → lt (at breaks (m + 1)) to ≡ false
            → (i + 1 + 1 < n → next ≡ normalised_of (parameter_list spacing parameters points d n) n (i + 1 + 1))
            → Standing breaks coefficients k place points d axis n spacing parameters depth (i + 1) m to next h
        standing_interval t e =
            let x = axis_of breaks coefficients k place points d axis n spacing parameters in
            let outside = subst (λ (b : Bool). T (not b)) (sym (rw (s.end more) at t)) tt in
            record {
              interval = more;
              segment = s.segment;
              start = s.end more;
              end = e;
              gives = ap (rest depth x (i + 1) m) visited ∙ sym (next_interval depth x rising.0 rising.1 i m (omega arith)
                  (omega arith) g outside)
                  ∙ s.gives;
            }
