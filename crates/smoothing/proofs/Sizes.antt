-- How long the arrays of `build` are, from the chord to the last round; max_segments bounds them, and max_refinements the rounds.
use Rattle.std.proofs.Common.{◌≡◌, ℕ, ◌+◌, ◌-◌, ◌*◌, ◌≤◌, Bool, true, false, cond, ltb, List, [], ◌∷◌, ◌++◌, length, replicate, ◌∙◌, subst, arith, length-append, ltb-false}
use Rattle.std.specs.Prelude.{None}
use lib.ListN.{length-replicate}
use lib.Ieee.{Float, nan}
use Rattle.arith.specs.Operations.{floats}
use Rattle.window.specs.Cells.{at, zeros}
use Rattle.bspline.specs.Insertion.{new_control, alpha_of}
use Rattle.bspline.proofs.Inserted.{knots_length}
use Rattle.bspline.proofs.InsertPlaced.{span_within}
use Rattle.window.proofs.Joined.{join_most, table_length}
use Rattle.sorting.specs.Sort.{sort_of}
use Rattle.sorting.specs.Thin.{dedup_of, distinct}
use Rattle.sorting.proofs.Sorted.{sort_count}
use Rattle.sorting.proofs.Kept.{thinned_count}
use Rattle.fitting_rows.specs.Arrays.{arrays}
use Rattle.fit.proofs.Bounds.{fit_length}
use Rattle.polynomial.specs.Outcome as audits
use Rattle.polynomial.proofs.Counts.{audit_lengths}
use Rattle.smoothing.specs.Answer.{and_then}
use Rattle.smoothing.specs.Answer.Answer.{done}
use Rattle.smoothing.specs.Rows.{Task}
use Rattle.smoothing.specs.State.{Spline, State, polynomial_in, fit_in, fitted, audited, audit_in}
use Rattle.smoothing.specs.Start.{first_knots, many_knots, open_knots, chord_controls, chord_of, chord_state, start_of}
use Rattle.smoothing.specs.Round.{selected, middle_of, raw_locations, locations_of, spans_after, outside, span_in, insert_of, insert_all, round_of, refine_of}
use Rattle.smoothing.proofs.Accepted.{done_same, then_done, not_refused, unless_done}
use Rattle.smoothing.proofs.Course.{Keeps, audit_at, start_keeps, round_keeps, refine_keeps}

-- a spline of k axes: at least six controls, six knots more
pub record Formed (k : ℕ) (b : Spline) : Type 0 where
  pub six : 6 ≤ b.m
  pub knots : length b.t ≡ b.m + 6
  pub controls : length b.c ≡ b.m * k

-- the state of a task
pub record Sized (q : Task) (st : State) : Type 0 where
  pub formed : Formed q.k st.b
  pub bounds : length st.bounds ≡ (q.n - 1) * q.k
  pub witness : length st.witness ≡ q.n - 1

-- ---- the locations: at most one of each interval
pub locations_few : (q : Task) (st : State) → length (locations_of q st) ≤ q.n - 1
unfolding locations_of raw_locations dedup_of
locations_few q st =
    let raw = raw_locations q st in
    let few : length raw ≤ q.n - 1 =
    join_most (q.n - 1) _ (λ i. one (selected q.k st.bounds i) (middle_of st.b (at st.witness i))) in
    omega (arith, thinned_count distinct None (sort_of raw), sort_count raw, few)
  where
    one : (b : Bool) (x : Float) → length (cond b (x ∷ []) []) ≤ 1
    one true x = omega arith
    one false x = omega arith

-- ---- insertion
pub insert_formed : (k : ℕ) (x : Float) (b : Spline) → Formed k b → Formed k (insert_of k x b)
unfolding insert_of
insert_formed k x b f =
    let s = span_within b.t b.m x f.six in
    let l = f.knots in
    record {
      six = omega (arith, f.six);
      knots = knots_length x (span_in b x) b.t nan (omega arith) ∙ omega arith;
      controls = table_length (b.m + 1) k (new_control floats (alpha_of floats b.t x) k (span_in b x) b.c);
    }

-- one knot for each location
pub insert_all_formed : (k : ℕ) (l : List Float) (b b' : Spline) → Formed k b → insert_all k l b ≡ done b'
    → Formed k b' × (b'.m ≡ b.m + length l)
unfolding insert_all insert_of
insert_all_formed k [] b b' f h =
    let p : Formed k b × (b.m ≡ b.m + 0) = (f, omega arith) in subst (λ (z : Spline). Formed k z × (z.m ≡ b.m + 0)) (done_same h) p
insert_all_formed k (x ∷ l) b b' f h =
    let g = (not_refused (outside b x) 16 (insert_all k l (insert_of k x b)) b' h).1 in
    let p = insert_all_formed k l (insert_of k x b) b' (insert_formed k x b f) g in
    let e : b'.m ≡ b.m + 1 + length l = p.1 in
    (p.0, omega arith)

-- ---- the chord
pub chord_sized : (q : Task) (knots : List Float) → Sized q (chord_state q knots)
unfolding chord_state chord_of open_knots chord_controls
chord_sized q knots =
    record {
      formed = record {
        six = omega arith;
        knots = length-append (zeros 6) (knots ++ replicate 6 floats.one) ∙ simp (length-append, length-replicate) (omega arith);
        controls = table_length (length knots + 6) q.k _;
      };
      bounds = length-replicate ((q.n - 1) * q.k) _;
      witness = length-replicate (q.n - 1) _;
    }

-- ---- max_segments bounds the controls, and with them knots and segments; max_refinements bounds the rounds
pub record Within (g : ℕ) (q : Task) (st : State) : Type 0 where
  pub size : Sized q st
  pub few : st.b.m ≤ g + 5

-- with `left` of `most` rounds left
abbrev Bounded : ℕ → ℕ → Task → ℕ → State → Type 0
Bounded g most q left st = Within g q st × (st.report.refinements + left ≤ most)

pub keeps_within : (g most : ℕ) (q : Task) → Keeps g q (Bounded g most q)
unfolding fitted fit_in audit_in audited spans_after
keeps_within g most q =
    record {
      fit = λ left a z strength st st' l r h e.
          let s = h.0.size in
          let n = fit_length (arrays st.b.t st.b.c st.b.m q.k q.s q.y q.n) a z strength in
          subst (λ (z : State). Bounded g most q left z) (unless_done (fit_in q a z strength st.b).answered.number _ st' e).1 (
            record {
              size = record {
                formed = record { six = s.formed.six; knots = s.formed.knots; controls = n ∙ s.formed.controls };
                bounds = s.bounds;
                witness = s.witness;
              };
              few = h.0.few;
            },
            h.1,
          );
      audit = λ left from to st st' l h e.
          let s = h.0.size in
          let p = polynomial_in q.k st.b in
          let n = audit_lengths p.breaks p.coefficients q.s q.y q.k from to st.bounds st.witness in
          subst (λ (z : State). Bounded g most q left z) (unless_done (audits.number_of (audit_at q from to st).outcome) _ st' e).1
          (record { size = record { formed = s.formed; bounds = n.0 ∙ s.bounds; witness = n.1 ∙ s.witness }; few = h.0.few }, h.1);
      insert = λ left st b t h e.
          let s = h.0.size in
          let f = insert_all_formed q.k (locations_of q st) st.b b s.formed e in
          let n = ltb-false g (spans_after q st) t in
          let six = s.formed.six in (
            record { size = record { formed = f.0; bounds = s.bounds; witness = s.witness }; few = omega (arith, f.1) },
            omega (arith, h.1),
          );
    }

pub start_within : (g : ℕ) (q : Task) (st : State) → start_of g q ≡ done st → Within g q st × (st.report.refinements ≡ 0)
unfolding many_knots chord_state chord_of
start_within g q st e =
    let r = start_keeps g q (Bounded g 0 q) (keeps_within g 0 q) 0 st
    (λ t. let l = ltb-false g (length (first_knots q) + 1) t in (
      record { size = chord_sized q (first_knots q); few = omega arith },
      omega arith,
    )) e in
    (r.0, omega (arith, r.1))

-- a round that 15 lets through
pub round_within : (g : ℕ) (q : Task) (st st' : State) → Within g q st → ltb g (spans_after q st) ≡ false → round_of q st ≡ done st'
    → Within g q st' × (st'.report.refinements ≤ st.report.refinements + 1)
round_within g q st st' w t e =
    let r = round_keeps g q (Bounded g (st.report.refinements + 1) q) (keeps_within g (st.report.refinements + 1) q) 0 st st' t
    (w, omega arith) e in
    (r.0, omega (arith, r.1))

pub refine_within : (g left : ℕ) (q : Task) (st st' : State) → Within g q st → refine_of g left q st ≡ done st'
    → Within g q st' × (st'.report.refinements ≤ st.report.refinements + left)
refine_within g left q st st' w e =
    let r = refine_keeps g q (Bounded g (st.report.refinements + left) q) (keeps_within g (st.report.refinements + left) q) left st st'
    (w, omega arith) e in
    (r.1.0, omega (arith, r.1.1))

pub course_within : (g left : ℕ) (q : Task) (st : State) → and_then (start_of g q) (refine_of g left q) ≡ done st
    → Within g q st × (st.report.refinements ≤ left)
course_within g left q st e =
    let p = then_done (start_of g q) (refine_of g left q) st e in
    let s = start_within g q p.0 p.1 in
    let r = refine_within g left q p.0 st s.0 p.2 in
    (r.0, omega (arith, r.1, s.1))
