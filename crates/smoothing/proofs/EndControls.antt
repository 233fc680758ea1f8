-- "End controls are never refitted": the first and the last control of the spline are those of the chord, through every round.
use Rattle.std.proofs.Common.{◌≡◌, ℕ, ◌+◌, ◌-◌, ◌*◌, ◌<◌, ◌≤◌, List, [], ◌∷◌, sym, refl, ap, ◌∙◌, subst, mul-le-mul_right, arith}
use native.Mathlib.Decide.{dec_lt}
use lib.Ieee.{Float}
use Rattle.arith.specs.Operations.{floats}
use Rattle.window.specs.Cells.{at}
use Rattle.bspline.specs.Insertion.{alpha_of}
use Rattle.bspline.proofs.Inserted.{control_is, new_before, new_after}
use Rattle.bspline.proofs.InsertPlaced.{span_within}
use Rattle.fitting_rows.specs.Arrays.{arrays}
use Rattle.fit.proofs.Bounds.{fit_outside}
use Rattle.polynomial.specs.Outcome as audits
use Rattle.smoothing.specs.Answer.{and_then}
use Rattle.smoothing.specs.Answer.Answer.{done}
use Rattle.smoothing.specs.Rows.{Task}
use Rattle.smoothing.specs.State.{Spline, State, fit_in, fitted, audited, audit_in}
use Rattle.smoothing.specs.Start.{first_knots, chord_of, chord_state, start_of}
use Rattle.smoothing.specs.Round.{locations_of, outside, span_in, insert_of, insert_all, refine_of}
use Rattle.smoothing.proofs.Accepted.{done_same, not_refused, unless_done}
use Rattle.smoothing.proofs.Course.{Keeps, audit_at, course_keeps}

-- the ends of k axes of b are those of o
pub record SameEnds (k : ℕ) (o b : Spline) : Type 0 where
  pub six : 6 ≤ b.m
  pub first : (a : ℕ) → a < k → at b.c a ≡ at o.c a
  pub last : (a : ℕ) → a < k → at b.c ((b.m - 1) * k + a) ≡ at o.c ((o.m - 1) * k + a)

-- a window of inner controls holds no cell of the ends
module _ (k m a z : ℕ) (l : 1 ≤ a) (r : z ≤ m - 1) where
  cells : (j : ℕ) → j < (z - a) * k → a * k + j < (m - 1) * k
  cells j h = elim (dec_lt a z) [
    | yes g ↦
        let e : a + (z - a) ≡ z = omega arith in
        let s : a * k + (z - a) * k ≡ z * k =
        (let p : a * k + (z - a) * k ≡ (a + (z - a)) * k = omega arith in p ∙ ap (λ (n : ℕ). n * k) e) in
        let t : z * k ≤ (m - 1) * k = mul-le-mul_right k r in
        omega arith
    | no g ↦
        let e : z - a ≡ 0 = omega arith in
        let n : (z - a) * k ≡ 0 = ap (λ (i : ℕ). i * k) e ∙ omega arith in absurd (omega arith)
  ]

  not_first : (i : ℕ) → i < k → (j : ℕ) → j < (z - a) * k → i ≡ a * k + j → ⊥
  not_first i b j h e = let t : 1 * k ≤ a * k = mul-le-mul_right k l in omega arith

  not_last : (i : ℕ) → (j : ℕ) → j < (z - a) * k → (m - 1) * k + i ≡ a * k + j → ⊥
  not_last i j h e = omega (arith, cells j h)

-- a knot more
insert_ends : (k : ℕ) (o b : Spline) (x : Float) → SameEnds k o b → SameEnds k o (insert_of k x b)
unfolding insert_of
insert_ends k o b x h =
    let s = span_within b.t b.m x h.six in
    let alpha = alpha_of floats b.t x in
    record {
      six = omega (arith, h.six);
      first = λ a l.
          let e : 0 * k + a ≡ a = omega arith in
          ap (λ (n : ℕ). at (insert_of k x b).c n) (sym e) ∙ control_is floats alpha k b.m (span_in b x) b.c 0 a (omega arith) l
          ∙ new_before floats alpha k (span_in b x) b.c 0 a s.0 ∙ ap (λ (n : ℕ). at b.c n) e ∙ h.first a l;
      last = λ a l.
          let e : b.m + 1 - 1 ≡ b.m = omega arith in
          ap (λ (n : ℕ). at (insert_of k x b).c (n * k + a)) e
          ∙ control_is floats alpha k b.m (span_in b x) b.c b.m a (omega arith) l
          ∙ new_after floats alpha k (span_in b x) b.c b.m a s.1 ∙ h.last a l;
    }

insert_all_ends : (k : ℕ) (o : Spline) (l : List Float) (b b' : Spline) → SameEnds k o b → insert_all k l b ≡ done b' → SameEnds k o b'
unfolding insert_all
insert_all_ends k o [] b b' h e = subst (λ (z : Spline). SameEnds k o z) (done_same e) h
insert_all_ends k o (x ∷ l) b b' h e =
    insert_all_ends k o l (insert_of k x b) b' (insert_ends k o b x h)
    (not_refused (outside b x) 16 (insert_all k l (insert_of k x b)) b' e).1

-- every step keeps the ends
keeps_ends : (g : ℕ) (q : Task) (o : Spline) → Keeps g q (λ left st. SameEnds q.k o st.b)
unfolding fitted fit_in audit_in audited
keeps_ends g q o =
    record {
      fit = λ left a z strength st st' l r h e.
          let x = arrays st.b.t st.b.c st.b.m q.k q.s q.y q.n in
          subst (λ (z : State). SameEnds q.k o z.b) (unless_done (fit_in q a z strength st.b).answered.number _ st' e).1
          (record {
            six = h.six;
            first = λ i b. fit_outside x a z strength i (not_first q.k st.b.m a z l r i b) ∙ h.first i b;
            last = λ i b. fit_outside x a z strength ((st.b.m - 1) * q.k + i) (not_last q.k st.b.m a z l r i) ∙ h.last i b;
          });
      audit =
          λ left from to st st' l h e. subst (λ (z : State). SameEnds q.k o z.b)
          (unless_done (audits.number_of (audit_at q from to st).outcome) _ st' e).1 h;
      insert = λ left st b t h e. insert_all_ends q.k o (locations_of q st) st.b b h e;
    }

-- after any number of rounds the ends are the chord's
pub end_controls : (g left : ℕ) (q : Task) (st : State) → and_then (start_of g q) (refine_of g left q) ≡ done st
    → SameEnds q.k (chord_of q (first_knots q)) st.b
unfolding chord_state chord_of
end_controls g left q st e =
    let o = chord_of q (first_knots q) in
    (course_keeps g q (λ left st. SameEnds q.k o st.b) (keeps_ends g q o) left st
    (λ t. record { six = omega arith; first = λ a l. refl; last = λ a l. refl }) e).1
