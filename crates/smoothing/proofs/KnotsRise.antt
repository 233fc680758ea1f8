-- The knots of `build` rise strictly from 0 to 1: those of the first curve, those of every round, and those of the other axes.
use Rattle.std.proofs.Common.{◌≡◌, ℕ, ◌+◌, ◌-◌, ◌<◌, ◌≤◌, Bool, true, false, cond, T, List, [], ◌∷◌, ◌++◌, length, replicate, sym, refl, ap, ◌∙◌, subst, arith, length-append, get_or-append-add}
use native.Mathlib.Decide.{dec_lt}
use lib.ListN.{length-replicate, get_or-append}
use lib.Ieee.{Float, nan, binary64, fits, lt, le, of_bits}
use lib.Ieee.Scale.{finite}
use Rattle.arith.proofs.Truth.{or_none}
use Rattle.arith.specs.Operations.{floats}
use Rattle.window.specs.Window.{window}
use Rattle.window.specs.Cells.{+0, at, zeros, Doubles}
use Rattle.window.proofs.Windows.{length_window, window_cell}
use Rattle.fraction.proofs.Comparison.{between_finite, number_self}
use Rattle.fraction.proofs.Value.{finite_not_nan}
use Rattle.bspline.specs.Insertion.{knots_with}
use Rattle.arith.proofs.FloatOrder.{lt_of_not_le}
use Rattle.bspline.proofs.Inserted.{knots_low, knots_at_law, knots_high, knots_length}
use Rattle.bspline.proofs.InsertPlaced.{span_within}
use Rattle.sorting.proofs.Kept.{Between}
use Rattle.polynomial.specs.Outcome as audits
use Rattle.request.specs.Parameters.{normalised_of, misplaced, unreliable}
use Rattle.request.proofs.Normalised.{normalised_rises}
use Rattle.request.proofs.ZeroToOne.{normalised_fits, normalised_finite, inner_above, inner_below}
use Rattle.seed.specs.Knots.{seed_of}
use Rattle.seed.proofs.Seeded.{seed_between, seed_rises}
use Rattle.smoothing.specs.Answer.{and_then}
use Rattle.smoothing.specs.Answer.Answer.{done}
use Rattle.smoothing.specs.Rising.{Rising, All, Number}
use Rattle.smoothing.specs.Rows.{Task}
use Rattle.smoothing.specs.State.{Spline, State, fit_in, fitted, audited, audit_in}
use Rattle.smoothing.specs.Start.{curved, first_knots, open_knots, chord_of, chord_state, start_of}
use Rattle.smoothing.specs.Round.{locations_of, outside, span_in, insert_of, insert_all, refine_of}
use Rattle.smoothing.proofs.Accepted.{done_same, not_refused, unless_done}
use Rattle.smoothing.proofs.Course.{Keeps, audit_at, course_keeps}
use Rattle.smoothing.proofs.Everywhere.{Held, seed_held, locations_numbers}

holds : {b : Bool} → b ≡ true → T b
holds e = subst T (sym e) tt

-- ---- a knot strictly inside span k of rising knots
module _ (t : List Float) (m k : ℕ) (x : Float) (r : Rising t m) (five : 5 ≤ k) (km : k < m) (F : T (fits binary64 x))
    (below : lt (at t k) x ≡ true) (above : lt x (at t (k + 1)) ≡ true) where
  inside : k < length t
  inside = omega (arith, r.long)

  abbrev more : List Float
  more = knots_with x k t

  before : (i : ℕ) → i ≤ k → at more i ≡ at t i
  before = knots_low x k t nan inside

  here : (i : ℕ) → i ≡ k + 1 → at more i ≡ x
  here i e = ap (λ (n : ℕ). at more n) e ∙ knots_at_law x k t nan inside

  after : (i j : ℕ) → i ≡ j + 1 → k + 1 ≤ j → at more i ≡ at t j
  after i j e h = ap (λ (n : ℕ). at more n) e ∙ knots_high x k t nan inside j (omega arith)

  every : (P : Float → Type 0) → ((i : ℕ) → 5 ≤ i → i ≤ m → P (at t i)) → P x → (i : ℕ) → 5 ≤ i → i ≤ m + 1 → P (at more i)
  every P h p i a b = elim (dec_lt k i) [
    | no l ↦ subst P (sym (before i (omega arith))) (h i a (omega arith))
    | yes l ↦ elim (dec_lt (k + 1) i) [
      | no g ↦ subst P (sym (here i (omega arith))) p
      | yes g ↦ subst P (sym (after i (i - 1) (omega arith) (omega arith))) (h (i - 1) (omega arith) (omega arith))
    ]
  ]

  rises : (i : ℕ) → 5 ≤ i → i < m + 1 → lt (at more i) (at more (i + 1)) ≡ true
  rises i a b = elim (dec_lt k i) [
    | no l ↦ elim (dec_lt i k) [
      | yes g ↦ rw (before i (omega arith), before (i + 1) (omega arith)) (r.rise i a (omega arith))
      | no g ↦
          let e : i ≡ k = omega arith in
          rw (before i (omega arith), here (i + 1) (omega arith), e) below
    ]
    | yes l ↦ elim (dec_lt (k + 1) i) [
      | no g ↦
          rw (here i (omega arith), after (i + 1) (k + 1) (omega arith) (omega arith)) above
      | yes g ↦
          let e : i - 1 + 1 ≡ i = omega arith in
          rw (after i (i - 1) (omega arith) (omega arith), after (i + 1) i refl (omega arith))
          (subst (λ (n : ℕ). lt (at t (i - 1)) (at t n) ≡ true) e (r.rise (i - 1) (omega arith) (omega arith)))
    ]
  ]

  pub insert_rising : Rising more (m + 1)
  insert_rising =
      record {
        six = omega (arith, r.six);
        long = knots_length x k t nan inside ∙ omega (arith, r.long);
        first = before 5 five ∙ r.first;
        last = after (m + 1) m refl (omega arith) ∙ r.last;
        number = every (λ v. T (finite v)) r.number (between_finite x (at t k) (at t (k + 1)) (holds below) (holds above));
        held = every (λ v. T (fits binary64 v)) r.held F;
        rise = rises;
      }

-- ---- the knots of a round: 16 lets only such through
finite_le : (x : Float) → T (finite x) → le x x ≡ true
finite_le x X = number_self x (finite_not_nan x X)

pub insert_all_rising : (k : ℕ) (l : List Float) (b b' : Spline) → All Number l → Rising b.t b.m → insert_all k l b ≡ done b'
    → Rising b'.t b'.m
unfolding insert_all insert_of outside
insert_all_rising k [] b b' a r h = subst (λ (z : Spline). Rising z.t z.m) (done_same h) r
insert_all_rising k (x ∷ l) b b' a r h =
    let n = not_refused (outside b x) 16 (insert_all k l (insert_of k x b)) b' h in
    let s = span_within b.t b.m x r.six in
    let o = or_none (le x (at b.t (span_in b x))) (le (at b.t (span_in b x + 1)) x) n.0 in
    let X = number_self x a.0.1 in
    let L = finite_le (at b.t (span_in b x)) (r.number (span_in b x) s.0 (omega arith)) in
    let U = finite_le (at b.t (span_in b x + 1)) (r.number (span_in b x + 1) (omega arith) (omega arith)) in
    insert_all_rising k l (insert_of k x b) b' a.1
    (insert_rising b.t b.m (span_in b x) x r s.0 s.1 a.0.0 (lt_of_not_le x (at b.t (span_in b x)) X L o.0)
    (lt_of_not_le (at b.t (span_in b x + 1)) x U X o.1))
    n.1

-- ---- the first knots
module _ (knots : List Float) (held : (i : ℕ) → i < length knots → Held (at knots i))
    (between : (i : ℕ) → i < length knots → Between (at knots i))
    (rises : (i : ℕ) → i + 1 < length knots → lt (at knots i) (at knots (i + 1)) ≡ true) where
  abbrev t : List Float
  t = open_knots knots

  abbrev ones : List Float
  ones = replicate 6 floats.one

  inner : (i : ℕ) → at t (6 + i) ≡ at (knots ++ ones) i
  unfolding open_knots
  inner i = get_or-append-add (zeros 6) (knots ++ ones) i nan

  knot : (i j : ℕ) → j ≡ 6 + i → i < length knots → at t j ≡ at knots i
  knot i j e h = ap (λ (n : ℕ). at t n) e ∙ inner i ∙ get_or-append knots ones nan i h

  end : (j : ℕ) → j ≡ length knots + 6 → at t j ≡ floats.one
  end j e =
      let g : j ≡ 6 + (length knots + 0) = omega arith in
      ap (λ (n : ℕ). at t n) g ∙ inner (length knots + 0) ∙ get_or-append-add knots ones 0 nan

  start : at t 5 ≡ +0
  unfolding open_knots
  start = refl

  -- a property of the inner knots, 0 and 1
  every_knot : (P : Float → Type 0) → P +0 → P floats.one → ((i : ℕ) → i < length knots → P (at knots i)) → (i : ℕ) → 5 ≤ i
      → i ≤ length knots + 6 → P (at t i)
  every_knot P z o h i a b = elim (dec_lt 5 i) [
    | no l ↦
        let e : 5 ≡ i = omega arith in subst (λ (n : ℕ). P (at t n)) e (subst P (sym start) z)
    | yes l ↦ elim (dec_lt i (length knots + 6)) [
      | yes g ↦ subst P (sym (knot (i - 6) i (omega arith) (omega arith))) (h (i - 6) (omega arith))
      | no g ↦ subst P (sym (end i (omega arith))) o
    ]
  ]

  zero_one : lt +0 floats.one ≡ true
  unfolding lt of_bits
  zero_one = refl

  rise_at : (i : ℕ) → 5 ≤ i → i < length knots + 6 → lt (at t i) (at t (i + 1)) ≡ true
  rise_at i a b = elim (dec_lt 5 i) [
    | no l ↦
        let e : i ≡ 5 = omega arith in
        let first : at t i ≡ +0 = ap (λ (n : ℕ). at t n) e ∙ start in
        elim (dec_lt 0 (length knots)) [
          | yes g ↦ rw (first, knot 0 (i + 1) (omega arith) g) (between 0 g).above
          | no g ↦ rw (first, end (i + 1) (omega arith)) zero_one
        ]
    | yes l ↦
        let j = i - 6 in
        let here = knot j i (omega arith) (omega arith) in
        elim (dec_lt (i + 1) (length knots + 6)) [
          | yes g ↦ rw (here, knot (j + 1) (i + 1) (omega arith) (omega arith)) (rises j (omega arith))
          | no g ↦ rw (here, end (i + 1) (omega arith)) (between j (omega arith)).below
        ]
  ]

  pub open_rising : Rising t (length knots + 6)
  unfolding open_knots of_bits fits
  open_rising =
      record {
        six = omega arith;
        long = length-append (zeros 6) (knots ++ ones) ∙ simp (length-append, length-replicate) (omega arith);
        first = start;
        last = end (length knots + 6) refl;
        number = every_knot (λ x. T (finite x)) tt tt (λ i h. (between i h).number);
        held = every_knot Held tt tt held;
        rise = rise_at;
      }

pub chord_rising : (q : Task) → Doubles q.s → let b = chord_of q (first_knots q) in Rising b.t b.m
unfolding chord_of first_knots
chord_rising q D = go (curved q)
  where
    go : (b : Bool) → let k = cond b (seed_of q.s q.y q.k) [] in Rising (open_knots k) (length k + 6)
    go true =
        open_rising (seed_of q.s q.y q.k) (seed_held q.s q.y q.k D) (seed_between q.s q.y q.k)
        (seed_rises q.s q.y q.k)
    go false = open_rising [] (λ i h. absurd (omega arith)) (λ i h. absurd (omega arith)) (λ i h. absurd (omega arith))

abbrev pub KnotsRising : State → Type 0
KnotsRising st = Rising st.b.t st.b.m

-- a fit and an audit keep the knots
pub keeps_rising : (g : ℕ) (q : Task) → Keeps g q (λ left st. KnotsRising st)
unfolding fitted audit_in audited
keeps_rising g q =
    record {
      fit =
          λ left a z strength st st' l r h e. subst (λ (s : State). KnotsRising s)
          (unless_done (fit_in q a z strength st.b).answered.number _ st' e).1 h;
      audit =
          λ left from to st st' l h e. subst (λ (s : State). KnotsRising s)
          (unless_done (audits.number_of (audit_at q from to st).outcome) _ st' e).1 h;
      insert = λ left st b t h e. insert_all_rising q.k (locations_of q st) st.b b (locations_numbers q st h) h e;
    }

-- after any number of rounds
pub course_rising : (g left : ℕ) (q : Task) (st : State) → Doubles q.s → and_then (start_of g q) (refine_of g left q) ≡ done st → KnotsRising st
unfolding chord_state
course_rising g left q st D e = (course_keeps g q (λ left st. KnotsRising st) (keeps_rising g q) left st (λ t. chord_rising q D) e).1

-- ---- the other axes: a knot at each inner waypoint
module _ (list : List Float) (n : ℕ) (two : 2 ≤ n) (doubles : Doubles list) (placed : misplaced list n ≡ false)
    (reliable : unreliable list n ≡ false) where
  abbrev s : ℕ → Float
  s = normalised_of list n

  inner_between : (i : ℕ) → 0 < i → i < n - 1 → Between (s i)
  inner_between i a b =
      record {
        number = normalised_finite list n two doubles placed reliable i (omega arith);
        above = inner_above list n two doubles placed reliable i a (omega arith);
        below = inner_below list n two doubles placed reliable i b;
      }

  -- l holds all n parameters
  pub others_rising : (l : List Float) → length l ≡ n → ((i : ℕ) → i < n → at l i ≡ s i) → Rising (open_knots (window 1 (n - 1) l)) (n + 4)
  others_rising l e cells =
      let w = length_window 1 (n - 1) l (omega arith) (omega arith) in
      let cell : (i : ℕ) → i < length (window 1 (n - 1) l) → at (window 1 (n - 1) l) i ≡ s (1 + i) =
      λ i h. window_cell 1 (n - 1) l i nan (omega arith) ∙ cells (1 + i) (omega arith) in
      let m : length (window 1 (n - 1) l) + 6 ≡ n + 4 = omega arith in
      subst (λ (k : ℕ). Rising (open_knots (window 1 (n - 1) l)) k) m
      (open_rising (window 1 (n - 1) l) (λ i h. subst (λ (x : Float). T (fits binary64 x)) (sym (cell i h))
      (normalised_fits list n two doubles placed reliable (1 + i)))
      (λ i h. subst Between (sym (cell i h)) (inner_between (1 + i) (omega arith) (omega arith)))
      (λ i h. let q : 1 + i + 1 ≡ 1 + (i + 1) = omega arith in
      rw (cell i (omega arith), cell (i + 1) h, ← q)
      (true_of (normalised_rises list n two doubles placed reliable (1 + i) (omega arith)))))
    where
      true_of : {b : Bool} → T b → b ≡ true
      true_of {b} h = go b h
        where
          go : (b : Bool) → T b → b ≡ true
          go true h = refl
          go false h = absurd h
