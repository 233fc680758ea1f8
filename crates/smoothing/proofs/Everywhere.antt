-- What holds of every element of a list, kept by the steps that make the knots and the locations; and that these are numbers of the format.
use Rattle.std.proofs.Common.{◌≡◌, ℕ, zero, suc, ◌+◌, ◌-◌, ◌<◌, Bool, true, false, cond, T, List, [], ◌∷◌, ◌++◌, length, pos, sym, refl, subst, arith}
use Rattle.std.specs.Prelude.{Option, Some}
use lib.Ieee.{Float, fin, binary64, fits, round}
use lib.Ieee.Fits.{add-fits, sub-fits, div-fits}
use lib.Ieee.Positive.{positive}
use Rattle.arith.specs.Operations.{floats}
use Rattle.window.specs.Cells.{at, Doubles}
use Rattle.fraction.proofs.Rounding.{add_rounded, quotient_number, rounded_not_nan}
use Rattle.float.specs.Order.{total_le}
use Rattle.window.specs.Rows.{join}
use Rattle.bspline.proofs.InsertPlaced.{span_within}
use Rattle.sorting.specs.Sort.{placed, sort_of}
use Rattle.sorting.specs.Thin.{thinned, dedup_of, kept_of}
use Rattle.seed.specs.Knots.{around, anchor_knots, raw_knots, seed_of}
use Rattle.seed.specs.Anchors.{anchors_of}
use Rattle.smoothing.specs.Rows.{Task}
use Rattle.smoothing.specs.State.{Spline, State}
use Rattle.smoothing.specs.Round.{selected, span_in, middle_of, raw_locations, locations_of}
use Rattle.smoothing.specs.Rising.{Rising, All, Number}

module _ (P : Float → Type 0) where
  append_all : (l r : List Float) → All P l → All P r → All P (l ++ r)
  append_all [] r h k = k
  append_all (x ∷ l) r h k = (h.0, append_all l r h.1 k)

  join_all : (n : ℕ) (f : ℕ → List Float) → ((i : ℕ) → All P (f i)) → All P (join n f)
  unfolding join
  join_all zero f h = tt
  join_all (suc n) f h = append_all (join n f) (f n) (join_all n f h) (h n)

  placed_all : (x : Float) (l : List Float) → P x → All P l → All P (placed x l)
  unfolding placed
  placed_all x [] p h = (p, tt)
  placed_all x (y ∷ l) p h = go (total_le x y) (placed_all x l p h.1)
    where
      go : (b : Bool) → All P (placed x l) → All P (cond b (x ∷ (y ∷ l)) (y ∷ placed x l))
      go true k = (p, h)
      go false k = (h.0, k)

  sort_all : (l : List Float) → All P l → All P (sort_of l)
  unfolding sort_of
  sort_all [] h = tt
  sort_all (x ∷ l) h = placed_all x (sort_of l) h.0 (sort_all l h.1)

  thinned_all : (test : Option Float → Float → Bool) (last : Option Float) (l : List Float) → All P l → All P (thinned test last l)
  unfolding thinned
  thinned_all test last [] h = tt
  thinned_all test last (x ∷ l) h = go (test last x) (thinned_all test (Some x) l h.1) (thinned_all test last l h.1)
    where
      go : (b : Bool) → All P (thinned test (Some x) l) → All P (thinned test last l)
          → All P (cond b (x ∷ thinned test (Some x) l) (thinned test last l))
      go true k g = (h.0, k)
      go false k g = g

  all_at : (l : List Float) → All P l → (i : ℕ) → i < length l → P (at l i)
  all_at [] h i k = absurd (omega arith)
  all_at (x ∷ l) h zero k = h.0
  all_at (x ∷ l) h (suc i) k = all_at l h.1 i (omega arith)

-- ---- the seed's knots are numbers of the format
abbrev pub Held : Float → Type 0
Held x = T (fits binary64 x)

knots_held : (s y : List Float) (d : ℕ) → Doubles s → (indices : List ℕ) → All Held (anchor_knots s y d indices)
unfolding anchor_knots around
knots_held s y d D [] = tt
knots_held s y d D (a ∷ []) = tt
knots_held s y d D (a ∷ (b ∷ [])) = tt
knots_held s y d D (a ∷ (b ∷ (c ∷ rest))) =
    append_all Held (around s y d a b c) (anchor_knots s y d (b ∷ (c ∷ rest))) (sub-fits binary64 _ _, (D b, (add-fits binary64 _ _, tt)))
    (knots_held s y d D (b ∷ (c ∷ rest)))

pub seed_held : (s y : List Float) (d : ℕ) → Doubles s → (i : ℕ) → i < length (seed_of s y d) → Held (at (seed_of s y d) i)
unfolding seed_of raw_knots kept_of
seed_held s y d D = all_at Held (seed_of s y d) (thinned_all Held _ _ _ (sort_all Held _ (knots_held s y d D (anchors_of s y d))))

-- ---- the locations are, too, and none is a NaN
two_above : T (positive (floats.literal 2 1))
two_above = let e : floats.literal 2 1 ≡ fin false 1 (pos 1) = unfold round in refl in subst (λ (x : Float). T (positive x)) (sym e) tt

middle_number : (b : Spline) (w : Float) → Rising b.t b.m → Number (middle_of b w)
unfolding middle_of
middle_number b w r =
    let s = span_within b.t b.m w r.six in (
      div-fits binary64 _ _,
      quotient_number binary64 _
          (rounded_not_nan binary64 _ _ (add_rounded binary64 (at b.t (span_in b w)) (at b.t (span_in b w + 1))
          (r.number (span_in b w) s.0 (omega arith)) (r.number (span_in b w + 1) (omega arith) (omega arith))))
          (floats.literal 2 1) two_above,
    )

pub locations_numbers : (q : Task) (st : State) → Rising st.b.t st.b.m → All Number (locations_of q st)
unfolding locations_of raw_locations dedup_of
locations_numbers q st r =
    thinned_all Number _ _ _
    (sort_all Number _ (join_all Number (q.n - 1) _
    (λ i. one (selected q.k st.bounds i) (middle_of st.b (at st.witness i)) (middle_number st.b (at st.witness i) r))))
  where
    one : (b : Bool) (x : Float) → Number x → All Number (cond b (x ∷ []) [])
    one true x n = (n, tt)
    one false x n = tt
