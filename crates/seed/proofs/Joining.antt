-- A turn of the walk over the locations, and what holds of a region.
use mathlib.Core.Path.{◌≡◌, refl, subst}
use mathlib.Core.Bool.{Bool, true, false, cond}
use mathlib.Core.List.{List, [], ◌∷◌}
use Prim.Native.Nat.{ℕ, ◌+◌, ◌-◌, ◌≤◌, ◌<◌, max, min}
use native.Mathlib.Numerals.{add-one}
use native.Mathlib.Omega.{arith}
use lib.Dec.{leb}
use lib.ListN.{length, drop, drop_of_length-le}
use lib.Seq.{drop-cons}
use lib.Ieee.{Float, nan}
use Rattle.window.specs.Cells.{at}
use Rattle.seed.specs.Regions.{Range, range, range_of, merged, regions_of}

module _ (t : List Float) (m : ℕ) (x : List Float) (i : ℕ) where
  -- the first location's controls
  pub region_opens : (r : Range) → i < length x → r ≡ range_of t m (at x i) → merged t m r (drop (i + 1) x) ≡ regions_of t m (drop i x)
  unfolding regions_of
  region_opens r h e = rw (drop-cons x i nan h, e, add-one i)

  -- a location whose controls join
  pub region_grows : (a z : ℕ) (r : Range) → i < length x → r ≡ range_of t m (at x i) → leb r.a (z + 5) ≡ true
      → merged t m (range a z) (drop i x) ≡ merged t m (range a (max z r.z)) (drop (i + 1) x)
  unfolding merged
  region_grows a z r h e f = rw (drop-cons x i nan h, ← e, f, add-one i)

  -- a location whose controls do not
  pub region_parts : (a z : ℕ) (r : Range) → i < length x → r ≡ range_of t m (at x i) → leb r.a (z + 5) ≡ false
      → merged t m (range a z) (drop i x) ≡ range a z ∷ regions_of t m (drop i x)
  unfolding merged regions_of
  region_parts a z r h e f = rw (drop-cons x i nan h, ← e, f)

  -- no location is left
  pub region_ends : (a z : ℕ) → length x ≤ i → merged t m (range a z) (drop i x) ≡ range a z ∷ regions_of t m (drop i x)
  unfolding merged regions_of
  region_ends a z h = rw (drop_of_length-le x h)

-- ---- what holds of a region of m controls: it lies strictly between the first control and the last, and is not empty
pub record Inside (m : ℕ) (r : Range) : Type 0 where
  pub after_first : 1 ≤ r.a
  pub some : r.a < r.z
  pub before_last : r.z ≤ m - 1

inside_at : (k last m : ℕ) → 2 ≤ last → last ≡ m - 1 → k ≤ max 5 last → Inside m (range (max (k - 10) 1) (min (k + 6) last))
inside_at k last m h e g = record { after_first = omega arith; some = omega arith; before_last = omega arith }

range_inside : (t : List Float) (m : ℕ) (x : Float) → 2 < m → Inside m (range_of t m x)
unfolding range_of
range_inside t m x h = inside_at _ (m - 1) m (omega arith) refl (below _ (m - 1))
  where
    below : (p last : ℕ) → max 5 (min last p) ≤ max 5 last
    below p last = omega arith

-- the first region of a list of them
abbrev Head : (Range → Type 0) → List Range → Type 0
Head P [] = Unit {0}
Head P (r ∷ rest) = P r

joined_inside : (t : List Float) (m : ℕ) (last : Range) (x : List Float) → 2 < m → Inside m last → Head (Inside m) (merged t m last x)
unfolding merged
joined_inside t m last [] h p = p
joined_inside t m last (v ∷ x) h p =
    go (leb (range_of t m v).a (last.z + 5)) (joined_inside t m (range last.a (max last.z (range_of t m v).z)) x h grown)
  where
    q : Inside m (range_of t m v)
    q = range_inside t m v h

    grown : Inside m (range last.a (max last.z (range_of t m v).z))
    grown = record {
      after_first = p.after_first;
      some = omega (arith, p.some);
      before_last = omega
          (arith, p.before_last, q.before_last);
    }

    go : (b : Bool) → Head (Inside m) (merged t m (range last.a (max last.z (range_of t m v).z)) x)
        → Head (Inside m) (cond b (merged t m (range last.a (max last.z (range_of t m v).z)) x) (last ∷ merged t m (range_of t m v) x))
    go true g = g
    go false g = p

-- the region that comes first leaves out the first and the last control and is not empty; of more than two controls
pub region_inside : (t : List Float) (m : ℕ) (x : List Float) (r : Range) (rest : List Range) → 2 < m → regions_of t m x ≡ r ∷ rest
    → Inside m r
unfolding regions_of
region_inside t m [] r rest h e = let z : ◌≡◌ {A = ℕ} 0 1 = cc in absurd (omega arith)
region_inside t m (v ∷ x) r rest h e = subst (Head (Inside m)) e (joined_inside t m (range_of t m v) x h (range_inside t m v h))
