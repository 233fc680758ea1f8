-- The figure is at least every absolute end that goes into it, so it bounds curve minus line on every intersection, at every depth.
use mathlib.Core.Bool.{Bool, cond, false, true}
use mathlib.Core.List.{[], ◌∷◌}
use mathlib.Core.Logic.{◌⊎◌, inl, inr}
use mathlib.Core.Path.{◌≡◌, subst, sym}
use Prim.Native.Nat.{ℕ, zero, suc, ◌+◌, ◌-◌, ◌<◌, ◌≤◌}
use native.Mathlib.Decide.{dec_lt}
use native.Mathlib.Omega.{arith}
use lib.Dec.{T}
use lib.Ieee.{Float, lt, of_bits, of_fields, odd}
use lib.Ieee.Scale.{finite}
use lib.IntN.{pos}
use Rattle.arith.specs.Loop.{each, turns}
use Rattle.window.specs.Cells.{+0}
use Rattle.fraction.specs.Order.{le_one}
use Rattle.fraction.specs.Pair.{Ends, highest, largest_absolute, lowest, none, pair}
use Rattle.fraction.specs.Rational.{◌≤q◌, absolute, negq, ℚ}
use Rattle.fraction.specs.RationalRing.{rational_ring}
use Rattle.fraction.specs.Ring.{con, opposite, v0, v1}
use Rattle.fraction.specs.Value.{value}
use Rattle.fraction.proofs.Bernstein.{de_casteljau_ge, de_casteljau_le}
use Rattle.fraction.proofs.Lowest.{highest_is, lowest_is}
use Rattle.fraction.proofs.Pair.{largest_absolute_bounds}
use Rattle.fraction.proofs.Rational.{absolute_above, rational_order, ≤q-refl, ≤q-trans, ≤q-whole}
use Rattle.figure.specs.Operations.{ends}
use Rattle.figure.specs.Intersection.{Intersection, difference_bernstein}
use Rattle.figure.specs.Figure.{Axis, Figure, absolute_end, figure, figure_of, halved_figure, intersection, intersection_figure, larger, no_figure, six_figure, smaller, with_intersection}
use Rattle.figure.specs.Halving.{left_half, right_half}
use Rattle.figure.proofs.Enclosure.{Encloses, bernstein_encloses, ends_enclose, exact}
use Rattle.figure.proofs.Halves.{Throughout, halves_bound, left_keeps, right_keeps}

-- a figure is finite
abbrev pub Sound : Figure → Type 0
Sound (figure x) = T (finite x)
Sound no_figure = Unit {0}

-- there is a figure, and it is at most m
abbrev pub AtMost : Figure → ℚ → Type 0
AtMost (figure x) m = value x ≤q m
AtMost no_figure m = ⊥

-- there is a figure
abbrev pub Known : Figure → Type 0
Known (figure x) = Unit {0}
Known no_figure = ⊥

known : (g : Figure) (m : ℚ) → AtMost g m → Known g
known (figure x) m h = tt
known no_figure m h = h

at_most_itself : (g : Figure) → Known g → (m : ℚ) × AtMost g m
at_most_itself (figure x) h = (value x, ≤q-refl (value x))
at_most_itself no_figure h = absurd h

pub larger_sound : (g h : Figure) → Sound g → Sound h → Sound (larger g h)
unfolding larger
larger_sound (figure x) (figure y) G H = (highest_is x y G H).is_finite
larger_sound (figure x) no_figure G H = tt
larger_sound no_figure h G H = tt

larger_at_most : (g h : Figure) (m : ℚ) → Sound g → Sound h → AtMost (larger g h) m → AtMost g m × AtMost h m
unfolding larger
larger_at_most (figure x) (figure y) m G H l =
    let w = highest_is x y G H in (
      ≤q-trans (value x) (value (highest x y)) m w.first l,
      ≤q-trans (value y) (value (highest x y)) m
          w.second l,
    )
larger_at_most (figure x) no_figure m G H l = absurd l
larger_at_most no_figure h m G H l = absurd l

-- ---- loops that take the largest
-- f makes no figure smaller
record Grows (m : ℚ) (f : Figure → Figure) : Type 0 where
  sound : (g : Figure) → Sound g → Sound (f g)
  at_most : (g : Figure) → Sound g → AtMost (f g) m → AtMost g m

-- f was reached with some figure, and what it made of it is at most m
record Reached (m : ℚ) (f : Figure → Figure) : Type 0 where
  so_far : Figure
  sound : Sound so_far
  at_most : AtMost (f so_far) m

module _ (m : ℚ) (f : ℕ → Figure → Figure) where
  turns_grow : (n a : ℕ) → ((i : ℕ) → i < a + n → Grows m (f i)) → Grows m (turns f n a)
  unfolding turns
  turns_grow zero a G = record { sound = λ g h. h; at_most = λ g h l. l }
  turns_grow (suc n) a G =
      let now = G a (omega arith) in
      let rest = turns_grow n (a + 1) (λ i l. G i (omega arith)) in
      record {
        sound = λ g h. rest.sound (f a g) (now.sound g h);
        at_most = λ g h l. now.at_most g h
            (rest.at_most (f a g) (now.sound g h) l);
      }

  turns_reach : (n a : ℕ) → ((i : ℕ) → i < a + n → Grows m (f i)) → (g : Figure) → Sound g → AtMost (turns f n a g) m → (j : ℕ) → a ≤ j
      → j
      < a + n → Reached m (f j)
  unfolding turns
  turns_reach zero a G g h l j aj jn = absurd (omega arith)
  turns_reach (suc n) a G g h l j aj jn =
      let G' : (i : ℕ) → i < a + 1 + n → Grows m (f i) = λ i k. G i (omega arith) in
      elim (dec_lt a j) [
        | yes k ↦ turns_reach n (a + 1) G' (f a g) ((G a (omega arith)).sound g h) l j (omega arith) (omega arith)
        | no k ↦
            let e : a ≡ j = omega arith in
            subst (λ (i : ℕ). Reached m (f i)) e (record {
              so_far = g;
              sound = h;
              at_most = (turns_grow n (a + 1) G').at_most (f a g)
                  ((G a (omega arith)).sound g h) l;
            })
      ]

  each_grows : (n : ℕ) → ((i : ℕ) → i < n → Grows m (f i)) → Grows m (each f 0 n)
  unfolding each
  each_grows n G = turns_grow (n - 0) 0 (λ i l. G i (omega arith))

  each_reach : (n : ℕ) → ((i : ℕ) → i < n → Grows m (f i)) → (g : Figure) → Sound g → AtMost (each f 0 n g) m → (j : ℕ) → j < n
      → Reached m (f j)
  unfolding each
  each_reach n G g h l j jn = turns_reach (n - 0) 0 (λ i k. G i (omega arith)) g h l j (omega arith) (omega arith)

-- taking the larger of the figure so far and g
larger_grows : (m : ℚ) (g : Figure) → Sound g → Grows m (λ so_far. larger so_far g)
larger_grows m g G = record { sound = λ h H. larger_sound h g H G; at_most = λ h H l. (larger_at_most h g m H G l).0 }

pub zero_sound : Sound (figure +0)
unfolding of_bits of_fields odd
zero_sound = tt

-- ---- one intersection
absolute_sound : (e : Ends) (z : ℚ) → Encloses e z → Sound (absolute_end e)
unfolding absolute_end
absolute_sound (pair a b) z h = (largest_absolute_bounds a b z h).0
absolute_sound none z h = tt

absolute_at_most : (e : Ends) (z m : ℚ) → Encloses e z → AtMost (absolute_end e) m → absolute z ≤q m
unfolding absolute_end
absolute_at_most (pair a b) z m h l = ≤q-trans (absolute z) (value (largest_absolute a b)) m (largest_absolute_bounds a b z h).1 l
absolute_at_most none z m h l = absurd l

-- ---- six pairs, with a depth
-- what the smaller of two bounds, one of them does
smaller_at_most : (g h : Figure) (m : ℚ) → AtMost (smaller g h) m → AtMost g m ⊎ AtMost h m
unfolding smaller lowest
smaller_at_most (figure x) (figure y) m l = go (lt y x) l
  where
    go : (b : Bool) → value (cond b y x) ≤q m → (value x ≤q m) ⊎ (value y ≤q m)
    go true l = inr l
    go false l = inl l
smaller_at_most (figure x) no_figure m l = inl l
smaller_at_most no_figure h m l = absurd l

smaller_sound : (g h : Figure) → Sound g → Sound h → Sound (smaller g h)
unfolding smaller
smaller_sound (figure x) (figure y) G H = (lowest_is x y G H).is_finite
smaller_sound (figure x) no_figure G H = G
smaller_sound no_figure h G H = tt

-- where the smaller of two is a figure, the first is one
smaller_first : (g h : Figure) (m : ℚ) → AtMost (smaller g h) m → Known g
unfolding smaller
smaller_first (figure x) (figure y) m l = tt
smaller_first (figure x) no_figure m l = tt
smaller_first no_figure h m l = l

-- the pairs p enclose the exact coefficients c
abbrev pub Enclosed : (ℕ → Ends) → (ℕ → ℚ) → Type 0
Enclosed p c = (k : ℕ) → k ≤ 5 → Encloses (p k) (c k)

module _ (p : ℕ → Ends) (c : ℕ → ℚ) (E : Enclosed p c) where
  pair_sound : (k : ℕ) → k < 6 → Sound (absolute_end (p k))
  pair_sound k l = absolute_sound (p k) (c k) (E k (omega arith))

  pair_grows : (m : ℚ) (k : ℕ) → k < 6 → Grows m (λ so_far. larger so_far (absolute_end (p k)))
  pair_grows m k l = larger_grows m (absolute_end (p k)) (pair_sound k l)

  pub six_sound : Sound (six_figure p)
  unfolding six_figure
  six_sound = (each_grows (value +0) (λ k so_far. larger so_far (absolute_end (p k))) 6 (pair_grows (value +0))).sound
      (figure +0) zero_sound

  -- each pair has an absolute end at most the figure
  six_ends : (m : ℚ) → AtMost (six_figure p) m → (k : ℕ) → k ≤ 5 → AtMost (absolute_end (p k)) m
  unfolding six_figure
  six_ends m h k l =
      let r = each_reach m (λ k so_far. larger so_far (absolute_end (p k))) 6 (pair_grows m) (figure +0) zero_sound
      h k (omega arith) in
      (larger_at_most r.so_far (absolute_end (p k)) m r.sound (pair_sound k (omega arith)) r.at_most).1

  -- so the figure bounds the exact polynomial
  six_bounds : (m : ℚ) → AtMost (six_figure p) m → Throughout (negq m) m c
  six_bounds m h v v0' v1' =
      let b : (k : ℕ) → k ≤ 5 → absolute (c k) ≤q m = λ k l. absolute_at_most (p k) (c k) m (E k l) (six_ends m h k l) in (
        de_casteljau_ge rational_ring ◌≤q◌ rational_order 5 c (negq m) v (λ k l. le_one rational_ring ◌≤q◌ rational_order (m ∷ c k ∷ [])
            (opposite v0) v1 (con (pos 1)) (opposite v1) v0 tt (≤q-whole 1) (≤q-trans (negq (c k)) (absolute (c k)) m
            (absolute_above (c k)).1 (b k l))) v0' v1',
        de_casteljau_le rational_ring ◌≤q◌ rational_order 5 c m v (λ k l. ≤q-trans (c k) (absolute (c k)) m (absolute_above (c k)).0
            (b k l)) v0' v1',
      )

  pub left_enclosed : Enclosed (left_half ends p) (left_half exact c)
  left_enclosed = left_keeps ends exact Encloses ends_enclose p c E

  pub right_enclosed : Enclosed (right_half ends p) (right_half exact c)
  right_enclosed = right_keeps ends exact Encloses ends_enclose p c E

either_bounds : (p : ℕ → Ends) (c : ℕ → ℚ) → Enclosed p c → (m : ℚ) (f g : Figure) → Sound f → Sound g
    → (AtMost f m → Throughout (negq m) m (left_half exact c)) → (AtMost g m → Throughout (negq m) m (right_half exact c)) → AtMost
    (six_figure p) m ⊎ AtMost (larger f g) m → Throughout (negq m) m c
either_bounds p c E m f g F G L R (inl h) = six_bounds p c E m h
either_bounds p c E m f g F G L R (inr h) = let w = larger_at_most f g m F G h in halves_bound (negq m) m c (L w.0) (R w.1)

pub halved_sound : (depth : ℕ) (p : ℕ → Ends) (c : ℕ → ℚ) → Enclosed p c → Sound (halved_figure depth p)
unfolding halved_figure
halved_sound zero p c E = six_sound p c E
halved_sound (suc depth) p c E =
    let f = halved_figure depth (left_half ends p) in
    let g = halved_figure depth (right_half ends p) in
    smaller_sound (six_figure p) (larger f g) (six_sound p c E)
    (larger_sound f g (halved_sound depth (left_half ends p) (left_half exact c) (left_enclosed p c E))
    (halved_sound depth (right_half ends p) (right_half exact c) (right_enclosed p c E)))

-- Where there is a figure at some depth, there is one at depth 0.
pub halved_own : (depth : ℕ) (p : ℕ → Ends) (m : ℚ) → AtMost (halved_figure depth p) m → Known (six_figure p)
unfolding halved_figure
halved_own zero p m h = known (six_figure p) m h
halved_own (suc depth) p m h = smaller_first (six_figure p) (larger (halved_figure depth (left_half ends p))
    (halved_figure depth (right_half ends p))) m h

-- At every depth the figure bounds the polynomial whose Bernstein coefficients the pairs enclose, everywhere from 0 to 1.
pub halved_bounds : (depth : ℕ) (p : ℕ → Ends) (c : ℕ → ℚ) → Enclosed p c → (m : ℚ) → AtMost (halved_figure depth p) m → Throughout
    (negq m) m c
unfolding halved_figure
halved_bounds zero p c E m h = six_bounds p c E m h
halved_bounds (suc depth) p c E m h =
    let lp = left_half ends p in
    let rp = right_half ends p in
    let lc = left_half exact c in
    let rc = right_half exact c in
    let L = left_enclosed p c E in
    let R = right_enclosed p c E in
    either_bounds p c E m (halved_figure depth lp) (halved_figure depth rp) (halved_sound depth lp lc L) (halved_sound depth rp rc R)
    (halved_bounds depth lp lc L m) (halved_bounds depth rp rc R m)
    (smaller_at_most (six_figure p) (larger (halved_figure depth lp) (halved_figure depth rp)) m h)

module _ (depth : ℕ) (x : Intersection) where
  intersection_sound : Sound (intersection_figure depth x)
  unfolding intersection_figure
  intersection_sound = halved_sound depth (difference_bernstein ends x) (difference_bernstein exact x) (bernstein_encloses x)

  -- where there is a figure, the six Bernstein coefficients are pairs
  pub intersection_pairs : (m : ℚ) → AtMost (intersection_figure depth x) m → (k : ℕ) → k ≤ 5 → Known
      (absolute_end (difference_bernstein ends x k))
  unfolding intersection_figure
  intersection_pairs m h k l =
      let p = difference_bernstein ends x in
      let own = at_most_itself (six_figure p) (halved_own depth p m h) in
      known (absolute_end (p k)) own.0 (six_ends p (difference_bernstein exact x) (bernstein_encloses x) own.0 own.1 k l)

  -- an intersection's figure bounds curve minus line
  pub intersection_bounds : (m : ℚ) → AtMost (intersection_figure depth x) m → Throughout (negq m) m (difference_bernstein exact x)
  unfolding intersection_figure
  intersection_bounds m h = halved_bounds depth (difference_bernstein ends x) (difference_bernstein exact x) (bernstein_encloses x)
      m h

-- ---- all intersections
module _ (depth : ℕ) (x : Axis) where
  with_grows : (m : ℚ) (i n : ℕ) → Grows m (with_intersection depth x i n)
  unfolding with_intersection
  with_grows m i n = go (lt (intersection x i n).left (intersection x i n).right)
    where
      go : (b : Bool) → Grows m (λ so_far. cond b (larger so_far (intersection_figure depth (intersection x i n))) so_far)
      go true = larger_grows m (intersection_figure depth (intersection x i n)) (intersection_sound depth (intersection x i n))
      go false = record { sound = λ g h. h; at_most = λ g h l. l }

  figure_sound : Sound (figure_of depth x)
  unfolding figure_of
  figure_sound =
      (each_grows (value +0) (λ i. each (with_intersection depth x i) 0 x.segments) x.intervals
      (λ i _. each_grows (value +0) (with_intersection depth x i) x.segments (λ n _. with_grows (value +0) i n))).sound (figure +0)
      zero_sound

  figure_reach : (m : ℚ) → AtMost (figure_of depth x) m → (i n : ℕ) → i < x.intervals → n < x.segments
      → T (lt (intersection x i n).left (intersection x i n).right) → AtMost (intersection_figure depth (intersection x i n)) m
  unfolding figure_of with_intersection
  figure_reach m h i n il nl t =
      let outer = each_reach m (λ i. each (with_intersection depth x i) 0 x.segments) x.intervals
      (λ i _. each_grows m (with_intersection depth x i) x.segments (λ n _. with_grows m i n)) (figure +0) zero_sound h i il in
      let inner = each_reach m (with_intersection depth x i) x.segments (λ n _. with_grows m i n) outer.so_far outer.sound
      outer.at_most n nl in
      go (lt (intersection x i n).left (intersection x i n).right) t inner.so_far inner.sound inner.at_most
    where
      go : (b : Bool) → T b → (g : Figure) → Sound g → AtMost (cond b (larger g (intersection_figure depth (intersection x i n))) g) m
          → AtMost (intersection_figure depth (intersection x i n)) m
      go true t g G l = (larger_at_most g (intersection_figure depth (intersection x i n)) m G
          (intersection_sound depth (intersection x i n)) l).1
      go false t g G l = absurd t

  module _ (F : Float) (given : figure_of depth x ≡ figure F) where
    -- the figure given is finite
    pub given_finite : T (finite F)
    given_finite = subst Sound given figure_sound

    -- the figure given is at least that of every intersection
    pub given_at_least : (i n : ℕ) → i < x.intervals → n < x.segments → T (lt (intersection x i n).left (intersection x i n).right)
        → AtMost (intersection_figure depth (intersection x i n)) (value F)
    given_at_least = figure_reach (value F) (subst (λ (g : Figure). AtMost g (value F)) (sym given) (≤q-refl (value F)))
