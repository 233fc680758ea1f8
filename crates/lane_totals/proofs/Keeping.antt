-- Kept totals stand for the totals: merged kept totals stand for the merged ones.
use mathlib.Core.Path.{◌≡◌, refl, sym, ap, ◌∙◌, subst}
use mathlib.Core.Bool.{Bool, true, false, not, cond}
use mathlib.Core.Option.{Option, some, none}
use mathlib.Core.List.{[], ◌∷◌}
use Prim.Native.Nat.{ℕ, zero, suc, ◌+◌, ◌-◌, ◌*◌, ◌≤◌, ◌<◌, min, max}
use native.Mathlib.Omega.{arith}
use native.Mathlib.Numerals.{add-one}
use borrow.Author.Tests.{ne_eqb}
use lib.Dec.{T, ltb, ltb→lt, nltb→le}
use lib.IntN.{ℤ, pos, negsuc, ◌+ℤ◌, ◌-ℤ◌}
use Rattle.fraction.specs.Integer.{integer_ring}
use Rattle.fraction.specs.Ring.{solve, ◌⊕◌, opposite, v0, v1, v2, v3}
use Rattle.arith.specs.First.{first_of}
use Rattle.arith.proofs.Firsts.{first_next}
use Rattle.heights.specs.Lifted.{lowered}
use Rattle.heights.specs.Controls.{AxisSet, controls_on, any_beyond, segment_fits}
use Rattle.lane_totals.specs.declared.sums.Sums.{Sums}
use Rattle.lane_totals.specs.Totals.{Totals, lower, higher, either, merge}
use Rattle.lane_totals.specs.Lanes.{lowest_of, highest_of, sum_of, step_totals, segment_totals, lane_over}
use Rattle.lane_totals.specs.Kept.{kept_as, totals_in, Kept, merged_of, Small}

-- 2,000,000 less: below it and from it on
below : (a : ℕ) → a < 2000000 → lowered a ≡ negsuc (2000000 - suc a)
below a h = go (ltb a 2000000) (nltb→le a 2000000)
  where
    go : (c : Bool) → (T (not c) → 2000000 ≤ a) → cond c (negsuc (2000000 - suc a)) (pos (a - 2000000)) ≡ negsuc (2000000 - suc a)
    go true f = refl
    go false f = absurd (omega (arith, f tt))

above : (a : ℕ) → 2000000 ≤ a → lowered a ≡ pos (a - 2000000)
above a h = go (ltb a 2000000) (ltb→lt a 2000000)
  where
    go : (c : Bool) → (T c → a < 2000000) → cond c (negsuc (2000000 - suc a)) (pos (a - 2000000)) ≡ pos (a - 2000000)
    go true f = absurd (omega (arith, f tt))
    go false f = refl

-- the lower and the higher of two numbers, as they are kept
pub lower_kept : (a b : ℕ) → lower (lowered a) (lowered b) ≡ lowered (min a b)
lower_kept a b = go (ltb a 2000000) (ltb→lt a 2000000) (nltb→le a 2000000) (ltb b 2000000) (ltb→lt b 2000000) (nltb→le b 2000000)
  where
    go : (s : Bool) → (T s → a < 2000000) → (T (not s) → 2000000 ≤ a) → (t : Bool) → (T t → b < 2000000) → (T (not t) → 2000000 ≤ b)
        → lower (lowered a) (lowered b) ≡ lowered (min a b)
    go true f f' true g g' =
        let h = f tt in
        let k = g tt in
        rw (below a h, below b k, below (min a b) (omega arith)) (ap negsuc (omega arith))
    go true f f' false g g' =
        let h = f tt in
        let k = g' tt in
        let m : min a b ≡ a = omega arith in
        rw (m, below a h, above b k)
    go false f f' true g g' =
        let h = f' tt in
        let k = g tt in
        let m : min a b ≡ b = omega arith in
        rw (m, above a h, below b k)
    go false f f' false g g' =
        let h = f' tt in
        let k = g' tt in
        rw (above a h, above b k, above (min a b) (omega arith)) (ap pos (omega arith))

pub higher_kept : (a b : ℕ) → higher (lowered a) (lowered b) ≡ lowered (max a b)
higher_kept a b = go (ltb a 2000000) (ltb→lt a 2000000) (nltb→le a 2000000) (ltb b 2000000) (ltb→lt b 2000000) (nltb→le b 2000000)
  where
    go : (s : Bool) → (T s → a < 2000000) → (T (not s) → 2000000 ≤ a) → (t : Bool) → (T t → b < 2000000) → (T (not t) → 2000000 ≤ b)
        → higher (lowered a) (lowered b) ≡ lowered (max a b)
    go true f f' true g g' =
        let h = f tt in
        let k = g tt in
        rw (below a h, below b k, below (max a b) (omega arith)) (ap negsuc (omega arith))
    go true f f' false g g' =
        let h = f tt in
        let k = g' tt in
        let m : max a b ≡ b = omega arith in
        rw (m, below a h, above b k)
    go false f f' true g g' =
        let h = f' tt in
        let k = g tt in
        let m : max a b ≡ a = omega arith in
        rw (m, above a h, below b k)
    go false f f' false g g' =
        let h = f' tt in
        let k = g' tt in
        rw (above a h, above b k, above (max a b) (omega arith)) (ap pos (omega arith))

-- with a height there is a number
kept_some : (n v : ℕ) → 0 < n → kept_as n v ≡ some (lowered v)
kept_some n v h = rw (ne_eqb n 0 (λ e. absurd (omega (arith, e))))

-- of m and n heights: without one the kept number is the largest, for the highest 0
pub lowest_kept : (m n a b : ℕ) → a ≤ 4000000 → b ≤ 4000000 → (m ≡ 0 → a ≡ 4000000) → (n ≡ 0 → b ≡ 4000000)
    → either lower (kept_as m a) (kept_as n b) ≡ kept_as (m + n) (min a b)
lowest_kept zero zero a b h g x y = refl
lowest_kept zero (suc n) a b h g x y =
    let q : min a b ≡ b = omega (arith, x refl) in
    kept_some (suc n) b (omega arith) ∙ sym (kept_some (0 + suc n) (min a b) (omega arith) ∙ ap (λ (v : ℕ). some (lowered v)) q)
lowest_kept (suc m) zero a b h g x y =
    let q : min a b ≡ a = omega (arith, y refl) in
    ap (λ (x : Option ℤ). either lower x none) (kept_some (suc m) a (omega arith))
    ∙ sym (kept_some (suc m + 0) (min a b) (omega arith) ∙ ap (λ (v : ℕ). some (lowered v)) q)
lowest_kept (suc m) (suc n) a b h g x y =
    ap (λ (x : Option ℤ). either lower x (kept_as (suc n) b)) (kept_some (suc m) a (omega arith))
    ∙ ap (either lower (some (lowered a))) (kept_some (suc n) b (omega arith))
    ∙ ap some (lower_kept a b) ∙ sym (kept_some (suc m + suc n) (min a b) (omega arith))

pub highest_kept : (m n a b : ℕ) → (m ≡ 0 → a ≡ 0) → (n ≡ 0 → b ≡ 0) → either higher (kept_as m a) (kept_as n b) ≡ kept_as (m + n) (max a b)
highest_kept zero zero a b x y = refl
highest_kept zero (suc n) a b x y =
    let q : max a b ≡ b = omega (arith, x refl) in
    kept_some (suc n) b (omega arith) ∙ sym (kept_some (0 + suc n) (max a b) (omega arith) ∙ ap (λ (v : ℕ). some (lowered v)) q)
highest_kept (suc m) zero a b x y =
    let q : max a b ≡ a = omega (arith, y refl) in
    ap (λ (x : Option ℤ). either higher x none) (kept_some (suc m) a (omega arith))
    ∙ sym (kept_some (suc m + 0) (max a b) (omega arith) ∙ ap (λ (v : ℕ). some (lowered v)) q)
highest_kept (suc m) (suc n) a b x y =
    ap (λ (x : Option ℤ). either higher x (kept_as (suc n) b)) (kept_some (suc m) a (omega arith))
    ∙ ap (either higher (some (lowered a))) (kept_some (suc n) b (omega arith))
    ∙ ap some (higher_kept a b) ∙ sym (kept_some (suc m + suc n) (max a b) (omega arith))

-- two sums
pub sums_kept : (k s t m n : ℕ) → (pos s -ℤ pos (k * m)) +ℤ (pos t -ℤ pos (k * n)) ≡ pos (s + t) -ℤ pos (k * (m + n))
sums_kept k s t m n =
    solve integer_ring (pos s ∷ pos t ∷ pos (k * m) ∷ pos (k * n) ∷ [])
    ((v0 ⊕ opposite v2) ⊕ (v1 ⊕ opposite v3)) ((v0 ⊕ v1) ⊕ opposite (v2 ⊕ v3)) tt
    ∙ ap (λ (i : ℕ). pos (s + t) -ℤ pos i) {x = k * m + k * n} {y = k * (m + n)} (omega arith)

module _ (n m n' m' : ℕ) (a b : Sums) (p : Kept n m a) (q : Kept n' m' b) where
  pub merged_kept : totals_in (merged_of a b) ≡ merge (totals_in a) (totals_in b)
  unfolding merge
  merged_kept = λ i. record {
    lanes = a.lanes + b.lanes;
    segments = a.segments + b.segments;
    lowest = sym (lowest_kept a.segments b.segments a.lowest b.lowest p.lowest q.lowest p.none_lowest
        q.none_lowest) i;
    highest = sym (highest_kept a.segments b.segments a.highest b.highest p.none_highest q.none_highest) i;
    sum = sym (sums_kept 512000000 a.sum b.sum a.segments b.segments) i;
    turned_away = a.turned_away + b.turned_away;
  }

  pub both_kept : Kept (n + n') (m + m') (merged_of a b)
  both_kept =
      record {
        files = omega (arith, p.files, q.files);
        segments = omega (arith, p.segments, q.segments);
        lowest = omega (arith, p.lowest);
        highest = omega (arith, p.highest, q.highest);
        sum = omega (arith, p.sum, q.sum);
        none_lowest = λ e. omega (arith, p.none_lowest (omega (arith, e)), q.none_lowest (omega (arith, e)));
        none_highest = λ e. omega (arith, p.none_highest (omega (arith, e)), q.none_highest (omega (arith, e)));
      }

pub kept_wider : (n m m' : ℕ) (a : Sums) → m ≤ m' → Kept n m a → Kept n m' a
kept_wider n m m' a h p =
    record {
      files = p.files;
      segments = omega (arith, p.segments);
      lowest = p.lowest;
      highest = p.highest;
      sum = p.sum;
      none_lowest = p.none_lowest;
      none_highest = p.none_highest;
    }

pub kept_small : (n m : ℕ) (a : Sums) → n ≤ 65535 → m ≤ 1310700000 → Kept n m a → Small a
kept_small n m a h g p =
    let s : a.segments ≤ 1310700000 = omega (arith, p.segments) in
    (omega (arith, p.files), s, omega (arith, p.sum, s), omega (arith, p.files))

-- ---- the steps of a segment
-- j heights, as they are kept
pub record Stepped (f : ℕ → ℤ) (low high sum j : ℕ) : Type 0 where
  pub lowest : kept_as j low ≡ lowest_of j f
  pub highest : kept_as j high ≡ highest_of j f
  pub total : pos sum -ℤ pos (2000000 * j) ≡ sum_of j f
  pub low_bound : low ≤ 4000000
  pub high_bound : high ≤ 4000000
  pub sum_bound : sum ≤ 4000000 * j
  pub none_low : j ≡ 0 → low ≡ 4000000
  pub none_high : j ≡ 0 → high ≡ 0

pub stepped_none : (f : ℕ → ℤ) → Stepped f 4000000 0 0 0
unfolding lowest_of highest_of sum_of
stepped_none f =
    record {
      lowest = refl;
      highest = refl;
      total = refl;
      low_bound = omega arith;
      high_bound = omega arith;
      sum_bound = omega arith;
      none_low = λ e. refl;
      none_high = λ e. refl;
    }

pub stepped_next : (f : ℕ → ℤ) (low high sum j h low' high' : ℕ) → Stepped f low high sum j → lowered h ≡ f j → h ≤ 4000000
    → low' ≡ min low h → high' ≡ max high h → Stepped f low' high' (sum + h) (j + 1)
unfolding lowest_of highest_of sum_of
stepped_next f low high sum j h low' high' s e b el eh =
    let one : kept_as 1 h ≡ some (f j) = ap some e in
    record {
      lowest = rw (add-one, el) (
          ap (λ (n : ℕ). kept_as n (min low h)) (sym (add-one j))
          ∙ sym (lowest_kept j 1 low h s.low_bound b s.none_low (λ z. absurd (omega (arith, z))))
          ∙ ap (λ (x : Option ℤ). either lower x (kept_as 1 h)) s.lowest ∙ ap (either lower (lowest_of j f)) one);
      highest = rw (add-one, eh) (
          ap (λ (n : ℕ). kept_as n (max high h)) (sym (add-one j))
          ∙ sym (highest_kept j 1 high h s.none_high (λ z. absurd (omega (arith, z))))
          ∙ ap (λ (x : Option ℤ). either higher x (kept_as 1 h)) s.highest ∙ ap (either higher (highest_of j f)) one);
      total = rw add-one (
          ap (λ (n : ℕ). pos (sum + h) -ℤ pos (2000000 * n)) (sym (add-one j))
          ∙ sym (sums_kept 2000000 sum h j 1)
          ∙ ap (λ (x : ℤ). x +ℤ lowered h) s.total ∙ ap (λ (x : ℤ). sum_of j f +ℤ x) e);
      low_bound = omega (arith, el, b);
      high_bound = omega (arith, eh, b, s.high_bound);
      sum_bound = omega (arith, s.sum_bound, b);
      none_low = λ z. absurd (omega (arith, z));
      none_high = λ z. absurd (omega (arith, z));
    }

-- all 256
pub stepped_all : (f : ℕ → ℤ) (low high sum j : ℕ) → j ≡ 256 → Stepped f low high sum j
    → (totals_in (record { lanes = 0; segments = 1; lowest = low; highest = high; sum = sum; turned_away = 0 }) ≡ step_totals 256 f)
    × Kept 0 1 (record { lanes = 0; segments = 1; lowest = low; highest = high; sum = sum; turned_away = 0 })
stepped_all f low high sum j q s' =
    let s : Stepped f low high sum 256 = subst (Stepped f low high sum) q s' in (
      (λ i. record { lanes = 0; segments = 1; lowest = s.lowest i; highest = s.highest i; sum = s.total i; turned_away = 0 }),
      record {
        files = refl;
        segments = omega arith;
        lowest = s.low_bound;
        highest = s.high_bound;
        sum = omega (arith, s.sum_bound);
        none_lowest = λ z. absurd (omega (arith, z));
        none_highest = λ z. absurd (omega (arith, z));
      },
    )

-- ---- the segments of a lane
pub record Gathered (x : AxisSet) (all : Sums) (i : ℕ) : Type 0 where
  pub upto : first_of i (λ j. not (segment_fits x j)) ≡ i
  pub there : totals_in all ≡ lane_over x i
  pub kept : Kept 1 i all

pub gathered_next : (x : AxisSet) (all one all' : Sums) (i : ℕ) → Gathered x all i → any_beyond (controls_on x i) ≡ false
    → totals_in one ≡ segment_totals x i → Kept 0 1 one → all' ≡ merged_of all one → Gathered x all' (i + 1)
unfolding lane_over
gathered_next x all one all' i g fits e k q =
    rw q (record {
      upto = first_next (λ j. not (segment_fits x j)) i g.upto (ap (λ (b : Bool). not (not b)) fits);
      there = rw add-one (merged_kept 1 i 0 1 all one g.kept k
          ∙ ap (λ (t : Totals). merge t (totals_in one)) g.there ∙ ap (merge (lane_over x i)) e);
      kept = subst (λ (n : ℕ). Kept n (i + 1) (merged_of all one)) {x = 1 + 0} {y = 1} refl (both_kept 1 i 0 1 all one g.kept k);
    })
