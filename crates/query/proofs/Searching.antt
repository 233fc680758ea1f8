-- On breaks that rise, the segment that holds a parameter is the one that the definition finds.
use mathlib.Core.Path.{◌≡◌, refl}
use mathlib.Core.Bool.{Bool, true, false}
use mathlib.Core.List.{List}
use Prim.Native.Nat.{ℕ, zero, suc, ◌+◌, ◌-◌, ◌*◌, ◌≤◌, ◌<◌}
use native.Mathlib.Nat.{le_of_lt, mul-le-mul_right}
use native.Mathlib.Omega.{arith}
use native.Mathlib.Decide.{dec_lt}
use lib.ListN.{length}
use lib.Ieee.{Float, nan, lt, le}
use Rattle.arith.proofs.Truth.{clash}
use Rattle.window.specs.Cells.{+0, at}
use Rattle.bspline.specs.Search.{partition_point}
use Rattle.bspline.proofs.PartitionPoint.{all_before, none_from}
use Rattle.arith.proofs.FloatOrder.{le_trans, lt_le, le_lt_trans, lt_le_trans}
use Rattle.polynomial.specs.Span.{break_span}
use Rattle.query.specs.Search.{RisingBreaks, Found}

module _ (breaks : List Float) (rising : RisingBreaks breaks) where
  -- no break is below 0
  pub at_least : (i : ℕ) → i < length breaks → le +0 (at breaks i) ≡ true
  at_least zero l = rising.0 l
  at_least (suc i) l =
      let e : i + 1 ≡ suc i = omega arith in
      le_trans +0 (at breaks i) (at breaks (suc i)) (at_least i (omega arith))
      (lt_le (at breaks i) (at breaks (suc i)) (rw e at (rising.1 i (omega arith))))

  -- all but the first are above it
  pub above_first : (i : ℕ) → 0 < i → i < length breaks → lt +0 (at breaks i) ≡ true
  above_first i p l =
      let e : i - 1 + 1 ≡ i = omega arith in
      le_lt_trans +0 (at breaks (i - 1)) (at breaks i) (at_least (i - 1) (omega arith)) (rw e at (rising.1 (i - 1) (omega arith)))

  module _ (x : Float) where
    falls : (i : ℕ) → i + 1 < length breaks → le (at breaks (i + 1)) x ≡ true → le (at breaks i) x ≡ true
    falls i l h = le_trans (at breaks i) (at breaks (i + 1)) x (lt_le (at breaks i) (at breaks (i + 1)) (rising.1 i l)) h

    further : (n i : ℕ) → i + n < length breaks → le (at breaks (i + n)) x ≡ true → le (at breaks i) x ≡ true
    further zero i l h = let e : i + 0 ≡ i = omega arith in rw e at h
    further (suc n) i l h =
        let e : i + suc n ≡ i + n + 1 = omega arith in further n i (omega arith) (falls (i + n) (omega arith) (rw e at h))

    -- the breaks before one that is at or below x are, too
    pub before : (i j : ℕ) → i ≤ j → j < length breaks → le (at breaks j) x ≡ true → le (at breaks i) x ≡ true
    before i j m l h = let e : i + (j - i) ≡ j = omega arith in further (j - i) i (omega arith) (rw e h)

    -- those after one that is not, are not
    pub after : (i j : ℕ) → i ≤ j → j < length breaks → le (at breaks i) x ≡ false → le (at breaks j) x ≡ false
    after i j m l h = go (le (at breaks j) x) refl
      where
        go : (b : Bool) → le (at breaks j) x ≡ b → b ≡ false
        go true e = clash (before i j m l e) h
        go false e = refl

    abbrev point : ℕ
    point = partition_point nan (λ v. le v x) breaks

    passes : (i : ℕ) → i < length breaks → le (at breaks i) x ≡ true → i < point
    passes i l h = elim (dec_lt i point) [
      | yes g ↦ g
      | no g ↦ clash h (none_from nan (λ v. le v x) breaks falls i (omega arith) l)
    ]

    fails : (i : ℕ) → le (at breaks i) x ≡ false → point ≤ i
    fails i h = elim (dec_lt i point) [
      | yes g ↦ clash (all_before nan (λ v. le v x) breaks falls i g) h
      | no g ↦ omega arith
    ]

    low : (r : ℕ) → Found breaks x r → r ≤ point - 1
    low zero f = omega arith
    low (suc r) f = let p = passes (suc r) (omega (arith, f.0)) (f.1 (omega arith)) in omega arith

    high : (r : ℕ) → Found breaks x r → break_span breaks x ≤ r
    high r f = elim (dec_lt (r + 2) (length breaks)) [
      | yes g ↦ let p = fails (r + 1) (f.2 g) in omega arith
      | no g ↦ omega (arith, f.0)
    ]

    pub found_span : (r : ℕ) → Found breaks x r → r ≡ break_span breaks x
    found_span r f = omega (arith, low r f, high r f, f.0)

    -- what is not above 0 lies on the first segment
    pub found_first : lt +0 x ≡ false → 2 ≤ length breaks → Found breaks x 0
    found_first h l = (omega arith, λ g. absurd (omega arith), λ g. go (le (at breaks 1) x) refl)
      where
        go : (b : Bool) → le (at breaks 1) x ≡ b → b ≡ false
        go true e = clash (lt_le_trans +0 (at breaks 1) x (above_first 1 (omega arith) (omega arith)) e) h
        go false e = refl

-- of the j - 1 breaks that follow the one at base, `step` apart, the first c are at or below x, and the others are not
abbrev pub Passing : List Float → Float → ℕ → ℕ → ℕ → ℕ → Type 0
Passing breaks x base step j c =
    (c < j) × (1 ≤ c → le (at breaks (base + c * step)) x ≡ true) × (c + 1 < j → le (at breaks (base + (c + 1) * step)) x ≡ false)

-- one more is tried
module _ (breaks : List Float) (rising : RisingBreaks breaks) (x : Float) (base step j c : ℕ) (inside : base + j * step < length breaks)
    (p : Passing breaks x base step j c) where
  pub passing_next : (r : ℕ) → r ≤ 1 → (r ≡ 1 → le (at breaks (base + j * step)) x ≡ true)
      → (r ≡ 0 → le (at breaks (base + j * step)) x ≡ false) → Passing breaks x base step (j + 1) (c + r)
  passing_next zero l yes' no' = (omega (arith, p.0), λ h. rw plus (p.1 (rw plus at h)), λ h. rw plus (next h))
    where
      plus : c + 0 ≡ c
      plus = omega arith

      next : c + 0 + 1 < j + 1 → le (at breaks (base + (c + 1) * step)) x ≡ false
      next h = elim (dec_lt (c + 1) j) [
        | yes g ↦ p.2 g
        | no g ↦ let e : c + 1 ≡ j = omega (arith, p.0) in rw e (no' refl)
      ]
  passing_next (suc r) l yes' no' =
      let o : suc r ≡ 1 = omega arith in
      let t = yes' o in
      let e : c + suc r ≡ j = last t o in
      (omega arith, λ h. rw e t, λ h. absurd (omega arith))
    where
      last : le (at breaks (base + j * step)) x ≡ true → suc r ≡ 1 → c + suc r ≡ j
      last t o = elim (dec_lt (c + 1) j) [
        | yes g ↦ clash (before breaks rising x (base + (c + 1) * step) (base + j * step) (further_on g) inside t) (p.2 g)
        | no g ↦ omega (arith, p.0)
      ]
        where
          further_on : c + 1 < j → base + (c + 1) * step ≤ base + j * step
          further_on g = let m = mul-le-mul_right step (le_of_lt g) in omega arith

-- the segment of x is among `size` from `base` on
abbrev pub Window : List Float → Float → ℕ → ℕ → Type 0
Window breaks x base size =
    (1 ≤ size) × (base + size < length breaks) × (0 < base → le (at breaks base) x ≡ true)
    × (base + size + 1 < length breaks → le (at breaks (base + size)) x ≡ false)

module _ (breaks : List Float) (rising : RisingBreaks breaks) (x : Float) (base size : ℕ) (w : Window breaks x base size) where
  -- a quarter of it is left
  pub narrowed : (step c : ℕ) → 1 ≤ step → 4 * step ≤ size → Passing breaks x base step 4 c
      → Window breaks x (base + step * c) (size - 3 * step)
  narrowed step c one four p =
      let most : c * step ≤ 3 * step = mul-le-mul_right step (omega (arith, p.0)) in
      (omega arith, omega (arith, w.1), λ l. low (dec_lt 0 c) l, λ l. high (dec_lt (c + 1) 4) most l)
    where
      low : Dec (0 < c) → 0 < base + step * c → le (at breaks (base + step * c)) x ≡ true
      low (yes g) l = let e : base + step * c ≡ base + c * step = omega arith in rw e (p.1 g)
      low (no g) l =
          let z : c ≡ 0 = omega arith in
          let e : base + step * c ≡ base = rw z (omega arith) in
          rw e (w.2 (rw e at l))

      high : Dec (c + 1 < 4) → c * step ≤ 3 * step → base + step * c + (size - 3 * step) + 1 < length breaks
          → le (at breaks (base + step * c + (size - 3 * step))) x ≡ false
      high (yes g) most l = after breaks rising x (base + (c + 1) * step) (base + step * c + (size - 3 * step)) (omega arith) (omega arith)
          (p.2 g)
      high (no g) most l =
          let z : c ≡ 3 = omega (arith, p.0) in
          let e : base + step * c + (size - 3 * step) ≡ base + size = rw z (omega arith) in
          rw e (w.3 (rw e at l))

  -- and at last one
  pub left_one : (c : ℕ) → Passing breaks x base 1 size c → Found breaks x (base + c)
  left_one c p = (omega (arith, w.1, p.0), λ l. low (dec_lt 0 c) l, λ l. high (dec_lt (c + 1) size) l)
    where
      low : Dec (0 < c) → 0 < base + c → le (at breaks (base + c)) x ≡ true
      low (yes g) l = let e : base + c ≡ base + c * 1 = omega arith in rw e (p.1 g)
      low (no g) l = let e : base + c ≡ base = omega arith in rw e (w.2 (rw e at l))

      high : Dec (c + 1 < size) → base + c + 2 < length breaks → le (at breaks (base + c + 1)) x ≡ false
      high (yes g) l = let e : base + c + 1 ≡ base + (c + 1) * 1 = omega arith in rw e (p.2 g)
      high (no g) l = let e : base + c + 1 ≡ base + size = omega (arith, p.0) in rw e (w.3 (omega arith))
