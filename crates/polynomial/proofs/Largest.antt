-- Of six finite coefficients the largest absolute value does what all do one after the other.
use mathlib.Core.Path.{◌≡◌, refl, sym, ap, ◌∙◌}
use mathlib.Core.Bool.{Bool, true, false, ◌&&◌, cond, true≢false}
use mathlib.Core.List.{List}
use Prim.Native.Nat.{ℕ}
use lib.Ieee.{Float, nan, inf, fin, is_nan, lt, le}
use lib.Ieee.Scale.{finite}
use Rattle.arith.specs.Loop.{each, turns}
use Rattle.window.specs.Cells.{at}
use Rattle.fraction.specs.Value.{absolute_float}
use Rattle.fraction.proofs.Comparison.{number_self}
use Rattle.float.specs.Order.{chosen, max_of}
use Rattle.arith.proofs.FloatOrder.{lt_le, lt_le_trans, lt_of_not_le}
use Rattle.polynomial.specs.declared.piece.Largest.{Largest}
use Rattle.polynomial.specs.Interval.{all_finite, largest_turn}
use Rattle.polynomial.specs.Largest.{larger_of, largest_of}

-- ---- the order
finite_self : (x : Float) → finite x ≡ true → le x x ≡ true
unfolding is_nan
finite_self nan h = absurd (true≢false (sym h))
finite_self (inf s) h = absurd (true≢false (sym h))
finite_self (fin s m e) h = number_self (fin s m e) tt

finite_number : (x : Float) → finite x ≡ true → is_nan x ≡ false
unfolding is_nan
finite_number nan h = absurd (true≢false (sym h))
finite_number (inf s) h = absurd (true≢false (sym h))
finite_number (fin s m e) h = refl

-- a number below the second of two numbers, of which the first is not below it, is below the first
below_first : (p m v : Float) → finite m ≡ true → finite v ≡ true → lt m v ≡ false → lt p v ≡ true → lt p m ≡ true
below_first p m v fm fv c h = lt_le_trans p v m h (go (le v m) refl)
  where
    go : (b : Bool) → le v m ≡ b → b ≡ true
    go true e = refl
    go false e = absurd (true≢false (sym (lt_of_not_le v m (finite_self v fv) (finite_self m fm) e) ∙ c))

-- and one that is not below the first is not below the second
not_below : (p m v : Float) → finite m ≡ true → finite v ≡ true → lt m v ≡ false → lt p m ≡ false → lt p v ≡ false
not_below p m v fm fv c a = go (lt p v) refl
  where
    go : (b : Bool) → lt p v ≡ b → b ≡ false
    go true e = absurd (true≢false (sym (below_first p m v fm fv c e) ∙ a))
    go false e = refl

-- ---- one coefficient after the other
module _ (middle : Float) where
  -- what a coefficient of absolute value m makes of the largest so far
  abbrev taken : Float → Largest → Largest
  taken m l = record {
    bound = max_of l.bound m;
    peak = cond (lt l.peak m) m l.peak;
    witness = cond (lt l.peak m) middle
        l.witness;
  }

  module _ (m v : Float) (fm : finite m ≡ true) (fv : finite v ≡ true) where
    peaks : (p : Float) → cond (lt (cond (lt p m) m p) v) v (cond (lt p m) m p) ≡ cond (lt p (larger_of m v)) (larger_of m v) p
    peaks p = go (lt p m) (lt m v) refl refl
      where
        go : (a c : Bool) → lt p m ≡ a → lt m v ≡ c → cond (lt (cond (lt p m) m p) v) v (cond (lt p m) m p)
            ≡ cond (lt p (larger_of m v)) (larger_of m v) p
        go true true ea ec = rw (ec, ea, ec, lt_le_trans p m v ea (lt_le m v ec))
        go true false ea ec = rw (ec, ea, ec)
        go false true ea ec = rw (ec, ea)
        go false false ea ec = rw (ec, ea, not_below p m v fm fv ec ea)

    witnesses : (p w : Float) → cond (lt (cond (lt p m) m p) v) middle (cond (lt p m) middle w) ≡ cond (lt p (larger_of m v)) middle w
    witnesses p w = go (lt p m) (lt m v) refl refl
      where
        go : (a c : Bool) → lt p m ≡ a → lt m v ≡ c → cond (lt (cond (lt p m) m p) v) middle (cond (lt p m) middle w)
            ≡ cond (lt p (larger_of m v)) middle w
        go true true ea ec = rw (ec, ea, ec, lt_le_trans p m v ea (lt_le m v ec))
        go true false ea ec = rw (ec, ea, ec)
        go false true ea ec = rw (ec, ea)
        go false false ea ec = rw (ec, ea, not_below p m v fm fv ec ea)

    bounds : (x : Float) → max_of (max_of x m) v ≡ max_of x (larger_of m v)
    unfolding chosen
    bounds x = go (is_nan x) (lt x m) (lt m v) refl refl refl
      where
        go : (n a c : Bool) → is_nan x ≡ n → lt x m ≡ a → lt m v ≡ c → max_of (max_of x m) v ≡ max_of x (larger_of m v)
        go true a c en ea ec = rw (en, finite_number m fm)
        go false true true en ea ec = rw (en, ec, ea, finite_number m fm, ec, lt_le_trans x m v ea (lt_le m v ec))
        go false true false en ea ec = rw (en, ec, ea, finite_number m fm, ec)
        go false false true en ea ec = rw (en, ec, ea, en)
        go false false false en ea ec = rw (en, ec, ea, en, not_below x m v fm fv ec ea)

    two : (l : Largest) → taken v (taken m l) ≡ taken (larger_of m v) l
    two l = λ i. record { bound = bounds l.bound i; peak = peaks l.peak i; witness = witnesses l.peak l.witness i }

    larger_finite : finite (larger_of m v) ≡ true
    larger_finite = go (lt m v)
      where
        go : (c : Bool) → finite (cond c v m) ≡ true
        go true = fv
        go false = fm

-- ---- all six
absolute_finite : (x : Float) → finite x ≡ true → finite (absolute_float x) ≡ true
absolute_finite nan h = h
absolute_finite (inf s) h = absurd (true≢false (sym h))
absolute_finite (fin s m e) h = refl

first_of : (p q : Bool) → (p && q) ≡ true → p ≡ true
first_of true q h = refl
first_of false q h = h

second_of : (p q : Bool) → (p && q) ≡ true → q ≡ true
second_of true q h = h
second_of false q h = absurd (true≢false (sym h))

pub largest_takes : (b : List Float) (middle : Float) (l : Largest) → all_finite b ≡ true → taken middle (largest_of b) l
    ≡ each (largest_turn b middle) 0 6 l
unfolding all_finite largest_of largest_turn each turns
largest_takes b middle l h =
    let v : ℕ → Float = λ k. absolute_float (at b k) in
    let f : ℕ → Bool = λ k. finite (at b k) in
    let h5 = first_of (f 0 && f 1 && f 2 && f 3 && f 4) (f 5) h in
    let h4 = first_of (f 0 && f 1 && f 2 && f 3) (f 4) h5 in
    let h3 = first_of (f 0 && f 1 && f 2) (f 3) h4 in
    let h2 = first_of (f 0 && f 1) (f 2) h3 in
    let h1 = first_of (f 0) (f 1) h2 in
    let f0 = absolute_finite (at b 0) h1 in
    let f1 = absolute_finite (at b 1) (second_of (f 0) (f 1) h2) in
    let f2 = absolute_finite (at b 2) (second_of (f 0 && f 1) (f 2) h3) in
    let f3 = absolute_finite (at b 3) (second_of (f 0 && f 1 && f 2) (f 3) h4) in
    let f4 = absolute_finite (at b 4) (second_of (f 0 && f 1 && f 2 && f 3) (f 4) h5) in
    let f5 = absolute_finite (at b 5) (second_of (f 0 && f 1 && f 2 && f 3 && f 4) (f 5) h) in
    let m1 = larger_of (v 0) (v 1) in
    let m2 = larger_of m1 (v 2) in
    let m3 = larger_of m2 (v 3) in
    let m4 = larger_of m3 (v 4) in
    let g1 = larger_finite middle (v 0) (v 1) f0 f1 in
    let g2 = larger_finite middle m1 (v 2) g1 f2 in
    let g3 = larger_finite middle m2 (v 3) g2 f3 in
    let g4 = larger_finite middle m3 (v 4) g3 f4 in
    sym (ap (λ (s : Largest). taken middle (v 5) (taken middle (v 4) (taken middle (v 3) (taken middle (v 2) s))))
    (two middle (v 0) (v 1) f0 f1 l)
    ∙ ap (λ (s : Largest). taken middle (v 5) (taken middle (v 4) (taken middle (v 3) s))) (two middle m1 (v 2) g1 f2 l)
    ∙ ap (λ (s : Largest). taken middle (v 5) (taken middle (v 4) s)) (two middle m2 (v 3) g2 f3 l)
    ∙ ap (λ (s : Largest). taken middle (v 5) s) (two middle m3 (v 4) g3 f4 l)
    ∙ two middle m4 (v 5) g4 f5 l)
