-- Why the walk along a waypoint interval ends, whatever the numbers are, NaN included: `turns_left` falls with each turn that does not end
-- it.
-- A turn goes to the interval's end, where no turn is left, or to the right break of its segment. In the second case the next turn moves
-- the span on, or, in the last segment, finds its right end not above its left end.
use mathlib.Core.Path.{◌≡◌, refl, sym, ap, ◌∙◌}
use mathlib.Core.Bool.{Bool, true, false, cond, true≢false}
use mathlib.Core.List.{List}
use Prim.Native.Nat.{ℕ, ◌+◌, ◌-◌, ◌*◌, ◌≤◌, ◌<◌}
use native.Mathlib.Omega.{arith}
use native.Mathlib.Decide.{dec_lt}
use borrow.Author.Tests.{le-ltb, eq-eqb}
use lib.ListN.{length}
use lib.Ieee.{Float, nan, inf, fin, up, down, is_nan, lt, eq, le}
use Rattle.window.specs.Cells.{at}
use Rattle.float.specs.Order.{chosen, min_of}
use Rattle.polynomial.specs.Span.{segments}

-- no number is below itself
lt_itself : (x : Float) → lt x x ≡ false
unfolding lt
lt_itself nan = refl
lt_itself (inf true) = refl
lt_itself (inf false) = refl
lt_itself (fin true m e) = le-ltb (m * up e * down e) (m * up e * down e) (omega arith)
lt_itself (fin false m e) = le-ltb (m * up e * down e) (m * up e * down e) (omega arith)

-- what is below something is at most itself
le_itself : (x y : Float) → lt x y ≡ true → le x x ≡ true
unfolding lt eq le
le_itself nan y h = absurd (true≢false (sym h))
le_itself (inf true) y h = refl
le_itself (inf false) y h = refl
le_itself (fin true m e) y h = let a = m * up e * down e in rw (le-ltb a a (omega arith), eq-eqb a a refl)
le_itself (fin false m e) y h = let a = m * up e * down e in rw (le-ltb a a (omega arith), eq-eqb a a refl)

-- what something is below is no NaN
above_number : (x y : Float) → lt x y ≡ true → is_nan y ≡ false
unfolding lt is_nan
above_number nan y h = absurd (true≢false (sym h))
above_number (inf s) nan h = absurd (true≢false (sym h))
above_number (inf s) (inf t) h = refl
above_number (inf s) (fin t n d) h = refl
above_number (fin s m e) nan h = absurd (true≢false (sym h))
above_number (fin s m e) (inf t) h = refl
above_number (fin s m e) (fin t n d) h = refl

-- the lesser of the interval's end and a break
module _ (end left break : Float) (below : lt left end ≡ true) where
  pub to_end : lt break end ≡ false → min_of end break ≡ end
  unfolding chosen
  to_end h = rw (above_number left end below, h)

  pub to_break : lt break end ≡ true → min_of end break ≡ break
  unfolding chosen
  to_break h = rw (above_number left end below, h)

-- at most so many turns are left at `left` in segment `span`: one for each segment from there on, one more where the right break of this
-- one is not passed yet, and one; none at the interval's end
abbrev unpassed : Bool → ℕ
unpassed passed = cond passed 0 1

unfoldable pub turns_left : List Float → Float → Float → ℕ → ℕ
turns_left breaks end left span = cond (lt left end) (1 + (segments breaks - span) + unpassed (le (at breaks (span + 1)) left)) 0

pub turns_most : (breaks : List Float) (end left : Float) (span : ℕ) → span + 1 < length breaks → turns_left breaks end left span
    < length breaks + 2
unfolding turns_left
turns_most breaks end left span h = go (lt left end) (le (at breaks (span + 1)) left)
  where
    go : (b p : Bool) → cond b (1 + (segments breaks - span) + unpassed p) 0 < length breaks + 2
    go true true = omega arith
    go true false = omega arith
    go false p = omega arith

module _ (breaks : List Float) (end left : Float) (span : ℕ) where
  none_left : lt left end ≡ false → turns_left breaks end left span ≡ 0
  unfolding turns_left
  none_left h = rw h

  some_left : lt left end ≡ true → turns_left breaks end left span ≡ 1 + (segments breaks - span) + unpassed (le (at breaks (span + 1)) left)
  unfolding turns_left
  some_left h = rw h

-- the turn from `left` to the lesser of the end and the right break of segment k
module _ (breaks : List Float) (end left : Float) (span k : ℕ) (on : span ≤ k) (inside : k + 1 < length breaks) (below : lt left end ≡ true)
    (above : le (min_of end (at breaks (k + 1))) left ≡ false) where
  pub turns_fall : turns_left breaks end (min_of end (at breaks (k + 1))) k < turns_left breaks end left span
  turns_fall = go (lt (at breaks (k + 1)) end) refl
    where
      go : (t : Bool) → lt (at breaks (k + 1)) end ≡ t → turns_left breaks end (min_of end (at breaks (k + 1))) k
          < turns_left breaks end left span
      go false e =
          let now = some_left breaks end left span below in
          let then = none_left breaks end end k (lt_itself end) in
          rw (to_end end left (at breaks (k + 1)) below e) (omega arith)
      go true e =
          let now = some_left breaks end left span below in
          let then = some_left breaks end (at breaks (k + 1)) k e in
          let passed : unpassed (le (at breaks (k + 1)) (at breaks (k + 1))) ≡ 0 = ap unpassed (le_itself (at breaks (k + 1)) end e) in
          rw (to_break end left (at breaks (k + 1)) below e)
          (elim (dec_lt span k) [
            | yes s ↦ omega arith
            | no s ↦
                let same : span ≡ k = omega arith in
                let ahead : le (at breaks (span + 1)) left ≡ false = ap (λ (m : ℕ). le (at breaks (m + 1)) left) same
                ∙ (rw (to_break end left (at breaks (k + 1)) below e) at above) in
                let one : unpassed (le (at breaks (span + 1)) left) ≡ 1 = ap unpassed ahead in
                omega arith
          ])
