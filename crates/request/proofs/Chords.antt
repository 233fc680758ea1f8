-- Document 02, request 3: "equal neighbours or an infinite chord give 5".
use mathlib.Core.Path.{◌≡◌, refl, sym, ap, subst, ◌∙◌}
use mathlib.Core.Bool.{Bool, true, false, not, ◌||◌, or-true, true≢false}
use mathlib.Core.List.{List, [], ◌∷◌}
use Prim.Native.Nat.{ℕ, zero, suc, ◌+◌, ◌*◌, ◌<◌}
use native.Mathlib.Omega.{arith}
use lib.Dec.{T, eqb}
use lib.IntN.{pos}
use lib.ListN.{length}
use lib.Ieee.{Float, nan, inf, fin, binary64, add, fits, sub, mul, le, round, sum}
use lib.Ieee.Scale.{finite}
use Rattle.window.specs.Cells.{at}
use Rattle.fraction.specs.Rational.{ℚ, ◌≤q◌, ◌+q◌}
use Rattle.fraction.specs.RationalRing.{rational_ring}
use Rattle.fraction.specs.Ring.{con, solve, var, ◌⊕◌}
use Rattle.fraction.specs.Value.{value}
use Rattle.fraction.proofs.DirectedSum.{zero_value}
use Rattle.fraction.proofs.OwnRounding.{rounds_below}
use Rattle.fraction.proofs.Rational.{≤q-refl}
use Rattle.fraction.proofs.Rounding.{add_rounded}
use Rattle.fraction.proofs.Value.{plus_zero}
use Rattle.float.specs.Root.{sqrt_of}
use Rattle.request.specs.declared.parameters.Spacing.TheVariants.{Chord}
use Rattle.request.specs.Any.{any}
use Rattle.request.specs.Parameters.{sum_of, square_of, chord_length, parameter_list, any_fall, misplaced}
use Rattle.request.proofs.Anys.{any_found}
use Rattle.request.proofs.Normalised.{less_itself}
use Rattle.request.proofs.Spaced.{chord_at, chord_next, sum_fits}
use Rattle.request.proofs.InPlace.{misplaced_found}

-- a parameter that is infinite, a NaN, or at or below the one before it is refused
pub not_above_misplaced : (p : List Float) (n i : ℕ) → i + 1 < n → (not (finite (at p (i + 1))) || le (at p (i + 1)) (at p i)) ≡ true
    → misplaced p n ≡ true
unfolding misplaced
not_above_misplaced p n i l h = go (not (eqb (length p) n)) (any n (λ j. not (finite (at p j)))) (any_fall n (at p))
    (misplaced_found (at p) n (omega arith) i (omega arith) h)
  where
    go : (a b c : Bool) → (b || c) ≡ true → (a || b || c) ≡ true
    go true b c h = refl
    go false b c h = h

-- so is one that is not finite
pub infinite_misplaced : (p : List Float) (n i : ℕ) → i < n → finite (at p i) ≡ false → misplaced p n ≡ true
unfolding misplaced
infinite_misplaced p n i l h =
    go (not (eqb (length p) n)) _ (any_fall n (at p)) (any_found (λ j. not (finite (at p j))) n i l (ap not h))
  where
    go : (a b c : Bool) → b ≡ true → (a || b || c) ≡ true
    go true b c h = refl
    go false true c h = refl
    go false false c h = absurd (true≢false (sym h))

-- ---- an infinite chord
beyond : (x : Float) → finite (add binary64 x (inf false)) ≡ false
unfolding add
beyond nan = refl
beyond (inf true) = refl
beyond (inf false) = refl
beyond (fin s m e) = refl

pub infinite_chord : (list points : List Float) (d n i : ℕ) → i + 1 < n → chord_length points d i ≡ inf false
    → misplaced (parameter_list Chord list points d n) n ≡ true
infinite_chord list points d n i l h =
    let p = parameter_list Chord list points d n in
    let e = chord_next list points d n i l ∙ ap (add binary64 (at p i)) h in
    infinite_misplaced p n (i + 1) l (ap finite e ∙ beyond (at p i))

-- ---- equal neighbours
abbrev nought : Float
nought = fin false 0 (pos 0)

-- a sum of zeros
zeros_sum : (d : ℕ) (x : ℕ → Float) → ((r : ℕ) → r < d → x r ≡ nought) → sum_of d x ≡ nought
unfolding sum_of add sum round
zeros_sum zero x h = plus_zero binary64
zeros_sum (suc d) x h = rw (zeros_sum d x (λ r l. h r (omega arith)), h d (omega arith))

module _ (points : List Float) (d i : ℕ) (equal : (r : ℕ) → r < d → at points ((i + 1) * d + r) ≡ at points (i * d + r))
    (number : (r : ℕ) → r < d → T (finite (at points (i * d + r)))) where
  no_square : (r : ℕ) → r < d → square_of points d i r ≡ nought
  unfolding square_of mul round
  no_square r l =
      let e = ap (λ (x : Float). sub binary64 x (at points (i * d + r))) (equal r l)
      ∙ less_itself binary64 (at points (i * d + r)) (number r l) in
      ap (λ (x : Float). mul binary64 x x) e

  no_chord : chord_length points d i ≡ nought
  unfolding chord_length sqrt_of
  no_chord = ap (sqrt_of binary64) (zeros_sum d (square_of points d i) no_square)

  pub equal_neighbours : (list : List Float) (n : ℕ) → i + 1 < n → misplaced (parameter_list Chord list points d n) n ≡ true
  equal_neighbours list n l = go (finite (at p i)) refl
    where
      p : List Float
      p = parameter_list Chord list points d n

      go : (b : Bool) → finite (at p i) ≡ b → misplaced p n ≡ true
      go false h = infinite_misplaced p n i (omega arith) h
      go true h =
          let x = at p i in
          let e = chord_next list points d n i l ∙ ap (add binary64 x) no_chord in
          let F = subst (λ (y : Float). T (fits binary64 y)) (sym (chord_at list points d n i (omega arith)))
          (sum_fits i (chord_length points d)) in
          let X : T (finite x) = subst T (sym h) tt in
          let v : value x +q value nought ≡ value x =
          ap (λ (z : ℚ). value x +q z) (zero_value false 0 (pos 0) refl)
          ∙ solve rational_ring (value x ∷ []) (var 0 ⊕ con (pos 0)) (var 0) tt in
          let below = rounds_below binary64 x F X (add binary64 x nought) (value x +q value nought) (add_rounded binary64 x nought X tt)
          (subst (λ (z : ℚ). z ≤q value x) (sym v) (≤q-refl (value x))) in
          let fell : le (at p (i + 1)) x ≡ true = ap (λ (y : Float). le y x) e ∙ below in
          not_above_misplaced p n i l (ap (λ (b : Bool). not (finite (at p (i + 1))) || b) fell ∙ or-true (not (finite (at p (i + 1)))))
