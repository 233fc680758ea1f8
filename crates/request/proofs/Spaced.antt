-- The parameters by the rule of spacing: each of them, their count, and that they are f64s.
use mathlib.Core.Path.{◌≡◌, refl, sym, subst, ◌∙◌}
use mathlib.Core.List.{List}
use Prim.Native.Nat.{ℕ, zero, suc, ◌+◌, ◌<◌}
use native.Mathlib.Decide.{dec_lt}
use native.Mathlib.Numerals.{add-one}
use native.Mathlib.Omega.{arith}
use lib.Dec.{T}
use lib.ListN.{length, get_or-eq_default}
use lib.Ieee.{Float, nan, binary64, add, fits, of_bits}
use lib.Ieee.Fits.{add-fits, div-fits}
use Rattle.window.specs.Cells.{+0, at, Doubles}
use Rattle.window.specs.Rows.{list_of}
use Rattle.window.proofs.Joined.{list_at, list_length}
use Rattle.request.specs.declared.parameters.Spacing.{Spacing}
use Rattle.request.specs.declared.parameters.Spacing.TheVariants.{Listed, Even, Chord}
use Rattle.request.specs.Parameters.{even_of, sum_of, chord_length, parameter_list}

-- one number more in a sum
pub sum_next : (n : ℕ) (x : ℕ → Float) → sum_of (n + 1) x ≡ add binary64 (sum_of n x) (x n)
unfolding sum_of
sum_next n x = rw add-one

module _ (list points : List Float) (d n : ℕ) where
  -- parameter i of each version
  pub even_at : (i : ℕ) → i < n → at (parameter_list Even list points d n) i ≡ even_of n i
  unfolding parameter_list
  even_at i l = list_at n (even_of n) nan i l

  pub chord_at : (i : ℕ) → i < n → at (parameter_list Chord list points d n) i ≡ sum_of i (chord_length points d)
  unfolding parameter_list
  chord_at i l = list_at n (λ i. sum_of i (chord_length points d)) nan i l

  -- "parameters start at 0"
  pub chord_first : 0 < n → at (parameter_list Chord list points d n) 0 ≡ +0
  unfolding sum_of
  chord_first l = chord_at 0 l

  -- "and grow by" the chords
  pub chord_next : (i : ℕ) → i + 1 < n
      → at (parameter_list Chord list points d n) (i + 1)
      ≡ add binary64 (at (parameter_list Chord list points d n) i) (chord_length points d i)
  chord_next i l = chord_at (i + 1) l ∙ sum_next i (chord_length points d) ∙ rw (chord_at i (omega arith))

  -- n of them, where they are not listed
  pub even_count : length (parameter_list Even list points d n) ≡ n
  unfolding parameter_list
  even_count = list_length n (even_of n)

  pub chord_count : length (parameter_list Chord list points d n) ≡ n
  unfolding parameter_list
  chord_count = list_length n (λ i. sum_of i (chord_length points d))

-- other points, other chords; the others do not read them
pub points_unread : (spacing : Spacing) → (spacing ≡ Chord → ⊥) → (list points points' : List Float) (d n : ℕ)
    → parameter_list spacing list points d n ≡ parameter_list spacing list points' d n
unfolding parameter_list
points_unread Listed h list points points' d n = refl
points_unread Even h list points points' d n = refl
points_unread Chord h list points points' d n = absurd (h refl)

-- ---- they are f64s
list_doubles : (n : ℕ) (x : ℕ → Float) → ((i : ℕ) → T (fits binary64 (x i))) → Doubles (list_of n x)
unfolding fits
list_doubles n x F i = elim (dec_lt i n) [
  | yes l ↦ subst (λ (y : Float). T (fits binary64 y)) (sym (list_at n x nan i l)) (F i)
  | no l ↦
      let e : at (list_of n x) i ≡ nan = get_or-eq_default (list_of n x) nan (omega (arith, list_length n x)) in
      subst (λ (y : Float). T (fits binary64 y)) (sym e) tt
]

pub sum_fits : (n : ℕ) (x : ℕ → Float) → T (fits binary64 (sum_of n x))
unfolding sum_of fits of_bits
sum_fits zero x = tt
sum_fits (suc n) x = add-fits binary64 (sum_of n x) (x n)

pub spaced_doubles : (spacing : Spacing) (list points : List Float) (d n : ℕ) → Doubles list
    → Doubles (parameter_list spacing list points d n)
unfolding parameter_list even_of
spaced_doubles Listed list points d n F = F
spaced_doubles Even list points d n F = list_doubles n (even_of n) (λ i. div-fits binary64 _ _)
spaced_doubles Chord list points d n F = list_doubles n (λ i. sum_of i (chord_length points d)) (λ i. sum_fits i (chord_length points d))
