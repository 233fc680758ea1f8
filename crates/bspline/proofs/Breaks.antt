-- The breaks of a spline's polynomial depend on its knots alone; how many there are, and how many coefficients.
use mathlib.Core.Path.{◌≡◌, refl, sym, ap, ◌∙◌}
use mathlib.Core.Bool.{Bool, true, false, cond}
use mathlib.Core.List.{List, [], ◌∷◌, ◌++◌}
use Prim.Native.Nat.{ℕ, zero, suc, ◌+◌, ◌-◌, ◌*◌, ◌≤◌}
use native.Mathlib.Omega.{arith}
use lib.ListN.{length, length-append}
use Rattle.arith.specs.Loop.{turns, each}
use Rattle.arith.specs.Operations.{Arith}
use Rattle.arith.proofs.Loops.{each_runs}
use Rattle.bspline.specs.Segments.{Polynomial, span_start, span_width, span_segments, span_turn, polynomial_of}
use Rattle.bspline.proofs.Lengths.{segments_length}

-- what is read off a state after the turns is what its own turns make of what is read off before
turns_read : {S R : Type 0} (read : S → R) (f : ℕ → S → S) (g : ℕ → R → R) → ((i : ℕ) (s : S) → read (f i s) ≡ g i (read s))
    → (n i : ℕ) (s : S) → read (turns f n i s) ≡ turns g n i (read s)
unfolding turns
turns_read read f g h zero i s = refl
turns_read read f g h (suc n) i s = turns_read read f g h n (i + 1) (f i s) ∙ ap (turns g n (i + 1)) (h i s)

module _ {A : Type 0} (o : Arith A) (t : List A) where
  unfoldable pub break_turn : ℕ → List A → List A
  break_turn span l = cond (o.at_most (span_width o t span) o.zero) l (l ++ (span_start o t span ∷ []))

  turn_breaks : (c : List A) (d span : ℕ) (p : Polynomial A) → (span_turn o t c d span p).breaks ≡ break_turn span p.breaks
  unfolding span_turn break_turn
  turn_breaks c d span p = go (o.at_most (span_width o t span) o.zero)
    where
      more : Polynomial A
      more = record { breaks = p.breaks ++ (span_start o t span ∷ []); coefficients = p.coefficients ++ span_segments o t c d span }

      go : (b : Bool) → (cond b p more).breaks ≡ cond b p.breaks more.breaks
      go true = refl
      go false = refl

  pub breaks_are : (c : List A) (d m : ℕ) → (polynomial_of o t c d m).breaks ≡ each break_turn 5 m [] ++ (o.one ∷ [])
  unfolding polynomial_of each
  breaks_are c d m =
      ap (λ (l : List A). l ++ (o.one ∷ []))
      (turns_read (λ (p : Polynomial A). p.breaks) (span_turn o t c d) break_turn (λ i p. turn_breaks c d i p) (m - 5) 5
      (record { breaks = []; coefficients = [] }))

  pub breaks_same : (c c' : List A) (d d' m : ℕ) → (polynomial_of o t c d m).breaks ≡ (polynomial_of o t c' d' m).breaks
  breaks_same c c' d d' m = breaks_are c d m ∙ sym (breaks_are c' d' m)

-- ---- a spline's polynomial: at most a segment for each span, six coefficients for each axis of a segment
module _ {A : Type 0} (o : Arith A) (t c : List A) (d : ℕ) where
  record Partial (span : ℕ) (p : Polynomial A) : Type 0 where
    pub few : length p.breaks + 5 ≤ span
    pub cells : length p.coefficients ≡ length p.breaks * (6 * d)

  span_partial : (span : ℕ) (p : Polynomial A) → Partial span p → Partial (span + 1) (span_turn o t c d span p)
  unfolding span_turn
  span_partial span p h = go (o.at_most (span_width o t span) o.zero)
    where
      more : Polynomial A
      more = record { breaks = p.breaks ++ (span_start o t span ∷ []); coefficients = p.coefficients ++ span_segments o t c d span }

      go : (b : Bool) → Partial (span + 1) (cond b p more)
      go true = record { few = omega (arith, h.few); cells = h.cells }
      go false =
          let a : length more.breaks ≡ length p.breaks + 1 = length-append p.breaks (span_start o t span ∷ []) in
          let b = length-append p.coefficients (span_segments o t c d span) in
          let e = segments_length o t c d span in
          let f = h.cells in
          record { few = omega (arith, h.few); cells = rw (a, b, e, f) (omega arith) }

  pub polynomial_room : (m : ℕ) → 5 ≤ m → let p = polynomial_of o t c d m in
      (length p.breaks + 4 ≤ m) × (length p.coefficients ≡ (length p.breaks - 1) * (6 * d))
  unfolding polynomial_of
  polynomial_room m h =
      let p = each (span_turn o t c d) 5 m (record { breaks = []; coefficients = [] }) in
      let r = each_runs Partial (span_turn o t c d) 5 m (record { breaks = []; coefficients = [] }) h (λ i s a b g. span_partial i s g)
      (record { few = omega arith; cells = omega arith }) in
      let e = length-append p.breaks (o.one ∷ []) in
      let f : length (p.breaks ++ (o.one ∷ [])) - 1 ≡ length p.breaks = omega arith in
      (omega (arith, r.few), rw f r.cells)
