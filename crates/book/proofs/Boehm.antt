-- A basis function over the old knots by two over the new (Boehm's identity): N_{i,p} is α_i N'_{i,p} + (1 - α_(i+1)) N'_{i+1,p}, on every
-- span of the new knots whose stretches have an inverse. By induction on p: the factors of the new functions are compared where those are
-- not 0.
use mathlib.Core.Path.{◌≡◌, refl, sym, ap, ◌∙◌}
use mathlib.Core.List.{[], ◌∷◌}
use mathlib.Core.Logic.{◌⊎◌, inl, inr, ⊎_elim}
use Prim.Native.Nat.{ℕ, zero, suc, ◌+◌, ◌-◌, ◌≤◌, ◌<◌}
use native.Mathlib.Omega.{arith}
use native.Mathlib.Decide.{dec_lt}
use borrow.Author.Tests.{le-leb, lt-leb}
use Rattle.fraction.specs.Rational.{ℚ, ◌+q◌, ◌*q◌, inverse, 𝟘, 𝟙, ◌-q◌, ◌/q◌}
use Rattle.fraction.specs.RationalRing.{rational_ring}
use Rattle.fraction.specs.Ring.{◌⊕◌, ◌⊖◌, ◌⊗◌, solve, combine, combine2, combine3, v0, v1, v2, v3, v4, v5, v6, v7, v8}
use Rattle.book.specs.Basis.{basis, on_span}
use Rattle.book.specs.Insertion.{inserted_knot, alpha, old_span}
use Rattle.book.proofs.Cases.{knot_before, knot_new, knot_after, alpha_one, alpha_between, alpha_zero}
use Rattle.book.proofs.Recurrence.{basis_step, on_here, on_other, before_support, after_support}
use Rattle.book.proofs.Terms.{n0, n1}

-- a width that can be divided by
abbrev pub Inverse : ℚ → Type 0
Inverse w = w *q inverse w ≡ 𝟙

-- ---- the identities of the factors: a, b, c, d, e are knots, u the new one, x the point
rise_up_to_u : (x u a c : ℚ) → Inverse (u -q a) → (x -q a) /q (c -q a) *q 𝟙 ≡ (u -q a) /q (c -q a) *q ((x -q a) /q (u -q a))
rise_up_to_u x u a c h =
    combine rational_ring (x ∷ u ∷ a ∷ inverse (c -q a) ∷ inverse (u -q a) ∷ []) ((v0 ⊖ v2) ⊗ v3 ⊗ n1) ((v1 ⊖ v2) ⊗ v3 ⊗ ((v0 ⊖ v2) ⊗ v4))
    (n0 ⊖ (v0 ⊖ v2) ⊗ v3) ((v1 ⊖ v2) ⊗ v4) n1 tt h

rise_across_u : (x u a c d : ℚ) → (x -q a) /q (d -q a) *q ((u -q a) /q (c -q a)) ≡ (u -q a) /q (d -q a) *q ((x -q a) /q (c -q a))
rise_across_u x u a c d = solve rational_ring (x ∷ u ∷ a ∷ inverse (c -q a) ∷ inverse (d -q a) ∷ []) ((v0 ⊖ v2) ⊗ v4 ⊗ ((v1 ⊖ v2) ⊗ v3))
    ((v1 ⊖ v2) ⊗ v4 ⊗ ((v0 ⊖ v2) ⊗ v3)) tt

middle_up_to_u : (x u a b c d : ℚ) → Inverse (d -q b) → Inverse (u -q b)
    → (x -q a) /q (c -q a) *q (𝟙 -q 𝟙) +q (d -q x) /q (d -q b) *q 𝟙 ≡ 𝟙 *q ((u -q x) /q (u -q b)) +q (𝟙 -q (u -q b) /q (d -q b)) *q
    ((x -q b) /q (u -q b))
middle_up_to_u x u a b c d h g =
    combine2 rational_ring (x ∷ u ∷ b ∷ d ∷ inverse (d -q b) ∷ inverse (u -q b) ∷ ((x -q a) /q (c -q a)) ∷ [])
    (v6 ⊗ (n1 ⊖ n1) ⊕ (v3 ⊖ v0) ⊗ v4 ⊗ n1) (n1 ⊗ ((v1 ⊖ v0) ⊗ v5) ⊕ (n1 ⊖ (v1 ⊖ v2) ⊗ v4) ⊗ ((v0 ⊖ v2) ⊗ v5)) n1 ((v3 ⊖ v2) ⊗ v4) n1
    ((v0 ⊖ v2) ⊗ v4 ⊖ n1) ((v1 ⊖ v2) ⊗ v5) n1 tt h g

middle_across_u : (x u a b c d : ℚ) → Inverse (c -q a) → Inverse (d -q b) → Inverse (c -q b)
    → (x -q a) /q (c -q a) *q (𝟙 -q (u -q b) /q (c -q b)) +q (d -q x) /q (d -q b) *q ((u -q b) /q (c -q b))
    ≡ (u -q a) /q (c -q a) *q ((c -q x) /q (c -q b)) +q (𝟙 -q (u -q b) /q (d -q b)) *q ((x -q b) /q (c -q b))
middle_across_u x u a b c d h g f =
    combine3 rational_ring (x ∷ u ∷ a ∷ b ∷ c ∷ d ∷ inverse (c -q a) ∷ inverse (d -q b) ∷ inverse (c -q b) ∷ [])
    ((v0 ⊖ v2) ⊗ v6 ⊗ (n1 ⊖ (v1 ⊖ v3) ⊗ v8) ⊕ (v5 ⊖ v0) ⊗ v7 ⊗ ((v1 ⊖ v3) ⊗ v8))
    ((v1 ⊖ v2) ⊗ v6 ⊗ ((v4 ⊖ v0) ⊗ v8) ⊕ (n1 ⊖ (v1 ⊖ v3) ⊗ v7) ⊗ ((v0 ⊖ v3) ⊗ v8))
    (v8 ⊗ (v0 ⊖ v1)) ((v4 ⊖ v2) ⊗ v6) n1 (v8 ⊗ (v1 ⊖ v3)) ((v5 ⊖ v3) ⊗ v7) n1 (n0 ⊖ (v0 ⊖ v2) ⊗ v6) ((v4 ⊖ v3) ⊗ v8) n1 tt h g f

middle_from_u : (x u a c f : ℚ) → Inverse (c -q a) → Inverse (c -q u)
    → (x -q a) /q (c -q a) *q (𝟙 -q 𝟘) +q f *q 𝟘 ≡ (u -q a) /q (c -q a) *q ((c -q x) /q (c -q u)) +q (𝟙 -q 𝟘) *q ((x -q u) /q (c -q u))
middle_from_u x u a c f h g =
    combine2 rational_ring (x ∷ u ∷ a ∷ c ∷ inverse (c -q a) ∷ inverse (c -q u) ∷ f ∷ [])
    ((v0 ⊖ v2) ⊗ v4 ⊗ (n1 ⊖ n0) ⊕ v6 ⊗ n0) ((v1 ⊖ v2) ⊗ v4 ⊗ ((v3 ⊖ v0) ⊗ v5) ⊕ (n1 ⊖ n0) ⊗ ((v0 ⊖ v1) ⊗ v5))
    ((v0 ⊖ v1) ⊗ v5) ((v3 ⊖ v2) ⊗ v4) n1 (n0 ⊖ (v0 ⊖ v2) ⊗ v4) ((v3 ⊖ v1) ⊗ v5) n1 tt h g

fall_across_u : (x u a b e : ℚ) → Inverse (e -q a) → Inverse (e -q b)
    → (e -q x) /q (e -q a) *q (𝟙 -q (u -q b) /q (e -q b)) ≡ (𝟙 -q (u -q a) /q (e -q a)) *q ((e -q x) /q (e -q b))
fall_across_u x u a b e h g =
    combine2 rational_ring (x ∷ u ∷ a ∷ b ∷ e ∷ inverse (e -q a) ∷ inverse (e -q b) ∷ [])
    ((v4 ⊖ v0) ⊗ v5 ⊗ (n1 ⊖ (v1 ⊖ v3) ⊗ v6)) ((n1 ⊖ (v1 ⊖ v2) ⊗ v5) ⊗ ((v4 ⊖ v0) ⊗ v6))
    ((v4 ⊖ v0) ⊗ v6) ((v4 ⊖ v2) ⊗ v5) n1 (n0 ⊖ (v4 ⊖ v0) ⊗ v5) ((v4 ⊖ v3) ⊗ v6) n1 tt h g

fall_from_u : (x u a e : ℚ) → Inverse (e -q a) → Inverse (e -q u)
    → (e -q x) /q (e -q a) *q (𝟙 -q 𝟘) ≡ (𝟙 -q (u -q a) /q (e -q a)) *q ((e -q x) /q (e -q u))
fall_from_u x u a e h g =
    combine2 rational_ring (x ∷ u ∷ a ∷ e ∷ inverse (e -q a) ∷ inverse (e -q u) ∷ [])
    ((v3 ⊖ v0) ⊗ v4 ⊗ (n1 ⊖ n0)) ((n1 ⊖ (v1 ⊖ v2) ⊗ v4) ⊗ ((v3 ⊖ v0) ⊗ v5))
    ((v3 ⊖ v0) ⊗ v5) ((v3 ⊖ v2) ⊗ v4) n1 (n0 ⊖ (v3 ⊖ v0) ⊗ v4) ((v3 ⊖ v1) ⊗ v5) n1 tt h g

-- the span s, and the span before it
on_shift : (s i : ℕ) → 0 < s → on_span (s - 1) i ≡ on_span s (i + 1)
on_shift s i h = elim (dec_lt (i + 1) s) [
  | yes l ↦ on_other (s - 1) i (λ e. omega arith) ∙ sym (on_other s (i + 1) (λ e. omega arith))
  | no l ↦ elim (dec_lt s (i + 1)) [
    | yes g ↦ on_other (s - 1) i (λ e. omega arith) ∙ sym (on_other s (i + 1) (λ e. omega arith))
    | no g ↦ let e : s - 1 ≡ i = omega arith in let d : s ≡ i + 1 = omega arith in rw (e, d) (on_here i ∙ sym (on_here (i + 1)))
  ]
]

module _ (t : ℕ → ℚ) (u : ℚ) (k : ℕ) where
  abbrev t' : ℕ → ℚ
  t' = inserted_knot t u k

  abbrev ω : ℕ → ℕ → ℚ
  ω p i = alpha t u k p i

  -- a span s of the new knots, and widths that can be divided by
  module _ (s : ℕ) (wide : (i j : ℕ) → i ≤ s → s < j → j ≤ s + 6 → Inverse (t' j -q t' i)) (x : ℚ) where
    abbrev M : ℕ → ℕ → ℚ
    M p i = basis t' (on_span s) x p i

    abbrev N : ℕ → ℕ → ℚ
    N p i = basis t (on_span (old_span k s)) x p i

    -- a new function is 0, or s is among its spans
    held : (p i : ℕ) → (M p i ≡ 𝟘) ⊎ ((i ≤ s) × (s ≤ i + p))
    held p i = elim (dec_lt s i) [
      | yes l ↦ inl (before_support t' s x p i l)
      | no l ↦ elim (dec_lt (i + p) s) [
        | yes g ↦ inl (after_support t' s x p i g)
        | no g ↦ inr (omega arith, omega arith)
      ]
    ]

    -- so two factors of it need to agree only there
    where_not_zero : (p i : ℕ) (a b : ℚ) → ((i ≤ s) × (s ≤ i + p) → a ≡ b) → a *q M p i ≡ b *q M p i
    where_not_zero p i a b h =
        ⊎_elim (λ (z : M p i ≡ 𝟘). rw z (solve rational_ring (a ∷ b ∷ []) (v0 ⊗ n0) (v1 ⊗ n0) tt))
        (λ (g : (i ≤ s) × (s ≤ i + p)). ap (λ (z : ℚ). z *q M p i) (h g)) (held p i)

    -- N_{i,q} by two of the new functions
    abbrev Blends : ℕ → ℕ → Type 0
    Blends q i = N q i ≡ ω q i *q M q i +q (𝟙 -q ω q (i + 1)) *q M q (i + 1)

    module _ (p : ℕ) (p5 : p < 5) where
      abbrev P : ℕ
      P = suc p

      -- the factors of the recurrence, over the old knots and over the new
      abbrev r : ℕ → ℚ
      r i = (x -q t i) /q (t (i + P) -q t i)

      abbrev f : ℕ → ℚ
      f i = (t (i + P) -q x) /q (t (i + P) -q t i)

      abbrev r' : ℕ → ℚ
      r' i = (x -q t' i) /q (t' (i + P) -q t' i)

      abbrev f' : ℕ → ℚ
      f' i = (t' (i + P) -q x) /q (t' (i + P) -q t' i)

      -- the factors of N'_{i,p}, N'_{i+1,p} and N'_{i+2,p} in the two forms of N_{i,p+1}
      rise_factor : (i : ℕ) → (i ≤ s) × (s ≤ i + p) → r i *q ω p i ≡ ω P i *q r' i
      rise_factor i g = elim (dec_lt k i) [
        | yes h ↦ rw (alpha_zero t u k p i h, alpha_zero t u k P i h) (solve rational_ring (r i ∷ r' i ∷ []) (v0 ⊗ n0) (n0 ⊗ v1) tt)
        | no h ↦ elim (dec_lt k (i + P)) [
          | no l ↦ rw (
            alpha_one t u k p i (omega arith),
            alpha_one t u k P i (omega arith),
            knot_before t u k (i + P) (omega arith),
            knot_before t u k i (omega arith),
          ) (solve rational_ring (r i ∷ []) (v0 ⊗ n1) (n1 ⊗ v0) tt)
          | yes l ↦ elim (dec_lt k (i + p)) [
            | no m ↦
                let w = wide i (i + P) g.0 (omega arith) (omega arith) in
                let w' : Inverse (u -q t i) = rw (knot_new t u k (i + P) (omega arith), knot_before t u k i (omega arith)) at w in
                rw (
                  alpha_one t u k p i (omega arith),
                  alpha_between t u k P i l (omega arith),
                  knot_new t u k (i + P) (omega arith),
                  knot_before t u k i (omega arith),
                ) (rise_up_to_u x u (t i) (t (i + P)) w')
            | yes m ↦ rw (
              alpha_between t u k p i m (omega arith),
              alpha_between t u k P i l (omega arith),
              knot_after t u k (i + P) (i + p)
                  (omega arith) m,
              knot_before t u k i (omega arith),
            ) (rise_across_u x u (t i) (t (i + p)) (t (i + P)))
          ]
        ]
      ]

      middle_factor : (i : ℕ) → (i + 1 ≤ s) × (s ≤ i + 1 + p) → r i *q (𝟙 -q ω p (i + 1)) +q f (i + 1) *q ω p (i + 1)
          ≡ ω P i *q f' (i + 1) +q (𝟙 -q ω P (i + 1)) *q r' (i + 1)
      middle_factor i g = elim (dec_lt k i) [
        | yes h ↦
            rw (
              alpha_zero t u k p (i + 1) (omega arith),
              alpha_zero t u k P i h,
              alpha_zero t u k P (i + 1) (omega arith),
              knot_after t u k
                  (i + 1 + P) (i + P) (omega arith) (omega arith),
              knot_after t u k (i + 1) i refl h,
            )
            (solve rational_ring (r i ∷ f (i + 1) ∷ ((t (i + P) -q x) /q (t (i + P) -q t i)) ∷ []) (v0 ⊗ (n1 ⊖ n0) ⊕ v1 ⊗ n0)
            (n0 ⊗ v2 ⊕ (n1 ⊖ n0) ⊗ v0) tt)
        | no h ↦ elim (dec_lt i k) [
          | no l ↦
              let w = rw (knot_after t u k (i + 1 + P) (i + P) (omega arith) (omega arith), knot_before t u k i (omega arith))
              at (wide i (i + 1 + P) (omega arith) (omega arith) (omega arith)) in
              let w' = rw (knot_after t u k (i + 1 + P) (i + P) (omega arith) (omega arith), knot_new t u k (i + 1) (omega arith))
              at (wide (i + 1) (i + 1 + P) (omega arith) (omega arith) (omega arith)) in
              rw (
                alpha_zero t u k p (i + 1) (omega arith),
                alpha_between t u k P i (omega arith) (omega arith),
                alpha_zero t u k P (i + 1)
                    (omega arith),
                knot_after t u k (i + 1 + P) (i + P) (omega arith) (omega arith),
                knot_new t u k (i + 1) (omega arith),
              )
              (middle_from_u x u (t i) (t (i + P)) (f (i + 1)) w w')
          | yes l ↦ elim (dec_lt k (i + P)) [
            | yes m ↦
                let e : i + 1 + p ≡ i + suc p = omega arith in
                let w = rw (knot_after t u k (i + 1 + P) (i + P) (omega arith) (omega arith), knot_before t u k i (omega arith))
                at (wide i (i + 1 + P) (omega arith) (omega arith) (omega arith)) in
                let w' = rw (
                  knot_after t u k (i + 1 + P + 1) (i + 1 + P) (omega arith) (omega arith),
                  knot_before t u k (i + 1)
                      (omega arith),
                ) at (wide (i + 1) (i + 1 + P + 1) (omega arith) (omega arith) (omega arith)) in
                let w'' = rw (knot_after t u k (i + 1 + P) (i + P) (omega arith) (omega arith), knot_before t u k (i + 1) (omega arith))
                at (wide (i + 1) (i + 1 + P) (omega arith) (omega arith) (omega arith)) in
                rw (
                  alpha_between t u k p (i + 1) (omega arith) (omega arith),
                  alpha_between t u k P i (omega arith) (omega arith),
                  alpha_between t u k P (i + 1) (omega arith) (omega arith),
                  knot_after t u k (i + 1 + P) (i + P) (omega arith) (omega arith),
                  knot_before t u k (i + 1) (omega arith),
                  e,
                )
                (middle_across_u x u (t i) (t (i + 1)) (t (i + P)) (t (i + 1 + P)) w w' w'')
            | no m ↦ elim (dec_lt k (i + 1 + P)) [
              | yes n ↦
                  let w = rw (
                    knot_after t u k (i + 1 + P + 1) (i + 1 + P) (omega arith) (omega arith),
                    knot_before t u k (i + 1)
                        (omega arith),
                  ) at (wide (i + 1) (i + 1 + P + 1) (omega arith) (omega arith) (omega arith)) in
                  let w' = rw (knot_new t u k (i + 1 + P) (omega arith), knot_before t u k (i + 1) (omega arith))
                  at (wide (i + 1) (i + 1 + P) (omega arith) (omega arith) (omega arith)) in
                  rw (
                    alpha_one t u k p (i + 1) (omega arith),
                    alpha_one t u k P i (omega arith),
                    alpha_between t u k P (i + 1) n
                        (omega arith),
                    knot_new t u k (i + 1 + P) (omega arith),
                    knot_before t u k (i + 1) (omega arith),
                  )
                  (middle_up_to_u x u (t i) (t (i + 1)) (t (i + P)) (t (i + 1 + P)) w w')
              | no n ↦
                  rw (
                    alpha_one t u k p (i + 1) (omega arith),
                    alpha_one t u k P i (omega arith),
                    alpha_one t u k P (i + 1) (omega arith),
                    knot_before t u k (i + 1 + P) (omega arith),
                    knot_before t u k (i + 1) (omega arith),
                  )
                  (solve rational_ring (r i ∷ f (i + 1) ∷ r (i + 1) ∷ []) (v0 ⊗ (n1 ⊖ n1) ⊕ v1 ⊗ n1) (n1 ⊗ v1 ⊕ (n1 ⊖ n1) ⊗ v2) tt)
            ]
          ]
        ]
      ]

      fall_factor : (j : ℕ) → (j + 1 ≤ s) × (s ≤ j + 1 + p) → f j *q (𝟙 -q ω p (j + 1)) ≡ (𝟙 -q ω P j) *q f' (j + 1)
      fall_factor j g = elim (dec_lt k j) [
        | yes h ↦
            rw (
              alpha_zero t u k p (j + 1) (omega arith),
              alpha_zero t u k P j h,
              knot_after t u k (j + 1 + P) (j + P) (omega arith)
                  (omega arith),
              knot_after t u k (j + 1) j refl h,
            )
            (solve rational_ring (f j ∷ []) (v0 ⊗ (n1 ⊖ n0)) ((n1 ⊖ n0) ⊗ v0) tt)
        | no h ↦ elim (dec_lt j k) [
          | no l ↦
              let w = rw (knot_after t u k (j + 1 + P) (j + P) (omega arith) (omega arith), knot_before t u k j (omega arith))
              at (wide j (j + 1 + P) (omega arith) (omega arith) (omega arith)) in
              let w' = rw (knot_after t u k (j + 1 + P) (j + P) (omega arith) (omega arith), knot_new t u k (j + 1) (omega arith))
              at (wide (j + 1) (j + 1 + P) (omega arith) (omega arith) (omega arith)) in
              rw (
                alpha_zero t u k p (j + 1) (omega arith),
                alpha_between t u k P j (omega arith) (omega arith),
                knot_after t u k
                    (j + 1 + P) (j + P) (omega arith) (omega arith),
                knot_new t u k (j + 1) (omega arith),
              )
              (fall_from_u x u (t j) (t (j + P)) w w')
          | yes l ↦ elim (dec_lt k (j + P)) [
            | yes m ↦
                let e : j + 1 + p ≡ j + suc p = omega arith in
                let w = rw (knot_after t u k (j + 1 + P) (j + P) (omega arith) (omega arith), knot_before t u k j (omega arith))
                at (wide j (j + 1 + P) (omega arith) (omega arith) (omega arith)) in
                let w' = rw (knot_after t u k (j + 1 + P) (j + P) (omega arith) (omega arith), knot_before t u k (j + 1) (omega arith))
                at (wide (j + 1) (j + 1 + P) (omega arith) (omega arith) (omega arith)) in
                rw (
                  alpha_between t u k p (j + 1) (omega arith) (omega arith),
                  alpha_between t u k P j (omega arith) (omega arith),
                  knot_after t u k (j + 1 + P) (j + P) (omega arith) (omega arith),
                  knot_before t u k (j + 1) (omega arith),
                  e,
                )
                (fall_across_u x u (t j) (t (j + 1)) (t (j + P)) w w')
            | no m ↦ rw (alpha_one t u k p (j + 1) (omega arith), alpha_one t u k P j (omega arith))
                (solve rational_ring (f j ∷ f' (j + 1) ∷ []) (v0 ⊗ (n1 ⊖ n1)) ((n1 ⊖ n1) ⊗ v1) tt)
          ]
        ]
      ]

      -- from degree p to p + 1
      raise : ((i : ℕ) → Blends p i) → (i : ℕ) → Blends P i
      raise ih i =
          let A = where_not_zero p i (r i *q ω p i) (ω P i *q r' i) (rise_factor i) in
          let B = where_not_zero p (i + 1) (r i *q (𝟙 -q ω p (i + 1)) +q f (i + 1) *q ω p (i + 1))
          (ω P i *q f' (i + 1) +q (𝟙 -q ω P (i + 1)) *q r' (i + 1)) (middle_factor i) in
          let C = where_not_zero p (i + 1 + 1) (f (i + 1) *q (𝟙 -q ω p (i + 1 + 1))) ((𝟙 -q ω P (i + 1)) *q f' (i + 1 + 1))
          (fall_factor (i + 1)) in
          basis_step t (on_span (old_span k s)) x p i
          ∙ ap (λ (z : ℚ). r i *q z +q f (i + 1) *q N p (i + 1)) (ih i)
          ∙ ap (λ (z : ℚ). r i *q (ω p i *q M p i +q (𝟙 -q ω p (i + 1)) *q M p (i + 1)) +q f (i + 1) *q z) (ih (i + 1))
          ∙ solve rational_ring (r i ∷ f (i + 1) ∷ ω p i ∷ ω p (i + 1) ∷ ω p (i + 1 + 1) ∷ M p i ∷ M p (i + 1) ∷ M p (i + 1 + 1) ∷ [])
          (v0 ⊗ (v2 ⊗ v5 ⊕ (n1 ⊖ v3) ⊗ v6) ⊕ v1 ⊗ (v3 ⊗ v6 ⊕ (n1 ⊖ v4) ⊗ v7)) (v0 ⊗ v2 ⊗ v5 ⊕ (v0 ⊗ (n1 ⊖ v3) ⊕ v1 ⊗ v3) ⊗ v6 ⊕ v1 ⊗
          (n1 ⊖ v4) ⊗ v7) tt
          ∙ rw (A, B, C)
          (solve rational_ring (ω P i ∷ ω P (i + 1) ∷ r' i ∷ f' (i + 1) ∷ r' (i + 1) ∷ f' (i + 1 + 1) ∷ M p i ∷ M p (i + 1) ∷ M p (i + 1 + 1)
          ∷ [])
          (v0 ⊗ v2 ⊗ v6 ⊕ (v0 ⊗ v3 ⊕ (n1 ⊖ v1) ⊗ v4) ⊗ v7 ⊕ (n1 ⊖ v1) ⊗ v5 ⊗ v8) (v0 ⊗ (v2 ⊗ v6 ⊕ v3 ⊗ v7) ⊕ (n1 ⊖ v1) ⊗
          (v4 ⊗ v7 ⊕ v5 ⊗ v8)) tt
          ∙ ap (λ (z : ℚ). ω P i *q z +q (𝟙 -q ω P (i + 1)) *q (r' (i + 1) *q M p (i + 1) +q f' (i + 1 + 1) *q M p (i + 1 + 1)))
          (sym (basis_step t' (on_span s) x p i))
          ∙ ap (λ (z : ℚ). ω P i *q M P i +q (𝟙 -q ω P (i + 1)) *q z) (sym (basis_step t' (on_span s) x p (i + 1))))

    old_low : s ≤ k → old_span k s ≡ s
    unfolding old_span
    old_low h = rw (le-leb s k h)

    old_high : k < s → old_span k s ≡ s - 1
    unfolding old_span
    old_high h = rw (lt-leb s k h)

    -- degree 0
    start : (i : ℕ) → Blends 0 i
    unfolding basis
    start i = elim (dec_lt k s) [
      | no h ↦ rw (old_low (omega arith)) (elim (dec_lt k i) [
        | yes l ↦ rw (alpha_zero t u k 0 i l, on_other s i (λ e. omega arith), on_other s (i + 1) (λ e. omega arith))
            (solve rational_ring (ω 0 (i + 1) ∷ []) n0 (n0 ⊗ n0 ⊕ (n1 ⊖ v0) ⊗ n0) tt)
        | no l ↦ elim (dec_lt i k) [
          | yes g ↦ rw (alpha_one t u k 0 i (omega arith), alpha_one t u k 0 (i + 1) (omega arith))
              (solve rational_ring (on_span s i ∷ on_span s (i + 1) ∷ []) v0 (n1 ⊗ v0 ⊕ (n1 ⊖ n1) ⊗ v1) tt)
          | no g ↦ rw (alpha_one t u k 0 i (omega arith), on_other s (i + 1) (λ e. omega arith))
              (solve rational_ring (on_span s i ∷ ω 0 (i + 1) ∷ []) v0 (n1 ⊗ v0 ⊕ (n1 ⊖ v1) ⊗ n0) tt)
        ]
      ])
      | yes h ↦ rw (old_high h) (elim (dec_lt i k) [
        | yes l ↦ rw (on_other (s - 1) i (λ e. omega arith), alpha_one t u k 0 (i + 1) (omega arith), on_other s i (λ e. omega arith))
            (solve rational_ring (ω 0 i ∷ on_span s (i + 1) ∷ []) n0 (v0 ⊗ n0 ⊕ (n1 ⊖ n1) ⊗ v1) tt)
        | no l ↦ elim (dec_lt k i) [
          | yes g ↦ rw (on_shift s i (omega arith), alpha_zero t u k 0 i g, alpha_zero t u k 0 (i + 1) (omega arith))
              (solve rational_ring (on_span s i ∷ on_span s (i + 1) ∷ []) v1 (n0 ⊗ v0 ⊕ (n1 ⊖ n0) ⊗ v1) tt)
          | no g ↦ rw (on_shift s i (omega arith), alpha_zero t u k 0 (i + 1) (omega arith), on_other s i (λ e. omega arith))
              (solve rational_ring (ω 0 i ∷ on_span s (i + 1) ∷ []) v1 (v0 ⊗ n0 ⊕ (n1 ⊖ n0) ⊗ v1) tt)
        ]
      ])
    ]

    pub boehm : (p : ℕ) → p ≤ 5 → (i : ℕ) → N p i ≡ ω p i *q M p i +q (𝟙 -q ω p (i + 1)) *q M p (i + 1)
    boehm zero h i = start i
    boehm (suc p) h i = raise p h (λ j. boehm p (omega arith) j) i
