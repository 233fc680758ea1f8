-- `insertion::insert` leaves in its slice what the definition says, in terms of the slice's parts at entry.
use mathlib.Core.Path.{◌≡◌, refl, ap, ◌∙◌}
use mathlib.Core.List.{List, [], ◌++◌, append-nil}
use Prim.Native.Nat.{ℕ, ◌+◌, ◌-◌, ◌*◌, ◌≤◌, ◌<◌}
use native.Mathlib.Omega.{arith}
use native.Mathlib.Nat.{suc-mul}
use lib.ListN.{length, take, drop, drop_of_length-le}
use lib.Seq.{take-take}
use lib.Ieee.{Float}
use Rattle.arith.specs.Operations.{floats}
use Rattle.window.specs.Window.{window, splice}
use Rattle.window.proofs.Windows.{length_window, window_before}
use Rattle.bspline.specs.declared.Spline.{Spline}
use Rattle.bspline.specs.Search.{span_of}
use Rattle.bspline.specs.Insertion.{knots_with, mixed_controls, controls_with, alpha_of, weights_of, weight_at}
use Rattle.bspline.specs.Placed.{knots_at, controls_at, inserted_at}
use Rattle.bspline.proofs.Inserted.{weight_at_law, weights_same}

-- a span is one of the spans 5 to m - 1
pub span_within : (t : List Float) (m : ℕ) (x : Float) → 5 < m → (5 ≤ span_of floats t m x) × (span_of floats t m x < m)
span_within t m x h = (omega arith, omega arith)

-- the parts are long enough for what is read and written
pub weights_room : (t m k : ℕ) (w : List Float) → 5 ≤ k → k < m → t + m + 6 ≤ length w → (5 ≤ k) × (k + 5 < length (window t (t + m + 6) w))
weights_room t m k w h g l = let e = length_window t (t + m + 6) w (omega arith) l in (h, omega arith)

pub controls_room : (c m d k : ℕ) (w : List Float) → 5 ≤ k → k < m → c + (m + 1) * d ≤ length w → (5 ≤ k) × (k < m)
    × ((m + 1) * d ≤ length (window c (c + (m + 1) * d) w))
controls_room c m d k w h g l = let e = length_window c (c + (m + 1) * d) w (omega arith) l in (h, g, omega arith)

pub knots_room : (t m k : ℕ) (w : List Float) → k < m → t + m + 6 + 1 ≤ length w → (k < m + 6)
    × (m + 6 < length (window t (t + m + 6 + 1) w))
knots_room t m k w g l = let e = length_window t (t + m + 6 + 1) w (omega arith) l in (omega arith, omega arith)

-- the front of a part
front : (a e f n : ℕ) (l : List Float) → a + n ≡ f → f ≤ e → take n (window a e l) ≡ window a f l
front a e f n l h g = let q : f - a ≡ n = omega arith in take-take n (e - a) (drop a l) (omega arith) ∙ rw q

-- nothing is left of a part after its end
none_after : (a e n : ℕ) (l : List Float) → a + n ≡ e → e ≤ length l → drop n (window a e l) ≡ []
none_after a e n l h g =
    let k = length_window a e l (omega arith) g in
    let q : length (window a e l) ≤ n = omega arith in
    drop_of_length-le (window a e l) q

module _ (s : Spline) (x : Float) (w : List Float) (six : 5 < s.count) (apart : s.knots + s.count + 7 ≤ s.controls)
    (room : s.controls + (s.count + 1) * s.axes ≤ length w) where
  abbrev t : ℕ
  t = s.knots

  abbrev c : ℕ
  c = s.controls

  abbrev m : ℕ
  m = s.count

  abbrev d : ℕ
  d = s.axes

  abbrev T : List Float
  T = knots_at s w

  abbrev k : ℕ
  k = span_of floats T m x

  -- the controls that are written are those of the definition
  controls_are : mixed_controls floats (weight_at floats (weights_of floats T x k) k) d m k (take (m * d) (window c (c + (m + 1) * d) w)) ++
      drop ((m + 1) * d) (window c (c + (m + 1) * d) w)
      ≡ controls_with floats T x d m k (controls_at s w)
  controls_are =
      let r = suc-mul m d in
      let b = span_within T m x six in
      rw (
        none_after c (c + (m + 1) * d) ((m + 1) * d) w refl room,
        append-nil,
        front c (c + (m + 1) * d) (c + m * d) (m * d) w refl
            (omega arith),
      )
      (weights_same floats (weight_at floats (weights_of floats T x k) k) (alpha_of floats T x) d m k (controls_at s w)
      (λ i h g. weight_at_law floats T x k i (omega arith) (omega arith) g))

  -- and so are the knots, which the controls' part does not touch
  knots_are : (v : List Float) → let u = window t (t + m + 6 + 1) (splice c (c + (m + 1) * d) v w) in knots_with x k (take (m + 6) u) ++ drop
      (m + 6 + 1) u ≡ knots_with x k T
  knots_are v =
      rw (
        window_before c (c + (m + 1) * d) v w t (t + m + 6 + 1) (omega arith) (omega arith) (omega arith),
        none_after t (t + m + 6 + 1) (m + 6 + 1) w (omega arith) (omega arith),
        append-nil,
        front t (t + m + 6 + 1) (t + m + 6) (m + 6) w (omega arith) (omega arith),
      )

  pub inserted_is : let v = mixed_controls floats (weight_at floats (weights_of floats T x k) k) d m k
      (take (m * d) (window c (c + (m + 1) * d) w)) ++ drop ((m + 1) * d) (window c (c + (m + 1) * d) w) in
      let y = splice c (c + (m + 1) * d) v w in
      let u = window t (t + m + 6 + 1) y in
      splice t (t + m + 6 + 1) (knots_with x k (take (m + 6) u) ++ drop (m + 6 + 1) u) y ≡ inserted_at s x w
  inserted_is =
      let v = mixed_controls floats (weight_at floats (weights_of floats T x k) k) d m k (take (m * d) (window c (c + (m + 1) * d) w)) ++ drop
      ((m + 1) * d) (window c (c + (m + 1) * d) w) in
      ap (λ (l : List Float). splice t (t + m + 6 + 1) l (splice c (c + (m + 1) * d) v w)) (knots_are v)
      ∙ ap (λ (l : List Float). splice t (t + m + 6 + 1) (knots_with x k T) (splice c (c + (m + 1) * d) l w)) controls_are
