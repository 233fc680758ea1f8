-- Counts in a request that is not refused: of waypoints at least two (1), of parameters n (5).
use mathlib.Core.Path.{◌≡◌, sym, ap, ◌∙◌}
use mathlib.Core.Bool.{false, not, ◌||◌}
use mathlib.Core.List.{List}
use Prim.Native.Nat.{ℕ, ◌≤◌}
use borrow.Author.Tests.{eqb-true, ltb-false, not-false}
use lib.Dec.{eqb, ltb}
use lib.ListN.{length}
use lib.Ieee.{Float}
use lib.Ieee.Scale.{finite}
use Rattle.arith.proofs.Truth.{or_none}
use Rattle.window.specs.Cells.{at}
use Rattle.request.specs.declared.parameters.Spacing.{Spacing}
use Rattle.request.specs.declared.parameters.Spacing.TheVariants.{Listed}
use Rattle.request.specs.Any.{any}
use Rattle.request.specs.Parameters.{parameter_list, any_fall, misplaced}
use Rattle.request.specs.Points.{unfit}

-- the list itself, where the parameters are listed
pub listed_is : (spacing : Spacing) (list points : List Float) (d n : ℕ) → spacing ≡ Listed → parameter_list spacing list points d n ≡ list
unfolding parameter_list
listed_is spacing list points d n e = ap (λ (s : Spacing). parameter_list s list points d n) e

pub counted : (spacing : Spacing) (list points : List Float) (d n : ℕ)
    → not (eqb (length (parameter_list spacing list points d n)) n) ≡ false
    → spacing ≡ Listed → length list ≡ n
counted spacing list points d n h e =
    let p = parameter_list spacing list points d n in
    ap length (sym (listed_is spacing list points d n e)) ∙ eqb-true (length p) n (not-false (eqb (length p) n) h)

pub parameter_count : (p : List Float) (n : ℕ) → misplaced p n ≡ false → not (eqb (length p) n) ≡ false
unfolding misplaced
parameter_count p n h =
    let a = not (eqb (length p) n) in
    let b = any n (λ i. not (finite (at p i))) in
    (or_none a b (or_none (a || b) (any_fall n (at p)) h).0).0

pub listed_count : (spacing : Spacing) (list points : List Float) (d n : ℕ) → misplaced (parameter_list spacing list points d n) n ≡ false
    → spacing ≡ Listed → length list ≡ n
listed_count spacing list points d n h = counted spacing list points d n (parameter_count (parameter_list spacing list points d n) n h)

pub waypoint_count : (d n : ℕ) (points : List Float) → unfit d n points ≡ false → 2 ≤ n
unfolding unfit
waypoint_count d n points h =
    let b = any (length points) (λ i. not (finite (at points i))) in
    ltb-false n 2 (or_none (eqb d 0) (ltb n 2) (or_none (eqb d 0 || ltb n 2) b h).0).1
