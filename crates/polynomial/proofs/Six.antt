-- Lists of six.
use mathlib.Core.Bool.{Bool, true, false, ◌&&◌}
use mathlib.Core.List.{List, [], ◌∷◌}
use mathlib.Core.Path.{◌≡◌, refl, sym, subst, ap, ap₂, ◌∙◌}
use Prim.Native.Nat.{ℕ, zero, suc, ◌+◌}
use native.Mathlib.Omega.{arith}
use native.Mathlib.Numerals.{add-one}
use denote.Param.Members.{Mut, Called}
use lib.ListN.{length, drop}
use lib.Ieee.{Float}
use lib.Ieee.Scale.{finite}
use Rattle.std.proofs.Math.Seq.{drop-cons, drop-length}
use Rattle.std.specs.Array.{IsFromFnResult, IsFromFnResultFrom}
use Rattle.std.specs.List.{list_all}
use Rattle.arith.specs.Loop.{each, turns}
use Rattle.polynomial.specs.Interval.{all_finite}

-- t i, and the n - 1 after it
abbrev pub listed : {A : Type 0} → (ℕ → A) → ℕ → ℕ → List A
listed t i zero = []
listed t i (suc n) = t i ∷ listed t (i + 1) n

-- an array that a closure made, which changes nothing and gives t i at i
module _ {F B : Type 0} (g : Mut F (ℕ × Unit {0}) B) (t : ℕ → B) (f : F) (ys : List B)
    (gives : (i : ℕ) (y : B) (q : F) → Called g f (i, tt) y q → (q ≡ f) × (y ≡ t i)) where
  made_from : (n i : ℕ) → i + n ≡ length ys → IsFromFnResultFrom g f ys i n → drop i ys ≡ listed t i n
  made_from zero i l h = let e : i ≡ length ys = omega arith in rw e (drop-length ys)
  made_from (suc n) i l h =
      let r = gives i h.1 h.0 h.3 in
      let e : i + 1 + n ≡ length ys = omega arith in
      drop-cons ys i h.1 (omega arith)
      ∙ ap₂ (λ (y : B) (v : List B). y ∷ v) (h.2.0 ∙ r.1)
      (ap (λ (j : ℕ). drop j ys) (sym (add-one i)) ∙ made_from n (i + 1) e (subst (λ q. IsFromFnResultFrom g q ys (i + 1) n) r.0 h.4))

  pub made : (n : ℕ) → IsFromFnResult g f ys n → ys ≡ listed t 0 n
  made n h = made_from n 0 (omega (arith, h.long)) h.each

-- the six of an array are finite, one after the other
pub six_finite : (b : List Float) → length b ≡ 6 → list_all finite b ≡ all_finite b
unfolding all_finite each turns
six_finite (a ∷ b ∷ c ∷ d ∷ e ∷ f ∷ []) h = all_six (finite a) (finite b) (finite c) (finite d) (finite e) (finite f)
  where
    all_six : (a b c d e f : Bool) → (a && (b && (c && (d && (e && (f && true)))))) ≡ (((((a && b) && c) && d) && e) && f)
    all_six true true true true true true = refl
    all_six true true true true true false = refl
    all_six true true true true false f = refl
    all_six true true true false e f = refl
    all_six true true false d e f = refl
    all_six true false c d e f = refl
    all_six false b c d e f = refl
six_finite [] h = absurd (omega arith)
six_finite (a ∷ []) h = absurd (omega arith)
six_finite (a ∷ b ∷ []) h = absurd (omega arith)
six_finite (a ∷ b ∷ c ∷ []) h = absurd (omega arith)
six_finite (a ∷ b ∷ c ∷ d ∷ []) h = absurd (omega arith)
six_finite (a ∷ b ∷ c ∷ d ∷ e ∷ []) h = absurd (omega arith)
six_finite (a ∷ b ∷ c ∷ d ∷ e ∷ f ∷ g ∷ l) h = absurd (omega arith)
