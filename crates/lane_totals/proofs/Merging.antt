-- Totals are merged in any order.
use mathlib.Core.Path.{◌≡◌, refl, sym, ap, ◌∙◌}
use mathlib.Core.List.{List, ◌∷◌, Permᴰ}
use mathlib.Core.Option.{Option, some, none}
use Prim.Native.Nat.{◌+◌}
use native.Mathlib.Omega.{arith}
use lib.IntN.{ℤ, pos, negsuc, +ℤ_assoc, +ℤ_comm, +ℤ_idl}
use Rattle.lane_totals.specs.Totals.{Totals, lower, higher, either, nothing, merge, season}

lower_comm : (a b : ℤ) → lower a b ≡ lower b a
lower_comm (pos a) (pos b) = ap pos (omega arith)
lower_comm (pos a) (negsuc b) = refl
lower_comm (negsuc a) (pos b) = refl
lower_comm (negsuc a) (negsuc b) = ap negsuc (omega arith)

lower_assoc : (a b c : ℤ) → lower (lower a b) c ≡ lower a (lower b c)
lower_assoc (pos a) (pos b) (pos c) = ap pos (omega arith)
lower_assoc (pos a) (pos b) (negsuc c) = refl
lower_assoc (pos a) (negsuc b) (pos c) = refl
lower_assoc (pos a) (negsuc b) (negsuc c) = refl
lower_assoc (negsuc a) (pos b) (pos c) = refl
lower_assoc (negsuc a) (pos b) (negsuc c) = refl
lower_assoc (negsuc a) (negsuc b) (pos c) = refl
lower_assoc (negsuc a) (negsuc b) (negsuc c) = ap negsuc (omega arith)

higher_comm : (a b : ℤ) → higher a b ≡ higher b a
higher_comm (pos a) (pos b) = ap pos (omega arith)
higher_comm (pos a) (negsuc b) = refl
higher_comm (negsuc a) (pos b) = refl
higher_comm (negsuc a) (negsuc b) = ap negsuc (omega arith)

higher_assoc : (a b c : ℤ) → higher (higher a b) c ≡ higher a (higher b c)
higher_assoc (pos a) (pos b) (pos c) = ap pos (omega arith)
higher_assoc (pos a) (pos b) (negsuc c) = refl
higher_assoc (pos a) (negsuc b) (pos c) = refl
higher_assoc (pos a) (negsuc b) (negsuc c) = refl
higher_assoc (negsuc a) (pos b) (pos c) = refl
higher_assoc (negsuc a) (pos b) (negsuc c) = refl
higher_assoc (negsuc a) (negsuc b) (pos c) = refl
higher_assoc (negsuc a) (negsuc b) (negsuc c) = ap negsuc (omega arith)

module _ (f : ℤ → ℤ → ℤ) where
  either_comm : ((a b : ℤ) → f a b ≡ f b a) → (x y : Option ℤ) → either f x y ≡ either f y x
  either_comm c none none = refl
  either_comm c none (some b) = refl
  either_comm c (some a) none = refl
  either_comm c (some a) (some b) = ap some (c a b)

  either_assoc : ((a b c : ℤ) → f (f a b) c ≡ f a (f b c)) → (x y z : Option ℤ) → either f (either f x y) z ≡ either f x (either f y z)
  either_assoc g none y z = refl
  either_assoc g (some a) none z = refl
  either_assoc g (some a) (some b) none = refl
  either_assoc g (some a) (some b) (some c) = ap some (g a b c)

pub merge_comm : (a b : Totals) → merge a b ≡ merge b a
unfolding merge
merge_comm a b =
    let lanes : a.lanes + b.lanes ≡ b.lanes + a.lanes = omega arith in
    let segments : a.segments + b.segments ≡ b.segments + a.segments = omega arith in
    let away : a.turned_away + b.turned_away ≡ b.turned_away + a.turned_away = omega arith in
    λ i. record {
      lanes = lanes i;
      segments = segments i;
      lowest = either_comm lower lower_comm a.lowest b.lowest i;
      highest = either_comm higher higher_comm a.highest b.highest i;
      sum = +ℤ_comm a.sum b.sum i;
      turned_away = away i;
    }

pub merge_assoc : (a b c : Totals) → merge (merge a b) c ≡ merge a (merge b c)
unfolding merge
merge_assoc a b c =
    let lanes : a.lanes + b.lanes + c.lanes ≡ a.lanes + (b.lanes + c.lanes) = omega arith in
    let segments : a.segments + b.segments + c.segments ≡ a.segments + (b.segments + c.segments) = omega arith in
    let away : a.turned_away + b.turned_away + c.turned_away ≡ a.turned_away + (b.turned_away + c.turned_away) = omega arith in
    λ i. record {
      lanes = lanes i;
      segments = segments i;
      lowest = either_assoc lower lower_assoc a.lowest b.lowest c.lowest i;
      highest = either_assoc higher higher_assoc a.highest b.highest c.highest i;
      sum = +ℤ_assoc a.sum b.sum c.sum i;
      turned_away = away i;
    }

pub merge_nothing : (a : Totals) → merge nothing a ≡ a
unfolding merge
merge_nothing a =
    let lanes : 0 + a.lanes ≡ a.lanes = omega arith in
    let segments : 0 + a.segments ≡ a.segments = omega arith in
    let away : 0 + a.turned_away ≡ a.turned_away = omega arith in
    λ i. record {
      lanes = lanes i;
      segments = segments i;
      lowest = a.lowest;
      highest = a.highest;
      sum = +ℤ_idl a.sum i;
      turned_away = away i;
    }

-- two lanes, one after the other
swapped : (a b t : Totals) → merge a (merge b t) ≡ merge b (merge a t)
swapped a b t = sym (merge_assoc a b t) ∙ ap (λ (x : Totals). merge x t) (merge_comm a b) ∙ merge_assoc b a t

-- the order of the lanes does not change the totals
pub season_order : (s t : List Totals) → Permᴰ s t → season s ≡ season t
unfolding season
season_order _ _ Permᴰ.nil = refl
season_order _ _ (Permᴰ.cons {a} {b} {l₁} {l₂} e p) = ap (λ (x : Totals). merge x (season l₁)) e ∙ ap (merge b) (season_order l₁ l₂ p)
season_order _ _ (Permᴰ.swap {a} {b} {a'} {b'} {l} e f) =
    swapped a b (season l) ∙ ap (λ (x : Totals). merge x (merge a (season l))) f ∙ ap (λ (x : Totals). merge a' (merge x (season l))) e
season_order _ _ (Permᴰ.trans {l₁} {l₂} {l₃} p q) = season_order l₁ l₂ p ∙ season_order l₂ l₃ q

-- a season from a lane on that was merged before
pub season_from : (t a : Totals) (lanes : List Totals) → merge (merge t a) (season lanes) ≡ merge t (season (a ∷ lanes))
unfolding season
season_from t a lanes = merge_assoc t a (season lanes)
