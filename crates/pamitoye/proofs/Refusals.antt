-- An answer that is neither an acceptance nor 14 is a refusal with its number alone.
use mathlib.Core.Path.{◌≡◌, refl, sym, ap}
use mathlib.Core.Bool.{Bool, true, false, not, ◌&&◌}
use mathlib.Core.Logic.{inl, inr}
use mathlib.Core.List.{List, [], ◌∷◌}
use Prim.Native.Nat.{ℕ}
use borrow.Author.Tests.{eq-eqb}
use lib.Dec.{T, eqb}
use lib.Ieee.{Float}
use types.Run.{OneOf}
use denote.Enum.Declared
use Rattle.smoothing.specs.Answer.Answer.{refused}
use Rattle.building.specs.contracts.Answer as declared
use Rattle.building.specs.declared.Answer.{Answer}
use Rattle.building.specs.declared.Answer.TheVariants.{Accepted, BadPoints, NoAxes, BadAxes, BadTolerance, BadParameters, BadRange, Overflow, InitialSegments, BadDiagonal, BadPivot, BadSolution, NotAbove, NotFinite, RefinementsUsedUp, SegmentsUsedUp, BadMidpoint, ErrorAboveTolerance, AboveDomain, ShortSlice, PointCells, ToleranceTooFine}
use Rattle.building.specs.Outcome.{outcome_of}
use Rattle.pamitoye.specs.Builds.{counts_after, ratio_after}

-- the places of the other cases in the enum
abbrev others : List ℕ
others = 1 ∷ 2 ∷ 3 ∷ 4 ∷ 5 ∷ 6 ∷ 7 ∷ 8 ∷ 9 ∷ 10 ∷ 11 ∷ 12 ∷ 13 ∷ 15 ∷ 16 ∷ 17 ∷ 18 ∷ 19 ∷ 20 ∷ 21 ∷ []

abbrev absent : ℕ → List ℕ → Bool
absent x [] = true
absent x (k ∷ l) = not (eqb x k) && absent x l

differs : (x k : ℕ) (b : Bool) → T (not (eqb x k) && b) → x ≡ k → ⊥
differs x k b h e = rw (eq-eqb x k e) at h

later : (a b : Bool) → T (a && b) → T b
later true b h = h
later false b h = absurd h

no_key : (x : ℕ) (l : List ℕ) → T (absent x l) → OneOf l x → ⊥
no_key x [] h o = o
no_key x (k ∷ []) h o = differs x k true h o
no_key x (k ∷ k' ∷ l) h (inl e) = differs x k (absent x (k' ∷ l)) h e
no_key x (k ∷ k' ∷ l) h (inr o) = no_key x (k' ∷ l) (later (not (eqb x k)) (absent x (k' ∷ l)) h) o

pub neither : (a : Answer) → OneOf others (Declared.tag_of declared.the_type a) → (n : ℕ) × (outcome_of a ≡ refused n)
neither (Accepted r) h = absurd (no_key 0 others tt h)
neither BadPoints h = (1, refl)
neither NoAxes h = (2, refl)
neither BadAxes h = (3, refl)
neither BadTolerance h = (4, refl)
neither BadParameters h = (5, refl)
neither BadRange h = (6, refl)
neither Overflow h = (7, refl)
neither InitialSegments h = (8, refl)
neither BadDiagonal h = (9, refl)
neither BadPivot h = (10, refl)
neither BadSolution h = (11, refl)
neither NotAbove h = (12, refl)
neither NotFinite h = (13, refl)
neither (RefinementsUsedUp x) h = absurd (no_key 14 others tt h)
neither SegmentsUsedUp h = (15, refl)
neither BadMidpoint h = (16, refl)
neither ErrorAboveTolerance h = (17, refl)
neither AboveDomain h = (18, refl)
neither ShortSlice h = (19, refl)
neither PointCells h = (20, refl)
neither ToleranceTooFine h = (26, refl)

-- nothing is written then
pub untouched : (a : Answer) → OneOf others (Declared.tag_of declared.the_type a) → (counts : List ℕ) (ratio : Float)
    → (counts ≡ counts_after (outcome_of a) counts) × (ratio ≡ ratio_after (outcome_of a) ratio)
untouched a h counts ratio =
    let e = sym (neither a h).1 in
    (ap (λ z. counts_after z counts) e, ap (λ z. ratio_after z ratio) e)
