-- Tests that hold, and tests that do not.
use mathlib.Core.Bool.{Bool, ◌&&◌, ◌||◌, false, true, true≢false}
use mathlib.Core.Path.{◌∙◌, ◌≡◌, refl, sym}

-- what follows from a test that holds and does not
pub clash : {A : Type 0} {b : Bool} → b ≡ true → b ≡ false → A
clash p q = absurd (true≢false (sym p ∙ q))

pub never : {A : Type 0} → false ≡ true → A
never h = clash h refl

-- both sides of a conjunction
pub and_parts : (a b : Bool) → (a && b) ≡ true → (a ≡ true) × (b ≡ true)
and_parts true b h = (refl, h)
and_parts false b h = never h

-- neither side of a disjunction
pub or_none : (a b : Bool) → (a || b) ≡ false → (a ≡ false) × (b ≡ false)
or_none true b h = clash refl h
or_none false b h = (refl, h)
