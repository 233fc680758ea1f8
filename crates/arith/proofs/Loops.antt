-- The laws of the loops of `specs/Loop`: where no turn is left, how a turn is taken off the front, and what every turn keeps. A code loop's
-- invariant says that the turns left, from the state now, give what the whole loop gives: the first law is then its exit, the second its
-- step.
use mathlib.Core.Path.{◌≡◌, refl, sym, ap, ◌∙◌}
use Prim.Native.Nat.{ℕ, zero, suc, ◌+◌, ◌-◌, ◌≤◌, ◌<◌}
use native.Mathlib.Omega.{arith}
use mathlib.Core.Bool.{Bool, true, false, cond}
use Rattle.arith.specs.Loop.{turns, each, whilst, backs, back, tries, till, Step}
use Rattle.arith.specs.Loop.Step.{next, stop}

pub each_done : {S : Type 0} (f : ℕ → S → S) (a b : ℕ) (s : S) → b ≤ a → each f a b s ≡ s
unfolding turns each
each_done f a b s h =
    let e : b - a ≡ 0 = omega arith in rw e

pub each_turn : {S : Type 0} (f : ℕ → S → S) (a b : ℕ) (s : S) → a < b → each f a b s ≡ each f (a + 1) b (f a s)
unfolding turns each
each_turn f a b s h =
    let e : b - a ≡ suc (b - (a + 1)) = omega arith in rw e

-- where a turn was taken, the turns left give what they gave before it
pub each_next : {S : Type 0} (f : ℕ → S → S) (a b : ℕ) {s s' r : S} → a < b → s' ≡ f a s → each f a b s ≡ r → each f (a + 1) b s' ≡ r
each_next f a b {s = s} h e g = ap (each f (a + 1) b) e ∙ sym (each_turn f a b s h) ∙ g

pub whilst_done : {S : Type 0} (p : S → Bool) (f : S → S) (n : ℕ) (s : S) → p s ≡ false → whilst p f n s ≡ s
unfolding whilst
whilst_done p f zero s h = refl
whilst_done p f (suc n) s h = rw h

pub whilst_turn : {S : Type 0} (p : S → Bool) (f : S → S) (n : ℕ) (s : S) → 0 < n → p s ≡ true → whilst p f n s ≡ whilst p f (n - 1) (f s)
unfolding whilst
whilst_turn p f zero s l h = absurd (omega arith)
whilst_turn p f (suc n) s l h =
    let e : suc n - 1 ≡ n = omega arith in rw (e, h)

pub back_done : {S : Type 0} (f : ℕ → S → S) (a b : ℕ) (s : S) → b ≤ a → back f a b s ≡ s
unfolding backs back
back_done f a b s h =
    let e : b - a ≡ 0 = omega arith in rw e

pub back_turn : {S : Type 0} (f : ℕ → S → S) (a b : ℕ) (s : S) → a < b → back f a b s ≡ back f a (b - 1) (f (b - 1) s)
unfolding backs back
back_turn f a b s h =
    let e : b - a ≡ suc (b - 1 - a) = omega arith in
    let g : a + (b - 1 - a) ≡ b - 1 = omega arith in
    rw e (ap (λ (i : ℕ). backs f (b - 1 - a) a (f i s)) g)

-- what every turn keeps, the loop keeps
turns_keep : {S : Type 0} (P : S → Type 0) (f : ℕ → S → S) → ((i : ℕ) (s : S) → P s → P (f i s)) → (n a : ℕ) (s : S) → P s
    → P (turns f n a s)
unfolding turns
turns_keep P f k zero a s h = h
turns_keep P f k (suc n) a s h = turns_keep P f k n (a + 1) (f a s) (k a s h)

pub each_keeps : {S : Type 0} (P : S → Type 0) (f : ℕ → S → S) (a b : ℕ) (s : S) → ((i : ℕ) (s : S) → P s → P (f i s)) → P s
    → P (each f a b s)
unfolding each
each_keeps P f a b s k h = turns_keep P f k (b - a) a s h

turns_run : {S : Type 0} (P : ℕ → S → Type 0) (f : ℕ → S → S) (a b : ℕ) → ((i : ℕ) (s : S) → a ≤ i → i < b → P i s → P (i + 1) (f i s))
    → (n i : ℕ) (s : S) → a ≤ i → i + n ≡ b → P i s → P b (turns f n i s)
unfolding turns
turns_run P f a b k zero i s g l h = let q : i ≡ b = omega arith in rw q at h
turns_run P f a b k (suc n) i s g l h = turns_run P f a b k n (i + 1) (f i s) (omega arith) (omega arith) (k i s g (omega arith) h)

-- what holds before turn a, and goes from before each turn i to after it, holds after all of them
pub each_runs : {S : Type 0} (P : ℕ → S → Type 0) (f : ℕ → S → S) (a b : ℕ) (s : S) → a ≤ b
    → ((i : ℕ) (s : S) → a ≤ i → i < b → P i s → P (i + 1) (f i s)) → P a s → P b (each f a b s)
unfolding each
each_runs P f a b s l k h = turns_run P f a b k (b - a) a s (omega arith) (omega arith) h

turns_same : {S : Type 0} (f g : ℕ → S → S) (n a : ℕ) (s : S) → ((i : ℕ) (s : S) → a ≤ i → i < a + n → f i s ≡ g i s) → turns f n a s
    ≡ turns g n a s
unfolding turns
turns_same f g zero a s h = refl
turns_same f g (suc n) a s h = turns_same f g n (a + 1) (f a s) (λ i s l k. h i s (omega arith) (omega arith))
    ∙ ap (turns g n (a + 1)) (h a s (omega arith) (omega arith))

-- the same turns, the same result
pub each_same : {S : Type 0} (f g : ℕ → S → S) (a b : ℕ) (s : S) → ((i : ℕ) (s : S) → a ≤ i → i < b → f i s ≡ g i s) → each f a b s
    ≡ each g a b s
unfolding each
each_same f g a b s h = turns_same f g (b - a) a s (λ i s l k. h i s l (omega arith))

-- Loops that may end in any turn: I of the state where the loop goes on, P of the result where it ends.
pub data Holds {S R : Type 0} (I : S → Type 0) (P : R → Type 0) : Step S R → Type 0 where
  goes : {s : S} → I s → Holds I P (next s)
  ends : {r : R} → P r → Holds I P (stop r)

pub holds_cond : {S R : Type 0} (I : S → Type 0) (P : R → Type 0) (b : Bool) {x y : Step S R} → (b ≡ true → Holds I P x)
    → (b ≡ false → Holds I P y)
    → Holds I P (cond b x y)
holds_cond I P true p q = p refl
holds_cond I P false p q = q refl

module _ {S R : Type 0} (I : S → Type 0) (P : R → Type 0) (f : ℕ → S → Step S R) (out : S → R)
    (step : (i : ℕ) (s : S) → I s → Holds I P (f i s))
    (end : (s : S) → I s → P (out s)) where
  tries_hold : (n i : ℕ) (s : S) → I s → P (tries f out n i s)
  unfolding tries
  tries_hold zero i s h = end s h
  tries_hold (suc n) i s h = go (f i s) (step i s h) (λ t. tries_hold n (i + 1) t)
    where
      go : (x : Step S R) → Holds I P x → ((t : S) → I t → P (tries f out n (i + 1) t))
          → P (elim x [ next t ↦ tries f out n (i + 1) t | stop r ↦ r ])
      go (next t) (goes g) again = again t g
      go (stop r) (ends g) again = g

  -- what every turn keeps, and every end has, the loop's result has
  pub till_holds : (a b : ℕ) (s : S) → I s → P (till f out a b s)
  unfolding till
  till_holds a b s h = tries_hold (b - a) a s h

pub till_done : {S R : Type 0} (f : ℕ → S → Step S R) (out : S → R) (a b : ℕ) (s : S) → b ≤ a → till f out a b s ≡ out s
unfolding tries till
till_done f out a b s h =
    let e : b - a ≡ 0 = omega arith in rw e

pub till_next : {S R : Type 0} (f : ℕ → S → Step S R) (out : S → R) (a b : ℕ) (s : S) (s' : S) → a < b → f a s ≡ next s' → till f out a b s
    ≡ till f out (a + 1) b s'
unfolding tries till
till_next f out a b s s' h g =
    let e : b - a ≡ suc (b - (a + 1)) = omega arith in rw e (rw (g, tries))

pub till_stop : {S R : Type 0} (f : ℕ → S → Step S R) (out : S → R) (a b : ℕ) (s : S) (r : R) → a < b → f a s ≡ stop r → till f out a b s
    ≡ r
unfolding tries till
till_stop f out a b s r h g =
    let e : b - a ≡ suc (b - (a + 1)) = omega arith in rw e (rw (g, tries))
