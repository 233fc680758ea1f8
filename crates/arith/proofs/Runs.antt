-- Invariants that count the turns of a loop.
use mathlib.Core.Path.{◌≡◌, refl, ap, ◌∙◌}
use mathlib.Core.Bool.{Bool, true, false, cond}
use Prim.Native.Nat.{ℕ, zero, suc, ◌+◌, ◌-◌, ◌≤◌}
use native.Mathlib.Omega.{arith}
use Rattle.arith.specs.Loop.{turns, each, whilst}

-- an invariant that holds with the turns that are left ends where no turn is left to take
pub whilst_ends : {S : Type 0} (P : ℕ → S → Type 0) (p : S → Bool) (f : S → S) → ((n : ℕ) (s : S) → p s ≡ true → P (suc n) s → P n (f s))
    → ((s : S) → P 0 s → p s ≡ false)
    → (n : ℕ) (s : S) → P n s → (m : ℕ) × P m (whilst p f n s) × (p (whilst p f n s) ≡ false)
unfolding whilst
whilst_ends P p f step none zero s h = (0, h, none s h)
whilst_ends {S} P p f step none (suc n) s h = go (p s) refl (λ (e : p s ≡ true). whilst_ends P p f step none n (f s) (step n s e h))
  where
    go : (b : Bool) → p s ≡ b → (p s ≡ true → (m : ℕ) × P m (whilst p f n (f s)) × (p (whilst p f n (f s)) ≡ false))
        → (m : ℕ) × P m (cond b (whilst p f n (f s)) s) × (p (cond b (whilst p f n (f s)) s) ≡ false)
    go true e again = again e
    go false e again = (suc n, h, e)

-- the last turn of a loop
turns_last : {S : Type 0} (f : ℕ → S → S) (n a : ℕ) (s : S) → turns f (suc n) a s ≡ f (a + n) (turns f n a s)
unfolding turns
turns_last f zero a s = let e : a + 0 ≡ a = omega arith in rw e
turns_last f (suc n) a s = turns_last f n (a + 1) (f a s) ∙ ap (λ (i : ℕ). f i (turns f n (a + 1) (f a s))) {x = a + 1 + n} {y = a + suc n}
    (omega arith)

pub each_last : {S : Type 0} (f : ℕ → S → S) (a b : ℕ) (s : S) → a ≤ b → each f a (b + 1) s ≡ f b (each f a b s)
unfolding each
each_last f a b s h =
    let e : b + 1 - a ≡ suc (b - a) = omega arith in
    let g : a + (b - a) ≡ b = omega arith in
    rw e (turns_last f (b - a) a s ∙ ap (λ (i : ℕ). f i (turns f (b - a) a s)) g)
