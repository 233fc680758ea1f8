-- What the steps of `build` give, said of an answer: a property of its value, of a refusal's number, and of an exhausted one.
use Rattle.std.proofs.Common.{◌≡◌, ℕ, Bool, true, false, cond, eqb, refl, subst}
use lib.Ieee.{Float}
use Rattle.smoothing.specs.Answer.{Answer, and_then, unless}
use Rattle.smoothing.specs.Answer.Answer.{done, refused, exhausted}

-- I of the value, P of the number, E where the refinements are used up
pub data Gives {A : Type 0} (I : A → Type 0) (P : ℕ → Type 0) (E : Type 0) : Answer A → Type 0 where
  gives : {a : A} → I a → Gives I P E (done a)
  refuses : {n : ℕ} → P n → Gives I P E (refused n)
  exhausts : {x : Float} → E → Gives I P E (exhausted x)

-- steps one after the other
pub gives_then : {P : ℕ → Type 0} {E A B : Type 0} {I : A → Type 0} {J : B → Type 0} (x : Answer A) (f : A → Answer B)
    → Gives I P E x → ((a : A) → I a → Gives J P E (f a)) → Gives J P E (and_then x f)
unfolding and_then
gives_then (done a) f (gives h) k = k a h
gives_then (refused n) f (refuses h) k = refuses h
gives_then (exhausted w) f (exhausts h) k = exhausts h

-- a test
pub gives_cond : {P : ℕ → Type 0} {E A : Type 0} {I : A → Type 0} (b : Bool) (x y : Answer A)
    → (b ≡ true → Gives I P E x) → (b ≡ false → Gives I P E y) → Gives I P E (cond b x y)
gives_cond true x y h k = h refl
gives_cond false x y h k = k refl

pub gives_unless : {P : ℕ → Type 0} {E A : Type 0} {I : A → Type 0} (n : ℕ) (a : A)
    → (eqb n 0 ≡ true → I a) → (eqb n 0 ≡ false → P n) → Gives I P E (unless n a)
unfolding unless
gives_unless n a h k = gives_cond (eqb n 0) (done a) (refused n) (λ e. gives (h e)) (λ e. refuses (k e))

-- what follows from the value
pub gives_more : {P : ℕ → Type 0} {E A : Type 0} {I J : A → Type 0} (x : Answer A) → ((a : A) → x ≡ done a → I a → J a) → Gives I P E x
    → Gives J P E x
gives_more (done a) k (gives h) = gives (k a refl h)
gives_more (refused n) k (refuses h) = refuses h
gives_more (exhausted w) k (exhausts h) = exhausts h

-- where nothing is asked of a refusal
pub gives_where : {A : Type 0} {I : A → Type 0} (x : Answer A) → ((a : A) → x ≡ done a → I a) → Gives I (λ n. Unit {0}) Unit x
gives_where (done a) k = gives (k a refl)
gives_where (refused n) k = refuses tt
gives_where (exhausted w) k = exhausts tt

-- what an answer that is known gives
abbrev Told : {A : Type 0} → (A → Type 0) → (ℕ → Type 0) → Type 0 → Answer A → Type 0
Told I P E (done a) = I a
Told I P E (refused n) = P n
Told I P E (exhausted x) = E

told : {P : ℕ → Type 0} {E A : Type 0} {I : A → Type 0} (x : Answer A) → Gives I P E x → Told I P E x
told (done a) (gives h) = h
told (refused n) (refuses h) = h
told (exhausted w) (exhausts h) = h

pub gives_done : {P : ℕ → Type 0} {E A : Type 0} {I : A → Type 0} {x : Answer A} {a : A} → Gives I P E x → x ≡ done a → I a
gives_done {P} {E} {A} {I} {x} {a} h e = told (done a) (subst (Gives I P E) e h)

pub gives_refused : {P : ℕ → Type 0} {E A : Type 0} {I : A → Type 0} {x : Answer A} {n : ℕ} → Gives I P E x → x ≡ refused n → P n
gives_refused {P} {E} {A} {I} {x} {n} h e = told (refused n) (subst (Gives I P E) e h)

pub gives_exhausted : {P : ℕ → Type 0} {E A : Type 0} {I : A → Type 0} {x : Answer A} {w : Float} → Gives I P E x → x ≡ exhausted w → E
gives_exhausted {P} {E} {A} {I} {x} {w} h e = told (exhausted w) (subst (Gives I P E) e h)
