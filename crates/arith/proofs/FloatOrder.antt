-- The order of `f64` numbers. `<=` is transitive: a NaN is at or below nothing, so that a chain of `<=` has none. Of two numbers that are
-- no NaN, where the first is not at or below the second, the second is below the first.
use mathlib.Core.Path.{◌≡◌, refl, sym, ◌∙◌}
use mathlib.Core.Bool.{Bool, true, false, ◌&&◌, ◌||◌, cond}
use mathlib.Core.Logic.{◌⊎◌, inl, inr, ⊎_elim}
use Prim.Native.Nat.{ℕ, suc, ◌+◌, ◌*◌, ◌≤◌, ◌<◌}
use native.Mathlib.Omega.{arith}
use native.Mathlib.Decide.{dec_lt}
use native.Mathlib.Nat.{mul-le-mul_right, le_of_mul-le-mul_right}
use lib.Dec.{ltb, eqb}
use lib.IntN.{ℤ, pos, negsuc}
use lib.Pow.{pow_pos}
use lib.Ieee.{Float, nan, inf, fin, lt, eq, le, below, level, up, down}
use borrow.Author.Tests.{ltb-true, lt-ltb, le-ltb, eqb-true, eq-eqb, ne_eqb}

false_true : {P : Type 0} → ◌≡◌ {A = Bool} false true → P
false_true h = let z : ◌≡◌ {A = ℕ} 0 1 = cc in absurd (omega arith)

true_false : {P : Type 0} → ◌≡◌ {A = Bool} true false → P
true_false h = false_true (sym h)

and_true : (p q : Bool) → (p && q) ≡ true → (p ≡ true) × (q ≡ true)
and_true true true h = (refl, refl)
and_true true false h = false_true h
and_true false q h = false_true h

or_true : (p q : Bool) → (p || q) ≡ true → (p ≡ true) ⊎ (q ≡ true)
or_true true q h = inl refl
or_true false q h = inr h

or_left : (p q : Bool) → p ≡ true → (p || q) ≡ true
or_left true q h = refl
or_left false q h = false_true h

or_right : (p q : Bool) → q ≡ true → (p || q) ≡ true
or_right true q h = refl
or_right false q h = h

-- what a signed number has above 0, and what it has below
abbrev high : Bool → ℕ → ℕ
high s a = cond s 0 a

abbrev low : Bool → ℕ → ℕ
low s a = cond s a 0

below_true : (s t : Bool) (a b : ℕ) → below s a t b ≡ true → high s a + low t b < high t b + low s a
below_true false false a b h = omega (arith, ltb-true a b h)
below_true false true a b h = false_true h
below_true true false a b h = omega (arith, ltb-true 0 (a + b) h)
below_true true true a b h = omega (arith, ltb-true b a h)

level_true : (s t : Bool) (a b : ℕ) → level s a t b ≡ true → high s a + low t b ≡ high t b + low s a
level_true false false a b h = omega (arith, eqb-true a b (and_true (eqb a b) _ h).0)
level_true false true a b h = omega (arith, eqb-true a b (and_true (eqb a b) _ h).0, eqb-true a 0 (and_true (eqb a b) _ h).1)
level_true true false a b h = omega (arith, eqb-true a b (and_true (eqb a b) _ h).0, eqb-true a 0 (and_true (eqb a b) _ h).1)
level_true true true a b h = omega (arith, eqb-true a b (and_true (eqb a b) _ h).0)

below_of : (s t : Bool) (a b : ℕ) → high s a + low t b < high t b + low s a → below s a t b ≡ true
below_of false false a b h = lt-ltb a b (omega arith)
below_of false true a b h = absurd (omega arith)
below_of true false a b h = lt-ltb 0 (a + b) (omega arith)
below_of true true a b h = lt-ltb b a (omega arith)

level_of : (s t : Bool) (a b : ℕ) → high s a + low t b ≡ high t b + low s a → level s a t b ≡ true
level_of false false a b h = rw (eq-eqb a b (omega arith))
level_of false true a b h = rw (eq-eqb a b (omega arith), eq-eqb a 0 (omega arith))
level_of true false a b h = rw (eq-eqb a b (omega arith), eq-eqb a 0 (omega arith))
level_of true true a b h = rw (eq-eqb a b (omega arith))

at_most_true : (s t : Bool) (a b : ℕ) → (below s a t b || level s a t b) ≡ true → high s a + low t b ≤ high t b + low s a
at_most_true s t a b h =
    ⊎_elim (λ (g : below s a t b ≡ true). omega (arith, below_true s t a b g)) (λ (g : level s a t b ≡ true). omega
    (arith, level_true s t a b g)) (or_true (below s a t b) (level s a t b) h)

at_most_of : (s t : Bool) (a b : ℕ) → high s a + low t b ≤ high t b + low s a → (below s a t b || level s a t b) ≡ true
at_most_of s t a b h = elim (dec_lt (high s a + low t b) (high t b + low s a)) [
  | yes g ↦ or_left (below s a t b) (level s a t b) (below_of s t a b g)
  | no g ↦ or_right (below s a t b) (level s a t b) (level_of s t a b (omega arith))
]

not_at_most : (s t : Bool) (a b : ℕ) → (below s a t b || level s a t b) ≡ false → below t b s a ≡ true
not_at_most s t a b h = elim (dec_lt (high t b + low s a) (high s a + low t b)) [
  | yes g ↦ below_of t s b a g
  | no g ↦ true_false (sym (at_most_of s t a b (omega arith)) ∙ h)
]

high_mul : (s : Bool) (a k : ℕ) → high s (a * k) ≡ high s a * k
high_mul true a k = omega arith
high_mul false a k = refl

low_mul : (s : Bool) (a k : ℕ) → low s (a * k) ≡ low s a * k
low_mul true a k = refl
low_mul false a k = omega arith

-- fractions over three denominators
chain : (x x' y y' z z' d e f : ℕ) → 0 < e → x * e + y' * d ≤ y * d + x' * e → y * f + z' * e ≤ z * e + y' * f → x * f + z' * d
    ≤ z * d + x' * f
chain x x' y y' z z' d e f h g k =
    let u : (x * e + y' * d) * f ≤ (y * d + x' * e) * f = mul-le-mul_right f g in
    let v : (y * f + z' * e) * d ≤ (z * e + y' * f) * d = mul-le-mul_right d k in
    let w : (x * f + z' * d) * e ≤ (z * d + x' * f) * e = omega arith in
    le_of_mul-le-mul_right w h

down_pos : (e : ℤ) → 0 < down e
down_pos (pos k) = omega arith
down_pos (negsuc k) = pow_pos (suc k)

scaled : (s t : Bool) (a b d e : ℕ) → (below s (a * e) t (b * d) || level s (a * e) t (b * d)) ≡ true → high s a * e + low t b * d
    ≤ high t b * d + low s a * e
scaled s t a b d e h = rw (high_mul s a e, low_mul t b d, high_mul t b d, low_mul s a e) at (at_most_true s t (a * e) (b * d) h)

fin_trans : (s t r : Bool) (a b c d e f : ℕ) → 0 < e → (below s (a * e) t (b * d) || level s (a * e) t (b * d)) ≡ true
    → (below t (b * f) r (c * e) || level t (b * f) r (c * e)) ≡ true
    → (below s (a * f) r (c * d) || level s (a * f) r (c * d)) ≡ true
fin_trans s t r a b c d e f p h g =
    at_most_of s r (a * f) (c * d)
    (rw (high_mul s a f, low_mul r c d, high_mul r c d, low_mul s a f) (chain (high s a) (low s a) (high t b) (low t b) (high r c) (low r c)
    d e f p (scaled s t a b d e h) (scaled t r b c e f g)))

pub le_trans : (x y z : Float) → le x y ≡ true → le y z ≡ true → le x z ≡ true
unfolding le lt eq
le_trans nan y z h g = false_true h
le_trans (inf s) nan z h g = false_true h
le_trans (inf s) (inf t) nan h g = false_true g
le_trans (inf true) (inf t) (inf true) h g = refl
le_trans (inf true) (inf t) (inf false) h g = refl
le_trans (inf false) (inf true) (inf r) h g = false_true h
le_trans (inf false) (inf false) (inf r) h g = g
le_trans (inf true) (inf t) (fin r p f) h g = refl
le_trans (inf false) (inf true) (fin r p f) h g = false_true h
le_trans (inf false) (inf false) (fin r p f) h g = g
le_trans (inf s) (fin t n d) nan h g = false_true g
le_trans (inf true) (fin t n d) (inf true) h g = refl
le_trans (inf true) (fin t n d) (inf false) h g = refl
le_trans (inf false) (fin t n d) (inf r) h g = false_true h
le_trans (inf true) (fin t n d) (fin r p f) h g = refl
le_trans (inf false) (fin t n d) (fin r p f) h g = false_true h
le_trans (fin s m e) nan z h g = false_true h
le_trans (fin s m e) (inf t) nan h g = false_true g
le_trans (fin s m e) (inf true) (inf r) h g = false_true h
le_trans (fin s m e) (inf false) (inf true) h g = false_true g
le_trans (fin s m e) (inf false) (inf false) h g = refl
le_trans (fin s m e) (inf true) (fin r p f) h g = false_true h
le_trans (fin s m e) (inf false) (fin r p f) h g = false_true g
le_trans (fin s m e) (fin t n d) nan h g = false_true g
le_trans (fin s m e) (fin t n d) (inf r) h g = g
le_trans (fin s m e) (fin t n d) (fin r p f) h g = fin_trans s t r (m * up e) (n * up d) (p * up f) (down e) (down d) (down f) (down_pos d)
    h g

-- x is no NaN where it is at or below itself
pub lt_of_not_le : (x y : Float) → le x x ≡ true → le y y ≡ true → le x y ≡ false → lt y x ≡ true
unfolding le lt eq
lt_of_not_le nan y h g k = false_true h
lt_of_not_le (inf s) nan h g k = false_true g
lt_of_not_le (inf true) (inf true) h g k = true_false k
lt_of_not_le (inf true) (inf false) h g k = true_false k
lt_of_not_le (inf false) (inf true) h g k = refl
lt_of_not_le (inf false) (inf false) h g k = true_false k
lt_of_not_le (inf true) (fin t n d) h g k = true_false k
lt_of_not_le (inf false) (fin t n d) h g k = refl
lt_of_not_le (fin s m e) nan h g k = false_true g
lt_of_not_le (fin s m e) (inf true) h g k = refl
lt_of_not_le (fin s m e) (inf false) h g k = true_false k
lt_of_not_le (fin s m e) (fin t n d) h g k = not_at_most s t (m * up e * down d) (n * up d * down e) k

le_inf : (s : Bool) → le (inf s) (inf s) ≡ true
unfolding le lt eq
le_inf true = refl
le_inf false = refl

le_fin : (s : Bool) (m : ℕ) (e : ℤ) → le (fin s m e) (fin s m e) ≡ true
unfolding le lt eq
le_fin s m e = at_most_of s s (m * up e * down e) (m * up e * down e) (omega arith)

-- what is at or below something, or has something at or below it, is no NaN
pub le_self : (x y : Float) → le x y ≡ true → (le x x ≡ true) × (le y y ≡ true)
unfolding le lt eq
le_self nan y h = false_true h
le_self (inf s) nan h = false_true h
le_self (inf s) (inf t) h = (le_inf s, le_inf t)
le_self (inf s) (fin t n d) h = (le_inf s, le_fin t n d)
le_self (fin s m e) nan h = false_true h
le_self (fin s m e) (inf t) h = (le_fin s m e, le_inf t)
le_self (fin s m e) (fin t n d) h = (le_fin s m e, le_fin t n d)

-- ---- `<` with `<=`
clash : {A : Type 0} {b : Bool} → b ≡ true → b ≡ false → A
clash p q = absurd (true_false (sym p ∙ q))

pub lt_le : (x y : Float) → lt x y ≡ true → le x y ≡ true
unfolding le
lt_le x y h = rw h

apart : (a b : ℕ) → a < b → (ltb b a || (eqb b a && true)) ≡ false
apart a b l = rw (le-ltb b a (omega arith), ne_eqb b a (λ e. absurd (omega arith)))

off : (p : Bool) (a b : ℕ) → 0 < a → (eqb b a && (false || eqb b 0)) ≡ false
off p a b l = elim (dec_lt 0 b) [
  | yes g ↦ rw (ne_eqb b 0 (λ e. absurd (omega arith))) (none (eqb b a))
  | no g ↦ rw (ne_eqb b a (λ e. absurd (omega arith)))
]
  where
    none : (q : Bool) → (q && false) ≡ false
    none true = refl
    none false = refl

below_not : (s t : Bool) (a b : ℕ) → below s a t b ≡ true → (below t b s a || level t b s a) ≡ false
below_not false false a b h = apart a b (ltb-true a b h)
below_not false true a b h = clash h refl
below_not true false a b h = elim (dec_lt 0 a) [
  | yes l ↦ off true a b l
  | no l ↦
      let g = ltb-true 0 (a + b) h in
      rw (ne_eqb b a (λ e. absurd (omega arith)))
]
below_not true true a b h =
    let l = ltb-true b a h in rw (le-ltb a b (omega arith), ne_eqb b a (λ e. absurd (omega arith)))

-- where x is below y, y is not at or below x
pub lt_not_le : (x y : Float) → lt x y ≡ true → le y x ≡ false
unfolding le lt eq
lt_not_le nan y h = clash h refl
lt_not_le (inf s) nan h = clash h refl
lt_not_le (inf true) (inf true) h = clash h refl
lt_not_le (inf true) (inf false) h = refl
lt_not_le (inf false) (inf t) h = clash h refl
lt_not_le (inf true) (fin t n d) h = refl
lt_not_le (inf false) (fin t n d) h = clash h refl
lt_not_le (fin s m e) nan h = clash h refl
lt_not_le (fin s m e) (inf true) h = clash h refl
lt_not_le (fin s m e) (inf false) h = refl
lt_not_le (fin s m e) (fin t n d) h = below_not s t (m * up e * down d) (n * up d * down e) h

-- where x is at or below y, y is not below x
pub le_not_lt : (x y : Float) → le x y ≡ true → lt y x ≡ false
le_not_lt x y h = go (lt y x) refl
  where
    go : (b : Bool) → lt y x ≡ b → b ≡ false
    go true e = clash h (lt_not_le y x e)
    go false e = refl

pub le_lt_trans : (x y z : Float) → le x y ≡ true → lt y z ≡ true → lt x z ≡ true
le_lt_trans x y z h g = lt_of_not_le z x (le_self y z (lt_le y z g)).1 (le_self x y h).0 (go (le z x) refl)
  where
    go : (b : Bool) → le z x ≡ b → b ≡ false
    go true e = clash (le_trans z x y e h) (lt_not_le y z g)
    go false e = refl

pub lt_le_trans : (x y z : Float) → lt x y ≡ true → le y z ≡ true → lt x z ≡ true
lt_le_trans x y z h g = lt_of_not_le z x (le_self y z g).1 (le_self x y (lt_le x y h)).0 (go (le z x) refl)
  where
    go : (b : Bool) → le z x ≡ b → b ≡ false
    go true e = clash (le_trans y z x g e) (lt_not_le x y h)
    go false e = refl
