-- The total order is one: of two values one comes before the other or is it, the order is transitive, and two values of a format that come
-- before each other are the same.
use mathlib.Core.Path.{◌≡◌, refl, sym, ap, ◌∙◌, subst}
use mathlib.Core.Bool.{Bool, true, false, not, ◌&&◌, ◌||◌, beq, cond, true≢false}
use Prim.Native.Nat.{ℕ, ◌+◌, ◌*◌, ◌^◌, ◌≤◌, ◌<◌}
use native.Mathlib.Nat.{add_comm}
use native.Mathlib.Decide.{dec_lt}
use native.Mathlib.Omega.{arith}
use lib.Dec.{T, ltb, eqb, lt→ltb, eqb→eq}
use lib.Arith.{le→nltb}
use lib.IntN.{ℤ, pos, ◌*ℤ◌}
use lib.Ieee.{Float, nan, inf, fin, Format, low, up, down, fits, is_nan, lt, eq, below, level, to_bits, of_bits}
use lib.Ieee.Bits.{is_true, is_false, of_bits-to_bits}
use lib.Ieee.Fits.{down_pos, eq→eqb, and_l}
use lib.Ieee.Nearest.{div_same}
use Rattle.fraction.specs.WellDefined.{fraction_at_most_law}
use Rattle.fraction.specs.Value.{value}
use Rattle.fraction.specs.Rational.{◌≤q◌, at_mostq}
use Rattle.fraction.specs.Integer.{◌≤z◌, signed}
use Rattle.fraction.proofs.Value.{signed_mul, signed_order, value_le_of_not_lt}
use Rattle.fraction.proofs.Rational.{≤q-trans}
use Rattle.float.specs.Order.{negative, total_le}
use Rattle.float.proofs.Tests.{clash, holds}

-- ---- of `<`, `=` and `>` one holds, but for a NaN
data Tri : Bool → Bool → Bool → Type 0 where
  less : Tri true false false
  same : Tri false true false
  more : Tri false false true

tri_nat : (a b : ℕ) → Tri (ltb a b) (eqb a b) (ltb b a)
tri_nat a b = elim (dec_lt a b) [
  | yes l ↦ rw (is_true (ltb a b) (lt→ltb a b l), off a b (λ e. omega arith), under b a (omega arith)) less
  | no g ↦ elim (dec_lt b a) [
    | yes l ↦ rw (under a b (omega arith), off a b (λ e. omega arith), is_true (ltb b a) (lt→ltb b a l)) more
    | no k ↦ rw (under a b (omega arith), is_true (eqb a b) (eq→eqb (level_at g k)), under b a (omega arith)) same
  ]
]
  where
    under : (a b : ℕ) → b ≤ a → ltb a b ≡ false
    under a b h = is_false (ltb a b) (le→nltb a b h)

    off : (a b : ℕ) → (a ≡ b → ⊥) → eqb a b ≡ false
    off a b n = go (eqb a b) (eqb→eq a b)
      where
        go : (t : Bool) → (T t → a ≡ b) → t ≡ false
        go true h = absurd (n (h tt))
        go false h = refl

    level_at : ¬ (a < b) → ¬ (b < a) → a ≡ b
    level_at g k = omega arith

mirror : {l e g : Bool} → Tri l e g → Tri g e l
mirror less = more
mirror same = same
mirror more = less

-- a against -b
tri_mixed : (a b : ℕ) → Tri false (level false a true b) (ltb 0 (b + a))
tri_mixed a b = elim (dec_lt 0 (b + a)) [
  | yes l ↦ rw (is_true (ltb 0 (b + a)) (lt→ltb 0 (b + a) l), off (eqb a b) (eqb a 0) (λ p q. none (eqb→eq a b p) (eqb→eq a 0 q) l)) more
  | no g ↦ rw (zero_at g, zero_of g) same
]
  where
    off : (p q : Bool) → (T p → T q → ⊥) → (p && (false || q)) ≡ false
    off true true n = absurd (n tt tt)
    off true false n = refl
    off false q n = refl

    none : a ≡ b → a ≡ 0 → 0 < b + a → ⊥
    none p q l = omega arith

    zero_at : ¬ (0 < b + a) → a ≡ 0
    zero_at g = omega arith

    zero_of : ¬ (0 < b + a) → b ≡ 0
    zero_of g = omega arith

alike : {l g : Bool} (e : Bool) → Tri l e g → Tri l (e && true) g
alike true t = t
alike false t = t

tri_signed : (s t : Bool) (a b : ℕ) → Tri (below s a t b) (level s a t b) (below t b s a)
tri_signed false false a b = alike (eqb a b) (tri_nat a b)
tri_signed true true a b = alike (eqb a b) (mirror (tri_nat a b))
tri_signed false true a b = tri_mixed a b
tri_signed true false a b = rw (add_comm a b) (mirror (tri_mixed a b))

-- ---- an infinity or a number
data Real : Float → Type 0 where
  infinite : (s : Bool) → Real (inf s)
  number : (s : Bool) (m : ℕ) (e : ℤ) → Real (fin s m e)

real : (x : Float) → is_nan x ≡ false → Real x
unfolding is_nan
real nan h = absurd (true≢false h)
real (inf s) h = infinite s
real (fin s m e) h = number s m e

no_nan : {x : Float} → Real x → is_nan x ≡ false
unfolding is_nan
no_nan (infinite s) = refl
no_nan (number s m e) = refl

tri : {x y : Float} → Real x → Real y → Tri (lt x y) (eq x y) (lt y x)
unfolding lt eq
tri (infinite true) (infinite true) = same
tri (infinite true) (infinite false) = less
tri (infinite false) (infinite true) = more
tri (infinite false) (infinite false) = same
tri (infinite true) (number t n d) = less
tri (infinite false) (number t n d) = more
tri (number s m e) (infinite true) = more
tri (number s m e) (infinite false) = less
tri (number s m e) (number t n d) = tri_signed s t (m * up e * down d) (n * up d * down e)

-- ---- `not above` is transitive
fails : {b : Bool} → b ≡ false → T (not b)
fails e = subst (λ (b : Bool). T (not b)) (sym e) tt

le_number : (s t : Bool) (m n : ℕ) (e d : ℤ) → value (fin s m e) ≤q value (fin t n d) → lt (fin t n d) (fin s m e) ≡ false
unfolding lt at_mostq
le_number s t m n e d h = go s t (m * up e * down d) (n * up d * down e) (signed_order s t (m * up e * down d) (n * up d * down e)
    (rw (signed_mul s (m * up e) (down d), signed_mul t (n * up d) (down e)) at cross))
  where
    cross : signed s (m * up e) *ℤ pos (down d) ≤z signed t (n * up d) *ℤ pos (down e)
    cross = fraction_at_most_law (record { numerator = signed s (m * up e); denominator = down e; positive = down_pos e })
        (record { numerator = signed t (n * up d); denominator = down d; positive = down_pos d }) h

    go : (s t : Bool) (a b : ℕ) → cond s (cond t (b ≤ a) (Unit {0})) (cond t ((a ≡ 0) × (b ≡ 0)) (a ≤ b)) → below t b s a ≡ false
    go false false a b h = is_false (ltb b a) (le→nltb b a h)
    go true false a b h = refl
    go true true a b h = is_false (ltb a b) (le→nltb a b h)
    go false true a b h = is_false (ltb 0 (b + a)) (le→nltb 0 (b + a) (omega arith))

le_trans : {x y z : Float} → Real x → Real y → Real z → lt y x ≡ false → lt z y ≡ false → lt z x ≡ false
unfolding lt
le_trans (infinite true) y (infinite true) h k = refl
le_trans (infinite true) y (infinite false) h k = refl
le_trans (infinite true) y (number u n d) h k = refl
le_trans (infinite false) (infinite true) z h k = absurd (true≢false h)
le_trans (infinite false) (infinite false) z h k = k
le_trans (infinite false) (number t l g) z h k = absurd (true≢false h)
le_trans (number s m e) (infinite true) z h k = absurd (true≢false h)
le_trans (number s m e) (infinite false) (infinite true) h k = absurd (true≢false k)
le_trans (number s m e) (infinite false) (infinite false) h k = refl
le_trans (number s m e) (infinite false) (number u n d) h k = absurd (true≢false k)
le_trans (number s m e) (number t l g) (infinite true) h k = absurd (true≢false k)
le_trans (number s m e) (number t l g) (infinite false) h k = refl
le_trans (number s m e) (number t l g) (number u n d) h k =
    le_number s u m n e d
    (≤q-trans (value (fin s m e)) (value (fin t l g)) (value (fin u n d)) (value_le_of_not_lt (fin s m e) (fin t l g) tt tt (fails h))
    (value_le_of_not_lt (fin t l g) (fin u n d) tt tt (fails k)))

-- ---- what `total_le` says of two that are no NaN
abbrev signs : Float → Float → Bool
signs x y = negative x || not (negative y)

le_is : (x : Float) {y : Float} → Real y → total_le x y ≡ (lt x y || (eq x y && signs x y))
unfolding total_le
le_is x q = rw (no_nan q)

-- y is not less, and where x is not less either, the sign of x is no later
record Says (x y : Float) : Type 0 where
  upto : lt y x ≡ false
  sign : lt x y ≡ false → signs x y ≡ true

says : {x y : Float} → Real x → Real y → total_le x y ≡ true → Says x y
says {x} {y} p q h = go (lt x y) (eq x y) (lt y x) refl refl (tri p q) (sym (le_is x q) ∙ h)
  where
    go : (l e g : Bool) → lt x y ≡ l → lt y x ≡ g → Tri l e g → (l || (e && signs x y)) ≡ true → Says x y
    go true false false a b Tri.less h = record { upto = b; sign = λ k. clash a k }
    go false true false a b Tri.same h = record { upto = b; sign = λ k. h }
    go false false true a b Tri.more h = absurd (true≢false (sym h))
    go false false false a b r h = elim r [ ]
    go false true true a b r h = elim r [ ]
    go true false true a b r h = elim r [ ]
    go true true g a b r h = elim r [ ]

said : {x y : Float} → Real x → Real y → Says x y → total_le x y ≡ true
said {x} {y} p q s = le_is x q ∙ go (lt x y) (eq x y) (lt y x) refl refl (tri p q)
  where
    go : (l e g : Bool) → lt x y ≡ l → lt y x ≡ g → Tri l e g → (l || (e && signs x y)) ≡ true
    go true false false a b Tri.less = refl
    go false true false a b Tri.same = s.sign a
    go false false true a b Tri.more = clash b s.upto
    go false false false a b r = elim r [ ]
    go false true true a b r = elim r [ ]
    go true false true a b r = elim r [ ]
    go true true g a b r = elim r [ ]

-- ---- a NaN comes last
nan_of : (x : Float) → is_nan x ≡ true → x ≡ nan
unfolding is_nan
nan_of nan h = refl
nan_of (inf s) h = absurd (true≢false (sym h))
nan_of (fin s m e) h = absurd (true≢false (sym h))

last : (x y : Float) → is_nan y ≡ true → total_le x y ≡ true
unfolding total_le
last x y h = rw h

-- what comes before a number or an infinity is one
before : (x y : Float) → is_nan y ≡ false → total_le x y ≡ true → Real x
before x y n h = go (is_nan x) refl
  where
    never : total_le nan y ≡ false
    never = unfold total_le lt eq in rw n

    go : (b : Bool) → is_nan x ≡ b → Real x
    go false e = real x e
    go true e = clash h (ap (λ (z : Float). total_le z y) (nan_of x e) ∙ never)

-- ---- the laws
-- of two values one comes before the other or is it
pub total : (x y : Float) → (total_le x y || total_le y x) ≡ true
total x y = go (is_nan x) (is_nan y) refl refl
  where
    second : (a b : Bool) → b ≡ true → (a || b) ≡ true
    second true b h = refl
    second false b h = h

    one_sign : (a b : Bool) → ((a || not b) || (b || not a)) ≡ true
    one_sign true b = refl
    one_sign false true = refl
    one_sign false false = refl

    either : (l e g e' s t : Bool) → Tri l e g → Tri g e' l → (s || t) ≡ true → ((l || (e && s)) || (g || (e' && t))) ≡ true
    either true false false false s t Tri.less Tri.more k = refl
    either false false true false s t Tri.more Tri.less k = refl
    either false true false true s t Tri.same Tri.same k = k
    either false false false _ s t r _ k = elim r [ ]
    either false false true true s t _ r k = elim r [ ]
    either false true false false s t _ r k = elim r [ ]
    either false true true _ s t r _ k = elim r [ ]
    either true false false true s t _ r k = elim r [ ]
    either true false true _ s t r _ k = elim r [ ]
    either true true g _ s t r _ k = elim r [ ]

    go : (p q : Bool) → is_nan x ≡ p → is_nan y ≡ q → (total_le x y || total_le y x) ≡ true
    go p true n m = rw (last x y m)
    go true false n m = second (total_le x y) (total_le y x) (last y x n)
    go false false n m =
        let p = real x n in
        let q = real y m in
        rw (le_is x q, le_is y p) (either (lt x y) (eq x y) (lt y x) (eq y x) (signs x y) (signs y x) (tri p q) (tri q p)
        (one_sign (negative x) (negative y)))

pub transitive : (x y z : Float) → total_le x y ≡ true → total_le y z ≡ true → total_le x z ≡ true
transitive x y z h k = go (is_nan z) refl
  where
    signs_on : (a b c : Bool) → (a || not b) ≡ true → (b || not c) ≡ true → (a || not c) ≡ true
    signs_on true b c h k = refl
    signs_on false true c h k = absurd (true≢false (sym h))
    signs_on false false c h k = k

    go : (b : Bool) → is_nan z ≡ b → total_le x z ≡ true
    go true n = last x z n
    go false n =
        let r = real z n in
        let q = before y z n k in
        let p = before x y (no_nan q) h in
        let a = says p q h in
        let b = says q r k in
        said p r
        (record {
          upto = le_trans p q r a.upto b.upto;
          sign = λ l. signs_on (negative x) (negative y) (negative z) (a.sign (le_trans q r p b.upto l))
              (b.sign (le_trans r p q l a.upto));
        })

-- values of a format that come before each other are the same
pub antisymmetric : (f : Format) (x y : Float) → T (fits f x) → T (fits f y) → total_le x y ≡ true → total_le y x ≡ true → x ≡ y
antisymmetric f x y fx fy h k = go (is_nan y) refl
  where
    one_sign : (a b : Bool) → (a || not b) ≡ true → (b || not a) ≡ true → a ≡ b
    one_sign true true h k = refl
    one_sign false false h k = refl
    one_sign true false h k = absurd (true≢false (sym k))
    one_sign false true h k = absurd (true≢false (sym h))

    level_of : (l e g : Bool) → Tri l e g → l ≡ false → g ≡ false → e ≡ true
    level_of true false false Tri.less a b = absurd (true≢false a)
    level_of false true false Tri.same a b = refl
    level_of false false true Tri.more a b = absurd (true≢false b)
    level_of false false false r a b = elim r [ ]
    level_of false true true r a b = elim r [ ]
    level_of true false true r a b = elim r [ ]
    level_of true true g r a b = elim r [ ]

    bits : {x y : Float} → Real x → Real y → eq x y ≡ true → negative x ≡ negative y → to_bits f x ≡ to_bits f y
    bits (infinite s) (infinite t) e n = unfold negative in ap (λ (z : Bool). to_bits f (inf z)) n
    bits (infinite s) (number t m d) e n = unfold eq in absurd (true≢false (sym e))
    bits (number s m e) (infinite t) h n = unfold eq in absurd (true≢false (sym h))
    bits (number s m e) (number t l d) h n = unfold to_bits eq negative in
        let w : m * up e * down d ≡ l * up d * down e = eqb→eq (m * up e * down d) (l * up d * down e)
        (and_l (eqb (m * up e * down d) (l * up d * down e)) (beq s t || eqb (m * up e * down d) 0) (holds h)) in
        rw (
          n,
          div_same (m * up e * 2 ^ low f) (down e) (l * up d * 2 ^ low f) (down d) (down_pos e) (down_pos d)
              (omega (arith, ap (λ (z : ℕ). z * 2 ^ low f) w)),
        )

    both : Real x → Real y → x ≡ y
    both p q =
        let a = says p q h in
        let b = says q p k in
        sym (of_bits-to_bits f x fx)
        ∙ ap (of_bits f) (bits p q (level_of (lt x y) (eq x y) (lt y x) (tri p q) b.upto a.upto)
        (one_sign (negative x) (negative y) (a.sign b.upto) (b.sign a.upto)))
        ∙ of_bits-to_bits f y fy

    go : (b : Bool) → is_nan y ≡ b → x ≡ y
    go false n =
        let p = before x y n h in both p (real y n)
    go true n = same_nan (is_nan x) refl
      where
        same_nan : (b : Bool) → is_nan x ≡ b → x ≡ y
        same_nan true m = nan_of x m ∙ sym (nan_of y n)
        same_nan false m = clash n (no_nan (before y x m k))
