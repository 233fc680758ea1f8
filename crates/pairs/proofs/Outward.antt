-- The lowest and the highest of four, moved outward: they are a pair if the one is above the lowest number and the other below the largest.
-- No other test is needed: a lowest of +∞ leaves a highest of +∞, and a highest of -∞ a lowest of -∞.
use mathlib.Core.Bool.{Bool, ◌&&◌, and-false, cond, false, true, true≢false}
use mathlib.Core.Path.{◌∙◌, ◌≡◌, ap, refl, subst, sym}
use lib.Dec.{T}
use lib.Ieee.{Float, binary64, fin, fits, inf, is_nan, le, lt, nan, of_bits}
use lib.Ieee.Bits.{is_true, of_bits-fits}
use lib.Ieee.Scale.{finite}
use Rattle.fraction.specs.NextNumber.{next_down, next_up}
use Rattle.fraction.specs.Pair.{Ends, finite_ends, highest, highest_of, lowest, lowest_of, moved, none, outward, pair}
use Rattle.fraction.proofs.Adjacent.{next_down_greatest, next_up_least}
use Rattle.fraction.proofs.Lowest.{highest_among, lowest_among}
use Rattle.fraction.proofs.NextNumber.{next_down_bits, next_down_infinity, next_down_nan, next_down_plus_infinity}
use Rattle.fraction.proofs.NextNumber.{next_up_bits, next_up_infinity, next_up_minus_infinity, next_up_nan}
use Rattle.arith.proofs.FloatOrder.{le_lt_trans, lt_le, lt_le_trans}
use Rattle.pairs.specs.Structs.{largest_number, lowest_number}

-- ---- infinities among two
none_above : (x : Float) → lt (inf false) x ≡ false
unfolding lt
none_above nan = refl
none_above (inf true) = refl
none_above (inf false) = refl
none_above (fin s m e) = refl

none_below : (x : Float) → lt x (inf true) ≡ false
unfolding lt
none_below nan = refl
none_below (inf true) = refl
none_below (inf false) = refl
none_below (fin s m e) = refl

lowest_plus : (x y : Float) → lowest x y ≡ inf false → x ≡ inf false
unfolding lowest
lowest_plus x y = go (lt y x) refl
  where
    go : (b : Bool) → lt y x ≡ b → cond b y x ≡ inf false → x ≡ inf false
    go true t e = absurd (true≢false (sym t ∙ ap (λ (z : Float). lt z x) e ∙ none_above x))
    go false t e = e

highest_minus : (x y : Float) → highest x y ≡ inf true → x ≡ inf true
unfolding highest
highest_minus x y = go (lt x y) refl
  where
    go : (b : Bool) → lt x y ≡ b → cond b y x ≡ inf true → x ≡ inf true
    go true t e = absurd (true≢false (sym t ∙ ap (lt x) e ∙ none_below x))
    go false t e = e

highest_stays : (x y : Float) → x ≡ inf false → highest x y ≡ inf false
unfolding highest
highest_stays x y e = ap (λ (z : Float). highest z y) e ∙ ap (λ (b : Bool). cond b y (inf false)) (none_above y)

lowest_stays : (x y : Float) → x ≡ inf true → lowest x y ≡ inf true
unfolding lowest
lowest_stays x y e = ap (λ (z : Float). lowest z y) e ∙ ap (λ (b : Bool). cond b y (inf true)) (none_below y)

-- ---- finite by one test
finite_above : (y x : Float) → T (lt y x) → lt (inf true) y ≡ finite y
unfolding lt
finite_above nan x t = absurd t
finite_above (inf true) x t = refl
finite_above (inf false) x t = absurd (true≢false (sym (is x t) ∙ none_above x))
  where
    is : (x : Float) → T (lt (inf false) x) → lt (inf false) x ≡ true
    is nan t = absurd t
    is (inf true) t = absurd t
    is (inf false) t = absurd t
    is (fin s m e) t = absurd t
finite_above (fin s m e) x t = refl

finite_below : (y x : Float) → T (lt x y) → lt y (inf false) ≡ finite y
unfolding lt
finite_below nan nan t = absurd t
finite_below nan (inf true) t = absurd t
finite_below nan (inf false) t = absurd t
finite_below nan (fin s m e) t = absurd t
finite_below (inf false) x t = refl
finite_below (inf true) nan t = absurd t
finite_below (inf true) (inf true) t = absurd t
finite_below (inf true) (inf false) t = absurd t
finite_below (inf true) (fin s m e) t = absurd t
finite_below (fin s m e) x t = refl

nan_below : (x : Float) → is_nan x ≡ true → lt (inf true) x ≡ false
unfolding is_nan lt
nan_below nan h = refl
nan_below (inf s) h = absurd (true≢false (sym h))
nan_below (fin s m e) h = absurd (true≢false (sym h))

nan_above : (x : Float) → is_nan x ≡ true → lt x (inf false) ≡ false
unfolding is_nan lt
nan_above nan h = refl
nan_above (inf s) h = absurd (true≢false (sym h))
nan_above (fin s m e) h = absurd (true≢false (sym h))

-- ---- what stays, and that the next number is one of the format
holds : {b : Bool} → b ≡ true → T b
holds e = subst T (sym e) tt

not_over : (x : Float) → lt (inf true) x ≡ false → x ≡ next_down binary64 x
unfolding lt
not_over nan h = sym (next_down_nan binary64)
not_over (inf true) h = sym (next_down_infinity binary64)
not_over (inf false) h = absurd (true≢false h)
not_over (fin s m e) h = absurd (true≢false h)

not_under : (x : Float) → lt x (inf false) ≡ false → x ≡ next_up binary64 x
unfolding lt
not_under nan h = sym (next_up_nan binary64)
not_under (inf false) h = sym (next_up_infinity binary64)
not_under (inf true) h = absurd (true≢false h)
not_under (fin s m e) h = absurd (true≢false h)

pub next_down_fits : (x : Float) → T (fits binary64 x) → T (fits binary64 (next_down binary64 x))
next_down_fits x F = go (is_nan x) refl
  where
    go : (b : Bool) → is_nan x ≡ b → T (fits binary64 (next_down binary64 x))
    go true e = subst (λ (z : Float). T (fits binary64 z)) (not_over x (nan_below x e)) F
    go false e = subst (λ (z : Float). T (fits binary64 z)) (sym (next_down_bits binary64 x e)) (of_bits-fits binary64 _)

pub next_up_fits : (x : Float) → T (fits binary64 x) → T (fits binary64 (next_up binary64 x))
next_up_fits x F = go (is_nan x) refl
  where
    go : (b : Bool) → is_nan x ≡ b → T (fits binary64 (next_up binary64 x))
    go true e = subst (λ (z : Float). T (fits binary64 z)) (not_under x (nan_above x e)) F
    go false e = subst (λ (z : Float). T (fits binary64 z)) (sym (next_up_bits binary64 x e)) (of_bits-fits binary64 _)

-- ---- the pair
abbrev tested : Float → Float → Ends
tested a b = cond (lt (inf true) a && lt b (inf false)) (pair a b) none

pub moved_tested : (l h : Float) → T (fits binary64 l) → T (fits binary64 h) → (l ≡ inf false → h ≡ inf false) → (h ≡ inf true → l
    ≡ inf true) → tested (next_down binary64 l) (next_up binary64 h) ≡ moved binary64 (finite_ends l h)
unfolding moved finite_ends lt
moved_tested nan h L H u d = ap (λ (z : Float). tested z (next_up binary64 h)) (next_down_nan binary64)
moved_tested (inf true) h L H u d = ap (λ (z : Float). tested z (next_up binary64 h)) (next_down_infinity binary64)
moved_tested (inf false) h L H u d =
    ap (λ (z : Float). tested (next_down binary64 (inf false)) (next_up binary64 z)) (u refl)
    ∙ ap (tested (next_down binary64 (inf false))) (next_up_infinity binary64)
    ∙ ap (λ (b : Bool). cond b (pair (next_down binary64 (inf false)) (inf false)) none) (and-false (lt (inf true) (next_down binary64 (inf
    false))))
moved_tested (fin s m e) nan L H u d =
    ap (tested (next_down binary64 (fin s m e))) (next_up_nan binary64)
    ∙ ap (λ (b : Bool). cond b (pair (next_down binary64 (fin s m e)) nan) none) (and-false (lt (inf true) (next_down binary64 (fin s m e))))
moved_tested (fin s m e) (inf false) L H u d =
    ap (tested (next_down binary64 (fin s m e))) (next_up_infinity binary64)
    ∙ ap (λ (b : Bool). cond b (pair (next_down binary64 (fin s m e)) (inf false)) none) (and-false (lt (inf true) (next_down binary64 (fin
    s m e))))
moved_tested (fin s m e) (inf true) L H u d = absurd (subst (λ (z : Float). T (finite z)) (d refl) tt)
moved_tested (fin s m e) (fin t n k) L H u d =
    let a = finite_above (next_down binary64 (fin s m e)) (fin s m e) (next_down_greatest binary64 (fin s m e) L tt).0 in
    let b = finite_below (next_up binary64 (fin t n k)) (fin t n k) (next_up_least binary64 (fin t n k) H tt).0 in
    ap (λ (x : Bool). cond (x && lt (next_up binary64 (fin t n k)) (inf false)) (pair (next_down binary64 (fin s m e)) (next_up binary64
    (fin t n k))) none) a
    ∙ ap (λ (x : Bool). cond (finite (next_down binary64 (fin s m e)) && x) (pair (next_down binary64 (fin s m e)) (next_up binary64
    (fin t n k))) none) b

-- ---- the same by one test before the move
both_ways : (a b : Bool) → (a ≡ true → b ≡ true) → (b ≡ true → a ≡ true) → a ≡ b
both_ways true b f g = sym (f refl)
both_ways false true f g = g refl
both_ways false false f g = refl

low_fits : T (fits binary64 lowest_number)
low_fits = of_bits-fits binary64 0xffef_ffff_ffff_ffff

high_fits : T (fits binary64 largest_number)
high_fits = of_bits-fits binary64 0x7fef_ffff_ffff_ffff

above_lowest : (x : Float) → T (fits binary64 x) → lt (inf true) x ≡ true → le lowest_number x ≡ true
unfolding lt fits
above_lowest x F h = is_true (le lowest_number x)
    (subst (λ (z : Float). T (le z x)) (next_up_minus_infinity binary64) ((next_up_least binary64 (inf true) tt tt).1 x F (holds h)))

below_largest : (x : Float) → T (fits binary64 x) → lt x (inf false) ≡ true → le x largest_number ≡ true
unfolding lt fits
below_largest x F h = is_true (le x largest_number)
    (subst (λ (z : Float). T (le x z)) (next_down_plus_infinity binary64) ((next_down_greatest binary64 (inf false) tt tt).1 x F (holds h)))

low_finite : lt (inf true) lowest_number ≡ true
unfolding lt of_bits
low_finite = refl

high_finite : lt largest_number (inf false) ≡ true
unfolding lt of_bits
high_finite = refl

-- a number above the lowest is above -∞; one below the largest is below +∞
pub over_infinity : (x : Float) → lt lowest_number x ≡ true → lt (inf true) x ≡ true
over_infinity x h = lt_le_trans (inf true) lowest_number x low_finite (lt_le lowest_number x h)

pub under_infinity : (x : Float) → lt x largest_number ≡ true → lt x (inf false) ≡ true
under_infinity x h = le_lt_trans x largest_number (inf false) (lt_le x largest_number h) high_finite

down_tested : (x : Float) → T (fits binary64 x) → lt (inf true) (next_down binary64 x) ≡ lt lowest_number x
down_tested x F = both_ways (lt (inf true) y) (lt lowest_number x) there back
  where
    y : Float
    y = next_down binary64 x

    fit : T (fits binary64 y)
    fit = next_down_fits x F

    there : lt (inf true) y ≡ true → lt lowest_number x ≡ true
    there h = go (lt (inf true) x) refl
      where
        go : (b : Bool) → lt (inf true) x ≡ b → lt lowest_number x ≡ true
        go true e = le_lt_trans lowest_number y x (above_lowest y fit h) (is_true (lt y x) (next_down_greatest binary64 x F (holds e)).0)
        go false e = absurd (true≢false (sym h ∙ ap (lt (inf true)) (sym (not_over x e)) ∙ e))

    back : lt lowest_number x ≡ true → lt (inf true) y ≡ true
    back h =
        let o = over_infinity x h in
        lt_le_trans (inf true) lowest_number y low_finite
        (is_true (le lowest_number y) ((next_down_greatest binary64 x F (holds o)).1 lowest_number low_fits (holds h)))

up_tested : (x : Float) → T (fits binary64 x) → lt (next_up binary64 x) (inf false) ≡ lt x largest_number
up_tested x F = both_ways (lt y (inf false)) (lt x largest_number) there back
  where
    y : Float
    y = next_up binary64 x

    fit : T (fits binary64 y)
    fit = next_up_fits x F

    there : lt y (inf false) ≡ true → lt x largest_number ≡ true
    there h = go (lt x (inf false)) refl
      where
        go : (b : Bool) → lt x (inf false) ≡ b → lt x largest_number ≡ true
        go true e = lt_le_trans x y largest_number (is_true (lt x y) (next_up_least binary64 x F (holds e)).0) (below_largest y fit h)
        go false e = absurd (true≢false (sym h ∙ ap (λ (z : Float). lt z (inf false)) (sym (not_under x e)) ∙ e))

    back : lt x largest_number ≡ true → lt y (inf false) ≡ true
    back h =
        let o = under_infinity x h in
        le_lt_trans y largest_number (inf false)
        (is_true (le y largest_number) ((next_up_least binary64 x F (holds o)).1 largest_number high_fits (holds h))) high_finite

-- what the code computes of four
pub outward_tested : (p q r s : Float) → T (fits binary64 p) → T (fits binary64 q) → T (fits binary64 r) → T (fits binary64 s)
    → outward binary64 p q r s ≡ cond (lt lowest_number (lowest_of p q r s) && lt (highest_of p q r s) largest_number)
    (pair (next_down binary64 (lowest_of p q r s)) (next_up binary64 (highest_of p q r s))) none
unfolding outward
outward_tested p q r s P Q R S =
    let l = lowest_of p q r s in
    let h = highest_of p q r s in
    let L = lowest_among (λ (x : Float). T (fits binary64 x)) p q r s P Q R S in
    let H = highest_among (λ (x : Float). T (fits binary64 x)) p q r s P Q R S in
    let e : Ends = pair (next_down binary64 l) (next_up binary64 h) in
    sym (moved_tested l h L H
    (λ e. highest_stays _ _ (highest_stays p q (lowest_plus p q (lowest_plus _ _ e))))
    (λ e. lowest_stays _ _ (lowest_stays p q (highest_minus p q (highest_minus _ _ e)))))
    ∙ ap (λ (b : Bool). cond (b && lt (next_up binary64 h) (inf false)) e none) (down_tested l L)
    ∙ ap (λ (b : Bool). cond (lt lowest_number l && b) e none) (up_tested h H)
