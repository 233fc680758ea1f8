-- The knots that the filter keeps lie strictly between 0 and 1, and each is less than the next. There are no more than there were.
use mathlib.Core.Path.{◌≡◌, refl, sym, ap, ◌∙◌, subst}
use mathlib.Core.Bool.{Bool, true, false, not, ◌&&◌, cond}
use mathlib.Core.List.{List, [], ◌∷◌}
use Rattle.std.specs.Prelude.{Option, Some, None}
use Prim.Native.Nat.{ℕ, zero, suc, ◌+◌, ◌-◌, ◌*◌, ◌≤◌, ◌<◌}
use native.Mathlib.Nat.{mul-pos}
use native.Mathlib.Omega.{arith}
use borrow.Author.Tests.{ltb-true, lt-ltb, le-ltb}
use lib.Dec.{T}
use lib.IntN.{ℤ, pos, negsuc}
use lib.ListN.{length}
use lib.Ieee.{Float, nan, inf, fin, binary64, up, down, lt, mul, sub, sum, round, of_bits}
use lib.Ieee.Fits.{down_pos}
use lib.Ieee.Scale.{finite, round_same}
use Rattle.arith.proofs.Truth.{never}
use Rattle.arith.specs.Operations.{floats}
use Rattle.fraction.specs.Rational.{negq}
use Rattle.fraction.specs.Value.{value}
use Rattle.fraction.proofs.Value.{value_le_of_not_lt}
use Rattle.fraction.proofs.Rational.{≤q-add}
use Rattle.fraction.proofs.Rounding.{sub_rounded}
use Rattle.fraction.proofs.Monotone.{rounded_monotone}
use Rattle.window.specs.Cells.{at}
use Rattle.sorting.specs.Thin.{thinned, gap, inside, apart, kept_of}

-- ---- the constants, as numbers
abbrev zero' : Float
zero' = fin false 0 (pos 0)

abbrev gap' : Float
gap' = fin false 1 (negsuc 44)

gap_is : gap ≡ gap'
unfolding gap mul
gap_is = refl

top_is : sub binary64 floats.one gap ≡ fin false 35184372088831 (negsuc 44)
unfolding gap sub of_bits mul
top_is = refl

zero_is : floats.zero ≡ zero'
unfolding of_bits
zero_is = refl

one_is : floats.one ≡ fin false 1 (pos 0)
unfolding of_bits
one_is = refl

-- ---- strictly between 0 and 1
pub record Between (x : Float) : Type 0 where
  pub number : T (finite x)
  pub above : lt floats.zero x ≡ true
  pub below : lt x floats.one ≡ true

over_gap : (w : Float) → lt gap' w ≡ true → lt zero' w ≡ true
unfolding lt
over_gap nan h = never h
over_gap (inf t) h = h
over_gap (fin true n d) h = never h
over_gap (fin false n d) h = lt-ltb (0 * 1 * down d) (n * up d * 1)
    (go (down d) (n * up d) (ltb-true (1 * 1 * down d) (n * up d * 35184372088832) h))
  where
    go : (a b : ℕ) → 1 * 1 * a < b * 35184372088832 → 0 * 1 * a < b * 1
    go a b h = omega arith

under_top : (x : Float) → lt gap' x ≡ true → lt x (fin false 35184372088831 (negsuc 44)) ≡ true → T (finite x)
    × (lt x (fin false 1 (pos 0)) ≡ true)
unfolding lt
under_top nan h g = never h
under_top (inf true) h g = never h
under_top (inf false) h g = never g
under_top (fin true m e) h g = never h
under_top (fin false m e) h g = (
  tt,
  lt-ltb (m * up e * 1) (1 * 1 * down e)
      (go (m * up e) (down e) (ltb-true (m * up e * 35184372088832) (35184372088831 * 1 * down e) g)),
)
  where
    go : (a b : ℕ) → a * 35184372088832 < 35184372088831 * 1 * b → a * 1 < 1 * 1 * b
    go a b h = omega arith

both : (p q : Bool) → (p && q) ≡ true → (p ≡ true) × (q ≡ true)
both true q h = (refl, h)
both false q h = never h

inside_between : (x : Float) → inside x ≡ true → Between x
unfolding inside
inside_between x h =
    let p = both (lt gap x) (lt x (sub binary64 floats.one gap)) h in
    let g : lt gap' x ≡ true = rw gap_is at p.0 in
    let t = under_top x g (rw top_is at p.1) in
    record { number = t.0; above = rw zero_is (over_gap x g); below = rw one_is t.1 }

-- ---- over the gap after another is after it
sub_self : (n : ℕ) (d : ℤ) → sub binary64 (fin false n d) (fin false n d) ≡ zero'
unfolding sub
sub_self n d = go (n * up d * down d) (down d * down d) (mul-pos (down_pos d) (down_pos d))
  where
    level : (a c : ℕ) → sum binary64 false a true a c ≡ round binary64 false (a - a) c
    level a c = unfold sum in rw (le-ltb a a (omega arith))

    go : (a c : ℕ) → 0 < c → sum binary64 false a true a c ≡ zero'
    go a c p =
        let e : a - a ≡ 0 = omega arith in
        level a c ∙ ap (λ (k : ℕ). round binary64 false k c) e ∙ round_same binary64 false 0 c 0 1 p (omega arith) (omega arith)
        ∙ unfold round in refl

rises : (x v : Float) → T (finite x) → Between v → lt gap (sub binary64 x v) ≡ true → lt v x ≡ true
rises x v p b h = at_sign v b.number (rw zero_is at b.above) h
  where
    at_sign : (v : Float) → T (finite v) → lt zero' v ≡ true → lt gap (sub binary64 x v) ≡ true → lt v x ≡ true
    at_sign nan q a h = absurd q
    at_sign (inf t) q a h = absurd q
    at_sign (fin true n d) q a h = unfold lt in never a
    at_sign (fin false n d) q a h = go (lt (fin false n d) x) refl
      where
        w : Float
        w = fin false n d

        above : lt (sub binary64 w w) (sub binary64 x w) ≡ true
        above = rw (sub_self n d) (over_gap (sub binary64 x w) (rw gap_is at h))

        go : (t : Bool) → lt w x ≡ t → t ≡ true
        go true e = refl
        go false e =
            let le = value_le_of_not_lt x w p tt (subst (λ (t : Bool). T (not t)) (sym e) tt) in
            let k = rounded_monotone binary64 (sub binary64 x w) (sub binary64 w w) _ _ (sub_rounded binary64 x w p tt)
            (sub_rounded binary64 w w tt tt) (≤q-add (value x) (value w) (negq (value w)) le) in
            absurd (subst (λ (t : Bool). T (not t)) above k)

-- ---- the kept list
apart_inside : (last : Option Float) (x : Float) → apart last x ≡ true → inside x ≡ true
unfolding apart
apart_inside None x h = h
apart_inside (Some v) x h = (both (inside x) (lt gap (sub binary64 x v)) h).0

apart_after : (v x : Float) → apart (Some v) x ≡ true → lt gap (sub binary64 x v) ≡ true
unfolding apart
apart_after v x h = (both (inside x) (lt gap (sub binary64 x v)) h).1

thinned_between : (last : Option Float) (l : List Float) (i : ℕ) → i < length (thinned apart last l) → Between (at (thinned apart last l) i)
unfolding thinned
thinned_between last [] i h = absurd (omega arith)
thinned_between last (x ∷ l) i h = go (apart last x) refl (thinned_between (Some x) l) (thinned_between last l) i h
  where
    go : (b : Bool) → apart last x ≡ b
        → ((i : ℕ) → i < length (thinned apart (Some x) l) → Between (at (thinned apart (Some x) l) i))
        → ((i : ℕ) → i < length (thinned apart last l) → Between (at (thinned apart last l) i))
        → (i : ℕ) → i < length (cond b (x ∷ thinned apart (Some x) l) (thinned apart last l))
        → Between (at (cond b (x ∷ thinned apart (Some x) l) (thinned apart last l)) i)
    go true e p q zero h = inside_between x (apart_inside last x e)
    go true e p q (suc i) h = p i (omega arith)
    go false e p q i h = q i h

-- the first that is kept after v is above v
thinned_after : (v : Float) → Between v → (l : List Float) → 0 < length (thinned apart (Some v) l) → lt v (at (thinned apart (Some v) l) 0)
    ≡ true
unfolding thinned
thinned_after v b [] h = absurd (omega arith)
thinned_after v b (x ∷ l) h = go (apart (Some v) x) refl (thinned_after v b l) h
  where
    go : (t : Bool) → apart (Some v) x ≡ t → (0 < length (thinned apart (Some v) l) → lt v (at (thinned apart (Some v) l) 0) ≡ true)
        → 0 < length (cond t (x ∷ thinned apart (Some x) l) (thinned apart (Some v) l))
        → lt v (at (cond t (x ∷ thinned apart (Some x) l) (thinned apart (Some v) l)) 0) ≡ true
    go true e p h = rises x v (inside_between x (apart_inside (Some v) x e)).number b (apart_after v x e)
    go false e p h = p h

thinned_rises : (last : Option Float) (l : List Float) (i : ℕ) → i + 1 < length (thinned apart last l)
    → lt (at (thinned apart last l) i) (at (thinned apart last l) (i + 1)) ≡ true
unfolding thinned
thinned_rises last [] i h = absurd (omega arith)
thinned_rises last (x ∷ l) i h = go (apart last x) refl (thinned_rises (Some x) l) (thinned_rises last l) i h
  where
    go : (b : Bool) → apart last x ≡ b
        → ((i : ℕ) → i + 1 < length (thinned apart (Some x) l) → lt (at (thinned apart (Some x) l) i)
        (at (thinned apart (Some x) l) (i + 1)) ≡ true)
        → ((i : ℕ) → i + 1 < length (thinned apart last l) → lt (at (thinned apart last l) i) (at (thinned apart last l) (i + 1)) ≡ true)
        → (i : ℕ) → i + 1 < length (cond b (x ∷ thinned apart (Some x) l) (thinned apart last l))
        → lt (at (cond b (x ∷ thinned apart (Some x) l) (thinned apart last l)) i)
        (at (cond b (x ∷ thinned apart (Some x) l) (thinned apart last l)) (i + 1)) ≡ true
    go true e p q zero h = thinned_after x (inside_between x (apart_inside last x e)) l (omega arith)
    go true e p q (suc i) h = let g : suc i + 1 ≡ suc (i + 1) = omega arith in rw g (p i (omega arith))
    go false e p q i h = q i h

-- every knot kept lies strictly between 0 and 1
pub kept_between : (l : List Float) (i : ℕ) → i < length (kept_of l) → Between (at (kept_of l) i)
unfolding kept_of
kept_between l = thinned_between None l

-- and is less than the next
pub kept_rises : (l : List Float) (i : ℕ) → i + 1 < length (kept_of l) → lt (at (kept_of l) i) (at (kept_of l) (i + 1)) ≡ true
unfolding kept_of
kept_rises l = thinned_rises None l

-- ---- how many
pub thinned_count : (test : Option Float → Float → Bool) (last : Option Float) (l : List Float) → length (thinned test last l) ≤ length l
unfolding thinned
thinned_count test last [] = omega arith
thinned_count test last (x ∷ l) = go (test last x) (thinned_count test (Some x) l) (thinned_count test last l)
  where
    go : (b : Bool) → length (thinned test (Some x) l) ≤ length l → length (thinned test last l) ≤ length l
        → length (cond b (x ∷ thinned test (Some x) l) (thinned test last l)) ≤ length (x ∷ l)
    go true p q = omega arith
    go false p q = omega arith

pub kept_count : (l : List Float) → length (kept_of l) ≤ length l
unfolding kept_of
kept_count l = thinned_count apart None l
