-- Groups read back, and what reads is what would be written: so each number has one form, and unequal numbers have unequal ones.
use mathlib.Core.Path.{◌≡◌, refl, sym, ap, ◌∙◌, subst}
use mathlib.Core.Bool.{Bool, true, false, cond}
use mathlib.Core.List.{List, [], ◌∷◌, ◌++◌}
use Prim.Native.Nat.{ℕ, zero, suc, ◌+◌, ◌*◌, ◌-◌, ◌/◌, ◌%◌, ◌^◌, ◌≤◌, ◌<◌}
use native.Mathlib.Omega.{arith}
use native.Mathlib.Nat.{not-suc-le-zero, pow-zero, pow-succ'}
use lib.Dec.{ltb, eqb}
use borrow.Author.Tests.{le-ltb, ne_eqb, ltb-true, ltb-false, eqb-false}
use Rattle.forms.specs.Read.{Read, got, bad, after, Bytes}
use Rattle.forms.specs.Groups.{groups_of, read_groups}

-- what the lowest group b does with the number above it
abbrev pub above : ℕ → ℕ → List ℕ → Read ℕ
above b h rest = cond (eqb h 0) bad (got (b - 128 + 128 * h) rest)

pub above_is : (b h : ℕ) (rest : List ℕ) → 1 ≤ h → above b h rest ≡ got (b - 128 + 128 * h) rest
above_is b h rest p = rw (ne_eqb h 0 (λ e. omega arith))

more_room : (k n : ℕ) → 128 ≤ n → n < 128 ^ suc k → (0 < k) × (n / 128 < 128 ^ k)
more_room zero n l h = absurd (omega (arith, pow-succ' 128 0, pow-zero 128))
more_room (suc k) n l h = (omega arith, let e = pow-succ' 128 (suc k) in omega (arith, e))

-- a number below 128 ^ k, written before anything, reads back
pub back : (k n : ℕ) (rest : List ℕ) → n < 128 ^ k → 0 < k → read_groups k (groups_of k n ++ rest) ≡ got n rest
unfolding groups_of read_groups
back zero n rest h p = absurd (not-suc-le-zero p)
back (suc k) n rest h p = go (ltb n 128) refl (back k (n / 128) rest)
  where
    go : (b : Bool) → ltb n 128 ≡ b → (n / 128 < 128 ^ k → 0 < k → read_groups k (groups_of k (n / 128) ++ rest) ≡ got (n / 128) rest) →
        read_groups (suc k) (cond b (n ∷ []) ((128 + n % 128) ∷ groups_of k (n / 128)) ++ rest) ≡ got n rest
    go true e ih = rw e
    go false e ih =
        let l = ltb-false n 128 e in
        let r = more_room k n l h in
        rw (le-ltb (128 + n % 128) 128 (omega arith), ih r.1 r.0) (above_is (128 + n % 128) (n / 128) rest (omega arith) ∙ ap
        (λ (m : ℕ). got m rest) (omega arith))

above_zero : (k : ℕ) → 0 < 128 ^ k
above_zero zero = omega (arith, pow-zero 128)
above_zero (suc k) = omega (arith, pow-succ' 128 k, above_zero k)

-- what reads as n is n's groups, and what follows them
pub only : (k n : ℕ) (l rest : List ℕ) → Bytes l → read_groups k l ≡ got n rest → (l ≡ groups_of k n ++ rest) × (n < 128 ^ k)
unfolding groups_of read_groups
only zero n l rest B e = absurd (let z : ◌≡◌ {A = ℕ} 0 1 = cc in omega arith)
only (suc k) n [] rest B e = absurd (let z : ◌≡◌ {A = ℕ} 0 1 = cc in omega arith)
only (suc k) n (b ∷ l) rest B e = first (ltb b 128) refl (read_groups k l) refl (λ h r. only k h l r B.1) e
  where
    size : (h : ℕ) → h < 128 ^ k → b < 256 → 128 ≤ b → b - 128 + 128 * h < 128 ^ suc k
    size h p u w = let q = pow-succ' 128 k in omega (arith, q)

    small : b < 128 → b < 128 ^ suc k
    small p = let q = pow-succ' 128 k in let w = above_zero k in omega (arith, q)

    high : (h m : ℕ) (r : List ℕ) → m ≡ b - 128 + 128 * h → 1 ≤ h → 128 ≤ b → l ≡ groups_of k h ++ r → b ∷ l
        ≡ cond (ltb m 128) (m ∷ []) ((128 + m % 128) ∷ groups_of k (m / 128)) ++ r
    high h m r e p w q =
        let x : 128 + m % 128 ≡ b = omega (arith, e, B.0) in
        let y : m / 128 ≡ h = omega (arith, e, B.0) in
        rw (le-ltb m 128 (omega (arith, e)), x, y, q)

    second : (t : Bool) (h m : ℕ) (r s : List ℕ) → eqb h 0 ≡ t → 128 ≤ b → (l ≡ groups_of k h ++ r) × (h < 128 ^ k)
        → cond t bad (got (b - 128 + 128 * h) r) ≡ got m s →
        (b ∷ l ≡ cond (ltb m 128) (m ∷ []) ((128 + m % 128) ∷ groups_of k (m / 128)) ++ s) × (m < 128 ^ suc k)
    second true h m r s f w i e = absurd (let z : ◌≡◌ {A = ℕ} 0 1 = cc in omega arith)
    second false h m r s f w i e =
        let v : b - 128 + 128 * h ≡ m = cc in
        let u : r ≡ s = cc in
        let p : 1 ≤ h = omega (arith, eqb-false h 0 f) in (
          subst (λ (s : List ℕ). b ∷ l ≡ cond (ltb m 128) (m ∷ []) ((128 + m % 128) ∷ groups_of k (m / 128)) ++ s) u
              (high h m r (sym v) p w i.0),
          subst (λ (m : ℕ). m < 128 ^ suc k) v (size h i.1 B.0 w),
        )

    first : (t : Bool) → ltb b 128 ≡ t → (r : Read ℕ) → read_groups k l ≡ r → ((h : ℕ) (s : List ℕ) → read_groups k l ≡ got h s
        → (l ≡ groups_of k h ++ s) × (h < 128 ^ k)) →
        cond t (got b l) (after r (above b)) ≡ got n rest → (b ∷ l ≡ cond (ltb n 128) (n ∷ []) ((128 + n % 128) ∷ groups_of k (n / 128)) ++
        rest) × (n < 128 ^ suc k)
    first true t r f i e =
        let v : b ≡ n = cc in
        let u : l ≡ rest = cc in (
          subst (λ (m : ℕ). b ∷ l ≡ cond (ltb m 128) (m ∷ []) ((128 + m % 128) ∷ groups_of k (m / 128)) ++ rest) v (rw (t, u)),
          subst
              (λ (m : ℕ). m < 128 ^ suc k) v (small (ltb-true b 128 t)),
        )
    first false t bad f i e = absurd (let z : ◌≡◌ {A = ℕ} 0 1 = cc in omega arith)
    first false t (got h r) f i e = second (eqb h 0) h n r rest refl (ltb-false b 128 t) (i h r f) e
