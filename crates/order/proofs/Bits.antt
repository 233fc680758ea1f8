-- The bits of a set: of two sets joined, of a set with one lane, of the empty set.
use mathlib.Core.Path.{◌≡◌, refl, sym, ap, ◌∙◌}
use mathlib.Core.Bool.{false, ◌||◌}
use Prim.Native.Nat.{ℕ, zero, suc, ◌+◌, ◌-◌, ◌*◌, ◌/◌, ◌%◌, ◌^◌, ◌<◌, max}
use native.Mathlib.Omega.{arith}
use native.Mathlib.Decide.{dec_lt}
use native.Mathlib.Nat.{div-eq_of_lt, pow-suc}
use borrow.Author.Tests.{eq-eqb, ne_eqb}
use lib.Bits.{bit_or, or_shr, or_step}
use lib.Dec.{eqb}
use lib.Pow.{pow-lt, pow-add, pow_pos, shl_exact, shl-shr}
use Rattle.order.specs.Sets.{held}

-- the larger of two bits
larger : (u v : ℕ) → u < 2 → v < 2 → eqb (max u v) 1 ≡ (eqb u 1 || eqb v 1)
larger zero zero h g = refl
larger zero (suc zero) h g = refl
larger zero (suc (suc v)) h g = absurd (omega arith)
larger (suc zero) zero h g = refl
larger (suc zero) (suc zero) h g = refl
larger (suc zero) (suc (suc v)) h g = absurd (omega arith)
larger (suc (suc u)) v h g = absurd (omega arith)

or_low : (a b : ℕ) → bit_or a b % 2 ≡ max (a % 2) (b % 2)
or_low a b = omega (arith, or_step a b)

pub held_or : (a b l : ℕ) → held (bit_or a b) l ≡ (held a l || held b l)
unfolding held
held_or a b l =
    ap (λ (x : ℕ). eqb (x % 2) 1) (or_shr a b l) ∙ ap (λ (x : ℕ). eqb x 1) (or_low (a / 2 ^ l) (b / 2 ^ l))
    ∙ larger (a / 2 ^ l % 2) (b / 2 ^ l % 2) (omega arith) (omega arith)

pub held_none : (l : ℕ) → held 0 l ≡ false
unfolding held
held_none l = rw (div-eq_of_lt (pow_pos l))

-- the set with lane i alone
pub held_one : (i l : ℕ) → i < 64 → held ((1 * 2 ^ i) % 2 ^ 64) l ≡ eqb i l
unfolding held
held_one i l h = rw (shl_exact {a = 1} 1 i 64 (omega arith) (omega arith)) (elim (dec_lt i l) [
  | yes g ↦
      let b : 1 * 2 ^ i < 2 ^ l = omega (arith, pow-lt g) in
      rw (div-eq_of_lt b) (sym (ne_eqb i l (λ e. omega arith)))
  | no g ↦ elim (dec_lt l i) [
    | yes k ↦
        let e : i ≡ suc (i - l - 1) + l = omega arith in
        let p : 1 * 2 ^ i ≡ 2 ^ (i - l - 1) * 2 * 2 ^ l =
        omega (arith, ap (λ (n : ℕ). 2 ^ n) e ∙ pow-add 2 (suc (i - l - 1)) l ∙ ap (λ (x : ℕ). x * 2 ^ l) (pow-suc 2 (i - l - 1))) in
        let z : 2 ^ (i - l - 1) * 2 % 2 ≡ 0 = omega arith in
        rw (p, shl-shr (2 ^ (i - l - 1) * 2) l, z) (sym (ne_eqb i l (λ e. omega arith)))
    | no k ↦
        let e : l ≡ i = omega arith in
        rw (e, shl-shr 1 i) (sym (eq-eqb i i refl))
  ]
])
