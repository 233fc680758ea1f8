use mathlib.Core.Path.{◌≡◌, sym, ap, subst, ◌∙◌}
use Prim.Native.Nat.{ℕ, ◌+◌, ◌-◌, ◌*◌, ◌/◌, ◌%◌, ◌≤◌}
use native.Mathlib.Omega.{arith}
use lib.Dec.{T}
use lib.IntN.{ℤ, pos, nat_abs}
use lib.Signed.{non_neg}
use mir.Syntax.{w16}
use mir.Val.{to_z, of_z}
use Rattle.float.specs.RootSteps.{Exponent, Nearest}
use Rattle.float.proofs.Checks.{root_upto, root_place}
use Rattle.float.proofs.Exponents.{seen, read_exponent}
use Rattle.float.proofs.root.root_bits.Goals as goal

counted : (z : ℤ) (n : ℕ) → z ≡ pos n → n ≤ 2097 → T (non_neg z) × (nat_abs z ≤ 2097)
counted z n e h = subst (λ (x : ℤ). T (non_neg x) × (nat_abs x ≤ 2097)) (sym e) (tt, h)

-- of the exponent x, and of what `above_least` gives of it
module _ (x : ℤ) (e : Exponent x) (r : ℤ) (g : (d : Exponent (to_z w16 (of_z w16 x))) → r ≡ pos (d.k - 1022)) where
  above : to_z w16 (of_z w16 r) ≡ pos (e.k - 1022)
  above =
      ap (λ (z : ℤ). to_z w16 (of_z w16 z)) (g (record { k = e.k; from = e.from; upto = e.upto; is = read_exponent _ e ∙ e.is }))
      ∙ seen (e.k - 1022) (omega (arith, e.upto))

  within : T (non_neg (to_z w16 (of_z w16 r))) × (nat_abs (to_z w16 (of_z w16 r)) ≤ 2097)
  within = counted _ (e.k - 1022) above (omega (arith, e.upto))

  -- what is left of the exponent's half, and the half, by the place k
  odd_is : (o : ℕ) → o ≡ nat_abs (to_z w16 (of_z w16 r)) % 2 → o ≡ e.k % 2
  odd_is o h = h ∙ ap (λ (z : ℤ). nat_abs z % 2) above ∙ even e.k e.from
    where
      even : (k : ℕ) → 1022 ≤ k → (k - 1022) % 2 ≡ k % 2
      even k h = omega arith

  half_is : (o : ℕ) → o ≡ nat_abs (to_z w16 (of_z w16 r)) / 2 + 485 → o ≡ e.k / 2 - 26
  half_is o h = h ∙ ap (λ (z : ℤ). nat_abs z / 2 + 485) above ∙ moved e.k e.from
    where
      moved : (k : ℕ) → 1022 ≤ k → (k - 1022) / 2 + 485 ≡ k / 2 - 26
      moved k h = omega arith

  near : (m o n : ℕ) → o ≡ nat_abs (to_z w16 (of_z w16 r)) % 2 → Nearest (m * (1 + o) * 0x10_0000_0000_0000) n
      → Nearest (m * (1 + e.k % 2) * 0x10_0000_0000_0000) n
  near m o n h = subst (λ (t : ℕ). Nearest (m * (1 + t) * 0x10_0000_0000_0000) n) (odd_is o h)

pub above_least-above-requires : goal.above_least-above-requires
above_least-above-requires c =
    let e = c.scale-x.ensures.exponent in subst Exponent (sym (read_exponent _ e)) e

pub odd-requires : goal.odd-requires
odd-requires c = (within _ c.scale-x.ensures.exponent _ c.above_least-above.ensures).0

pub field_of_half-requires : goal.field_of_half-requires
field_of_half-requires c = within _ c.scale-x.ensures.exponent _ c.above_least-above.ensures

pub nearest-r-requires : goal.nearest-r-requires
nearest-r-requires c =
    let x = c.scale-x.ensures in
    let o = odd_is _ x.exponent _ c.above_least-above.ensures _ c.odd.ensures in (x.low, x.high, omega arith)

pub overflow_mul-result : goal.overflow_mul-result
overflow_mul-result c =
    let x = c.scale-x.ensures in
    let h = half_is _ x.exponent _ c.above_least-above.ensures _ c.field_of_half.ensures in
    omega (arith, h, x.exponent.upto)

pub overflow_add-result : goal.overflow_add-result
overflow_add-result c =
    let x = c.scale-x.ensures in
    let h = half_is _ x.exponent _ c.above_least-above.ensures _ c.field_of_half.ensures in
    let n = near _ x.exponent _ c.above_least-above.ensures c.scale-x.result.significand _ c.nearest-r.result c.odd.ensures
    c.nearest-r.ensures in
    omega (
      arith,
      h,
      x.exponent.upto,
      root_upto c.args.bits c.scale-x.result.significand c.scale-x.result.exponent c.nearest-r.result c.requires.0 c.requires.1 x n,
    )

pub returns : goal.returns
returns c =
    let x = c.scale-x.ensures in
    let h = half_is _ x.exponent _ c.above_least-above.ensures _ c.field_of_half.ensures in
    let n = near _ x.exponent _ c.above_least-above.ensures c.scale-x.result.significand _ c.nearest-r.result c.odd.ensures
    c.nearest-r.ensures in
    ap (λ (z : ℕ). z * 0x10_0000_0000_0000 + c.nearest-r.result) h
    ∙ root_place c.args.bits c.scale-x.result.significand c.scale-x.result.exponent c.nearest-r.result c.requires.0 c.requires.1 x n
