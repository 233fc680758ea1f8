use Prim.Native.Nat.{ℕ, ◌≤◌, ◌<◌, ◌*◌, ◌/◌, ◌%◌}
use native.Mathlib.Omega.{arith}
use native.Mathlib.Nat.{mul-le-mul}
use borrow.Author.Tests.{leb-true}
use Rattle.float.proofs.Checks.{confirms}
use Rattle.float.proofs.root.confirm.Goals as goal

-- the products of the parts a and b of k fit
aa : (k : ℕ) → k < 0x20_0000_0000_0000 → k / 0x400_0000 * (k / 0x400_0000) ≤ 0x800_0000 * 0x800_0000
aa k h =
    let a : k / 0x400_0000 ≤ 0x800_0000 = omega arith in
    mul-le-mul a a

ab : (k : ℕ) → k < 0x20_0000_0000_0000 → k / 0x400_0000 * (k % 0x400_0000) ≤ 0x800_0000 * 0x400_0000
ab k h =
    let a : k / 0x400_0000 ≤ 0x800_0000 = omega arith in
    let b : k % 0x400_0000 ≤ 0x400_0000 = omega arith in
    mul-le-mul a b

bb : (k : ℕ) → k % 0x400_0000 * (k % 0x400_0000) ≤ 0x400_0000 * 0x400_0000
bb k =
    let b : k % 0x400_0000 ≤ 0x400_0000 = omega arith in
    mul-le-mul b b

pub overflow_mul-a : goal.overflow_mul-a
overflow_mul-a c = omega (arith, aa c.args.k (omega arith))

pub overflow_mul-u : goal.overflow_mul-u
overflow_mul-u c = omega (arith, ab c.args.k (omega arith))

pub overflow_mul-u-2 : goal.overflow_mul-u-2
overflow_mul-u-2 c = omega (arith, ab c.args.k (omega arith))

pub overflow_mul-b : goal.overflow_mul-b
overflow_mul-b c = omega (arith, bb c.args.k)

pub returns : goal.returns
returns c e =
    confirms c.args.w c.args.k (c.args.k / 0x400_0000) (c.args.k % 0x400_0000) (omega arith)
    c.if-w-a.false c.if-t-u.false c.if-v-b.false (leb-true _ _ e)
