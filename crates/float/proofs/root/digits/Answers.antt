use Rattle.std.proofs.Common.{◌≡◌, ℕ, ◌+◌, ◌*◌, ◌^◌, ◌<◌, ap, ◌∙◌, add-one, arith}
use native.Mathlib.Nat.{pow-suc}
use lib.Pow.{pow_mono}
use Rattle.float.proofs.root.digits.Invariants.{Found}
use Rattle.float.proofs.root.digits.Goals as goal
use Rattle.float.proofs.root.digits.Goals.{then-t-rest, else-t-rest}

-- before the last digit the root is below 2 ^ 52
low : {w left root rest i : ℕ} → Found w left root rest i → i < 53 → root < 0x10_0000_0000_0000
low {i = i} d l = omega (arith, pow_mono {i = i} {j = 52} (omega arith))

pub loop-init : goal.loop-init
loop-init c = record { small = omega arith; less = omega arith; fit = omega arith; is = omega arith }

pub overflow_mul-rest : goal.overflow_mul-rest
overflow_mul-rest c = omega (arith, low c.loop.invariant (omega arith))

pub overflow_add-rest : goal.overflow_add-rest
overflow_add-rest c = omega (arith, low c.loop.invariant (omega arith))

pub overflow_mul-t : goal.overflow_mul-t
overflow_mul-t c = omega (arith, low c.loop.invariant (omega arith))

pub overflow_add-t : goal.overflow_add-t
overflow_add-t c = omega (arith, low c.loop.invariant (omega arith))

pub overflow_mul-root : goal.overflow_mul-root
overflow_mul-root c = omega (arith, low c.loop.invariant (omega arith))

pub overflow_add-root : goal.overflow_add-root
overflow_add-root c = omega (arith, low c.loop.invariant (omega arith))

pub overflow_mul-root-else-t-rest : goal.overflow_mul-root-else-t-rest
overflow_mul-root-else-t-rest c = omega (arith, low c.loop.invariant (omega arith))

pub loop-preserved : goal.loop-preserved
loop-preserved c =
    let l = c.loop in
    let d = l.invariant in
    let w = c.args.w in
    let e : 2 ^ (l.counter + 1) ≡ 2 ^ l.counter * 2 = ap (λ (z : ℕ). 2 ^ z) (add-one l.counter) ∙ pow-suc 2 l.counter in
    let g : w * 4 ^ (l.counter + 1) ≡ w * (4 ^ l.counter * 4) =
    ap (λ (z : ℕ). w * z) (ap (λ (z : ℕ). 4 ^ z) (add-one l.counter) ∙ pow-suc 4 l.counter) in
    elim c.if-t-rest.branch [
      | then-t-rest h ↦
          let s : c.if-t-rest.root * c.if-t-rest.root ≡ (l.root * 2 + 1) * (l.root * 2 + 1) = ap (λ (z : ℕ). z * z) (omega arith) in
          record { small = omega arith; less = omega arith; fit = omega arith; is = omega arith }
      | else-t-rest h ↦
          let s : c.if-t-rest.root * c.if-t-rest.root ≡ (l.root * 2) * (l.root * 2) = ap (λ (z : ℕ). z * z) (omega arith) in
          record { small = omega arith; less = omega arith; fit = omega arith; is = omega arith }
    ]

pub returns : goal.returns
returns c =
    let d = c.loop.invariant in
    let e : c.loop.counter ≡ 53 = omega arith in
    let h = rw e at d.is in
    record { is = omega arith; less = d.less }
