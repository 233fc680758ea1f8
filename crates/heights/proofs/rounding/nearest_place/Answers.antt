-- By the exponent.
use Rattle.std.proofs.Common.{arith, refl, subst, sym, ℕ, ◌*◌, ◌-◌, ◌/◌, ◌^◌, ◌≤◌, ◌<◌}
use native.Mathlib.Nat.{div-le_self}
use Rattle.heights.proofs.Places.{small, large, whole_under}
use Rattle.heights.proofs.rounding.nearest_place.Goals as goal

pub returns-then-exponent-lt1022 : goal.returns-then-exponent-lt1022
returns-then-exponent-lt1022 c = (small c.args.place c.if-exponent-lt1022.true, omega arith)

-- the digits are below 2 ^ 53
digits-small : (b t : ℕ) → (b - (b / 0x10_0000_0000_0000 - 1) * 0x10_0000_0000_0000) / 2 ^ t < 0x20_0000_0000_0000
digits-small b t = let l = div-le_self (b - (b / 0x10_0000_0000_0000 - 1) * 0x10_0000_0000_0000) (2 ^ t) in omega (arith, l)

pub overflow_add-result : goal.overflow_add-result
overflow_add-result c =
    let b = c.args.place in omega (arith, digits-small b (1074 - b / 0x10_0000_0000_0000))

pub returns : goal.returns
returns c =
    let b = c.args.place in
    let e = b / 0x10_0000_0000_0000 in
    let w = large b e (1074 - e) refl (omega arith) (omega (arith, c.requires)) in
    (w, subst (λ (n : ℕ). n ≤ 2000000) (sym w) (whole_under b c.requires))
