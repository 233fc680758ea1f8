-- Terms of the ring solver that several files write.
use Prim.Native.Nat.{ℕ, zero, suc}
use lib.IntN.{pos}
use Rattle.fraction.specs.Ring.{Expression, con, ◌⊕◌, ◌⊗◌}

-- the numbers 0 and 1
abbrev pub n0 : Expression
n0 = con (pos 0)

abbrev pub n1 : Expression
n1 = con (pos 1)

-- a + b u + .. + f u ^ 5 by Horner's rule
abbrev pub horner_term : Expression → Expression → Expression → Expression → Expression → Expression → Expression → Expression
horner_term u a b c d e f = a ⊕ u ⊗ (b ⊕ u ⊗ (c ⊕ u ⊗ (d ⊕ u ⊗ (e ⊕ u ⊗ f))))

-- e to the k
abbrev pub power_term : Expression → ℕ → Expression
power_term e zero = n1
power_term e (suc k) = e ⊗ power_term e k
