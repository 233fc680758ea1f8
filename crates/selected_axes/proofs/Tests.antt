-- Tests over the numbers from 0 on.
use mathlib.Core.Path.{◌≡◌, refl}
use mathlib.Core.Bool.{Bool}
use Prim.Native.Nat.{ℕ, zero, suc, ◌<◌}
use native.Mathlib.Omega.{arith}
use mathlib.Core.List.{List}
use lib.ListN.{take}
use lib.Seq.{get_or-take}
use lib.Ieee.{Float, nan, lt}
use Rattle.window.specs.Cells.{at}
use Rattle.request.specs.Any.{any}
use Rattle.smoothing.specs.Finish.{excessive}

-- the same tests, the same answer
pub any_ap : (n : ℕ) (f g : ℕ → Bool) → ((i : ℕ) → i < n → f i ≡ g i) → any n f ≡ any n g
unfolding any
any_ap zero f g h = refl
any_ap (suc n) f g h = rw (any_ap n f g (λ i l. h i (omega arith)), h n (omega arith))

-- the test of 17 looks at the first k cells alone
pub excessive_is : (eps errors : List Float) (k : ℕ) → any k (λ a. lt (at eps a) (at errors a)) ≡ excessive (take k eps) k (take k errors)
unfolding excessive
excessive_is eps errors k = any_ap k _ _ (λ a h. rw (get_or-take k eps a nan h, get_or-take k errors a nan h))
