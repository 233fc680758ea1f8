-- The source's `FACT` and `choose`.
use Rattle.std.specs.Prelude.{ℕ, ◌-◌, List, [], ◌∷◌, get_or}
use Rattle.arith.specs.Operations.{Arith}

-- 0! to 5!
unfoldable pub factorials : {A : Type 0} → Arith A → List A
factorials o = o.literal 1 1 ∷ o.literal 1 1 ∷ o.literal 2 1 ∷ o.literal 6 1 ∷ o.literal 24 1 ∷ o.literal 120 1 ∷ []

-- the binomial coefficient n over k, for n up to five
unfoldable pub choose_of : {A : Type 0} → Arith A → ℕ → ℕ → A
choose_of o n k =
    o.over (get_or (factorials o) n o.outside) (o.times (get_or (factorials o) k o.outside) (get_or (factorials o) (n - k) o.outside))
