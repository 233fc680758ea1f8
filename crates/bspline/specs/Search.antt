-- Where a parameter lies among knots: Rust's `partition_point`, of any list, sorted or not, and the source's `BSpline::span`.
use Rattle.std.specs.Prelude.{ℕ, ◌+◌, ◌-◌, ◌/◌, max, min, Bool, cond, List, ltb, get_or, length}
use Rattle.arith.specs.Operations.{Arith}
use Rattle.arith.specs.Loop.{whilst}

-- `high` where the element at `at` passes the test, and `low` where it does not
unfoldable pub pick_of : {A : Type 0} → A → (A → Bool) → List A → ℕ → ℕ → ℕ → ℕ
pick_of outside test list at high low = cond (test (get_or list at outside)) high low

-- the elements that are still searched: `size` of them from `base` on
pub record Bisection : Type 0 where
  pub base : ℕ
  pub size : ℕ

abbrev pub several : Bisection → Bool
several b = ltb 1 b.size

-- half of them is left
unfoldable pub halve : {A : Type 0} → A → (A → Bool) → List A → Bisection → Bisection
halve outside test list b =
    record {
      base = pick_of outside test list (b.base + b.size / 2) (b.base + b.size / 2) b.base;
      size = b.size - b.size / 2;
    }

-- `list.partition_point(test)`: how many leading elements pass, found by bisection
unfoldable pub partition_point : {A : Type 0} → A → (A → Bool) → List A → ℕ
partition_point outside test list =
    let b = (whilst several (halve outside test list) (length list) (record { base = 0; size = length list })).base in
    cond (ltb 0 (length list)) (pick_of outside test list b (b + 1) b) 0

-- `self.t.partition_point(|v| *v <= x).saturating_sub(1).clamp(P, self.m() - 1)`, with m controls
abbrev pub span_of : {A : Type 0} → Arith A → List A → ℕ → A → ℕ
span_of o t m x = max 5 (min (m - 1) (partition_point o.outside (λ v. o.at_most v x) t - 1))
