-- Slices that are not too short have the cells that are needed.
use mathlib.Core.Path.{◌≡◌, sym}
use mathlib.Core.Bool.{Bool, true, false, ◌&&◌, ◌||◌, true≢false}
use Prim.Native.Nat.{ℕ, ◌*◌, ◌/◌, ◌≤◌, ◌<◌}
use native.Mathlib.Nat.{div-lt_iff_lt-mul}
use native.Mathlib.Decide.{dec_lt}
use native.Mathlib.Omega.{arith}
use borrow.Author.Tests.{ltb-false, lt-ltb}
use lib.Dec.{leb, ltb}
use lib.ListN.{length}
use Rattle.arith.proofs.Truth.{or_none}
use Rattle.query.specs.Row.{Outputs, Room}
use Rattle.query.specs.Query.{short_of}

and_second : (a b : Bool) → (a && b) ≡ false → a ≡ true → b ≡ false
and_second true b h e = h
and_second false b h e = absurd (true≢false (sym e))

-- whether a slice that is asked for has fewer than n cells
abbrev pub Short : ℕ → ℕ → Outputs → Bool
Short order n o = short_of order n (length o.q) (length o.dq) (length o.ddq) (length o.dddq)

module _ (order n : ℕ) (o : Outputs) where
  pub rooms : Short order n o ≡ false → Room order n o
  unfolding short_of
  rooms h =
      let a = ltb (length o.q) n in
      let b = leb 1 order && ltb (length o.dq) n in
      let c = leb 2 order && ltb (length o.ddq) n in
      let d = leb 3 order && ltb (length o.dddq) n in
      let p = or_none (a || b || c) d h in
      let r = or_none (a || b) c p.0 in
      let s = or_none a b r.0 in (
        ltb-false (length o.q) n s.0,
        λ e. ltb-false (length o.dq) n (and_second (leb 1 order) (ltb (length o.dq) n) s.1 e),
        λ e. ltb-false (length o.ddq) n (and_second (leb 2 order) (ltb (length o.ddq) n) r.1 e),
        λ e. ltb-false (length o.dddq) n (and_second (leb 3 order) (ltb (length o.dddq) n) p.1 e),
      )

  -- too few cells for the values are too few
  pub short_first : length o.q < n → Short order n o ≡ true
  unfolding short_of
  short_first h = rw (lt-ltb (length o.q) n h)

-- where q / d rows are enough for n, q cells are
pub room_count : (q d n : ℕ) → 0 < d → n ≤ q / d → n * d ≤ q
room_count q d n z h = elim (dec_lt q (n * d)) [
  | yes l ↦ let g : q / d < n = (div-lt_iff_lt-mul z).1 l in absurd (omega arith)
  | no l ↦ omega arith
]
