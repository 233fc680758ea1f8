-- On a list that is partitioned by a test, the bisection finds the partition point: all before it pass, and none from there on.
use mathlib.Core.Path.{◌≡◌, refl}
use mathlib.Core.Bool.{Bool, true, false, cond}
use mathlib.Core.List.{List}
use Prim.Native.Nat.{ℕ, zero, suc, ◌+◌, ◌-◌, ◌/◌, ◌≤◌, ◌<◌}
use native.Mathlib.Omega.{arith}
use native.Mathlib.Decide.{dec_lt}
use lib.ListN.{length, get_or}
use borrow.Author.Tests.{ltb-true, ltb-false, lt-ltb, le-ltb}
use Rattle.arith.specs.Loop.{whilst}
use Rattle.arith.proofs.Choice.{cond_le}
use Rattle.bspline.specs.Search.{pick_of, Bisection, several, halve, partition_point}
use Rattle.arith.proofs.Runs.{whilst_ends}

pub pick_le : {A : Type 0} (outside : A) (test : A → Bool) (list : List A) (at : ℕ) {high low k : ℕ} → high ≤ k → low ≤ k
    → pick_of outside test list at high low ≤ k
unfolding pick_of
pick_le outside test list at h g = cond_le (test (get_or list at outside)) h g

-- the list is partitioned at k
module _ {A : Type 0} (outside : A) (test : A → Bool) (list : List A) (k : ℕ) (within : k ≤ length list)
    (front : (i : ℕ) → i < k → test (get_or list i outside) ≡ true)
    (rest : (i : ℕ) → k ≤ i → i < length list → test (get_or list i outside) ≡ false) where
  -- k lies in the part that is still searched, or at its end
  record Around (n : ℕ) (b : Bisection) : Type 0 where
    some : 1 ≤ b.size
    fuel : b.size ≤ n
    low : b.base ≤ k
    high : k ≤ b.base + b.size
    inside : b.base + b.size ≤ length list

  -- the test at i tells on which side of k it lies
  side : (i : ℕ) → i < length list → (b : Bool) → test (get_or list i outside) ≡ b → cond b (i < k) (k ≤ i)
  side i h true e = elim (dec_lt i k) [
    | yes g ↦ g
    | no g ↦ let r = rest i (omega arith) h in let z : ◌≡◌ {A = ℕ} 0 1 = cc in absurd (omega arith)
  ]
  side i h false e = elim (dec_lt i k) [
    | yes g ↦ let r = front i g in let z : ◌≡◌ {A = ℕ} 0 1 = cc in absurd (omega arith)
    | no g ↦ omega arith
  ]

  halve_keeps : (n : ℕ) (b : Bisection) → several b ≡ true → Around (suc n) b → Around n (halve outside test list b)
  unfolding halve pick_of
  halve_keeps n b e a =
      let many = ltb-true 1 b.size e in
      let mid = b.base + b.size / 2 in
      go (test (get_or list mid outside)) (side mid (omega (arith, a.inside)) (test (get_or list mid outside)) refl)
    where
      go : (v : Bool) → cond v (b.base + b.size / 2 < k) (k ≤ b.base + b.size / 2)
          → Around n (record { base = cond v (b.base + b.size / 2) b.base; size = b.size - b.size / 2 })
      go true g = record {
        some = omega (arith, ltb-true 1 b.size e);
        fuel = omega (arith, ltb-true 1 b.size e, a.fuel);
        low = omega
            arith;
        high = omega (arith, a.high);
        inside = omega (arith, a.inside);
      }
      go false g = record {
        some = omega (arith, ltb-true 1 b.size e);
        fuel = omega (arith, ltb-true 1 b.size e, a.fuel);
        low =
            a.low;
        high = omega arith;
        inside = omega (arith, a.inside);
      }

  last : (b : Bisection) (n : ℕ) → Around n b → b.size ≤ 1 → pick_of outside test list b.base (b.base + 1) b.base ≡ k
  unfolding pick_of
  last b n a one =
      go (test (get_or list b.base outside)) (side b.base (omega (arith, a.inside, a.some)) (test (get_or list b.base outside)) refl)
    where
      go : (v : Bool) → cond v (b.base < k) (k ≤ b.base) → cond v (b.base + 1) b.base ≡ k
      go true g = omega (arith, a.high)
      go false g = omega (arith, a.low)

  pub partition_point_is : partition_point outside test list ≡ k
  unfolding partition_point pick_of
  partition_point_is = elim (dec_lt 0 (length list)) [
    | yes h ↦
        let r = whilst_ends Around several (halve outside test list) halve_keeps (λ s a. absurd (omega (arith, a.some, a.fuel)))
        (length list) (record { base = 0; size = length list })
        (record { some = h; fuel = omega arith; low = omega arith; high = omega arith; inside = omega arith }) in
        let b = whilst several (halve outside test list) (length list) (record { base = 0; size = length list }) in
        let one = ltb-false 1 b.size r.2 in
        rw (lt-ltb 0 (length list) h) (last b r.0 r.1 one)
    | no h ↦ rw (le-ltb 0 (length list) (omega arith)) (omega arith)
  ]

-- a list that is partitioned by the test, wherever: an element passes if the next one does
module _ {A : Type 0} (outside : A) (test : A → Bool) (list : List A)
    (falls : (i : ℕ) → i + 1 < length list → test (get_or list (i + 1) outside) ≡ true → test (get_or list i outside) ≡ true) where
  -- the first n elements, parted
  record Parted (n : ℕ) : Type 0 where
    k : ℕ
    within : k ≤ n
    front : (i : ℕ) → i < k → test (get_or list i outside) ≡ true
    rest : (i : ℕ) → k ≤ i → i < n → test (get_or list i outside) ≡ false

  parted : (n : ℕ) → n ≤ length list → Parted n
  parted zero h = record { k = 0; within = omega arith; front = λ i l. absurd (omega arith); rest = λ i l g. absurd (omega arith) }
  parted (suc n) h = go (parted n (omega arith)) (test (get_or list n outside)) refl
    where
      go : Parted n → (b : Bool) → test (get_or list n outside) ≡ b → Parted (suc n)
      go p false e = record {
        k = p.k;
        within = omega (arith, p.within);
        front = p.front;
        rest = λ i l g. elim (dec_lt i n) [ yes a ↦ p.rest i l a | no a ↦ let q : i ≡ n = omega arith in rw q e ];
      }
      go p true e = elim (dec_lt p.k n) [
        | yes a ↦
            let q : n - 1 + 1 ≡ n = omega arith in
            let f = falls (n - 1) (omega arith) (rw q e) in
            let g = p.rest (n - 1) (omega arith) (omega arith) in
            let z : ◌≡◌ {A = ℕ} 0 1 = cc in absurd (omega arith)
        | no a ↦ record {
          k = suc n;
          within = omega arith;
          front = λ i l. elim (dec_lt i n) [ yes b ↦ p.front i (omega (arith, p.within)) | no b ↦ let q : i ≡ n = omega arith in rw q e ];
          rest = λ i l g. absurd (omega arith);
        }
      ]

  whole : Parted (length list)
  whole = parted (length list) (omega arith)

  found : partition_point outside test list ≡ whole.k
  found = partition_point_is outside test list whole.k whole.within whole.front whole.rest

  -- all before the partition point pass
  pub all_before : (i : ℕ) → i < partition_point outside test list → test (get_or list i outside) ≡ true
  all_before i h = whole.front i (rw found at h)

  -- none from there on
  pub none_from : (i : ℕ) → partition_point outside test list ≤ i → i < length list → test (get_or list i outside) ≡ false
  none_from i h g = whole.rest i (rw found at h) g
