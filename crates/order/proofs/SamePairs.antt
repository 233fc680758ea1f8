-- The answer depends neither on the order of the pairs nor on how often one stands there.
use mathlib.Core.Path.{◌≡◌, refl, sym, ap, ◌∙◌}
use mathlib.Core.Bool.{Bool, true, false, not, ◌&&◌, ◌||◌}
use mathlib.Core.List.{List, [], ◌∷◌, ◌++◌}
use Prim.Native.Nat.{ℕ, zero, suc, ◌≤◌}
use borrow.Author.Tests.{le-ltb}
use lib.Dec.{ltb}
use lib.ListN.{length, get_or}
use Rattle.arith.specs.First.{every}
use Rattle.arith.proofs.Firsts.{first_all, first_same, every_all, every_at}
use Rattle.order.specs.Pairs.{Pairs, Within}
use Rattle.order.specs.Order.{among, ready, next_of, order_from}
use Rattle.order.specs.Outcome.{cutting_order_of}

-- two tests are equal where each passes if the other does
both : (a b : Bool) → (a ≡ true → b ≡ true) → (b ≡ true → a ≡ true) → a ≡ b
both true b f g = sym (f refl)
both false true f g = g refl
both false false f g = refl

-- what every pair of a list passes, every pair of a list within it passes
every_within : (test : List ℕ → Bool) (p q : Pairs) → Within q p → every (length p) (λ i. test (get_or p i [])) ≡ true
    → every (length q) (λ i. test (get_or q i [])) ≡ true
every_within test p q w h =
    every_all (λ i. test (get_or q i [])) (length q)
    (first_all (λ i. not (test (get_or q i []))) (length q)
    (λ i l. let (j, g, e) = w i l in ap (λ (x : List ℕ). not (test x)) e ∙ ap not (every_at (λ i. test (get_or p i [])) (length p) h j g)))

module _ (p q : Pairs) (there : Within p q) (back : Within q p) where
  every_same : (test : List ℕ → Bool) → every (length p) (λ i. test (get_or p i [])) ≡ every (length q) (λ i. test (get_or q i []))
  every_same test = both _ _ (every_within test p q back) (every_within test q p there)

  ready_same : (cut : List ℕ) (lane : ℕ) → ready p cut lane ≡ ready q cut lane
  ready_same cut lane = ap (λ (b : Bool). not (among cut lane) && b)
      (every_same (λ x. not (lib.Dec.eqb (get_or x 1 0) lane) || among cut (get_or x 0 0)))

  from_same : (k lanes : ℕ) (cut : List ℕ) → order_from k lanes p cut ≡ order_from k lanes q cut
  unfolding order_from
  from_same zero lanes cut = refl
  from_same (suc k) lanes cut =
      let e : next_of lanes p cut ≡ next_of lanes q cut = first_same (ready p cut) (ready q cut) lanes (λ i l. ready_same cut i) in
      rw (e, from_same k lanes (cut ++ (next_of lanes q cut ∷ [])))

  pub same_pairs : (lanes : ℕ) (cells : List ℕ) → length p ≤ 1024 → length q ≤ 1024
      → cutting_order_of lanes p cells ≡ cutting_order_of lanes q cells
  unfolding cutting_order_of
  same_pairs lanes cells a b =
      rw (
        le-ltb 1024 (length p) a,
        le-ltb 1024 (length q) b,
        every_same (λ x. ltb (get_or x 0 0) lanes && ltb (get_or x 1 0) lanes),
        from_same lanes lanes [],
      )
