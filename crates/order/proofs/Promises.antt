-- What is promised of a call's outcome holds of the definition's.
use mathlib.Core.Path.{◌≡◌, refl, sym, ◌∙◌, subst}
use mathlib.Core.Bool.{Bool, true, false, not, ◌&&◌, cond, or-true}
use mathlib.Core.List.{List, [], ◌++◌}
use mathlib.Core.Option.{Option, some, none}
use Prim.Native.Nat.{ℕ, ◌≤◌, ◌<◌}
use native.Mathlib.Omega.{arith}
use borrow.Author.Tests.{lt-ltb, le-ltb, ltb-true}
use lib.Dec.{ltb}
use lib.ListN.{length, take, drop}
use lib.Seq.{take_at}
use Rattle.arith.proofs.Truth.{and_parts, clash}
use Rattle.arith.specs.First.{first_of}
use Rattle.arith.proofs.Firsts.{every_at}
use Rattle.order.specs.Pairs.{Pairs, before_of, after_of, Meets}
use Rattle.order.specs.Order.{order_from, order_of}
use Rattle.order.specs.Sets.{Fitting}
use Rattle.order.specs.Outcome.{Outcome, outcome, above_limits, in_range, placed, is_ring, cutting_order_of, Promised}
use Rattle.order.proofs.Orders.{taken, meets, least, ring}

-- the lanes of pair i are in range
abbrev pub pair_fits : Pairs → ℕ → ℕ → Bool
pair_fits pairs lanes i = ltb (before_of pairs i) lanes && ltb (after_of pairs i) lanes

-- the lanes of every pair are in range
in_range_at : (lanes : ℕ) (pairs : Pairs) → in_range lanes pairs ≡ true → (p : ℕ) → p < length pairs
    → (before_of pairs p < lanes) × (after_of pairs p < lanes)
in_range_at lanes pairs h p l =
    let (a, b) = and_parts (ltb (before_of pairs p) lanes) (ltb (after_of pairs p) lanes)
    (every_at (λ i. ltb (before_of pairs i) lanes && ltb (after_of pairs i) lanes) (length pairs) h p l) in
    (ltb-true (before_of pairs p) lanes a, ltb-true (after_of pairs p) lanes b)

pub fitting : (lanes : ℕ) (pairs : Pairs) → lanes ≤ 64 → in_range lanes pairs ≡ true → Fitting pairs
fitting lanes pairs b h p l =
    let (x, y) = in_range_at lanes pairs h p l in (omega arith, omega arith)

module _ (lanes : ℕ) (pairs : Pairs) (cells : List ℕ) where
  pub promised : Promised lanes pairs cells (cutting_order_of lanes pairs cells)
  unfolding cutting_order_of
  promised =
      go (above_limits lanes pairs) refl (in_range lanes pairs) refl (ltb (length cells) lanes) refl (order_of lanes pairs) refl
    where
      go : (a : Bool) → above_limits lanes pairs ≡ a → (b : Bool) → in_range lanes pairs ≡ b → (s : Bool) → ltb (length cells) lanes ≡ s
          → (z : Option (List ℕ)) → order_of lanes pairs ≡ z → Promised lanes pairs cells (cond a (outcome 18 cells)
          (cond (not b) (outcome 31 cells) (cond s (outcome 19 cells) (placed z cells))))
      go true ea b eb s es z ez =
          record {
            meets = λ e. absurd (omega arith);
            least = λ e. absurd (omega arith);
            ring = λ e. absurd (omega arith);
            refused = λ f. clash ea f;
          }
      go false ea false eb s es z ez =
          record {
            meets = λ e. absurd (omega arith);
            least = λ e. absurd (omega arith);
            ring = λ e. absurd (omega arith);
            refused = λ f g. clash g eb;
          }
      go false ea true eb true es z ez =
          record {
            meets = λ e. absurd (omega arith);
            least = λ e. absurd (omega arith);
            ring = λ e. absurd (omega arith);
            refused = λ f g h. absurd (omega (arith, ltb-true (length cells) lanes es));
          }
      go false ea true eb false es none ez =
          record {
            meets = λ e. absurd (omega arith);
            least = λ e. absurd (omega arith);
            ring = λ e. ring lanes pairs ez;
            refused = λ f g h k. refl;
          }
      go false ea true eb false es (some order) ez =
          let m : Meets lanes pairs order = meets lanes pairs order ez (λ p l. (in_range_at lanes pairs eb p l).1) in
          let t : take lanes (order ++ drop (length order) cells) ≡ order = take_at order (drop (length order) cells) lanes
          (taken lanes pairs order ez).0 in
          record {
            meets = λ e. rw t m;
            least = λ e other n. rw t (least lanes pairs order ez other n);
            ring = λ e. absurd (omega arith);
            refused = λ f g h k. absurd (k order m);
          }

  pub answered : (o : Outcome) → o ≡ cutting_order_of lanes pairs cells
      → (o ≡ cutting_order_of lanes pairs cells) × Promised lanes pairs cells o
  answered o e = (e, subst (λ (o : Outcome). Promised lanes pairs cells o) (sym e) promised)

-- the checks, one after the other
module _ (lanes : ℕ) (pairs : Pairs) (cells : List ℕ) where
  pub above_lanes : 64 < lanes → outcome 18 cells ≡ cutting_order_of lanes pairs cells
  unfolding cutting_order_of
  above_lanes h = rw (lt-ltb 64 lanes h)

  pub above_pairs : 1024 < length pairs → outcome 18 cells ≡ cutting_order_of lanes pairs cells
  unfolding cutting_order_of
  above_pairs h = rw (lt-ltb 1024 (length pairs) h, or-true (ltb 64 lanes))

  module _ (a : lanes ≤ 64) (b : length pairs ≤ 1024) where
    pub out_of_range : in_range lanes pairs ≡ false → outcome 31 cells ≡ cutting_order_of lanes pairs cells
    unfolding cutting_order_of
    out_of_range h = rw (le-ltb 64 lanes a, le-ltb 1024 (length pairs) b, h)

    pub too_short : in_range lanes pairs ≡ true → length cells < lanes → outcome 19 cells ≡ cutting_order_of lanes pairs cells
    unfolding cutting_order_of
    too_short h l = rw (le-ltb 64 lanes a, le-ltb 1024 (length pairs) b, h, lt-ltb (length cells) lanes l)

    pub ordered : in_range lanes pairs ≡ true → lanes ≤ length cells → placed (order_of lanes pairs) cells ≡ cutting_order_of lanes pairs cells
    unfolding cutting_order_of
    ordered h l = rw (le-ltb 64 lanes a, le-ltb 1024 (length pairs) b, h, le-ltb (length cells) lanes l)

-- what is placed, by whether there is a ring
pub placed_ring : (o : Option (List ℕ)) (cells : List ℕ) → is_ring o ≡ true → outcome 32 cells ≡ placed o cells
placed_ring none cells h = refl
placed_ring (some order) cells h = clash h refl

pub placed_order : (o : Option (List ℕ)) (cells : List ℕ) → is_ring o ≡ false → outcome 0 (placed o cells).cells ≡ placed o cells
placed_order none cells h = clash refl h
placed_order (some order) cells h = refl

-- "a lane before itself is a ring": no order has it before itself
pub before_itself : (lanes : ℕ) (pairs : Pairs) (p : ℕ) → p < length pairs → before_of pairs p ≡ after_of pairs p
    → (other : List ℕ) → Meets lanes pairs other → ⊥
before_itself lanes pairs p h e other m =
    let (i, j, a, b, f, g) = m.kept p h in m.once i j a (omega (arith, m.long)) (f ∙ e ∙ sym g)

-- "no lanes gives an empty order"
pub no_lanes : (cells : List ℕ) → cutting_order_of 0 [] cells ≡ outcome 0 cells
unfolding cutting_order_of order_from first_of
no_lanes cells = rw (le-ltb (length cells) 0 (omega arith))
