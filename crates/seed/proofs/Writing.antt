-- The raw knots, written three at a time as the anchors are found; and how many there are.
use mathlib.Core.Path.{◌≡◌, refl, sym, ap, ◌∙◌}
use mathlib.Core.List.{List, [], ◌∷◌, ◌++◌, append_assoc, append-nil}
use Prim.Native.Nat.{ℕ, zero, suc, ◌+◌, ◌-◌, ◌*◌, ◌≤◌, ◌<◌}
use native.Mathlib.Decide.{dec_lt}
use native.Mathlib.Omega.{arith}
use lib.ListN.{length, length-append}
use lib.Ieee.{Float}
use Rattle.arith.specs.Loop.{whilst}
use Rattle.window.proofs.Windows.{length_window, window_before}
use Rattle.window.specs.Window.{splice}
use Rattle.window.specs.Rows.{written}
use Rattle.window.proofs.Written.{written_none, written_next}
use Rattle.seed.specs.declared.Waypoints.{Waypoints}
use Rattle.seed.specs.Anchors.{anchors_of, next_anchor}
use Rattle.seed.specs.Knots.{around, anchor_knots, raw_knots}
use Rattle.seed.specs.Placed.{WaypointsLaid, parameters_at, points_at}
use Rattle.seed.proofs.Scanning.{after, after_more, after_none, anchors_are, next_between}

-- three cells more of a list that is written from a on, after the k that v has
write_three : (a : ℕ) (v l : List Float) (k : ℕ) (u : List Float) → length v ≡ k → length u ≡ 3 → a + k ≤ length l
    → splice (a + k) (a + k + 3) u (written a v l) ≡ written a (v ++ u) l
write_three a v l k u h g room =
    rw (← h)
    (ap (λ (n : ℕ). splice (a + length v) (a + length v + n) u (written a v l)) (sym g) ∙ written_next a v l u (omega arith))

module _ (s y : List Float) (d : ℕ) where
  -- the knots of the anchors a, b and those after b
  abbrev knots_from : ℕ → ℕ → ℕ → List Float
  knots_from left a b = anchor_knots s y d (a ∷ (b ∷ after s y d left b))

  from_more : (left a b : ℕ) → b + 1 < length s → knots_from (suc left) a b ≡ around s y d a b (next_anchor s y d
      b) ++ knots_from left b (next_anchor s y d b)
  unfolding anchor_knots
  from_more left a b h = rw (after_more s y d left b h)

  from_none : (left a b : ℕ) → length s ≤ b + 1 → knots_from left a b ≡ []
  unfolding anchor_knots
  from_none left a b h = rw (after_none s y d left b h)

  raw_from : 0 < length s → raw_knots s y d ≡ knots_from (length s) 0 (next_anchor s y d 0)
  unfolding raw_knots
  raw_from h = ap (anchor_knots s y d) (anchors_are s y d h)

  -- no inner waypoint, no knots
  pub raw_empty : length s < 2 → raw_knots s y d ≡ []
  raw_empty h = elim (dec_lt 0 (length s)) [
    | yes g ↦ raw_from g ∙ from_none (length s) 0 (next_anchor s y d 0) (omega arith)
    | no g ↦ nothing (omega arith)
  ]
    where
      nothing : length s ≡ 0 → raw_knots s y d ≡ []
      nothing e = unfold raw_knots anchors_of anchor_knots whilst in rw e

  around_length : (a b c : ℕ) → length (around s y d a b c) ≡ 3
  unfolding around
  around_length a b c = refl

  -- ---- what holds before each triple: the cells written and the knots to come are the raw knots
  pub record Begun (from : ℕ) (work₀ work : List Float) (a b k : ℕ) : Type 0 where
    pub done : List Float
    pub count : length done ≡ k
    pub is : work ≡ written from done work₀
    pub left : ℕ
    pub enough : length s ≤ left + b + 1
    pub first : a < length s
    pub second : b < length s
    pub room : k + 3 ≤ 3 * b
    pub all : done ++ knots_from left a b ≡ raw_knots s y d

  module _ (from : ℕ) (work₀ : List Float) where
    pub begun_none : 1 < length s → Begun from work₀ work₀ 0 (next_anchor s y d 0) 0
    begun_none h =
        record {
          done = [];
          count = refl;
          is = sym (written_none from work₀);
          left = length s;
          enough = omega arith;
          first = omega arith;
          second = (next_between s y d 0 h).1;
          room = omega (arith, (next_between s y d 0 h).0);
          all = sym (raw_from (omega arith));
        }

    module _ (work : List Float) (a b k : ℕ) where
      pub begun_more : (v : List Float) → b + 1 < length s → from + 3 * length s ≤ length work₀ + 6
          → v ≡ around s y d a b (next_anchor s y d b) → Begun from work₀ work a b k
          → Begun from work₀ (splice (from + k) (from + k + 3) v work) b (next_anchor s y d b) (k + 3)
      begun_more v h g e z = go z.left z.enough z.all
        where
          three : length v ≡ 3
          three = rw e (around_length a b (next_anchor s y d b))

          later : b < next_anchor s y d b
          later = (next_between s y d b h).0

          go : (left : ℕ) → length s ≤ left + b + 1 → z.done ++ knots_from left a b ≡ raw_knots s y d
              → Begun from work₀ (splice (from + k) (from + k + 3) v work) b (next_anchor s y d b) (k + 3)
          go zero f q = absurd (omega arith)
          go (suc left) f q =
              record {
                done = z.done ++ v;
                count = rw (length-append z.done v, z.count, three);
                is = rw z.is (write_three from z.done work₀ k v z.count three (omega (arith, z.room)));
                left = left;
                enough = omega (arith, later);
                first = z.second;
                second = (next_between s y d b h).1;
                room = omega (arith, later, z.room);
                all =
                    append_assoc z.done v (knots_from left b (next_anchor s y d b))
                    ∙ ap (λ (l : List Float). z.done ++ (l ++ knots_from left b (next_anchor s y d b))) e
                    ∙ ap (λ (l : List Float). z.done ++ l) (sym (from_more left a b h))
                    ∙ q;
              }

      module _ (h : length s ≤ b + 1) (z : Begun from work₀ work a b k) where
        done_all : z.done ≡ raw_knots s y d
        done_all = sym (append-nil z.done) ∙ rw (from_none z.left a b h) at z.all

        pub begun_count : k ≡ length (raw_knots s y d)
        begun_count = sym z.count ∙ ap length done_all

        pub begun_cells : work ≡ written from (raw_knots s y d) work₀
        begun_cells = z.is ∙ ap (λ (l : List Float). written from l work₀) done_all

  -- ---- how many
  around_three : (a b c : ℕ) (l : List Float) → length (around s y d a b c ++ l) ≡ 3 + length l
  unfolding around
  around_three a b c l = omega arith

  from_count : (left a b : ℕ) → b < length s → length (knots_from left a b) + 3 * b ≤ 3 * (length s - 1)
  from_count zero a b h = unfold after anchor_knots in omega arith
  from_count (suc left) a b h = go (λ (k : ℕ). from_count left b k)
    where
      go : ((k : ℕ) → k < length s → length (knots_from left b k) + 3 * k ≤ 3 * (length s - 1)) → length (knots_from (suc left) a b) + 3 * b
          ≤ 3 * (length s - 1)
      go again = elim (dec_lt (b + 1) (length s)) [
        | yes g ↦ rw (from_more left a b g, around_three a b (next_anchor s y d b) (knots_from left b (next_anchor s y d b)))
            (omega (arith, (next_between s y d b g).0, again (next_anchor s y d b) (next_between s y d b g).1))
        | no g ↦ rw (from_none (suc left) a b (omega arith)) (omega arith)
      ]

  -- at most three for each inner waypoint
  pub raw_count : 2 ≤ length s → length (raw_knots s y d) ≤ 3 * (length s - 2)
  raw_count h = rw (raw_from (omega arith)) (omega (
    arith,
    (next_between s y d 0 h).0,
    from_count (length s) 0 (next_anchor s y d 0)
        (next_between s y d 0 h).1,
  ))

-- ---- in one slice
module _ (p : Waypoints) (w : List Float) (laid : WaypointsLaid p (length w)) where
  pub parameters_length : length (parameters_at p w) ≡ p.samples
  parameters_length = length_window p.parameters (p.parameters + p.samples) w (omega arith) (omega arith) ∙ omega arith

  -- what is written from the knots on leaves the waypoints as they are
  pub same_parameters : (v : List Float) → parameters_at p (written p.knots v w) ≡ parameters_at p w
  same_parameters v = window_before p.knots (p.knots + length v) v w p.parameters (p.parameters + p.samples) (omega arith)
      (omega arith) (omega arith)

  pub same_points : (v : List Float) → points_at p (written p.knots v w) ≡ points_at p w
  same_points v = window_before p.knots (p.knots + length v) v w p.points (p.points + p.samples * p.axes) (omega arith)
      (omega arith) (omega arith)
