-- How the turns of the code follow the definition: the lanes that are held back, the lowest-numbered ready lane, and a place more.
use mathlib.Core.Path.{◌≡◌, refl, sym, ap, ap₂, ◌∙◌}
use mathlib.Core.Bool.{Bool, true, false, not, ◌&&◌, ◌||◌}
use mathlib.Core.List.{List, [], ◌∷◌, ◌++◌}
use mathlib.Core.Option.{some}
use Prim.Native.Nat.{ℕ, suc, ◌+◌, ◌-◌, ◌≤◌, ◌<◌}
use native.Mathlib.Numerals.{add-one}
use native.Mathlib.Omega.{arith}
use native.Mathlib.Decide.{dec_lt}
use borrow.Author.Tests.{eqb-true, eqb-false, eq-eqb, ne_eqb, lt-ltb, le-ltb}
use lib.Dec.{eqb}
use lib.ListN.{length, length-append}
use Rattle.arith.proofs.Truth.{clash}
use Rattle.arith.specs.First.{first_of, every}
use Rattle.arith.proofs.Firsts.{first_le, first_more, first_stays, first_same}
use Rattle.order.specs.Pairs.{Pairs, before_of, after_of}
use Rattle.order.specs.Order.{among, passes, ready, next_of, order_from, order_of}
use Rattle.order.specs.Sets.{held, SetOf}
use Rattle.order.specs.Outcome.{is_ring}
use Rattle.order.proofs.Among.{among_more}
use Rattle.order.proofs.Bits.{held_none}

-- one number more is tested
every_more : (test : ℕ → Bool) (i : ℕ) → every (i + 1) test ≡ (every i test && test i)
every_more test i = rw add-one (go (every i test) refl (test i) refl)
  where
    fails : ℕ → Bool
    fails j = not (test j)

    go : (b : Bool) → every i test ≡ b → (t : Bool) → test i ≡ t → every (suc i) test ≡ (b && t)
    go true e true t = rw (first_more fails i (eqb-true (first_of i fails) i e), t) (eq-eqb (suc i) (suc i) refl)
    go true e false t = rw (first_more fails i (eqb-true (first_of i fails) i e), t) (ne_eqb i (suc i) (λ q. omega arith))
    go false e t f =
        let l : first_of i fails < i = omega (arith, first_le fails i, eqb-false (first_of i fails) i e) in
        rw (first_stays fails i l) (ne_eqb (first_of i fails) (suc i) (λ q. omega arith))

-- a test that a pair more does not pass
held_back : (e a q : Bool) → (not e || (not a && q)) ≡ not (e && (not q || a))
held_back true true true = refl
held_back true true false = refl
held_back true false true = refl
held_back true false false = refl
held_back false a q = refl

-- the lanes that the first i pairs hold back
abbrev pub Waits : Pairs → ℕ → ℕ → ℕ → Type 0
Waits pairs cut i set = (list : List ℕ) → SetOf list cut → (l : ℕ) → held set l ≡ not (every i (passes pairs list l))

pub waits_none : (pairs : Pairs) (cut : ℕ) → Waits pairs cut 0 0
unfolding first_of
waits_none pairs cut list s l = held_none l

pub waits_more : (pairs : Pairs) (cut i set next : ℕ) → Waits pairs cut i set → before_of pairs i < 64
    → ((l : ℕ) → held next l ≡ (held set l || (not (held cut (before_of pairs i)) && eqb (after_of pairs i) l)))
    → Waits pairs cut (i + 1) next
waits_more pairs cut i set next w h e list s l =
    e l
    ∙ ap₂ (λ (x y : Bool). x || (not y && eqb (after_of pairs i) l)) (w list s l) (s (before_of pairs i) h)
    ∙ held_back (every i (passes pairs list l)) (among list (before_of pairs i)) (eqb (after_of pairs i) l)
    ∙ ap not (sym (every_more (passes pairs list l) i))

-- the lanes that are neither cut nor held back are ready
neither : (a e : Bool) → not (a || not e) ≡ (not a && e)
neither true e = refl
neither false true = refl
neither false false = refl

pub lowest_ready : (lanes : ℕ) (pairs : Pairs) (cut set joined : ℕ) → lanes ≤ 64 → Waits pairs cut (length pairs) set
    → ((l : ℕ) → held joined l ≡ (held cut l || held set l)) → (list : List ℕ) → SetOf list cut
    → first_of lanes (λ l. not (held joined l)) ≡ next_of lanes pairs list
lowest_ready lanes pairs cut set joined b w e list s =
    first_same (λ l. not (held joined l)) (ready pairs list) lanes
    (λ l h. ap not (e l ∙ ap₂ ◌||◌ (s l (omega arith)) (w list s l)) ∙ neither (among list l)
    (every (length pairs) (passes pairs list l)))

-- a lane more is cut
pub set_more : (list : List ℕ) (cut next lane : ℕ) → SetOf list cut → ((l : ℕ) → held next l ≡ (held cut l || eqb lane l))
    → SetOf (list ++ (lane ∷ [])) next
set_more list cut next lane s e l h = e l ∙ ap (λ (b : Bool). b || eqb lane l) (s l h) ∙ sym (among_more list lane l)

-- no lane is cut
pub set_none : SetOf [] 0
unfolding among
set_none l h = held_none l

module _ (lanes : ℕ) (pairs : Pairs) where
  -- after some places: the lanes that are cut, the set of them, and that the places left give the whole order
  pub record Course (list : List ℕ) (cut place : ℕ) : Type 0 where
    pub set : SetOf list cut
    pub long : length list ≡ place
    pub within : place ≤ lanes
    pub rest : order_from (lanes - place) lanes pairs list ≡ order_of lanes pairs

  pub course_none : Course [] 0 0
  course_none =
      let e : lanes - 0 ≡ lanes = omega arith in
      record { set = set_none; long = refl; within = omega arith; rest = ap (λ (n : ℕ). order_from n lanes pairs []) e }

  turn_more : (place lane : ℕ) (list : List ℕ) → place < lanes → lane ≡ next_of lanes pairs list → lane < lanes
      → order_from (lanes - place) lanes pairs list ≡ order_from (lanes - (place + 1)) lanes pairs (list ++ (lane ∷ []))
  unfolding order_from
  turn_more place lane list l e h =
      let n : lanes - place ≡ suc (lanes - (place + 1)) = omega arith in rw (n, ← e, lt-ltb lane lanes h)

  turn_none : (place lane : ℕ) (list : List ℕ) → place < lanes → lane ≡ next_of lanes pairs list → lanes ≤ lane
      → is_ring (order_from (lanes - place) lanes pairs list) ≡ true
  unfolding order_from
  turn_none place lane list l e h =
      let n : lanes - place ≡ suc (lanes - (place + 1)) = omega arith in rw (n, ← e, le-ltb lane lanes h)

  module _ (list : List ℕ) (cut place lane : ℕ) (c : Course list cut place) (left : place < lanes)
      (lowest : lane ≡ next_of lanes pairs list) where
    -- a place more
    pub course_more : (next : ℕ) → lane < lanes → ((l : ℕ) → held next l ≡ (held cut l || eqb lane l))
        → Course (list ++ (lane ∷ [])) next (place + 1)
    course_more next h e =
        record {
          set = set_more list cut next lane c.set e;
          long = length-append list (lane ∷ []) ∙ ap (λ (n : ℕ). n + 1) c.long;
          within = omega arith;
          rest = sym (turn_more place lane list left lowest h) ∙ c.rest;
        }

    -- no lane is ready for the place
    pub course_ring : lanes ≤ lane → is_ring (order_of lanes pairs) ≡ true
    course_ring h = ap is_ring (sym c.rest) ∙ turn_none place lane list left lowest h

    -- where there is an order, a lane is ready
    pub course_lane : is_ring (order_of lanes pairs) ≡ false → lane < lanes
    course_lane f = elim (dec_lt lane lanes) [
      | yes h ↦ h
      | no h ↦ clash (course_ring (omega arith)) f
    ]

  -- all places have a lane
  pub course_done : (list : List ℕ) (cut place : ℕ) → Course list cut place → lanes ≤ place → order_of lanes pairs ≡ some list
  unfolding order_from
  course_done list cut place c h =
      let e : lanes - place ≡ 0 = omega arith in
      sym c.rest ∙ ap (λ (n : ℕ). order_from n lanes pairs list) e
