-- Which answer a call gets: by the first check that refuses, or that all are passed.
use mathlib.Core.Path.{◌≡◌, refl, ap, ◌∙◌, subst}
use mathlib.Core.Bool.{Bool, true, false, not, cond, true≢false}
use mathlib.Core.List.{List, [], ◌∷◌}
use Prim.Native.Nat.{ℕ, ◌*◌, ◌≤◌, ◌<◌}
use borrow.Author.Tests.{lt-ltb, le-ltb}
use lib.Dec.{eqb, ltb}
use lib.ListN.{length}
use lib.Ieee.{Float}
use Rattle.std.specs.Prelude.{Option, None, Some, IsSome, is_none, Result, Ok, Err, ⊤}
use Rattle.window.specs.Rows.{join}
use Rattle.curve.specs.declared.Curve.{Curve}
use Rattle.curve.specs.Form.{Slices, well_formed}
use Rattle.query.specs.declared.entry.Refusal.{Refusal}
use Rattle.query.specs.declared.entry.Refusal.TheVariants.{Malformed, OrderAboveThree, TooShort, OutsideAt}
use Rattle.query.specs.Range.{ranged_of, answered_at}
use Rattle.query.specs.Row.{Outputs, filled}
use Rattle.query.specs.Query.{Outcome, outcome, short_of, checked, column_of, columns_of, evaluate_of, first_refused, evaluate_all_of}
use Rattle.query.specs.Query.{number_of, refused_place}
use Rattle.query.proofs.Rooms.{Short}

-- the checks that look at no parameter
module _ (c : Curve) (s : Slices) (order needed : ℕ) (o : Outputs) where
  -- all are passed
  pub record Passed : Type 0 where
    pub formed : well_formed c s ≡ true
    pub order_low : order ≤ 3
    pub long : Short order needed o ≡ false

  module _ (next : Outcome) where
    pub malformed : well_formed c s ≡ false → outcome 24 0 o ≡ checked c s order needed o next
    unfolding checked
    malformed f = rw f

    pub above_three : well_formed c s ≡ true → 3 < order → outcome 23 0 o ≡ checked c s order needed o next
    unfolding checked
    above_three f l = rw (f, lt-ltb 3 order l)

    pub too_short : well_formed c s ≡ true → order ≤ 3 → Short order needed o ≡ true → outcome 19 0 o ≡ checked c s order needed o next
    unfolding checked
    too_short f l h = rw (f, le-ltb 3 order l, h)

    passed : Passed → next ≡ checked c s order needed o next
    unfolding checked
    passed p = rw (p.formed, le-ltb 3 order p.order_low, p.long)

-- one query
module _ (c : Curve) (s : Slices) (x : Float) (order : ℕ) (o : Outputs) (p : Passed c s order c.d o) where
  pub outside : is_none (ranged_of c x) ≡ true → outcome 22 0 o ≡ evaluate_of c s x order o
  unfolding evaluate_of
  outside r = rw r (passed c s order c.d o (outcome 22 0 o) p)

  pub done : (o' : Outputs) → is_none (ranged_of c x) ≡ false → o' ≡ filled order 0 (λ part. columns_of part c s (x ∷ [])) o
      → outcome 0 0 o' ≡ evaluate_of c s x order o
  unfolding evaluate_of join
  done o' r e = rw (r, e) (passed c s order c.d o (outcome 0 0 (filled order 0 (λ part. columns_of part c s (x ∷ [])) o)) p)

-- many
module _ (c : Curve) (s : Slices) (xs : List Float) (order : ℕ) (o : Outputs) (p : Passed c s order (length xs * c.d) o) where
  pub outside_at : first_refused c xs < length xs → outcome 22 (first_refused c xs) o ≡ evaluate_all_of c s xs order o
  unfolding evaluate_all_of
  outside_at l = rw (lt-ltb (first_refused c xs) (length xs) l) (passed c s order (length xs * c.d) o (outcome 22 (first_refused c xs) o) p)

  pub all_done : (o' : Outputs) → length xs ≤ first_refused c xs → o' ≡ filled order 0 (λ part. columns_of part c s xs) o
      → outcome 0 0 o' ≡ evaluate_all_of c s xs order o
  unfolding evaluate_all_of
  all_done o' l e =
      rw (le-ltb (first_refused c xs) (length xs) l, e)
      (passed c s order (length xs * c.d) o (outcome 0 0 (filled order 0 (λ part. columns_of part c s xs) o)) p)

-- what is not none, is some
pub is_some_of : {T : Type 0} (o : Option T) → is_none o ≡ false → IsSome o
is_some_of None h = absurd (true≢false h)
is_some_of (Some x) h = refl

-- document 01's number, with the place, tells the answer: no two answers have the same
abbrev pub answer_of : ℕ → ℕ → Result ⊤ Refusal
answer_of n place =
    cond (eqb n 0) (Ok tt)
    (cond (eqb n 24) (Err Malformed) (cond (eqb n 23) (Err OrderAboveThree) (cond (eqb n 19) (Err TooShort) (Err (OutsideAt place)))))

pub answer_told : (r : Result ⊤ Refusal) → answer_of (number_of r) (refused_place r) ≡ r
answer_told (Ok tt) = refl
answer_told (Err Malformed) = refl
answer_told (Err OrderAboveThree) = refl
answer_told (Err TooShort) = refl
answer_told (Err (OutsideAt place)) = refl

-- of one query no place is told, so that the number alone tells its answer
pub no_place : (c : Curve) (s : Slices) (x : Float) (order : ℕ) (o : Outputs) → (evaluate_of c s x order o).place ≡ 0
unfolding evaluate_of checked
no_place c s x order o =
    go (not (well_formed c s)) (ltb 3 order) (short_of order c.d (length o.q) (length o.dq) (length o.ddq) (length o.dddq))
    (is_none (ranged_of c x)) o (filled order 0 (λ part. column_of part c s (answered_at c x)) o)
  where
    go : (a b d e : Bool) (o y : Outputs)
        → (cond a (outcome 24 0 o) (cond b (outcome 23 0 o) (cond d (outcome 19 0 o) (cond e (outcome 22 0 o) (outcome 0 0 y))))).place ≡ 0
    go true b d e o y = refl
    go false true d e o y = refl
    go false false true e o y = refl
    go false false false true o y = refl
    go false false false false o y = refl

pub single_told : (r : Result ⊤ Refusal) (c : Curve) (s : Slices) (x : Float) (order : ℕ) (o o' : Outputs)
    → outcome (number_of r) (refused_place r) o' ≡ evaluate_of c s x order o → answer_of (number_of r) 0 ≡ r
single_told r c s x order o o' e =
    let p : refused_place r ≡ 0 = ap (λ (z : Outcome). z.place) e ∙ no_place c s x order o in
    subst (λ (place : ℕ). answer_of (number_of r) place ≡ r) p (answer_told r)
