-- The triangular recurrence of the code is the book's: after level p, entry r is N_{span-p+r,p}(x) of the given span.
use mathlib.Core.Path.{◌≡◌, refl, sym, ap, ◌∙◌}
use mathlib.Core.List.{List, [], ◌∷◌}
use Prim.Native.Nat.{ℕ, zero, suc, ◌+◌, ◌-◌, ◌≤◌, ◌<◌}
use native.Mathlib.Omega.{arith}
use native.Mathlib.Nat.{ne_of_lt, ne_of_gt}
use lib.IntN.{pos}
use lib.ListN.{length, get_or, set, replicate, length-set}
use lib.Seq.{get_or-set_same, get_or-set_other}
use borrow.Author.Count.{below_more}
use Rattle.arith.specs.Loop.{each, turns}
use Rattle.bspline.proofs.Lengths.{inner_length}
use Rattle.bspline.specs.Values.{inner_turn, inner_loop, outer_turn, values_of, Inner, Outer}
use Rattle.fraction.specs.Rational.{ℚ, ◌+q◌, ◌*q◌, inverse, 𝟘, 𝟙, ◌-q◌, ◌/q◌}
use Rattle.fraction.specs.RationalRing.{rational_ring}
use Rattle.fraction.specs.Ring.{con, ◌⊕◌, ◌⊖◌, ◌⊗◌, solve, v0, v1, v2}
use Rattle.book.specs.Basis.{knot, basis, on_span}
use Rattle.book.specs.Fractions.{fractions}
use Rattle.arith.proofs.Loops.{each_runs}
use Rattle.book.proofs.Recurrence.{rising, falling, basis_step, on_here, before_support, after_support}

-- the code divides by right + left, b - x and x - a: that is b - a
share : (x a b n w : ℚ) → w *q (n /q (b -q x +q (x -q a))) ≡ w /q (b -q a) *q n
share x a b n w =
    let e : b -q x +q (x -q a) ≡ b -q a = solve rational_ring (x ∷ a ∷ b ∷ []) (v2 ⊖ v0 ⊕ (v0 ⊖ v1)) (v2 ⊖ v1) tt in
    ap (λ (z : ℚ). w *q (n /q z)) e ∙ solve rational_ring (w ∷ n ∷ inverse (b -q a) ∷ []) (v0 ⊗ (v1 ⊗ v2)) (v0 ⊗ v2 ⊗ v1) tt

module _ (t : List ℚ) (span : ℕ) (x : ℚ) (five : 5 ≤ span) where
  abbrev T : ℕ → ℚ
  T i = knot t i

  abbrev first : ℕ → ℚ
  first = on_span span

  abbrev N : ℕ → ℕ → ℚ
  N p i = basis T first x p i

  -- after level p: the entries 0 to p, and the distances to the knots on either side
  pub record Level (p : ℕ) (s : Outer ℚ) : Type 0 where
    pub row_length : length s.row ≡ 6
    pub left_length : length s.left ≡ 6
    pub right_length : length s.right ≡ 6
    pub entry : (i m : ℕ) → i ≤ p → m + p ≡ span + i → get_or s.row i 𝟘 ≡ N p m
    pub left : (i m : ℕ) → 1 ≤ i → i ≤ p → m + i ≡ span + 1 → get_or s.left i 𝟘 ≡ x -q T m
    pub right : (i : ℕ) → 1 ≤ i → i ≤ p → get_or s.right i 𝟘 ≡ T (span + i) -q x

  -- within level p + 1, before turn r
  record Turn (p r : ℕ) (k : Inner ℚ) : Type 0 where
    row_length : length k.row ≡ 6
    done : (i m : ℕ) → i < r → m + suc p ≡ span + i → get_or k.row i 𝟘 ≡ N (suc p) m
    todo : (i m : ℕ) → r ≤ i → i ≤ p → m + p ≡ span + i → get_or k.row i 𝟘 ≡ N p m
    saved : (m : ℕ) → m + suc p ≡ span + r → k.saved ≡ rising T first x p m

  module _ (p : ℕ) (p5 : p < 5) (l r : List ℚ) (onl : (i m : ℕ) → 1 ≤ i → i ≤ suc p → m + i ≡ span + 1 → get_or l i 𝟘 ≡ x -q T m)
      (onr : (i : ℕ) → 1 ≤ i → i ≤ suc p → get_or r i 𝟘 ≡ T (span + i) -q x) where
    -- a turn makes entry i, and what the next entry gets from it
    turn_keeps : (i : ℕ) (k : Inner ℚ) → i < suc p → Turn p i k → Turn p (i + 1) (inner_turn fractions l r (suc p) i k)
    unfolding inner_turn
    turn_keeps i k h q =
        let m = span + i - p in
        let m' = span + i - suc p in
        let el : get_or l (suc p - i) 𝟘 ≡ x -q T m = onl (suc p - i) m (omega arith) (omega arith) (omega arith) in
        let er : get_or r (i + 1) 𝟘 ≡ T (m + suc p) -q x = onr (i + 1) (omega arith) (omega arith) ∙ ap (λ (z : ℕ). T z -q x) (omega arith) in
        let eb : get_or k.row i 𝟘 ≡ N p m = q.todo i m (omega arith) (omega arith) (omega arith) in
        let es : k.saved ≡ rising T first x p m' = q.saved m' (omega arith) in
        let up : m' + 1 ≡ m = omega arith in
        let within : i < length k.row = rw q.row_length (omega arith) in
        let v : ℚ = k.saved +q get_or r (i + 1) 𝟘 *q (get_or k.row i 𝟘 /q (get_or r (i + 1) 𝟘 +q get_or l (suc p - i) 𝟘)) in
        let new : v ≡ N (suc p) m' =
        rw (er, el, eb, es) (ap (λ (z : ℚ). rising T first x p m' +q z) (share x (T m) (T (m + suc p)) (N p m) (T (m + suc p) -q x) ∙ ap
        (falling T first x p) (sym up)) ∙ sym (basis_step T first x p m')) in
        record {
          row_length = length-set k.row i _ ∙ q.row_length;
          done = λ j n g e. below_more (λ (j : ℕ). (n : ℕ) → n + suc p ≡ span + j → get_or (set k.row i v) j 𝟘 ≡ N (suc p) n) i
              (λ j g n e. get_or-set_other k.row i j _ 𝟘 (ne_of_lt g) ∙ q.done j n g e)
              (λ n e. get_or-set_same k.row i _ 𝟘 within ∙ new ∙ ap (N (suc p)) (omega arith)) j g n e;
          todo = λ j n g l e. get_or-set_other k.row i j _ 𝟘 (ne_of_gt (omega arith)) ∙ q.todo j n (omega arith) l e;
          saved = λ n e. rw (er, el, eb) (share x (T m) (T (m + suc p)) (N p m) (x -q T m) ∙ ap (rising T first x p) (omega arith));
        }

    -- all turns of a level
    row_is : (b : List ℚ) → length b ≡ 6 → ((i m : ℕ) → i ≤ p → m + p ≡ span + i → get_or b i 𝟘 ≡ N p m)
        → (i m : ℕ) → i ≤ suc p → m + suc p ≡ span + i → get_or (inner_loop fractions l r (suc p) b) i 𝟘 ≡ N (suc p) m
    unfolding inner_loop
    row_is b row_length entry i m h e =
        let none : (n : ℕ) → n + suc p ≡ span → N p n ≡ 𝟘 = λ n g. after_support T span x p n (omega arith) in
        let over : N p (span + 1) ≡ 𝟘 = before_support T span x p (span + 1) (omega arith) in
        let k = each (inner_turn fractions l r (suc p)) 0 (suc p) (record { row = b; saved = 𝟘 }) in
        let q : Turn p (suc p) k =
        each_runs (Turn p) (inner_turn fractions l r (suc p)) 0 (suc p) (record { row = b; saved = 𝟘 }) (omega arith)
        (λ j s a z y. turn_keeps j s z y)
        (record {
          row_length = row_length;
          done = λ j n a y. absurd (omega arith);
          todo = λ j n a z y. entry j n z y;
          saved = λ n y. sym (rw (none n (omega arith)) (solve rational_ring (((x -q T n) /q (T (n + suc p) -q T n)) ∷ []) (v0 ⊗ con (pos 0))
              (con (pos 0)) tt));
        }) in
        let within : suc p < length k.row = rw q.row_length (omega arith) in
        let last : (n : ℕ) → n + suc p ≡ span + suc p → k.saved ≡ N (suc p) n =
        λ n y. let z : n + 1 ≡ span + 1 = omega arith in
        q.saved n y ∙ sym (basis_step T first x p n ∙ rw (z, over)
        (solve rational_ring (rising T first x p n ∷ ((T (span + 1 + suc p) -q x) /q (T (span + 1 + suc p) -q T (span + 1))) ∷ [])
        (v0 ⊕ v1 ⊗ con (pos 0)) v0 tt)) in
        below_more (λ (j : ℕ). (n : ℕ) → n + suc p ≡ span + j → get_or (set k.row (suc p) k.saved) j 𝟘 ≡ N (suc p) n) (suc p)
        (λ j g n y. get_or-set_other k.row (suc p) j k.saved 𝟘 (ne_of_lt g) ∙ q.done j n g y)
        (λ n y. get_or-set_same k.row (suc p) k.saved 𝟘 within ∙ last n y) i (omega arith) m e

  -- a level from the one before it
  pub step_is : (p : ℕ) (s : Outer ℚ) → p < 5 → Level p s → Level (suc p) (outer_turn fractions t span x (suc p) s)
  unfolding outer_turn
  step_is p s h q =
      let vl : ℚ = x -q knot t (span + 1 - suc p) in
      let vr : ℚ = knot t (span + suc p) -q x in
      let l = set s.left (suc p) vl in
      let r = set s.right (suc p) vr in
      let wl : suc p < length s.left = rw q.left_length (omega arith) in
      let wr : suc p < length s.right = rw q.right_length (omega arith) in
      let onl : (i m : ℕ) → 1 ≤ i → i ≤ suc p → m + i ≡ span + 1 → get_or l i 𝟘 ≡ x -q T m =
      λ i m a b e. below_more (λ (i : ℕ). (m : ℕ) → 1 ≤ i → m + i ≡ span + 1 → get_or l i 𝟘 ≡ x -q T m) (suc p)
      (λ i g m a e. get_or-set_other s.left (suc p) i vl 𝟘 (ne_of_lt g) ∙ q.left i m a (omega arith) e)
      (λ m a e. get_or-set_same s.left (suc p) vl 𝟘 wl ∙ ap (λ (z : ℕ). x -q T z) (omega arith)) i (omega arith) m a e in
      let onr : (i : ℕ) → 1 ≤ i → i ≤ suc p → get_or r i 𝟘 ≡ T (span + i) -q x =
      λ i a b. below_more (λ (i : ℕ). 1 ≤ i → get_or r i 𝟘 ≡ T (span + i) -q x) (suc p)
      (λ i g a. get_or-set_other s.right (suc p) i vr 𝟘 (ne_of_lt g) ∙ q.right i a (omega arith))
      (λ a. get_or-set_same s.right (suc p) vr 𝟘 wr) i (omega arith) a in
      record {
        row_length = inner_length fractions l r (suc p) s.row ∙ q.row_length;
        left_length = simp length-set q.left_length;
        right_length = simp length-set q.right_length;
        entry = row_is p h l r onl onr s.row q.row_length q.entry;
        left = onl;
        right = onr;
      }

  -- level 0: 1 on the span
  pub start : Level 0 (record { row = set (replicate 6 𝟘) 0 𝟙; left = replicate 6 𝟘; right = replicate 6 𝟘 })
  unfolding basis
  start =
      record {
        row_length = refl;
        left_length = refl;
        right_length = refl;
        entry = λ i m a e. first_is i m a e;
        left = λ i m a b e. absurd (omega arith);
        right = λ i a b. absurd (omega arith);
      }
    where
      first_is : (i m : ℕ) → i ≤ 0 → m + 0 ≡ span + i → get_or (set (replicate 6 𝟘) 0 𝟙) i 𝟘 ≡ basis (knot t) (on_span span) x 0 m
      first_is zero m a e = sym (ap (on_span span) (omega arith) ∙ on_here span)
      first_is (suc i) m a e = absurd (omega arith)

  -- the row-length entries after level 5
  pub entries_are : (r : ℕ) → r < 6 → get_or (values_of fractions t span x) r 𝟘 ≡ basis (knot t) (on_span span) x 5 (span - 5 + r)
  unfolding values_of each turns
  entries_are r h =
      (step_is 4 _ (omega arith) (step_is 3 _ (omega arith) (step_is 2 _ (omega arith)
      (step_is 1 _ (omega arith) (step_is 0 _ (omega arith) start))))).entry r (span - 5 + r) (omega arith) (omega arith)
