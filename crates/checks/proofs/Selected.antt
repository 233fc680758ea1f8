-- The axes that a request chooses: how many, each of them, those left over, and when they and the tolerances are refused.
use mathlib.Core.Path.{◌≡◌, refl, sym, ap, ◌∙◌}
use Rattle.std.specs.List.{list_any}
use mathlib.Core.Bool.{Bool, true, false, not, cond, ◌||◌}
use mathlib.Core.List.{List, [], ◌∷◌, ◌++◌, append-nil}
use Prim.Native.Nat.{ℕ, zero, suc, ◌+◌, ◌-◌, ◌≤◌, ◌<◌}
use native.Mathlib.Omega.{arith}
use native.Mathlib.Decide.{dec_lt}
use native.Mathlib.Numerals.{add-one}
use borrow.Author.Tests.{eq-eqb, lt-ltb, le-ltb}
use lib.Dec.{eqb, ltb}
use lib.ListN.{length, get_or, take, drop, replicate, length-append, length-drop, length-replicate, get_or-replicate, get_or-append, get_or-eq_default}
use lib.Seq.{length-take-le, get_or-take, get_or-drop, get_or-append-add, ext_get_or}
use lib.Ieee.{Float, nan}
use Rattle.window.specs.Cells.{at}
use Rattle.window.specs.Rows.{join, list_of}
use Rattle.window.proofs.Joined.{list_length, list_at}
use Rattle.request.specs.Any.{any}
use Rattle.request.proofs.Anys.{any_found}
use Rattle.arith.specs.First.{first_of}
use Rattle.curve.specs.Places.{position_of, padded}
use Rattle.curve.proofs.Padded.{padded_length, padded_at}
use Rattle.curve.specs.Form.{axes_formed}
use Rattle.curve.proofs.Formed.{axes_good}
use Rattle.curve.proofs.Placing.{others_count}
use Rattle.smoothing.specs.Request.{Lane, axis_count, up_to, tolerances_of}
use Rattle.smoothing.specs.Request.Tolerance.{uniform, per_axis}
use Rattle.smoothing.specs.Rows.{left_over}
use Rattle.smoothing.specs.Checks.{bad_tolerance}
use Rattle.checks.specs.Checks.{bad_cell}

-- ---- how many, and each of them
up_to_is : (n : ℕ) → up_to n ≡ list_of n (λ i. i)
unfolding up_to join
up_to_is zero = refl
up_to_is (suc n) = rw (up_to_is n)

pub all_count : (d : ℕ) → length (up_to d) ≡ d
all_count d = rw (up_to_is d) (list_length d (λ i. i))

pub all_at : (d i : ℕ) → i < d → get_or (up_to d) i 0 ≡ i
all_at d i h = rw (up_to_is d) (list_at d (λ i. i) 0 i h)

-- those of a list, as they stand in sixteen cells that were 0
pub padded_list : (l z : List ℕ) → z ≡ replicate 16 0 → length l ≤ 16 → l ++ drop (length l) z ≡ padded l
padded_list l z e h =
    let n = length-append l (drop (length l) z) in
    let k = length-drop (length l) z in
    let m : length z ≡ 16 = ap length e ∙ length-replicate {A = ℕ} 16 0 in
    ext_get_or 0 (l ++ drop (length l) z) (padded l) (omega (arith, padded_length l)) (λ i j.
    elim (dec_lt i (length l)) [
      | yes g ↦ get_or-append l (drop (length l) z) 0 i g ∙ sym (padded_at l i (omega arith))
      | no g ↦
          let p : i ≡ length l + (i - length l) = omega arith in
          let q : get_or z i 0 ≡ 0 = ap (λ (t : List ℕ). get_or t i 0) e ∙ get_or-replicate {A = ℕ} 16 i 0 0 (omega arith) in
          ap (λ (t : ℕ). get_or (l ++ drop (length l) z) t 0) p ∙ get_or-append-add l (drop (length l) z) (i - length l) 0
          ∙ get_or-drop (length l) z (i - length l) 0 ∙ ap (λ (t : ℕ). get_or z t 0) (sym p) ∙ q
          ∙ sym (padded_at l i (omega arith) ∙ get_or-eq_default l 0 (omega arith))
    ])

-- ---- when axes are refused
first_same : (n : ℕ) (f g : ℕ → Bool) → ((i : ℕ) → i < n → f i ≡ g i) → first_of n f ≡ first_of n g
unfolding first_of
first_same zero f g h = refl
first_same (suc n) f g h = rw (first_same n f g (λ i l. h i (omega arith)), h n (omega arith))

pub position_same : (a b : List ℕ) (n x : ℕ) → ((i : ℕ) → i < n → get_or a i 0 ≡ get_or b i 0) → position_of a n x ≡ position_of b n x
position_same a b n x h = first_same n (λ i. eqb (get_or a i 0) x) (λ i. eqb (get_or b i 0) x) (λ i l. rw (h i l))

-- the first k of the list tell
pub formed_same : (a b : List ℕ) (k d : ℕ) → ((i : ℕ) → i < k → get_or a i 0 ≡ get_or b i 0) → axes_formed a k d ≡ axes_formed b k d
unfolding axes_formed
formed_same a b k d h =
    ap (λ (m : ℕ). eqb m k) (first_same k _ _ (λ i l. rw (h i l, position_same a b i (get_or b i 0) (λ j m. h j (omega arith)))))

-- more than d axes can't be distinct and below d
pub too_many : (axes : List ℕ) (k d : ℕ) → d < k → axes_formed axes k d ≡ false
too_many axes k d h = go (axes_formed axes k d) refl
  where
    go : (b : Bool) → axes_formed axes k d ≡ b → axes_formed axes k d ≡ false
    go true e = absurd (omega (arith, others_count axes k d (axes_good axes k d e)))
    go false e = e

-- ---- the axes left over
module _ (axes : List ℕ) (k a : ℕ) (h : k ≤ length axes) where
  left_next : left_over (take k axes) (a + 1) ≡ left_over (take k axes) a ++ cond (ltb (position_of axes k a) k) [] (a ∷ [])
  unfolding left_over
  left_next = rw (add-one, length-take-le k axes h, position_same (take k axes) axes k a (λ i l. get_or-take k axes i 0 l))

  -- an axis that is listed is not among them
  pub left_listed : position_of axes k a < k → left_over (take k axes) (a + 1) ≡ left_over (take k axes) a
  left_listed l = left_next ∙ rw (lt-ltb (position_of axes k a) k l) (append-nil (left_over (take k axes) a))

  -- one that is not, is
  pub left_other : k ≤ position_of axes k a → left_over (take k axes) (a + 1) ≡ left_over (take k axes) a ++ (a ∷ [])
  left_other l = left_next ∙ rw (le-ltb (position_of axes k a) k l)

-- each of them is below d
pub left_below : (axes : List ℕ) (d i : ℕ) → i < length (left_over axes d) → get_or (left_over axes d) i 0 < d
unfolding left_over
left_below axes zero i h = absurd (omega arith)
left_below axes (suc a) i h = go (ltb (position_of axes (length axes) a) (length axes)) h (λ g. left_below axes a i g)
  where
    before : List ℕ
    before = left_over axes a

    last : (b : Bool) → i < length (before ++ cond b [] (a ∷ [])) → (i < length before → ⊥)
        → get_or (before ++ cond b [] (a ∷ [])) i 0 < suc a
    last true g l = absurd (omega (arith, length-append before [], l))
    last false g l =
        let n = length-append before (a ∷ []) in
        let e : i ≡ length before + 0 = omega arith in
        let f : get_or (before ++ (a ∷ [])) i 0 ≡ a = ap (λ (j : ℕ). get_or (before ++ (a ∷ [])) j 0) e ∙ get_or-append-add before (a ∷ []) 0 0 in
        omega arith

    go : (b : Bool) → i < length (before ++ cond b [] (a ∷ [])) → (i < length before → get_or before i 0 < a)
        → get_or (before ++ cond b [] (a ∷ [])) i 0 < suc a
    go b g again = elim (dec_lt i (length before)) [
      | yes l ↦ let e = get_or-append before (cond b [] (a ∷ [])) 0 i l in omega (arith, again l, e)
      | no l ↦ last b g l
    ]

-- ---- when tolerances are refused
pub any_false : (n : ℕ) (f : ℕ → Bool) → ((i : ℕ) → i < n → f i ≡ false) → any n f ≡ false
unfolding any
any_false zero f h = refl
any_false (suc n) f h = rw (any_false n f (λ i l. h i (omega arith)), h n (omega arith))

-- the tests below n tell
pub any_agree : (n : ℕ) (f g : ℕ → Bool) → ((i : ℕ) → i < n → f i ≡ g i) → any n f ≡ any n g
unfolding any
any_agree zero f g h = refl
any_agree (suc n) f g h = rw (any_agree n f g (λ i l. h i (omega arith)), h n (omega arith))

any_same : (n : ℕ) (f : ℕ → Bool) (b : Bool) → ((i : ℕ) → i < n → f i ≡ b) → 0 < n → any n f ≡ b
any_same n f true h l = any_found f n 0 l (h 0 l)
any_same n f false h l = any_false n f h

module _ (l : Lane) where
  pub uniform_bad : (x : Float) → l.tolerance ≡ uniform x → 0 < axis_count l → bad_tolerance l ≡ bad_cell x
  unfolding bad_tolerance tolerances_of
  uniform_bad x e h =
      let k = axis_count l in
      rw (e, length-replicate k x, eq-eqb k k refl)
      (any_same k (λ a. bad_cell (at (replicate k x) a)) (bad_cell x) (λ i m. rw (get_or-replicate k i x nan m)) h)

  pub each_bad : (list : List Float) → l.tolerance ≡ per_axis list
      → bad_tolerance l ≡ (not (eqb (length list) (axis_count l)) || any (length list) (λ i. bad_cell (at list i)))
  unfolding bad_tolerance tolerances_of
  each_bad list e = rw e

-- ---- an iterator that tests each cell
any_front : (n : ℕ) (f : ℕ → Bool) → any (suc n) f ≡ (f 0 || any n (λ i. f (suc i)))
unfolding any
any_front zero f = or_false (f 0)
  where
    or_false : (b : Bool) → b ≡ (b || false)
    or_false true = refl
    or_false false = refl
any_front (suc n) f = rw (any_front n f) (or_join (f 0) (any n (λ i. f (suc i))) (f (suc n)))
  where
    or_join : (a b c : Bool) → ((a || b) || c) ≡ (a || (b || c))
    or_join true b c = refl
    or_join false b c = refl

pub listed_any : (test : Float → Bool) (xs : List Float) → list_any test xs ≡ any (length xs) (λ i. test (at xs i))
unfolding any
listed_any test [] = refl
listed_any test (x ∷ xs) = ap (λ (b : Bool). test x || b) (listed_any test xs) ∙ sym (any_front (length xs) (λ i. test (at (x ∷ xs) i)))
