-- Groups at a place of some bytes, in the words of the code.
use mathlib.Core.Path.{◌≡◌, refl, sym, ap, ◌∙◌}
use mathlib.Core.Bool.{Bool, true, false, cond}
use mathlib.Core.List.{List, [], ◌∷◌}
use Prim.Native.Nat.{ℕ, zero, suc, ◌+◌, ◌*◌, ◌-◌, ◌≤◌, ◌<◌}
use native.Mathlib.Omega.{arith}
use native.Mathlib.Numerals.{add-one}
use lib.Dec.{ltb, leb, eqb}
use lib.ListN.{length, drop, get_or, length-drop, drop_of_length-le}
use lib.Seq.{drop-cons, drop-drop, drop-length}
use borrow.Author.Tests.{lt-ltb, le-ltb, eq-eqb, leb-true, leb-false}
use Rattle.std.specs.Prelude.{None}
use Rattle.std.proofs.lemmas.Option.{same_Some}
use Rattle.forms.specs.declared.Number.{Number}
use Rattle.forms.specs.Read.{Read, got, bad, after}
use Rattle.forms.specs.Groups.{read_groups, number_to, found, number_at}
use Rattle.forms.proofs.OneSpelling.{above, above_is}
use Rattle.forms.proofs.Exact.{not_got, Stepped, stepped, step}

module _ (l : List ℕ) (at : ℕ) where
  -- nothing is left
  pub ended : (k : ℕ) → length l ≤ at → read_groups k (drop at l) ≡ bad
  unfolding read_groups
  ended zero h = refl
  ended (suc k) h = rw (drop_of_length-le l h)

  front : at < length l → drop at l ≡ get_or l at 0 ∷ drop (at + 1) l
  front h = rw (add-one, drop-cons l at 0 h)

  -- a last group
  pub last : (k : ℕ) → at < length l → get_or l at 0 < 128 → read_groups (suc k) (drop at l) ≡ got (get_or l at 0) (drop (at + 1) l)
  unfolding read_groups
  last k h g = ap (read_groups (suc k)) (front h) ∙ rw (lt-ltb (get_or l at 0) 128 g)

  -- a group before others
  pub more : (k : ℕ) → at < length l → 128 ≤ get_or l at 0 → read_groups (suc k) (drop at l) ≡ after (read_groups k (drop (at + 1) l)) (above
      (get_or l at 0))
  unfolding read_groups
  more k h g = ap (read_groups (suc k)) (front h) ∙ rw (le-ltb (get_or l at 0) 128 g)

  -- where it stands
  pub placed : (v : ℕ) → at ≤ length l → found (length l) (got v (drop at l)) ≡ number_to v at
  placed v h = ap (number_to v) (rw (length-drop at l) (omega arith))

above_zero : (b : ℕ) (rest : List ℕ) (h : ℕ) → h ≡ 0 → above b h rest ≡ bad
above_zero b rest h e = rw (eq-eqb h 0 e)

module _ (l : List ℕ) (at : ℕ) where
  abbrev a : ℕ
  a = get_or l at 0

  abbrev b : ℕ
  b = get_or l (at + 1) 0

  abbrev d : ℕ
  d = get_or l (at + 1 + 1) 0

  -- the answers of the code, in its order
  pub answer1 : length l ≤ at → None ≡ number_at l at
  answer1 h = ap (found (length l)) (sym (ended l at 3 h))

  pub answer2 : at < length l → a < 128 → number_to a (at + 1) ≡ number_at l at
  answer2 h g = sym (placed l (at + 1) a (omega arith)) ∙ ap (found (length l)) (sym (last l at 2 h g))

  two : at < length l → 128 ≤ a → (r : Read ℕ) → read_groups 2 (drop (at + 1) l) ≡ r → found (length l) (after r (above a)) ≡ number_at l at
  two h g r e = ap (found (length l)) (ap (λ (r : Read ℕ). after r (above a)) (sym e) ∙ sym (more l at 2 h g))

  pub answer3 : at < length l → 128 ≤ a → length l ≤ at + 1 → None ≡ number_at l at
  answer3 h g f = two h g bad (ended l (at + 1) 2 f)

  pub answer4 : at + 1 < length l → 128 ≤ a → b < 128 → b ≡ 0 → None ≡ number_at l at
  answer4 h g f z = ap (found (length l)) (sym (above_zero a (drop (at + 1 + 1) l) b z)) ∙ two (omega arith) g _ (last l (at + 1) 1 h f)

  pub answer5 : at + 1 < length l → 128 ≤ a → b < 128 → 1 ≤ b → number_to (a - 128 + 128 * b) (at + 1 + 1) ≡ number_at l at
  answer5 h g f z =
      sym (placed l (at + 1 + 1) (a - 128 + 128 * b) (omega arith)) ∙ ap (found (length l)) (sym (above_is a b (drop (at + 1 + 1) l) z))
      ∙ two (omega arith) g _ (last l (at + 1) 1 h f)

  three : at + 1 < length l → 128 ≤ a → 128 ≤ b → (r : Read ℕ) → read_groups 1 (drop (at + 1 + 1) l) ≡ r
      → found (length l) (after (after r (above b)) (above a)) ≡ number_at l at
  three h g f r e = two (omega arith) g (after r (above b)) (more l (at + 1) 1 h f ∙ ap (λ (r : Read ℕ). after r (above b)) e)

  pub answer6 : at + 1 < length l → 128 ≤ a → 128 ≤ b → length l ≤ at + 1 + 1 → None ≡ number_at l at
  answer6 h g f e = three h g f bad (ended l (at + 1 + 1) 1 e)

  pub answer7 : at + 1 + 1 < length l → 128 ≤ a → 128 ≤ b → d < 128 → d ≡ 0 → None ≡ number_at l at
  answer7 h g f e z =
      ap (λ (r : Read ℕ). found (length l) (after r (above a))) (sym (above_zero b (drop (at + 1 + 1 + 1) l) d z))
      ∙ three (omega arith) g f (got d (drop (at + 1 + 1 + 1) l)) (last l (at + 1 + 1) 0 h e)

  pub answer8 : at + 1 + 1 < length l → 128 ≤ a → 128 ≤ b → d < 128 → 1 ≤ d → number_to (a - 128 + 128 * (b - 128 + 128 * d)) (at + 1 + 1 + 1)
      ≡ number_at l at
  answer8 h g f e z =
      let rest = drop (at + 1 + 1 + 1) l in
      sym (placed l (at + 1 + 1 + 1) (a - 128 + 128 * (b - 128 + 128 * d)) (omega arith))
      ∙ ap (found (length l)) (sym (above_is a (b - 128 + 128 * d) rest (omega arith)))
      ∙ ap (λ (r : Read ℕ). found (length l) (after r (above a))) (sym (above_is b d rest z))
      ∙ three (omega arith) g f (got d rest) (last l (at + 1 + 1) 0 h e)

  pub answer9 : at + 1 + 1 < length l → 128 ≤ a → 128 ≤ b → 128 ≤ d → None ≡ number_at l at
  unfolding read_groups
  answer9 h g f e = three (omega arith) g f bad (more l (at + 1 + 1) 0 h e)

-- ---- what the answers say of the definition
-- what is left of a list is what lies from some place on; its length tells which
from_length : (i : ℕ) (l : List ℕ) → drop (length l - length (drop i l)) l ≡ drop i l
from_length i l = go (leb (length l) i) refl
  where
    go : (b : Bool) → leb (length l) i ≡ b → drop (length l - length (drop i l)) l ≡ drop i l
    go true e =
        let h = leb-true (length l) i e in
        let n : length l - 0 ≡ length l = omega arith in
        rw (drop_of_length-le l h, n) (drop-length l)
    go false e =
        let h = leb-false (length l) i e in
        let n : length l - (length l - i) ≡ i = omega arith in
        rw (length-drop i l, n)

-- what follows the groups is a part of the bytes
groups_end : (k : ℕ) (m : List ℕ) (v : ℕ) (rest : List ℕ) → read_groups k m ≡ got v rest → (j : ℕ) × (rest ≡ drop j m)
unfolding read_groups
groups_end zero m v rest e = absurd (not_got e)
groups_end (suc k) [] v rest e = absurd (not_got e)
groups_end (suc k) (b ∷ m) v rest e = go (ltb b 128) e (λ h r f. groups_end k m h r f)
  where
    high : (t : Bool) (h w : ℕ) (r s : List ℕ) → cond t bad (got h r) ≡ got w s → s ≡ r
    high true h w r s f = absurd (not_got f)
    high false h w r s f = cc

    more_groups : Stepped (read_groups k m) (above b) v rest
        → ((h : ℕ) (r : List ℕ) → read_groups k m ≡ got h r → (j : ℕ) × (r ≡ drop j m)) → (j : ℕ) × (rest ≡ drop j (b ∷ m))
    more_groups (stepped h r e f) ih =
        let i = ih h r e in
        (suc i.0, high (eqb h 0) (b - 128 + 128 * h) v r rest f ∙ i.1)

    go : (t : Bool) → cond t (got b m) (after (read_groups k m) (above b)) ≡ got v rest
        → ((h : ℕ) (r : List ℕ) → read_groups k m ≡ got h r → (j : ℕ) × (r ≡ drop j m)) → (j : ℕ) × (rest ≡ drop j (b ∷ m))
    go true f ih = (1, cc)
    go false f ih = more_groups (step (read_groups k m) (above b) v rest f) ih

module _ (l : List ℕ) (at : ℕ) where
  pub number_read : (v next : ℕ) → number_to v next ≡ number_at l at
      → (read_groups 3 (drop at l) ≡ got v (drop next l)) × (next ≤ length l)
  number_read v next e = go (read_groups 3 (drop at l)) refl e
    where
      go : (o : Read ℕ) → read_groups 3 (drop at l) ≡ o → number_to v next ≡ found (length l) o → (o ≡ got v (drop next l)) × (next ≤ length l)
      go bad r f = absurd (let z : ◌≡◌ {A = ℕ} 0 1 = cc in omega arith)
      go (got w rest) r f =
          let same = same_Some _ _ f in
          let x : w ≡ v = sym (ap (λ (n : Number). n.value) same) in
          let y : length l - length rest ≡ next = sym (ap (λ (n : Number). n.next) same) in
          let j = groups_end 3 (drop at l) w rest r in
          let i : rest ≡ drop (at + j.0) l = j.1 ∙ drop-drop j.0 at l in
          let n : drop next l ≡ rest = rw (← y, i) (from_length (at + j.0) l) in
          (rw (x, n), omega arith)

  pub number_bad : None ≡ number_at l at → read_groups 3 (drop at l) ≡ bad
  number_bad e = go (read_groups 3 (drop at l)) e
    where
      go : (o : Read ℕ) → None ≡ found (length l) o → o ≡ bad
      go bad f = refl
      go (got w rest) f = absurd (let z : ◌≡◌ {A = ℕ} 0 1 = cc in omega arith)
