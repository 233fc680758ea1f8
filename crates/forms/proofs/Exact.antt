-- A form is exact where what is written reads back, and what reads was written so: each value has one spelling. Forms put together of
-- exact ones are exact.
use mathlib.Core.Path.{◌≡◌, refl, sym, ap, ◌∙◌, subst}
use mathlib.Core.Bool.{Bool, true, false, cond}
use mathlib.Core.List.{List, [], ◌∷◌, ◌++◌, append_assoc, append-nil}
use Prim.Native.Nat.{ℕ, zero, suc, ◌+◌, ◌*◌, ◌/◌, ◌%◌, ◌^◌, ◌≤◌, ◌<◌}
use native.Mathlib.Omega.{arith}
use native.Mathlib.Nat.{pow-zero, pow-succ'}
use lib.Dec.{ltb}
use lib.ListN.{length, take, drop, get_or, length-append, take-append-drop}
use lib.Seq.{take_at, drop_at}
use borrow.Author.Tests.{le-ltb, ltb-false}
use Rattle.encoding.specs.Bytes.{low_first}
use Rattle.forms.specs.Read.{Read, got, bad, after, Bytes}
use Rattle.forms.specs.Form.{Form, Both, groups, low_bytes, read_bytes, bytes, then, all_good, write_all, read_all, many, through, such_that, no_rest, read_whole}
use Rattle.forms.proofs.OneSpelling.{back, only}

-- the bytes are those of a, before the rest
abbrev pub Spelled : {A : Type 0} → Form A → A → List ℕ → List ℕ → Type 0
Spelled F a l rest = (l ≡ F.write a ++ rest) × F.Good a

pub record Exact {A : Type 0} (F : Form A) : Type 0 where
  pub back : (a : A) (rest : List ℕ) → F.Good a → F.read (F.write a ++ rest) ≡ got a rest
  pub only : (a : A) (l rest : List ℕ) → Bytes l → F.read l ≡ got a rest → Spelled F a l rest

-- ---- readings
pub not_got : {A : Type 0} {a : A} {rest : List ℕ} → bad ≡ got a rest → ⊥
not_got e = let z : ◌≡◌ {A = ℕ} 0 1 = cc in omega arith

-- a reading that another follows: what the first gave, and the second from there
pub data Stepped {A B : Type 0} (o : Read A) (f : A → List ℕ → Read B) (b : B) (rest : List ℕ) : Type 0 where
  stepped : (a : A) (r : List ℕ) → o ≡ got a r → f a r ≡ got b rest → Stepped o f b rest

pub step : {A B : Type 0} (o : Read A) (f : A → List ℕ → Read B) (b : B) (rest : List ℕ) → after o f ≡ got b rest → Stepped o f b rest
step (got a r) f b rest e = stepped a r refl e
step bad f b rest e = absurd (not_got e)

pub bytes_rest : (a l : List ℕ) → Bytes (a ++ l) → Bytes l
bytes_rest [] l B = B
bytes_rest (x ∷ a) l B = bytes_rest a l B.1

-- ---- the two leaves
pub groups_exact : Exact groups
groups_exact = record { back = λ n rest h. back 3 n rest h (omega arith); only = λ n l rest N e. only 3 n l rest N e }

module _ where
  pub length_low : (k n : ℕ) → length (low_bytes k n) ≡ k
  unfolding low_bytes
  length_low zero n = refl
  length_low (suc k) n = ap suc (length_low k (n / 256))

  low_value : (k n : ℕ) → n < 256 ^ k → low_first (low_bytes k n) ≡ n
  unfolding low_bytes low_first
  low_value zero n h = omega (arith, pow-zero 256)
  low_value (suc k) n h = rw (low_value k (n / 256) (omega (arith, pow-succ' 256 k))) (omega arith)

  value_low : (k : ℕ) (l : List ℕ) → Bytes l → k ≤ length l → (take k l ≡ low_bytes k (low_first (take k l)))
      × (low_first (take k l) < 256 ^ k)
  unfolding low_bytes low_first
  value_low zero l B h = (refl, omega (arith, pow-zero 256))
  value_low (suc k) [] B h = absurd (omega arith)
  value_low (suc k) (b ∷ l) B h =
      let i = value_low k l B.1 (omega arith) in
      let v = low_first (take k l) in
      let x : b ≡ (b + 256 * v) % 256 = omega (arith, B.0) in
      let y : v ≡ (b + 256 * v) / 256 = omega (arith, B.0) in
      (rw (← x, ← y) (ap (λ (t : List ℕ). b ∷ t) i.0), omega (arith, pow-succ' 256 k, i.1, B.0))

  pub read_bytes_law : (k : ℕ) (l : List ℕ) → k ≤ length l → read_bytes k l ≡ got (low_first (take k l)) (drop k l)
  unfolding read_bytes
  read_bytes_law k l h = rw (le-ltb (length l) k h)

  pub bytes_exact : (k : ℕ) → Exact (bytes k)
  unfolding read_bytes
  bytes_exact k = record { back = forth; only = λ n l rest N e. sole n l rest N e }
    where
      forth : (n : ℕ) (rest : List ℕ) → n < 256 ^ k → read_bytes k (low_bytes k n ++ rest) ≡ got n rest
      forth n rest h =
          let e = length_low k n in
          read_bytes_law k (low_bytes k n ++ rest) (rw (length-append (low_bytes k n) rest) (omega (arith, e)))
          ∙ rw (take_at (low_bytes k n) rest k e, drop_at (low_bytes k n) rest k e, low_value k n h)

      sole : (n : ℕ) (l rest : List ℕ) → Bytes l → read_bytes k l ≡ got n rest → (l ≡ low_bytes k n ++ rest) × (n < 256 ^ k)
      sole n l rest N e = go (ltb (length l) k) refl e
        where
          go : (b : Bool) → ltb (length l) k ≡ b → cond b bad (got (low_first (take k l)) (drop k l)) ≡ got n rest
              → (l ≡ low_bytes k n ++ rest) × (n < 256 ^ k)
          go true t f = absurd (not_got f)
          go false t f =
              let v : low_first (take k l) ≡ n = cc in
              let u : drop k l ≡ rest = cc in
              let i = value_low k l N (ltb-false (length l) k t) in
              subst (λ (m : ℕ). (l ≡ low_bytes k m ++ rest) × (m < 256 ^ k)) v (
                sym (take-append-drop k l) ∙ ap (λ (t : List ℕ). t ++ drop k l) i.0 ∙ ap
                    (λ (t : List ℕ). low_bytes k (low_first (take k l))
                    ++ t) u,
                i.1,
              )

-- ---- forms put together
abbrev pub pair : {A : Type 0} {B : A → Type 0} (a : A) → B a → List ℕ → Read (Both A B)
pair a b s = got (record { first = a; second = b }) s

pub then_exact : {A : Type 0} {B : A → Type 0} (F : Form A) (G : (a : A) → Form (B a)) → Exact F → ((a : A) → Exact (G a))
    → Exact (then F G)
then_exact {A} {B} F G X Y = record {
  back = λ p rest g.
      let w = (G p.first).write p.second in
      rw (append_assoc (F.write p.first) w rest, X.back p.first (w ++ rest) g.0, (Y p.first).back p.second rest g.1);
  only = λ p l rest N e. first p l rest N (step (F.read l) _ p rest e);
}
  where
    second : (p : Both A B) (l rest r : List ℕ) (a : A) → Spelled F a l r → Bytes r
        → Stepped ((G a).read r) (pair a) p rest → Spelled (then F G) p l rest
    second p l rest r a i N (stepped b s e f) =
        let j = (Y a).only b r s N e in
        let q : ◌≡◌ {A = Both A B} (record { first = a; second = b }) p = cc in
        let u : s ≡ rest = cc in
        subst (λ (p : Both A B). Spelled (then F G) p l rest) q (
          i.0 ∙ ap (λ (z : List ℕ). F.write a ++ z) (j.0 ∙ ap (λ (z : List ℕ). (G a).write b ++ z) u)
              ∙ sym (append_assoc (F.write a) ((G a).write b) rest),
          (i.1, j.1),
        )

    first : (p : Both A B) (l rest : List ℕ) → Bytes l → Stepped (F.read l) (λ a r. after ((G a).read r) (pair a)) p rest
        → Spelled (then F G) p l rest
    first p l rest N (stepped a r e f) =
        let i = X.only a l r N e in
        second p l rest r a i (bytes_rest (F.write a) r (subst Bytes i.0 N)) (step ((G a).read r) (pair a) p rest f)

pub many_exact : {A : Type 0} (F : Form A) → Exact F → (n : ℕ) → Exact (many F n)
many_exact {A} F X n = record { back = forth n; only = λ vs l rest N e. sole n vs l rest N e }
  where
    forth : (n : ℕ) (vs : List A) (rest : List ℕ) → all_good F n vs → read_all F n (write_all F vs ++ rest) ≡ got vs rest
    forth zero [] rest g = refl
    forth zero (a ∷ vs) rest g = absurd g
    forth (suc n) [] rest g = absurd g
    forth (suc n) (a ∷ vs) rest g =
        rw (append_assoc (F.write a) (write_all F vs) rest, X.back a (write_all F vs ++ rest) g.0, forth n vs rest g.1)

    rest_of : (n : ℕ) (vs : List A) (l rest r : List ℕ) (a : A) → Spelled F a l r
        → ((bs : List A) (s : List ℕ) → read_all F n r ≡ got bs s → Spelled (many F n) bs r s)
        → Stepped (read_all F n r) (λ bs s. got (a ∷ bs) s) vs rest → Spelled (many F (suc n)) vs l rest
    rest_of n vs l rest r a i ih (stepped bs s e f) =
        let q : a ∷ bs ≡ vs = cc in
        let u : s ≡ rest = cc in
        let j = ih bs s e in
        subst (λ (vs : List A). Spelled (many F (suc n)) vs l rest) q (
          i.0 ∙ ap (λ (z : List ℕ). F.write a ++ z) (j.0 ∙ ap (λ (z : List ℕ). write_all F bs ++ z) u)
              ∙ sym (append_assoc (F.write a) (write_all F bs) rest),
          (i.1, j.1),
        )

    next : (n : ℕ) (vs : List A) (l rest : List ℕ) → Bytes l
        → ((r : List ℕ) (bs : List A) (s : List ℕ) → Bytes r → read_all F n r ≡ got bs s → Spelled (many F n) bs r s)
        → Stepped (F.read l) (λ a r. after (read_all F n r) (λ bs s. got (a ∷ bs) s)) vs rest → Spelled (many F (suc n)) vs l rest
    next n vs l rest N ih (stepped a r e f) =
        let i = X.only a l r N e in
        let M = bytes_rest (F.write a) r (subst Bytes i.0 N) in
        rest_of n vs l rest r a i (λ bs s. ih r bs s M) (step (read_all F n r) (λ bs s. got (a ∷ bs) s) vs rest f)

    sole : (n : ℕ) (vs : List A) (l rest : List ℕ) → Bytes l → read_all F n l ≡ got vs rest → Spelled (many F n) vs l rest
    sole zero vs l rest N e =
        let q : ◌≡◌ {A = List A} [] vs = cc in
        let u : l ≡ rest = cc in
        subst (λ (vs : List A). Spelled (many F zero) vs l rest) q (u, tt)
    sole (suc n) vs l rest N e =
        next n vs l rest N (λ r bs s M. sole n bs r s M) (step (F.read l) (λ a r. after (read_all F n r) (λ bs s. got (a ∷ bs) s)) vs rest
        e)

-- many values that have bytes: as many as asked, and each of them
pub all_good_law : {A : Type 0} (F : Form A) (z : A) (n : ℕ) (l : List A) → length l ≡ n
    → ((i : ℕ) → i < length l → F.Good (get_or l i z)) → all_good F n l
all_good_law F z zero [] e h = tt
all_good_law F z zero (x ∷ l) e h = absurd (omega arith)
all_good_law F z (suc n) [] e h = absurd (omega arith)
all_good_law F z (suc n) (x ∷ l) e h = (h 0 (omega arith), all_good_law F z n l (omega arith) (λ i m. h (suc i) (omega arith)))

pub all_length : {A : Type 0} (F : Form A) (n : ℕ) (l : List A) → all_good F n l → length l ≡ n
all_length F zero [] g = refl
all_length F zero (x ∷ l) g = absurd g
all_length F (suc n) [] g = absurd g
all_length F (suc n) (x ∷ l) g = ap suc (all_length F n l g.1)

pub all_at : {A : Type 0} (F : Form A) (z : A) (n : ℕ) (l : List A) → all_good F n l → (i : ℕ) → i < length l → F.Good (get_or l i z)
all_at F z zero [] g i h = absurd (omega arith)
all_at F z zero (x ∷ l) g i h = absurd g
all_at F z (suc n) [] g i h = absurd g
all_at F z (suc n) (x ∷ l) g zero h = g.0
all_at F z (suc n) (x ∷ l) g (suc i) h = all_at F z n l g.1 i (omega arith)

-- as many values as asked
pub many_count : {A : Type 0} (F : Form A) (n : ℕ) (l : List ℕ) (vs : List A) (rest : List ℕ) → read_all F n l ≡ got vs rest → length vs ≡ n
many_count {A} F zero l vs rest e = let q : ◌≡◌ {A = List A} [] vs = cc in sym (ap length q)
many_count {A} F (suc n) l vs rest e =
    first (step (F.read l) (λ a r. after (read_all F n r) (λ bs s. got (a ∷ bs) s)) vs rest e) (λ r bs s. many_count F n r bs s)
  where
    second : (a : A) (r : List ℕ) → ((bs : List A) (s : List ℕ) → read_all F n r ≡ got bs s → length bs ≡ n)
        → Stepped (read_all F n r) (λ bs s. got (a ∷ bs) s) vs rest → length vs ≡ suc n
    second a r ih (stepped bs s e f) =
        let q : a ∷ bs ≡ vs = cc in sym (ap length q) ∙ ap suc (ih bs s e)

    first : Stepped (F.read l) (λ a r. after (read_all F n r) (λ bs s. got (a ∷ bs) s)) vs rest
        → ((r : List ℕ) (bs : List A) (s : List ℕ) → read_all F n r ≡ got bs s → length bs ≡ n) → length vs ≡ suc n
    first (stepped a r e f) ih = second a r (λ bs s. ih r bs s) (step (read_all F n r) (λ bs s. got (a ∷ bs) s) vs rest f)

pub through_exact : {A B : Type 0} (to : A → B) (from : B → A) → ((b : B) → to (from b) ≡ b) → ((a : A) → from (to a) ≡ a)
    → (F : Form A) → Exact F → Exact (through to from F)
through_exact {A} {B} to from there back F X = record {
  back = λ b rest g. rw (X.back (from b) rest g) (ap (λ (b : B). got b rest) (there b));
  only = λ b l rest N e. go b l rest N (step (F.read l) (λ a r. got (to a) r) b rest e);
}
  where
    go : (b : B) (l rest : List ℕ) → Bytes l → Stepped (F.read l) (λ a r. got (to a) r) b rest → (l ≡ F.write (from b) ++ rest)
        × F.Good (from b)
    go b l rest N (stepped a r e f) =
        let v : to a ≡ b = cc in
        let u : r ≡ rest = cc in
        let w : a ≡ from b = sym (back a) ∙ ap from v in
        let i = X.only a l r N e in
        subst (λ (a : A). (l ≡ F.write a ++ rest) × F.Good a) w (i.0 ∙ ap (λ (z : List ℕ). F.write a ++ z) u, i.1)

pub such_that_exact : {A : Type 0} (F : Form A) (test : A → Bool) → Exact F → Exact (such_that F test)
such_that_exact {A} F test X = record {
  back = λ a rest g. rw (X.back a rest g.0, g.1);
  only = λ a l rest N e. go a l rest N (step (F.read l) (λ b r. cond (test b) (got b r) bad) a rest e);
}
  where
    passed : (t : Bool) (b a : A) (r s : List ℕ) → cond t (got b r) bad ≡ got a s → (t ≡ true) × (b ≡ a) × (r ≡ s)
    passed true b a r s e = (refl, (cc), (cc))
    passed false b a r s e = absurd (not_got e)

    go : (a : A) (l rest : List ℕ) → Bytes l → Stepped (F.read l) (λ b r. cond (test b) (got b r) bad) a rest
        → Spelled (such_that F test) a l rest
    go a l rest N (stepped b r e f) =
        let p = passed (test b) b a r rest f in
        let i = X.only b l r N e in
        subst (λ (a : A). Spelled (such_that F test) a l rest) p.1 (i.0 ∙ ap (λ (z : List ℕ). F.write b ++ z) p.2, (i.1, p.0))

-- unequal values have unequal bytes
pub injective : {A : Type 0} (F : Form A) → Exact F → (a b : A) → F.Good a → F.Good b → F.write a ≡ F.write b → a ≡ b
injective F X a b g h e =
    let p = sym (X.back a [] g) ∙ ap (λ (l : List ℕ). F.read (l ++ [])) e ∙ X.back b [] h in cc

-- ---- all of the bytes: what is written reads back, and what reads as a value is what is written for it
pub whole_back : {A : Type 0} (F : Form A) → Exact F → (a : A) → F.Good a → read_whole F (F.write a) ≡ got a []
whole_back F X a g = rw (← append-nil (F.write a), X.back a [] g)

pub whole_only : {A : Type 0} (F : Form A) → Exact F → (a : A) (l rest : List ℕ) → Bytes l → read_whole F l ≡ got a rest → (l ≡ F.write a)
    × F.Good a
whole_only {A} F X a l rest N e = go (step (F.read l) no_rest a rest e)
  where
    empty : (b : A) (r : List ℕ) → no_rest b r ≡ got a rest → (r ≡ []) × (b ≡ a)
    empty b [] e = (refl, cc)
    empty b (x ∷ r) e = absurd (not_got e)

    go : Stepped (F.read l) no_rest a rest → (l ≡ F.write a) × F.Good a
    go (stepped b r e f) =
        let p = empty b r f in
        let i = X.only b l r N e in
        subst (λ (a : A). (l ≡ F.write a) × F.Good a) p.1 (
          i.0 ∙ ap (λ (z : List ℕ). F.write b ++ z) p.0 ∙ append-nil
              (F.write b),
          i.1,
        )
