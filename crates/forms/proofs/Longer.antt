-- What is read of some bytes is read of longer ones, as long as no more is looked at.
use mathlib.Core.Path.{◌≡◌, refl}
use mathlib.Core.Bool.{Bool, true, false, cond}
use mathlib.Core.List.{List, [], ◌∷◌, ◌++◌}
use Prim.Native.Nat.{ℕ, zero, suc, ◌+◌, ◌*◌, ◌-◌, ◌≤◌}
use native.Mathlib.Omega.{arith}
use lib.Dec.{ltb, eqb}
use lib.ListN.{length}
use Rattle.forms.specs.Read.{Read, got, bad, after}
use Rattle.forms.specs.Groups.{read_groups}
use Rattle.forms.specs.Form.{Form, groups, then, through}
use Rattle.forms.proofs.Exact.{pair}

-- the same value, with further bytes left
abbrev pub more : {A : Type 0} → List ℕ → Read A → Read A
more b (got a rest) = got a (rest ++ b)
more b bad = bad

-- of what is read, all but k bytes at most are left
abbrev pub Left : {A : Type 0} → ℕ → List ℕ → Read A → Type 0
Left k l (got a rest) = length l ≤ k + length rest
Left k l bad = Unit

-- at most k groups are looked at
pub groups_longer : (k : ℕ) (a b : List ℕ) → k ≤ length a → read_groups k (a ++ b) ≡ more b (read_groups k a)
unfolding read_groups
groups_longer zero a b h = refl
groups_longer (suc k) [] b h = absurd (omega arith)
groups_longer (suc k) (x ∷ a) b h = go (ltb x 128) (read_groups k (a ++ b)) (read_groups k a) (groups_longer k a b (omega arith))
  where
    high : (t : Bool) (v : ℕ) (r : List ℕ) → cond t bad (got v (r ++ b)) ≡ more b (cond t bad (got v r))
    high true v r = refl
    high false v r = refl

    go : (t : Bool) (p q : Read ℕ) → p ≡ more b q
        → cond t (got x (a ++ b)) (after p (λ h r. cond (eqb h 0) bad (got (x - 128 + 128 * h) r)))
        ≡ more b (cond t (got x a) (after q (λ h r. cond (eqb h 0) bad (got (x - 128 + 128 * h) r))))
    go true p q e = refl
    go false p bad e = rw e
    go false p (got v r) e = rw e (high (eqb v 0) (x - 128 + 128 * v) r)

pub groups_left : (k : ℕ) (a : List ℕ) → Left k a (read_groups k a)
unfolding read_groups
groups_left zero a = tt
groups_left (suc k) [] = tt
groups_left (suc k) (x ∷ a) = go (ltb x 128) (read_groups k a) (groups_left k a)
  where
    high : (t : Bool) (v : ℕ) (r : List ℕ) → length a ≤ k + length r → Left (suc k) (x ∷ a) (cond t bad (got v r))
    high true v r i = tt
    high false v r i = omega arith

    go : (t : Bool) (q : Read ℕ) → Left k a q
        → Left (suc k) (x ∷ a) (cond t (got x a) (after q (λ h r. cond (eqb h 0) bad (got (x - 128 + 128 * h) r))))
    go true q i = omega arith
    go false bad i = tt
    go false (got v r) i = high (eqb v 0) (x - 128 + 128 * v) r i

-- a form whose values have at most k bytes, and whose reading looks at no more
pub record Within {A : Type 0} (k : ℕ) (F : Form A) : Type 0 where
  pub longer : (a b : List ℕ) → k ≤ length a → F.read (a ++ b) ≡ more b (F.read a)
  pub left : (a : List ℕ) → Left k a (F.read a)

pub groups_within : Within 3 groups
groups_within = record { longer = groups_longer 3; left = groups_left 3 }

pub then_within : {A : Type 0} {B : A → Type 0} {j k : ℕ} {F : Form A} {G : (a : A) → Form (B a)} → Within j F → ((a : A) → Within k (G a))
    → Within (j + k) (then F G)
then_within {A} {B} {j} {k} {F} {G} X Y = record {
  longer = λ a b h. rw (X.longer a b (omega arith)) (both a b h (F.read a) (X.left a));
  left = λ a. left_both a (F.read a) (X.left a);
}
  where
    second : (x : A) (b : List ℕ) (o : Read (B x)) → after (more b o) (pair {A = A} {B = B} x) ≡ more b (after o (pair {A = A} {B = B} x))
    second x b bad = refl
    second x b (got y s) = refl

    both : (a b : List ℕ) → j + k ≤ length a → (o : Read A) → Left j a o
        → after (more b o) (λ x r. after ((G x).read r) (pair {A = A} {B = B} x))
        ≡ more b (after o (λ x r. after ((G x).read r) (pair {A = A} {B = B} x)))
    both a b h bad i = refl
    both a b h (got x r) i = rw ((Y x).longer r b (omega arith)) (second x b ((G x).read r))

    left_second : (x : A) (a r : List ℕ) → length a ≤ j + length r → (o : Read (B x)) → Left k r o
        → Left (j + k) a (after o (pair {A = A} {B = B} x))
    left_second x a r h bad i = tt
    left_second x a r h (got y s) i = omega arith

    left_both : (a : List ℕ) (o : Read A) → Left j a o → Left (j + k) a (after o (λ x r. after ((G x).read r) (pair {A = A} {B = B} x)))
    left_both a bad i = tt
    left_both a (got x r) i = left_second x a r i ((G x).read r) ((Y x).left r)

pub through_within : {A B : Type 0} {k : ℕ} (to : A → B) (from : B → A) {F : Form A} → Within k F → Within k (through to from F)
through_within {A} {B} {k} to from {F} X = record {
  longer = λ a b h. rw (X.longer a b h) (same b (F.read a));
  left = λ a. left_same a (F.read a) (X.left a);
}
  where
    same : (b : List ℕ) (o : Read A) → after (more b o) (λ x r. got (to x) r) ≡ more b (after o (λ x r. got (to x) r))
    same b bad = refl
    same b (got x r) = refl

    left_same : (a : List ℕ) (o : Read A) → Left k a o → Left k a (after o (λ x r. got (to x) r))
    left_same a bad i = tt
    left_same a (got x r) i = i
