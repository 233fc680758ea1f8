-- Loops that write a list from the front: the elements written so far, then those that are left as they were.
use mathlib.Core.Path.{◌≡◌, refl, sym, ap, ◌∙◌}
use mathlib.Core.List.{List, [], ◌∷◌, ◌++◌, append-nil}
use Prim.Native.Nat.{ℕ, zero, suc, ◌+◌, ◌<◌, min}
use native.Mathlib.Nat.{le_of_lt}
use native.Mathlib.Numerals.{add-one}
use native.Mathlib.Omega.{arith}
use lib.ListN.{length, take, drop, get_or, set, replicate, length-replicate}
use lib.Seq.{take-length, drop-length, length-take-le, take-suc, drop-cons, set_at, append_snoc}
use Rattle.window.specs.Window.{copied}

module _ {A : Type 0} where
  -- one more element of d, after the i that p has, becomes v
  pub write_more : (p d : List A) (i : ℕ) (v : A) → length p ≡ i → i < length d → set (p ++ drop i d) i v
      ≡ (p ++ (v ∷ [])) ++ drop (i + 1) d
  write_more p d i v h k = rw (add-one, drop-cons d i v k) (set_at p (get_or d i v) (drop (suc i) d) v i h ∙ sym
      (append_snoc p v (drop (suc i) d)))

  -- one more element of s is copied over d
  pub copy_more : (s d : List A) (i : ℕ) (z : A) → i < length s → i < length d → set (take i s ++ drop i d) i (get_or s i z)
      ≡ take (i + 1) s ++ drop (i + 1) d
  copy_more s d i z h k =
      write_more (take i s) d i (get_or s i z) (length-take-le i s (le_of_lt h)) k
      ∙ ap (λ (l : List A). l ++ drop (i + 1) d) (sym (take-suc s i z h) ∙ ap (λ (n : ℕ). take n s) (sym (add-one i)))

  -- one more element of d becomes v
  pub fill_more : (v : A) (d : List A) (i : ℕ) → i < length d → set (replicate i v ++ drop i d) i v ≡ replicate (i + 1) v ++ drop (i + 1) d
  fill_more v d i k =
      write_more (replicate i v) d i v (length-replicate i v) k
      ∙ ap (λ (l : List A). l ++ drop (i + 1) d) (replicate_more i ∙ ap (λ (n : ℕ). replicate n v) (sym (add-one i)))
    where
      replicate_more : (i : ℕ) → replicate i v ++ (v ∷ []) ≡ replicate (suc i) v
      replicate_more zero = refl
      replicate_more (suc i) = ap (λ (l : List A). v ∷ l) (replicate_more i)

  -- a copy between lists of one length is the source
  pub copied_all : (src dst : List A) → length dst ≡ length src → copied src dst ≡ src
  copied_all src dst h =
      let e : min (length src) (length dst) ≡ length src = omega arith in
      rw (e, take-length, ← h, drop-length) (append-nil src)
