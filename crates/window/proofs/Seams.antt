-- Parts that meet at a place, and a list with a part replaced, cut at a place behind that part.
use mathlib.Core.Path.{◌≡◌, sym, ap, ◌∙◌}
use mathlib.Core.List.{List, [], ◌∷◌, ◌++◌, append_assoc}
use Prim.Native.Nat.{ℕ, zero, suc, ◌+◌, ◌-◌, ◌≤◌}
use native.Mathlib.Omega.{arith}
use lib.ListN.{length, take, drop, length-drop}
use lib.Seq.{take-nil, take-add, take-take, drop-drop, length-take-le, take-append-le, drop-append-le, take-append-add, drop-append-add}
use Rattle.window.specs.Window.{window, splice}

module _ {A : Type 0} where
  -- the places are what they are in numbers, however they are written
  pub same_window : (a b e f : ℕ) (l : List A) → a ≡ b → e ≡ f → window a e l ≡ window b f l
  same_window a b e f l p q = rw (p, q)

  -- a part is what it holds before a place, then what it holds from there on
  pub window_append : (a b e : ℕ) (l : List A) → a ≤ b → b ≤ e → window a e l ≡ window a b l ++ window b e l
  window_append a b e l h g =
      let q : e - a ≡ (b - a) + (e - b) = omega arith in
      let k : a + (b - a) ≡ b = omega arith in
      rw q (take-add (b - a) (e - b) (drop a l)) ∙ ap (λ (x : List A). window a b l ++ take (e - b) x)
      (drop-drop (b - a) a l ∙ ap (λ (i : ℕ). drop i l) k)

  -- a part that lies in the first of two lists
  pub window_front : (a e : ℕ) (x y : List A) → a ≤ e → e ≤ length x → window a e (x ++ y) ≡ window a e x
  window_front a e x y h g = rw (drop-append-le a x y (omega arith)) (take-append-le (e - a) (drop a x) y (simp length-drop (omega arith)))

  -- what is left of the front after its front is dropped
  pub drop_take : (a n : ℕ) (l : List A) → drop a (take n l) ≡ take (n - a) (drop a l)
  drop_take zero n l = let e : n - 0 ≡ n = omega arith in rw e
  drop_take (suc a) zero l = let e : 0 - suc a ≡ 0 = omega arith in rw e
  drop_take (suc a) (suc n) [] = sym (take-nil (suc n - suc a))
  drop_take (suc a) (suc n) (x ∷ l) = let e : suc n - suc a ≡ n - a = omega arith in rw e (drop_take a n l)

  -- a list with a part replaced, its tail as one drop
  pub splice_plain : (a e : ℕ) (v l : List A) → a ≤ e → splice a e v l ≡ take a l ++ (v ++ drop e l)
  splice_plain a e v l h = let q : a + (e - a) ≡ e = omega arith in rw (drop-drop (e - a) a l, q)

  -- the list l with v from c up to e, cut at S
  module _ (S c e : ℕ) (v l : List A) (ce : c ≤ e) (eS : e ≤ S) (Sl : S ≤ length l) (lv : length v ≡ e - c) where
    place : S ≡ length (take c l) + (length v + (S - e))
    place = let n = length-take-le c l (omega arith) in omega arith

    take_splice : take S (splice c e v l) ≡ splice c e v (take S l)
    take_splice =
        ap (λ (x : List A). take S x) (splice_plain c e v l ce)
        ∙ ap (λ (i : ℕ). take i (take c l ++ (v ++ drop e l))) place
        ∙ take-append-add (take c l) (v ++ drop e l) (length v + (S - e))
        ∙ ap (λ (x : List A). take c l ++ x) (take-append-add v (drop e l) (S - e))
        ∙ sym (splice_plain c e v (take S l) ce ∙ rw (take-take c S l (omega arith), drop_take e S l))

    drop_splice : drop S (splice c e v l) ≡ drop S l
    drop_splice =
        let q : e + (S - e) ≡ S = omega arith in
        ap (λ (x : List A). drop S x) (splice_plain c e v l ce)
        ∙ ap (λ (i : ℕ). drop i (take c l ++ (v ++ drop e l))) place
        ∙ drop-append-add (take c l) (v ++ drop e l) (length v + (S - e))
        ∙ drop-append-add v (drop e l) (S - e)
        ∙ drop-drop (S - e) e l
        ∙ ap (λ (i : ℕ). drop i l) q

  -- The front up to `end` is written: of its first S cells those from c up to e are new, all others from S on. The same as two writes.
  pub front_written : (S end c e : ℕ) (v y l : List A) → c ≤ e → e ≤ S → S ≤ end → end ≤ length l → length v ≡ e - c
      → splice 0 end (splice c e v (window 0 S (window 0 end l)) ++ y) l ≡ splice S end y (splice c e v l)
  front_written S end c e v y l ce eS Se el lv =
      let a : S - 0 ≡ S = omega arith in
      let b : end - 0 ≡ end = omega arith in
      let f : window 0 S (window 0 end l) ≡ take S l = rw (a, b) (take-take S end l Se) in
      splice_plain 0 end (splice c e v (window 0 S (window 0 end l)) ++ y) l (omega arith)
      ∙ ap (λ (x : List A). (splice c e v x ++ y) ++ drop end l) f
      ∙ ap (λ (x : List A). (x ++ y) ++ drop end l) (sym (take_splice S c e v l ce eS (omega arith) lv))
      ∙ append_assoc (take S (splice c e v l)) y (drop end l)
      ∙ ap (λ (x : List A). take S (splice c e v l) ++ (y ++ x)) (sym (drop_splice end c e v l ce (omega arith) el lv))
      ∙ sym (splice_plain S end y (splice c e v l) Se)
