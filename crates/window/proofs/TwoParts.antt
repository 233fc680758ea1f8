-- Two parts of a list that are written, one after the other: what is read then, and that the last writes stand.
use mathlib.Core.Path.{◌≡◌, sym, ap, ◌∙◌}
use mathlib.Core.List.{List, [], ◌∷◌, ◌++◌, append-nil}
use Prim.Native.Nat.{ℕ, ◌-◌, ◌≤◌}
use native.Mathlib.Omega.{arith}
use lib.ListN.{length, take, drop, take-append-drop}
use Rattle.window.specs.Window.{window, splice}
use Rattle.window.specs.Parts.{joined, offset}
use Rattle.window.proofs.Windows.{length_window, length_splice, window_same, window_before, window_after, splice_splice}
use Rattle.window.proofs.Parts.{cut, write_part}
use lib.Seq.{length-take-le}

module _ {A : Type 0} where
  -- two writes of parts that lie apart can be told in either order
  module _ (a e : ℕ) (u : List A) (b f : ℕ) (v l : List A) (ae : a ≤ e) (eb : e ≤ b) (bf : b ≤ f) (fl : f ≤ length l)
      (lu : length u ≡ e - a) (lv : length v ≡ f - b) where
    abbrev five : List A → List A → List (List A)
    five q x = take a l ∷ q ∷ window e b l ∷ x ∷ drop f l ∷ []

    split : l ≡ joined (five (window a e l) (window b f l))
    unfolding joined
    split =
        sym (take-append-drop a l)
        ∙ ap (λ (t : List A). take a l ++ t)
        (cut l a e ae
        ∙ ap (λ (t : List A). window a e l ++ t)
        (cut l e b eb ∙ ap (λ (t : List A). window e b l ++ t) (cut l b f bf ∙ ap (λ (t : List A). window b f l ++ t)
        (sym (append-nil (drop f l))))))

    first_at : (q x : List A) → length q ≡ e - a → splice a e u (joined (five q x)) ≡ joined (five u x)
    unfolding offset
    first_at q x h =
        let n = length-take-le a l (omega arith) in
        write_part (five q x) 1 a e (omega arith) (omega arith) (omega arith) u

    second_at : (q x : List A) → length q ≡ e - a → length x ≡ f - b → splice b f v (joined (five q x)) ≡ joined (five q v)
    unfolding offset
    second_at q x h k =
        let n = length-take-le a l (omega arith) in
        let m = length_window e b l eb (omega arith) in
        write_part (five q x) 3 b f (omega arith) (omega arith) (omega arith) v

    pub splice_swap : splice a e u (splice b f v l) ≡ splice b f v (splice a e u l)
    splice_swap =
        let q = length_window a e l ae (omega arith) in
        let x = length_window b f l bf fl in
        ap (λ (t : List A). splice a e u (splice b f v t)) split
        ∙ ap (λ (t : List A). splice a e u t) (second_at (window a e l) (window b f l) q x)
        ∙ first_at (window a e l) v q
        ∙ sym (second_at u (window b f l) lu x)
        ∙ sym (ap (λ (t : List A). splice b f v t) (first_at (window a e l) (window b f l) q))
        ∙ sym (ap (λ (t : List A). splice b f v (splice a e u t)) split)

  -- x can be written from b up to e of l, and z from w up to f
  pub record Apart (b e w f : ℕ) (x z l : List A) : Type 0 where
    pub be : b ≤ e
    pub ew : e ≤ w
    pub wf : w ≤ f
    pub fl : f ≤ length l
    pub first_fits : length x ≡ e - b
    pub second_fits : length z ≡ f - w

  module _ {b e w f : ℕ} {x z l : List A} (h : Apart b e w f x z l) where
    one : length (splice b e x l) ≡ length l
    one = length_splice b e x l h.be (omega arith) h.first_fits

    pub both_length : length (splice w f z (splice b e x l)) ≡ length l
    both_length = let n = one in length_splice w f z (splice b e x l) h.wf (omega arith) h.second_fits ∙ n

    pub both_before : (c g : ℕ) → c ≤ g → g ≤ b → window c g (splice w f z (splice b e x l)) ≡ window c g l
    both_before c g p q =
        let n = one in
        window_before w f z (splice b e x l) c g p (omega arith) (omega arith) ∙ window_before b e x l c g p q (omega arith)

    pub both_after : (c g : ℕ) → f ≤ c → window c g (splice w f z (splice b e x l)) ≡ window c g l
    both_after c g p =
        let n = one in
        window_after w f z (splice b e x l) c g p h.wf (omega arith) h.second_fits ∙ window_after b e x l c g (omega
        arith) h.be (omega arith) h.first_fits

    pub both_between : (c g : ℕ) → c ≤ g → e ≤ c → g ≤ w → window c g (splice w f z (splice b e x l)) ≡ window c g l
    both_between c g p q r =
        let n = one in
        window_before w f z (splice b e x l) c g p r (omega arith) ∙ window_after b e x l c g q h.be (omega arith) h.first_fits

    pub both_first : window b e (splice w f z (splice b e x l)) ≡ x
    both_first =
        let n = one in
        window_before w f z (splice b e x l) b e h.be h.ew (omega arith) ∙ window_same b e x l (omega arith) h.first_fits

    pub both_second : window w f (splice w f z (splice b e x l)) ≡ z
    both_second = let n = one in window_same w f z (splice b e x l) (omega arith) h.second_fits

    pub both_again : (x' z' : List A) → length x' ≡ e - b → splice w f z' (splice b e x' (splice w f z (splice b e x l)))
        ≡ splice w f z' (splice b e x' l)
    both_again x' z' p =
        let n = one in
        let m = length_splice b e x' l h.be (omega arith) p in
        ap (λ (t : List A). splice w f z' t)
        (splice_swap b e x' w f z (splice b e x l) h.be h.ew h.wf (omega arith) p h.second_fits
        ∙ ap (λ (t : List A). splice w f z t) (splice_splice b e x' l x (omega arith) h.first_fits))
        ∙ splice_splice w f z' (splice b e x' l) z (omega arith) h.second_fits
