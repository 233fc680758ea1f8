-- The laws of `window` and `splice`: what a part of a list holds after a part was written.
use mathlib.Core.Path.{◌≡◌, refl, sym, ap, ◌∙◌}
use mathlib.Core.List.{List, [], ◌∷◌, ◌++◌}
use Prim.Native.Nat.{ℕ, zero, suc, ◌+◌, ◌-◌, ◌≤◌, ◌<◌}
use native.Mathlib.Omega.{arith}
use lib.ListN.{length, get_or, take, drop, length-drop}
use lib.Seq.{take_at, drop_at, take-take, drop-drop, get_or-take, get_or-drop, length-take-le}
use borrow.Rule.Slice.PartMut.{same_len_mid, take_put, drop_put, put_same}
use Rattle.window.specs.Window.{window, splice}

module _ {A : Type 0} where
  pub length_window : (a e : ℕ) (l : List A) → a ≤ e → e ≤ length l → length (window a e l) ≡ e - a
  length_window a e l p q = length-take-le (e - a) (drop a l) (simp length-drop (omega arith))

  -- a cell of a part is a cell of the whole
  pub window_cell : (a e : ℕ) (l : List A) (i : ℕ) (d : A) → a + i < e → get_or (window a e l) i d ≡ get_or l (a + i) d
  window_cell a e l i d h = get_or-take (e - a) (drop a l) i d (omega arith) ∙ get_or-drop a l i d

  module _ (a e : ℕ) (v l : List A) where
    pub length_splice : a ≤ e → e ≤ length l → length v ≡ e - a → length (splice a e v l) ≡ length l
    length_splice p q r = same_len_mid a (e - a) l v (r ∙ sym (length_window a e l p q))

    -- what was written is read
    pub window_same : a ≤ length l → length v ≡ e - a → window a e (splice a e v l) ≡ v
    window_same p r =
        rw (drop_at (take a l) (v ++ drop (e - a) (drop a l)) a (length-take-le a l p))
        (take_at v (drop (e - a) (drop a l)) (e - a) r)

    -- what lies before is as it was
    pub window_before : (b f : ℕ) → b ≤ f → f ≤ a → a ≤ length l → window b f (splice a e v l) ≡ window b f l
    window_before b f p q r =
        sym (within b (f - b) a (splice a e v l) (omega arith))
        ∙ ap (λ (t : List A). take (f - b) (drop b t)) (take_put a (e - a) l v r)
        ∙ within b (f - b) a l (omega arith)
      where
        within : (b k a : ℕ) (l : List A) → b + k ≤ a → take k (drop b (take a l)) ≡ take k (drop b l)
        within zero k a l h = take-take k a l (omega arith)
        within (suc b) k zero l h = absurd (omega arith)
        within (suc b) k (suc a) [] h = refl
        within (suc b) k (suc a) (x ∷ l) h = within b k a l (omega arith)

    -- what lies after is as it was
    pub window_after : (b f : ℕ) → e ≤ b → a ≤ e → e ≤ length l → length v ≡ e - a → window b f (splice a e v l) ≡ window b f l
    window_after b f p q r s = ap (λ (t : List A). take (f - b) t) (from (splice a e v l) ∙ ap (λ (t : List A). drop (b - e) t)
        (drop_put a e l v q r s) ∙ sym (from l))
      where
        from : (t : List A) → drop b t ≡ drop (b - e) (drop e t)
        from t = let h : b ≡ e + (b - e) = omega arith in ap (λ (k : ℕ). drop k t) h ∙ sym (drop-drop (b - e) e t)

    -- the last of two writes stands
    pub splice_splice : (u : List A) → a ≤ length l → length u ≡ e - a → splice a e v (splice a e u l) ≡ splice a e v l
    splice_splice u p r =
        rw (
          take_put a (e - a) l u p,
          drop_at (take a l) (u ++ drop (e - a) (drop a l)) a (length-take-le a l p),
          drop_at u
              (drop (e - a) (drop a l)) (e - a) r,
        )

  -- a part of a part
  pub window_window : (a e b f : ℕ) (l : List A) → b ≤ f → a + f ≤ e → window b f (window a e l) ≡ window (a + b) (a + f) l
  window_window a e b f l p q =
      let h : (a + f) - (a + b) ≡ f - b = omega arith in
      rw (h, ← drop-drop b a l) (inside b (f - b) (e - a) (drop a l) (omega arith))
    where
      inside : (b k n : ℕ) (l : List A) → b + k ≤ n → take k (drop b (take n l)) ≡ take k (drop b l)
      inside zero k n l h = take-take k n l (omega arith)
      inside (suc b) k zero l h = absurd (omega arith)
      inside (suc b) k (suc n) [] h = refl
      inside (suc b) k (suc n) (x ∷ l) h = inside b k n l (omega arith)

  -- a part of the whole as a part of a part: the places are what they are in numbers, however they are written
  pub window_at : (a e b f b' f' : ℕ) (l : List A) → b' ≡ a + b → f' ≡ a + f → b ≤ f → a + f ≤ e → window b' f' l
      ≡ window b f (window a e l)
  window_at a e b f b' f' l p q r t = rw (p, q) (sym (window_window a e b f l r t))

  -- a part put back as it was
  pub splice_window : (a e : ℕ) (l : List A) → splice a e (window a e l) l ≡ l
  splice_window a e l = put_same a (e - a) l
