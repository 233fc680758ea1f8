-- Each of several arrays that lie one after the other is read by its window, and written by its splice.
use mathlib.Core.Path.{◌≡◌, refl, sym, ap, ◌∙◌}
use mathlib.Core.List.{List, [], ◌∷◌, ◌++◌, append_assoc}
use Prim.Native.Nat.{ℕ, zero, suc, ◌+◌, ◌-◌, ◌≤◌, ◌<◌}
use native.Mathlib.Omega.{arith}
use native.Mathlib.Nat.{le_of_suc-le-suc, not-suc-le-zero}
use lib.ListN.{length, take, drop, get_or, set, length-append, take-append-drop}
use lib.Seq.{take_at, drop_at, drop-drop}
use Rattle.window.specs.Window.{window, splice}
use Rattle.window.specs.Parts.{joined, offset}

module _ {A : Type 0} where
  -- of three lists, the middle one is read
  pub read_seam : (p q r : List A) (a e : ℕ) → length p ≡ a → length q ≡ e - a → window a e (p ++ (q ++ r)) ≡ q
  read_seam p q r a e h k = rw (drop_at p (q ++ r) a h) (take_at q r (e - a) k)

  -- of three lists, the middle one is written
  pub write_seam : (p q r v : List A) (a e : ℕ) → length p ≡ a → length q ≡ e - a → splice a e v (p ++ (q ++ r)) ≡ p ++ (v ++ r)
  write_seam p q r v a e h k = rw (take_at p (q ++ r) a h, drop_at p (q ++ r) a h, drop_at q r (e - a) k)

  -- what starts at a is the part up to b, and what starts at b
  pub cut : (w : List A) (a b : ℕ) → a ≤ b → drop a w ≡ window a b w ++ drop b w
  cut w a b h = sym (take-append-drop (b - a) (drop a w)) ∙ rw (
    drop-drop (b - a) a w,
    ap (λ (k : ℕ). drop k w) {x = a + (b - a)} {y = b}
        (omega arith),
  )

  joined_split : (ps : List (List A)) (i : ℕ) → i < length ps → joined ps ≡ joined (take i ps) ++ (get_or ps i [] ++ joined (drop (suc i) ps))
  unfolding joined
  joined_split [] i h = absurd (not-suc-le-zero h)
  joined_split (p ∷ ps) zero h = refl
  joined_split (p ∷ ps) (suc i) h = ap (λ (l : List A). p ++ l) (joined_split ps i (le_of_suc-le-suc h))
      ∙ sym (append_assoc p (joined (take i ps)) (get_or ps i [] ++ joined (drop (suc i) ps)))

  joined_set : (ps : List (List A)) (i : ℕ) (v : List A) → i < length ps → joined (set ps i v)
      ≡ joined (take i ps) ++ (v ++ joined (drop (suc i) ps))
  unfolding joined
  joined_set [] i v h = absurd (not-suc-le-zero h)
  joined_set (p ∷ ps) zero v h = refl
  joined_set (p ∷ ps) (suc i) v h = ap (λ (l : List A). p ++ l) (joined_set ps i v (le_of_suc-le-suc h))
      ∙ sym (append_assoc p (joined (take i ps)) (v ++ joined (drop (suc i) ps)))

  length_before : (ps : List (List A)) (i : ℕ) → i < length ps → length (joined (take i ps)) ≡ offset ps i
  unfolding joined offset
  length_before [] i h = absurd (not-suc-le-zero h)
  length_before (p ∷ ps) zero h = refl
  length_before (p ∷ ps) (suc i) h = length-append p (joined (take i ps)) ∙ ap (λ (k : ℕ). length p + k) (length_before ps i
      (le_of_suc-le-suc h))

  module _ (ps : List (List A)) (i a e : ℕ) (h : i < length ps) (start : offset ps i ≡ a) (end : a + length (get_or ps i []) ≡ e) where
    -- array i is read by its window
    pub read_part : window a e (joined ps) ≡ get_or ps i []
    read_part = rw (joined_split ps i h) (read_seam (joined (take i ps)) (get_or ps i []) (joined (drop (suc i) ps)) a e
        (length_before ps i h ∙ start) (omega arith))

    -- array i is written by its splice, whatever the length of what is written
    pub write_part : (v : List A) → splice a e v (joined ps) ≡ joined (set ps i v)
    write_part v = rw (joined_split ps i h) (write_seam (joined (take i ps)) (get_or ps i []) (joined (drop (suc i) ps)) v a e
        (length_before ps i h ∙ start) (omega arith)) ∙ sym (joined_set ps i v h)
