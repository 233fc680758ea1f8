-- Many numbers of eight bytes: as `encoding` reads them, and as the form does.
use mathlib.Core.Path.{◌≡◌, refl, sym, ap, ◌∙◌}
use mathlib.Core.Bool.{Bool, true, false}
use mathlib.Core.List.{List, [], ◌∷◌, map}
use Prim.Native.Nat.{ℕ, zero, suc, ◌+◌, ◌*◌, ◌-◌, ◌≤◌, ◌<◌}
use native.Mathlib.Omega.{arith}
use lib.Dec.{ltb}
use lib.ListN.{length, take, drop, length-drop}
use lib.Seq.{drop-drop, take-take}
use Rattle.window.proofs.Seams.{drop_take}
use lib.Ieee.{Float, binary64, of_bits}
use borrow.Author.Tests.{ltb-false}
use Rattle.encoding.specs.Bytes.{low_first, float_of, each_of, wholes_of, floats_of}
use Rattle.forms.specs.Read.{got, bad}
use Rattle.forms.specs.Form.{read_bytes, bytes, read_all}
use Rattle.forms.proofs.Exact.{read_bytes_law}

-- m numbers of eight bytes each, one after the other
abbrev pub patterns : ℕ → List ℕ → List ℕ
patterns zero l = []
patterns (suc m) l = low_first (take 8 l) ∷ patterns m (drop 8 l)

pub patterns_count : (m : ℕ) (l : List ℕ) → length (patterns m l) ≡ m
patterns_count zero l = refl
patterns_count (suc m) l = ap suc (patterns_count m (drop 8 l))

pub patterns_read : (m : ℕ) (l : List ℕ) → 8 * m ≤ length l → read_all (bytes 8) m l ≡ got (patterns m l) (drop (8 * m) l)
patterns_read zero l h = refl
patterns_read (suc m) l h =
    let e : 8 * suc m ≡ 8 + 8 * m = omega arith in
    rw (read_bytes_law 8 l (omega arith), patterns_read m (drop 8 l) (rw (length-drop 8 l) (omega arith)), e)
    (ap (λ (r : List ℕ). got (low_first (take 8 l) ∷ patterns m (drop 8 l)) r) (drop-drop (8 * m) 8 l))

pub patterns_short : (m : ℕ) (l : List ℕ) → length l < 8 * m → read_all (bytes 8) m l ≡ bad
unfolding read_bytes
patterns_short zero l h = absurd (omega arith)
patterns_short (suc m) l h = go (ltb (length l) 8) refl (patterns_short m (drop 8 l))
  where
    go : (b : Bool) → ltb (length l) 8 ≡ b → (length (drop 8 l) < 8 * m → read_all (bytes 8) m (drop 8 l) ≡ bad)
        → read_all (bytes 8) (suc m) l ≡ bad
    go true e ih = rw e
    go false e ih = rw (e, ih (rw (length-drop 8 l) (omega (arith, ltb-false (length l) 8 e))))

-- ---- values of eight bytes each, one after the other
module _ {A : Type 0} (value : List ℕ → A) where
  -- the first, and the others
  pub each_front : (m : ℕ) (l : List ℕ) → each_of value (suc m) l ≡ value (take 8 l) ∷ each_of value m (drop 8 l)
  unfolding each_of
  each_front zero l = refl
  each_front (suc m) l =
      let e : 8 * suc m ≡ 8 + 8 * m = omega arith in
      let f : 8 * suc m + 8 - 8 * suc m ≡ 8 * m + 8 - 8 * m = omega arith in
      rw (each_front m l, f, e, ← drop-drop (8 * m) 8 l)

  -- only their own bytes matter
  pub each_part : (m n : ℕ) (l : List ℕ) → 8 * m ≤ n → each_of value m (take n l) ≡ each_of value m l
  unfolding each_of
  each_part zero n l h = refl
  each_part (suc m) n l h =
      each_front m (take n l) ∙ (λ i. value (take-take 8 n l (omega arith) i) ∷ each_of value m (drop_take 8 n l i))
      ∙ ap (λ (t : List A). value (take 8 l) ∷ t) (each_part m (n - 8) (drop 8 l) (omega arith)) ∙ sym (each_front m l)

pub patterns_wholes : (m : ℕ) (l : List ℕ) → patterns m l ≡ wholes_of m l
unfolding each_of
patterns_wholes zero l = refl
patterns_wholes (suc m) l =
    ap (λ (t : List ℕ). low_first (take 8 l) ∷ t) (patterns_wholes m (drop 8 l)) ∙ sym (each_front low_first m l)

pub patterns_floats : (m : ℕ) (l : List ℕ) → map (λ n. of_bits binary64 n) (patterns m l) ≡ floats_of m l
unfolding each_of
patterns_floats zero l = refl
patterns_floats (suc m) l =
    ap (λ (t : List Float). float_of (take 8 l) ∷ t) (patterns_floats m (drop 8 l)) ∙ sym (each_front float_of m l)
