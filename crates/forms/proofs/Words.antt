-- Forms of a fixed number of eight-byte numbers: the number of bytes tells whether they read.
use mathlib.Core.Path.{◌≡◌, refl, ap, ◌∙◌}
use mathlib.Core.Bool.{Bool, true, false}
use mathlib.Core.List.{List, [], ◌∷◌}
use Prim.Native.Nat.{ℕ, ◌+◌, ◌*◌, ◌≤◌, ◌<◌}
use native.Mathlib.Omega.{arith}
use lib.Dec.{ltb}
use lib.ListN.{length, take, drop, length-drop}
use lib.Seq.{drop-drop}
use borrow.Author.Tests.{lt-ltb, ltb-true, ltb-false}
use Rattle.encoding.specs.Bytes.{low_first}
use Rattle.forms.specs.Read.{got, bad}
use Rattle.forms.specs.Form.{Form, Both, bytes, read_bytes, then, many, through, no_rest, read_whole}
use Rattle.forms.proofs.Exact.{read_bytes_law}
use Rattle.forms.proofs.Numbers.{patterns, patterns_read, patterns_short}

-- n numbers of eight bytes each, and what they are
pub record Words {A : Type 0} (n : ℕ) (F : Form A) (value : List ℕ → A) : Type 0 where
  pub enough : (l : List ℕ) → 8 * n ≤ length l → F.read l ≡ got (value l) (drop (8 * n) l)
  pub short : (l : List ℕ) → length l < 8 * n → F.read l ≡ bad

pub one_word : Words 1 (bytes 8) (λ l. low_first (take 8 l))
unfolding read_bytes
one_word = record { enough = λ l h. read_bytes_law 8 l (omega arith); short = λ l h. rw (lt-ltb (length l) 8 (omega arith)) }

pub many_words : (m : ℕ) → Words m (many (bytes 8) m) (patterns m)
many_words m = record { enough = patterns_read m; short = patterns_short m }

-- m numbers, and what follows them
abbrev pub both_at : {A B : Type 0} → ℕ → (List ℕ → A) → (List ℕ → B) → List ℕ → Both A (λ a. B)
both_at m f g l = record { first = f l; second = g (drop (8 * m) l) }

module _ {A B : Type 0} {m k : ℕ} {F : Form A} {G : Form B} {f : List ℕ → A} {g : List ℕ → B} where
  pub then_words : Words m F f → Words k G g → Words (m + k) (then F (λ a. G)) (both_at m f g)
  then_words X Y = record { enough = all; short = λ l h. fewer l h (ltb (length l) (8 * m)) refl }
    where
      all : (l : List ℕ) → 8 * (m + k) ≤ length l → (then F (λ a. G)).read l ≡ got (both_at m f g l) (drop (8 * (m + k)) l)
      all l h =
          let e : 8 * m + 8 * k ≡ 8 * (m + k) = omega arith in
          rw (X.enough l (omega arith), Y.enough (drop (8 * m) l) (rw (length-drop (8 * m) l) (omega arith)))
          (ap (λ (r : List ℕ). got (both_at m f g l) r) (drop-drop (8 * k) (8 * m) l ∙ ap (λ (i : ℕ). drop i l) e))

      fewer : (l : List ℕ) → length l < 8 * (m + k) → (t : Bool) → ltb (length l) (8 * m) ≡ t → (then F (λ a. G)).read l ≡ bad
      fewer l h true t = rw (X.short l (ltb-true (length l) (8 * m) t))
      fewer l h false t =
          let s = ltb-false (length l) (8 * m) t in
          rw (X.enough l s, Y.short (drop (8 * m) l) (rw (length-drop (8 * m) l) (omega arith)))

pub through_words : {A B : Type 0} {n : ℕ} {F : Form A} {f : List ℕ → A} (to : A → B) (from : B → A) → Words n F f
    → Words n (through to from F) (λ l. to (f l))
through_words to from X = record { enough = λ l h. rw (X.enough l h); short = λ l h. rw (X.short l h) }

empty : (l : List ℕ) → length l ≡ 0 → l ≡ []
empty [] e = refl
empty (x ∷ l) e = absurd (omega arith)

left_over : {A : Type 0} (a : A) (r : List ℕ) → 0 < length r → no_rest a r ≡ bad
left_over a [] h = absurd (omega arith)
left_over a (x ∷ r) h = refl

module _ {A : Type 0} {n : ℕ} {F : Form A} {f : List ℕ → A} (X : Words n F f) (l : List ℕ) where
  -- as many bytes as the numbers have
  pub words_whole : length l ≡ 8 * n → read_whole F l ≡ got (f l) []
  words_whole e =
      let z : length (drop (8 * n) l) ≡ 0 = rw (length-drop (8 * n) l) (omega arith) in
      rw (X.enough l (omega arith), empty (drop (8 * n) l) z)

  -- fewer or more
  pub words_bad : (length l ≡ 8 * n → ⊥) → read_whole F l ≡ bad
  words_bad ne = go (ltb (length l) (8 * n)) refl
    where
      go : (t : Bool) → ltb (length l) (8 * n) ≡ t → read_whole F l ≡ bad
      go true t = rw (X.short l (ltb-true (length l) (8 * n) t))
      go false t =
          let s = ltb-false (length l) (8 * n) t in
          rw (X.enough l s) (left_over (f l) (drop (8 * n) l) (rw (length-drop (8 * n) l) (omega (arith, ne))))
