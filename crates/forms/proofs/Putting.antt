-- Bytes put into a slice one after the other.
use mathlib.Core.Path.{◌≡◌, refl, sym, ap, ◌∙◌}
use mathlib.Core.Bool.{Bool, true, false, cond}
use mathlib.Core.List.{List, [], ◌∷◌, ◌++◌, append-nil, append_assoc}
use Prim.Native.Nat.{ℕ, zero, suc, ◌+◌, ◌*◌, ◌-◌, ◌/◌, ◌%◌, ◌^◌, ◌≤◌, ◌<◌}
use native.Mathlib.Omega.{arith}
use native.Mathlib.Numerals.{add-one}
use borrow.Rule.Slice.PartMut.{put_mid}
use Rattle.std.specs.Int.{w64, to_le_bytes}
use lib.Dec.{ltb}
use lib.ListN.{length, drop, set, get_or, length-append, drop_of_length-le}
use lib.Seq.{drop-cons}
use Rattle.window.specs.Rows.{written}
use Rattle.window.proofs.Written.{written_next, written_length, written_none, set_written, set_next}
use borrow.Author.Tests.{lt-ltb, le-ltb}
use Rattle.forms.specs.Groups.{groups_of}
use Rattle.forms.specs.Form.{Form, bytes, low_bytes, write_all}
use Rattle.forms.proofs.Exact.{length_low}

-- ---- a number's groups
module _ (n : ℕ) where
  pub one_group : n < 128 → groups_of 3 n ≡ n ∷ []
  unfolding groups_of
  one_group h = rw (lt-ltb n 128 h)

  pub two_groups : 128 ≤ n → n / 128 < 128 → groups_of 3 n ≡ (128 + n % 128) ∷ (n / 128) ∷ []
  unfolding groups_of
  two_groups h g = rw (le-ltb n 128 h, lt-ltb (n / 128) 128 g)

  pub three_groups : n < 2097152 → 128 ≤ n / 128 → groups_of 3 n ≡ (128 + n % 128) ∷ (128 + n / 128 % 128) ∷ (n / 128 / 128) ∷ []
  unfolding groups_of
  three_groups h g = rw (le-ltb n 128 (omega arith), le-ltb (n / 128) 128 g, lt-ltb (n / 128 / 128) 128 (omega arith))

-- at most k groups
pub groups_most : (k n : ℕ) → length (groups_of k n) ≤ k
unfolding groups_of
groups_most zero n = omega arith
groups_most (suc k) n = go (ltb n 128) (groups_most k (n / 128))
  where
    go : (b : Bool) → length (groups_of k (n / 128)) ≤ k → length (cond b (n ∷ []) ((128 + n % 128) ∷ groups_of k (n / 128))) ≤ suc k
    go true h = omega arith
    go false h = omega arith

-- ---- two and three bytes
module _ (l : List ℕ) (p a b : ℕ) where
  pub two_bytes : p + 1 < length l → set (set l p a) (p + 1) b ≡ written p (a ∷ b ∷ []) l
  two_bytes h = ap (λ (t : List ℕ). set t (p + 1) b) (set_written l p a (omega arith)) ∙ set_next p (a ∷ []) l b h

  pub three_bytes : (d : ℕ) → p + 2 < length l → set (set (set l p a) (p + 1) b) (p + 2) d ≡ written p (a ∷ b ∷ d ∷ []) l
  three_bytes d h = ap (λ (t : List ℕ). set t (p + 2) d) (two_bytes (omega arith)) ∙ set_next p (a ∷ b ∷ []) l d h

-- ---- eight bytes, as the language has them
module _ (n : ℕ) where
  pub word_bytes : to_le_bytes w64 n ≡ low_bytes 8 n
  unfolding low_bytes
  word_bytes =
      let a : n / 256 ^ 1 ≡ n / 256 = omega arith in
      let b : n / 256 ^ 2 ≡ n / 256 / 256 = omega arith in
      let c : n / 256 ^ 3 ≡ n / 256 / 256 / 256 = omega arith in
      let d : n / 256 ^ 4 ≡ n / 256 / 256 / 256 / 256 = omega arith in
      let e : n / 256 ^ 5 ≡ n / 256 / 256 / 256 / 256 / 256 = omega arith in
      let f : n / 256 ^ 6 ≡ n / 256 / 256 / 256 / 256 / 256 / 256 = omega arith in
      let g : n / 256 ^ 7 ≡ n / 256 / 256 / 256 / 256 / 256 / 256 / 256 = omega arith in
      λ i. n % 256 ∷ a i % 256 ∷ b i % 256 ∷ c i % 256 ∷ d i % 256 ∷ e i % 256 ∷ f i % 256 ∷ g i % 256 ∷ []

  pub put_bytes : (l v : List ℕ) (at m : ℕ) → m ≡ 8 → v ≡ to_le_bytes w64 n → put_mid at m l v ≡ written at (low_bytes 8 n) l
  put_bytes l v at m h e =
      let k : at + length (low_bytes 8 n) - at ≡ m = omega (arith, length_low 8 n) in
      let w : v ≡ low_bytes 8 n = e ∙ word_bytes in
      rw (w, k)

-- ---- many numbers
pub length_words : (l : List ℕ) → length (write_all (bytes 8) l) ≡ 8 * length l
length_words [] = refl
length_words (x ∷ l) = length-append (low_bytes 8 x) (write_all (bytes 8) l) ∙ omega (arith, length_low 8 x, length_words l)

-- the patterns from i on, put from place at + 8 * i on, give the whole
abbrev pub Left : List ℕ → ℕ → List ℕ → List ℕ → ℕ → Type 0
Left file₀ at patterns file i =
    written (at + 8 * i) (write_all (bytes 8) (drop i patterns)) file ≡ written at (write_all (bytes 8) patterns) file₀

pub words_first : (file : List ℕ) (at : ℕ) (patterns : List ℕ) → Left file at patterns file 0
words_first file at patterns = ap (λ (n : ℕ). written n (write_all (bytes 8) patterns) file) {x = at + 8 * 0} {y = at} (omega arith)

pub word_length : (at n : ℕ) (file : List ℕ) → at + 8 ≤ length file → length (written at (low_bytes 8 n) file) ≡ length file
word_length at n file h = written_length at (low_bytes 8 n) file (omega (arith, length_low 8 n))

module _ (file₀ : List ℕ) (at : ℕ) (patterns file : List ℕ) (i : ℕ) where
  pub words_next : (x : ℕ) → i < length patterns → at + 8 * i + 8 ≤ length file → x ≡ get_or patterns i 0 → Left file₀ at patterns file i
      → Left file₀ at patterns (written (at + 8 * i) (low_bytes 8 x) file) (i + 1)
  words_next x h g q e =
      let w = low_bytes 8 x in
      let u = write_all (bytes 8) (drop (i + 1) patterns) in
      let p : at + 8 * (i + 1) ≡ at + 8 * i + length w = omega (arith, length_low 8 x) in
      let d : drop i patterns ≡ x ∷ drop (i + 1) patterns = rw (add-one, q, drop-cons patterns i 0 h) in
      ap (λ (n : ℕ). written n u (written (at + 8 * i) w file)) p
      ∙ written_next (at + 8 * i) w file u (omega (arith, length_low 8 x))
      ∙ ap (λ (c : List ℕ). written (at + 8 * i) (write_all (bytes 8) c) file) (sym d) ∙ e

  pub words_last : length patterns ≤ i → Left file₀ at patterns file i → file ≡ written at (write_all (bytes 8) patterns) file₀
  words_last h e =
      sym (ap (λ (c : List ℕ). written (at + 8 * i) (write_all (bytes 8) c) file) (drop_of_length-le patterns h)
      ∙ written_none (at + 8 * i) file) ∙ e

-- ---- one after the other
-- v was put from a on, and n is the place after it
pub record Put (a : ℕ) (v before after : List ℕ) (n : ℕ) : Type 0 where
  pub now : after ≡ written a v before
  pub next : n ≡ a + length v

pub put_none : (a : ℕ) (l : List ℕ) → Put a [] l l a
put_none a l = record { now = sym (written_none a l); next = omega arith }

-- what was put next
pub put_more : {a n m : ℕ} {v u before between after : List ℕ} → n ≤ length before → Put a v before between n → Put n u between after m
    → Put a (v ++ u) before after m
put_more {a} {n} {m} {v} {u} {before} {between} {after} h p q = record {
  now =
      q.now ∙ (λ i. written (p.next i) u (p.now i)) ∙ written_next a v before u (omega (arith, p.next));
  next = omega (arith, p.next, q.next, length-append v u);
}

-- nothing gets longer
pub put_length : {a n : ℕ} {v before after : List ℕ} → n ≤ length before → Put a v before after n → length after ≡ length before
put_length {a} {n} {v} {before} {after} h p = ap length p.now ∙ written_length a v before (omega (arith, p.next))

-- one value more of many
pub write_more : {A : Type 0} (F : Form A) (l : List A) (x : A) → write_all F (l ++ (x ∷ [])) ≡ write_all F l ++ F.write x
write_more F [] x = append-nil (F.write x)
write_more F (y ∷ l) x = ap (λ (t : List ℕ). F.write y ++ t) (write_more F l x) ∙ sym
    (append_assoc (F.write y) (write_all F l) (F.write x))
