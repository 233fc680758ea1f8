-- Laws of the text that is gathered in a buffer.
use Rattle.std.proofs.Common.{◌≡◌, ℕ, zero, suc, ◌+◌, ◌-◌, ◌*◌, ◌/◌, ◌%◌, ◌^◌, ◌<◌, ◌≤◌, min, Bool, true, false, ltb, List, [], ◌∷◌, ◌++◌, length, get_or, take, drop, set, sym, refl, ap, ◌∙◌, append_assoc, append-nil, le_of_suc-le-suc, not-suc-le-zero, add-one, arith, take_all, take-suc, pow-add, ltb-false, ltb-true, le-ltb, lt-ltb}
use Rattle.std.proofs.Math.Seq.{sets}
use Rattle.std.proofs.lemmas.List.{length-set}
use Rattle.std.proofs.lemmas.List.Edits.{sets-eq}
use Rattle.std.proofs.lemmas.Slice.{put_mid-paste}
use borrow.Rule.Slice.PartMut.{put_mid}
use lib.Ieee.{Float, nan}
use lib.Seq.{paste, take-length}
use Rattle.io.specs.Digits.{last_digits, IsDigitCount}
use Rattle.listing.specs.Output.{put, printed, decimal_digits, cell_text, cells_text}

-- one text after the other
pub printed_append : (g : List ℕ × ℕ) (a b : List ℕ) → printed g (a ++ b) ≡ printed (printed g a) b
unfolding printed
printed_append g [] b = refl
printed_append g (x ∷ a) b = printed_append (put g x) a b

-- one byte
pub printed_one : (g : List ℕ × ℕ) (b : ℕ) → printed g (b ∷ []) ≡ put g b
unfolding printed
printed_one g b = refl

-- one byte, and some
pub printed_more : (g : List ℕ × ℕ) (b : ℕ) (bs : List ℕ) → printed g (b ∷ bs) ≡ printed (put g b) bs
unfolding printed
printed_more g b bs = refl

-- no byte
pub printed_none : (g : List ℕ × ℕ) → g ≡ printed g []
unfolding printed
printed_none g = refl

-- the bytes of a list up to i + 1
pub bytes_next : (g : List ℕ × ℕ) (words : List ℕ) (i : ℕ) → i < length words
    → put (printed g (take i words)) (get_or words i 0) ≡ printed g (take (i + 1) words)
bytes_next g words i h =
    let e : take (i + 1) words ≡ take i words ++ (get_or words i 0 ∷ []) = ap (λ n. take n words) (add-one i) ∙ take-suc words i 0 h in
    sym (ap (printed g) e ∙ printed_append g (take i words) (get_or words i 0 ∷ []) ∙ printed_one _ _)

cells_append : (a b : List Float) → cells_text (a ++ b) ≡ cells_text a ++ cells_text b
unfolding cells_text
cells_append [] b = refl
cells_append (x ∷ a) b = ap (λ l. cell_text x ++ l) (cells_append a b) ∙ sym (append_assoc (cell_text x) (cells_text a) (cells_text b))

-- one cell
cells_one : (x : Float) → cells_text (x ∷ []) ≡ cell_text x
unfolding cells_text
cells_one x = append-nil (cell_text x)

-- the cells of a list up to i + 1
pub cells_next : (g : List ℕ × ℕ) (list : List Float) (i : ℕ) → i < length list
    → printed (printed g (cells_text (take i list))) (cell_text (get_or list i nan)) ≡ printed g (cells_text (take (i + 1) list))
cells_next g list i h =
    let x = get_or list i nan in
    let e : take (i + 1) list ≡ take i list ++ (x ∷ []) = ap (λ n. take n list) (add-one i) ∙ take-suc list i nan h in
    let k : cells_text (take (i + 1) list) ≡ cells_text (take i list) ++ cell_text x =
    ap cells_text e ∙ cells_append (take i list) (x ∷ []) ∙ ap (λ l. cells_text (take i list) ++ l) (cells_one x)
    in
    sym (ap (printed g) k ∙ printed_append g (cells_text (take i list)) (cell_text x))

at_least_one : (r : ℕ) → 1 ≤ 10 ^ r
at_least_one zero = omega arith
at_least_one (suc r) = omega (arith, at_least_one r)

-- the fewest digits that hold a number are its decimal digits
pub fewest_digits : (k r n : ℕ) → IsDigitCount 10 1 n r → r ≤ k → last_digits 10 r n ≡ decimal_digits k n
unfolding decimal_digits
fewest_digits k zero n f h = absurd (not-suc-le-zero f.0)
fewest_digits zero (suc r) n f h = absurd (not-suc-le-zero h)
fewest_digits (suc k) (suc zero) n f h =
    let l : n < 10 = f.1 in
    let e : n % 10 ≡ n = omega arith in
    rw (lt-ltb n 10 l, e, lt-ltb n 10 l)
fewest_digits (suc k) (suc (suc r)) n f h =
    let e : suc (suc r) - 1 ≡ suc r = omega arith in
    let p : 10 ^ suc r ≤ n = rw (ap (λ (k : ℕ). 10 ^ k) e) at (f.2 (omega arith)) in
    let q : 10 ≤ n = omega (arith, at_least_one r) in
    let m : n % 10 < 10 = omega arith in
    let a : n / 10 < 10 ^ suc r = omega (arith, f.1) in
    let b : 1 < suc r → 10 ^ (suc r - 1) ≤ n / 10 = λ _. (let d : suc r - 1 ≡ r = omega arith in rw d (omega (arith, p))) in
    rw (le-ltb n 10 q, lt-ltb (n % 10) 10 m)
    (ap (λ l. l ++ ((48 + n % 10) ∷ [])) (fewest_digits k (suc r) (n / 10) (omega arith, a, b) (le_of_suc-le-suc h)))

-- 20 digits hold a number below 2^64
pub few_digits : (r n : ℕ) → n < 18446744073709551616 → IsDigitCount 10 1 n r → r ≤ 20
few_digits r n h f = go (ltb 20 r) refl
  where
    many : (k : ℕ) → 10 ^ (20 + k) ≤ n → ⊥
    many k g = let e : 10 ^ (20 + k) ≡ 100000000000000000000 * 10 ^ k = pow-add 10 20 k in omega (arith, at_least_one k)

    go : (b : Bool) → ltb 20 r ≡ b → r ≤ 20
    go false e = ltb-false 20 r e
    go true e =
        let l : 20 < r = ltb-true 20 r e in
        let k : r - 1 ≡ 20 + (r - 21) = omega arith in
        absurd (many (r - 21) (rw k at (f.2 (omega arith))))

-- a byte where there is room
pub put_room : (out : List ℕ) (at b : ℕ) → at < length out → put (out, at) b ≡ (set out at b, at + 1)
unfolding put
put_room out at b h = rw (lt-ltb at (length out) h)

-- and where there is none
pub put_full : (out : List ℕ) (at b : ℕ) → length out ≤ at → put (out, at) b ≡ (set out 0 b, min 1 (length out))
unfolding put
put_full out at b h = rw (le-ltb at (length out) h)

-- a text that there is room for, a byte at a time
text_room : (words out : List ℕ) (at : ℕ) → at + length words ≤ length out
    → printed (out, at) words ≡ (sets out at words, at + length words)
unfolding printed
text_room [] out at h = ap (λ n. (out, n)) (omega arith)
text_room (b ∷ words) out at h =
    let l : suc at + length words ≤ length (set out at b) = omega (arith, length-set out at b) in
    let e : suc at + length words ≡ at + length (b ∷ words) = omega arith in
    ap (λ g. printed g words) (put_room out at b (omega arith))
    ∙ ap (λ n. printed (set out at b, n) words) (add-one at)
    ∙ text_room words (set out at b) (suc at) l
    ∙ ap (λ n. (sets out at (b ∷ words), n)) e

-- and at once: `part` is what is copied, k its length
pub text_at_once : (words out part : List ℕ) (at k : ℕ) → at + length words ≤ length out → part ≡ words → length words ≡ k
    → (put_mid at k out part, at + length words) ≡ printed (out, at) words
text_at_once words out part at k h e n =
    let pasted : put_mid at k out part ≡ paste out at words (length words) = put_mid-paste at k out part words (length words) e n refl in
    let whole : paste out at words (length words) ≡ sets out at words =
    ap (λ t. take at out ++ t ++ drop (at + length words) out) (take-length words) ∙ sym (sets-eq words out at h)
    in
    ap (λ o. (o, at + length words)) (pasted ∙ whole) ∙ sym (text_room words out at h)

-- no cell
pub cells_none : (g : List ℕ × ℕ) → g ≡ printed g (cells_text [])
unfolding printed cells_text
cells_none g = refl

-- what lies in a list is taken whole by each number from its length on
pub same_take : {A : Type 0} (n i : ℕ) (l : List A) → length l ≤ i → i ≤ n → take i l ≡ take n l
same_take n i l h g = take_all i l h ∙ sym (take_all n l (omega arith))

-- no more lies in a list than its length
pub take_min : {A : Type 0} (k n : ℕ) (l : List A) → k ≡ min n (length l) → take k l ≡ take n l
take_min k n l e = go (ltb n (length l)) refl
  where
    go : (b : Bool) → ltb n (length l) ≡ b → take k l ≡ take n l
    go true h = let w : n < length l = ltb-true n (length l) h in let m : k ≡ n = omega arith in ap (λ i. take i l) m
    go false h = let w : length l ≤ n = ltb-false n (length l) h in let m : k ≡ length l = omega arith in same_take n k l (omega arith) (omega arith)

-- a byte, and a text after it
pub byte_then : (g : List ℕ × ℕ) (a : ℕ) {p q : List ℕ × ℕ} {s t : List ℕ} → q ≡ printed p s → p ≡ put g a → s ≡ t → q ≡ printed g (a ∷ t)
byte_then g a {s = s} e k h = e ∙ ap (λ o. printed o s) k ∙ sym (printed_more g a s) ∙ ap (λ l. printed g (a ∷ l)) h

-- three texts, one after the other
pub three_texts : (g : List ℕ × ℕ) (a b c : List ℕ) {o p : List ℕ × ℕ} → p ≡ printed o b → o ≡ printed g a
    → printed p c ≡ printed g (a ++ (b ++ c))
three_texts g a b c e k =
    ap (λ o. printed o c) (e ∙ ap (λ o. printed o b) k) ∙ sym (printed_append g a (b ++ c) ∙ printed_append (printed g a) b c)
