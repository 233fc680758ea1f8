-- The laws of `written`: a list that is written from the front on, and elements of a list with a part replaced.
use mathlib.Core.Path.{◌≡◌, sym, ap, ◌∙◌}
use mathlib.Core.List.{List, [], ◌∷◌, ◌++◌, append_assoc, append-nil}
use Prim.Native.Nat.{ℕ, suc, ◌+◌, ◌-◌, ◌*◌, ◌≤◌, ◌<◌}
use native.Mathlib.Omega.{arith}
use native.Mathlib.Numerals.{add-one}
use lib.ListN.{length, take, drop, get_or, set, length-append, take-append-drop, get_or-append}
use lib.Seq.{take_at, drop_at, take-take, drop-drop, length-take-le, set_split, drop-length, get_or-append-add, get_or-take, get_or-drop, take-append-le, drop-append-le, take-append-add, drop-append-add, drop-cons, take-suc, set_at}
use Rattle.window.specs.Window.{window, splice}
use Rattle.window.proofs.Windows.{length_splice}
use Rattle.window.proofs.Seams.{drop_take, splice_plain}
use Rattle.window.specs.Rows.{join, list_of, written}
use Rattle.window.proofs.Joined.{join_length, list_length}

module _ {A : Type 0} where
  module _ (a : ℕ) (v l : List A) where
    pub written_plain : written a v l ≡ take a l ++ (v ++ drop (a + length v) l)
    written_plain = splice_plain a (a + length v) v l (omega arith)

    pub written_length : a + length v ≤ length l → length (written a v l) ≡ length l
    written_length h = length_splice a (a + length v) v l (omega arith) h (omega arith)

    -- what follows on what was written is written with it
    pub written_next : (u : List A) → a + length v ≤ length l → written (a + length v) u (written a v l) ≡ written a (v ++ u) l
    written_next u h =
        let n = length v in
        let k : length (take a l ++ v) ≡ a + n = length-append (take a l) v ∙ ap (λ (i : ℕ). i + n) (length-take-le a l (omega arith)) in
        let w : written a v l ≡ (take a l ++ v) ++ drop (a + n) l = written_plain ∙ sym (append_assoc (take a l) v (drop (a + n) l)) in
        splice_plain (a + n) (a + n + length u) u (written a v l) (omega arith)
        ∙ rw (
          w,
          take_at (take a l ++ v) (drop (a + n) l) (a + n) k,
          ← drop-drop (length u) (a + n) ((take a l ++ v) ++ drop (a + n) l),
          drop_at (take a l ++ v) (drop (a + n) l) (a + n) k,
          drop-drop (length u) (a + n) l,
        )
        (rw (append_assoc (take a l) v (u ++ drop (a + n + length u) l), ← append_assoc v u (drop (a + n + length u) l))
        (rw (let q : a + n + length u ≡ a + length (v ++ u) = rw (length-append v u) (omega arith) in q)
        (sym (splice_plain a (a + length (v ++ u)) (v ++ u) l (omega arith)))))

  -- of two writes that do not meet, either may be the first
  pub written_apart : (a b : ℕ) (v u l : List A) → a + length v ≤ b → b + length u ≤ length l → written b u (written a v l)
      ≡ written a v (written b u l)
  written_apart a b v u l h g =
      let n = length v in
      let m = b - (a + n) in
      let r = drop (a + n) l in
      let q = drop (b + length u) l in
      let k : length (take a l ++ v) ≡ a + n = length-append (take a l) v ∙ ap (λ (i : ℕ). i + n) (length-take-le a l (omega arith)) in
      let w : written a v l ≡ (take a l ++ v) ++ r = written_plain a v l ∙ sym (append_assoc (take a l) v r) in
      let eb : b ≡ length (take a l ++ v) + m = omega arith in
      let ec : b + length u ≡ length (take a l ++ v) + (m + length u) = omega arith in
      let tk : take b ((take a l ++ v) ++ r) ≡ (take a l ++ v) ++ take m r = ap (λ (i : ℕ). take i ((take a l ++ v) ++ r)) eb
      ∙ take-append-add (take a l ++ v) r m in
      let dp : drop (b + length u) ((take a l ++ v) ++ r) ≡ q =
      ap (λ (i : ℕ). drop i ((take a l ++ v) ++ r)) ec ∙ drop-append-add (take a l ++ v) r (m + length u)
      ∙ drop-drop (m + length u) (a + n) l
      ∙ ap (λ (i : ℕ). drop i l) {x = a + n + (m + length u)} {y = b + length u} (omega arith) in
      let lt : length (take b l) ≡ b = length-take-le b l (omega arith) in
      let mid : drop (a + n) (take b l) ≡ take m r = drop_take (a + n) b l in
      let left : written b u (written a v l) ≡ ((take a l ++ v) ++ take m r) ++ (u ++ q) = written_plain b u (written a v l)
      ∙ rw (w, tk, dp) in
      let y : take a (take b l ++ (u ++ q)) ≡ take a l = take-append-le a (take b l) (u ++ q) (omega arith)
      ∙ take-take a b l (omega arith) in
      let x : drop (a + n) (take b l ++ (u ++ q)) ≡ take m r ++ (u ++ q) = drop-append-le (a + n) (take b l) (u ++ q) (omega arith)
      ∙ rw mid in
      let right : written a v (written b u l) ≡ take a l ++ (v ++ (take m r ++ (u ++ q))) = written_plain a v (written b u l)
      ∙ rw (written_plain b u l, y, x) in
      left ∙ append_assoc (take a l ++ v) (take m r) (u ++ q) ∙ append_assoc (take a l) v (take m r ++ (u ++ q)) ∙ sym right

  -- one element is written
  pub set_written : (l : List A) (a : ℕ) (x : A) → a < length l → set l a x ≡ written a (x ∷ []) l
  set_written l a x h = set_split l a x h ∙ (let e : suc a ≡ a + 1 = omega arith in rw e
      (sym (splice_plain a (a + 1) (x ∷ []) l (omega arith))))

  -- one element more is written
  pub set_next : (a : ℕ) (v l : List A) (x : A) → a + length v < length l → set (written a v l) (a + length v) x
      ≡ written a (v ++ (x ∷ [])) l
  set_next a v l x h =
      set_written (written a v l) (a + length v) x (rw (written_length a v l (omega arith)) h) ∙ written_next a v l (x ∷ []) (omega arith)

  -- the same, of a list f 0, f 1, ..
  pub fill_next : (a : ℕ) (f : ℕ → A) (j : ℕ) (l : List A) (x : A) → a + j < length l → x ≡ f j → set (written a (list_of j f) l) (a + j) x
      ≡ written a (list_of (j + 1) f) l
  unfolding join
  fill_next a f j l x h e =
      let n = list_length j f in
      let g : a + length (list_of j f) < length l = omega arith in
      let k : a + j ≡ a + length (list_of j f) = omega arith in
      rw (k, add-one, e) (set_next a (list_of j f) l (f j) g)

  -- nothing is written
  pub written_none : (a : ℕ) (l : List A) → written a [] l ≡ l
  written_none a l = written_plain a [] l ∙ (let e : a + 0 ≡ a = omega arith in rw e (take-append-drop a l))

  -- one row more is written
  pub row_next : (a d i : ℕ) (f : ℕ → List A) (l : List A) → ((j : ℕ) → j < i + 1 → length (f j) ≡ d) → a + d * i ≤ length l
      → splice (a + d * i) (a + d * i + d) (f i) (written a (join i f) l) ≡ written a (join (i + 1) f) l
  unfolding join
  row_next a d i f l h g =
      let n = join_length i d f (λ j m. h j (omega arith)) in
      let k : a + d * i ≡ a + length (join i f) = omega arith in
      let r : a + length (join i f) + d ≡ a + length (join i f) + length (f i) = rw (h i (omega arith)) in
      rw (k, r, add-one) (written_next a (join i f) l (f i) (omega arith))

  -- all is written
  pub written_all : (v l : List A) → length v ≡ length l → written 0 v l ≡ v
  written_all v l h = written_plain 0 v l ∙ (let e : 0 + length v ≡ length l = omega arith in rw (e, drop-length) (append-nil v))

  -- elements of a list with a part replaced
  module _ (a e : ℕ) (v l : List A) (z : A) (fits : a ≤ length l) where
    pub splice_before : (p : ℕ) → p < a → get_or (splice a e v l) p z ≡ get_or l p z
    splice_before p h =
        get_or-append (take a l) (v ++ drop (e - a) (drop a l)) z p (rw (length-take-le a l fits) h) ∙ get_or-take a l p z h

    pub splice_inside : (p : ℕ) → a ≤ p → p < a + length v → get_or (splice a e v l) p z ≡ get_or v (p - a) z
    splice_inside p h g =
        let k = length-take-le a l fits in
        let q : p ≡ length (take a l) + (p - a) = rw k (omega arith) in
        ap (λ (i : ℕ). get_or (splice a e v l) i z) q ∙ get_or-append-add (take a l) (v ++ drop (e - a) (drop a l)) (p - a) z
        ∙ get_or-append v (drop (e - a) (drop a l)) z (p - a) (omega arith)

    pub splice_after : (p : ℕ) → a ≤ e → length v ≡ e - a → e ≤ p → get_or (splice a e v l) p z ≡ get_or l p z
    splice_after p h s g =
        let k = length-take-le a l fits in
        let q : p ≡ length (take a l) + (length v + (p - e)) = rw (k, s) (omega arith) in
        let r : a + ((e - a) + (p - e)) ≡ p = omega arith in
        ap (λ (i : ℕ). get_or (splice a e v l) i z) q ∙ get_or-append-add (take a l) (v ++ drop (e - a) (drop a l)) (length v + (p - e)) z
        ∙ get_or-append-add v (drop (e - a) (drop a l)) (p - e) z
        ∙ get_or-drop (e - a) (drop a l) (p - e) z ∙ get_or-drop a l ((e - a) + (p - e)) z ∙ ap (λ (i : ℕ). get_or l i z) r

-- cells that move right by some places, from the right on
module _ {A : Type 0} (s : List A) (n by : ℕ) where
  -- those from i up to n have moved
  abbrev pub moved : ℕ → List A
  moved i = take (i + by) s ++ (window i n s ++ drop (n + by) s)

  pub moved_none : s ≡ moved n
  moved_none = let e : n - n ≡ 0 = omega arith in rw e (sym (take-append-drop (n + by) s))

  pub moved_read : (i : ℕ) (z : A) → i < n → n + by ≤ length s → get_or (moved (i + 1)) i z ≡ get_or s i z
  moved_read i z h room =
      let k = length-take-le (i + 1 + by) s (omega arith) in
      get_or-append (take (i + 1 + by) s) (window (i + 1) n s ++ drop (n + by) s) z i (omega arith)
      ∙ get_or-take (i + 1 + by) s i z (omega arith)

  pub moved_next : (i : ℕ) (z : A) → i < n → n + by ≤ length s → set (moved (i + 1)) (i + by) (get_or s i z) ≡ moved i
  moved_next i z h room =
      let v = get_or s i z in
      let r = window (i + 1) n s ++ drop (n + by) s in
      let e : i + 1 + by ≡ suc (i + by) = omega arith in
      let q : n - i ≡ suc (n - (i + 1)) = omega arith in
      let w : window i n s ≡ v ∷ window (i + 1) n s = rw (q, drop-cons s i z (omega arith))
      (ap (λ (k : ℕ). v ∷ take (n - (i + 1)) (drop k s)) {x = suc i} {y = i + 1} (omega arith)) in
      rw (e, take-suc s (i + by) z (omega arith), append_assoc (take (i + by) s) (get_or s (i + by) z ∷ []) r)
      (set_at (take (i + by) s) (get_or s (i + by) z) r v (i + by) (length-take-le (i + by) s (omega arith)) ∙ rw w)

  pub moved_all : (from : ℕ) → from ≤ n → moved from ≡ splice (from + by) (n + by) (window from n s) s
  moved_all from h = sym (splice_plain (from + by) (n + by) (window from n s) s (omega arith))
