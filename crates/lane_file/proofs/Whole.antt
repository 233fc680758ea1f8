-- When all of a file reads, and what it then is: the numbers at their places in the bytes.
use mathlib.Core.Path.{◌≡◌, refl, sym, ap, ◌∙◌}
use mathlib.Core.List.{List, [], ◌∷◌, map}
use Prim.Native.Nat.{ℕ, suc, ◌+◌, ◌-◌, ◌*◌, ◌<◌}
use native.Mathlib.Omega.{arith}
use lib.ListN.{length, take, drop, get_or, length-drop}
use lib.Seq.{drop-drop}
use Rattle.encoding.specs.Bytes.{low_first, wholes_of, floats_of}
use Rattle.forms.specs.Read.{Read, got, bad, after, Bytes}
use Rattle.forms.specs.Form.{no_rest, read_whole}
use Rattle.forms.proofs.Exact.{pair, whole_only}
use Rattle.forms.proofs.Numbers.{patterns, patterns_floats, patterns_wholes}
use Rattle.forms.proofs.Words.{Words, both_at, one_word, many_words, then_words, through_words, words_whole, words_bad}
use Rattle.lane_file.specs.declared.head.FoundHead.{FoundHead}
use Rattle.lane_file.specs.File.{Head, head_form, Patterns, join_patterns, split_patterns, break_count, coefficient_count, patterns_form, contents, file_form}
use Rattle.lane_file.specs.Curves.{cells, widened, number_of, mode_of, curve_of, cells_of}
use Rattle.lane_file.specs.Reading.{head_in, HeadAt, word_count, set_place, other_place, breaks_at, coefficients_at, cells_at, curve_at, FileAt}
use Rattle.lane_file.proofs.Spelling.{file_exact}
use Rattle.lane_file.proofs.Heads.{head_small}

-- ---- the numbers behind a head
module _ (h : Head) where
  abbrev b : ℕ
  b = break_count h.segments

  abbrev k : ℕ
  k = coefficient_count h.segments h.k

  abbrev ob : ℕ
  ob = break_count h.other_segments

  abbrev ok : ℕ
  ok = coefficient_count h.other_segments (h.d - h.k)

  -- how many there are
  abbrev pub words : ℕ
  words = 1 + (1 + (b + (k + (ob + ok))))

  abbrev word : List ℕ → ℕ
  word l = low_first (take 8 l)

  -- what they are
  abbrev pub patterns_at : List ℕ → Patterns
  patterns_at l = join_patterns (both_at 1 word (both_at 1 word (both_at b (patterns b)
      (both_at k (patterns k) (both_at ob (patterns ob) (patterns ok))))) l)

  pub patterns_words : Words words (patterns_form h) patterns_at
  patterns_words =
      through_words join_patterns split_patterns
      (then_words one_word (then_words one_word (then_words (many_words b) (then_words (many_words k)
      (then_words (many_words ob) (many_words ok))))))

-- ---- the head, then the numbers
last_part : (h : Head) (x : Patterns) (s : List ℕ) → no_rest (contents h x) s ≡ after (no_rest x s) (λ x s. got (contents h x) s)
last_part h x [] = refl
last_part h x (y ∷ s) = refl

module _ (l : List ℕ) where
  pub file_unread : head_form.read l ≡ bad → read_whole file_form l ≡ bad
  file_unread e = rw e

  module _ (h : Head) (r : List ℕ) (e : head_form.read l ≡ got h r) where
    parted : read_whole file_form l ≡ after (read_whole (patterns_form h) r) (λ x s. got (contents h x) s)
    parted = rw e (go ((patterns_form h).read r))
      where
        go : (o : Read Patterns)
            → after (after (after o (pair {A = Head} {B = λ h. Patterns} h)) (λ p s. got (contents p.first p.second) s)) no_rest
            ≡ after (after o no_rest) (λ x s. got (contents h x) s)
        go (got x s) = last_part h x s
        go bad = refl

    pub file_bad : (length r ≡ 8 * words h → ⊥) → read_whole file_form l ≡ bad
    file_bad ne = parted ∙ ap (λ (o : Read Patterns). after o (λ x s. got (contents h x) s)) (words_bad (patterns_words h) r ne)

    pub file_whole : length r ≡ 8 * words h → read_whole file_form l ≡ got (contents h (patterns_at h r)) []
    file_whole n = parted ∙ ap (λ (o : Read Patterns). after o (λ x s. got (contents h x) s)) (words_whole (patterns_words h) r n)

-- ---- bytes
pub bytes_of : (l : List ℕ) → ((i : ℕ) → get_or l i 0 < 256) → Bytes l
bytes_of [] h = tt
bytes_of (x ∷ l) h = (h 0, bytes_of l (λ i. h (suc i)))

-- ---- in the words of the code
module _ (l : List ℕ) (f : FoundHead) (H : HeadAt l f) where
  abbrev head : Head
  head = head_in f H.axes

  abbrev rest : List ℕ
  rest = drop f.next l

  abbrev count : ℕ
  count = word_count f.d f.k f.segments f.other_segments

  pub whole_bad : (length l - f.next ≡ 8 * count → ⊥) → read_whole file_form l ≡ bad
  whole_bad ne = file_bad l head rest H.read (λ e. ne (omega (arith, length-drop f.next l, e)))

  -- the numbers, in the words of the code
  further : (a b : ℕ) → drop b (drop a rest) ≡ drop (f.next + (a + b)) l
  further a b = drop-drop b a rest ∙ drop-drop (a + b) f.next l

  module _ (at n : ℕ) (r : List ℕ) (e : r ≡ drop at l) where
    pub breaks_are : map number_of (patterns (break_count n) r) ≡ breaks_at l at n
    breaks_are = patterns_floats (break_count n) r ∙ ap (floats_of (break_count n)) e

    pub coefficients_are : (m : ℕ) → patterns (coefficient_count n m) (drop (8 * break_count n) r) ≡ coefficients_at l at n m
    coefficients_are m =
        patterns_wholes (coefficient_count n m) (drop (8 * break_count n) r)
        ∙ ap (wholes_of (coefficient_count n m)) (ap (drop (8 * break_count n)) e ∙ drop-drop (8 * break_count n) at l)

  set_rest : drop (8 * 1) (drop (8 * 1) rest) ≡ drop (set_place f) l
  set_rest = further 8 8

  other_rest : drop (8 * coefficient_count f.segments f.k) (drop (8 * break_count f.segments) (drop (8 * 1) (drop (8 * 1) rest)))
      ≡ drop (other_place f) l
  other_rest =
      let b = break_count f.segments in
      let k = coefficient_count f.segments f.k in
      let e : set_place f + (8 * b + 8 * k) ≡ other_place f = omega arith in
      drop-drop (8 * k) (8 * b) (drop (8 * 1) (drop (8 * 1) rest)) ∙ ap (drop (8 * b + 8 * k)) set_rest
      ∙ drop-drop (8 * b + 8 * k) (set_place f) l ∙ ap (λ (i : ℕ). drop i l) e

  cells_are : cells_of (patterns_at head rest) ≡ cells_at l f
  cells_are =
      λ i. widened (cells
      (breaks_are (set_place f) f.segments _ set_rest i) (coefficients_are (set_place f) f.segments _ set_rest f.k i)
      (breaks_are (other_place f) f.other_segments _ other_rest i)
      (coefficients_are (other_place f) f.other_segments _ other_rest (f.d - f.k) i))

  curve_is : curve_of (contents head (patterns_at head rest)) ≡ curve_at l f
  curve_is = λ i. record {
    d = f.d;
    k = f.k;
    axes = sym H.held i;
    start = number_of (low_first (take 8 rest));
    end = number_of (low_first (take 8 (drop-drop 8 f.next l i)));
    mode = mode_of f.mode;
    segments = f.segments;
    other_segments = f.other_segments;
  }

  pub whole_read : Bytes l → length l - f.next ≡ 8 * count → FileAt l f
  whole_read B e =
      let z = head_small head l rest B H.read in
      let x = contents head (patterns_at head rest) in
      let r = file_whole l head rest H.read (omega (arith, length-drop f.next l, e)) in
      let s = whole_only file_form file_exact x l [] B r in
      record {
        contents = x;
        read = r;
        good = s.1;
        spelled = s.0;
        curve = curve_is;
        cells = cells_are;
        long = omega (arith, e, H.ended);
        d_small = z.d_small;
        k_high = z.k_high;
        segments_small = z.segments_small;
        others_small = z.others_small;
      }
