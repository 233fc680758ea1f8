-- What `job_of` gives at each place of the code.
use mathlib.Core.Path.{◌≡◌, refl, sym, ap, ◌∙◌, subst}
use mathlib.Core.Bool.{true, false}
use mathlib.Core.List.{List, [], ◌∷◌, ◌++◌}
use Prim.Native.Nat.{ℕ, suc, ◌+◌, ◌*◌, ◌-◌, ◌≤◌}
use native.Mathlib.Omega.{arith}
use native.Mathlib.Nat.{mul-le-mul}
use borrow.Author.Tests.{ltb-false}
use lib.ListN.{length, take, drop, length-drop, length-map}
use lib.Seq.{take_all, length-take-le}
use lib.Ieee.{Float}
use Rattle.arith.proofs.Truth.{or_none}
use Rattle.encoding.specs.Bytes.{low_first, float_of, floats_of}
use Rattle.smoothing.specs.Answer.{Answer, and_then}
use Rattle.smoothing.specs.Answer.Answer.{done, refused}
use Rattle.smoothing.proofs.Accepted.{refused_done, done_same, not_refused}
use Rattle.forms.specs.Read.{Read, got, bad, after}
use Rattle.forms.specs.Groups.{number_to, number_at}
use Rattle.std.specs.Prelude.{None}
use Rattle.forms.specs.Form.{bytes, read_bytes, read_all, no_rest, read_whole}
use Rattle.forms.proofs.Exact.{Stepped, stepped, step, not_got, pair, many_count}
use Rattle.forms.proofs.Places.{number_read, number_bad}
use Rattle.forms.proofs.Words.{Words, both_at, one_word, many_words, then_words, words_whole, words_bad}
use Rattle.forms.proofs.Numbers.{patterns, patterns_count, patterns_floats, each_front}
use Rattle.job.specs.declared.Counts.{Counts}
use Rattle.job.specs.Job.{Job, counts_form, Numbers, numbers_form, job_with, above_limits, numbered, counted, job_of}
use Rattle.job.specs.Reading.{number_of, cells_of, cells_after}

-- counts that are not above their limits
pub within_limits : (c : Counts) → above_limits c ≡ false → (c.d ≤ 2) × (c.n ≤ 100) × (c.refinements ≤ 200) × (c.segments ≤ 100)
unfolding above_limits
within_limits c e =
    let a = or_none _ _ e in
    let b = or_none _ _ a.0 in
    let f = or_none _ _ b.0 in
    (ltb-false _ _ f.0, ltb-false _ _ f.1, ltb-false _ _ b.1, ltb-false _ _ a.1)

pub few_points : (c : Counts) → above_limits c ≡ false → c.d * c.n ≤ 200
few_points c e =
    let w = within_limits c e in
    let h : c.d * c.n ≤ 2 * 100 = mul-le-mul w.0 w.1 in h

module _ (c : Counts) (l : List ℕ) where
  abbrev pub numbers_in : Numbers
  numbers_in = record { first = low_first (take 8 l); second = patterns (c.d * c.n) (drop 8 l) }

  numbers : Words (1 + c.d * c.n) (numbers_form c) (both_at 1 (λ l. low_first (take 8 l)) (patterns (c.d * c.n)))
  numbers = then_words one_word (many_words (c.d * c.n))

  -- as many bytes as the numbers have
  pub numbers_whole : length l ≡ 8 * (1 + c.d * c.n) → read_whole (numbers_form c) l ≡ got numbers_in []
  numbers_whole e = words_whole numbers l e

  -- fewer or more
  pub numbers_bad : (length l ≡ 8 * (1 + c.d * c.n) → ⊥) → read_whole (numbers_form c) l ≡ bad
  numbers_bad ne = words_bad numbers l ne

module _ (l : List ℕ) where
  pub job_unread : counts_form.read l ≡ bad → job_of l ≡ refused 25
  unfolding job_of counted
  job_unread e = rw e

  pub job_above : (c : Counts) (rest : List ℕ) → counts_form.read l ≡ got c rest → above_limits c ≡ true → job_of l ≡ refused 18
  unfolding job_of counted
  job_above c rest e w = rw (e, w)

  pub job_bad : (c : Counts) (rest : List ℕ) → counts_form.read l ≡ got c rest → above_limits c ≡ false
      → (length rest ≡ 8 * (1 + c.d * c.n) → ⊥) → job_of l ≡ refused 25
  unfolding job_of counted numbered
  job_bad c rest e w ne = rw (e, w, numbers_bad c rest ne)

  pub job_read : (c : Counts) (rest : List ℕ) → counts_form.read l ≡ got c rest → above_limits c ≡ false
      → length rest ≡ 8 * (1 + c.d * c.n) → job_of l ≡ done (job_with c (numbers_in c rest))
  unfolding job_of counted numbered
  job_read c rest e w h = rw (e, w, numbers_whole c rest h)

-- its numbers, as `encoding` reads them
pub cells_are : (c : Counts) (l : List ℕ) → cells_of (job_with c (numbers_in c l)) ≡ floats_of (1 + c.d * c.n) l
cells_are c l =
    let e : 1 + c.d * c.n ≡ suc (c.d * c.n) = omega arith in
    rw (e, each_front float_of (c.d * c.n) l) (ap (λ (t : List Float). float_of (take 8 l) ∷ t) (patterns_floats (c.d * c.n) (drop 8 l)))

-- ---- the four counts, as the code reads them
module _ (l : List ℕ) where
  pub unread1 : None ≡ number_at l 0 → bad ≡ counts_form.read l
  unread1 p = rw (number_bad l 0 p)

  module _ (d a : ℕ) (p : number_to d a ≡ number_at l 0) where
    pub unread2 : None ≡ number_at l a → bad ≡ counts_form.read l
    unread2 q = rw ((number_read l 0 d a p).0, number_bad l a q)

    module _ (n b : ℕ) (q : number_to n b ≡ number_at l a) where
      pub unread3 : None ≡ number_at l b → bad ≡ counts_form.read l
      unread3 u = rw ((number_read l 0 d a p).0, (number_read l a n b q).0, number_bad l b u)

      module _ (r e : ℕ) (u : number_to r e ≡ number_at l b) where
        pub unread4 : None ≡ number_at l e → bad ≡ counts_form.read l
        unread4 w = rw ((number_read l 0 d a p).0, (number_read l a n b q).0, (number_read l b r e u).0, number_bad l e w)

        pub all_read : (s k : ℕ) → number_to s k ≡ number_at l e
            → (got (record { d = d; n = n; refinements = r; segments = s }) (drop k l) ≡ counts_form.read l) × (k ≤ length l)
        all_read s k w =
            let last = number_read l e s k w in
            (rw ((number_read l 0 d a p).0, (number_read l a n b q).0, (number_read l b r e u).0, last.0), last.1)

-- ---- the answers of the code
module _ (l : List ℕ) (cells : List Float) where
  abbrev Answered : Answer Counts → List Float → Type 0
  Answered told after = (told ≡ and_then (job_of l) (λ j. done j.counts)) × (after ≡ cells_after (job_of l) cells)

  pub refused_read : (k : ℕ) → job_of l ≡ refused k → Answered (refused k) cells
  unfolding and_then cells_after
  refused_read k e = (
    sym (ap (λ (x : Answer Job). and_then x (λ j. done j.counts)) e),
    sym (ap (λ (x : Answer Job). cells_after x cells) e),
  )

  pub done_read : (c : Counts) (rest : List ℕ) (after : List Float) → job_of l ≡ done (job_with c (numbers_in c rest))
      → after ≡ floats_of (1 + c.d * c.n) rest ++ drop (1 + c.d * c.n) cells → Answered (done c) after
  unfolding and_then cells_after
  done_read c rest after e h = (
    sym (ap (λ (x : Answer Job). and_then x (λ j. done j.counts)) e),
    h ∙ stands ∙ sym (ap (λ (x : Answer Job). cells_after x cells) e),
  )
    where
      j : Job
      j = job_with c (numbers_in c rest)

      stands : floats_of (1 + c.d * c.n) rest ++ drop (1 + c.d * c.n) cells ≡ cells_of j ++ drop (length (cells_of j)) cells
      stands =
          let m = c.d * c.n in
          let f = cells_are c rest in
          let e : suc m ≡ 1 + m = omega arith in
          let g : length (cells_of j) ≡ 1 + m =
          ap suc (length-map (patterns m (drop 8 rest)) number_of ∙ patterns_count m (drop 8 rest)) ∙ e in
          (λ i. sym f i ++ drop (sym g i) cells)

-- the numbers, put to the first cells
pub put_numbers : (l : List ℕ) (next m : ℕ) (cells v : List Float) → m ≤ length cells → next ≤ length l
    → v ≡ floats_of (length (take (m - 0) cells)) (take (length l - next) (drop next l)) → v ++ drop (m - 0) cells
    ≡ floats_of m (drop next l) ++ drop m cells
put_numbers l next m cells v h k e =
    let a : m - 0 ≡ m = omega arith in
    let p : length (take (m - 0) cells) ≡ m = rw a (length-take-le m cells h) in
    let q = take_all (length l - next) (drop next l) (rw (length-drop next l) (omega arith)) in
    let x : v ≡ floats_of m (drop next l) =
    e ∙ ap (λ (i : ℕ). floats_of i (take (length l - next) (drop next l))) p ∙ ap (λ (t : List ℕ). floats_of m t) q in
    rw (x, a)

-- a point for each axis of each waypoint
pub point_count : (l : List ℕ) (j : Job) → job_of l ≡ done j → length j.points ≡ j.counts.d * j.counts.n
unfolding job_of counted numbered
point_count l j e = first (counts_form.read l) e
  where
    points : (c : Counts) (p : Numbers) (r rest : List ℕ) (t : ℕ)
        → Stepped (read_all (bytes 8) (c.d * c.n) r) (pair {A = ℕ} {B = λ _. List ℕ} t) p rest → length p.second ≡ c.d * c.n
    points c p r rest t (stepped vs s e f) =
        let q : ◌≡◌ {A = Numbers} (record { first = t; second = vs }) p = cc in
        sym (ap (λ (p : Numbers). length p.second) q) ∙ many_count (bytes 8) (c.d * c.n) r vs s e

    numbers : (c : Counts) (p : Numbers) (l rest : List ℕ)
        → Stepped (read_bytes 8 l) (λ t r. after (read_all (bytes 8) (c.d * c.n) r) (pair {A = ℕ} {B = λ _. List ℕ} t)) p rest
        → length p.second ≡ c.d * c.n
    numbers c p l rest (stepped t r e f) =
        points c p r rest t (step (read_all (bytes 8) (c.d * c.n) r) (pair {A = ℕ} {B = λ _. List ℕ} t) p rest f)

    same : (p q : Numbers) (r rest : List ℕ) → no_rest p r ≡ got q rest → p ≡ q
    same p q [] rest f = cc
    same p q (x ∷ r) rest f = absurd (not_got f)

    whole : (c : Counts) (q : Numbers) (l rest : List ℕ) → Stepped ((numbers_form c).read l) no_rest q rest → length q.second ≡ c.d * c.n
    whole c q l rest (stepped p r e f) =
        sym (ap (λ (p : Numbers). length p.second) (same p q r rest f))
        ∙ numbers c p l r (step (read_bytes 8 l) (λ t r. after (read_all (bytes 8) (c.d * c.n) r) (pair {A = ℕ} {B = λ _. List ℕ} t)) p r e)

    second : (c : Counts) (rest : List ℕ) (o : Read Numbers) → read_whole (numbers_form c) rest ≡ o → numbered c o ≡ done j
        → length j.points ≡ j.counts.d * j.counts.n
    second c rest bad f e = absurd (refused_done e)
    second c rest (got p r) f e =
        subst (λ (j : Job). length j.points ≡ j.counts.d * j.counts.n) (done_same e)
        (whole c p rest r (step ((numbers_form c).read rest) no_rest p r f))

    first : (o : Read Counts) → counted o ≡ done j → length j.points ≡ j.counts.d * j.counts.n
    first bad e = absurd (refused_done e)
    first (got c rest) e =
        second c rest (read_whole (numbers_form c) rest) refl
        (not_refused (above_limits c) 18 (numbered c (read_whole (numbers_form c) rest)) j e).1

-- and its counts lie within the limits
pub job_within : (l : List ℕ) (j : Job) → job_of l ≡ done j
    → (j.counts.d ≤ 2) × (j.counts.n ≤ 100) × (j.counts.refinements ≤ 200) × (j.counts.segments ≤ 100)
unfolding job_of counted numbered
job_within l j e = first (counts_form.read l) e
  where
    second : (c : Counts) (o : Read Numbers) → numbered c o ≡ done j → c ≡ j.counts
    second c bad e = absurd (refused_done e)
    second c (got p r) e = ap (λ (j : Job). j.counts) (done_same e)

    first : (o : Read Counts) → counted o ≡ done j
        → (j.counts.d ≤ 2) × (j.counts.n ≤ 100) × (j.counts.refinements ≤ 200) × (j.counts.segments ≤ 100)
    first bad e = absurd (refused_done e)
    first (got c rest) e =
        let p = not_refused (above_limits c) 18 (numbered c (read_whole (numbers_form c) rest)) j e in
        let k = second c (read_whole (numbers_form c) rest) p.1 in
        within_limits j.counts (ap above_limits (sym k) ∙ p.0)
