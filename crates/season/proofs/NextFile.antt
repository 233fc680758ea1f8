-- The next file in the bytes that were read so far.
use mathlib.Core.Path.{◌≡◌, refl, sym, ap, ◌∙◌, subst}
use mathlib.Core.Bool.{Bool, true, false, cond, not, ◌&&◌, or-true}
use mathlib.Core.List.{List, [], ◌∷◌, ◌++◌, append-nil}
use mathlib.Core.Option.{Option, none}
use Prim.Native.Nat.{ℕ, zero, suc, ◌+◌, ◌*◌, ◌-◌, ◌≤◌, ◌<◌}
use native.Mathlib.Omega.{arith}
use borrow.Author.Tests.{lt-ltb, le-ltb, ltb-false}
use lib.Dec.{ltb, eqb}
use lib.ListN.{length, drop, length-drop, length-append}
use lib.Seq.{take-append-le, drop-append-le, drop-drop}
use Rattle.window.specs.Window.{window}
use Rattle.forms.specs.Read.{Read, got, bad, after}
use Rattle.forms.specs.Groups.{read_groups, number_to, number_at}
use Rattle.std.specs.Prelude.{None}
use Rattle.forms.proofs.Exact.{not_got, Stepped, stepped, step}
use Rattle.forms.proofs.OneSpelling.{above}
use Rattle.forms.proofs.Places.{number_read, number_bad}
use Rattle.forms.proofs.Longer.{more, Left, groups_longer, groups_left}
use Rattle.season.specs.declared.files.Next.TheVariants.{File, More, Bad}
use Rattle.season.specs.Files.{before, counted, when_more, files_of}
use Rattle.season.specs.Next.{Follows, NextIn}

-- groups have a byte
groups_shorter : (k : ℕ) (m : List ℕ) (v : ℕ) (rest : List ℕ) → read_groups k m ≡ got v rest → length rest < length m
unfolding read_groups
groups_shorter zero m v rest e = absurd (not_got e)
groups_shorter (suc k) [] v rest e = absurd (not_got e)
groups_shorter (suc k) (b ∷ m) v rest e = go (ltb b 128) e (λ h r f. groups_shorter k m h r f)
  where
    high : (t : Bool) (h w : ℕ) (r s : List ℕ) → cond t bad (got h r) ≡ got w s → s ≡ r
    high true h w r s f = absurd (not_got f)
    high false h w r s f = cc

    more_groups : Stepped (read_groups k m) (above b) v rest → ((h : ℕ) (r : List ℕ) → read_groups k m ≡ got h r → length r < length m)
        → length rest < length (b ∷ m)
    more_groups (stepped h r e f) ih =
        let i = ih h r e in
        let q = high (eqb h 0) (b - 128 + 128 * h) v r rest f in
        rw q (omega (arith, i))

    go : (t : Bool) → cond t (got b m) (after (read_groups k m) (above b)) ≡ got v rest
        → ((h : ℕ) (r : List ℕ) → read_groups k m ≡ got h r → length r < length m) → length rest < length (b ∷ m)
    go true f ih = let q : m ≡ rest = cc in rw (← q) (omega arith)
    go false f ih = more_groups (step (read_groups k m) (above b) v rest f) ih

more_none : (r : Read ℕ) → r ≡ more [] r
more_none bad = refl
more_none (got v rest) = ap (got v) (sym (append-nil rest))

pub some_byte : (l : List ℕ) (x : Option (List (List ℕ))) → 0 < length l → when_more l x ≡ x
some_byte [] x h = absurd (omega arith)
some_byte (b ∷ l) x h = refl

-- the run stops, whatever number of files is left
stops : (left : ℕ) (l : List ℕ) → 0 < length l → ((left : ℕ) → counted (read_groups 3 l) (files_of left) ≡ none) → files_of left l ≡ none
unfolding files_of
stops zero l h g = some_byte l none h
stops (suc left) l h g = some_byte l (counted (read_groups 3 l) (files_of left)) h ∙ g left

goes_on : (left : ℕ) (l : List ℕ) → 0 < length l → files_of (suc left) l ≡ counted (read_groups 3 l) (files_of left)
unfolding files_of
goes_on left l h = some_byte l (counted (read_groups 3 l) (files_of left)) h

-- v bytes of those after the count, where what follows them is any
counted_at : (v next left : ℕ) (l rest : List ℕ) → v ≤ 60000 → v ≤ length (drop next l)
    → counted (got v (drop next l ++ rest)) (files_of left) ≡ before (window next (next + v) l) (files_of left (drop (next + v) l ++ rest))
counted_at v next left l rest g k =
    let m = length-append (drop next l) rest in
    let n : next + v - next ≡ v = omega arith in
    rw (
      le-ltb 60000 v g,
      le-ltb (length (drop next l ++ rest)) v (omega (arith, m, k)),
      n,
      take-append-le v (drop next l) rest k,
      drop-append-le v (drop next l) rest k,
      drop-drop v next l,
    )

-- a count is decided where the input has ended, or three bytes are there
pub decided_last : (b last : Bool) → last ≡ true → (b && not last) ≡ false
decided_last true last e = rw e
decided_last false last e = refl

pub decided_three : (n : ℕ) (last : Bool) → 3 ≤ n → (ltb n 3 && not last) ≡ false
decided_three n last h = rw (le-ltb n 3 h)

module _ (l : List ℕ) (at : ℕ) (last : Bool) (h : at < length l) where
  unread : length (drop at l) ≡ length l - at
  unread = length-drop at l

  some_left : (rest : List ℕ) → 0 < length (drop at l ++ rest)
  some_left rest = omega (arith, length-append (drop at l) rest, unread)

  module _ (enough : (ltb (length l - at) 3 && not last) ≡ false) where
    -- a count reads as it does with what follows
    decided : (rest : List ℕ) → Follows last rest → read_groups 3 (drop at l ++ rest) ≡ more rest (read_groups 3 (drop at l))
    decided rest f = go last refl (ltb (length l - at) 3) refl
      where
        go : (b : Bool) → last ≡ b → (t : Bool) → ltb (length l - at) 3 ≡ t → read_groups 3 (drop at l ++ rest)
            ≡ more rest (read_groups 3 (drop at l))
        go true e t q =
            rw (f e) (ap (read_groups 3) (append-nil (drop at l)) ∙ more_none (read_groups 3 (drop at l)))
        go false e true q = absurd (clash (sym enough ∙ rw (q, e)))
          where
            clash : false ≡ true → ⊥
            clash e = let z : ◌≡◌ {A = ℕ} 0 1 = cc in omega arith
        go false e false q = groups_longer 3 (drop at l) rest (omega (arith, ltb-false (length l - at) 3 q, unread))

    -- it does not read
    pub bad_count : None ≡ number_at l at → NextIn l at last Bad
    bad_count e rest f left =
        stops left (drop at l ++ rest) (some_left rest)
        (λ left. ap (λ (r : Read ℕ). counted r (files_of left)) (decided rest f ∙ ap (more rest) (number_bad l at e)))

    module _ (v next : ℕ) (e : number_to v next ≡ number_at l at) where
      read : read_groups 3 (drop at l) ≡ got v (drop next l)
      read = (number_read l at v next e).0

      pub within : next ≤ length l
      within = (number_read l at v next e).1

      pub beyond_at : at < next
      beyond_at = omega (arith, groups_shorter 3 (drop at l) v (drop next l) read, unread, length-drop next l, within)

      near_at : length l - at ≤ 3 + (length l - next)
      near_at = omega (arith, subst (Left 3 (drop at l)) read (groups_left 3 (drop at l)), unread, length-drop next l)

      reads : (rest : List ℕ) → Follows last rest → read_groups 3 (drop at l ++ rest) ≡ got v (drop next l ++ rest)
      reads rest f = decided rest f ∙ ap (more rest) read

      -- the count is beyond its limit
      pub too_long : 60000 < v → NextIn l at last Bad
      too_long g rest f left =
          stops left (drop at l ++ rest) (some_left rest)
          (λ left. ap (λ (r : Read ℕ). counted r (files_of left)) (reads rest f) ∙ rw (lt-ltb 60000 v g))

      -- the file is short
      pub short : length l - next < v → last ≡ true → NextIn l at last Bad
      short g t rest f left =
          let m : length (drop next l ++ rest) < v =
          rw (f t) (omega (arith, g, length-append (drop next l) [], length-drop next l)) in
          stops left (drop at l ++ rest) (some_left rest)
          (λ left. ap (λ (r : Read ℕ). counted r (files_of left)) (reads rest f)
          ∙ rw (lt-ltb (length (drop next l ++ rest)) v m, or-true (ltb 60000 v)))

      pub unfinished : v ≤ 60000 → length l - next < v → last ≡ false → NextIn l at last More
      unfinished g k t = (t, omega (arith, near_at, within))

      -- it stands there
      pub whole : v ≤ 60000 → v ≤ length l - next → NextIn l at last (File next (next + v))
      whole g k =
          let b = beyond_at in
          let w = within in
          let n = length-drop next l in (
            omega arith,
            omega arith,
            omega arith,
            omega arith,
            λ rest f left. goes_on left (drop at l ++ rest) (some_left rest)
                ∙ ap (λ (r : Read ℕ). counted r (files_of left)) (reads rest f) ∙ counted_at v next left l rest g (omega (arith, k, n)),
          )
