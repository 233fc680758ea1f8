-- Each input that a run does not stop at is the bytes of its files: so the order of files says something of every such input.
use mathlib.Core.Path.{◌≡◌, refl, sym, ap, ◌∙◌, subst}
use mathlib.Core.Bool.{Bool, true, false, cond, ◌||◌}
use mathlib.Core.List.{List, [], ◌∷◌, ◌++◌, Permᴰ}
use mathlib.Core.Option.{Option, some, none}
use Prim.Native.Nat.{ℕ, zero, suc, ◌≤◌}
use native.Mathlib.Omega.{arith}
use borrow.Author.Tests.{ltb-false}
use lib.Dec.{ltb}
use lib.ListN.{length, take, drop, take-append-drop}
use lib.Seq.{length-take-le}
use Rattle.forms.specs.Read.{Read, Bytes, got, bad}
use Rattle.forms.specs.Groups.{groups_of, read_groups}
use Rattle.forms.proofs.Exact.{bytes_rest}
use Rattle.forms.proofs.OneSpelling.{only}
use Rattle.season.specs.Files.{before, no_file, counted, files_of, bytes_of}
use Rattle.season.specs.Printed.{totals_of}
use Rattle.season.proofs.FileOrder.{Within, file_order}

no_some : {A : Type 0} {x : A} → none ≡ some x → ⊥
no_some e = let z : ◌≡◌ {A = ℕ} 0 1 = cc in omega arith

-- bytes that are the files, at most `left` of them
pub record FilesIn (left : ℕ) (l : List ℕ) (files : List (List ℕ)) : Type 0 where
  pub spelled : l ≡ bytes_of files
  pub within : Within files
  pub most : length files ≤ left

none_left : (left : ℕ) (files : List (List ℕ)) → ◌≡◌ {A = Option (List (List ℕ))} (some []) (some files) → FilesIn left [] files
none_left left files e =
    let f : [] ≡ files = cc in subst (FilesIn left []) f (record { spelled = refl; within = tt; most = omega arith })

-- the two tests of a file's bytes
fits : (n : ℕ) (rest : List ℕ) → no_file n rest ≡ false → (n ≤ 60000) × (n ≤ length rest)
fits n rest = go (ltb 60000 n) refl (ltb (length rest) n) refl
  where
    go : (a : Bool) → ltb 60000 n ≡ a → (b : Bool) → ltb (length rest) n ≡ b → (a || b) ≡ false → (n ≤ 60000) × (n ≤ length rest)
    go true p b q e = absurd (let z : ◌≡◌ {A = ℕ} 0 1 = cc in omega arith)
    go false p true q e = absurd (let z : ◌≡◌ {A = ℕ} 0 1 = cc in omega arith)
    go false p false q e = (ltb-false 60000 n p, ltb-false (length rest) n q)

module _ (left n : ℕ) (l rest : List ℕ) (files : List (List ℕ)) (e : l ≡ groups_of 3 n ++ rest) (h : (n ≤ 60000) × (n ≤ length rest))
    (again : (fs : List (List ℕ)) → files_of left (drop n rest) ≡ some fs → FilesIn left (drop n rest) fs) where
  file_in : (fs : List (List ℕ)) → FilesIn left (drop n rest) fs → FilesIn (suc left) l (take n rest ∷ fs)
  file_in fs f =
      let k = length-take-le n rest h.1 in
      record {
        spelled = e ∙ ap (λ (t : List ℕ). groups_of 3 n ++ t) (sym (take-append-drop n rest) ∙ ap (λ (t : List ℕ). take n rest ++ t) f.spelled)
            ∙ ap (λ (i : ℕ). groups_of 3 i ++ (take n rest ++ bytes_of fs)) (sym k);
        within = (omega (arith, k, h.0), f.within);
        most = omega (arith, f.most);
      }

  with_rest : (o : Option (List (List ℕ))) → files_of left (drop n rest) ≡ o → before (take n rest) o ≡ some files
      → FilesIn (suc left) l files
  with_rest none p q = absurd (no_some q)
  with_rest (some fs) p q =
      let f : take n rest ∷ fs ≡ files = cc in subst (FilesIn (suc left) l) f (file_in fs (again fs p))

-- the count reads, and its file is there
next_file : (left : ℕ) (l : List ℕ) (files : List (List ℕ)) → Bytes l
    → ((rest : List ℕ) (fs : List (List ℕ)) → Bytes rest → files_of left rest ≡ some fs → FilesIn left rest fs)
    → (r : Read ℕ) → read_groups 3 l ≡ r → counted r (files_of left) ≡ some files → FilesIn (suc left) l files
next_file left l files B again bad p q = absurd (no_some q)
next_file left l files B again (got n rest) p q = go (no_file n rest) refl q
  where
    s : l ≡ groups_of 3 n ++ rest
    s = (only 3 n l rest B p).0

    bytes : Bytes (drop n rest)
    bytes = bytes_rest (take n rest) (drop n rest) (subst Bytes (sym (take-append-drop n rest)) (bytes_rest (groups_of 3 n) rest (subst
        Bytes s B)))

    go : (b : Bool) → no_file n rest ≡ b → cond b none (before (take n rest) (files_of left (drop n rest))) ≡ some files
        → FilesIn (suc left) l files
    go true t u = absurd (no_some u)
    go false t u =
        with_rest left n l rest files s (fits n rest t) (λ fs v. again (drop n rest) fs bytes v) (files_of left (drop n rest)) refl u

pub files_only : (left : ℕ) (l : List ℕ) (files : List (List ℕ)) → Bytes l → files_of left l ≡ some files → FilesIn left l files
unfolding files_of
files_only zero [] files B e = none_left zero files e
files_only (suc left) [] files B e = none_left (suc left) files e
files_only zero (b ∷ l) files B e = absurd (no_some e)
files_only (suc left) (b ∷ l) files B e =
    next_file left (b ∷ l) files B (λ rest fs C f. files_only left rest fs C f) (read_groups 3 (b ∷ l)) refl e

-- "File order does not change the sum", for every input that is files
pub input_order : (l : List ℕ) (fs gs : List (List ℕ)) → Bytes l → files_of 65535 l ≡ some fs → Permᴰ fs gs
    → totals_of l ≡ totals_of (bytes_of gs)
input_order l fs gs B e p =
    let f = files_only 65535 l fs B e in ap totals_of f.spelled ∙ file_order fs gs p f.within f.most
