-- Files in any order: "File order does not change the sum."
use mathlib.Core.Path.{◌≡◌, refl, sym, ap, ◌∙◌}
use mathlib.Core.Bool.{Bool, true, false, cond}
use mathlib.Core.List.{List, [], ◌∷◌, ◌++◌, map, Permᴰ}
use mathlib.Core.Option.{Option, some, none}
use Prim.Native.Nat.{ℕ, zero, suc, ◌+◌, ◌/◌, ◌%◌, ◌≤◌, ◌<◌}
use native.Mathlib.Omega.{arith}
use borrow.Author.Tests.{le-ltb}
use lib.Dec.{ltb}
use lib.ListN.{length, length-append}
use lib.Seq.{take_at, drop_at}
use Rattle.forms.specs.Read.{Read, got}
use Rattle.forms.specs.Groups.{groups_of, read_groups}
use Rattle.forms.proofs.OneSpelling.{back}
use Rattle.lane_totals.specs.Totals.{nothing, season}
use Rattle.lane_totals.specs.Lanes.{lane_totals}
use Rattle.season.specs.Files.{before, counted, when_more, files_of, totalled, run_of, bytes_of}
use Rattle.season.specs.Printed.{totals_of, printed_of, refusal}
use Rattle.lane_totals.proofs.Merging.{merge_nothing, season_order}

-- files within the limit
abbrev pub Within : List (List ℕ) → Type 0
Within [] = Unit
Within (f ∷ files) = (length f ≤ 60000) × Within files

-- what follows a count that reads is its file
pub counted_file : (n : ℕ) (f rest : List ℕ) (next : List ℕ → Option (List (List ℕ))) → length f ≡ n → n ≤ 60000
    → counted (got n (f ++ rest)) next ≡ before f (next rest)
counted_file n f rest next e h =
    let l : length (f ++ rest) ≡ n + length rest = length-append f rest ∙ ap (λ (k : ℕ). k + length rest) e in
    rw (le-ltb 60000 n h, le-ltb (length (f ++ rest)) n (omega (arith, l)), take_at f rest n e, drop_at f rest n e)

-- a count has a byte
some_byte : (n : ℕ) (rest : List ℕ) (x : Option (List (List ℕ))) → when_more (groups_of 3 n ++ rest) x ≡ x
unfolding groups_of
some_byte n rest x = go (ltb n 128)
  where
    go : (b : Bool) → when_more (cond b (n ∷ []) ((128 + n % 128) ∷ groups_of 2 (n / 128)) ++ rest) x ≡ x
    go true = refl
    go false = refl

-- written files read back
pub files_back : (left : ℕ) (files : List (List ℕ)) → Within files → length files ≤ left → files_of left (bytes_of files) ≡ some files
unfolding files_of
files_back zero [] w h = refl
files_back (suc left) [] w h = refl
files_back zero (f ∷ files) w h = absurd (omega arith)
files_back (suc left) (f ∷ files) w h =
    some_byte (length f) (f ++ bytes_of files) (counted (read_groups 3 (groups_of 3 (length f) ++ (f ++ bytes_of files))) (files_of left))
    ∙ ap (λ (r : Read ℕ). counted r (files_of left)) (back 3 (length f) (f ++ bytes_of files) (omega (arith, w.0)) (omega arith))
    ∙ counted_file (length f) f (bytes_of files) (files_of left) refl w.0
    ∙ ap (before f) (files_back left files w.1 (omega arith))

-- more files than are allowed
pub files_too_many : (left : ℕ) (files : List (List ℕ)) → Within files → left < length files → files_of left (bytes_of files) ≡ none
unfolding files_of
files_too_many left [] w h = absurd (omega arith)
files_too_many zero (f ∷ files) w h = some_byte (length f) (f ++ bytes_of files) none
files_too_many (suc left) (f ∷ files) w h =
    some_byte (length f) (f ++ bytes_of files) (counted (read_groups 3 (groups_of 3 (length f) ++ (f ++ bytes_of files))) (files_of left))
    ∙ ap (λ (r : Read ℕ). counted r (files_of left)) (back 3 (length f) (f ++ bytes_of files) (omega (arith, w.0)) (omega arith))
    ∙ counted_file (length f) f (bytes_of files) (files_of left) refl w.0
    ∙ ap (before f) (files_too_many left files w.1 (omega arith))

-- a permutation of the files is one of what they add
mapped : (fs gs : List (List ℕ)) → Permᴰ fs gs → Permᴰ (map lane_totals fs) (map lane_totals gs)
mapped _ _ Permᴰ.nil = Permᴰ.nil
mapped _ _ (Permᴰ.cons {a} {b} {l₁} {l₂} e p) = Permᴰ.cons (ap lane_totals e) (mapped l₁ l₂ p)
mapped _ _ (Permᴰ.swap {a} {b} {a'} {b'} {l} e f) = Permᴰ.swap (ap lane_totals e) (ap lane_totals f)
mapped _ _ (Permᴰ.trans {l₁} {l₂} {l₃} p q) = Permᴰ.trans (mapped l₁ l₂ p) (mapped l₂ l₃ q)

-- the totals of a run over written files
pub run_of_files : (files : List (List ℕ)) → Within files → length files ≤ 65535
    → run_of (bytes_of files) ≡ some (season (map lane_totals files))
run_of_files files w h =
    ap (totalled nothing) (files_back 65535 files w h) ∙ ap some (merge_nothing (season (map lane_totals files)))

-- "a count beyond either limit": 65,536 files
pub run_too_many : (files : List (List ℕ)) → Within files → 65535 < length files → totals_of (bytes_of files) ≡ refusal
unfolding printed_of
run_too_many files w h = ap (λ (o : Option (List (List ℕ))). printed_of (totalled nothing o)) (files_too_many 65535 files w h)

-- files in another order are within the limits, too
within_order : (fs gs : List (List ℕ)) → Permᴰ fs gs → Within fs → Within gs
within_order _ _ Permᴰ.nil w = w
within_order _ _ (Permᴰ.cons {a} {b} {l₁} {l₂} e p) w = (rw (← e) w.0, within_order l₁ l₂ p w.1)
within_order _ _ (Permᴰ.swap {a} {b} {a'} {b'} {l} e f) w = (rw (← f) w.1.0, (rw (← e) w.0, w.1.1))
within_order _ _ (Permᴰ.trans {l₁} {l₂} {l₃} p q) w = within_order l₂ l₃ q (within_order l₁ l₂ p w)

as_many : (fs gs : List (List ℕ)) → Permᴰ fs gs → length fs ≡ length gs
as_many _ _ Permᴰ.nil = refl
as_many _ _ (Permᴰ.cons {a} {b} {l₁} {l₂} e p) = ap suc (as_many l₁ l₂ p)
as_many _ _ (Permᴰ.swap e f) = refl
as_many _ _ (Permᴰ.trans {l₁} {l₂} {l₃} p q) = as_many l₁ l₂ p ∙ as_many l₂ l₃ q

-- "File order does not change the sum": nor any other line, for every order of the files
pub file_order : (fs gs : List (List ℕ)) → Permᴰ fs gs → Within fs → length fs ≤ 65535 → totals_of (bytes_of fs) ≡ totals_of (bytes_of gs)
file_order fs gs p w h =
    ap printed_of (run_of_files fs w h
    ∙ ap some (season_order (map lane_totals fs) (map lane_totals gs) (mapped fs gs p))
    ∙ sym (run_of_files gs (within_order fs gs p w) (omega (arith, h, as_many fs gs p))))
