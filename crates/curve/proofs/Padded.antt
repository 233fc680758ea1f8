-- The laws of `padded`: how a loop fills an array of sixteen cells with a list.
use mathlib.Core.Path.{◌≡◌, refl, sym, ap, ◌∙◌}
use mathlib.Core.List.{List, [], ◌∷◌, ◌++◌}
use Prim.Native.Nat.{ℕ, ◌+◌, ◌≤◌, ◌<◌}
use native.Mathlib.Omega.{arith}
use native.Mathlib.Decide.{dec_lt, ℕ_discrete}
use native.Mathlib.Numerals.{add-one}
use lib.ListN.{length, get_or, set, take, length-set, length-append, get_or-append, get_or-eq_default}
use lib.Seq.{ext_get_or, get_or-set_same, get_or-set_other, get_or_at, take-suc, length-take-le, get_or-take}
use Rattle.window.proofs.Joined.{list_length, list_at}
use Rattle.curve.specs.Places.{padded}

pub padded_length : (l : List ℕ) → length (padded l) ≡ 16
padded_length l = list_length 16 (λ i. get_or l i 0)

pub padded_at : (l : List ℕ) (i : ℕ) → i < 16 → get_or (padded l) i 0 ≡ get_or l i 0
padded_at l = list_at 16 (λ i. get_or l i 0) 0

-- one element more
pub padded_next : (l : List ℕ) (x : ℕ) → length l < 16 → set (padded l) (length l) x ≡ padded (l ++ (x ∷ []))
padded_next l x h =
    let n = padded_length l in
    let m = l ++ (x ∷ []) in
    let k = length-append l (x ∷ []) in
    let s = length-set (padded l) (length l) x in
    ext_get_or 0 (set (padded l) (length l) x) (padded m) (s ∙ n ∙ sym (padded_length m)) (λ i j.
    rw (padded_at m i (omega arith)) (elim (ℕ_discrete i (length l)) [
      | yes e ↦ rw e (get_or-set_same (padded l) (length l) x 0 (omega arith) ∙ sym (get_or_at l x [] 0 (length l) refl))
      | no e ↦
          get_or-set_other (padded l) (length l) i x 0 e ∙ padded_at l i (omega arith) ∙ elim (dec_lt i (length l)) [
            | yes g ↦ sym (get_or-append l (x ∷ []) 0 i g)
            | no g ↦
                let p : length l < i = omega arith in
                get_or-eq_default l 0 (omega arith) ∙ sym (get_or-eq_default m 0 (omega arith))
          ]
    ]))

-- the front of a list grows by one element
pub padded_more : (l : List ℕ) (i x : ℕ) → i < length l → i < 16 → x ≡ get_or l i 0 → set (padded (take i l)) i x ≡ padded (take (i + 1) l)
padded_more l i x h g e =
    let n = length-take-le i l (omega arith) in
    ap (λ (k : ℕ). set (padded (take i l)) k x) (sym n) ∙ padded_next (take i l) x (omega arith) ∙ rw (e, add-one, take-suc l i 0 h)

-- the list is the front
pub padded_front : (l : List ℕ) → length l ≤ 16 → take (length l) (padded l) ≡ l
padded_front l h =
    let n = length-take-le (length l) (padded l) (rw (padded_length l) h) in
    ext_get_or 0 (take (length l) (padded l)) l n (λ i m. get_or-take (length l) (padded l) i 0 (omega arith) ∙ padded_at l i (omega arith))

-- what follows the first sixteen is not kept
pub padded_long : (l m : List ℕ) → 16 ≤ length l → padded (l ++ m) ≡ padded l
padded_long l m h =
    let a = padded_length (l ++ m) in
    let b = padded_length l in
    ext_get_or 0 (padded (l ++ m)) (padded l) (a ∙ sym b) (λ i j.
    padded_at (l ++ m) i (omega arith) ∙ get_or-append l m 0 i (omega arith) ∙ sym (padded_at l i (omega arith)))
