-- Rows that a loop writes one after the other, from a cell on.
use mathlib.Core.Path.{◌≡◌, ap, ◌∙◌}
use mathlib.Core.List.{List, ◌++◌}
use Prim.Native.Nat.{ℕ, ◌+◌, ◌*◌, ◌≤◌}
use native.Mathlib.Omega.{arith}
use native.Mathlib.Numerals.{add-one}
use lib.ListN.{length, length-append}
use lib.Ieee.{Float}
use Rattle.window.specs.Rows.{join, written}
use Rattle.window.proofs.Joined.{join_length}
use Rattle.window.proofs.Written.{written_length, written_next}

-- the first i rows are written, and the length is as it was
abbrev pub RowsPut : ℕ → ℕ → (ℕ → List Float) → List Float → List Float → Type 0
RowsPut to i f l₀ l = (length l ≡ length l₀) × (l ≡ written to (join i f) l₀)

-- one row more, of d cells, at its place x
pub row_put : (to d i x : ℕ) (f : ℕ → List Float) (l₀ l l' : List Float) → ((j : ℕ) → length (f j) ≡ d) → x ≡ to + i * d
    → to + (i * d + d) ≤ length l₀ → l ≡ written to (join i f) l₀ → l' ≡ written x (f i) l → RowsPut to (i + 1) f l₀ l'
unfolding join
row_put to d i x f l₀ l l' long e room p q =
    let k = join_length i d f (λ j m. long j) in
    let g = long i in
    let s : x ≡ to + length (join i f) = omega arith in
    let r : l' ≡ written to (join i f ++ f i) l₀ = q ∙ rw (s, p) (written_next to (join i f) l₀ (f i) (omega arith)) in
    let z = length-append (join i f) (f i) in
    (ap length r ∙ written_length to (join i f ++ f i) l₀ (omega arith), r ∙ rw add-one)
