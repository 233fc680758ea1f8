-- Cells that a loop writes one after the other, where they are asked for.
use mathlib.Core.Path.{◌≡◌, refl, sym, ap, ◌∙◌}
use mathlib.Core.Bool.{Bool, true, false, cond}
use mathlib.Core.List.{List, [], ◌++◌}
use Prim.Native.Nat.{ℕ, ◌+◌, ◌*◌, ◌≤◌, ◌<◌}
use native.Mathlib.Omega.{arith}
use native.Mathlib.Numerals.{add-one}
use lib.ListN.{length, set, length-append}
use lib.Ieee.{Float}
use Rattle.arith.proofs.Rows.{row_end}
use Rattle.window.specs.Rows.{join, list_of}
use Rattle.window.proofs.Joined.{join_length, list_length}
use Rattle.window.proofs.Written.{written_none, written_length, written_next, fill_next}
use Rattle.curve.specs.Put.{put_at}

-- nothing yet
pub put_none : (asked : Bool) (a : ℕ) (l : List Float) → l ≡ put_at asked a [] l
put_none true a l = sym (written_none a l)
put_none false a l = refl

-- the length stays
pub put_length : (asked : Bool) (a : ℕ) (v l : List Float) → (asked ≡ true → a + length v ≤ length l)
    → length (put_at asked a v l) ≡ length l
put_length true a v l room = written_length a v l (room refl)
put_length false a v l room = refl

put_next : (asked : Bool) (a j : ℕ) (f : ℕ → Float) (l : List Float) (x : Float) → (asked ≡ true → a + j < length l) → x ≡ f j
    → cond asked (set (put_at asked a (list_of j f) l) (a + j) x) (put_at asked a (list_of j f) l) ≡ put_at asked a (list_of (j + 1) f) l
put_next true a j f l x room e = fill_next a f j l x (room refl) e
put_next false a j f l x room e = refl

-- one cell more of n
pub put_step : (asked : Bool) (a j n : ℕ) (f : ℕ → Float) (l₀ l l' : List Float) (x : Float) → j < n → (asked ≡ true → a + n ≤ length l₀)
    → l ≡ put_at asked a (list_of j f) l₀ → l' ≡ cond asked (set l (a + j) x) l → x ≡ f j
    → (length l' ≡ length l₀) × (l' ≡ put_at asked a (list_of (j + 1) f) l₀)
put_step asked a j n f l₀ l l' x h room e p v =
    let q : l' ≡ put_at asked a (list_of (j + 1) f) l₀ = p ∙ rw e (put_next asked a j f l₀ x (λ b. let r = room b in omega arith) v) in
    let k = list_length (j + 1) f in
    (ap length q ∙ put_length asked a (list_of (j + 1) f) l₀ (λ b. let r = room b in omega arith), q)

-- n cells are written, and the length is as it was
abbrev pub Put : Bool → ℕ → ℕ → (ℕ → Float) → List Float → List Float → Type 0
Put asked a n f l₀ l = (length l ≡ length l₀) × (l ≡ put_at asked a (list_of n f) l₀)

-- n rows are written, and the length is as it was
abbrev pub Rows : Bool → ℕ → (ℕ → List Float) → List Float → List Float → Type 0
Rows asked n f l₀ l = (length l ≡ length l₀) × (l ≡ put_at asked 0 (join n f) l₀)

-- one row more of n
pub put_rows : (asked : Bool) (d i n : ℕ) (f : ℕ → List Float) (l₀ l l' : List Float) → ((j : ℕ) → length (f j) ≡ d) → i < n
    → (asked ≡ true → n * d ≤ length l₀)
    → l ≡ put_at asked 0 (join i f) l₀ → l' ≡ put_at asked (i * d) (f i) l
    → (length l' ≡ length l₀) × (l' ≡ put_at asked 0 (join (i + 1) f) l₀)
unfolding join
put_rows true d i n f l₀ l l' long h room e p =
    let k = join_length i d f (λ j m. long j) in
    let r = row_end i n d (length l₀) h (room refl) in
    let g = long i in
    let s : i * d ≡ 0 + length (join i f) = omega arith in
    let q : l' ≡ put_at true 0 (join i f ++ f i) l₀ = p ∙ rw (s, e) (written_next 0 (join i f) l₀ (f i) (omega arith)) in
    let z = length-append (join i f) (f i) in
    (ap length q ∙ written_length 0 (join i f ++ f i) l₀ (omega arith), q ∙ rw add-one)
put_rows false d i n f l₀ l l' long h room e p = (ap length p ∙ ap length e, p ∙ e)
