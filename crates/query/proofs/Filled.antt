-- Slices that a loop fills row after row, in every order asked.
use mathlib.Core.Path.{◌≡◌, refl, sym, ap, subst, ◌∙◌}
use mathlib.Core.Bool.{Bool, true, false, cond}
use mathlib.Core.List.{List, [], ◌∷◌, ◌++◌}
use Prim.Native.Nat.{ℕ, ◌+◌, ◌*◌, ◌≤◌, ◌<◌}
use native.Mathlib.Omega.{arith}
use native.Mathlib.Numerals.{add-one}
use lib.Dec.{leb}
use lib.ListN.{length, set}
use lib.Ieee.{Float}
use Rattle.arith.proofs.Rows.{row_end}
use Rattle.window.specs.Rows.{join}
use Rattle.window.proofs.Joined.{join_length}
use Rattle.window.proofs.Written.{written_next, set_written}
use Rattle.curve.specs.Put.{put_at}
use Rattle.curve.proofs.Putting.{put_none, put_length}
use Rattle.query.specs.declared.segment.Derivatives.{Derivatives}
use Rattle.query.specs.Row.{Outputs, outputs, Room, filled}

-- what is filled in, for each order
abbrev pub Columns : Type 0
Columns = (Derivatives → Float) → List Float

-- each slice is as long as it was
abbrev pub SameLengths : Outputs → Outputs → Type 0
SameLengths o₀ o =
    (length o.q ≡ length o₀.q) × (length o.dq ≡ length o₀.dq) × (length o.ddq ≡ length o₀.ddq)
    × (length o.dddq ≡ length o₀.dddq)

pub as_long : (o : Outputs) → SameLengths o o
as_long o = (refl, refl, refl, refl)

-- room for more is room for less, also once cells were written
pub room_for : (order m n : ℕ) (o₀ o : Outputs) → m ≤ n → SameLengths o₀ o → Room order n o₀ → Room order m o
room_for order m n o₀ o l same room = (
  omega (arith, same.0, room.0),
  λ b. omega (arith, same.1, room.1 b),
  λ b. omega (arith, same.2, room.2 b),
  λ b. omega (arith, same.3, room.3 b),
)

put_more : (asked : Bool) (a n : ℕ) (v u l : List Float) → length v ≡ n → (asked ≡ true → a + n ≤ length l)
    → put_at asked (a + n) u (put_at asked a v l) ≡ put_at asked a (v ++ u) l
put_more true a n v u l e room =
    let r = room refl in
    ap (λ (k : ℕ). put_at true (a + k) u (put_at true a v l)) (sym e) ∙ written_next a v l u (omega arith)
put_more false a n v u l e room = refl

module _ (order a n : ℕ) (f : Columns) (o : Outputs) (long : (part : Derivatives → Float) → length (f part) ≡ n)
    (room : Room order (a + n) o) where
  pub filled_lengths : SameLengths o (filled order a f o)
  unfolding filled
  filled_lengths = (
    put_length true a (f (λ v. v.value)) o.q (λ b. omega (arith, room.0, long (λ v. v.value))),
    put_length (leb 1 order) a (f (λ v. v.first)) o.dq (λ b. omega (arith, room.1 b, long (λ v. v.first))),
    put_length (leb 2 order) a (f (λ v. v.second)) o.ddq (λ b. omega (arith, room.2 b, long (λ v. v.second))),
    put_length (leb 3 order) a (f (λ v. v.third)) o.dddq (λ b. omega (arith, room.3 b, long (λ v. v.third))),
  )

  -- what follows on what was filled in is filled in with it
  filled_more : (g : Columns) → filled order (a + n) g (filled order a f o) ≡ filled order a (λ part. f part ++ g part) o
  unfolding filled
  filled_more g =
      let e0 = put_more true a n (f (λ v. v.value)) (g (λ v. v.value)) o.q (long (λ v. v.value)) (λ b. room.0) in
      let e1 = put_more (leb 1 order) a n (f (λ v. v.first)) (g (λ v. v.first)) o.dq (long (λ v. v.first)) room.1 in
      let e2 = put_more (leb 2 order) a n (f (λ v. v.second)) (g (λ v. v.second)) o.ddq (long (λ v. v.second)) room.2 in
      let e3 = put_more (leb 3 order) a n (f (λ v. v.third)) (g (λ v. v.third)) o.dddq (long (λ v. v.third)) room.3 in
      λ i. record { q = e0 i; dq = e1 i; ddq = e2 i; dddq = e3 i }

-- nothing yet
pub filled_none : (order a : ℕ) (o : Outputs) → o ≡ filled order a (λ part. []) o
unfolding filled
filled_none order a o =
    let e0 = put_none true a o.q in
    let e1 = put_none (leb 1 order) a o.dq in
    let e2 = put_none (leb 2 order) a o.ddq in
    let e3 = put_none (leb 3 order) a o.dddq in
    λ i. record { q = e0 i; dq = e1 i; ddq = e2 i; dddq = e3 i }

one_cell : (asked : Bool) (i : ℕ) (x : Float) (l : List Float) → (asked ≡ true → i + 1 ≤ length l)
    → cond asked (set l i x) l ≡ put_at asked i (x ∷ []) l
one_cell true i x l room = let r = room refl in set_written l i x (omega arith)
one_cell false i x l room = refl

-- one cell of each
pub cells_filled : (order i : ℕ) (v : Derivatives) (o : Outputs) → Room order (i + 1) o
    → outputs (set o.q i v.value) (cond (leb 1 order) (set o.dq i v.first) o.dq)
    (cond (leb 2 order) (set o.ddq i v.second) o.ddq) (cond (leb 3 order) (set o.dddq i v.third) o.dddq)
    ≡ filled order i (λ part. part v ∷ []) o
unfolding filled
cells_filled order i v o room =
    let e0 = one_cell true i v.value o.q (λ b. room.0) in
    let e1 = one_cell (leb 1 order) i v.first o.dq room.1 in
    let e2 = one_cell (leb 2 order) i v.second o.ddq room.2 in
    let e3 = one_cell (leb 3 order) i v.third o.dddq room.3 in
    λ j. record { q = e0 j; dq = e1 j; ddq = e2 j; dddq = e3 j }

-- row i of n, of d cells each, at its place p
module _ (order a d i n p : ℕ) (f : (Derivatives → Float) → ℕ → List Float) (o₀ o o' : Outputs) where
  pub rows_next : p ≡ a + i * d → ((part : Derivatives → Float) (j : ℕ) → length (f part j) ≡ d) → i < n → Room order (a + n * d) o₀
      → o ≡ filled order a (λ part. join i (f part)) o₀ → o' ≡ filled order p (λ part. f part i) o
      → SameLengths o₀ o' × (o' ≡ filled order a (λ part. join (i + 1) (f part)) o₀)
  unfolding join
  rows_next place long l room e g =
      let done : (part : Derivatives → Float) → length (join i (f part)) ≡ i * d = λ part. join_length i d (f part) (λ j m. long part j) in
      let more : (part : Derivatives → Float)
      → length (join (i + 1) (f part)) ≡ (i + 1) * d = λ part. join_length (i + 1) d (f part) (λ j m. long part j) in
      let r = row_end i n d (n * d) l (omega arith) in
      let same = as_long o₀ in
      let w : o' ≡ filled order a (λ part. join (i + 1) (f part)) o₀ =
      g ∙ ap (λ (k : ℕ). filled order k (λ part. f part i) o) place ∙ ap (filled order (a + i * d) (λ part. f part i)) e
      ∙ filled_more order a (i * d) (λ part. join i (f part)) o₀ done (room_for order (a + i * d) (a + n * d) o₀ o₀ (omega arith) same room)
      (λ part. f part i) ∙ rw add-one in (
        subst (SameLengths o₀) (sym w)
            (filled_lengths order a ((i + 1) * d) (λ part. join (i + 1) (f part)) o₀ more
            (room_for order (a + (i + 1) * d) (a + n * d) o₀ o₀ (omega arith) same room)),
        w,
      )
