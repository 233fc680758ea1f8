-- Six whole controls, one after the other.
use mathlib.Core.Path.{◌≡◌, refl, sym, ap, ◌∙◌}
use mathlib.Core.Bool.{Bool, true, false, not, ◌||◌}
use mathlib.Core.List.{List, map}
use Prim.Native.Nat.{ℕ, zero, suc, ◌+◌, ◌≤◌, ◌<◌}
use native.Mathlib.Omega.{arith}
use native.Mathlib.Decide.{dec_lt}
use lib.IntN.{pos}
use lib.ListN.{length, get_or, set, length-set, length-map, replicate}
use lib.Seq.{get_or-set_same, get_or-set_other, ext_get_or}
use lib.Ieee.{Float}
use Rattle.arith.specs.Loop.{each}
use Rattle.arith.proofs.Loops.{each_done, each_keeps, each_next, each_turn}
use Rattle.arith.proofs.Truth.{clash}
use Rattle.window.specs.Cells.{at}
use Rattle.window.proofs.Joined.{list_length, list_at}
use Rattle.heights.specs.Controls.{hundredfold, beyond, whole_of, any_beyond, wholes_of}
use Rattle.heights.specs.Lifted.{lowered, RoundedFrom, ControlsFrom}
use Rattle.std.specs.Prelude.{Option, Some, None, is_some}
use Rattle.heights.proofs.Sums.{lowered_at}

-- a turn of `any_beyond`
abbrev turn : List Float → ℕ → Bool → Bool
turn b k so_far = so_far || beyond (hundredfold (at b k))

-- the first k are there, and none of them is turned away
pub record Filled (b : List Float) (cells : List ℕ) (k : ℕ) : Type 0 where
  pub long : length cells ≡ 6
  pub rest : each (turn b) k 6 false ≡ any_beyond b
  pub small : (i : ℕ) → i < 6 → get_or cells i 0 ≤ 4000000
  pub wholes : (i : ℕ) → i < k → lowered (get_or cells i 0) ≡ whole_of (hundredfold (at b i))

none_small : (n i : ℕ) → get_or (replicate n 0) i 0 ≤ 4000000
none_small zero i = omega arith
none_small (suc n) zero = omega arith
none_small (suc n) (suc i) = none_small n i

pub filled_none : (b : List Float) → Filled b (replicate 6 0) 0
unfolding any_beyond
filled_none b =
    record {
      long = refl;
      rest = refl;
      small = λ i l. none_small 6 i;
      wholes = λ i l. absurd (omega arith);
    }

-- a control that is turned away turns all away
pub filled_away : (b : List Float) (cells : List ℕ) (k : ℕ) → k < 6 → Filled b cells k → beyond (hundredfold (at b k)) ≡ true
    → any_beyond b ≡ true
filled_away b cells k l f e =
    sym f.rest ∙ each_turn (turn b) k 6 false l ∙ ap (each (turn b) (k + 1) 6) e
    ∙ each_keeps (λ (t : Bool). t ≡ true) (turn b) (k + 1) 6 true (λ i t h. rw h) refl

pub filled_next : (b : List Float) (cells : List ℕ) (k n : ℕ) → k < 6 → Filled b cells k → RoundedFrom (hundredfold (at b k)) (Some n)
    → Filled b (set cells k n) (k + 1)
filled_next b cells k n l f q =
    record {
      long = length-set cells k n ∙ f.long;
      rest = each_next (turn b) k 6 l (sym q.0) f.rest;
      small = at_most;
      wholes = λ i m.
          elim (dec_lt i k) [
            | yes g ↦ ap lowered (get_or-set_other cells k i n 0 (λ q. absurd (omega arith))) ∙ f.wholes i g
            | no g ↦ let s : i ≡ k = omega arith in rw s (ap lowered (get_or-set_same cells k n 0 room) ∙ q.1)
          ];
    }
  where
    room : k < length cells
    room = omega (arith, f.long)

    at_most : (i : ℕ) → i < 6 → get_or (set cells k n) i 0 ≤ 4000000
    at_most i m = elim (dec_lt k i) [
      | yes g ↦ rw (get_or-set_other cells k i n 0 (λ q. absurd (omega arith))) (f.small i m)
      | no g ↦ elim (dec_lt i k) [
        | yes h ↦ rw (get_or-set_other cells k i n 0 (λ q. absurd (omega arith))) (f.small i m)
        | no h ↦ let s : i ≡ k = omega arith in rw (s, get_or-set_same cells k n 0 room) q.2
      ]
    ]

pub filled_all : (b : List Float) (cells : List ℕ) (k : ℕ) → 6 ≤ k → Filled b cells k → ControlsFrom b (Some cells)
filled_all b cells k l f = (
  sym f.rest ∙ each_done (turn b) k 6 false l,
  ext_get_or (pos 0) (map lowered cells) (wholes_of b)
      (length-map cells lowered ∙ f.long ∙ sym (list_length 6 (λ k. whole_of (hundredfold (at b k))))) same,
  (f.long, f.small),
)
  where
    same : (i : ℕ) → i < length (map lowered cells) → get_or (map lowered cells) i (pos 0) ≡ get_or (wholes_of b) i (pos 0)
    same i m =
        let n = length-map cells lowered in
        let h : i < 6 = omega (arith, f.long, n) in
        lowered_at cells i (omega (arith, n)) ∙ f.wholes i (omega (arith, h, l))
        ∙ sym (list_at 6 (λ k. whole_of (hundredfold (at b k))) (pos 0) i h)

-- whether none are there tells whether one is turned away
pub away_told : (b : List Float) (r : Option (List ℕ)) (t : Bool) → ControlsFrom b r → is_some r ≡ not t → any_beyond b ≡ t
away_told b None true h e = h
away_told b None false h e = clash {b = not false} refl (sym e)
away_told b (Some cells) true h e = clash refl e
away_told b (Some cells) false h e = h.0

-- and where none is, they are there
pub all_there : (b : List Float) (r : Option (List ℕ)) → ControlsFrom b r → any_beyond b ≡ false → is_some r ≡ true
all_there b None h e = clash h e
all_there b (Some cells) h e = refl
