-- The walk that moves the kept elements to the front: what holds before each turn, and how a turn keeps it.
use mathlib.Core.Path.{◌≡◌, refl, sym, ap, ◌∙◌}
use mathlib.Core.Bool.{Bool, true, false, cond}
use mathlib.Core.List.{List, [], ◌∷◌, ◌++◌, append_assoc, append-nil}
use Rattle.std.specs.Prelude.{Option, Some, None}
use Prim.Native.Nat.{ℕ, ◌+◌, ◌-◌, ◌≤◌, ◌<◌}
use native.Mathlib.Numerals.{add-one}
use native.Mathlib.Omega.{arith}
use lib.ListN.{length, take, drop, set, length-set, drop_of_length-le, take-append-drop}
use lib.Seq.{take-suc-set, drop-set-lt, drop-cons, drop-drop, get_or-drop, get_or-set_same, length-take-le}
use lib.Ieee.{Float, nan}
use Rattle.window.specs.Cells.{at}
use Rattle.sorting.specs.Thin.{thinned, last_of}

-- the last of those kept is the one just put
pub last_put : (s : List Float) (kept : ℕ) (x : Float) → kept < length s → Some x ≡ last_of (kept + 1) (set s kept x)
unfolding last_of
last_put s kept x h = rw (add-one kept, get_or-set_same s kept x nan h)

module _ (test : Option Float → Float → Bool) (s₀ : List Float) where
  -- of the first i elements, the first `kept` cells hold those that are kept; the cells from there on are as they were
  pub record Walked (s : List Float) (kept i : ℕ) : Type 0 where
    pub below : kept ≤ i
    pub within : i ≤ length s₀
    pub long : length s ≡ length s₀
    pub rest : drop kept s ≡ drop kept s₀
    pub is : take kept s ++ thinned test (last_of kept s) (drop i s₀) ≡ thinned test None s₀

  pub walked_none : Walked s₀ 0 0
  unfolding last_of
  walked_none = record { below = omega arith; within = omega arith; long = refl; rest = refl; is = refl }

  -- the element that is read is the list's own
  pub walked_read : (s : List Float) (kept i : ℕ) → Walked s kept i → at s i ≡ at s₀ i
  walked_read s kept i w =
      let e : kept + (i - kept) ≡ i = omega (arith, w.below) in
      ap (at s) (sym e) ∙ sym (get_or-drop kept s (i - kept) nan) ∙ ap (λ (l : List Float). at l (i - kept)) w.rest
      ∙ get_or-drop kept s₀ (i - kept) nan ∙ ap (at s₀) e

  -- a turn: the element passes or not
  pub walked_next : (s : List Float) (kept i : ℕ) (k : Bool) → Walked s kept i → i < length s₀ → test (last_of kept s) (at s i) ≡ k
      → Walked (cond k (set s kept (at s i)) s) (cond k (kept + 1) kept) (i + 1)
  unfolding thinned last_of
  walked_next s kept i true w h t =
      record {
        below = omega (arith, w.below);
        within = omega arith;
        long = simp length-set w.long;
        rest = drop-set-lt (kept + 1) s kept (at s i) (omega arith) ∙ sym (drop-drop 1 kept s) ∙ ap (drop 1) w.rest
            ∙ drop-drop 1 kept s₀;
        is =
            rw (
              add-one kept,
              take-suc-set s kept (at s i) (omega (arith, w.below, w.long)),
              get_or-set_same s kept (at s i) nan
                  (omega (arith, w.below, w.long)),
            )
            (append_assoc (take kept s) (at s i ∷ []) (thinned test (Some (at s i)) (drop (i + 1) s₀)) ∙ sym turn ∙ w.is);
      }
    where
      turn : take kept s ++ thinned test (last_of kept s) (drop i s₀) ≡ take kept s ++ (at s i ∷ thinned test (Some (at s i))
          (drop (i + 1) s₀))
      turn = rw (drop-cons s₀ i nan h, ← walked_read s kept i w, t, add-one i)
  walked_next s kept i false w h t =
      record {
        below = omega (arith, w.below);
        within = omega arith;
        long = w.long;
        rest = w.rest;
        is = sym turn ∙ w.is;
      }
    where
      turn : take kept s ++ thinned test (last_of kept s) (drop i s₀) ≡ take kept s ++ thinned test (last_of kept s) (drop (i + 1) s₀)
      turn = rw (drop-cons s₀ i nan h, ← walked_read s kept i w, t, add-one i)

  -- the walk is done
  pub walked_kept : (s : List Float) (kept i : ℕ) → Walked s kept i → length s₀ ≤ i → take kept s ≡ thinned test None s₀
  unfolding thinned
  walked_kept s kept i w h = sym (append-nil (take kept s)) ∙ (rw (drop_of_length-le s₀ h) at w.is)

  pub walked_count : (s : List Float) (kept i : ℕ) → Walked s kept i → length s₀ ≤ i → kept ≡ length (thinned test None s₀)
  walked_count s kept i w h = sym (length-take-le kept s (omega (arith, w.below, w.within, w.long)))
      ∙ ap length (walked_kept s kept i w h)

  pub walked_cells : (s : List Float) (kept i : ℕ) → Walked s kept i → length s₀ ≤ i → s ≡ thinned test None s₀ ++ drop kept s₀
  walked_cells s kept i w h = sym (take-append-drop kept s) ∙ rw (walked_kept s kept i w h, w.rest)
