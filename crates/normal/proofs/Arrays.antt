-- The system's arrays and the lent cells as a whole.
use mathlib.Core.Path.{◌≡◌, sym, ap, ◌∙◌}
use mathlib.Core.List.{List, ◌++◌}
use Prim.Native.Nat.{ℕ, ◌+◌, ◌-◌, ◌*◌, ◌≤◌}
use native.Mathlib.Omega.{arith}
use lib.ListN.{length, drop, length-drop, length-replicate, replicate-append-replicate}
use lib.Seq.{take_all, take_at, drop_at}
use lib.Ieee.{Float}
use Rattle.window.specs.Window.{window}
use Rattle.window.specs.Cells.{+0, zeros}
use Rattle.window.proofs.Parts.{cut}
use Rattle.normal.specs.System.{size_of, system_of, new_of}

-- the arrays are all of the cells
pub all_cells : (n d : ℕ) (l : List Float) → length l ≡ size_of n d → l ≡ (system_of n d l).band ++
    ((system_of n d l).right ++ (system_of n d l).scales)
all_cells n d l h =
    cut l 0 (6 * n) (omega arith)
    ∙ ap (λ (t : List Float). (system_of n d l).band ++ t) (cut l (6 * n) (6 * n + n * d) (omega arith) ∙ ap
    (λ (t : List Float). (system_of n d l).right ++ t)
    (sym (take_all (6 * n + n * d + n - (6 * n + n * d)) (drop (6 * n + n * d) l) (simp length-drop (omega arith)))))

-- a part of cleared cells is cleared
part : (size a k e : ℕ) → e - a ≡ k → a + k ≤ size → window a e (zeros size) ≡ zeros k
part size a k e p h =
    let q : size ≡ a + (k + (size - (a + k))) = omega arith in
    ap (λ (m : ℕ). window a e (zeros m)) q
    ∙ rw (
      p,
      ← replicate-append-replicate a (k + (size - (a + k))) +0,
      ← replicate-append-replicate k (size - (a + k)) +0,
      drop_at (zeros a)
          (zeros k ++ zeros (size - (a + k))) a (length-replicate a +0),
    ) (take_at (zeros k) (zeros (size - (a + k))) k (length-replicate k +0))

-- cleared cells are a new system
pub new_system : (n d : ℕ) → system_of n d (zeros (size_of n d)) ≡ new_of n d
new_system n d =
    rw (
      part (size_of n d) 0 (6 * n) (6 * n) (omega arith) (omega arith),
      part (size_of n d) (6 * n) (n * d) (6 * n + n * d) (omega arith)
          (omega arith),
      part (size_of n d) (6 * n + n * d) n (6 * n + n * d + n) (omega arith) (omega arith),
    )
