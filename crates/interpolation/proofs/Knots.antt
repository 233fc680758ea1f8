-- The knots, one at every inner waypoint, and a slice in which they are written from the first on.
use mathlib.Core.Path.{◌≡◌, sym, ap, ◌∙◌}
use mathlib.Core.List.{List, ◌++◌, append_assoc}
use Prim.Native.Nat.{ℕ, ◌+◌, ◌-◌, ◌≤◌, ◌<◌}
use native.Mathlib.Omega.{arith}
use native.Mathlib.Numerals.{add-one}
use lib.ListN.{length, take, drop, set, replicate, length-append, length-replicate, get_or-replicate, get_or-append}
use lib.Seq.{take_all, paste, paste-zero, paste-suc, get_or-append-add}
use lib.Ieee.{Float, nan}
use Rattle.arith.specs.Operations.{floats}
use Rattle.window.specs.Window.{window, splice}
use Rattle.window.specs.Cells.{+0, at, zeros}
use Rattle.window.proofs.Windows.{length_window, window_cell, window_before}
use Rattle.window.proofs.Seams.{splice_plain}
use Rattle.smoothing.specs.Start.{open_knots}

-- ---- the knots for n parameters s
module _ (s : List Float) (n : ℕ) (two : 2 ≤ n) (long : n ≤ length s) where
  abbrev inner : List Float
  inner = window 1 (n - 1) s

  abbrev ones : List Float
  ones = replicate 6 floats.one

  inner_long : length inner ≡ n - 2
  inner_long = length_window 1 (n - 1) s (omega arith) (omega arith) ∙ omega arith

  pub knots_long : length (open_knots inner) ≡ n + 10
  unfolding open_knots
  knots_long =
      let e = inner_long in length-append (zeros 6) (inner ++ ones) ∙ simp (length-append, length-replicate) (omega arith)

  after : (i : ℕ) → at (open_knots inner) (6 + i) ≡ at (inner ++ ones) i
  unfolding open_knots
  after i = get_or-append-add (zeros 6) (inner ++ ones) i nan

  pub first_knots_law : (j : ℕ) → j < 6 → +0 ≡ at (open_knots inner) j
  unfolding open_knots
  first_knots_law j h = sym (get_or-append (zeros 6) (inner ++ ones) nan j h ∙ get_or-replicate 6 j +0 nan h)

  pub inner_knots_law : (j : ℕ) → 6 ≤ j → j - 4 < n → at s (j - 5) ≡ at (open_knots inner) j
  inner_knots_law j h g =
      let k = inner_long in
      let e : j ≡ 6 + (j - 6) = omega arith in
      let f : 1 + (j - 6) ≡ j - 5 = omega arith in
      sym
      (ap (λ (i : ℕ). at (open_knots inner) i) e
      ∙ after (j - 6)
      ∙ get_or-append inner ones nan (j - 6) (omega arith)
      ∙ window_cell 1 (n - 1) s (j - 6) nan (omega arith)
      ∙ ap (λ (i : ℕ). at s i) f)

  pub last_knots : (j : ℕ) → n ≤ j - 4 → j < n + 10 → floats.one ≡ at (open_knots inner) j
  last_knots j g h =
      let k = inner_long in
      let i = j - (n + 4) in
      let e : j ≡ 6 + (length inner + i) = omega arith in
      sym
      (ap (λ (i : ℕ). at (open_knots inner) i) e
      ∙ after (length inner + i)
      ∙ get_or-append-add inner ones i nan
      ∙ get_or-replicate 6 i floats.one nan (omega arith))

-- ---- the slice w with the first j knots in their place, from t on
module _ (w knots : List Float) (t : ℕ) where
  abbrev pub partly : ℕ → List Float
  partly j = splice t (t + j) (take j knots) w

  pasted : (j : ℕ) → partly j ≡ paste w t knots j
  pasted j = splice_plain t (t + j) (take j knots) w (omega arith) ∙ sym (append_assoc (take t w) (take j knots) (drop (t + j) w))

  pub none_written : w ≡ partly 0
  none_written = paste-zero w t knots ∙ sym (pasted 0)

  one_more : (j : ℕ) → t + j < length w → j < length knots → set (partly j) (t + j) (at knots j) ≡ partly (j + 1)
  one_more j h k =
      ap (λ (l : List Float). set l (t + j) (at knots j)) (pasted j)
      ∙ paste-suc w t knots j nan h k
      ∙ ap (λ (i : ℕ). paste w t knots i) (sym (add-one j))
      ∙ sym (pasted (j + 1))

  pub all_written : (j m : ℕ) → j ≡ m → m ≡ length knots → partly j ≡ splice t (t + m) knots w
  all_written j m e f = ap partly e ∙ ap (λ (l : List Float). splice t (t + m) l w) (take_all m knots (omega arith))

-- the parameters lie before t, from s on; v is the next knot
pub next_written : (w₀ w : List Float) (n s t j : ℕ) (v : Float) → 2 ≤ n → s + n ≤ t → t + (n + 10) ≤ length w₀ → j < n + 10
    → let knots = open_knots (window 1 (n - 1) (window s (s + n) w₀)) in w ≡ partly w₀ knots t j
    → v ≡ at (open_knots (window 1 (n - 1) (window s (s + n) w))) j → set w (t + j) v ≡ partly w₀ knots t (j + 1)
next_written w₀ w n s t j v two apart room h e f =
    let knots = open_knots (window 1 (n - 1) (window s (s + n) w₀)) in
    let m = length_window s (s + n) w₀ (omega arith) (omega arith) in
    let k = knots_long (window s (s + n) w₀) n two (omega arith) in
    let same : window s (s + n) w ≡ window s (s + n) w₀ =
    ap (λ (l : List Float). window s (s + n) l) e ∙ window_before t (t + j) (take j knots) w₀ s (s + n) (omega arith) apart (omega arith) in
    let g : v ≡ at knots j = f ∙ ap (λ (l : List Float). at (open_knots (window 1 (n - 1) l)) j) same in
    ap (λ (l : List Float). set l (t + j) v) e
    ∙ ap (λ (x : Float). set (partly w₀ knots t j) (t + j) x) g
    ∙ one_more w₀ knots t j (omega arith) (omega arith)
