-- The six coefficients of an intersection as the code has them: a part of a slice. Its figure depends on no others.
use mathlib.Core.List.{List, [], ◌∷◌}
use mathlib.Core.Path.{◌∙◌, ◌≡◌, ap, refl, sym}
use Prim.Native.Nat.{ℕ, zero, suc, ◌+◌, ◌-◌, ◌<◌, ◌≤◌}
use native.Mathlib.Numerals.{add-one}
use native.Mathlib.Omega.{arith}
use lib.Ieee.{Float, nan}
use lib.ListN.{drop, length, take}
use lib.Seq.{drop-cons, get_or-drop, get_or-take}
use Rattle.window.specs.Cells.{+0, at}
use Rattle.fraction.specs.Pair.{Ends}
use Rattle.figure.specs.Operations.{ends}
use Rattle.figure.specs.Intersection.{Intersection, difference_bernstein, difference_power, line_at_left, line_rise, offset, power, scale}
use Rattle.figure.specs.Figure.{Figure, absolute_end, figure, halved_figure, intersection_figure, larger, six_figure, smaller}
use Rattle.figure.specs.Halving.{left_half, right_half}
use Rattle.figure.proofs.Enclosure.{bernstein_keeps, power_keeps, without_keeps}
use Rattle.figure.proofs.Halves.{left_keeps, right_keeps}
use Rattle.arith.proofs.Loops.{each_same}
use Rattle.certificate.proofs.Sums.{same_keeps}

-- ---- the part
-- one cell and the next
cell : (l : List Float) (n a b : ℕ) → a + 1 ≡ b → a < length l → take (suc n) (drop a l) ≡ at l a ∷ take n (drop b l)
cell l n a b e h = rw (← e, add-one, drop-cons l a nan)

pub six_cells : (l : List Float) (a : ℕ) → a + 6 ≤ length l → at l a ∷ at l (a + 1) ∷ at l (a + 2) ∷ at l (a + 3) ∷ at l (a + 4) ∷ at l
    (a + 5) ∷ [] ≡ take 6 (drop a l)
six_cells l a h =
    sym (rw (
      cell l 5 a (a + 1) (omega arith) (omega arith),
      cell l 4 (a + 1) (a + 2) (omega arith) (omega arith),
      cell l 3 (a + 2) (a + 3) (omega arith) (omega arith),
      cell l 2 (a + 3) (a + 4) (omega arith) (omega arith),
      cell l 1 (a + 4) (a + 5) (omega arith) (omega arith),
      cell l 0 (a + 5) (a + 6) (omega arith) (omega arith),
    ))

-- its cells
pub cell_of_six : (l : List Float) (a j : ℕ) → j ≤ 5 → at (take 6 (drop a l)) j ≡ at l (a + j)
cell_of_six l a j h = let k : j < 6 = omega arith in rw (get_or-take, get_or-drop)

-- ---- the figure
-- with the coefficients p in the place of its own
abbrev pub with_coefficients : Intersection → (ℕ → Float) → Intersection
with_coefficients x p =
    record {
      start = x.start;
      end = x.end;
      coefficient = p;
      left = x.left;
      right = x.right;
      from = x.from;
      to = x.to;
      first =
          x.first;
      second = x.second;
    }

-- the first six pairs count, at every depth
six_same : (p q : ℕ → Ends) → ((k : ℕ) → k ≤ 5 → p k ≡ q k) → six_figure p ≡ six_figure q
unfolding six_figure
six_same p q h =
    each_same (λ k so_far. larger so_far (absolute_end (p k))) (λ k so_far. larger so_far (absolute_end (q k))) 0 6 (figure +0)
    (λ k g l m. ap (λ (e : Ends). larger g (absolute_end e)) (h k (omega arith)))

pub halved_same : (depth : ℕ) (p q : ℕ → Ends) → ((k : ℕ) → k ≤ 5 → p k ≡ q k) → halved_figure depth p ≡ halved_figure depth q
unfolding halved_figure
halved_same zero p q h = six_same p q h
halved_same (suc depth) p q h =
    let f = halved_same depth (left_half ends p) (left_half ends q) (left_keeps ends ends (◌≡◌ {A = Ends}) (same_keeps ends) p q h) in
    let g = halved_same depth (right_half ends p) (right_half ends q) (right_keeps ends ends (◌≡◌ {A = Ends}) (same_keeps ends) p q h) in
    rw (six_same p q h, f, g)

-- one step of the recursion, as the code has it: from the figures of two arrays that hold the halves
pub halved_step : (depth : ℕ) (p lp rp : ℕ → Ends) (own f g h r : Figure) → (depth ≡ 0 → ⊥) → own ≡ six_figure p
    → ((k : ℕ) → k < 6 → lp k ≡ left_half ends p k) → ((k : ℕ) → k < 6 → rp k ≡ right_half ends p k)
    → f ≡ halved_figure (depth - 1) lp → g ≡ halved_figure (depth - 1) rp → h ≡ larger f g → r ≡ smaller own h → r ≡ halved_figure depth p
unfolding halved_figure
halved_step zero p lp rp own f g h r above o L R F G H e = absurd (above refl)
halved_step (suc depth) p lp rp own f g h r above o L R F G H e =
    let n : suc depth - 1 ≡ depth = omega arith in
    let F' = F ∙ ap (λ (d : ℕ). halved_figure d lp) n ∙ halved_same depth lp (left_half ends p) (λ k l. L k (omega arith)) in
    let G' = G ∙ ap (λ (d : ℕ). halved_figure d rp) n ∙ halved_same depth rp (right_half ends p) (λ k l. R k (omega arith)) in
    rw (e, o, H, F', G')

-- the first six coefficients count
pub six_count : (depth : ℕ) (x : Intersection) (p : ℕ → Float) → ((k : ℕ) → k ≤ 5 → p k ≡ x.coefficient k) → intersection_figure depth
    (with_coefficients x p)
    ≡ intersection_figure depth x
unfolding intersection_figure
six_count depth x p h =
    halved_same depth (difference_bernstein ends (with_coefficients x p)) (difference_bernstein ends x) pairs
  where
    powers : (j : ℕ) → j ≤ 5 → difference_power ends (with_coefficients x p) j ≡ difference_power ends x j
    powers j l =
        without_keeps ends ends (◌≡◌ {A = Ends}) (same_keeps ends) (line_at_left ends x) (line_rise ends x) (line_at_left ends x)
        (line_rise ends x) (power ends (λ k. ends.number (p k)) (offset ends x) (scale ends x))
        (power ends (λ k. ends.number (x.coefficient k)) (offset ends x) (scale ends x)) j refl refl
        (power_keeps ends ends (◌≡◌ {A = Ends}) (same_keeps ends) (λ k. ends.number (p k)) (λ k. ends.number (x.coefficient k))
        (offset ends x) (scale ends x) (offset ends x) (scale ends x) j l (λ k m. ap ends.number (h k m)) refl refl)

    pairs : (k : ℕ) → k ≤ 5 → difference_bernstein ends (with_coefficients x p) k ≡ difference_bernstein ends x k
    pairs k l = bernstein_keeps ends ends (◌≡◌ {A = Ends}) (same_keeps ends) (difference_power ends (with_coefficients x p))
        (difference_power ends x) k l powers
