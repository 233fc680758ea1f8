use Rattle.std.proofs.Common.{◌≡◌, refl, sym, ap, ◌∙◌, List, ◌++◌, map, append-nil, ℕ, ◌+◌, ◌-◌, ◌≤◌, ◌<◌, arith, length, take, drop, get_or, set}
use lib.Ieee.{Float, nan}
use lib.ListN.{length-map, length-drop}
use lib.Seq.{get_or-drop, drop-length}
use Rattle.window.specs.Window.{window}
use Rattle.window.proofs.Joined.{map_at}
use Rattle.window.proofs.Filling.{copy_more}
use Rattle.lane_file.specs.Curves.{number_of}
use Rattle.lane_totals.proofs.segments.powers_at.Goals as goal

abbrev from-there : List ℕ → ℕ → List Float
from-there coefficients from = drop from (map number_of coefficients)

next : (coefficients : List ℕ) (from k : ℕ) (cells₀ cells : List Float) (x : Float) → from + 6 ≤ length coefficients → k < 6
    → length cells₀ ≡ 6 → x ≡ number_of (get_or coefficients (from + k) 0) → cells ≡ take k (from-there coefficients from) ++ drop k cells₀
    → set cells k x ≡ take (k + 1) (from-there coefficients from) ++ drop (k + 1) cells₀
next l from k cells₀ cells x h g n e f =
    let m = length-map l number_of in
    let d = length-drop from (map number_of l) in
    let q : x ≡ get_or (from-there l from) k nan =
    e ∙ sym (map_at number_of l (from + k) 0 nan (omega (arith, h, g))) ∙ sym (get_or-drop from (map number_of l) k nan) in
    ap (λ (c : List Float). set c k x) f ∙ ap (set (take k (from-there l from) ++ drop k cells₀) k) q
    ∙ copy_more (from-there l from) cells₀ k nan (omega (arith, h, g, m, d)) (omega (arith, n, g))

all : (coefficients : List ℕ) (from k : ℕ) (cells₀ cells : List Float) → k ≡ 6 → length cells₀ ≡ 6
    → cells ≡ take k (from-there coefficients from) ++ drop k cells₀ → cells ≡ window from (from + 6) (map number_of coefficients)
all l from k cells₀ cells e n f =
    let s : from + 6 - from ≡ 6 = omega arith in
    f ∙ ap (λ (i : ℕ). take i (from-there l from) ++ drop i cells₀) e
    ∙ ap (λ (i : ℕ). take 6 (from-there l from) ++ drop i cells₀) (sym n)
    ∙ ap (λ (t : List Float). take 6 (from-there l from) ++ t) (drop-length cells₀) ∙ append-nil (take 6 (from-there l from))
    ∙ ap (λ (i : ℕ). take i (from-there l from)) (sym s)

pub loop-k-preserved : goal.loop-k-preserved
loop-k-preserved c =
    let l = c.loop-k in
    next c.args.coefficients.now c.args.from l.k _ l.cells c.number.result c.requires (omega arith) refl c.number.ensures l.invariant

pub returns : goal.returns
returns c =
    let l = c.loop-k in
    all c.args.coefficients.now c.args.from l.k _ l.cells (omega arith) refl l.invariant
