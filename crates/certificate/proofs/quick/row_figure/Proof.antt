-- `quick::row_figure` meets its contract.
use native.Mathlib.Omega.{arith}
use lib.Ieee.{of_bits, round}
use Rattle.figure.specs.Intersection.{bernstein}
use Rattle.estimate.proofs.Largest.{six_largest}
use Rattle.certificate.proofs.LargestEnd.{zero_not_negative}
use borrow.Author.Rules.{rules}
use Rattle.certificate.proofs.quick.row_figure.Statement.{statement}
use Rattle.certificate.proofs.quick.row_figure.Tie as tie

returns : tie.Need-returns
unfolding bernstein of_bits round
returns c = λ f Q.
    let b = c.first_term-b.ensures _ Q.0 in
    let m0 = c.largest-most_0.ensures 760 _ (omega arith) b tt
    zero_not_negative in
    let m1 = c.largest-most_1.ensures 761 _ (omega arith) (c.row_1.ensures f Q b) m0.1 m0.2 in
    let m2 = c.largest-most_2.ensures 762 _ (omega arith) (c.row_2.ensures f Q b) m1.1 m1.2 in
    let m3 = c.largest-most_3.ensures 763 _ (omega arith) (c.row_3.ensures f Q b) m2.1 m2.2 in
    let m4 = c.largest-most_4.ensures 764 _ (omega arith) (c.row_4.ensures f Q b) m3.1 m3.2 in
    let m5 = c.largest.ensures 765 _ (omega arith) (c.row_5.ensures f Q b) m4.1 m4.2 in
    six_largest _ _ _ _ _ _ _ m0.0 m1.0 m2.0 m3.0 m4.0 m5.0

pub row_figure_spec : {M : Type 1} → statement M
row_figure_spec = tie.close (tie.spec (λ c κs. search rules) (λ c κs. search rules) (λ c κs. search rules) (λ c κs. search rules) (λ c
    κs. search rules) (λ c κs. search rules) (λ c κs. search rules) (λ c κs. search rules) (λ c κs. search rules) (λ c κs. search rules)
    (λ c κs. search rules) (λ c κs. search rules) returns)
