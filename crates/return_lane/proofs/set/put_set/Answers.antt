-- The new breaks, read back, give the new widths.
use Rattle.std.proofs.Common.{arith, ◌≡◌, ◌∙◌, ℕ, ◌+◌, ◌-◌, ◌*◌, ◌≤◌, List, length}
use lib.Ieee.{Float}
use Rattle.window.specs.Window.{window}
use Rattle.window.specs.Rows.{list_of, written}
use Rattle.window.proofs.Windows.{window_same}
use Rattle.window.proofs.Written.{written_next}
use Rattle.curve.specs.Form.{width_of, with_widths}
use Rattle.return_lane.specs.Return.{return_breaks, return_coefficients}
use Rattle.return_lane.proofs.Returned.{breaks_length, coefficients_length}
use Rattle.return_lane.proofs.set.put_set.Goals as goal

-- the breaks that were written
read_back : (b l l' : List Float) → length b ≤ length l → l' ≡ written 0 (return_breaks b) l → window 0 (length b) l' ≡ return_breaks b
read_back b l l' h e =
    let v = return_breaks b in
    let k : length b ≡ 0 + length v = omega (arith, breaks_length b) in
    (λ i. window 0 (k i) (e i)) ∙ window_same 0 (0 + length v) v l (omega arith) (omega arith)

-- the widths behind the coefficients
widths-behind : (m n : ℕ) (b c part l l' l'' : List Float) → part ≡ return_breaks b → 6 * (n * m) ≤ length l
    → l' ≡ written 0 (return_coefficients m n c) l → l'' ≡ written (6 * (n * m)) (list_of (length part - 1) (width_of part)) l'
    → l'' ≡ written 0 (with_widths (return_breaks b) (return_coefficients m n c)) l
widths-behind m n b c part l l' l'' e h p q =
    let v = return_coefficients m n c in
    let w = return_breaks b in
    let k : 6 * (n * m) ≡ 0 + length v = omega (arith, coefficients_length m n c) in
    q ∙ (λ i. written (k i) (list_of (length (e i) - 1) (width_of (e i))) (p i))
    ∙ written_next 0 v l (list_of (length w - 1) (width_of w)) (omega arith)

pub returns-clause-lent_coefficients_after : goal.returns-clause-lent_coefficients_after
returns-clause-lent_coefficients_after c =
    let a = c.args in
    widths-behind a.m a.n a.breaks.now a.coefficients.now _ a.lent_coefficients.now _ _
    (read_back a.breaks.now a.lent_breaks.now _ c.requires.0 c.put_breaks.ensures) (omega (arith, c.requires.2)) c.put_segments.ensures
    c.put_widths.ensures
