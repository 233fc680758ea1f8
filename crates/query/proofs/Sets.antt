-- The sets of a well-formed curve: their breaks rise from 0, and the rows of every segment lie in the slice.
use mathlib.Core.Path.{◌≡◌, refl, sym, subst}
use mathlib.Core.Bool.{Bool, true, false, ◌&&◌, ◌||◌, beq}
use mathlib.Core.List.{List}
use Prim.Native.Nat.{ℕ, zero, suc, ◌+◌, ◌*◌, ◌≤◌, ◌<◌}
use native.Mathlib.Omega.{arith}
use native.Mathlib.Nat.{mul-le-mul}
use borrow.Author.Tests.{eqb-true, le-ltb, eq-eqb, ne_eqb}
use lib.Dec.{eqb}
use lib.ListN.{length}
use lib.IntN.{pos}
use lib.Ieee.{Float, nan, inf, fin, binary64, up, down, below, lt, le, eq}
use Rattle.arith.proofs.Truth.{and_parts, clash}
use Rattle.arith.proofs.Rows.{row_end}
use Rattle.fraction.proofs.Value.{plus_zero}
use Rattle.window.specs.Cells.{at}
use Rattle.polynomial.specs.Span.{break_span}
use Rattle.curve.specs.Form.{set_formed, others_formed}
use Rattle.arith.proofs.Firsts.{every_at}
use Rattle.curve.proofs.Formed.{set_parts, kept_width}
use Rattle.query.specs.Search.{RisingBreaks, Widths}
use Rattle.query.specs.Segment.{located}

tail : (p q : Bool) → (p || (true && (q || true))) ≡ true
tail true q = refl
tail false true = refl
tail false false = refl

-- what equals 0 is not below it
zero_le : (x : Float) → eq x (fin false 0 (pos 0)) ≡ true → le (fin false 0 (pos 0)) x ≡ true
unfolding le lt eq
zero_le nan h = clash h refl
zero_le (inf s) h = clash h refl
zero_le (fin s m e) h =
    let a = m * up e * down (pos 0) in
    let b = 0 * up (pos 0) * down e in
    let p = eqb-true a b (and_parts (eqb a b) (beq s false || eqb a 0) h).0 in
    rw (eq-eqb b a (sym p), eq-eqb b 0 (omega arith)) (tail (below false b s a) (beq false s))

-- the breaks of a set rise from 0
pub set_rising : (m n : ℕ) (breaks coefficients : List Float) → set_formed m n breaks coefficients ≡ true → RisingBreaks breaks
set_rising m n b c h =
    let z = set_parts m n b c h in (
      λ l. subst (λ (o : Float). le o (at b 0) ≡ true) (sym (plus_zero binary64))
          (zero_le (at b 0) (subst (λ (o : Float). eq (at b 0) o ≡ true) (plus_zero binary64) z.from_zero)),
      λ i l. every_at (λ i. lt (at b i) (at b (i + 1))) n z.rising i (omega (arith, z.breaks_length)),
    )

pub others_rising : (m n : ℕ) (breaks coefficients : List Float) → others_formed m n breaks coefficients ≡ true → RisingBreaks breaks
unfolding others_formed
others_rising zero n b c h =
    let p = and_parts (eqb n 0 && eqb (length b) 0) (eqb (length c) 0) h in
    let z = eqb-true (length b) 0 (and_parts (eqb n 0) (eqb (length b) 0) p.0).1 in
    (λ l. absurd (omega arith), λ i l. absurd (omega arith))
others_rising (suc m) n b c h = set_rising (suc m) n b c (rw (ne_eqb (suc m) 0 (λ e. absurd (omega arith))) at h)

-- a parameter lies on a segment
pub span_below : (breaks : List Float) (u : Float) → 2 ≤ length breaks → break_span breaks u + 1 < length breaks
span_below b u h = omega arith

pub located_within : (breaks : List Float) (u : Float) → 2 ≤ length breaks → (located breaks u).span + 1 < length breaks
unfolding located
located_within b u h = rw (le-ltb (length b) 2 h) (omega arith)

-- wherever a parameter lies, the rows of its segment lie in the slice
pub set_rows : (m n : ℕ) (breaks coefficients : List Float) (u : Float) → set_formed m n breaks coefficients ≡ true
    → 6 * ((located breaks u).span * m + m) ≤ length coefficients
unfolding located
set_rows m n b c u h =
    let z = set_parts m n b c h in
    let l : 2 ≤ length b = omega (arith, z.some, z.breaks_length) in
    rw (le-ltb (length b) 2 l) (let r = row_end (break_span b u) n m (n * m) (omega (arith, z.some, z.breaks_length)) (omega arith) in omega
    (arith, z.coefficients_length))

pub other_rows_law : (m n : ℕ) (breaks coefficients : List Float) (u : Float) → others_formed m n breaks coefficients ≡ true
    → 6 * ((located breaks u).span * m + m) ≤ length coefficients
unfolding others_formed
other_rows_law zero n b c u h = omega arith
other_rows_law (suc m) n b c u h = set_rows (suc m) n b c u (rw (ne_eqb (suc m) 0 (λ e. absurd (omega arith))) at h)

-- the widths of a set's segments lie behind its coefficients
pub set_widths : (m n : ℕ) (breaks coefficients : List Float) → set_formed m n breaks coefficients ≡ true
    → Widths breaks coefficients (6 * (n * m))
set_widths m n b c h i l =
    let z = set_parts m n b c h in
    let k : i < n = omega (arith, z.breaks_length) in
    (omega (arith, z.coefficients_length), λ F. kept_width (6 * (n * m)) n b c z.kept i k F)

pub other_widths : (m n : ℕ) (breaks coefficients : List Float) → others_formed m n breaks coefficients ≡ true
    → Widths breaks coefficients (6 * (n * m))
unfolding others_formed
other_widths zero n b c h = λ i l.
    let p = and_parts (eqb n 0 && eqb (length b) 0) (eqb (length c) 0) h in
    let z = eqb-true (length b) 0 (and_parts (eqb n 0) (eqb (length b) 0) p.0).1 in
    absurd (omega arith)
other_widths (suc m) n b c h = set_widths (suc m) n b c (rw (ne_eqb (suc m) 0 (λ e. absurd (omega arith))) at h)

-- the coefficients of a set of up to 16 axes are few
pub set_few : (m n : ℕ) (breaks coefficients : List Float) → m ≤ 16 → set_formed m n breaks coefficients ≡ true → n * m ≤ 320000
set_few m n b c l h = let z = set_parts m n b c h in
    let few : n ≤ 20000 = z.most in
    mul-le-mul few l

pub others_few : (m n : ℕ) (breaks coefficients : List Float) → m ≤ 16 → others_formed m n breaks coefficients ≡ true → n * m ≤ 320000
unfolding others_formed
others_few zero n b c l h = omega arith
others_few (suc m) n b c l h = set_few (suc m) n b c l (rw (ne_eqb (suc m) 0 (λ e. absurd (omega arith))) at h)
