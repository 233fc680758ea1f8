-- Which answer a call gets: by the first check that refuses, or that all are passed; and what an answer leaves in the lent slices.
use mathlib.Core.Path.{◌≡◌, refl, ap, ◌∙◌}
use mathlib.Core.Bool.{Bool, true, false, not, ◌&&◌, cond}
use mathlib.Core.List.{List}
use Prim.Native.Nat.{ℕ, suc, ◌+◌, ◌-◌, ◌*◌, ◌≤◌}
use native.Mathlib.Omega.{arith}
use borrow.Author.Tests.{eqb-true, le-ltb, not-false}
use lib.Dec.{eqb}
use lib.ListN.{length, take, drop}
use lib.Seq.{take_at}
use lib.Ieee.{Float}
use Rattle.arith.proofs.Truth.{and_parts}
use Rattle.window.specs.Rows.{written}
use Rattle.window.proofs.Written.{written_plain}
use Rattle.curve.specs.declared.Curve.{Curve}
use Rattle.curve.specs.Form.{Slices, slices, set_formed, others_formed, well_formed}
use Rattle.curve.proofs.Formed.{formed, set_parts}
use Rattle.return_lane.specs.Return.{return_slices, short_for, rises_back, onto_slices, used_by, Outcome, outcome, return_of}
use Rattle.return_lane.proofs.Returned.{breaks_length, set_length, return_well_formed}

-- ---- the cells of a set
set_cells : (m n : ℕ) (b c : List Float) → set_formed m n b c ≡ true → 6 * (n * m) + (length b - 1) ≡ length c
set_cells m n b c h = let z = set_parts m n b c h in omega (arith, z.breaks_length, z.coefficients_length)

other_cells : (m n : ℕ) (b c : List Float) → others_formed m n b c ≡ true → 6 * (n * m) + (length b - 1) ≡ length c
unfolding others_formed
other_cells m n b c h = go (eqb m 0) h
  where
    go : (t : Bool) → cond t (eqb n 0 && eqb (length b) 0 && eqb (length c) 0) (set_formed m n b c) ≡ true
        → 6 * (n * m) + (length b - 1) ≡ length c
    go true g =
        let p = and_parts (eqb n 0 && eqb (length b) 0) (eqb (length c) 0) g in
        let q = and_parts (eqb n 0) (eqb (length b) 0) p.0 in
        let none : n ≡ 0 = eqb-true n 0 q.0 in
        let k : n * m ≡ 0 = rw none (omega arith) in
        omega (arith, eqb-true (length b) 0 q.1, eqb-true (length c) 0 p.1)
    go false g = set_cells m n b c g

front : (v l : List Float) {n : ℕ} → length v ≡ n → take n (written 0 v l) ≡ v
front v l {n} e = ap (take n) (written_plain 0 v l) ∙ take_at v (drop (0 + length v) l) n e

-- an answer that is no refusal passed the check, and is what follows it
passed : (b : Bool) (k : ℕ) (lent after : Slices) (next : Outcome) → outcome 0 after ≡ cond b (outcome (suc k) lent) next
    → (b ≡ false) × (outcome 0 after ≡ next)
passed true k lent after next h = let e : 0 ≡ suc k = ap (λ (o : Outcome). o.number) h in absurd (omega arith)
passed false k lent after next h = (refl, h)

module _ (c : Curve) (s : Slices) where
  -- both sets
  module _ (h : well_formed c s ≡ true) where
    pub selected_cells : 6 * (c.segments * c.k) + (length s.breaks - 1) ≡ length s.coefficients
    selected_cells = set_cells c.k c.segments s.breaks s.coefficients (formed c s h).set_formed_law

    pub others_cells : 6 * (c.other_segments * (c.d - c.k)) + (length s.other_breaks - 1) ≡ length s.other_coefficients
    others_cells = other_cells (c.d - c.k) c.other_segments s.other_breaks s.other_coefficients (formed c s h).others_formed_law

    -- the return lane is what the first cells hold
    pub used : (lent : Slices) → used_by s (onto_slices (return_slices c s) lent) ≡ return_slices c s
    used lent =
        let t = return_slices c s in
        λ i. slices (front t.breaks lent.breaks (breaks_length s.breaks) i)
        (front t.coefficients lent.coefficients
        (set_length c.k c.segments s.breaks s.coefficients ∙ selected_cells) i)
        (front t.other_breaks lent.other_breaks (breaks_length s.other_breaks) i)
        (front t.other_coefficients lent.other_coefficients
        (set_length (c.d - c.k) c.other_segments s.other_breaks s.other_coefficients ∙ others_cells) i)

    pub used_well_formed : (lent after : Slices) → rises_back s.breaks ≡ true → rises_back s.other_breaks ≡ true
        → after ≡ onto_slices (return_slices c s) lent → well_formed c (used_by s after) ≡ true
    used_well_formed lent after r q e =
        ap (λ (t : Slices). well_formed c (used_by s t)) e ∙ ap (well_formed c) (used lent) ∙ return_well_formed c s h r q

  -- the checks in their order
  module _ (lent : Slices) where
    pub malformed : well_formed c s ≡ false → outcome 24 lent ≡ return_of c s lent
    unfolding return_of
    malformed f = rw f

    pub too_short : well_formed c s ≡ true → short_for s lent ≡ true → outcome 19 lent ≡ return_of c s lent
    unfolding return_of
    too_short f h = rw (f, h)

    -- what the first two checks let through
    pub record Roomy : Type 0 where
      pub formed : well_formed c s ≡ true
      pub breaks : length s.breaks ≤ length lent.breaks
      pub coefficients : length s.coefficients ≤ length lent.coefficients
      pub other_breaks : length s.other_breaks ≤ length lent.other_breaks
      pub other_coefficients : length s.other_coefficients ≤ length lent.other_coefficients

    module _ (p : Roomy) where
      long : short_for s lent ≡ false
      unfolding short_for
      long =
          rw (
            le-ltb _ _ p.breaks,
            le-ltb _ _ p.coefficients,
            le-ltb _ _ p.other_breaks,
            le-ltb _ _ p.other_coefficients,
          )

      pub not_rising : (rises_back s.breaks && rises_back s.other_breaks) ≡ false → outcome 29 lent ≡ return_of c s lent
      unfolding return_of
      not_rising h = rw (p.formed, long, h)

      pub done : (after : Slices) → rises_back s.breaks ≡ true → rises_back s.other_breaks ≡ true
          → after ≡ onto_slices (return_slices c s) lent → outcome 0 after ≡ return_of c s lent
      unfolding return_of
      done after r q e = rw (p.formed, long, r, q) (ap (outcome 0) e)

    -- what an answer without a refusal says
    pub record Done (after : Slices) : Type 0 where
      pub formed : well_formed c s ≡ true
      pub rises : rises_back s.breaks ≡ true
      pub others_rise : rises_back s.other_breaks ≡ true
      pub put : after ≡ onto_slices (return_slices c s) lent

    pub no_refusal : (after : Slices) → outcome 0 after ≡ return_of c s lent → Done after
    unfolding return_of
    no_refusal after h =
        let e24 = passed (not (well_formed c s)) 23 lent after _ h in
        let e19 = passed (short_for s lent) 18 lent after _ e24.1 in
        let e29 = passed (not (rises_back s.breaks && rises_back s.other_breaks)) 28 lent after _ e19.1 in
        let both = and_parts (rises_back s.breaks) (rises_back s.other_breaks) (not-false _ e29.0) in
        record {
          formed = not-false (well_formed c s) e24.0;
          rises = both.0;
          others_rise = both.1;
          put = ap (λ (o : Outcome). o.after) e29.1;
        }
