-- What the slice holds once bounds and witnesses are written: the parts that are read are as they were.
use mathlib.Core.Path.{◌≡◌, refl, sym, ap, ◌∙◌}
use mathlib.Core.List.{List}
use Prim.Native.Nat.{ℕ, ◌+◌, ◌-◌, ◌*◌, ◌≤◌, ◌<◌}
use native.Mathlib.Numerals.{add-one}
use native.Mathlib.Omega.{arith}
use lib.ListN.{length, length-set, set, take}
use Rattle.std.proofs.Common.{length-take-le}
use Rattle.std.proofs.Math.Seq.{take-suc}
use lib.Ieee.{Float, nan}
use Rattle.arith.proofs.Loops.{each_keeps, each_runs}
use Rattle.window.specs.Cells.{at}
use Rattle.window.specs.Rows.{written}
use Rattle.window.specs.Window.{splice}
use Rattle.window.proofs.Written.{written_none, set_next}
use Rattle.window.proofs.Windows.{splice_window}
use Rattle.polynomial.specs.declared.audit.Parts.{Parts}
use Rattle.polynomial.specs.Interval.{Interval, interval_of}
use Rattle.polynomial.specs.Audit.{bounds_with}
use Rattle.polynomial.specs.Placed.{PartsLaid, breaks_at, coefficients_at, parameters_at, points_at, bounds_at, witness_at, interval_at, with_bounds}
use Rattle.window.proofs.TwoParts.{Apart, both_length, both_before, both_after, both_first, both_second, both_again}

-- bounds written leave their number
pub bounds_length : (row d : ℕ) (cells bounds : List Float) → length (bounds_with row d cells bounds) ≡ length bounds
unfolding bounds_with
bounds_length row d cells bounds = each_keeps (λ (b : List Float). length b ≡ length bounds) _ 0 d bounds (λ i b h. simp length-set h) refl

-- the slice holds what it holds
pub bounds_own : (p : Parts) (w : List Float) → with_bounds p (bounds_at p w) (witness_at p w) w ≡ w
bounds_own p w =
    let b = p.bounds in
    let e = p.bounds + (p.samples - 1) * p.axes in
    let f = p.witness in
    let g = p.witness + (p.samples - 1) in
    rw (splice_window b e w) (splice_window f g w)

module _ (p : Parts) (w x z : List Float) (laid : PartsLaid p (length w)) (lx : length x ≡ (p.samples - 1) * p.axes)
    (lz : length z ≡ p.samples - 1) where
  abbrev e : ℕ
  e = p.bounds + (p.samples - 1) * p.axes

  abbrev f : ℕ
  f = p.witness + (p.samples - 1)

  apart : Apart p.bounds e p.witness f x z w
  apart =
      record {
        be = omega arith;
        ew = laid.bounds_end;
        wf = omega arith;
        fl = omega arith;
        first_fits = omega arith;
        second_fits = omega arith;
      }

  pub bounds_keep : length (with_bounds p x z w) ≡ length w
  bounds_keep = both_length apart

  -- an interval is audited from what was there before
  pub interval_same : (i span : ℕ) {u : List Float} {r : Interval} → u ≡ with_bounds p x z w → r ≡ interval_at p i span u
      → r ≡ interval_of (breaks_at p w) (coefficients_at p w) (parameters_at p w) (points_at p w) p.axes i span (at z i)
  interval_same i span e is = is ∙ ap (interval_at p i span) e ∙ same
    where
      same : interval_at p i span (with_bounds p x z w) ≡ interval_of (breaks_at p w) (coefficients_at p w) (parameters_at p w) (points_at p w)
          p.axes i span (at z i)
      same =
          rw (
            both_after apart p.breaks (p.breaks + p.segments + 1) laid.before_breaks,
            both_after apart p.coefficients (p.coefficients + p.segments * (6 * p.axes)) laid.before_coefficients,
            both_before apart p.parameters (p.parameters + p.samples) (omega arith) laid.parameters_end,
            both_before apart p.points (p.points + p.samples * p.axes) (omega arith) laid.points_end,
            both_second apart,
          )

  -- bounds and witnesses changed once more, to g and h of what they were
  pub bounds_next : (g h : List Float → List Float) → length (g x) ≡ (p.samples - 1) * p.axes → {u v : List Float} → u ≡ with_bounds p x z w
      → v ≡ with_bounds p (g (bounds_at p u)) (h (witness_at p u)) u → v ≡ with_bounds p (g x) (h z) w
  bounds_next g h k e is =
      is
      ∙ ap (λ (u : List Float). with_bounds p (g (bounds_at p u)) (h (witness_at p u)) u) e
      ∙ ap (λ (t : List Float). with_bounds p (g t) (h (witness_at p (with_bounds p x z w))) (with_bounds p x z w)) (both_first apart)
      ∙ ap (λ (t : List Float). with_bounds p (g x) (h t) (with_bounds p x z w)) (both_second apart)
      ∙ both_again apart (g x) (h z) (omega arith)

-- cells copied from `row` on are set one after the other
pub bounds_copied : (row d : ℕ) (cells bounds : List Float) → d ≤ length cells → row + d ≤ length bounds
    → splice row (row + d) (take d cells) bounds ≡ bounds_with row d cells bounds
unfolding bounds_with
bounds_copied row d cells bounds h g =
    let n = length-take-le d cells h in
    ap (λ (k : ℕ). splice row (row + k) (take d cells) bounds) (sym n)
    ∙ sym (each_runs (λ i b. b ≡ written row (take i cells) bounds) (λ axis b. set b (row + axis) (at cells axis)) 0 d bounds (omega arith)
    step (sym (written_none row bounds)))
  where
    step : (i : ℕ) (b : List Float) → 0 ≤ i → i < d → b ≡ written row (take i cells) bounds
        → set b (row + i) (at cells i) ≡ written row (take (i + 1) cells) bounds
    step i b l k is =
        let n = length-take-le i cells (omega arith) in
        let q : row + i ≡ row + length (take i cells) = omega arith in
        ap (λ (b : List Float). set b (row + i) (at cells i)) is
        ∙ (λ j. set (written row (take i cells) bounds) (q j) (at cells i))
        ∙ set_next row (take i cells) bounds (at cells i) (omega arith)
        ∙ ap (λ (v : List Float). written row v bounds) (sym (take-suc cells i nan (omega arith)) ∙ ap (λ (k : ℕ). take k cells) (sym (add-one i)))
