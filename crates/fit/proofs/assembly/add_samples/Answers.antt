use Rattle.std.proofs.Common.{◌≡◌, ◌+◌, ◌-◌, List, refl, sym, ap, ◌∙◌, arith}
use lib.Ieee.{Float}
use Rattle.arith.proofs.Loops.{each_done, each_next}
use Rattle.fitting_rows.specs.Arrays.{arrays_at}
use Rattle.fit.specs.Region.{before, system_at}
use Rattle.fitting_rows.specs.Samples.{dense_of, sample_span, sample_row_of}
use Rattle.fit.specs.Assembly.{assembled, added, samples_of}
use Rattle.fit.proofs.Placing.{placed}
use Rattle.fit.proofs.Turns.{row_counted, sample_counted, sample_passed}
use Rattle.fit.proofs.assembly.add_samples.Goals as goal

pub first_density-seen-requires : goal.first_density-seen-requires
first_density-seen-requires c = placed _ _ _ _ c.requires.0

pub loop-i-init : goal.loop-i-init
unfolding samples_of
loop-i-init c =
    record {
      rows_few = omega arith;
      rows_le_last = omega arith;
      length_same = refl;
      arrays_same = refl;
      seen_dense = c.first_density-seen.ensures;
      left = refl;
    }

-- the arrays are those at entry, so what was learnt of a span still holds
pub look-seen-requires : goal.look-seen-requires
look-seen-requires c =
    let a = c.args in
    let l = c.loop-i in
    record {
      arrays_within = (placed a.w.place a.w.a a.w.z l.work (rw l.invariant.length_same c.requires.0), omega arith);
      dense_value = l.invariant.seen_dense ∙ ap (λ (v : List Float). dense_of (arrays_at a.w.place v).t (arrays_at a.w.place v).s l.seen.span)
          (sym l.invariant.arrays_same);
    }

pub add_sample-requires : goal.add_sample-requires
add_sample-requires c =
    let s = c.look-seen.ensures.span_value in
    (rw c.loop-i.invariant.length_same c.requires.0, omega arith, omega (arith, s), omega (arith, s))

pub loop-i-preserved : goal.loop-i-preserved
loop-i-preserved c =
    let a = c.args in
    let p = a.w.place in
    let l = c.loop-i in
    let x = arrays_at p (before p a.work.now) in
    let b = l.invariant.arrays_same in
    let s = c.look-seen.result in
    let span : s.span ≡ sample_span x l.i = c.look-seen.ensures.span_value ∙ ap (λ (v : List Float). sample_span (arrays_at p v) l.i) b in
    let dense : s.dense ≡ dense_of x.t x.s s.span = c.look-seen.ensures.dense_value_2 ∙ ap (λ (v : List Float). dense_of (arrays_at p v).t
    (arrays_at p v).s s.span) b in
    let state = system_at p (a.w.z - a.w.a) l.work in
    elim c.if-seen.branch [
      | goal.then-seen w ↦ rw (w.work-is, w.rows-is) (record {
        rows_few = omega arith;
        rows_le_last = omega arith;
        length_same = omega arith;
        arrays_same = w.add_sample.ensures.work_unchanged ∙ b;
        seen_dense = dense;
        left = each_next _ _ _ (omega arith) (ap (assembled (l.rows + 1))
            (w.add_sample.ensures.work_after ∙ ap (λ (u : List Float). added (arrays_at p u) a.w.a a.w.z (sample_row_of (arrays_at p u) l.i s.span)
            state) b)
            ∙ row_counted x a.w.a a.w.z (sample_row_of x l.i s.span) l.rows state
            ∙ sample_counted x a.w.a a.w.z l.i s.span s.dense (assembled l.rows state) span dense w.if-seen.true) l.invariant.left;
      })
      | goal.else-seen w ↦ rw (w.work-is, w.rows-is) (record {
        rows_few = omega arith;
        rows_le_last = omega arith;
        length_same = l.invariant.length_same;
        arrays_same = b;
        seen_dense = dense;
        left = each_next _ _ _ (omega arith)
            (sample_passed x a.w.a a.w.z l.i s.span s.dense (assembled l.rows state) span dense w.if-seen.false) l.invariant.left;
      })
    ]

pub shape_of-work : goal.shape_of-work
shape_of-work c = c.loop-i.invariant.length_same

pub returns : goal.returns
returns c =
    let l = c.loop-i in
    record {
      work_unchanged = l.invariant.arrays_same;
      work_after = sym (each_done _ _ _ _ (omega arith)) ∙ l.invariant.left;
      upper_bound = omega arith;
    }
