-- The curve is well formed: its sets have the rows and the widths that are read.
use Rattle.std.proofs.Common.{◌≡◌, ℕ, ◌+◌, ◌-◌, ◌*◌, ◌<◌, ◌≤◌, get_or, length, List, refl, arith}
use Rattle.arith.proofs.Rows.{row_end}
use Rattle.window.specs.Cells.{at}
use Rattle.window.specs.Rows.{join}
use Rattle.curve.specs.declared.Curve.{Curve}
use Rattle.curve.specs.Form.{Slices}
use Rattle.query.specs.Lent.{slices_of}
use Rattle.curve.specs.Places.{axis_place}
use Rattle.curve.proofs.Placing.{place_below}
use Rattle.curve.proofs.Formed.{Formed, formed, axes_good}
use Rattle.query.specs.Row.{outputs}
use Rattle.query.specs.Range.{answered_at}
use Rattle.query.proofs.Sets.{set_rows, other_rows_law, set_rising, others_rising, set_few, others_few, located_within}
use Rattle.query.proofs.Sets.{set_widths, other_widths}
use Rattle.query.proofs.Columns.{rows_columns, column_length, span_found}
use Rattle.query.proofs.Filled.{as_long, room_for, filled_none, rows_next}
use Rattle.query.proofs.entry.write_all.Invariants.{column}
use Rattle.query.proofs.entry.write_all.Goals as goal

-- the coefficients are few
few : {c : Curve} {s : Slices} → Formed c s → (c.segments * c.k ≤ 320000) × (c.other_segments * (c.d - c.k) ≤ 320000)
few f = (
  set_few _ _ _ _ (omega (arith, f.k_high, f.d_high)) f.set_formed_law,
  others_few _ _ _ _ (omega (arith, f.d_high)) f.others_formed_law,
)

-- the place of an axis is below d
places_below : {c : Curve} {s : Slices} → Formed c s → (table : List ℕ)
    → ((a : ℕ) → a < c.d → get_or table a 0 ≡ axis_place c.axes c.k a)
    → (a : ℕ) → a < c.k + (c.d - c.k)
    → get_or table a 0 < c.k + (c.d - c.k)
places_below {c} f table by a h =
    let o : a < c.d = omega (arith, f.k_high, h) in
    let w = place_below c.axes c.k c.d f.k_high (axes_good c.axes c.k c.d f.axes_formed_law) a o in
    rw (by a o) (omega (arith, f.k_high, w))

pub overflow_sub-m : goal.overflow_sub-m
overflow_sub-m c = omega (arith, (formed _ _ c.requires.other_coefficients_value).k_high)

pub find_places-table-requires : goal.find_places-table-requires
find_places-table-requires c = let f = formed _ _ c.requires.other_coefficients_value in
    (omega (arith, f.k_high, f.d_high), f.d_high)

pub overflow_mul-from : goal.overflow_mul-from
overflow_mul-from c = omega (arith, (few (formed _ _ c.requires.other_coefficients_value)).0)

pub overflow_mul-from-2 : goal.overflow_mul-from-2
overflow_mul-from-2 c = omega (arith, (few (formed _ _ c.requires.other_coefficients_value)).0)

pub overflow_mul-other_from : goal.overflow_mul-other_from
overflow_mul-other_from c = omega (arith, (few (formed _ _ c.requires.other_coefficients_value)).1)

pub overflow_mul-other_from-2 : goal.overflow_mul-other_from-2
overflow_mul-other_from-2 c = omega (arith, (few (formed _ _ c.requires.other_coefficients_value)).1)

pub loop-i-init : goal.loop-i-init
unfolding join
loop-i-init c = let g = c.args in
    record {
      begins = (c.begin-span.ensures, c.begin-other_span.ensures);
      written = filled_none g.order 0 (outputs g.q.now g.dq.now g.ddq.now g.dddq.now);
      last = λ j e. absurd (omega arith);
    }

pub locate-here-requires : goal.locate-here-requires
locate-here-requires c = let f = (formed _ _ c.requires.other_coefficients_value).set_formed_law in
    (set_rising _ _ _ _ f, c.loop-i.invariant.begins.0, set_widths _ _ _ _ f)

pub locate-there-requires : goal.locate-there-requires
locate-there-requires c = let f = (formed _ _ c.requires.other_coefficients_value).others_formed_law in
    (others_rising _ _ _ _ f, c.loop-i.invariant.begins.1, other_widths _ _ _ _ f)

pub put_axes-requires-clause-m_bound : goal.put_axes-requires-clause-m_bound
put_axes-requires-clause-m_bound c = let f = formed _ _ c.requires.other_coefficients_value in (
  omega (arith, f.k_high, f.d_high),
  rw c.locate-here.ensures (set_rows _ _ _ _ _ f.set_formed_law),
  rw c.locate-there.ensures (other_rows_law _ _ _ _ _ f.others_formed_law),
)

pub put_axes-requires-clause-by_index : goal.put_axes-requires-clause-by_index
put_axes-requires-clause-by_index c =
    places_below (formed _ _ c.requires.other_coefficients_value) c.find_places-table.result c.find_places-table.ensures

pub put_axes-requires-clause-room : goal.put_axes-requires-clause-room
put_axes-requires-clause-room c =
    let g = c.args in
    let f = formed _ _ c.requires.other_coefficients_value in
    let d = g.lent.now.curve.d in
    let n = length g.xs.now in
    let l = c.loop-i in
    let r = row_end l.i n d (n * d) c.loop-i-test.true (omega arith) in
    room_for g.order (l.i * d + (g.lent.now.curve.k + (d - g.lent.now.curve.k))) (n * d) (outputs g.q.now g.dq.now g.ddq.now g.dddq.now)
    (outputs l.q l.dq l.ddq l.dddq) (omega (arith, f.k_high, r)) (l.auto.q, l.auto.dq, l.auto.ddq, l.auto.dddq)
    c.requires.room

pub loop-i-preserved : goal.loop-i-preserved
loop-i-preserved c =
    let g = c.args in
    let l = c.loop-i in
    let f = formed _ _ c.requires.other_coefficients_value in
    let s = slices_of g.lent.now in
    let given = outputs g.q.now g.dq.now g.ddq.now g.dddq.now in
    let d = g.lent.now.curve.d in
    let n = length g.xs.now in
    let x = c.answered-ranged.ensures in
    let e = rows_columns g.lent.now.curve s (answered_at g.lent.now.curve (at g.xs.now l.i)) c.find_places-table.result f.k_high c.find_places-table.ensures
    g.order (l.i * d) (outputs l.q l.dq l.ddq l.dddq) _ _ _ _ _ _ x refl refl c.locate-here.ensures c.locate-there.ensures
    c.put_axes.ensures in
    record {
      begins = (rw c.locate-here.ensures (located_within _ _), rw c.locate-there.ensures (located_within _ _));
      written = (rows_next g.order 0 d l.i n (l.i * d) (column g.lent.now.curve s g.xs.now) given (outputs l.q l.dq l.ddq l.dddq) _ (omega arith)
          (λ part j. column_length part g.lent.now.curve s (answered_at g.lent.now.curve (at g.xs.now j))) c.loop-i-test.true
          (room_for g.order (0 + n * d) (n * d) given given (omega arith) (as_long given) c.requires.room) l.invariant.written e).1;
      last = λ j e. let same : j ≡ l.i = omega arith in (
        rw same (span_found g.lent.now.curve g.lent.now.breaks.now _ _ _ _ x refl c.locate-here.ensures),
        rw same (span_found g.lent.now.curve g.lent.now.other_breaks.now _ _ _ _ x refl c.locate-there.ensures),
      );
    }
