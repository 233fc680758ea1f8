-- At each return the definition gives what the code answers.
use Rattle.std.proofs.Common.{◌≡◌, ◌-◌, ◌≤◌, length, take, sym, ◌∙◌, arith, rules}
use Rattle.window.specs.Rows.{written}
use Rattle.lane_file.specs.File.{coefficient_count, patterns_form}
use Rattle.lane_file.specs.Curves.{cells, Storable, head_of, patterns_from, file_of}
use Rattle.lane_file.proofs.FormedCurves.{formed_small, rows_lengths}
use Rattle.lane_file.proofs.Answers.{not_formed, too_short_law, put_whole}
use Rattle.lane_file.proofs.Parts.{file_length, file_put}
use Rattle.lane_file.proofs.entry.write.Goals as goal

pub returns-then-not-formed-clause-file_after : goal.returns-then-not-formed-clause-file_after
returns-then-not-formed-clause-file_after c =
    let a = c.args in
    (not_formed a.curve (cells a.breaks.now a.coefficients.now a.other_breaks.now a.other_coefficients.now) a.file.now (sym c.if-not-formed.ensures)).0

pub overflow_sub-numbers : goal.overflow_sub-numbers
overflow_sub-numbers c =
    let a = c.args in
    let z = formed_small a.curve (cells a.breaks.now a.coefficients.now a.other_breaks.now a.other_coefficients.now) (sym c.if-not-formed.ensures) in
    omega (arith, z.set.coefficients_count)

pub overflow_sub-others : goal.overflow_sub-others
overflow_sub-others c =
    let a = c.args in
    let z = formed_small a.curve (cells a.breaks.now a.coefficients.now a.other_breaks.now a.other_coefficients.now) (sym c.if-not-formed.ensures) in
    omega (arith, z.others.coefficients_count)

pub head_length-requires : goal.head_length-requires
head_length-requires c =
    let a = c.args in
    let z = formed_small a.curve (cells a.breaks.now a.coefficients.now a.other_breaks.now a.other_coefficients.now) (sym c.if-not-formed.ensures) in (
      omega (arith, z.d_high),
      omega (arith, z.k_high, z.d_high),
      omega (arith, z.set.most),
      omega (arith, z.others.most),
      λ i l. omega (arith, z.axes i l),
    )

pub overflow_mul-count : goal.overflow_mul-count
overflow_mul-count c =
    let a = c.args in
    let z = formed_small a.curve (cells a.breaks.now a.coefficients.now a.other_breaks.now a.other_coefficients.now) (sym c.if-not-formed.ensures) in
    omega (arith, z.set.few_breaks, z.set.few_coefficients, z.others.few_breaks, z.others.few_coefficients)

pub overflow_add-count : goal.overflow_add-count
overflow_add-count c =
    let a = c.args in
    let z = formed_small a.curve (cells a.breaks.now a.coefficients.now a.other_breaks.now a.other_coefficients.now) (sym c.if-not-formed.ensures) in
    omega (arith, z.set.few_breaks, z.set.few_coefficients, z.others.few_breaks, z.others.few_coefficients, c.head_length.ensures.1)

pub returns-then-file-count-clause-file_after : goal.returns-then-file-count-clause-file_after
returns-then-file-count-clause-file_after c =
    let a = c.args in
    let s = cells a.breaks.now a.coefficients.now a.other_breaks.now a.other_coefficients.now in
    let w = sym c.if-not-formed.ensures in
    let n = rows_lengths a.curve s (formed_small a.curve s w) in
    (too_short_law a.curve s a.file.now w
    (omega (arith, file_length a.curve s, n.0, n.1, c.head_length.ensures.0, c.if-file-count.true))).0

pub put_head-next-requires : goal.put_head-next-requires
put_head-next-requires c =
    let a = c.args in
    let z = formed_small a.curve (cells a.breaks.now a.coefficients.now a.other_breaks.now a.other_coefficients.now) (sym c.if-not-formed.ensures) in (
      omega (arith, z.two, z.six, z.set.coefficients_count, c.if-file-count.false),
      omega (arith, z.d_high),
      omega (arith, z.k_high, z.d_high),
      omega (arith, z.set.most),
      omega (arith, z.others.most),
      λ i l. omega (arith, z.axes i l),
    )

pub returns : goal.returns
returns c =
    let a = c.args in
    let s = cells a.breaks.now a.coefficients.now a.other_breaks.now a.other_coefficients.now in
    let w = sym c.if-not-formed.ensures in
    let z = formed_small a.curve s w in
    let n = file_length a.curve s in
    let k = rows_lengths a.curve s z in
    let m = c.head_length.ensures.0 in
    let long : length (file_of a.curve s) ≤ length a.file.now = omega (arith, n, k.0, k.1, m, c.if-file-count.false) in
    let p : length s.coefficients - a.curve.segments - 0 ≡ coefficient_count a.curve.segments a.curve.k =
    omega (arith, z.set.coefficients_count) in
    let q : length s.other_coefficients - a.curve.other_segments - 0
    ≡ coefficient_count a.curve.other_segments (a.curve.d - a.curve.k) = omega (arith, z.others.coefficients_count) in
    let held : Storable a.curve s = record {
      axes = search rules;
      start = search rules;
      end = search rules;
      breaks = c.type_inv.breaks;
      coefficients = λ i. omega (arith, c.type_inv.coefficients i);
      other_breaks = c.type_inv.other_breaks;
      other_coefficients = λ i. omega (arith, c.type_inv.other_coefficients i);
    } in
    let r = put_whole a.curve s a.file.now _ _ w held long (omega (arith, n, k.0, k.1, m))
    (file_put a.curve s a.file.now _ _ _ long c.put_head-next.ensures.0 c.put_head-next.ensures.1
    (c.put_patterns.ensures
    ∙ (λ i. written c.put_head-next.result ((patterns_form (head_of a.curve)).write (patterns_from a.curve
    (cells s.breaks (take (p i) s.coefficients) s.other_breaks (take (q i) s.other_coefficients)))) c.put_head-next.new.file))) in
    record { file_after = r.0; write_promised = r.1 }
