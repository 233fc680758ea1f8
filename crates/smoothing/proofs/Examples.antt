-- Document 01's starred lanes and document 02's for 26 hold, by computation on the definitions; and requests whose answers the Rust gave, cell for cell.
use Rattle.std.proofs.Common.{◌≡◌, ℕ, List, [], ◌∷◌, ◌++◌, map, refl}
use lib.Ieee.{Float, binary64, is_nan, of_bits, to_bits, add, sub, mul, div, le, lt, eq, ne, round, of_int, neg}
use Rattle.arith.specs.Loop.{turns, each, whilst, backs, back, tries, till}
use Rattle.fraction.specs.NextNumber.{next_up}
use Rattle.float.specs.Order.{chosen, negative, total_le}
use Rattle.float.specs.Power.{power_in, power_of}
use Rattle.float.specs.Root.{sqrt_of}
use Rattle.float.specs.Samples.{Line, float_lines}
use Rattle.bspline.specs.Choose.{factorials, choose_of}
use Rattle.bspline.specs.Insertion.{new_control}
use Rattle.bspline.specs.Powers.{previous_of, expansion_turn, expand, put_turn, put_row, row_turn, degree_turn, powers_of}
use Rattle.window.specs.Rows.{join, table}
use Rattle.bspline.specs.Search.{pick_of, halve, partition_point}
use Rattle.bspline.specs.Segments.{add_turn, add_row, scale_turn, segment_of, span_turn, polynomial_of}
use Rattle.bspline.specs.Values.{inner_turn, inner_loop, outer_turn, values_of}
use Rattle.normal.specs.Add.{term_of, value_of, difference_of, row_of, active, product_of, products_of, add_band_of, share_of, shares_of, add_right_of, add_of}
use Rattle.normal.specs.Solve.{unfit_of, any_unfit_of, root_of, roots_of, scale_cell_of, scale_row_of, divide_of, divide_row_of, scale_both_of, scale_of, reduce_of, reduced_of, eliminate_of, eliminated_of, pivot_of, factor_of, forward_term_of, forward_value_of, forward_cell_of, forward_row_of, forward_of, back_term_of, back_value_of, back_cell_of, back_row_of, backward_of, unscale_of, finish_of, solve_scaled_of, solve_of}
use Rattle.fitting_rows.specs.Penalty.{third_of, penalty_row_of, left_out}
use Rattle.fitting_rows.specs.Pieces.{waypoint_interval, line_turn, line_of, row_at, node_row_of, passed_over, mesh_span, piece_start, piece_end}
use Rattle.fitting_rows.specs.Samples.{dense_of, weight_of, point_of, sample_row_of}
use Rattle.fit.specs.Assembly.{counted, sample_turn, samples_of, piece_of, mesh_turn, mesh_of, sparse_turn, sparse_of, nodes_of, penalty_turn, penalties_of, assembled_of}
use Rattle.fit.specs.Fit.{add_turn as add_turn₂, added_to, solved_of, fit_of}
use Rattle.polynomial.specs.Audit.{bounds_with, audit_turn, audit_of}
use Rattle.polynomial.specs.Interval.{piece_at, all_finite, largest_turn, axis_turn, axes_of, ended_by, walk_turn, interval_of}
use Rattle.polynomial.specs.Piece.{add_term, piece_power, error_of, add_share, bernstein_of, bernstein_coefficients, piece_from, error_form}
use Rattle.polynomial.specs.Span.{advanced}
use Rattle.sorting.specs.Sort.{placed, sort_of}
use Rattle.sorting.specs.Thin.{thinned, distinct, gap, inside, apart, dedup_of, kept_of}
use Rattle.seed.specs.Anchors.{fits, scan_turn, anchors_of}
use Rattle.seed.specs.Corridor.{axis_turn as axis_turn₂, narrowed}
use Rattle.seed.specs.Knots.{jump_turn, jump_of, width_of, around, anchor_knots, raw_knots, seed_of}
use Rattle.seed.specs.Regions.{range_of, merged, regions_of}
use Rattle.request.specs.Any.{any}
use Rattle.request.specs.Parameters.{even_of, sum_of, square_of, chord_length, parameter_list, length_of, normalised_of, misplaced, unreliable}
use Rattle.request.specs.Points.{unfit}
use Rattle.arith.specs.First.{first_of}
use Rattle.curve.specs.Form.{axes_formed}
use Rattle.smoothing.specs.Answer.{and_then, unless, number_of}
use Rattle.smoothing.specs.Build.{selected_of, other_of, result_of, smoothed_of, checked_of, answer_of, build_of}
use Rattle.smoothing.specs.Checks.{wide_lane, wide_limits, miscounted_points, no_axes, bad_axes, bad_tolerance, exceeds, any_exceeds, overflows, refusal_of}
use Rattle.smoothing.specs.Finish.{physical_of, final_polynomial, error_of as error_of₂, errors_of, excessive, judged, finish_of as finish_of₂}
use Rattle.smoothing.specs.Interpolate.{equation, waypoint_turn, derivative_of, end_turns, interpolation_system, interpolate_of}
use Rattle.smoothing.specs.Lanes.{fields_of, numbers_of, lane_lines, fine_lines, chord_lines, lines, even, chord}
use Rattle.smoothing.specs.Request.{up_to, axes_of as axes_of₂, tolerances_of}
use Rattle.smoothing.specs.Round.{worst_of, settled, selected, middle_of, raw_locations, locations_of, spans_after, outside, insert_of, insert_all, strength_of, refit_of, refit_all, refitted, round_of, refine_of}
use Rattle.smoothing.specs.Rows.{gathered, centred, parameters_of, task_of, smoothed_rows, lane_units, lane_task, left_over, other_rows}
use Rattle.smoothing.specs.Start.{chord_error, curved, first_knots, many_knots, open_knots, greville_of, chord_controls, chord_of, chord_state, first_fit, first_state, start_of}
use Rattle.smoothing.specs.State.{fit_in, fitted, audited, audit_in}
use Rattle.smoothing.specs.Answer.{Answer}
use Rattle.smoothing.specs.Answer.Answer.{done, refused, exhausted}
use Rattle.request.specs.declared.parameters.Spacing.TheVariants.{Listed}
use Rattle.smoothing.specs.Request.{Request}
use Rattle.smoothing.specs.Request.Axes.{all}
use Rattle.smoothing.specs.Request.Tolerance.{uniform}
use Rattle.smoothing.specs.Build.{Result}
use Rattle.smoothing.specs.Rows.{Task}
use Rattle.smoothing.specs.State.{State, state, spline, counts}

abbrev pub floats_of : List ℕ → List Float
floats_of l = map (of_bits binary64) l

-- the definitions that are computed
unfoldable steps : Unit {0}
unfolding is_nan of_bits to_bits add sub mul div le lt eq ne round of_int neg turns each whilst backs back tries till next_up
    chosen negative total_le power_in power_of sqrt_of float_lines
    factorials choose_of new_control previous_of expansion_turn expand put_turn put_row row_turn degree_turn powers_of join table pick_of halve
    partition_point add_turn add_row scale_turn segment_of span_turn polynomial_of inner_turn inner_loop outer_turn values_of
    term_of value_of difference_of row_of active product_of products_of add_band_of share_of shares_of add_right_of add_of unfit_of any_unfit_of root_of
    roots_of scale_cell_of scale_row_of divide_of divide_row_of scale_both_of scale_of reduce_of reduced_of eliminate_of eliminated_of pivot_of factor_of
    forward_term_of forward_value_of forward_cell_of forward_row_of forward_of back_term_of back_value_of back_cell_of back_row_of backward_of unscale_of
    finish_of solve_scaled_of solve_of
    third_of penalty_row_of left_out waypoint_interval line_turn line_of row_at node_row_of passed_over mesh_span piece_start piece_end dense_of weight_of
    point_of sample_row_of
    counted sample_turn samples_of piece_of mesh_turn mesh_of sparse_turn sparse_of nodes_of penalty_turn penalties_of assembled_of add_turn₂ added_to
    solved_of fit_of
    bounds_with audit_turn audit_of piece_at piece_from error_form all_finite largest_turn axis_turn axes_of ended_by walk_turn interval_of add_term piece_power
    error_of add_share bernstein_of bernstein_coefficients advanced placed sort_of thinned distinct gap inside apart dedup_of kept_of
    fits scan_turn anchors_of axis_turn₂ narrowed jump_turn jump_of width_of around anchor_knots raw_knots seed_of range_of merged regions_of
    any even_of sum_of square_of chord_length parameter_list
    length_of normalised_of misplaced unreliable unfit first_of axes_formed and_then unless number_of
    selected_of other_of result_of smoothed_of checked_of answer_of build_of
    wide_lane wide_limits miscounted_points no_axes bad_axes bad_tolerance exceeds any_exceeds overflows refusal_of
    physical_of final_polynomial error_of₂ errors_of excessive judged finish_of₂
    equation waypoint_turn derivative_of end_turns interpolation_system interpolate_of fields_of numbers_of lane_lines fine_lines chord_lines
    up_to axes_of₂ tolerances_of
    worst_of settled selected middle_of raw_locations locations_of spans_after outside insert_of insert_all strength_of refit_of refit_all refitted
    round_of refine_of gathered centred parameters_of task_of smoothed_rows lane_units lane_task left_over other_rows
    chord_error curved first_knots many_knots open_knots greville_of chord_controls chord_of chord_state first_fit first_state start_of
    fit_in fitted audited audit_in
steps = tt

pub lines_hold : map (λ (l : Line). l.given) lines ≡ map (λ (l : Line). l.told) lines
unfolding steps
lines_hold = refl

-- ---- requests that the Rust answered, cell for cell
-- an answer's numbers, and its curves, each number by its bits
unfoldable pub cells_of : Answer Result → List ℕ
cells_of (done x) =
    let cells = x.selected.breaks ++ x.selected.coefficients ++ x.other.breaks ++ x.other.coefficients in
    numbers_of (done x) ++ map (to_bits binary64) cells
cells_of (refused n) = numbers_of (refused n)
cells_of (exhausted r) = numbers_of (exhausted r)

-- points 0 0.95 0, tolerance 1: linear, error 0.95
pub linear : cells_of (build_of (even 1 3 all 0x3ff0_0000_0000_0000 100 (0 ∷ 0x3fee_6666_6666_6666 ∷ 0 ∷ [])))
    ≡ 0 ∷ 1 ∷ 0 ∷ 0 ∷ 0 ∷ 4 ∷ 0x3fee_6666_6666_6666 ∷ 0 ∷ 0x3ff0_0000_0000_0000 ∷ 0 ∷ 0 ∷ 0 ∷ 0 ∷ 0 ∷ 0 ∷ []
unfolding steps cells_of
linear = refl

-- the start and the end of what is given, by their bits
unfoldable pub ends_of : Answer Result → List ℕ
ends_of (done x) = to_bits binary64 x.start ∷ to_bits binary64 x.end ∷ []
ends_of (refused n) = []
ends_of (exhausted r) = []

-- points (0, 0) (3, 4) (3, 0) by their chords: from 0 to 9
pub chord_ends : ends_of (build_of (chord 2 3 all 0x4024_0000_0000_0000 20000
    (0 ∷ 0 ∷ 0x4008_0000_0000_0000 ∷ 0x4010_0000_0000_0000 ∷ 0x4008_0000_0000_0000 ∷ 0 ∷ [])))
    ≡ 0 ∷ 0x4022_0000_0000_0000 ∷ []
unfolding steps ends_of
chord_ends = refl

-- points 0 y 0 at the parameters 0 s 1, tolerance 1
abbrev pub bent : ℕ → ℕ → Request
bent s y =
    record {
      lane = record {
        d = 1;
        n = 3;
        axes = all;
        tolerance = uniform (of_bits binary64 0x3ff0_0000_0000_0000);
        spacing = Listed;
        parameters = floats_of (0 ∷ s ∷ 0x3ff0_0000_0000_0000 ∷ []);
        points = floats_of (0 ∷ y ∷ 0 ∷ []);
      };
      limits = record { refinements = 20; segments = 20000 };
    }

-- points 0 0.96 0 at 0 1e-14 1: a first fit, of 12 rows, without an inner knot
pub first_fit_law : cells_of (build_of (bent 0x3d06_849b_86a1_2b9b 0x3fee_b851_eb85_1eb8))
    ≡ 0 ∷ 1 ∷ 0 ∷ 0 ∷ 12 ∷ 4 ∷ 0x3fee_b851_eb85_1dd3
    ∷ 0 ∷ 0x3ff0_0000_0000_0000
    ∷ 0 ∷ 0x4004_54dd_2296_55bf ∷ 0xc005_fa3c_15e3_4700 ∷ 0xbfa5_d270_3910_5a80 ∷ 0x3fdb_81e0_6fc8_0658 ∷ 0xbfc7_3935_9c7c_e210
    ∷ []
unfolding steps cells_of
first_fit_law = refl

-- points 0 1.5 0 at 0 3e-14 1: the state before the rounds, after a fit of 12 rows, and after one round, which inserts a knot at 1.5e-14
-- and fits anew, with 18 rows.
-- (The whole of it, in one claim, takes more steps than a claim may.)
abbrev pub task : Task
task = lane_task (bent 0x3d20_e374_a4f8_e0b4 0x3ff8_0000_0000_0000).lane

abbrev pub before : State
before =
    state
    (spline
    (open_knots (floats_of (0x3d20_e374_a4f8_e0b4 ∷ [])))
    (floats_of
    (0 ∷ 0x3ff7_ffff_ffff_fa28 ∷ 0x3ff3_3333_3333_31e1 ∷ 0x3fec_cccc_cccc_cf8d ∷ 0x3fe3_3333_3333_37a3 ∷ 0x3fd3_3333_3333_3a26 ∷ 0 ∷ []))
    7)
    (floats_of (0x3ff3_3333_3333_2d5b ∷ 0x3d59_e400_0000_0000 ∷ []))
    (floats_of (0x3d10_e374_a4f8_e0b4 ∷ 0x3fe0_0000_0000_0087 ∷ []))
    (counts 0 12 2)

abbrev pub after : State
after =
    state
    (spline
    (open_knots (floats_of (0x3d10_e374_a4f8_e0b4 ∷ 0x3d20_e374_a4f8_e0b4 ∷ [])))
    (floats_of
    (0 ∷ 0x3fd4_68c8_0b47_16de ∷ 0x3ff7_ffff_ffff_fedb ∷ 0x3ff3_3333_3333_3343 ∷ 0x3fec_cccc_cccc_ce0e ∷ 0x3fe3_3333_3333_3441
    ∷ 0x3fd3_3333_3333_3496 ∷ 0 ∷ []))
    8)
    (floats_of (0x3fe8_26b2_9b02_7aaa ∷ 0x3d3b_2000_0000_0000 ∷ []))
    (floats_of (0x3d00_e374_a4f8_e0b4 ∷ 0x3fe0_0000_0000_0087 ∷ []))
    (counts 1 30 4)

pub first_state_law : start_of 20000 task ≡ done before
unfolding steps
first_state_law = refl

pub one_round : round_of task before ≡ done after
unfolding steps
one_round = refl
