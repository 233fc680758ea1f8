-- What is printed of a return lane: oracle/README.md.
use Rattle.std.specs.Prelude.{ℕ, List, ◌++◌}
use Rattle.query.specs.Row.{outputs}
use Rattle.curve.specs.Form.{Slices, slices}
use Rattle.return_lane.specs.Return.{Outcome}
use Rattle.replay_queries.specs.Told.{marks, refusal_text, outputs_text}

-- four slices of these lengths, all marked
abbrev pub marked_slices : ℕ → ℕ → ℕ → ℕ → Slices
marked_slices b c ob oc = slices (marks b) (marks c) (marks ob) (marks oc)

-- a refusal's number, and all cells of the four slices
unfoldable pub returned_text : Outcome → List ℕ
returned_text o =
    let s = o.after in
    refusal_text o.number ++ outputs_text (outputs s.breaks s.coefficients s.other_breaks s.other_coefficients)
