-- What is printed of a call: oracle/README.md.
use Rattle.std.specs.Prelude.{ℕ, zero, suc, cond, List, [], ◌++◌, eqb, replicate, Float}
use Rattle.std.specs.Float.{binary64}
use Rattle.std.specs.Float.Ieee.{of_bits}
use Rattle.query.specs.Row.{Outputs, outputs}
use Rattle.query.specs.Query.{Outcome}
use Rattle.listing.specs.Output.{refused_word, whole_text, cells_text}

-- n marked cells
abbrev pub marks : ℕ → List Float
marks n = replicate n (of_bits binary64 0xa68f_d907_e5ee_75a5)

-- four slices of these lengths, all marked
abbrev pub marked_outputs : ℕ → ℕ → ℕ → ℕ → Outputs
marked_outputs q dq ddq dddq = outputs (marks q) (marks dq) (marks ddq) (marks dddq)

-- a refusal's number
unfoldable pub refusal_text : ℕ → List ℕ
refusal_text number = cond (eqb number 0) [] (refused_word ++ whole_text number)

-- the place of the first of many that is outside
unfoldable pub place_text : ℕ → ℕ → List ℕ
place_text number place = cond (eqb number 22) (whole_text place) []

-- all cells of the four slices
unfoldable pub outputs_text : Outputs → List ℕ
outputs_text o = cells_text o.q ++ (cells_text o.dq ++ (cells_text o.ddq ++ cells_text o.dddq))

-- a single query
unfoldable pub told_text : Outcome → List ℕ
told_text o = refusal_text o.number ++ outputs_text o.after

-- many in one call
unfoldable pub told_of_all_text : Outcome → List ℕ
told_of_all_text o = refusal_text o.number ++ (place_text o.number o.place ++ outputs_text o.after)

-- the first n of a list of single queries, one after the other
unfoldable pub turns_text : ℕ → (ℕ → Outcome) → List ℕ
turns_text zero f = []
turns_text (suc n) f = turns_text n f ++ told_text (f n)
