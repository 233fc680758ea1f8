-- A curve reader: document 01, "A curve reader keeps the stored breaks and its last span, and answers as a single query does".
use Rattle.std.specs.Prelude.{◌≡◌, ℕ, Float}
use Rattle.curve.specs.Form.{well_formed}
use Rattle.query.specs.Lent.{slices_of}
use Rattle.query.specs.declared.lent.Lent.{Lent}
use Rattle.query.specs.Query.{kept_of}
use Rattle.reader.specs.declared.Reader.{Reader}

-- What holds of a reader all along: it knows whether its curve is well formed. Its segments are any numbers.
abbrev pub Knows : Reader → Type 0
Knows r = r.formed ≡ well_formed r.lent.curve (slices_of r.lent)

-- a reader that was not asked yet: it tries the first segments
abbrev pub made : Lent → Reader
made l = record { lent = l; formed = well_formed l.curve (slices_of l); span = 0; other_span = 0 }

-- "its last span": the reader after the question at x, to which the answer has this number. A refusal changes nothing.
abbrev pub asked : Reader → ℕ → Float → Reader
asked r number x = record {
  lent = r.lent;
  formed = r.formed;
  span = kept_of number r.lent.curve r.lent.breaks.now x r.span;
  other_span = kept_of number r.lent.curve r.lent.other_breaks.now x r.other_span;
}
