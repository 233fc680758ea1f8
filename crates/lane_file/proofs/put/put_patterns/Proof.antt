-- `put::put_patterns` meets its contract: the parts, one after the other.
use mathlib.Core.Path.{ap, ◌∙◌}
use Prim.Native.Nat.{ℕ, ◌+◌}
use borrow.Author.Rules.{rules}
use Rattle.window.specs.Rows.{written}
use Rattle.forms.specs.Form.{low_bytes}
use Rattle.lane_file.specs.Curves.{cells}
use Rattle.lane_file.proofs.Parts.{patterns_put}
use Rattle.lane_file.proofs.put.put_patterns.Statement.{statement}
use Rattle.lane_file.proofs.put.put_patterns.Tie as tie

returns : tie.Need-returns
returns c =
    let a = c.args in
    patterns_put a.curve (cells a.breaks.now a.coefficients.now a.other_breaks.now a.other_coefficients.now) a.at
    a.file.now _ _ _ _ c.requires
    (c.put_word.ensures ∙ ap (λ (x : ℕ). written a.at (low_bytes 8 x) a.file.now) c.pattern.ensures)
    (c.put_word-2.ensures ∙ ap (λ (x : ℕ). written (a.at + 8) (low_bytes 8 x) c.put_word.new.file)
    c.pattern-2.ensures)
    c.put_set.ensures c.put_set-2.ensures

pub put_patterns_spec : {M : Type 1} → statement M
put_patterns_spec =
    tie.close
    (tie.spec
    (λ c κs. search rules)
    (λ c κs. search rules)
    (λ c. search rules)
    (λ c κs. search rules)
    (λ c κs. search rules)
    (λ c. search rules)
    (λ c κs. search rules)
    (λ c. search rules)
    (λ c. search rules)
    (λ c. search rules)
    (λ c. search rules)
    (λ c κs. search rules)
    (λ c. search rules)
    returns)
