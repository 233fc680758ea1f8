-- What is printed of a return lane.
use mathlib.Core.Path.{◌≡◌, ap, ◌∙◌}
use mathlib.Core.List.{List}
use Prim.Native.Nat.{ℕ}
use Rattle.query.specs.Row.{Outputs, outputs}
use Rattle.curve.specs.Form.{Slices, slices}
use Rattle.return_lane.specs.Return.{Outcome, outcome}
use Rattle.listing.specs.Output.{printed}
use Rattle.replay_queries.specs.Told.{refusal_text, outputs_text}
use Rattle.replay_queries.proofs.Telling.{then_text}
use Rattle.replay_returns.specs.Returned.{returned_text}

abbrev pub as_outputs : Slices → Outputs
as_outputs s = outputs s.breaks s.coefficients s.other_breaks s.other_coefficients

abbrev pub as_slices : Outputs → Slices
as_slices o = slices o.q o.dq o.ddq o.dddq

-- what a function f of four marked slices gives, which hold `marked`: its refusal, and the slices
pub returned_told : (f : Slices → Outcome) (before marked : Outputs) → before ≡ marked → (g o : List ℕ × ℕ) (number : ℕ) (after : Slices)
    → outcome number after ≡ f (as_slices before) → {told : ℕ} {p : List ℕ × ℕ} → told ≡ number → o ≡ printed g (refusal_text told)
    → p ≡ printed o (outputs_text (as_outputs after)) → p ≡ printed g (returned_text (f (as_slices marked)))
unfolding returned_text
returned_told f before marked m g o number after e t k h =
    then_text g o (refusal_text number) (outputs_text (as_outputs after)) h (k ∙ ap (λ (n : ℕ). printed g (refusal_text n)) t)
    ∙ ap (λ (r : Outcome). printed g (returned_text r)) (e ∙ ap (λ (o : Outputs). f (as_slices o)) m)
