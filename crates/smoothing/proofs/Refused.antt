-- A refusal of the code, and the definition's answer.
use mathlib.Core.Path.{◌≡◌, refl, sym, ap, ◌∙◌}
use Rattle.std.specs.Prelude.{Err}
use Rattle.normal.specs.declared.Unsolved as solving
use Rattle.normal.specs.declared.Unsolved.TheVariants.{BadDiagonal, BadPivot, BadSolution}
use Rattle.normal.specs.Solve as systems
use Rattle.polynomial.specs.declared.interval.Unaudited as auditing
use Rattle.polynomial.specs.declared.interval.Unaudited.TheVariants.{NotAbove, NotFinite}
use Rattle.polynomial.specs.Outcome as audits
use Rattle.smoothing.specs.Answer.{Answer, and_then, unless}
use Rattle.smoothing.specs.Answer.Answer.{done}
use Rattle.smoothing.specs.Refusal.{refused_by}
use Rattle.smoothing.specs.declared.refusal.Refusal.{Refusal}
use Rattle.smoothing.specs.declared.refusal.Refusal.TheVariants.{InitialSegments, Unsolved, Unaudited, RefinementsUsedUp, SegmentsUsedUp, BadMidpoint, ErrorAboveTolerance}

-- nothing follows a refusal
pub then_refused : {A B : Type 0} (e : Refusal) (f : A → Answer B) → and_then (refused_by e) f ≡ refused_by e
unfolding and_then
then_refused InitialSegments f = refl
then_refused (Unsolved e) f = refl
then_refused (Unaudited e) f = refl
then_refused (RefinementsUsedUp ratio) f = refl
then_refused SegmentsUsedUp f = refl
then_refused BadMidpoint f = refl
then_refused ErrorAboveTolerance f = refl

pub stops_there : {A B : Type 0} (e : Refusal) (x : Answer A) (f : A → Answer B) → refused_by e ≡ x → refused_by e ≡ and_then x f
stops_there e x f h = sym (then_refused e f) ∙ ap (λ (a : Answer _). and_then a f) h

-- a system without a solution
pub unsolved_is : {A : Type 0} (e : solving.Unsolved) (x : A) → unless (systems.refusal_number e) x ≡ refused_by (Unsolved e)
unfolding unless
unsolved_is BadDiagonal x = refl
unsolved_is BadPivot x = refl
unsolved_is BadSolution x = refl

-- how an audit ended
unaudited_is : {A : Type 0} (e : auditing.Unaudited) (x : A) → unless (audits.refusal_number e) x ≡ refused_by (Unaudited e)
unfolding unless
unaudited_is NotAbove x = refl
unaudited_is NotFinite x = refl

pub audit_refused : {A : Type 0} (o : audits.Outcome) (e : auditing.Unaudited) (x : A) → o ≡ Err e
    → unless (audits.number_of o) x ≡ refused_by (Unaudited e)
audit_refused o e x h = ap (λ (v : audits.Outcome). unless (audits.number_of v) x) h ∙ unaudited_is e x

pub audit_done : {A : Type 0} (o : audits.Outcome) (x : A) → o ≡ audits.Done → unless (audits.number_of o) x ≡ done x
unfolding unless
audit_done o x h = ap (λ (v : audits.Outcome). unless (audits.number_of v) x) h
