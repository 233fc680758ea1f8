-- What a call that writes or reads a lane file tells beside its slices.
use mathlib.Core.Path.{◌≡◌, refl, ap, ◌∙◌}
use mathlib.Core.Bool.{false, cond}
use mathlib.Core.List.{List}
use Prim.Native.Nat.{ℕ}
use native.Mathlib.Omega.{arith}
use lib.Dec.{eqb}
use Rattle.curve.specs.declared.Curve.{Curve}
use Rattle.lane_file.specs.declared.refusal.Refusal.{Refusal}
use Rattle.lane_file.specs.declared.refusal.Refusal.TheVariants.{DoesNotRead, NotWellFormed, TooShort}
use Rattle.lane_file.specs.Curves.{Cells}
use Rattle.lane_file.specs.Outcome.{refusal_number, WriteOutcome, write_outcome, ReadOutcome, read_outcome}
use Rattle.pamitoye.specs.LaneFiles.{write_told, read_told}

pub told_write : (number count told old : ℕ) (file : List ℕ) (o : WriteOutcome) → told ≡ cond (eqb number 0) count old
    → write_outcome number count file ≡ o → write_outcome number told file ≡ write_told o old
unfolding write_told
told_write number count told old file o f h =
    ap (λ (n : ℕ). write_outcome number n file) f ∙ ap (λ (o : WriteOutcome). write_told o old) h

pub told_read : (number : ℕ) (told curve old : Curve) (s : Cells) (o : ReadOutcome) → told ≡ cond (eqb number 0) curve old
    → read_outcome number curve s ≡ o → read_outcome number told s ≡ read_told o old
unfolding read_told
told_read number told curve old s o f h =
    ap (λ (c : Curve). read_outcome number c s) f ∙ ap (λ (o : ReadOutcome). read_told o old) h

-- a refusal has a number above 0
pub refused_number : (r : Refusal) → eqb (refusal_number r) 0 ≡ false
refused_number DoesNotRead = refl
refused_number NotWellFormed = refl
refused_number TooShort = refl

-- and promises nothing
pub no_promise : (r : Refusal) (n : ℕ) → n ≡ refusal_number r → n ≡ 0 → ⊥
no_promise DoesNotRead n e z = omega arith
no_promise NotWellFormed n e z = omega arith
no_promise TooShort n e z = omega arith
