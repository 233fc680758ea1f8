-- The parts of an input: all bytes seen so far, and those that are left.
use mathlib.Core.Path.{◌≡◌, sym, ap, ◌∙◌}
use mathlib.Core.Bool.{Bool, true, false}
use mathlib.Core.List.{List, [], ◌++◌, append_assoc}
use mathlib.Core.Option.{some, none}
use Prim.Native.Nat.{ℕ, ◌-◌, ◌≤◌}
use native.Mathlib.Omega.{arith}
use lib.ListN.{length, take, drop}
use lib.Seq.{drop-length}
use Rattle.window.specs.Window.{window}
use Rattle.window.proofs.Windows.{length_window}
use Rattle.window.proofs.Seams.{drop_take}
use Rattle.lane_totals.specs.declared.sums.Sums.{Sums}
use Rattle.lane_totals.specs.Totals.{Totals, nothing}
use Rattle.lane_totals.specs.Kept.{totals_in, Kept}
use Rattle.season.specs.declared.run.Taken.{Taken}
use Rattle.season.specs.declared.Turn.TheVariants.{Goes}
use Rattle.season.specs.Files.{run_from, run_of}
use Rattle.season.specs.Next.{Follows}
use Rattle.season.specs.Run.{files_in, goes_on, Stops, WentOn, Rests, Reached, Rested}
use Rattle.season.proofs.Running.{clash, run_ended}

-- a run begins with nothing
pub reached_none : (s : Sums) → totals_in s ≡ nothing → Kept 0 0 s → Reached [] [] s
reached_none s e k rest =
    let n : 65535 - files_in s ≡ 65535 = omega (arith, k.files) in
    sym (ap (λ (t : Totals). run_from t (65535 - files_in s) rest) e ∙ ap (λ (i : ℕ). run_from nothing i rest) n)

-- a part more is seen, and left
pub reached_more : (seen left part : List ℕ) (s : Sums) → Reached seen left s → Reached (seen ++ part) (left ++ part) s
reached_more seen left part s r rest =
    ap run_of (append_assoc seen part rest) ∙ r (part ++ rest) ∙ ap (goes_on s) (sym (append_assoc left part rest))

-- a turn over the first bytes of a buffer
module _ (b : List ℕ) (end : ℕ) (last : Bool) (before : Sums) where
  cut : window 0 end b ≡ take end b
  cut = ap (λ (i : ℕ). take i b) {x = end - 0} {y = end} (omega arith)

  -- the run stops
  pub turn_stops : Stops (window 0 end b) 0 last before → (seen : List ℕ) → Reached seen (take end b) before → (rest : List ℕ)
      → Follows last rest → run_of (seen ++ rest) ≡ none
  turn_stops t seen r rest f = r rest ∙ ap (λ (l : List ℕ). goes_on before (l ++ rest)) (sym cut) ∙ t rest f

  module _ (taken : Taken) (t : WentOn (window 0 end b) 0 last before taken) where
    module _ (seen : List ℕ) (r : Reached seen (take end b) before) where
      goes : (rest : List ℕ) → Follows last rest → run_of (seen ++ rest) ≡ goes_on taken.sums (drop taken.at (window 0 end b) ++ rest)
      goes rest f = r rest ∙ ap (λ (l : List ℕ). goes_on before (l ++ rest)) (sym cut) ∙ t.goes rest f

      -- what is left was moved to the front
      pub turn_goes : last ≡ false → (buffer : List ℕ) → take (end - taken.at) buffer ≡ window taken.at end b
          → Reached seen (take (end - taken.at) buffer) taken.sums
      turn_goes q buffer m rest =
          goes rest (λ z. absurd (clash (sym z ∙ q)))
          ∙ ap (λ (l : List ℕ). goes_on taken.sums (l ++ rest)) (ap (drop taken.at) cut ∙ drop_take taken.at end b ∙ sym m)

      -- nothing is left
      pub turn_ends : last ≡ true → Rests (window 0 end b) taken.at last → (rest : List ℕ) → rest ≡ []
          → run_of (seen ++ rest) ≡ some (totals_in taken.sums)
      turn_ends q w rest z =
          goes rest (λ _. z) ∙ ap (λ (i : ℕ). goes_on taken.sums (drop i (window 0 end b) ++ rest)) (w.1 q)
          ∙ ap (λ (l : List ℕ). goes_on taken.sums (l ++ rest)) (drop-length (window 0 end b)) ∙ ap (goes_on taken.sums) z
          ∙ run_ended taken.sums

    pub turn_rests : end ≤ length b → Rests (window 0 end b) taken.at last → last ≡ false
        → Rested last end before (Goes (end - taken.at) taken.sums)
    turn_rests h w e =
        let n = length_window 0 end b (omega arith) h in
        (e, t.kept, omega (arith, n, w.0), λ g. t.more.1 (omega (arith, n, w.0, g)))
