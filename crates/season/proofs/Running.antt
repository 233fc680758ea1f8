-- A run over bytes that come in parts.
use mathlib.Core.Path.{◌≡◌, refl, sym, ap, ◌∙◌, subst}
use mathlib.Core.Bool.{Bool, true, false}
use mathlib.Core.List.{List, [], ◌++◌, map}
use mathlib.Core.Option.{Option, some, none}
use Prim.Native.Nat.{ℕ, zero, suc, ◌+◌, ◌-◌, ◌*◌, ◌≤◌, ◌<◌}
use native.Mathlib.Omega.{arith}
use native.Mathlib.Decide.{dec_lt}
use lib.ListN.{length, drop, length-drop, length-append}
use Rattle.window.specs.Window.{window}
use Rattle.season.specs.declared.run.Taken.{Taken}
use Rattle.lane_totals.specs.declared.sums.Sums.{Sums}
use Rattle.season.specs.declared.files.Next.TheVariants.{File, More, Bad}
use Rattle.lane_totals.specs.Totals.{Totals, nothing, merge, season}
use Rattle.lane_totals.specs.Lanes.{lane_totals}
use Rattle.season.specs.Files.{before, files_of, totalled, run_from}
use Rattle.season.specs.Next.{Follows, NextIn}
use Rattle.lane_totals.specs.Kept.{totals_in, Kept, merged_of}
use Rattle.season.specs.Run.{files_in, goes_on, Running, Stops, WentOn}
use Rattle.lane_totals.proofs.Merging.{merge_comm, merge_nothing, season_from}
use Rattle.lane_totals.proofs.Keeping.{merged_kept, both_kept, kept_wider}
use Rattle.season.proofs.NextFile.{some_byte}

pub clash : true ≡ false → ⊥
clash e = let z : ◌≡◌ {A = ℕ} 0 1 = cc in omega arith

-- a file before the others
file_before : (t : Totals) (f : List ℕ) (o : Option (List (List ℕ)))
    → totalled t (before f o) ≡ totalled (merge t (lane_totals f)) o
file_before t f none = refl
file_before t f (some files) = ap some (sym (season_from t (lane_totals f) (map lane_totals files)))

no_more : (l : List ℕ) → 0 < length l → files_of 0 l ≡ none
unfolding files_of
no_more l h = some_byte l none h

module _ (l : List ℕ) (at : ℕ) (last : Bool) (s : Sums) (h : at < length l) (k : Running s) where
  -- the limit on files is reached
  pub limit_reached : 65535 ≤ files_in s → Stops l at last s
  limit_reached g rest f =
      let z : 65535 - files_in s ≡ 0 = omega arith in
      rw z (ap (totalled (totals_in s)) (no_more (drop at l ++ rest)
      (omega (arith, length-append (drop at l) rest, length-drop at l))))

  pub run_stops : NextIn l at last Bad → Stops l at last s
  run_stops n rest f = ap (totalled (totals_in s)) (n rest f (65535 - files_in s))

  pub run_waits : NextIn l at last More → WentOn l at last s (record { at = at; sums = s })
  run_waits n =
      record {
        goes = λ rest f. refl;
        inside = omega arith;
        more = (omega arith, λ l. absurd (omega arith));
        kept = k;
      }

  pub run_takes : (from to : ℕ) (one : Sums) → files_in s < 65535 → NextIn l at last (File from to) → totals_in one ≡ lane_totals (window
      from to l)
      → Kept 1 20000 one → (rest : List ℕ) → Follows last rest
      → goes_on s (drop at l ++ rest) ≡ goes_on (merged_of s one) (drop to l ++ rest)
  run_takes from to one g n e q rest f =
      let m = files_in s in
      let left : 65535 - m ≡ suc (65535 - (m + 1)) = omega arith in
      let more : files_in (merged_of s one) ≡ m + 1 = omega (arith, q.files) in
      ap (λ (i : ℕ). run_from (totals_in s) i (drop at l ++ rest)) left
      ∙ ap (totalled (totals_in s)) (n.4 rest f (65535 - (m + 1)))
      ∙ file_before (totals_in s) (window from to l) (files_of (65535 - (m + 1)) (drop to l ++ rest))
      ∙ ap (λ (t : Totals). run_from (merge (totals_in s) t) (65535 - (m + 1)) (drop to l ++ rest)) (sym e)
      ∙ ap (λ (t : Totals). run_from t (65535 - (m + 1)) (drop to l ++ rest))
      (sym (merged_kept m (20000 * m) 1 20000 s one k.1 q))
      ∙ ap (λ (i : ℕ). run_from (totals_in (merged_of s one)) (65535 - i) (drop to l ++ rest)) (sym more)

  pub runs_on : (one : Sums) → files_in s < 65535 → Kept 1 20000 one → Running (merged_of s one)
  runs_on one g q =
      let m = files_in s in
      let more : m + 1 ≡ files_in (merged_of s one) = omega (arith, q.files) in
      let b : Kept (m + 1) (20000 * (m + 1)) (merged_of s one) =
      kept_wider (m + 1) (20000 * m + 20000) (20000 * (m + 1)) (merged_of s one) (omega arith)
      (both_kept m (20000 * m) 1 20000 s one k.1 q) in
      (omega (arith, more), subst (λ (i : ℕ). Kept i (20000 * i) (merged_of s one)) more b)

  pub run_takes_in : (from to : ℕ) (one : Sums) → files_in s < 65535 → NextIn l at last (File from to)
      → totals_in one ≡ lane_totals (window from to l) → Kept 1 20000 one
      → WentOn l at last s (record { at = to; sums = merged_of s one })
  run_takes_in from to one g n e q =
      record {
        goes = λ rest f. run_takes from to one g n e q rest f;
        inside = n.1;
        more = (omega (arith, q.files), λ _. omega (arith, q.files));
        kept = runs_on one g q;
      }

-- nothing is taken in yet
pub taken_none : (l : List ℕ) (last : Bool) (s : Sums) → Running s → WentOn l 0 last s (record { at = 0; sums = s })
taken_none l last s k =
    record {
      goes = λ rest f. refl;
      inside = omega arith;
      more = (omega arith, λ l. absurd (omega arith));
      kept = k;
    }

-- one after the other
module _ (l : List ℕ) (at : ℕ) (last : Bool) (s : Sums) (t : Taken) (p : WentOn l at last s t) where
  pub then_stops : Stops l t.at last t.sums → Stops l at last s
  then_stops q rest f = p.goes rest f ∙ q rest f

  pub taken_then : (r : Taken) → WentOn l t.at last t.sums r → WentOn l at last s r
  taken_then r q =
      record {
        goes = λ rest f. p.goes rest f ∙ q.goes rest f;
        inside = q.inside;
        more = (
          omega (arith, p.more.0, q.more.0),
          λ h. elim (dec_lt at t.at) [
            | yes g ↦ omega (arith, p.more.1 g, q.more.0)
            | no g ↦ omega (arith, p.more.0, q.more.1 (omega arith))
          ],
        );
        kept = q.kept;
      }

-- a run begins without files
pub running_none : (s : Sums) → Kept 0 0 s → Running s
running_none s k =
    (omega (arith, k.files), subst (λ (n : ℕ). Kept n (20000 * n) s) (sym k.files) (kept_wider 0 0 (20000 * 0) s (omega arith) k))

-- a run without bytes left has its totals
no_files : (left : ℕ) → files_of left [] ≡ some []
unfolding files_of
no_files zero = refl
no_files (suc left) = refl

pub run_ended : (s : Sums) → goes_on s [] ≡ some (totals_in s)
unfolding season
run_ended s =
    ap (totalled (totals_in s)) (no_files (65535 - files_in s)) ∙ ap some (merge_comm (totals_in s) nothing ∙ merge_nothing (totals_in s))
