-- A report in a local: its machine value, and what its cell is for a loan and after it.
--     mach       the machine value
--     typed      it has the struct's type
--     lent       the local's cell is memory that holds the report, which can be lent (`denote.Lend.lends_ref`)
--     back       that memory, which is back after the loan (`ref_back`), is the local's cell
use mathlib.Core.List.{List, [], ◌∷◌}
use Prim.Native.Nat.{ℕ}
use seplogic.Ra.Ura.{Ura}
use base.Fraction.{full_share}
use mir.Syntax.{w64}
use mir.Val.{Val, vint, vstruct, vnil, vcons, has_ty, WT}
use lib.Dec.{T as Holds}
use base.Logic.{ent, sep}
use base.Fml.{fsep, fat}
use types.Logic.{Logic, sem}
use types.Kit.{‵, ◌$◌, ◌∵◌, !, qed, move, use1, fsplit, fjoin, fpick, fpack, frame, done}
use denote.Laws.{Is, shows}
use denote.Memory.{cell_at, part_at, part_of}
use denote.Steps.{owned}
use denote.Struct.Steps.{spelt}
use denote.Struct.Laws as LL
use Rattle.running_report.specs.declared.Report.{Report}
use Rattle.running_report.specs.contracts.Report as T
use Rattle.running_report.proofs.Report.TheLaws as T'

abbrev pub mach : Report → Val
mach r = vstruct (vcons (vint w64 r.refinements) (vcons (vint w64 r.rows) (vcons (vint w64 r.intervals) vnil)))

module _ {M : Type 1} {𝓤 : Ura M} (𝓛 : Logic 𝓤) (r : Report) where
  pub typed : Is T.the_row r (mach r ∷ []) → Holds (has_ty T'.mir (mach r)) × WT (mach r)
  typed is = ((LL.lawful T.the_type T'.the_laws 𝓛).typed r _ is).0

  pub lent : (l : ℕ) → Is T.the_row r (mach r ∷ [])
      → ent 𝓤 (sem 𝓛 (fat full_share T'.mir l 0 (mach r))) (sem 𝓛 (part_at T.the_row full_share r l 0))
  unfolding part_of
  lent l is =
      qed 𝓛 (‵ (fat full_share T'.mir l 0 (mach r)) ∷ []) ∵
      use1 𝓛 (‵ (cell_at full_share (T.the_row).mir (mach r ∷ []) l 0)) (𝓛.laws.at_raw full_share T'.mir l 0 (mach r)) $
      owned ! T.the_row (Is T.the_row) (LL.makes T.the_type T'.the_plain 𝓛) r (mach r ∷ []) is $ move ! (1 ∷ 0 ∷ []) $ fjoin ! $
      fpack ! (List Val) (λ us. fsep (cell_at full_share (T.the_row).mir us l 0) ((T.the_row).own_val r us)) (mach r ∷ []) $ done !

  pub back : (l : ℕ) → ent 𝓤 (sem 𝓛 (part_at T.the_row full_share r l 0))
      (sep 𝓤 (sem 𝓛 ((T.the_row).own_val r (mach r ∷ []))) (sem 𝓛 (fat full_share T'.mir l 0 (mach r))))
  unfolding part_of
  back l =
      qed 𝓛 (‵ (part_at T.the_row full_share r l 0) ∷ []) ∵ fpick ! (λ vs. fsplit ! $
      spelt ! T.the_row (Is T.the_row) (shows 𝓛 T.the_row) (LL.vals T.the_type T'.the_laws) (LL.tells T.the_type T'.the_laws)
      full_share r vs l 0 $
      use1 𝓛 (‵ (fat full_share T'.mir l 0 (mach r))) (𝓛.laws.raw_at full_share T'.mir l 0 (mach r)) $
      move ! (1 ∷ 0 ∷ []) $ frame ! $ done !)
