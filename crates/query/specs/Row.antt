-- The cells that a query writes.
use Rattle.std.specs.Prelude.{Bool, true, cond, List, ◌≡◌, ℕ, ◌+◌, ◌≤◌, leb, length, get_or, Float}
use Rattle.window.specs.Cells.{+0}
use Rattle.window.specs.Rows.{list_of}
use Rattle.curve.specs.Put.{put_at}
use Rattle.query.specs.declared.segment.Derivatives.{Derivatives}
use Rattle.query.specs.declared.segment.Local.{Local}
use Rattle.query.specs.Segment.{axis_at}

-- the four slices that an answer goes to: values, first, second and third derivatives
pub record Outputs : Type 0 where
  pub q : List Float
  pub dq : List Float
  pub ddq : List Float
  pub dddq : List Float

abbrev pub outputs : List Float → List Float → List Float → List Float → Outputs
outputs q dq ddq dddq = record { q = q; dq = dq; ddq = ddq; dddq = dddq }

-- the slices of the orders asked have n cells
abbrev pub Room : ℕ → ℕ → Outputs → Type 0
Room order n o =
    (n ≤ length o.q) × (leb 1 order ≡ true → n ≤ length o.dq) × (leb 2 order ≡ true → n ≤ length o.ddq)
    × (leb 3 order ≡ true → n ≤ length o.dddq)

-- what f gives for each order up to the one asked, from cell a of its slice on; slices of higher orders are not written
unfoldable pub filled : ℕ → ℕ → ((Derivatives → Float) → List Float) → Outputs → Outputs
filled order a f o =
    outputs (put_at true a (f (λ v. v.value)) o.q) (put_at (leb 1 order) a (f (λ v. v.first)) o.dq)
    (put_at (leb 2 order) a (f (λ v. v.second)) o.ddq) (put_at (leb 3 order) a (f (λ v. v.third)) o.dddq)

-- document 02, request 2: "Outside start to end, Clamp keeps the end's value and gives +0 for derivatives one to three"
unfoldable pub standing : Bool → Derivatives → Derivatives
standing outside v = cond outside (record { value = v.value; first = +0; second = +0; third = +0 }) v

-- one order of the k selected and the m other axes, which stand at these places of their sets, for a parameter outside start to end or not
abbrev pub row_of : (Derivatives → Float) → List Float → List Float → ℕ → ℕ → List ℕ → Local → Local → Float → Bool → List Float
row_of part selected other k m places here there scale outside =
    list_of (k + m) (λ a. part (standing outside (axis_at selected other k m (get_or places a 0) here there scale)))
