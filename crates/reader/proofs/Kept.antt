-- What `ask` asks of a reader, `new` makes and `ask` leaves.
use mathlib.Core.Path.{◌≡◌, refl}
use Prim.Native.Nat.{ℕ}
use lib.Ieee.{Float}
use Rattle.query.specs.declared.lent.Lent.{Lent}
use Rattle.reader.specs.declared.Reader.{Reader}
use Rattle.reader.specs.Reading.{Knows, made, asked}

pub made_knows : (l : Lent) → Knows (made l)
made_knows l = refl

pub asked_knows : (r : Reader) (number : ℕ) (x : Float) → Knows r → Knows (asked r number x)
asked_knows r number x h = h

-- and the curve that is asked stays the same, with its slices
pub asked_same : (r : Reader) (number : ℕ) (x : Float) → (asked r number x).lent ≡ r.lent
asked_same r number x = refl
