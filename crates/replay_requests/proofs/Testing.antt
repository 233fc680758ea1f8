-- Laws of the tests of lent cells.
use Rattle.std.proofs.Common.{◌≡◌, ℕ, ◌-◌, ◌≤◌, Bool, List, length, take, drop, ap}
use Rattle.std.specs.List.{list_all}
use borrow.Author.Tests.{le-leb}
use lib.Ieee.{Float}
use Rattle.replay_requests.specs.Lines.{each_of}

-- cells that are there
pub each_there : (test : Float → Bool) (buffer cells : List Float) (from to : ℕ) → from ≤ to → to ≤ length buffer
    → cells ≡ take (to - from) (drop from buffer) → list_all test cells ≡ each_of test buffer from to
each_there test buffer cells from to h k e = rw (le-leb from to h, le-leb to (length buffer) k) (ap (list_all test) e)
