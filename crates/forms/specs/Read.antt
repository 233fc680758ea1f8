-- Reading from the front of some bytes: a value and the bytes after it, or that they do not read.
use Rattle.std.specs.Prelude.{List, [], ◌∷◌, ℕ, ◌<◌}

pub data Read (A : Type 0) : Type 0 where
  got : A → List ℕ → Read A
  bad : Read A

-- what is read next, where this reads
abbrev pub after : {A B : Type 0} → Read A → (A → List ℕ → Read B) → Read B
after (got a rest) f = f a rest
after bad f = bad

-- each is a byte
abbrev pub Bytes : List ℕ → Type 0
Bytes [] = Unit
Bytes (b ∷ l) = (b < 256) × Bytes l
