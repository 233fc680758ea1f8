-- A part of a list, and a list with a part replaced, in the very forms in which the borrow checker has `&l[a..e]`, and `l` after a
-- `&mut l[a..e]` that last held v is back.
use Rattle.std.specs.Prelude.{ℕ, ◌-◌, min, List, ◌++◌, length, take, drop}

module _ {A : Type 0} where
  -- the elements from a up to e
  abbrev pub window : ℕ → ℕ → List A → List A
  window a e l = take (e - a) (drop a l)

  -- l with v in the place of its elements from a up to e
  abbrev pub splice : ℕ → ℕ → List A → List A → List A
  splice a e v l = take a l ++ (v ++ drop (e - a) (drop a l))

  -- dst with the elements of src from the front, as far as both reach
  abbrev pub copied : List A → List A → List A
  copied src dst = take (min (length src) (length dst)) src ++ drop (min (length src) (length dst)) dst
