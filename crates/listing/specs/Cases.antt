-- A list of cases: oracle/README.md has its form.
use Rattle.std.specs.Prelude.{ℕ, ◌+◌, ◌*◌, ◌%◌, ◌^◌, cond, [], ◌∷◌, nat_le}
use Rattle.encoding.specs.Bytes.{low_first}

-- the whole number of the bytes `REPLAY01`, with which a list opens
abbrev pub opening : ℕ
opening = low_first (82 ∷ (69 ∷ (80 ∷ (76 ∷ (65 ∷ (89 ∷ (48 ∷ (49 ∷ []))))))))

-- the byte after a case that starts at `place`: kind, count of whole numbers and count of cells take six bytes, a whole number four and a
-- cell eight; `place` itself for counts that no case has
abbrev pub after_case : ℕ → ℕ → ℕ → ℕ
after_case place count cells = cond (nat_le count 16) (cond (nat_le cells 65536) ((place + (6 + 4 * count + 8 * cells)) % 2 ^ 64) place) place
