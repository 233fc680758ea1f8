-- Maximum, minimum and total order of floats.
use Rattle.std.specs.Prelude.{Bool, false, not, ◌&&◌, ◌||◌, cond, Float}
use Rattle.std.specs.Float.{nan, inf, fin}
use Rattle.std.specs.Float.Ieee.{is_nan, lt, eq}

-- y where x is a NaN or the test says so, and otherwise x
unfoldable pub chosen : Bool → Float → Float → Float
chosen second x y = cond (is_nan x) y (cond second y x)

-- The larger (Rust's f64::max): of a NaN and a number, the number. +0 and -0 are equal, and Rust leaves open which is given: here it is the
-- first.
abbrev pub max_of : Float → Float → Float
max_of x y = chosen (lt x y) x y

-- The smaller (Rust's f64::min), likewise.
abbrev pub min_of : Float → Float → Float
min_of x y = chosen (lt y x) x y

-- the sign bit of an infinity or a number
unfoldable pub negative : Float → Bool
negative nan = false
negative (inf s) = s
negative (fin s m e) = s

-- The total order (IEEE 754, clause 5.10; Rust's f64::total_cmp): x comes before y, or is y. Numbers and infinities go by `<`, and -0 comes
-- before +0.
-- The language sees neither a NaN's sign nor its payload: every NaN comes last, as IEEE 754 has it for one with a clear sign, and all are
-- one.
unfoldable pub total_le : Float → Float → Bool
unfolding negative
total_le x y = is_nan y || lt x y || (eq x y && (negative x || not (negative y)))
