-- The parts of a file, put one after the other.
use mathlib.Core.Path.{◌≡◌, refl, ap, ◌∙◌, subst}
use mathlib.Core.List.{List, [], ◌∷◌, ◌++◌, map, append_assoc}
use Prim.Native.Nat.{ℕ, suc, ◌+◌, ◌*◌, ◌≤◌, ◌<◌}
use native.Mathlib.Omega.{arith}
use lib.ListN.{length, take, drop, get_or, length-map, length-append}
use lib.Seq.{length-take-le, get_or-take}
use lib.Ieee.{Float}
use Rattle.window.specs.Cells.{onto}
use Rattle.window.specs.Rows.{written}
use Rattle.window.proofs.Written.{written_plain}
use Rattle.forms.specs.Groups.{groups_of}
use Rattle.forms.specs.Form.{groups, bytes, low_bytes, write_all}
use Rattle.forms.proofs.Exact.{length_low}
use Rattle.forms.proofs.Putting.{Put, put_more, length_words, one_group}
use Rattle.curve.specs.declared.Curve.{Curve}
use Rattle.curve.specs.declared.Mode.{Mode}
use Rattle.curve.specs.declared.Mode.TheVariants.{Error, Clamp}
use Rattle.lane_file.specs.File.{Head, head_form, Patterns, patterns_form}
use Rattle.lane_file.specs.Curves.{Cells, pattern_of, mode_number, head_of, without_widths, patterns_from, patterns_of, file_of}

-- the bytes of some patterns
abbrev pub words : List ℕ → List ℕ
words l = write_all (bytes 8) l

-- and of some numbers
abbrev pub numbers : List Float → List ℕ
numbers l = words (map pattern_of l)

pub length_numbers : (l : List Float) → length (numbers l) ≡ 8 * length l
length_numbers l = length_words (map pattern_of l) ∙ omega (arith, length-map l pattern_of)

-- a set
module _ {at : ℕ} (breaks : List Float) (coefficients : List ℕ) {before between after : List ℕ} where
  pub set_put : at + 8 * (length breaks + length coefficients) ≤ length before → between ≡ written at (numbers breaks) before
      → after ≡ written (at + 8 * length breaks) (words coefficients) between
      → Put at (numbers breaks ++ words coefficients) before after (at + 8 * length breaks + 8 * length coefficients)
  set_put h e f =
      let p : Put at (numbers breaks) before between (at + 8 * length breaks) =
      record { now = e; next = omega (arith, length_numbers breaks) } in
      let q : Put (at + 8 * length breaks) (words coefficients) between after (at + 8 * length breaks + 8 * length coefficients) =
      record { now = f; next = omega (arith, length_words coefficients) } in
      put_more (omega arith) p q

-- all behind the head
module _ (c : Curve) (s : Cells) (at : ℕ) (f₀ f₁ f₂ f₃ f₄ : List ℕ) where
  pub patterns_put :
      at + 8 * (2 + length s.breaks + length s.coefficients + length s.other_breaks + length s.other_coefficients) ≤ length f₀
      → f₁ ≡ written at (low_bytes 8 (pattern_of c.start)) f₀ → f₂ ≡ written (at + 8) (low_bytes 8 (pattern_of c.end)) f₁
      → f₃ ≡ written (at + 16) (numbers s.breaks ++ words s.coefficients) f₂
      → f₄ ≡ written (at + 16 + 8 * (length s.breaks + length s.coefficients))
      (numbers s.other_breaks ++ words s.other_coefficients) f₃
      → f₄ ≡ written at ((patterns_form (head_of c)).write (patterns_from c s)) f₀
  patterns_put h e₁ e₂ e₃ e₄ =
      let b = numbers s.breaks in
      let k = words s.coefficients in
      let ob = numbers s.other_breaks in
      let ok = words s.other_coefficients in
      let n = 8 * (length s.breaks + length s.coefficients) in
      let m = length-append b k in
      let q = length_numbers s.breaks in
      let r = length_words s.coefficients in
      let start = low_bytes 8 (pattern_of c.start) in
      let end = low_bytes 8 (pattern_of c.end) in
      let p₁ : Put at start f₀ f₁ (at + 8) = record { now = e₁; next = omega (arith, length_low 8 (pattern_of c.start)) } in
      let p₂ : Put (at + 8) end f₁ f₂ (at + 16) = record { now = e₂; next = omega (arith, length_low 8 (pattern_of c.end)) } in
      let p₃ : Put (at + 16) (b ++ k) f₂ f₃ (at + 16 + n) = record { now = e₃; next = omega (arith, m, q, r) } in
      let p₄ : Put (at + 16 + n) (ob ++ ok) f₃ f₄ (at + 16 + n + length (ob ++ ok)) = record { now = e₄; next = refl } in
      let all = put_more (omega arith) (put_more (omega arith) (put_more (omega arith) p₁ p₂) p₃) p₄ in
      all.now ∙ ap (λ (v : List ℕ). written at v f₀) (joined start end b k (ob ++ ok))
    where
      joined : (u v w x y : List ℕ) → ((u ++ v) ++ (w ++ x)) ++ y ≡ u ++ (v ++ (w ++ (x ++ y)))
      joined u v w x y = simp append_assoc

-- ---- the head
module _ (c : Curve) {f₀ f₁ f₂ f₃ f₄ f₅ f₆ : List ℕ} {n₁ n₂ n₃ n₄ n₅ n₆ : ℕ} where
  pub head_put : n₅ ≤ length f₀ → Put 0 (groups_of 3 c.d) f₀ f₁ n₁ → Put n₁ (groups_of 3 c.k) f₁ f₂ n₂
      → Put n₂ (write_all groups (take c.k c.axes)) f₂ f₃ n₃ → Put n₃ (groups_of 3 (mode_number c.mode)) f₃ f₄ n₄
      → Put n₄ (groups_of 3 c.segments) f₄ f₅ n₅ → Put n₅ (groups_of 3 c.other_segments) f₅ f₆ n₆
      → Put 0 (head_form.write (head_of c)) f₀ f₆ n₆
  head_put h p₁ p₂ p₃ p₄ p₅ p₆ =
      let all = put_more h (put_more (omega (arith, p₅.next)) (put_more (omega (arith, p₄.next, p₅.next))
      (put_more (omega (arith, p₃.next, p₄.next, p₅.next))
      (put_more (omega (arith, p₂.next, p₃.next, p₄.next, p₅.next)) p₁ p₂) p₃) p₄) p₅) p₆ in
      subst (λ (v : List ℕ). Put 0 v f₀ f₆ n₆) (joined (groups_of 3 c.d) (groups_of 3 c.k) (write_all groups (take c.k c.axes))
      (groups_of 3 (mode_number c.mode)) (groups_of 3 c.segments) (groups_of 3 c.other_segments)) all
    where
      joined : (u v w x y z : List ℕ) → ((((u ++ v) ++ w) ++ x) ++ y) ++ z ≡ u ++ (v ++ (w ++ (x ++ (y ++ z))))
      joined u v w x y z = simp append_assoc

-- numbers below 128 have one group each
pub ones_length : (l : List ℕ) → ((i : ℕ) → i < length l → get_or l i 0 < 128) → length (write_all groups l) ≡ length l
ones_length [] h = refl
ones_length (x ∷ l) h =
    length-append (groups_of 3 x) (write_all groups l)
    ∙ omega (arith, ap length (one_group x (h 0 (omega arith))), ones_length l (λ i m. h (suc i) (omega arith)))

module _ (c : Curve) where
  pub head_length : c.d < 128 → c.k ≤ 16 → length c.axes ≡ 16 → ((i : ℕ) → i < c.k → get_or c.axes i 0 < 128)
      → length (head_form.write (head_of c)) ≡ 3 + c.k + length (groups_of 3 c.segments) + length (groups_of 3 c.other_segments)
  head_length h g n small =
      let axes = take c.k c.axes in
      let m : length axes ≡ c.k = length-take-le c.k c.axes (omega arith) in
      let w = write_all groups axes in
      let each = ones_length axes (λ i j. rw (get_or-take c.k c.axes i 0 (omega arith)) (small i (omega arith))) in
      let mode = groups_of 3 (mode_number c.mode) in
      let s = groups_of 3 c.segments in
      let o = groups_of 3 c.other_segments in
      let a = ap length (one_group c.d h) in
      let b = ap length (one_group c.k (omega arith)) in
      let e = ap length (one_group (mode_number c.mode) (mode_small c.mode)) in
      let l₁ = length-append (groups_of 3 c.d) (groups_of 3 c.k ++ (w ++ (mode ++ (s ++ o)))) in
      let l₂ = length-append (groups_of 3 c.k) (w ++ (mode ++ (s ++ o))) in
      let l₃ = length-append w (mode ++ (s ++ o)) in
      let l₄ = length-append mode (s ++ o) in
      let l₅ = length-append s o in
      omega (arith, m, each, a, b, e, l₁, l₂, l₃, l₄, l₅)
    where
      mode_small : (m : Mode) → mode_number m < 128
      mode_small Error = omega arith
      mode_small Clamp = omega arith

-- ---- the whole file
-- eight bytes for each number
pub patterns_length : (h : Head) (p : Patterns) → length ((patterns_form h).write p)
    ≡ 8 * (2 + length p.breaks + length p.coefficients + length p.other_breaks + length p.other_coefficients)
patterns_length h p =
    let start = low_bytes 8 p.start in
    let end = low_bytes 8 p.end in
    let b = words p.breaks in
    let k = words p.coefficients in
    let ob = words p.other_breaks in
    let ok = words p.other_coefficients in
    omega (
      arith,
      length-append start (end ++ (b ++ (k ++ (ob ++ ok)))),
      length-append end (b ++ (k ++ (ob ++ ok))),
      length-append b (k ++ (ob ++ ok)),
      length-append k (ob ++ ok),
      length-append ob ok,
      length_low 8 p.start,
      length_low 8 p.end,
      length_words p.breaks,
      length_words p.coefficients,
      length_words p.other_breaks,
      length_words p.other_coefficients,
    )

-- of the cells of a curve
abbrev pub cell_count : Cells → ℕ
cell_count s = 2 + length s.breaks + length s.coefficients + length s.other_breaks + length s.other_coefficients

module _ (c : Curve) (s : Cells) where
  pub file_length : length (file_of c s) ≡ length (head_form.write (head_of c)) + 8 * cell_count (without_widths c s)
  file_length =
      length-append (head_form.write (head_of c)) ((patterns_form (head_of c)).write (patterns_of c s))
      ∙ omega (
        arith,
        patterns_length (head_of c) (patterns_of c s),
        length-map s.breaks pattern_of,
        length-map s.other_breaks pattern_of,
      )

  -- the head, then what stands behind it
  pub file_put : (lent between after : List ℕ) (next : ℕ) → length (file_of c s) ≤ length lent
      → between ≡ written 0 (head_form.write (head_of c)) lent → next ≡ length (head_form.write (head_of c))
      → after ≡ written next ((patterns_form (head_of c)).write (patterns_of c s)) between → after ≡ onto (file_of c s) lent
  file_put lent between after next room e n f =
      let head : Put 0 (head_form.write (head_of c)) lent between next = record { now = e; next = omega (arith, n) } in
      let rest : Put next ((patterns_form (head_of c)).write (patterns_of c s)) between after
      (next + length ((patterns_form (head_of c)).write (patterns_of c s))) = record { now = f; next = refl } in
      let all = put_more (omega (arith, n, room, file_length)) head rest in
      let z : 0 + length (file_of c s) ≡ length (file_of c s) = omega arith in
      all.now ∙ written_plain 0 (file_of c s) lent ∙ ap (λ (i : ℕ). file_of c s ++ drop i lent) z
