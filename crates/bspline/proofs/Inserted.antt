-- What a knot's insertion makes of the knots and of the controls, element by element.
use mathlib.Core.Path.{◌≡◌, sym, ap, ◌∙◌}
use mathlib.Core.List.{List, ◌∷◌, ◌++◌}
use Prim.Native.Nat.{ℕ, zero, suc, ◌+◌, ◌-◌, ◌*◌, ◌≤◌, ◌<◌}
use native.Mathlib.Omega.{arith}
use native.Mathlib.Decide.{dec_lt}
use native.Mathlib.Nat.{suc-mul}
use lib.ListN.{length, get_or, take, drop, length-append, length-drop, get_or-append}
use lib.Seq.{length-take-le, get_or-append-add, get_or-append_seam, get_or-take, get_or-drop, ext_get_or}
use borrow.Author.Tests.{le-leb, lt-leb}
use Rattle.arith.specs.Operations.{Arith}
use Rattle.arith.proofs.Rows.{row_end, rows_le}
use Rattle.window.specs.Window.{window, splice}
use Rattle.window.proofs.Windows.{length_window, length_splice}
use Rattle.bspline.specs.Insertion.{knots_with, alpha_of, control, mixed, mixed_row, new_control, mixed_controls, weights_of, weight_at}
use Rattle.window.proofs.Joined.{list_length, list_at, table_length, table_at, table_ap, by_row}
use Rattle.window.proofs.Written.{splice_before, splice_inside, splice_after}

-- a row above row 0 follows on the one before it
pub row_before : (i d : ℕ) → 0 < i → (i - 1) * d + d ≡ i * d
row_before zero d h = absurd (omega arith)
row_before (suc i) d h = let e : suc i - 1 ≡ i = omega arith in let s = suc-mul i d in rw e (omega arith)

-- the knots up to k, x, and the knots after k
module _ {A : Type 0} (x : A) (k : ℕ) (t : List A) (z : A) (inside : k < length t) where
  pub knots_low : (i : ℕ) → i ≤ k → get_or (knots_with x k t) i z ≡ get_or t i z
  knots_low i h =
      let e = length-take-le (k + 1) t (omega arith) in
      get_or-append (take (k + 1) t) (x ∷ drop (k + 1) t) z i (omega arith) ∙ get_or-take (k + 1) t i z (omega arith)

  pub knots_at_law : get_or (knots_with x k t) (k + 1) z ≡ x
  knots_at_law =
      let e = length-take-le (k + 1) t (omega arith) in
      ap (λ (n : ℕ). get_or (knots_with x k t) n z) (sym e) ∙ get_or-append_seam (take (k + 1) t) x (drop (k + 1) t) z

  pub knots_high : (i : ℕ) → k < i → get_or (knots_with x k t) (i + 1) z ≡ get_or t i z
  knots_high i h =
      let e = length-take-le (k + 1) t (omega arith) in
      let q : i + 1 ≡ length (take (k + 1) t) + suc (i - (k + 1)) = omega arith in
      let r : k + 1 + (i - (k + 1)) ≡ i = omega arith in
      ap (λ (n : ℕ). get_or (knots_with x k t) n z) q ∙ get_or-append-add (take (k + 1) t) (x ∷ drop (k + 1) t) (suc (i - (k + 1))) z
      ∙ get_or-drop (k + 1) t (i - (k + 1)) z ∙ ap (λ (n : ℕ). get_or t n z) r

  pub knots_length : length (knots_with x k t) ≡ length t + 1
  knots_length = rw (length-append, length-take-le (k + 1) t (omega arith)) (simp length-drop (omega arith))

module _ {A : Type 0} (o : Arith A) where
  -- the weight of a mixed control is the α of its place
  pub weight_at_law : (t : List A) (x : A) (k i : ℕ) → 4 ≤ k → k ≤ i + 4 → i ≤ k → weight_at o (weights_of o t x k) k i ≡ alpha_of o t x i
  weight_at_law t x k i h g l =
      let e : k - 4 + (i - (k - 4)) ≡ i = omega arith in
      list_at 5 (λ r. alpha_of o t x (k - 4 + r)) o.outside (i - (k - 4)) (omega arith) ∙ ap (alpha_of o t x) e

  -- the three cases of a new control
  module _ (alpha : ℕ → A) (d k : ℕ) (c : List A) (i j : ℕ) where
    pub new_before : i + 5 ≤ k → new_control o alpha d k c i j ≡ control o d c i j
    unfolding new_control
    new_before h = rw (le-leb (i + 5) k h)

    pub new_mixed : k < i + 5 → i ≤ k → new_control o alpha d k c i j ≡ mixed o (alpha i) (control o d c (i - 1) j) (control o d c i j)
    unfolding new_control
    new_mixed h g = rw (lt-leb (i + 5) k h, le-leb i k g)

    pub new_after : k < i → new_control o alpha d k c i j ≡ control o d c (i - 1) j
    unfolding new_control
    new_after h = rw (lt-leb (i + 5) k (omega arith), lt-leb i k h)

  -- axis j of new control i stands in its place
  pub control_is : (alpha : ℕ → A) (d m k : ℕ) (c : List A) (i j : ℕ) → i ≤ m → j < d → get_or (mixed_controls o alpha d m k c) (i * d +
      j) o.outside ≡ new_control o alpha d k c i j
  control_is alpha d m k c i j h g = table_at (m + 1) d (new_control o alpha d k c) o.outside i j (omega arith) g

  -- only the weights of the mixed controls matter
  pub weights_same : (alpha beta : ℕ → A) (d m k : ℕ) (c : List A) → ((i : ℕ) → k < i + 5 → i ≤ k → alpha i ≡ beta i)
      → mixed_controls o alpha d m k c ≡ mixed_controls o beta d m k c
  weights_same alpha beta d m k c h =
      table_ap (m + 1) d (new_control o alpha d k c) (new_control o beta d k c)
      (λ i j l g. elim (dec_lt k (i + 5)) [
        | no a ↦ new_before alpha d k c i j (omega arith) ∙ sym (new_before beta d k c i j (omega arith))
        | yes a ↦ elim (dec_lt k i) [
          | yes b ↦ new_after alpha d k c i j b ∙ sym (new_after beta d k c i j b)
          | no b ↦ new_mixed alpha d k c i j a (omega arith) ∙ rw (h i a (omega arith)) (sym (new_mixed beta d k c i j a (omega arith)))
        ]
      ])

  -- How the code gets there, in place: from `old`, with room for a control more, rows after k move up by one, then rows k down to k - 4 are
  -- mixed.
  module _ (alpha : ℕ → A) (d m k : ℕ) (old : List A) where
    abbrev z : A
    z = o.outside

    abbrev used : List A
    used = take (m * d) old

    abbrev pub target : List A
    target = mixed_controls o alpha d m k used ++ drop ((m + 1) * d) old

    -- rows from i on are as they are to be, those below as they were
    pub record Mixing (i : ℕ) (c : List A) : Type 0 where
      pub long : length c ≡ length old
      pub below : (p : ℕ) → p < i * d → get_or c p z ≡ get_or old p z
      pub above : (p : ℕ) → i * d ≤ p → get_or c p z ≡ get_or target p z

    module _ (five : 5 ≤ k) (km : k < m) (room : (m + 1) * d ≤ length old) where
      made : length (mixed_controls o alpha d m k used) ≡ (m + 1) * d
      made = table_length (m + 1) d (new_control o alpha d k used)

      target_length : length target ≡ length old
      target_length = rw (length-append, made) (simp length-drop (omega arith))

      target_row : (i j : ℕ) → i ≤ m → j < d → get_or target (i * d + j) z ≡ new_control o alpha d k used i j
      target_row i j h g =
          let e = row_end i (m + 1) d ((m + 1) * d) (omega arith) (omega arith) in
          let n = made in
          get_or-append (mixed_controls o alpha d m k used) (drop ((m + 1) * d) old) z (i * d + j) (omega arith)
          ∙ control_is alpha d m k used i j h g

      target_past : (p : ℕ) → (m + 1) * d ≤ p → get_or target p z ≡ get_or old p z
      target_past p h =
          let n = made in
          let e : p ≡ length (mixed_controls o alpha d m k used) + (p - (m + 1) * d) = omega arith in
          let q : (m + 1) * d + (p - (m + 1) * d) ≡ p = omega arith in
          ap (λ (i : ℕ). get_or target i z) e ∙ get_or-append-add (mixed_controls o alpha d m k used) (drop ((m + 1) * d) old) (p - (m + 1) * d)
          z
          ∙ get_or-drop ((m + 1) * d) old (p - (m + 1) * d) z ∙ ap (λ (i : ℕ). get_or old i z) q

      used_row : (i j : ℕ) → i < m → j < d → control o d used i j ≡ get_or old (i * d + j) z
      used_row i j h g =
          let e = row_end i m d (m * d) h (omega arith) in
          get_or-take (m * d) old (i * d + j) z (omega arith)

      pub mixing_start : Mixing (k + 1) (splice (k * d + d) (m * d + d) (window (k * d) (m * d) old) old)
      mixing_start =
          let s = suc-mul m d in
          let r = suc-mul k d in
          let le = rows_le k m d (m * d) (omega arith) (omega arith) in
          let w = length_window (k * d) (m * d) old le (omega arith) in
          let v = window (k * d) (m * d) old in
          record {
            long = length_splice (k * d + d) (m * d + d) v old (omega arith) (omega arith) (omega arith);
            below = λ p h. splice_before (k * d + d) (m * d + d) v old z (omega arith) p (omega arith);
            above = λ p h. elim (dec_lt p ((m + 1) * d)) [
              | no a ↦ splice_after (k * d + d) (m * d + d) v old z (omega arith) p (omega arith) (omega arith) (omega arith)
                  ∙ sym (target_past p (omega arith))
              | yes a ↦ by_row (λ p. (k + 1) * d ≤ p → get_or (splice (k * d + d) (m * d + d) v old) p z ≡ get_or target p z) (m + 1) d
                  (λ i j b g f. elim (dec_lt k i) [
                    | no y ↦ let e = row_end i (k + 1) d ((k + 1) * d) (omega arith) (omega arith) in absurd (omega arith)
                    | yes y ↦
                        let e = row_before i d (omega arith) in
                        let x = row_end (i - 1) m d (m * d) (omega arith) (omega arith) in
                        let q : k * d + (i * d + j - (k * d + d)) ≡ (i - 1) * d + j = omega arith in
                        splice_inside (k * d + d) (m * d + d) v old z (omega arith) (i * d + j) (omega arith) (omega arith)
                        ∙ get_or-take (m * d - k * d) (drop (k * d) old) (i * d + j - (k * d + d)) z (omega arith)
                        ∙ get_or-drop (k * d) old (i * d + j - (k * d + d)) z
                        ∙ ap (λ (n : ℕ). get_or old n z) q ∙ sym (used_row (i - 1) j (omega arith) g)
                        ∙ sym (new_after alpha d k used i j y) ∙ sym (target_row i j (omega arith) g)
                  ]) p a h
            ];
          }

      pub mixing_next : (i : ℕ) (c : List A) (a : A) → k < i + 5 → i ≤ k → a ≡ alpha i → Mixing (i + 1) c
          → Mixing i (splice (i * d) (i * d + d) (mixed_row o a d (i * d) c) c)
      mixing_next i c a h g e p =
          let r = suc-mul i d in
          let end = row_end i (m + 1) d ((m + 1) * d) (omega arith) (omega arith) in
          let n = p.long in
          let f : ℕ → A = λ j. mixed o a (get_or c (i * d - d + j) z) (get_or c (i * d + j) z) in
          let v = mixed_row o a d (i * d) c in
          let lv : length v ≡ d = list_length d f in
          let q = row_before i d (omega arith) in
          record {
            long = length_splice (i * d) (i * d + d) v c (omega arith) (omega arith) (omega arith) ∙ n;
            below = λ t l. splice_before (i * d) (i * d + d) v c z (omega arith) t l ∙ p.below t (omega arith);
            above = λ t l. elim (dec_lt t (i * d + d)) [
              | no b ↦ splice_after (i * d) (i * d + d) v c z (omega arith) t (omega arith) (omega arith) (omega arith)
                  ∙ p.above t (omega arith)
              | yes b ↦
                  let j = t - i * d in
                  let at : i * d + j ≡ t = omega arith in
                  let y : i * d - d + j ≡ (i - 1) * d + j = omega arith in
                  splice_inside (i * d) (i * d + d) v c z (omega arith) t l (omega arith) ∙ list_at d f z j (omega arith)
                  ∙ rw (
                    e,
                    p.below (i * d - d + j) (omega arith),
                    p.below (i * d + j) (omega arith),
                    y,
                    ← used_row (i - 1) j (omega arith)
                        (omega arith),
                    ← used_row i j (omega arith) (omega arith),
                  )
                  (sym (new_mixed alpha d k used i j h g) ∙ sym (target_row i j (omega arith) (omega arith))
                  ∙ ap (λ (n : ℕ). get_or target n z) at)
            ];
          }

      pub mixing_done : (c : List A) → Mixing (k - 4) c → c ≡ target
      mixing_done c p =
          ext_get_or z c target (p.long ∙ sym target_length)
          (λ t l. elim (dec_lt t ((k - 4) * d)) [
            | no a ↦ p.above t (omega arith)
            | yes a ↦ p.below t a ∙ by_row (λ t. get_or old t z ≡ get_or target t z) (k - 4) d
                (λ i j b g. sym (used_row i j (omega arith) g) ∙ sym (new_before alpha d k used i j (omega arith))
                ∙ sym (target_row i j (omega arith) g)) t a
          ])
