-- A curve is well formed if it is whatever each segment has, and each segment of both sets has what it is to have.
use mathlib.Core.Path.{◌≡◌, refl, ap, ◌∙◌}
use mathlib.Core.Bool.{Bool, true, false, cond, ◌&&◌, and-false, and-true}
use mathlib.Core.List.{List}
use Prim.Native.Nat.{ℕ, ◌+◌, ◌-◌, ◌*◌, ◌≤◌}
use native.Mathlib.Nat.{mul-le-mul}
use native.Mathlib.Omega.{arith}
use borrow.Author.Tests.{leb-true, eqb-true}
use lib.Dec.{leb, eqb}
use lib.ListN.{length}
use lib.Ieee.{Float, binary64, of_bits, to_bits, lt, eq}
use Rattle.arith.specs.First.{every, first_of}
use Rattle.arith.proofs.Truth.{and_parts}
use Rattle.window.specs.Cells.{+0, at}
use Rattle.curve.specs.declared.Curve.{Curve}
use Rattle.curve.specs.Form.{Slices, axes_formed, width_of, widths_kept, set_shaped, segments_formed, set_formed, others_shaped, others_formed}
use Rattle.curve.specs.Form.{range_formed, well_shaped, well_formed}
use Rattle.curve.proofs.Counting.{Counted, every_both}

-- no segments have what they are to have
none_formed : (from : ℕ) (b c : List Float) → segments_formed from 0 b c ≡ true
unfolding widths_kept first_of
none_formed from b c = refl

others_split : (m n : ℕ) (b c : List Float) → others_formed m n b c ≡ (others_shaped m n b (length c) && segments_formed (6 * (n * m)) n b c)
unfolding others_formed set_formed
others_split m n b c = go (eqb m 0) (eqb n 0) refl
  where
    go : (t z : Bool) → eqb n 0 ≡ z
        → cond t (z && eqb (length b) 0 && eqb (length c) 0) (set_shaped m n b (length c) && segments_formed (6 * (n * m)) n b c)
        ≡ (cond t (z && eqb (length b) 0 && eqb (length c) 0) (set_shaped m n b (length c)) && segments_formed (6 * (n * m)) n b c)
    go false z e = refl
    go true false e = refl
    go true true e =
        let k : segments_formed (6 * (n * m)) n b c ≡ true =
        ap (λ (i : ℕ). segments_formed (6 * (n * m)) i b c) (eqb-true n 0 e) ∙ none_formed (6 * (n * m)) b c in rw (k, and-true)

swap : (q r : Bool) → (q && r) ≡ (r && q)
swap false false = refl
swap false true = refl
swap true false = refl
swap true true = refl

sorted : (a s k o q r : Bool) → (((a && (s && k)) && (o && q)) && r) ≡ ((((a && s) && o) && r) && (k && q))
sorted false s k o q r = refl
sorted true false k o q r = refl
sorted true true false o q r = rw and-false
sorted true true true false q r = refl
sorted true true true true q r = swap q r

module _ (c : Curve) (s : Slices) where
  abbrev pub selected_formed : Bool
  selected_formed = segments_formed (6 * (c.segments * c.k)) c.segments s.breaks s.coefficients

  abbrev pub remaining_formed : Bool
  remaining_formed =
      segments_formed (6 * (c.other_segments * (c.d - c.k))) c.other_segments s.other_breaks s.other_coefficients

  pub shape_and_segments : well_formed c s
      ≡ (well_shaped c s.breaks (length s.coefficients) s.other_breaks (length s.other_coefficients)
      && (selected_formed && remaining_formed))
  unfolding well_formed well_shaped set_formed
  shape_and_segments =
      let a = leb 1 c.d && leb c.d 16 && leb 1 c.k && leb c.k c.d && axes_formed c.axes c.k c.d in
      let set = set_shaped c.k c.segments s.breaks (length s.coefficients) in
      let others = others_shaped (c.d - c.k) c.other_segments s.other_breaks (length s.other_coefficients) in
      ap (λ (o : Bool). ((a && (set && selected_formed)) && o) && range_formed c.start c.end)
      (others_split (c.d - c.k) c.other_segments s.other_breaks s.other_coefficients)
      ∙ sorted a set selected_formed others remaining_formed (range_formed c.start c.end)

-- ---- what each segment is to have: those that have it are counted
abbrev pub formed_at : List Float → List Float → ℕ → ℕ → Bool
formed_at breaks cells from i =
    lt (at breaks i) (at breaks (i + 1)) && eqb (to_bits binary64 (at cells (from + i))) (to_bits binary64 (width_of breaks i))

pub formed_every : (breaks cells : List Float) (from n : ℕ) → every n (formed_at breaks cells from) ≡ segments_formed from n breaks cells
unfolding widths_kept
formed_every breaks cells from n =
    every_both (λ i. lt (at breaks i) (at breaks (i + 1)))
    (λ i. eqb (to_bits binary64 (at cells (from + i))) (to_bits binary64 (width_of breaks i))) n

pub formed_counted : (breaks cells : List Float) (from n kept : ℕ) → Counted (formed_at breaks cells from) n kept
    → eqb kept n ≡ segments_formed from n breaks cells
formed_counted breaks cells from n kept h = h.1 ∙ formed_every breaks cells from n

-- ---- what the shape gives: sizes
pub record Sizes (m n : ℕ) (breaks : List Float) (cells : ℕ) : Type 0 where
  pub most : n ≤ 20000
  pub enough : n ≤ length breaks - 1
  pub room : 6 * (n * m) + n ≤ cells

set_sizes : (m n : ℕ) (b : List Float) (cells : ℕ) → set_shaped m n b cells ≡ true → Sizes m n b cells
set_sizes m n b cells h =
    let t1 = leb 1 n && leb n 20000 in
    let t2 = t1 && eqb (length b) (n + 1) in
    let t3 = t2 && eqb cells (6 * (n * m) + n) in
    let p4 = and_parts (t3 && eq (at b 0) +0) (eq (at b n) (of_bits binary64 0x3ff0_0000_0000_0000)) h in
    let p3 = and_parts t3 (eq (at b 0) +0) p4.0 in
    let p2 = and_parts t2 (eqb cells (6 * (n * m) + n)) p3.0 in
    let p1 = and_parts t1 (eqb (length b) (n + 1)) p2.0 in
    let e = eqb-true (length b) (n + 1) p1.1 in
    let f = eqb-true cells (6 * (n * m) + n) p2.1 in
    record {
      most = leb-true n 20000 (and_parts (leb 1 n) (leb n 20000) p1.0).1;
      enough = omega (arith, e);
      room = omega (arith, f);
    }

other_sizes : (m n : ℕ) (b : List Float) (cells : ℕ) → others_shaped m n b cells ≡ true → Sizes m n b cells
other_sizes m n b cells h = go (eqb m 0) h
  where
    go : (t : Bool) → cond t (eqb n 0 && eqb (length b) 0 && eqb cells 0) (set_shaped m n b cells) ≡ true → Sizes m n b cells
    go false h = set_sizes m n b cells h
    go true h =
        let p = and_parts (eqb n 0 && eqb (length b) 0) (eqb cells 0) h in
        let z = eqb-true n 0 (and_parts (eqb n 0) (eqb (length b) 0) p.0).0 in
        record {
          most = omega (arith, z);
          enough = omega (arith, z);
          room = rw z (omega arith);
        }

-- rows of a set
pub rows_few : (m n : ℕ) → m ≤ 16 → n ≤ 20000 → n * m ≤ 320000
rows_few m n h g = let p : n * m ≤ 20000 * 16 = mul-le-mul g h in omega (arith, p)

pub record Shaped (c : Curve) (breaks : List Float) (cells : ℕ) (other_breaks : List Float) (other_cells : ℕ) : Type 0 where
  pub k_high : c.k ≤ c.d
  pub set : Sizes c.k c.segments breaks cells
  pub others : Sizes (c.d - c.k) c.other_segments other_breaks other_cells
  pub set_few : c.segments * c.k ≤ 320000
  pub others_few : c.other_segments * (c.d - c.k) ≤ 320000

pub shaped : (c : Curve) (b : List Float) (n : ℕ) (ob : List Float) (on : ℕ) → well_shaped c b n ob on ≡ true → Shaped c b n ob on
unfolding well_shaped
shaped c b n ob on h =
    let t1 = leb 1 c.d && leb c.d 16 in
    let t2 = t1 && leb 1 c.k in
    let t3 = t2 && leb c.k c.d in
    let t4 = t3 && axes_formed c.axes c.k c.d in
    let set = set_shaped c.k c.segments b n in
    let others = others_shaped (c.d - c.k) c.other_segments ob on in
    let p6 = and_parts (t4 && set && others) (range_formed c.start c.end) h in
    let p5 = and_parts (t4 && set) others p6.0 in
    let p4 = and_parts t4 set p5.0 in
    let p3 = and_parts t3 (axes_formed c.axes c.k c.d) p4.0 in
    let p2 = and_parts t2 (leb c.k c.d) p3.0 in
    let p1 = and_parts t1 (leb 1 c.k) p2.0 in
    let d_high = leb-true c.d 16 (and_parts (leb 1 c.d) (leb c.d 16) p1.0).1 in
    let k_high = leb-true c.k c.d p2.1 in
    let sized = set_sizes c.k c.segments b n p4.1 in
    let other-sized = other_sizes (c.d - c.k) c.other_segments ob on p5.1 in
    record {
      k_high = k_high;
      set = sized;
      others = other-sized;
      set_few = rows_few c.k c.segments (omega (arith, d_high, k_high)) sized.most;
      others_few = rows_few (c.d - c.k) c.other_segments (omega (arith, d_high)) other-sized.most;
    }
