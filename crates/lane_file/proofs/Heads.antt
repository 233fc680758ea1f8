-- What the forms give at each return of the code that reads the head.
use mathlib.Core.Path.{◌≡◌}
use mathlib.Core.List.{List}
use Prim.Native.Nat.{ℕ, ◌*◌, ◌≤◌, ◌<◌}
use native.Mathlib.Omega.{arith}
use native.Mathlib.Nat.{mul-le-mul}
use borrow.Author.Tests.{le-leb, lt-leb, leb-true}
use lib.ListN.{length, drop}
use Rattle.forms.specs.Read.{got, bad, Bytes}
use Rattle.forms.specs.Groups.{number_to, number_at}
use Rattle.std.specs.Prelude.{None}
use Rattle.forms.specs.Form.{groups, read_all}
use Rattle.forms.proofs.Places.{number_read, number_bad}
use Rattle.lane_file.specs.File.{Head, tail_form, head_form}
use Rattle.lane_file.proofs.Spelling.{head_exact}

-- ---- the mode and both segment counts
module _ (l : List ℕ) (at : ℕ) where
  pub tail_unread1 : None ≡ number_at l at → bad ≡ tail_form.read (drop at l)
  tail_unread1 p = rw (number_bad l at p)

  module _ (mode b : ℕ) (p : number_to mode b ≡ number_at l at) where
    pub tail_mode : 1 < mode → bad ≡ tail_form.read (drop at l)
    tail_mode h = rw ((number_read l at mode b p).0, lt-leb mode 1 h)

    module _ (h : mode ≤ 1) where
      pub tail_unread2 : None ≡ number_at l b → bad ≡ tail_form.read (drop at l)
      tail_unread2 q = rw ((number_read l at mode b p).0, le-leb mode 1 h, number_bad l b q)

      module _ (n e : ℕ) (q : number_to n e ≡ number_at l b) where
        pub tail_unread3 : None ≡ number_at l e → bad ≡ tail_form.read (drop at l)
        tail_unread3 u = rw ((number_read l at mode b p).0, le-leb mode 1 h, (number_read l b n e q).0, number_bad l e u)

        pub tail_read : (m next : ℕ) → number_to m next ≡ number_at l e
            → (got (record { first = mode; second = record { first = n; second = m } }) (drop next l) ≡ tail_form.read (drop at l))
            × (next ≤ length l)
        tail_read m next u =
            let last = number_read l e m next u in
            (rw ((number_read l at mode b p).0, le-leb mode 1 h, (number_read l b n e q).0, last.0), last.1)

-- ---- the head
module _ (l : List ℕ) where
  pub head_unread1 : None ≡ number_at l 0 → head_form.read l ≡ bad
  head_unread1 p = rw (number_bad l 0 p)

  module _ (d a : ℕ) (p : number_to d a ≡ number_at l 0) where
    pub head_unread2 : None ≡ number_at l a → head_form.read l ≡ bad
    head_unread2 q = rw ((number_read l 0 d a p).0, number_bad l a q)

    module _ (k b : ℕ) (q : number_to k b ≡ number_at l a) where
      pub head_above : d < k → head_form.read l ≡ bad
      head_above h = rw ((number_read l 0 d a p).0, (number_read l a k b q).0, lt-leb k d h)

      module _ (h : k ≤ d) where
        pub head_unread3 : read_all groups k (drop b l) ≡ bad → head_form.read l ≡ bad
        head_unread3 u = rw ((number_read l 0 d a p).0, (number_read l a k b q).0, le-leb k d h, u)

        module _ (axes : List ℕ) (e : ℕ) (u : read_all groups k (drop b l) ≡ got axes (drop e l)) where
          pub head_unread4 : tail_form.read (drop e l) ≡ bad → head_form.read l ≡ bad
          head_unread4 t = rw ((number_read l 0 d a p).0, (number_read l a k b q).0, le-leb k d h, u, t)

          pub head_read : (mode n m next : ℕ)
              → tail_form.read (drop e l) ≡ got (record { first = mode; second = record { first = n; second = m } }) (drop next l)
              → head_form.read l ≡ got (record { d = d; k = k; axes = axes; mode = mode; segments = n; other_segments = m }) (drop next l)
          head_read mode n m next t = rw ((number_read l 0 d a p).0, (number_read l a k b q).0, le-leb k d h, u, t)

-- its numbers are small
pub record SmallHead (h : Head) : Type 0 where
  pub d_small : h.d < 2097152
  pub k_high : h.k ≤ h.d
  pub segments_small : h.segments < 2097152
  pub others_small : h.other_segments < 2097152

pub head_small : (h : Head) (l rest : List ℕ) → Bytes l → head_form.read l ≡ got h rest → SmallHead h
head_small h l rest B e =
    let g = (head_exact.only h l rest B e).1 in
    record {
      d_small = omega (arith, g.0);
      k_high = leb-true h.k h.d g.1.0.1;
      segments_small = omega (arith, g.1.1.1.1.0);
      others_small = omega (arith, g.1.1.1.1.1);
    }

-- ---- products of small numbers
pub product_small : (a b : ℕ) → a < 2097152 → b < 2097152 → a * b ≤ 4398042316801
product_small a b h g =
    let x : a ≤ 2097151 = omega arith in
    let y : b ≤ 2097151 = omega arith in
    mul-le-mul x y
