-- A count of the numbers that pass a test tells whether every one does.
use mathlib.Core.Path.{◌≡◌, refl, sym, ap, ◌∙◌}
use mathlib.Core.Bool.{Bool, true, false, not, ◌&&◌, cond}
use Prim.Native.Nat.{ℕ, suc, ◌+◌, ◌*◌, ◌≤◌, ◌<◌}
use native.Mathlib.Omega.{arith}
use native.Mathlib.Decide.{dec_lt}
use native.Mathlib.Numerals.{add-one}
use borrow.Author.Tests.{eq-eqb, ne_eqb, eqb-true}
use lib.Dec.{eqb}
use Rattle.arith.proofs.Truth.{and_parts, clash}
use Rattle.arith.specs.First.{first_of, every}
use Rattle.arith.proofs.Firsts.{every_all, every_at, first_all, first_next, first_le, first_more, first_stays}

-- c of the numbers below i pass: all do exactly where c is i
abbrev pub Counted : (ℕ → Bool) → ℕ → ℕ → Type 0
Counted test i c = (c ≤ i) × (eqb c i ≡ every i test)

pub counted_none : (test : ℕ → Bool) → Counted test 0 0
unfolding first_of
counted_none test = (omega arith, refl)

module _ (test : ℕ → Bool) (i c : ℕ) (h : Counted test i c) where
  abbrev fails : ℕ → Bool
  fails j = not (test j)

  abbrev first : ℕ
  first = first_of i fails

  -- one before i does not pass
  earlier : first < i → eqb (first_of (i + 1) fails) (i + 1) ≡ false
  earlier l = rw (add-one, first_stays fails i l) (ne_eqb first (suc i) (λ e. absurd (omega arith)))

  one_more : (b : Bool) → test i ≡ b → Counted test (i + 1) (c + cond b 1 0)
  one_more true t = elim (dec_lt c i) [
    | yes l ↦ (omega (arith, h.0), ne_eqb (c + 1) (i + 1) (λ e. absurd (omega arith)) ∙ sym (earlier (under l)))
    | no l ↦
        let e : c ≡ i = omega (arith, h.0) in
        let f = eqb-true first i (sym h.1 ∙ eq-eqb c i e) in (
          omega (arith, h.0),
          eq-eqb (c + 1) (i + 1) (omega arith)
              ∙ sym (eq-eqb (first_of (i + 1) fails) (i + 1) (first_next fails i f (ap not t))),
        )
  ]
    where
      under : c < i → first < i
      under l = elim (dec_lt first i) [
        | yes g ↦ g
        | no g ↦ clash (eq-eqb first i (omega (arith, first_le fails i))) (sym h.1 ∙ ne_eqb c i (λ e. absurd (omega arith)))
      ]
  one_more false t = elim (dec_lt first i) [
    | yes l ↦ (omega (arith, h.0), ne_eqb (c + 0) (i + 1) (λ e. absurd (omega (arith, h.0))) ∙ sym (earlier l))
    | no l ↦
        let f : first ≡ i = omega (arith, first_le fails i) in
        let g : first_of (i + 1) fails ≡ i = rw (add-one, first_more fails i f, ap not t) in (
          omega (arith, h.0),
          ne_eqb (c + 0) (i + 1) (λ e. absurd (omega (arith, h.0)))
              ∙ sym (ne_eqb (first_of (i + 1) fails) (i + 1) (λ e. absurd (omega arith))),
        )
  ]

  pub counted_next : Counted test (i + 1) (c + cond (test i) 1 0)
  counted_next = one_more (test i) refl

-- 1 where both pass
pub both : (a b : Bool) → cond a 1 0 * cond b 1 0 ≡ cond (a && b) 1 0
both true true = refl
both true false = refl
both false true = refl
both false false = refl

-- every number passes two tests exactly where it passes each
pub every_both : (f g : ℕ → Bool) (n : ℕ) → every n (λ i. f i && g i) ≡ (every n f && every n g)
every_both f g n = go (every n both) refl
  where
    both : ℕ → Bool
    both i = f i && g i

    all : (test : ℕ → Bool) → ((i : ℕ) → i < n → test i ≡ true) → every n test ≡ true
    all test h = every_all test n (first_all (λ i. not (test i)) n (λ i l. ap not (h i l)))

    each : every n both ≡ true → (i : ℕ) → i < n → (f i ≡ true) × (g i ≡ true)
    each e i l = and_parts (f i) (g i) (every_at both n e i l)

    go : (b : Bool) → every n both ≡ b → b ≡ (every n f && every n g)
    go true e = sym (rw (all f (λ i l. (each e i l).0), all g (λ i l. (each e i l).1)))
    go false e = sym (no (every n f && every n g) refl)
      where
        no : (b : Bool) → (every n f && every n g) ≡ b → b ≡ false
        no true h =
            let p = and_parts (every n f) (every n g) h in
            clash (all both (λ i l. rw (every_at f n p.0 i l, every_at g n p.1 i l))) e
        no false h = refl
