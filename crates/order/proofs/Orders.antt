-- What holds of the cutting order: it meets all pairs, none that does comes before it, and where there is none no order meets them.
use mathlib.Core.Path.{◌≡◌, refl, sym, ap, ◌∙◌, subst}
use mathlib.Core.Bool.{Bool, true, false, not, ◌||◌, cond}
use mathlib.Core.List.{List, [], ◌∷◌, ◌++◌}
use mathlib.Core.Logic.{◌⊎◌, inl, inr, ⊎_elim}
use mathlib.Core.Option.{Option, some, none}
use Prim.Native.Nat.{ℕ, zero, suc, ◌+◌, ◌≤◌, ◌<◌}
use native.Mathlib.Omega.{arith}
use native.Mathlib.Decide.{dec_lt}
use borrow.Author.Tests.{lt-ltb, ltb-true, eqb-true, eq-eqb, not-true, not-false}
use lib.Dec.{eqb, ltb}
use lib.ListN.{length, take, length-append, length-take}
use lib.Seq.{ext_get_or, get_or-take, get_or_at, take_at, take-take, take-length, length-take-le}
use Rattle.arith.proofs.Truth.{and_parts, clash}
use Rattle.arith.specs.First.{first_of, every}
use Rattle.arith.proofs.Firsts.{first_all, first_before, first_passes, every_all, every_at}
use Rattle.order.specs.Pairs.{Pairs, before_of, after_of, lane_at, Before, Meets, Lower}
use Rattle.order.specs.Order.{among, passes, ready, next_of, order_from, order_of}
use Rattle.order.proofs.Among.{among_at, at_among, Once, outside, full}

-- `some` is no `none`, and holds one value
some_none : {A B : Type 0} {a : A} → ◌≡◌ {A = Option A} (some a) none → B
some_none e = let z : ◌≡◌ {A = ℕ} 0 1 = cc in absurd (omega arith)

-- where an order begins with `cut` and then x, it begins with `cut`, and x stands after it
begins : (cut order : List ℕ) (x : ℕ) → take (length (cut ++ (x ∷ []))) order ≡ cut ++ (x ∷ [])
    → (take (length cut) order ≡ cut) × (lane_at order (length cut) ≡ x)
begins cut order x e =
    let l : length cut < length (cut ++ (x ∷ [])) = simp length-append (omega arith) in (
      sym (take-take (length cut) (length (cut ++ (x ∷ []))) order (omega arith)) ∙ ap (take (length cut)) e
          ∙ take_at cut (x ∷ []) (length cut) refl,
      sym (get_or-take (length (cut ++ (x ∷ []))) order (length cut) 0 l) ∙ ap (λ (o : List ℕ). lane_at o (length cut)) e
          ∙ get_or_at cut x [] 0 (length cut) refl,
    )

-- the lanes before place j of an order
before_there : (o : List ℕ) (i j : ℕ) → i < j → j ≤ length o → among (take j o) (lane_at o i) ≡ true
before_there o i j h g =
    let l : i < length (take j o) = simp length-take (omega arith) in
    rw (get_or-take j o i 0 h) at (at_among (take j o) i l)

there_before : (o : List ℕ) (j : ℕ) → j ≤ length o → (x : ℕ) → among (take j o) x ≡ true → (i : ℕ) × (i < j) × (lane_at o i ≡ x)
there_before o j h x e =
    let (i, l, f) = among_at (take j o) x e in
    let g : i < j = omega (arith, length-take-le j o h) in
    (i, g, sym (get_or-take j o i 0 g) ∙ f)

ready_parts : (pairs : Pairs) (cut : List ℕ) (x : ℕ) → ready pairs cut x ≡ true
    → (among cut x ≡ false) × (every (length pairs) (passes pairs cut x) ≡ true)
ready_parts pairs cut x h =
    let (a, b) = and_parts (not (among cut x)) (every (length pairs) (passes pairs cut x)) h in (not-true (among cut x) a, b)

module _ (lanes : ℕ) (pairs : Pairs) where
  -- at each place of the order stands the lowest-numbered lane that is ready after those before it
  pub record Takes (from : ℕ) (order : List ℕ) : Type 0 where
    pub lowest : (i : ℕ) → from ≤ i → i < length order → lane_at order i ≡ next_of lanes pairs (take i order)
    pub lane : (i : ℕ) → from ≤ i → i < length order → lane_at order i < lanes

  -- the order begins with the lanes that are cut, and takes the lowest-numbered ready lane at each place after them
  taken_from : (k : ℕ) (cut order : List ℕ) → order_from k lanes pairs cut ≡ some order
      → (length order ≡ length cut + k) × (take (length cut) order ≡ cut) × Takes (length cut) order
  unfolding order_from
  taken_from zero cut order e =
      let q : cut ≡ order = cc in (
        omega (arith, ap length q),
        rw (← q) (take-length cut),
        record {
          lowest = λ i h g. absurd (omega (arith, ap length q));
          lane = λ i h g. absurd (omega (arith, ap length q));
        },
      )
  taken_from (suc k) cut order e = go (ltb x lanes) refl e (taken_from k (cut ++ (x ∷ [])) order)
    where
      x : ℕ
      x = next_of lanes pairs cut

      go : (b : Bool) → ltb x lanes ≡ b → cond b (order_from k lanes pairs (cut ++ (x ∷ []))) none ≡ some order
          → (order_from k lanes pairs (cut ++ (x ∷ [])) ≡ some order
          → (length order ≡ length (cut ++ (x ∷ [])) + k) × (take (length (cut ++ (x ∷ []))) order ≡ cut ++ (x ∷ []))
          × Takes (length (cut ++ (x ∷ []))) order)
          → (length order ≡ length cut + suc k) × (take (length cut) order ≡ cut) × Takes (length cut) order
      go false t g again = some_none (sym g)
      go true t g again =
          let (l, f, m) = again g in
          let (f', h) = begins cut order x f in
          let n : length (cut ++ (x ∷ [])) ≡ length cut + 1 = length-append cut (x ∷ []) in (
            omega arith,
            f',
            record {
              lowest = λ i a b. elim (dec_lt (length cut) i) [
                | yes d ↦ m.lowest i (omega arith) b
                | no d ↦
                    let q : length cut ≡ i = omega arith in
                    subst (λ (i : ℕ). lane_at order i ≡ next_of lanes pairs (take i order)) q (h ∙ ap (next_of lanes pairs) (sym f'))
              ];
              lane = λ i a b. elim (dec_lt (length cut) i) [
                | yes d ↦ m.lane i (omega arith) b
                | no d ↦
                    let q : length cut ≡ i = omega arith in
                    subst (λ (i : ℕ). lane_at order i < lanes) q (rw h (ltb-true x lanes t))
              ];
            },
          )

  pub taken : (order : List ℕ) → order_of lanes pairs ≡ some order → (length order ≡ lanes) × Takes 0 order
  taken order e =
      let (l, f, m) = taken_from lanes [] order e in (omega arith, m)

  -- The lane at a place of an order that meets all pairs is ready once all those before it are cut, and it is not.
  ready_there : (order : List ℕ) → Meets lanes pairs order → (cut : List ℕ) (j : ℕ) → j < lanes
      → ((i : ℕ) → i < j → among cut (lane_at order i) ≡ true) → among cut (lane_at order j) ≡ false
      → ready pairs cut (lane_at order j) ≡ true
  ready_there order m cut j h before left =
      rw (left, every_all (passes pairs cut (lane_at order j)) (length pairs) (first_all _ (length pairs) (λ p l. ap not (passing p l))))
    where
      passing : (p : ℕ) → p < length pairs → passes pairs cut (lane_at order j) p ≡ true
      passing p l = go (eqb (after_of pairs p) (lane_at order j)) refl
        where
          go : (b : Bool) → eqb (after_of pairs p) (lane_at order j) ≡ b → (not b || among cut (before_of pairs p)) ≡ true
          go false e = refl
          go true e =
              let (a, z, c, d, f, g) = m.kept p l in
              let q : lane_at order z ≡ lane_at order j = g ∙ eqb-true (after_of pairs p) (lane_at order j) e in
              let same : z ≡ j = elim (dec_lt z j) [
                | yes n ↦ absurd (m.once z j n h q)
                | no n ↦ elim (dec_lt j z) [
                  | yes k ↦ absurd (m.once j z k (omega (arith, m.long)) (sym q))
                  | no k ↦ omega arith
                ]
              ] in
              rw (← f) (before a (omega arith))

  -- Where an order meets all pairs and lanes are left, one of them is ready.
  progress : (other : List ℕ) → Meets lanes pairs other → (cut : List ℕ) → length cut < lanes → next_of lanes pairs cut < lanes
  progress other m cut h =
      let once : Once other = λ i j a b. m.once i j a (omega (arith, m.long)) in
      let (i, b, e) = outside other cut once (omega (arith, m.long)) in
      let test : ℕ → Bool = λ i. not (among cut (lane_at other i)) in
      let j = first_of lanes test in
      let l : j ≤ i = elim (dec_lt i j) [
        | yes d ↦ clash (ap not e) (first_before test lanes i d)
        | no d ↦ omega arith
      ] in
      let n : j < lanes = omega (arith, m.long) in
      let left = not-true (among cut (lane_at other j)) (first_passes test lanes n) in
      let r = ready_there other m cut j n (λ k a. not-false (among cut (lane_at other k)) (first_before test lanes k a)) left in
      let b = m.lane j n in
      elim (dec_lt (lane_at other j) (next_of lanes pairs cut)) [
        | yes d ↦ clash r (first_before (ready pairs cut) lanes (lane_at other j) d)
        | no d ↦ omega arith
      ]

  stuck_from : (k : ℕ) (cut : List ℕ) → length cut + k ≡ lanes → order_from k lanes pairs cut ≡ none
      → (other : List ℕ) → Meets lanes pairs other → ⊥
  unfolding order_from
  stuck_from zero cut l e other m = some_none e
  stuck_from (suc k) cut l e other m =
      let x = next_of lanes pairs cut in
      let b : ltb x lanes ≡ true = lt-ltb x lanes (progress other m cut (omega arith)) in
      stuck_from k (cut ++ (x ∷ [])) (simp length-append (omega arith)) (rw b at e) other m

  -- where there is no cutting order, no order meets all pairs
  pub ring : order_of lanes pairs ≡ none → (other : List ℕ) → Meets lanes pairs other → ⊥
  ring e = stuck_from lanes [] (omega arith) e

  -- The cutting order of lanes in range meets all pairs.
  module _ (order : List ℕ) (found : order_of lanes pairs ≡ some order) where
    long : length order ≡ lanes
    long = (taken order found).0

    takes : Takes 0 order
    takes = (taken order found).1

    ready_at : (i : ℕ) → i < lanes → ready pairs (take i order) (lane_at order i) ≡ true
    ready_at i h =
        let l : i < length order = omega (arith, long) in
        let e = takes.lowest i (omega arith) l in
        let b = takes.lane i (omega arith) l in
        rw e (first_passes (ready pairs (take i order)) lanes (omega arith))

    once : (i j : ℕ) → i < j → j < lanes → lane_at order i ≡ lane_at order j → ⊥
    once i j h g e =
        clash (before_there order i j h (omega (arith, long)))
        (ap (among (take j order)) e ∙ (ready_parts pairs (take j order) (lane_at order j) (ready_at j g)).0)

    kept : ((p : ℕ) → p < length pairs → after_of pairs p < lanes) → (p : ℕ) → p < length pairs
        → Before order (before_of pairs p) (after_of pairs p)
    kept r p h =
        let all = full lanes order long (λ i g. takes.lane i (omega arith) (omega (arith, long)))
        (λ i j a b. once i j a (omega (arith, long)))
        (after_of pairs p) (r p h) in
        let (j, b, e) = among_at order (after_of pairs p) all in
        let q = (ready_parts pairs (take j order) (lane_at order j) (ready_at j (omega (arith, long)))).1 in
        let t = every_at (passes pairs (take j order) (lane_at order j)) (length pairs) q p h in
        let (i, l, f) = there_before order j (omega arith) (before_of pairs p)
        (rw (eq-eqb (after_of pairs p) (lane_at order j) (sym e)) at t) in
        (i, j, l, b, f, e)

    pub meets : ((p : ℕ) → p < length pairs → after_of pairs p < lanes) → Meets lanes pairs order
    meets r =
        record {
          long = long;
          lane = λ i h. takes.lane i (omega arith) (omega (arith, long));
          once = once;
          kept = kept r;
        }

    -- Of the orders that meet all pairs none comes before the cutting order: any other has a higher-numbered lane at the first place that
    -- differs.
    module _ (other : List ℕ) (m : Meets lanes pairs other) where
      not_yet : (k : ℕ) → k < lanes → among (take k other) (lane_at other k) ≡ false
      not_yet k h = go (among (take k other) (lane_at other k)) refl
        where
          go : (b : Bool) → among (take k other) (lane_at other k) ≡ b → b ≡ false
          go false e = refl
          go true e =
              let (i, l, f) = there_before other k (omega (arith, m.long)) (lane_at other k) e in absurd (m.once i k l h f)

      at_most : (k : ℕ) → k < lanes → ((i : ℕ) → i < k → lane_at order i ≡ lane_at other i) → lane_at order k ≤ lane_at other k
      at_most k h same =
          let e : take k order ≡ take k other = ext_get_or 0 (take k order) (take k other)
          (length-take-le k order (omega (arith, long)) ∙ sym (length-take-le k other (omega (arith, m.long))))
          (λ i l. let g : i < k = omega (arith, length-take-le k order (omega (arith, long))) in
          get_or-take k order i 0 g ∙ same i g ∙ sym (get_or-take k other i 0 g)) in
          let r = ready_there other m (take k other) k h (λ i l. before_there other i k l (omega (arith, m.long))) (not_yet k h) in
          let t = takes.lowest k (omega arith) (omega (arith, long)) ∙ ap (next_of lanes pairs) e in
          elim (dec_lt (lane_at other k) (next_of lanes pairs (take k other))) [
            | yes d ↦ clash r (first_before (ready pairs (take k other)) lanes (lane_at other k) d)
            | no d ↦ omega arith
          ]

      walk : (k : ℕ) → k ≤ lanes → ((i : ℕ) → i < k → lane_at order i ≡ lane_at other i) ⊎ Lower order other
      walk zero h = inl (λ i g. absurd (omega arith))
      walk (suc k) h = ⊎_elim next inr (walk k (omega arith))
        where
          next : ((i : ℕ) → i < k → lane_at order i ≡ lane_at other i) → ((i : ℕ) → i < suc k → lane_at order i ≡ lane_at other i)
              ⊎ Lower order other
          next same = elim (dec_lt (lane_at order k) (lane_at other k)) [
            | yes d ↦ inr (record { place = k; same = same; lower = d })
            | no d ↦
                let a = at_most k (omega arith) same in
                let q : lane_at order k ≡ lane_at other k = omega arith in
                inl (λ i g. elim (dec_lt i k) [
                  | yes c ↦ same i c
                  | no c ↦
                      let z : k ≡ i = omega arith in rw z at q
                ])
          ]

      pub least : (order ≡ other) ⊎ Lower order other
      least =
          ⊎_elim
          (λ same. inl (ext_get_or 0 order other (long ∙ sym m.long) (λ i l. same i (omega (arith, long)))))
          inr
          (walk lanes (omega arith))
