-- The steps up to the first audit, chained.
use mathlib.Core.Path.{◌≡◌, refl, sym, ap, subst, ◌∙◌}
use mathlib.Core.Bool.{Bool, true, false, cond}
use mathlib.Core.List.{List, [], ◌∷◌, ◌++◌, append_assoc}
use Prim.Native.Nat.{ℕ, zero, suc, ◌+◌, ◌-◌, ◌*◌, ◌≤◌, ◌<◌}
use native.Mathlib.Omega.{arith}
use borrow.Author.Tests.{lt-ltb, le-ltb}
use lib.Dec.{T, ltb}
use lib.ListN.{length, take, drop}
use lib.Seq.{length-take-le, get_or-drop}
use lib.Ieee.{Float, nan, binary64, fits}
use Rattle.window.specs.Window.{window}
use Rattle.window.specs.Cells.{zeros, Doubles}
use Rattle.window.proofs.Windows.{length_window, window_before}
use Rattle.window.proofs.Parts.{read_seam}
use Rattle.window.specs.Rows.{written}
use Rattle.window.proofs.Written.{written_plain}
use Rattle.fit.specs.Fit.{Fit, Answer}
use Rattle.polynomial.specs.Outcome.{Outcome}
use Rattle.polynomial.specs.Outcome as audits
use Rattle.seed.specs.Knots.{seed_of}
use Rattle.smoothing.specs.Answer as answers
use Rattle.smoothing.specs.Answer.{and_then, unless}
use Rattle.smoothing.specs.Answer.Answer.{done, refused}
use Rattle.smoothing.specs.Rows.{Task}
use Rattle.smoothing.specs.Rising.{Rising}
use Rattle.smoothing.specs.State.{State, state, spline, Counts, counts, add_rows, add_intervals, fit_in, fitted, audit_in, polynomial_in}
use Rattle.smoothing.specs.Start.{curved, first_knots, many_knots, open_knots, chord_controls, chord_of, chord_state, first_strength, first_fit, first_state, start_of}
use Rattle.smoothing.proofs.KnotsRise.{chord_rising}
use Rattle.refinement.specs.declared.plan.Plan.{Plan}
use Rattle.refinement.specs.Memory.{knots_place, Roomy, Memory, memory_at, with_controls, with_polynomial, with_bounds, task_in, spline_in, state_in, sized, Stored}
use Rattle.refinement.specs.Refit.{Same, audit_over}
use Rattle.refinement.proofs.Memories.{products}
use Rattle.refinement.proofs.Refitting.{audit_is, after_audit}
use Rattle.selected_axes.specs.First.{inner_knots}

-- ---- the cells of a part are f64s where those of the whole are
take_doubles : (n : ℕ) (l : List Float) → Doubles l → Doubles (take n l)
unfolding fits
take_doubles zero l h i = tt
take_doubles (suc n) [] h i = tt
take_doubles (suc n) (x ∷ l) h zero = h zero
take_doubles (suc n) (x ∷ l) h (suc i) = take_doubles n l (λ j. h (suc j)) i

pub window_doubles : (a e : ℕ) (l : List Float) → Doubles l → Doubles (window a e l)
window_doubles a e l h =
    take_doubles (e - a) (drop a l) (λ i. subst (λ (x : Float). T (fits binary64 x)) (sym (get_or-drop a l i nan)) (h (a + i)))

-- ---- the first knots
front_read : (a : ℕ) (u v l : List Float) → a ≤ length l → window a (a + length u) (written a (u ++ v) l) ≡ u
front_read a u v l h =
    ap (λ (z : List Float). window a (a + length u) z)
    (written_plain a (u ++ v) l ∙ ap (λ (z : List Float). take a l ++ z) (append_assoc u v (drop (a + length (u ++ v)) l)))
    ∙ read_seam (take a l) u (v ++ drop (a + length (u ++ v)) l) a (a + length u) (length-take-le a l h) (omega arith)

module _ (p : Plan) (w : List Float) (r : Roomy p (length w)) where
  abbrev x : Memory
  x = memory_at p w

  abbrev q : Task
  q = task_in p x

  abbrev K : ℕ
  K = knots_place p + 6

  -- what is found and told of k knots
  abbrev Knots : ℕ → List Float → Type 0
  Knots k w' = (inner_knots p k w' ≡ first_knots q) × ((k ≡ length (first_knots q)) × (task_in p (memory_at p w') ≡ q))

  pub knots_none : curved q ≡ false → Knots 0 w
  unfolding first_knots
  knots_none c =
      let e : first_knots q ≡ [] = ap (λ (b : Bool). cond b (seed_of q.s q.y q.k) []) c in
      let n : K + 0 - K ≡ 0 = omega arith in
      (ap (λ (k : ℕ). take k (drop K w)) n ∙ sym e, (sym (ap length e), refl))

  pub knots_put : (b k : ℕ) (w' more : List Float) → b ≡ p.room * p.axes → curved q ≡ true → k ≡ length (seed_of x.s x.y p.axes)
      → w' ≡ written (p.room + b + 6) (seed_of x.s x.y p.axes ++ more) w → Knots k w'
  unfolding first_knots
  knots_put b k w' more eb c n e =
      let S = seed_of x.s x.y p.axes in
      let g : w' ≡ written K (S ++ more) w = e ∙ ap (λ (i : ℕ). written (p.room + i + 6) (S ++ more) w) eb in
      let f : first_knots q ≡ S = ap (λ (b : Bool). cond b S []) c in
      let o = products p (length w) r in
      let here : K ≤ length w = omega (arith, r.knots_fit, r.cells_fit) in
      let s-is = ap (λ (l : List Float). (memory_at p l).s) g
      ∙ window_before K (K + length (S ++ more)) (S ++ more) w 0 (0 + p.samples) (omega arith) (omega (arith, r.waypoints_fit)) here in
      let y-is = ap (λ (l : List Float). (memory_at p l).y) g
      ∙ window_before K (K + length (S ++ more)) (S ++ more) w p.room (p.room + p.samples * p.axes) (omega arith)
      (omega (arith, o.points)) here in (
        ap (λ (i : ℕ). window K (K + i) w') n ∙ ap (λ (l : List Float). window K (K + length S) l) g ∙ front_read K S more w here ∙ sym f,
        (n ∙ sym (ap length f), λ i. record { n = p.samples; k = p.axes; s = s-is i; y = y-is i }),
      )

  -- ---- the chord
  inner_count : p.count ≡ length (inner_knots p (p.count - 6) w) + 6
  inner_count =
      let n = length_window (knots_place p + 6) (knots_place p + 6 + (p.count - 6)) w (omega arith)
      (omega (arith, r.knots_fit, r.cells_fit)) in
      omega (arith, r.six)

  pub begun : (x₁ x₂ x₃ : Memory) → (x₁.t ≡ open_knots (inner_knots p (p.count - 6) w)) × (task_in p x₁ ≡ q)
      → x₂ ≡ with_controls (chord_controls (task_in p x₁) x₁.t p.count) x₁
      → x₃ ≡ with_bounds (zeros ((p.samples - 1) * p.axes)) (zeros (p.samples - 1)) x₂
      → (state_in p (counts 0 0 0) x₃ ≡ chord_state q (inner_knots p (p.count - 6) w)) × (task_in p x₃ ≡ q)
  unfolding chord_state chord_of
  begun x₁ x₂ x₃ e₁ e₂ e₃ =
      let n = p.samples - 1 in
      let T = open_knots (inner_knots p (p.count - 6) w) in
      let e : x₃ ≡ with_bounds (zeros (n * p.axes)) (zeros n) (with_controls (chord_controls (task_in p x₁) x₁.t p.count) x₁) = e₃
      ∙ ap (with_bounds (zeros (n * p.axes)) (zeros n)) e₂ in (
        ap (state_in p (counts 0 0 0)) e
            ∙ ap (λ (z : Task). state (spline x₁.t (chord_controls z x₁.t p.count) p.count) (zeros (n * p.axes)) (zeros n)
            (counts 0 0 0)) e₁.1
            ∙ ap (λ (t : List Float). state (spline t (chord_controls q t p.count) p.count) (zeros (n * p.axes)) (zeros n)
            (counts 0 0 0)) e₁.0
            ∙ ap (λ (k : ℕ). state (spline T (chord_controls q T k) k) (zeros (n * p.axes)) (zeros n) (counts 0 0 0)) inner_count,
        ap (task_in p) e ∙ e₁.1,
      )

-- ---- the first fit
module _ (p : Plan) (x : Memory) where
  abbrev first : Fit
  first = fit_in (task_in p x) 1 (p.count - 1) first_strength (spline_in p x)

  pub fit_none : (r : Counts) → curved (task_in p x) ≡ false → done (state_in p r x) ≡ first_fit (task_in p x) (state_in p r x)
  unfolding first_fit
  fit_none r c = sym (ap (λ (b : Bool). cond b (fitted first (state_in p r x)) (done (state_in p r x))) c)

  pub fit_made : (r : Counts) (x₁ : Memory) (v : Answer) (report : Counts) → curved (task_in p x) ≡ true → v ≡ first.answered
      → x₁ ≡ with_controls first.controls x → report ≡ add_rows v.rows r
      → unless v.number (state_in p report x₁) ≡ first_fit (task_in p x) (state_in p r x)
  unfolding first_fit fitted
  fit_made r x₁ v report c e e₁ k =
      let st = state_in p r x in
      ap (λ (a : Answer). unless a.number (state_in p report x₁)) e
      ∙ ap (λ (r : Counts). unless first.answered.number (state_in p r x₁))
      (k ∙ ap (λ (a : Answer). add_rows a.rows r) e)
      ∙ ap (λ (y : Memory). unless first.answered.number (state_in p (add_rows first.answered.rows r) y)) e₁
      ∙ sym (ap (λ (b : Bool). cond b (fitted first st) (done st)) c)

  pub controls_changed : (x₁ : Memory) (c : List Float) → x₁ ≡ with_controls c x → x₁ ≡ with_controls x₁.c x
  controls_changed x₁ c e = e ∙ ap (λ (l : List Float). with_controls l x) (sym (ap (λ (y : Memory). y.c) e))

  -- ---- the first audit
  pub audit_made : (x₁ x₂ : Memory) (number checked : ℕ) (o : Outcome) (report : Counts)
      → x₁ ≡ with_polynomial (polynomial_in p.axes (spline_in p x)) x → number ≡ audits.number_of o
      → (o ≡ (audit_over p 0 (p.samples - 1) x₁).outcome) × (checked ≡ (audit_over p 0 (p.samples - 1) x₁).checked)
      → x₂ ≡ with_bounds (audit_over p 0 (p.samples - 1) x₁).bounds (audit_over p 0 (p.samples - 1) x₁).witness x₁
      → (unless number (state_in p (add_intervals checked report) x₂) ≡ audit_in (task_in p x) 0 (p.samples - 1) (state_in p report x))
      × (Stored p x₂ × Same x x₂)
  audit_made x₁ x₂ number checked o report rebuilt n found after =
      let stored = subst (Stored p) (sym rebuilt) (record { breaks_are = refl; coefficients_are = refl }) in
      let k = after_audit p x₁ x₁ x₂ x₁.coefficients _ _ refl stored after in
      let s = subst (λ (y : Memory). Same y x₂) rebuilt k.1 in (
        audit_is p x₁ x₁ x₂ x₁.coefficients 0 (p.samples - 1) number checked o report refl stored n found.0 found.1 after
            ∙ ap (λ (y : Memory). audit_in (task_in p y) 0 (p.samples - 1) (state_in p report y)) rebuilt,
        (k.0, record { same_s = s.same_s; same_y = s.same_y; same_t = s.same_t; same_locations = s.same_locations }),
      )

  -- ---- both
  pub first_made : (x₁ x₂ : Memory) (answer : answers.Answer State) (r report : Counts)
      → done (state_in p report x₁) ≡ first_fit (task_in p x) (state_in p r x) → x₁ ≡ with_controls x₁.c x
      → answer ≡ audit_in (task_in p x₁) 0 (p.samples - 1) (state_in p report x₁)
      → answer ≡ and_then (first_fit (task_in p x) (state_in p r x)) (audit_in (task_in p x) 0 (p.samples - 1))
  unfolding and_then
  first_made x₁ x₂ answer r report f changed e =
      e ∙ ap (λ (t : Task). audit_in t 0 (p.samples - 1) (state_in p report x₁)) (ap (task_in p) changed)
      ∙ ap (λ (a : answers.Answer State). and_then a (audit_in (task_in p x) 0 (p.samples - 1))) f

-- ---- the start
pub start_many : (segments k : ℕ) (q : Task) → k ≡ length (first_knots q) → segments < k + 1 → refused 8 ≡ start_of segments q
unfolding start_of many_knots
start_many segments k q n l =
    sym (ap (λ (b : Bool). cond b (refused 8) (first_state q)) (ap (λ (i : ℕ). ltb segments (i + 1)) (sym n) ∙ lt-ltb segments (k + 1) l))

start_few : (segments k : ℕ) (q : Task) → k ≡ length (first_knots q) → k + 1 ≤ segments → first_state q ≡ start_of segments q
unfolding start_of many_knots
start_few segments k q n l =
    sym (ap (λ (b : Bool). cond b (refused 8) (first_state q)) (ap (λ (i : ℕ). ltb segments (i + 1)) (sym n) ∙ le-ltb segments (k + 1) l))

-- k first knots stand in w₁, and the chord over them in x₂
pub record Chord (p : Plan) (k : ℕ) (w w₁ : List Float) (x₂ : Memory) : Type 0 where
  pub inner : inner_knots p k w₁ ≡ first_knots (task_in p (memory_at p w))
  pub many : k ≡ length (first_knots (task_in p (memory_at p w)))
  pub task : task_in p (memory_at p w₁) ≡ task_in p (memory_at p w)
  pub chord : state_in (sized p (k + 6)) (counts 0 0 0) x₂ ≡ chord_state (task_in p (memory_at p w₁)) (inner_knots p (k + 6 - 6) w₁)
  pub task₂ : task_in (sized p (k + 6)) x₂ ≡ task_in p (memory_at p w₁)

module _ {p : Plan} {k : ℕ} {w w₁ : List Float} {x₂ : Memory} (c : Chord p k w w₁ x₂) where
  abbrev p' : Plan
  p' = sized p (k + 6)

  abbrev q₀ : Task
  q₀ = task_in p (memory_at p w)

  same_task : task_in p' x₂ ≡ q₀
  same_task = c.task₂ ∙ c.task

  chord_is : state_in p' (counts 0 0 0) x₂ ≡ chord_state q₀ (first_knots q₀)
  chord_is =
      let n : k + 6 - 6 ≡ k = omega arith in
      c.chord ∙ ap (λ (t : Task). chord_state t (inner_knots p (k + 6 - 6) w₁)) c.task
      ∙ ap (λ (i : ℕ). chord_state q₀ (inner_knots p i w₁)) n ∙ ap (chord_state q₀) c.inner

  pub bent_is : (b : Bool) → b ≡ curved q₀ → b ≡ curved (task_in p' x₂)
  bent_is b e = e ∙ ap curved (sym same_task)

  pub start_rises : Doubles w → Rising x₂.t (k + 6)
  unfolding chord_state
  start_rises D =
      subst (λ (st : State). Rising st.b.t st.b.m) (sym chord_is) (chord_rising q₀ (window_doubles 0 (0 + p.samples) w D))

  pub start_made : (segments : ℕ) (answer : answers.Answer State) → k + 1 ≤ segments
      → answer ≡ and_then (first_fit (task_in p' x₂) (state_in p' (counts 0 0 0) x₂)) (audit_in (task_in p' x₂) 0 (p.samples - 1))
      → answer ≡ start_of segments q₀
  unfolding first_state
  start_made segments answer l e =
      e ∙ ap (λ (t : Task). and_then (first_fit t (state_in p' (counts 0 0 0) x₂)) (audit_in t 0 (p.samples - 1))) same_task
      ∙ ap (λ (st : State). and_then (first_fit q₀ st) (audit_in q₀ 0 (p.samples - 1))) chord_is
      ∙ start_few segments k q₀ c.many l

  pub start_keeps : (x₃ : Memory) → Doubles w → Stored p' x₃ × Same x₂ x₃ → Stored p' x₃ × Rising x₃.t (k + 6) × (task_in p' x₃ ≡ q₀)
  start_keeps x₃ D h =
      let s = h.1.same_s in
      let y = h.1.same_y in
      let t : task_in p' x₃ ≡ task_in p' x₂ = λ i. record { n = p.samples; k = p.axes; s = s i; y = y i } in
      (h.0, subst (λ (l : List Float). Rising l (k + 6)) (sym h.1.same_t) (start_rises D), t ∙ same_task)
