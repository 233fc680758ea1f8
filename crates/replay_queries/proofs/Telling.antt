-- Laws of what is printed of a call.
use mathlib.Core.Path.{◌≡◌, sym, ap, ◌∙◌}
use mathlib.Core.List.{List, ◌++◌}
use Prim.Native.Nat.{ℕ, ◌+◌}
use native.Mathlib.Numerals.{add-one}
use borrow.Author.Tests.{eq-eqb, ne_eqb}
use lib.Ieee.{Float}
use Rattle.query.specs.Row.{Outputs, outputs}
use Rattle.query.specs.Query.{Outcome, outcome}
use Rattle.listing.specs.Output.{printed, refused_word, whole_text, cells_text}
use Rattle.listing.proofs.Printing.{printed_append, printed_none}
use Rattle.replay_queries.specs.Told.{marked_outputs, refusal_text, place_text, outputs_text, told_text, told_of_all_text, turns_text}

-- one text after another
pub then_text : (g o : List ℕ × ℕ) (a b : List ℕ) {p : List ℕ × ℕ} → p ≡ printed o b → o ≡ printed g a → p ≡ printed g (a ++ b)
then_text g o a b e k = e ∙ ap (λ (o : List ℕ × ℕ). printed o b) k ∙ sym (printed_append g a b)

pub no_refusal : (g : List ℕ × ℕ) (number : ℕ) → number ≡ 0 → g ≡ printed g (refusal_text number)
unfolding refusal_text
no_refusal g number h = rw (eq-eqb number 0 h) (printed_none g)

pub a_refusal : (g o : List ℕ × ℕ) (number : ℕ) {p : List ℕ × ℕ} → (number ≡ 0 → ⊥) → p ≡ printed o (whole_text number)
    → o ≡ printed g refused_word → p ≡ printed g (refusal_text number)
unfolding refusal_text
a_refusal g o number h e k = rw (ne_eqb number 0 h) (then_text g o refused_word (whole_text number) e k)

pub no_place : (g : List ℕ × ℕ) (number place : ℕ) → (number ≡ 22 → ⊥) → g ≡ printed g (place_text number place)
unfolding place_text
no_place g number place h = rw (ne_eqb number 22 h) (printed_none g)

pub a_place : (g : List ℕ × ℕ) (number place : ℕ) {p : List ℕ × ℕ} → number ≡ 22 → p ≡ printed g (whole_text place)
    → p ≡ printed g (place_text number place)
unfolding place_text
a_place g number place h e = rw (eq-eqb number 22 h) e

-- the four slices, one after the other
pub four_slices : (g a b c : List ℕ × ℕ) (q dq ddq dddq : List Float) {d : List ℕ × ℕ}
    → a ≡ printed g (cells_text q) → b ≡ printed a (cells_text dq)
    → c ≡ printed b (cells_text ddq) → d ≡ printed c (cells_text dddq)
    → d ≡ printed g (outputs_text (outputs q dq ddq dddq))
unfolding outputs_text
four_slices g a b c q dq ddq dddq e f h k =
    let last = then_text b c (cells_text ddq) (cells_text dddq) k h in
    let two = then_text a b (cells_text dq) (cells_text ddq ++ cells_text dddq) last f in
    then_text g a (cells_text q) (cells_text dq ++ (cells_text ddq ++ cells_text dddq)) two e

-- what a function f of four marked slices gives, which hold `marked`
module _ (f : Outputs → Outcome) (before marked : Outputs) (m : before ≡ marked) (g o : List ℕ × ℕ) (number place : ℕ) (after : Outputs)
    (e : outcome number place after ≡ f before) where
  -- a single query: its refusal, and the slices
  pub single_told : {told : ℕ} {p : List ℕ × ℕ} → told ≡ number → o ≡ printed g (refusal_text told) → p ≡ printed o (outputs_text after)
      → p ≡ printed g (told_text (f marked))
  unfolding told_text
  single_told t k h =
      then_text g o (refusal_text number) (outputs_text after) h (k ∙ ap (λ (n : ℕ). printed g (refusal_text n)) t)
      ∙ ap (λ (r : Outcome). printed g (told_text r)) (e ∙ ap f m)

  -- many: with the place of the first that is outside
  pub all_told : (s : List ℕ × ℕ) {told told₂ at : ℕ} {p : List ℕ × ℕ} → told ≡ number → told₂ ≡ number → at ≡ place
      → o ≡ printed g (refusal_text told) → s ≡ printed o (place_text told₂ at) → p ≡ printed s (outputs_text after)
      → p ≡ printed g (told_of_all_text (f marked))
  unfolding told_of_all_text
  all_told s t t₂ u k l h =
      then_text g o (refusal_text number) (place_text number place ++ outputs_text after)
      (then_text o s (place_text number place) (outputs_text after) h (l ∙ λ i. printed o (place_text (t₂ i) (u i))))
      (k ∙ ap (λ (n : ℕ). printed g (refusal_text n)) t)
      ∙ ap (λ (r : Outcome). printed g (told_of_all_text r)) (e ∙ ap f m)

-- queries in turn: none, and one more
pub no_turns : (g : List ℕ × ℕ) (f : ℕ → Outcome) → g ≡ printed g (turns_text 0 f)
unfolding turns_text
no_turns g f = printed_none g

pub turns_next : (g o : List ℕ × ℕ) (f : ℕ → Outcome) (i : ℕ) {p : List ℕ × ℕ} → o ≡ printed g (turns_text i f)
    → p ≡ printed o (told_text (f i)) → p ≡ printed g (turns_text (i + 1) f)
unfolding turns_text
turns_next g o f i k h = rw (add-one i) (then_text g o (turns_text i f) (told_text (f i)) h k)

pub turns_end : (g : List ℕ × ℕ) (f : ℕ → Outcome) {i n : ℕ} {p : List ℕ × ℕ} → i ≡ n → p ≡ printed g (turns_text i f)
    → p ≡ printed g (turns_text n f)
turns_end g f e h = h ∙ ap (λ (k : ℕ). printed g (turns_text k f)) e

-- a query with equal orders, and slices of equal lengths
pub same_asked : (f : ℕ → Outputs → Outcome) (o : List ℕ × ℕ) {r s n₀ n₁ n₂ n₃ m₀ m₁ m₂ m₃ : ℕ} {p : List ℕ × ℕ} → r ≡ s → n₀ ≡ m₀
    → n₁ ≡ m₁ → n₂ ≡ m₂ → n₃ ≡ m₃ → p ≡ printed o (told_text (f r (marked_outputs n₀ n₁ n₂ n₃)))
    → p ≡ printed o (told_text (f s (marked_outputs m₀ m₁ m₂ m₃)))
same_asked f o a e₀ e₁ e₂ e₃ h = h ∙ λ i. printed o (told_text (f (a i) (marked_outputs (e₀ i) (e₁ i) (e₂ i) (e₃ i))))
