-- Axes that are read one after the other.
use mathlib.Core.Path.{◌≡◌, refl, sym, ap, ◌∙◌}
use mathlib.Core.List.{List, [], ◌∷◌, ◌++◌, append-nil}
use Prim.Native.Nat.{ℕ, suc, ◌+◌, ◌-◌, ◌≤◌, ◌<◌}
use native.Mathlib.Omega.{arith}
use lib.ListN.{length, drop, set, replicate, length-append}
use lib.Seq.{append_snoc}
use Rattle.window.specs.Rows.{join}
use Rattle.forms.specs.Read.{Read, got, bad, after}
use Rattle.forms.specs.Groups.{number_to, number_at}
use Rattle.std.specs.Prelude.{None}
use Rattle.forms.specs.Form.{groups, read_all}
use Rattle.forms.proofs.Places.{number_read, number_bad}
use Rattle.curve.specs.Places.{padded}
use Rattle.curve.proofs.Padded.{padded_next, padded_long}

-- i axes were read so far; the others, read from here on, give all
pub record SoFar (l : List ℕ) (at k : ℕ) (axes : List ℕ) (next i : ℕ) : Type 0 where
  pub list : List ℕ
  pub count : length list ≡ i
  pub held : axes ≡ padded list
  pub ended : next ≤ length l
  pub rest : after (read_all groups (k - i) (drop next l)) (λ vs s. got (list ++ vs) s) ≡ read_all groups k (drop at l)

after_same : (o : Read (List ℕ)) → after o (λ vs s. got vs s) ≡ o
after_same (got vs s) = refl
after_same bad = refl

no_axes_law : replicate 16 0 ≡ padded []
unfolding join
no_axes_law = refl

module _ (l : List ℕ) (at k : ℕ) where
  pub so_far_none : at ≤ length l → SoFar l at k (replicate 16 0) at 0
  so_far_none h = record {
    list = [];
    count = refl;
    held = no_axes_law;
    ended = h;
    rest = after_same (read_all groups (k - 0) (drop at l)) ∙ ap (λ (n : ℕ). read_all groups n (drop at l)) {x = k - 0} {y = k} (omega arith);
  }

  module _ (axes : List ℕ) (next i : ℕ) (so : SoFar l at k axes next i) where
    one_more : (a : ℕ) (o : Read (List ℕ)) → after (after o (λ vs s. got (a ∷ vs) s)) (λ vs s. got (so.list ++ vs) s)
        ≡ after o (λ vs s. got ((so.list ++ (a ∷ [])) ++ vs) s)
    one_more a (got vs s) = ap (λ (t : List ℕ). got t s) (sym (append_snoc so.list a vs))
    one_more a bad = refl

    next_is : i < k → k - i ≡ suc (k - (i + 1))
    next_is h = omega arith

    pub so_far_next : (axes' : List ℕ) (a place : ℕ) → i < k → number_to a place ≡ number_at l next → axes' ≡ padded (so.list ++ (a ∷ []))
        → SoFar l at k axes' place (i + 1)
    so_far_next axes' a place h e held =
        let r = number_read l next a place e in
        let step : read_all groups (k - i) (drop next l)
        ≡ after (read_all groups (k - (i + 1)) (drop place l)) (λ vs s. got (a ∷ vs) s) =
        ap (λ (n : ℕ). read_all groups n (drop next l)) (next_is h)
        ∙ ap (λ (o : Read ℕ). after o (λ a r. after (read_all groups (k - (i + 1)) r) (λ vs s. got (a ∷ vs) s))) r.0 in
        record {
          list = so.list ++ (a ∷ []);
          count = omega (arith, length-append so.list (a ∷ []), so.count);
          held = held;
          ended = r.1;
          rest =
              sym (one_more a (read_all groups (k - (i + 1)) (drop place l)))
              ∙ ap (λ (o : Read (List ℕ)). after o (λ vs s. got (so.list ++ vs) s)) (sym step) ∙ so.rest;
        }

    -- the cells that hold them
    pub kept : (a : ℕ) → i < 16 → set axes i a ≡ padded (so.list ++ (a ∷ []))
    kept a h =
        ap (λ (t : List ℕ). set t i a) so.held ∙ ap (λ (n : ℕ). set (padded so.list) n a) (sym so.count)
        ∙ padded_next so.list a (omega (arith, so.count))

    pub not_kept : (a : ℕ) → 16 ≤ i → axes ≡ padded (so.list ++ (a ∷ []))
    not_kept a h = so.held ∙ sym (padded_long so.list (a ∷ []) (omega (arith, so.count)))

    pub so_far_bad : i < k → None ≡ number_at l next → read_all groups k (drop at l) ≡ bad
    so_far_bad h e =
        let step : read_all groups (k - i) (drop next l) ≡ bad = ap (λ (n : ℕ). read_all groups n (drop next l)) (next_is h)
        ∙ ap (λ (o : Read ℕ). after o (λ a r. after (read_all groups (k - (i + 1)) r) (λ vs s. got (a ∷ vs) s))) (number_bad l next e) in
        sym so.rest ∙ ap (λ (o : Read (List ℕ)). after o (λ vs s. got (so.list ++ vs) s)) step

    pub so_far_all : i ≡ k → read_all groups k (drop at l) ≡ got so.list (drop next l)
    so_far_all h =
        let z : k - i ≡ 0 = omega arith in
        sym so.rest ∙ ap (λ (n : ℕ). after (read_all groups n (drop next l)) (λ vs s. got (so.list ++ vs) s)) z
        ∙ ap (λ (t : List ℕ). got t (drop next l)) (append-nil so.list)
