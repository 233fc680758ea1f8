-- Laws of the text of a line.
use Rattle.std.proofs.Common.{◌≡◌, ℕ, ◌+◌, ◌<◌, List, [], ◌∷◌, ◌++◌, length, get_or, take, sym, refl, ap, ◌∙◌}
use Rattle.std.proofs.Common.{append_assoc, append-nil, add-one, take-suc}
use Rattle.listing.specs.Output.{printed, whole_text}
use Rattle.listing.proofs.Printing.{printed_append, printed_none}
use Rattle.replay_requests.specs.Lines.{wholes_text}

-- one text after another
pub then_text : (g : List ℕ × ℕ) (a b : List ℕ) {o p : List ℕ × ℕ} → p ≡ printed o b → o ≡ printed g a → p ≡ printed g (a ++ b)
then_text g a b e k = e ∙ ap (λ o. printed o b) k ∙ sym (printed_append g a b)

-- no whole number
pub wholes_none : (g : List ℕ × ℕ) → g ≡ printed g (wholes_text [])
unfolding wholes_text
wholes_none g = printed_none g

wholes_append : (a b : List ℕ) → wholes_text (a ++ b) ≡ wholes_text a ++ wholes_text b
unfolding wholes_text
wholes_append [] b = refl
wholes_append (x ∷ a) b =
    ap (λ l. whole_text x ++ l) (wholes_append a b) ∙ sym (append_assoc (whole_text x) (wholes_text a) (wholes_text b))

-- one whole number
wholes_one : (x : ℕ) → wholes_text (x ∷ []) ≡ whole_text x
unfolding wholes_text
wholes_one x = append-nil (whole_text x)

-- the whole numbers of a list up to i + 1
pub wholes_next : (g : List ℕ × ℕ) (list : List ℕ) (i : ℕ) → i < length list
    → printed (printed g (wholes_text (take i list))) (whole_text (get_or list i 0)) ≡ printed g (wholes_text (take (i + 1) list))
wholes_next g list i h =
    let x = get_or list i 0 in
    let e : take (i + 1) list ≡ take i list ++ (x ∷ []) = ap (λ n. take n list) (add-one i) ∙ take-suc list i 0 h in
    let k : wholes_text (take (i + 1) list) ≡ wholes_text (take i list) ++ whole_text x =
    ap wholes_text e ∙ wholes_append (take i list) (x ∷ []) ∙ ap (λ l. wholes_text (take i list) ++ l) (wholes_one x)
    in
    sym (ap (printed g) k ∙ printed_append g (wholes_text (take i list)) (whole_text x))
