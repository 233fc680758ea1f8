-- `normal::add` meets its contract. It writes the band, then the right sides.
use mathlib.Core.Path.{◌≡◌, ap, ◌∙◌}
use mathlib.Core.List.{List}
use Prim.Native.Nat.{ℕ, ◌+◌, ◌*◌}
use native.Mathlib.Omega.{arith}
use lib.ListN.{length}
use lib.Ieee.{Float}
use borrow.Author.Rules.{rules}
use Rattle.window.specs.Window.{splice}
use Rattle.window.proofs.Windows.{length_splice}
use Rattle.normal.specs.System.{System, size_of, system_of, with_right}
use Rattle.normal.specs.Add.{add_right_of, add_of}
use Rattle.normal.proofs.Region.{lend_band, lend_right}
use Rattle.normal.proofs.add.Statement.{statement}
use Rattle.normal.proofs.add.Tie as tie

-- the band is written, then the right sides, which the band's writing left as they were
both : (n d : ℕ) (l v u : List Float) (f : List Float → List Float) → length l ≡ size_of n d → length v ≡ 6 * n → length u ≡ n * d → u
    ≡ f (system_of n d (splice 0 (6 * n) v l)).right → system_of n d (splice (6 * n) (6 * n + n * d) u (splice 0 (6 * n) v l))
    ≡ record { band = v; right = f (system_of n d l).right; scales = (system_of n d l).scales }
both n d l v u f h p q e =
    let b = lend_band n d l v h p in
    let g : length (splice 0 (6 * n) v l) ≡ size_of n d = length_splice 0 (6 * n) v l (omega arith) (omega arith) (omega arith) ∙ h in
    lend_right n d (splice 0 (6 * n) v l) u g q
    ∙ ap (with_right (system_of n d (splice 0 (6 * n) v l))) e
    ∙ ap (λ (s : System). with_right s (f s.right)) b

returns : tie.Need-returns
unfolding add_of
returns c =
    let a = c.args in
    let v = c.add_band in
    let u = c.add_right in
    both a.n a.d a.sys.now v.new.h u.new.r (add_right_of a.a a.n a.d a.row) (omega arith) (omega arith)
    (omega arith) u.ensures ∙ rw v.ensures

pub add_spec : {M : Type 1} → statement M
add_spec =
    tie.close
    (tie.spec
    (λ c. search rules)
    (λ c. search rules)
    (λ c. search rules)
    (λ c. search rules)
    (λ c. search rules)
    (λ c. search rules)
    (λ c κs. search rules)
    (λ c. search rules)
    (λ c. search rules)
    (λ c. search rules)
    (λ c. search rules)
    (λ c κs. search rules)
    (λ c. search rules)
    returns)
