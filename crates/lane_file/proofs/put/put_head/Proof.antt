-- `put::put_head` meets its contract: the numbers, one after the other.
use mathlib.Core.Path.{◌≡◌, subst}
use mathlib.Core.List.{List}
use Prim.Native.Nat.{ℕ}
use native.Mathlib.Omega.{arith}
use borrow.Author.Rules.{rules}
use lib.ListN.{length}
use Rattle.forms.specs.Groups.{groups_of}
use Rattle.forms.proofs.Putting.{Put}
use Rattle.lane_file.proofs.Parts.{head_put}
use Rattle.lane_file.proofs.put.put_head.Statement.{statement}
use Rattle.lane_file.proofs.put.put_head.Tie as tie

-- the mode's number
moded : {m n a b : ℕ} {v w : List ℕ} → m ≡ n → Put a (groups_of 3 m) v w b → Put a (groups_of 3 n) v w b
moded {m} {n} {a} {b} {v} {w} e p = subst (λ (n : ℕ). Put a (groups_of 3 n) v w b) e p

put-axes-requires : tie.Need-put_axes-fourth-requires
put-axes-requires c κs =
    let n : length c.args.curve.axes ≡ 16 = search rules in (
      omega (arith, n, c.requires.2),
      omega (arith, c.requires.0, c.requires.2, c.put_number-third.ensures.2, c.put_number-second.ensures.2),
      c.requires.5,
    )

returns : tie.Need-returns
returns c =
    let a = c.args.curve in
    let mode = c.mode_number.ensures.0 in
    let p : Put 0 _ _ _ _ = head_put a (omega (
      arith,
      c.requires.0,
      c.requires.2,
      c.put_number-sixth.ensures.2,
      c.put_number-fifth.ensures.2,
      c.put_axes-fourth.ensures.2,
      c.put_number-third.ensures.2,
      c.put_number-second.ensures.2,
    ))
    (record { now = c.put_number-second.ensures.0; next = c.put_number-second.ensures.1 })
    (record { now = c.put_number-third.ensures.0; next = c.put_number-third.ensures.1 })
    (record { now = c.put_axes-fourth.ensures.0; next = c.put_axes-fourth.ensures.1 })
    (moded mode (record { now = c.put_number-fifth.ensures.0; next = c.put_number-fifth.ensures.1 }))
    (record { now = c.put_number-sixth.ensures.0; next = c.put_number-sixth.ensures.1 })
    (record { now = c.put_number.ensures.0; next = c.put_number.ensures.1 }) in
    (p.now, omega (arith, p.next))

pub put_head_spec : {M : Type 1} → statement M
put_head_spec =
    tie.close
    (tie.spec
    (λ c κs. search rules)
    (λ c κs. search rules)
    (λ c. search rules)
    put-axes-requires
    (λ c κs. search rules)
    (λ c κs. search rules)
    (λ c κs. search rules)
    (λ c κs. search rules)
    (λ c. search rules)
    returns)
