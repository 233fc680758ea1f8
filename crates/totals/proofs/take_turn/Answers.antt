use Rattle.std.proofs.Common.{◌≡◌, refl, sym, ap, subst, Bool, ltb, ◌∙◌, List, [], ◌++◌, append_assoc, append-nil, ℕ, ◌+◌, ◌≤◌, length, take, drop, arith}
use borrow.Author.Tests.{ltb-false}
use lib.ListN.{length-append, take-append-drop}
use lib.Seq.{take_at, length-take-le}
use Rattle.season.specs.declared.Turn.{Turn}
use Rattle.season.specs.declared.Turn.TheVariants.{Ended, Goes}
use Rattle.season.specs.Files.{run_of}
use Rattle.lane_totals.specs.declared.sums.Sums.{Sums}
use Rattle.season.specs.Run.{Reached, Turned, Rested}
use Rattle.season.proofs.Turns.{reached_more}
use Rattle.totals.specs.Input.{Told, Onward}
use Rattle.totals.proofs.take_turn.Goals as goal

-- the bytes that were read stand behind those that were left
behind : (b v rest : List ℕ) (filled count : ℕ) → filled ≤ length b → count ≤ length v
    → take filled b ++ take count v ≡ take (filled + count) (take filled b ++ (v ++ rest))
behind b v rest filled count h g =
    let n : length (take filled b ++ take count v) ≡ filled + count =
    length-append (take filled b) (take count v) ∙ omega (arith, length-take-le filled b h, length-take-le count v g) in
    sym (ap (λ (t : List ℕ). take (filled + count) (take filled b ++ (t ++ rest))) (sym (take-append-drop count v))
    ∙ ap (λ (t : List ℕ). take (filled + count) (take filled b ++ t)) (append_assoc (take count v) (drop count v) rest)
    ∙ ap (take (filled + count)) (sym (append_assoc (take filled b) (take count v) (drop count v ++ rest)))
    ∙ take_at (take filled b ++ take count v) (drop count v ++ rest) (filled + count) n)

-- what a turn comes to, with nothing behind what was read
told : (last : Bool) (seen buffer : List ℕ) (r : Turn) → Turned last seen buffer r → Told seen buffer r
told last seen buffer (Ended o) t = ap run_of (sym (append-nil seen)) ∙ t [] (λ _. refl)
told last seen buffer (Goes filled sums) t = t

-- of a full buffer a file was taken in
onward : (end : ℕ) (before : Sums) (r : Turn) → Rested (ltb end 65536) end before r → Onward before r
onward end before (Ended o) k = k
onward end before (Goes filled sums) k = (k.1, k.2, k.3 (omega (arith, ltb-false end 65536 k.0)))

pub returns-clause-by_index : goal.returns-clause-by_index
returns-clause-by_index c seen q =
    let a = c.args in
    let v = c.read_full-count.new.buf in
    let count = c.read_full-count.result in
    let part = take count v in
    let r : Reached (seen ++ part) (take a.filled a.buffer.now ++ part) a.before =
    reached_more seen (take a.filled a.buffer.now) part a.before q in
    record {
      part = part;
      told = told _ (seen ++ part) _ _ (c.take_part.ensures.by_index (seen ++ part)
          (subst (λ (l : List ℕ). Reached (seen ++ part) l a.before)
          (behind a.buffer.now v _ a.filled count (omega (arith, c.requires.buffer_len)) (omega (arith, c.read_full-count.ensures))) r));
    }

pub returns-clause-running : goal.returns-clause-running
returns-clause-running c = onward _ c.args.before _ c.take_part.ensures.rested
