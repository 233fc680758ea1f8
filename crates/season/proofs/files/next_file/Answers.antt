use Rattle.std.proofs.Common.{◌≡◌, ◌-◌, ◌&&◌, false, not, ltb, length}
use Rattle.season.proofs.NextFile as next
use Rattle.season.proofs.files.next_file.Goals as goal
use Rattle.season.proofs.files.next_file.Goals.{else-bytes-at-lt3-via-then-bytes-at-lt3+else-not-last, else-bytes-at-lt3-via-else-bytes-at-lt3}

pub returns-in_default : goal.returns-in_default
returns-in_default c =
    let a = c.args in
    let n = length a.bytes.now - a.at in
    let e : (ltb n 3 && not a.last) ≡ false = elim c.else-bytes-at-lt3.branch [
      | else-bytes-at-lt3-via-then-bytes-at-lt3+else-not-last w ↦ next.decided_last (ltb n 3) a.last w.if-not-last.false
      | else-bytes-at-lt3-via-else-bytes-at-lt3 w ↦ next.decided_three n a.last w.if-bytes-at-lt3.false
    ] in
    next.bad_count a.bytes.now a.at a.last c.requires e c.in_default.ensures

pub returns-then-value-gt60000 : goal.returns-then-value-gt60000
returns-then-value-gt60000 c =
    let a = c.args in
    let n = length a.bytes.now - a.at in
    let e : (ltb n 3 && not a.last) ≡ false = elim c.else-bytes-at-lt3.branch [
      | else-bytes-at-lt3-via-then-bytes-at-lt3+else-not-last w ↦ next.decided_last (ltb n 3) a.last w.if-not-last.false
      | else-bytes-at-lt3-via-else-bytes-at-lt3 w ↦ next.decided_three n a.last w.if-bytes-at-lt3.false
    ] in
    next.too_long a.bytes.now a.at a.last c.requires e _ _ c.in-Some.ensures c.if-value-gt60000.true

pub overflow_sub-bytes-2 : goal.overflow_sub-bytes-2
overflow_sub-bytes-2 c =
    let a = c.args in
    let n = length a.bytes.now - a.at in
    let e : (ltb n 3 && not a.last) ≡ false = elim c.else-bytes-at-lt3.branch [
      | else-bytes-at-lt3-via-then-bytes-at-lt3+else-not-last w ↦ next.decided_last (ltb n 3) a.last w.if-not-last.false
      | else-bytes-at-lt3-via-else-bytes-at-lt3 w ↦ next.decided_three n a.last w.if-bytes-at-lt3.false
    ] in
    next.within a.bytes.now a.at a.last c.requires e _ _ c.in-Some.ensures

pub returns-then-last : goal.returns-then-last
returns-then-last c =
    let a = c.args in
    let n = length a.bytes.now - a.at in
    let e : (ltb n 3 && not a.last) ≡ false = elim c.else-bytes-at-lt3.branch [
      | else-bytes-at-lt3-via-then-bytes-at-lt3+else-not-last w ↦ next.decided_last (ltb n 3) a.last w.if-not-last.false
      | else-bytes-at-lt3-via-else-bytes-at-lt3 w ↦ next.decided_three n a.last w.if-bytes-at-lt3.false
    ] in
    next.short a.bytes.now a.at a.last c.requires e _ _ c.in-Some.ensures c.if-bytes-next.true c.if-last.true

pub returns-then-bytes-next : goal.returns-then-bytes-next
returns-then-bytes-next c =
    let a = c.args in
    let n = length a.bytes.now - a.at in
    let e : (ltb n 3 && not a.last) ≡ false = elim c.else-bytes-at-lt3.branch [
      | else-bytes-at-lt3-via-then-bytes-at-lt3+else-not-last w ↦ next.decided_last (ltb n 3) a.last w.if-not-last.false
      | else-bytes-at-lt3-via-else-bytes-at-lt3 w ↦ next.decided_three n a.last w.if-bytes-at-lt3.false
    ] in
    next.unfinished a.bytes.now a.at a.last c.requires e _ _ c.in-Some.ensures c.if-value-gt60000.false c.if-bytes-next.true c.if-last.false

pub returns : goal.returns
returns c =
    let a = c.args in
    let n = length a.bytes.now - a.at in
    let e : (ltb n 3 && not a.last) ≡ false = elim c.else-bytes-at-lt3.branch [
      | else-bytes-at-lt3-via-then-bytes-at-lt3+else-not-last w ↦ next.decided_last (ltb n 3) a.last w.if-not-last.false
      | else-bytes-at-lt3-via-else-bytes-at-lt3 w ↦ next.decided_three n a.last w.if-bytes-at-lt3.false
    ] in
    next.whole a.bytes.now a.at a.last c.requires e _ _ c.in-Some.ensures c.if-value-gt60000.false c.if-bytes-next.false
