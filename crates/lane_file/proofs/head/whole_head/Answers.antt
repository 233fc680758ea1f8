-- What follows the head has as many bytes as its numbers, or the file does not read.
use Rattle.std.proofs.Common.{arith}
use Rattle.lane_file.specs.Reading.{head_in}
use Rattle.lane_file.proofs.Heads.{head_small}
use Rattle.lane_file.proofs.Whole.{file_unread, bytes_of, whole_bad, whole_read}
use Rattle.lane_file.proofs.head.whole_head.Goals as goal

pub returns-in_err-head : goal.returns-in_err-head
returns-in_err-head c = rw c.from_residual.ensures (file_unread c.args.file.now c.in_err-head.ensures)

pub word_count-count-requires : goal.word_count-count-requires
word_count-count-requires c =
    let l = c.args.file.now in
    let H = c.in_ok-head.ensures in
    let z = head_small (head_in c.in_ok-head.head H.axes) l _ (bytes_of l (λ i. omega (arith, c.type_inv.file i))) H.read in
    (z.d_small, z.k_high, z.segments_small, z.others_small)

pub overflow_sub-file : goal.overflow_sub-file
overflow_sub-file c = c.in_ok-head.ensures.ended

pub returns-then-file-head : goal.returns-then-file-head
returns-then-file-head c =
    whole_bad c.args.file.now c.in_ok-head.head c.in_ok-head.ensures (λ e. omega (arith, e, c.if-file-head.true, c.word_count-count.ensures.0))

pub returns : goal.returns
returns c =
    let l = c.args.file.now in
    whole_read l c.in_ok-head.head c.in_ok-head.ensures (bytes_of l (λ i. omega (arith, c.type_inv.file i)))
    (omega (arith, c.if-file-head.false, c.word_count-count.ensures.0))
