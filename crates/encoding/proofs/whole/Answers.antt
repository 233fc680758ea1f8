use Rattle.std.proofs.Common.{◌≡◌, ◌-◌, ◌+◌, ◌<◌, length, get_or, arith}
use lib.Pow.{pow_pos}
use lib.Seq.{drop-length}
use Rattle.encoding.specs.Bytes.{low_first}
use Rattle.encoding.proofs.Laws.{low_first_more, byte_more, seven_bytes}
use Rattle.encoding.proofs.whole.Goals as goal

pub loop-i-init : goal.loop-i-init
unfolding low_first
loop-i-init c = (rw (drop-length c.args.bytes.now), pow_pos _)

pub overflow_mul-value : goal.overflow_mul-value
overflow_mul-value c =
    let l = c.loop-i in
    omega (arith, seven_bytes l.value (length c.args.bytes.now - l.i) l.invariant.1 (omega arith))

pub overflow_add-value : goal.overflow_add-value
overflow_add-value c =
    let l = c.loop-i in
    omega (
      arith,
      c.type_inv.bytes (l.i - 1),
      seven_bytes l.value (length c.args.bytes.now - l.i) l.invariant.1 (omega arith),
    )

pub loop-i-preserved : goal.loop-i-preserved
loop-i-preserved c =
    let l = c.loop-i in
    let bytes = c.args.bytes.now in
    let e : l.i - 1 + 1 ≡ l.i = omega arith in
    let k : length bytes - (l.i - 1) ≡ length bytes - l.i + 1 = omega arith in
    let b : get_or bytes (l.i - 1) 0 < 256 = omega (arith, c.type_inv.bytes (l.i - 1)) in (
      rw (low_first_more bytes (l.i - 1) (omega arith), e, ← l.invariant.0),
      rw k (byte_more l.value (get_or bytes (l.i - 1) 0) (length bytes - l.i) l.invariant.1 b),
    )
