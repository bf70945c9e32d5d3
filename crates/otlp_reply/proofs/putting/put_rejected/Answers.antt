use Rattle.std.proofs.Common.{◌+◌, codes}
use Rattle.std.specs.Prelude.{decimal}
use Rattle.otlp_reply.proofs.Lengths.{joined, partial_success-short}
use Rattle.otlp_reply.proofs.putting.put_rejected.Goals as goal

pub returns-clause-ok : goal.returns-clause-ok
returns-clause-ok c = let n = c.args in
    let all = joined c.args.text.now.items (codes "{\"partialSuccess\":{\"errorMessage\":\"invalid id: ") (decimal n.invalid) (codes ", queue full: ") (decimal n.full)
    (codes "\",\"rejectedSpans\":\"") (decimal (n.invalid + n.full)) (codes "\"}}") in
    cc (
      all,
      c.in_ok-reserve.ensures.items,
      c.put.ensures.items,
      c.put-2.ensures.items,
      c.put-3.ensures.items,
      c.put-4.ensures.items,
      c.put-5.ensures.items,
      c.put-6.ensures.items,
      c.put-7.ensures.items,
      c.as_bytes-invalid.ensures.value,
      c.as_bytes-full.ensures.value,
      c.as_bytes-sum.ensures.value,
      c.format.ensures.text,
      c.format-2.ensures.text,
      c.format-3.ensures.text,
    )

pub returns-in_err-reserve-clause-short : goal.returns-in_err-reserve-clause-short
returns-in_err-reserve-clause-short c = partial_success-short c.args.invalid c.args.full c.ranges.invalid.fits c.ranges.full.fits

pub returns-clause-short : goal.returns-clause-short
returns-clause-short c = partial_success-short c.args.invalid c.args.full c.ranges.invalid.fits c.ranges.full.fits
