use Rattle.std.proofs.Common.{◌≡◌, pos, sym, ap, ◌∙◌}
use mir.Val.{to_z, of_z}
use mir.Syntax.{w64}
use Rattle.std.proofs.lemmas.Int.{to_z-of_z}
use Rattle.serde_json.specs.Data.{number}
use Rattle.serde_json.specs.Find.{of_integer}
use Rattle.span_size.proofs.Counts.{nothing}
use Rattle.span_size.proofs.Objects.{field-of}
use Rattle.span_size.proofs.Defaults.{some-enum, integer-tokens}
use Rattle.span_size.proofs.counting.whole.Goals as goal

pub returns-then-n-eq0 : goal.returns-then-n-eq0
returns-then-n-eq0 c =
    let zero : c.args.n ≡ pos 0 = sym (to_z-of_z w64 c.args.n c.ranges.n) ∙ ap (to_z w64) c.if-n-eq0.true in
    rw zero (nothing c.args.out.now)

pub returns : goal.returns
returns c =
    let n = c.args.n in
    let read : to_z w64 (of_z w64 n) ≡ n = to_z-of_z w64 n c.ranges.n in
    let some = some-enum n (λ e. c.if-n-eq0.false (ap (of_z w64) e)) in
    field-of c.args.name.now _ (number (of_integer n)) some c.key.ensures (rw (integer-tokens n) (rw read at c.i64.ensures))
