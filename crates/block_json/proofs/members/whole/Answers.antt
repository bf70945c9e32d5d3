use Rattle.std.proofs.Common.{◌≡◌, pos, sym, ap, ◌∙◌}
use mir.Val.{to_z, of_z}
use mir.Syntax.{w64}
use Rattle.std.proofs.lemmas.Int.{to_z-of_z}
use Rattle.serde_json.specs.Data.{number}
use Rattle.serde_json.specs.Find.{of_integer}
use Rattle.otlp_json.specs.Writing.{enum_field}
use Rattle.span_size.proofs.Defaults.{some-enum, integer-tokens}
use Rattle.block_json.proofs.Adding.{absent, member}
use Rattle.block_json.proofs.members.whole.Goals as goal

pub returns-then-n-eq0 : goal.returns-then-n-eq0
returns-then-n-eq0 g c =
    let zero : c.args.n ≡ pos 0 = sym (to_z-of_z w64 c.args.n c.ranges.n) ∙ ap (to_z w64) c.if-n-eq0.true in
    absent g.met.S.TokenSink.composes c.args.name.now (enum_field c.args.n) c.args.out.now (ap enum_field zero)

pub returns : goal.returns
returns g c =
    let n = c.args.n in
    let read : to_z w64 (of_z w64 n) ≡ n = to_z-of_z w64 n c.ranges.n in
    let some = some-enum n (λ e. c.if-n-eq0.false (ap (of_z w64) e)) in
    member g.met.S.TokenSink.composes c.args.name.now (enum_field n) (number (of_integer n)) c.args.out.now c.key.new.self c.whole.new.self some c.key.ensures (rw (integer-tokens n) (rw read at c.whole.ensures))
