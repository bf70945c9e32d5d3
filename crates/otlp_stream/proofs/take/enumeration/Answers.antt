use Rattle.std.proofs.Common.{◌≡◌, ◌<◌, ◌^◌, refl, arith, w32, pos, subst, rules}
use mir.Val.{to_z}
use Rattle.otlp_reading.specs.Kinds.{enum}
use Rattle.otlp_stream.specs.Taking.{TakesAs, present}
use Rattle.otlp_stream.proofs.Takes.{enum_number, null_default}
use Rattle.otlp_stream.proofs.take.enumeration.Goals as goal

pub returns-then-n-le2147483647 : goal.returns-then-n-le2147483647
returns-then-n-le2147483647 c depth =
    let fits : c.in-Some.n < 2 ^ 31 = omega arith in
    let z : pos c.in-Some.n ≡ to_z w32 c.in-Some.n = search rules in
    subst (TakesAs (present enum) depth c.args.reader.now c.next.new.self) z
    (enum_number depth _ _ _ _ (rw c.in-Some-Number.field-0-is at c.in-Some-Number.ensures.value) c.in-Some.ensures fits)

pub returns-in-Some-Null : goal.returns-in-Some-Null
returns-in-Some-Null c depth = null_default enum _ refl depth _ _ (rw c.in-Some-Null.field-0-is at c.in-Some-Null.ensures.value)
