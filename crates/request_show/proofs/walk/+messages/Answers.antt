use Rattle.std.proofs.Common.{◌≡◌, ◌<◌, true, false, length, ◌∙◌, arith}
use Rattle.std.specs.Option.{is_some}
use Rattle.std.proofs.lemmas.Grind.{common_steps}
use Rattle.protobuf_wire.specs.Seen.{seen_field}
use Rattle.request_show.proofs.Walking.{met_here, met_behind}
use Rattle.request_show.proofs.walk.+messages.Goals as goal

pub first_fault-returns-then-is_some : goal.first_fault-returns-then-is_some
first_fault-returns-then-is_some t c =
    let left = c.loop-turns.left.now in
    let turned : 0 < c.loop-turns.turns = grind (arith, common_steps) in
    let some : 0 < length left = grind (arith, common_steps) in
    let is : is_some c.in_field-found.result ≡ true = grind (arith, common_steps) in
    met_here c.loop-turns.turns c.args.kind c.args.levels c.loop-turns.at left (seen_field c.in-Ok.front.0) c.in-Ok.front.1.now c.in_field-found.result turned some c.in-Ok.ensures.field c.in_field-found.ensures is
    ∙ c.loop-turns.invariant.0

pub first_fault-loop-turns-preserved : goal.first_fault-loop-turns-preserved
first_fault-loop-turns-preserved t c =
    let left = c.loop-turns.left.now in
    let turned : 0 < c.loop-turns.turns = grind (arith, common_steps) in
    let some : 0 < length left = grind (arith, common_steps) in
    let is : is_some c.in_field-found.result ≡ false = grind (arith, common_steps) in (
      met_behind c.loop-turns.turns c.args.kind c.args.levels c.loop-turns.at left (seen_field c.in-Ok.front.0) c.in-Ok.front.1.now c.in_field-found.result turned some c.in-Ok.ensures.field c.in_field-found.ensures is
          ∙ c.loop-turns.invariant.0,
      omega (arith, c.loop-turns.invariant.1, c.in-Ok.ensures.less),
      omega (arith, c.loop-turns.invariant.2),
    )
