-- There is room for what each policy said.
-- For the call of `push` in `told_answers`.
use Rattle.std.proofs.Common.{◌≡◌, ◌∙◌, take, length, ap, arith}
use Rattle.std.proofs.lemmas.List.{length-map, length-take-le}
use Rattle.shard_core.specs.Telling.{said_by}
use Rattle.shard_core.proofs.telling.told_answers.Goals as goal

pub push-requires : goal.push-requires
push-requires c =
    let items = c.as_slice-answer-items.result.now in
    let place = c.loop-answer.answer-index in
    let said : length c.loop-answer.said.items ≡ place =
    ap (λ xs. length xs) c.loop-answer.invariant ∙ length-map (take place items) said_by ∙ length-take-le place items c.loop-answer.auto.answer-index-end in
    (omega arith, omega (arith, said, c.loop-answer-test.true, c.as_slice-answer-items.ensures.fits))
