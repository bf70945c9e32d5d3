-- A list of answers, and an answer for each node.
-- For `answers_are_by_the_node`.
use Rattle.std.proofs.Common.{ap, ◌∙◌, map}
use Rattle.policy_eval.specs.GivenLaws.{given-by, given-to, decides-as}
use Rattle.policy_eval.proofs.laws.answers_are_by_the_node.Goals as goal

pub returns-clause-given : goal.returns-clause-given
returns-clause-given c = given-by

pub returns-clause-back : goal.returns-clause-back
returns-clause-back c = λ policies answers spans h.
    let k = given-to policies answers spans h in
    let d = decides-as policies k.0 answers spans k.1 in
    (k.0, k.1 ∙ ap (map k.0) d.1, d.0)
