use Rattle.std.proofs.Common.{◌≡◌, ◌<◌, ◌≤◌, ◌++◌, ◌∙◌, ℕ, List, ap, arith, get_or, length, map, rules, string_bytes, sym, Global, String}
use Rattle.std.proofs.lemmas.List.{get_or-map, length-map}
use Rattle.json.specs.Tree.{json_tokens}
use Rattle.decision_line.specs.declared.decision.Said.{Said}
use Rattle.decision_line.specs.declared.decision.Said.TheVariants.{NotAsked}
use Rattle.decision_json.specs.Value.{answer_value}
use Rattle.decision_json.proofs.Answers.{answers-end, answers-next}
use Rattle.decision_json.proofs.putting.put_answers.Goals as goal

-- the name of the policy at a place
is-named : (names : List (String Global)) (place : ℕ) (one : String Global) (name : List ℕ) → name ≡ string_bytes one → place < length names → one ≡ get_or names place one
    → name ≡ get_or (map string_bytes names) place name
is-named names place one name is-text some is =
    is-text ∙ ap string_bytes is ∙ sym (get_or-map string_bytes names place one name some)

pub loop-place-preserved : goal.loop-place-preserved
loop-place-preserved c =
    let names : List (List ℕ) = map string_bytes c.args.names.now in
    let place = c.loop-place.place in
    let text = c.loop-place.writer.tokens in
    let name = c.as_str.result.now in
    let some : place < length names = omega (arith, c.loop-place-test.true, length-map c.args.names.now string_bytes) in
    let is : name ≡ get_or names place name = is-named c.args.names.now place c.index-names-place.result name c.as_str.ensures.value c.loop-place-test.true c.index-names-place.is in
    let told : c.unwrap_or-said.result ≡ get_or c.args.said.now place NotAsked = search rules in (
      answers-next names c.args.said.now place name text c.put_answer.new.writer.tokens _ some is c.loop-place.invariant.0
          (c.in_ok-put_answer.ensures.all.0 ∙ ap (λ (s : Said). text ++ json_tokens (answer_value name s)) told),
      c.in_ok-put_answer.ensures.all.1 ∙ c.loop-place.invariant.1,
    )

pub returns : goal.returns
returns c =
    let names : List (List ℕ) = map string_bytes c.args.names.now in
    let past : length names ≤ c.loop-place.place = omega (arith, c.loop-place-test.false, length-map c.args.names.now string_bytes) in
    answers-end c.end_array.result names c.args.said.now c.loop-place.place c.args.writer.now c.loop-place.writer c.end_array.new.self past c.loop-place.invariant.0 c.loop-place.invariant.1 c.end_array.ensures
