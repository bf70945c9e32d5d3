use Rattle.std.proofs.Common.{◌≡◌, ◌∙◌, ◌∷◌, ap, length, map, string_bytes, subst, sym, refl}
use Rattle.std.proofs.lemmas.Option.{slice_get-map, slice_get_past, slice_get_read}
use Rattle.std.specs.Prelude.{codes, option_map, option_and_then, slice_get, Some, None}
use Rattle.json.specs.Token.{key}
use Rattle.json.specs.Tree.{json_tokens}
use Rattle.decision_line.specs.Line.{name_or_null}
use Rattle.decision_json.proofs.Appended.{puts-one, puts-then}
use Rattle.decision_json.specs.Putting.{PutsAll}
use Rattle.decision_json.proofs.putting.put_decider.Goals as goal
use Rattle.decision_json.proofs.putting.put_decider.Goals.{in_default-via-in-Some+else-place-names, in_default-via-in_default}

pub returns-in-Some : goal.returns-in-Some
returns-in-Some c =
    let names = c.args.names.now in
    let place = c.in-Some.place in
    let found = slice_get_read names (length names) place c.index-names-place.result refl c.if-place-names.true c.index-names-place.is in
    let at = slice_get-map string_bytes names place ∙ ap (option_map string_bytes) found ∙ ap Some (sym c.as_str.ensures.value) in
    let is = ap (option_and_then (λ place. slice_get (map string_bytes names) place)) c.in-Some.is ∙ at in
    subst (λ o. PutsAll c.string.result c.args.writer.now c.string.new.self (key (codes "policy") ∷ json_tokens (name_or_null o))) (sym is)
    (puts-then c.string.result c.args.writer.now c.key.new.self c.string.new.self _ _ c.in_ok-key.ensures.ok c.in_ok-key.ensures.room.0
    (puts-one c.string.result c.key.new.self c.string.new.self _ c.string.ensures))

pub returns-in_default : goal.returns-in_default
returns-in_default c =
    let names = c.args.names.now in
    let is : option_and_then (λ place. slice_get (map string_bytes names) place) c.args.decider ≡ None = (elim c.in_default.branch [
      | in_default-via-in-Some+else-place-names w ↦
          ap (option_and_then (λ place. slice_get (map string_bytes names) place)) w.in-Some.is
          ∙ slice_get-map string_bytes names w.in-Some.place ∙ ap (option_map string_bytes) (slice_get_past names w.in-Some.place w.if-place-names.false)
      | in_default-via-in_default w ↦ ap (option_and_then (λ place. slice_get (map string_bytes names) place)) w.in_default.is
    ]) in
    subst (λ o. PutsAll c.null.result c.args.writer.now c.null.new.self (key (codes "policy") ∷ json_tokens (name_or_null o))) (sym is)
    (puts-then c.null.result c.args.writer.now c.key.new.self c.null.new.self _ _ c.in_ok-key.ensures.ok c.in_ok-key.ensures.room.0
    (puts-one c.null.result c.key.new.self c.null.new.self _ c.null.ensures))
