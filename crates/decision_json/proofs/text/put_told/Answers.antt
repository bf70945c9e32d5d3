use Rattle.std.proofs.Common.{map, string_bytes}
use Rattle.std.specs.Prelude.{codes, option_copied}
use Rattle.decision_json.specs.Value.{found_members, held_value}
use Rattle.decision_json.proofs.Appended.{ended-by, puts-as, puts-one, puts-then}
use Rattle.decision_json.proofs.text.put_told.Goals as goal

pub returns-clause-tokens : goal.returns-clause-tokens
returns-clause-tokens c =
    let last = c.end_object.result in
    let new = c.end_object.new.self in
    puts-as last c.args.writer.now new _ _ (ended-by (found_members (map string_bytes c.args.names.now) c.args.id.now (option_copied c.args.found)) (codes "held") (held_value c.args.held))
    (puts-then last c.args.writer.now c.begin_found.new.writer new _ _ c.in_ok-begin_found.ensures.tokens.all.0 c.in_ok-begin_found.ensures.tokens.all.1
    (puts-then last c.begin_found.new.writer c.key.new.self new _ _ c.in_ok-key.ensures.ok c.in_ok-key.ensures.room.0
    (puts-then last c.key.new.self c.put_held.new.writer new _ _ c.in_ok-put_held.ensures.tokens.all.0 c.in_ok-put_held.ensures.tokens.all.1
    (puts-one last c.put_held.new.writer new _ c.end_object.ensures))))
