use Rattle.std.proofs.Common.{◌≡◌, ◌∷◌, List, ℕ, [], ap, rules}
use Rattle.std.specs.Prelude.{codes}
use Rattle.json.specs.Token.{begin_object, key, string}
use Rattle.span_ids.specs.Id.{id_text}
use Rattle.decision_json.proofs.Appended.{puts-as, puts-then}
use Rattle.decision_json.proofs.putting.begin_trace.Goals as goal

pub returns : goal.returns
returns c =
    let is : c.as_str.result.now ≡ id_text c.args.id.now = search rules in
    puts-as c.put_text.result c.args.writer.now c.put_text.new.writer _ _ (ap (λ (t : List ℕ). begin_object ∷ key (codes "trace_id") ∷ string t ∷ []) is)
    (puts-then c.put_text.result c.args.writer.now c.begin_object.new.self c.put_text.new.writer _ _ c.in_ok-begin_object.ensures.ok c.in_ok-begin_object.ensures.room.0 c.put_text.ensures)
