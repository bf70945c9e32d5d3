use Rattle.std.proofs.Common.{ap, sym}
use Rattle.json.specs.Tree.{json_tokens}
use Rattle.decision_line.specs.declared.held.TraceHeld.{TraceHeld}
use Rattle.decision_json.specs.Value.{known_value}
use Rattle.decision_json.proofs.Appended.{puts-as}
use Rattle.decision_json.proofs.held.put_known.Goals as goal

pub returns-in-Decided-clause-tokens : goal.returns-in-Decided-clause-tokens
returns-in-Decided-clause-tokens c =
    puts-as c.put_verdict.result c.args.writer.now c.put_verdict.new.writer _ _ (ap (λ (h : TraceHeld). json_tokens (known_value h)) (sym c.in-Decided.is)) c.put_verdict.ensures

pub returns-in-Remembered-clause-tokens : goal.returns-in-Remembered-clause-tokens
returns-in-Remembered-clause-tokens c =
    puts-as c.put_verdict-in-Remembered.result c.args.writer.now c.put_verdict-in-Remembered.new.writer _ _ (ap (λ (h : TraceHeld). json_tokens (known_value h)) (sym c.in-Remembered.is))
    c.put_verdict-in-Remembered.ensures
