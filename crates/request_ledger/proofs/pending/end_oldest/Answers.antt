-- Those that are passed over stay as they are, and so does the rest where none is left to end.
use Rattle.std.proofs.Common.{◌≡◌, ℕ, ◌++◌, take, drop, ap, sym, ◌∙◌, take-append-drop}
use Rattle.request_ledger.specs.Pending.{with_oldest}
use Rattle.request_ledger.proofs.Ends.{with_none, passed_oldest}
use Rattle.request_ledger.proofs.pending.end_oldest.Goals as goal

pub loop-i-init : goal.loop-i-init
loop-i-init c = record { whole = passed_oldest c.args.end.now c.args.n c.args.first c.args.spans.now c.args.ended.now c.requires.front.1; front = c.requires.front }

pub returns-then-left-eq0-clause-ended : goal.returns-then-left-eq0-clause-ended
returns-then-left-eq0-clause-ended c =
    let end = c.args.end.now in
    let spans = c.args.spans.now in
    let ended = c.loop-i.ended in
    let i = c.loop-i.i in
    let none : c.loop-i.left ≡ 0 = c.if-left-eq0.true in
    sym (take-append-drop i ended)
    ∙ ap (λ l. take i ended ++ l) (sym (with_none end (drop i spans) (drop i ended)))
    ∙ ap (λ (n : ℕ). take i ended ++ with_oldest end n (drop i spans) (drop i ended)) (sym none)
    ∙ c.loop-i.invariant.whole
