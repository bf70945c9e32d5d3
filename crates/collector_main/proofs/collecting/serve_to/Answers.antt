use Rattle.std.proofs.Common.{List, ℕ, Option, refl, sym, ap, subst}
use Rattle.collector_main.specs.Serving.{RunsTo}
use Rattle.collector_main.proofs.collecting.serve_to.Goals as goal

pub returns-in-Some-clause-filed : goal.returns-in-Some-clause-filed
returns-in-Some-clause-filed g c = λ filed. (refl, (c.new-file.result.taken, c.serve_with-file.result.0.taken, c.serve_with-file.ensures))

pub returns-in-None-clause-printed : goal.returns-in-None-clause-printed
returns-in-None-clause-printed g c = λ here.
    let contents = g.W.Write.contents in
    let outcome = c.serve_with-writer.result.1 in
    let after = c.serve_with-writer.result.0.taken in
    subst (λ (taken : Option (List ℕ)). RunsTo c.args.config (contents c.args.writer) taken outcome) (sym c.end.ensures)
    (subst (λ (taken : Option (List ℕ)). RunsTo c.args.config taken after outcome) (ap (λ s. s.taken) c.new-writer.ensures) c.serve_with-writer.ensures)
