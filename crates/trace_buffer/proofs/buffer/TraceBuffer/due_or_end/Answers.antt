use Rattle.std.proofs.Common.{◌≡◌, ℕ, length, sym, ap, subst, ◌∙◌}
use Rattle.trace_buffer.specs.Buffer.{Buffer, is_due_at}
use Rattle.trace_buffer.proofs.Searching.{none-before-place, none-at-all}
use Rattle.trace_buffer.proofs.Walking.{NoneDue}
use Rattle.trace_buffer.proofs.buffer.TraceBuffer.due_or_end.Goals as goal

pub returns-in-Some-clause-none : goal.returns-in-Some-clause-none
returns-in-Some-clause-none c = none-before-place (is_due_at c.args.mark c.args.wait c.args.root_wait) c.args.self.now.episodes c.in-Some.place (sym c.due_place.ensures ∙ c.in-Some.is)

pub returns-in-None-clause-none : goal.returns-in-None-clause-none
returns-in-None-clause-none c =
    let long : length c.args.self.now.episodes ≡ c.len.result = ap (λ (b : Buffer). length b.episodes) (sym c.self.view_is) ∙ sym c.len.ensures.len in
    let none = none-at-all (is_due_at c.args.mark c.args.wait c.args.root_wait) c.args.self.now.episodes (sym c.due_place.ensures ∙ c.in-None.is) in
    subst (λ (n : ℕ). NoneDue c.args.mark c.args.wait c.args.root_wait c.args.self.now.episodes n) long none
