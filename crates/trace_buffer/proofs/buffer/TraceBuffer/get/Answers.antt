use Rattle.std.proofs.Common.{sym, ap, ◌∙◌, option_copied, find}
use Rattle.trace_buffer.specs.Buffer.{Buffer}
use Rattle.trace_buffer.proofs.Places.{is_of, no-place, at-place, place-at-view}
use Rattle.trace_buffer.proofs.buffer.TraceBuffer.get.Goals as goal

pub returns-in_err-at : goal.returns-in_err-at
returns-in_err-at c = ap option_copied c.from_residual.ensures ∙ sym (no-place (is_of c.args.id) c.args.self.now.episodes (sym c.place_of.ensures ∙ c.in_err-at.was))

pub returns : goal.returns
returns c =
    let p = is_of c.args.id in
    let es = c.self.inside.ring.items in
    let place = place-at-view p (record { episodes = es; num_traces = c.self.inside.num_traces }) c.args.self.now c.in_ok-at.at c.self.view_is (sym c.place_of.ensures ∙ c.in_ok-at.was) in
    c.get.ensures ∙ at-place p es c.in_ok-at.at place ∙ ap (λ (b : Buffer). find p b.episodes) c.self.view_is
