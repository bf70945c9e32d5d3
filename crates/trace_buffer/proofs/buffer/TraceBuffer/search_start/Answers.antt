use Rattle.std.proofs.Common.{subst}
use Rattle.trace_buffer.specs.Buffer.{Buffer}
use Rattle.trace_buffer.proofs.Walking.{NoneDue, none-before}
use Rattle.trace_buffer.proofs.buffer.TraceBuffer.search_start.Goals as goal

pub returns-else-self-clause-none : goal.returns-else-self-clause-none
returns-else-self-clause-none c =
    let none = none-before c.args.mark c.args.wait c.args.root_wait c.self.inside.ring.items c.self.inside.cursor c.self.invariant.2.decided in
    subst (λ (b : Buffer). NoneDue c.args.mark c.args.wait c.args.root_wait b.episodes c.self.inside.cursor) c.self.view_is none
