use Rattle.std.specs.Io.KnownBytes.{Consumes}
use Rattle.post_http.proofs.posting.answer_on.Given as goal

-- all that was read stands there
abbrev pub invariant-loop : goal.invariant-loop
invariant-loop g l = Consumes (g.R.Read.remaining l.fn.reader) (g.R.Read.remaining l.reader) l.came.items
