use Rattle.std.proofs.Common.{◌≡◌}
use Rattle.std.specs.Io.KnownBytes.{Consumes}
use Rattle.http_text.specs.Lines.{Waits, cut, head_len}
use Rattle.admin_http.proofs.serving.hear.Given as goal

-- all that was read stands there, and no head of it is whole
abbrev pub invariant-loop : goal.invariant-loop
invariant-loop g l = record {
  read : Consumes (g.R.Read.remaining l.fn.reader) (g.R.Read.remaining l.reader) l.read.items;
  waits : cut head_len l.read.items ≡ Waits;
}
