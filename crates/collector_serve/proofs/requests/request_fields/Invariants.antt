use Rattle.std.proofs.Common.{◌≡◌, ◌++◌, map, drop}
use Rattle.http1.specs.Head.{pairs}
use Rattle.collector_serve.specs.Requests.{parts_of, request_fields}
use Rattle.collector_serve.proofs.requests.request_fields.Given as goal

-- the fields so far, and those of the headers that are left
abbrev pub invariant-loop-header : goal.invariant-loop-header
invariant-loop-header l = pairs l.fields.items ++ map parts_of (drop l.header-index l.headers) ≡ request_fields l.authority l.fn.encoding l.headers
