use Rattle.std.proofs.Common.{◌≡◌}
use Rattle.std.specs.Io.KnownBytes.{Keeps}
use Rattle.output_file.proofs.retrying.RetryingWriterWrite.write.Given as goal

-- nothing was taken so far
abbrev pub invariant-loop : goal.invariant-loop
invariant-loop g l = Keeps l.fn.self.taken l.self.taken × (l.self.retries ≡ l.fn.self.retries)
