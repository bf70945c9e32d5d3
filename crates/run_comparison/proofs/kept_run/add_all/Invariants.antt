use Rattle.std.proofs.Common.{◌≡◌, drop}
use Rattle.run_comparison.specs.Services.{with_spans}
use Rattle.run_comparison.proofs.kept_run.add_all.Given as goal

-- with those that are left, all are counted
abbrev pub invariant-loop-span : goal.invariant-loop-span
invariant-loop-span l = with_spans l.services (drop l.span-index l.spans) ≡ with_spans l.fn.services l.spans
