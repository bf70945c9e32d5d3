use Rattle.std.proofs.Common.{◌≡◌, drop}
use Rattle.run_comparison.specs.Services.{KeepsFront, with_places}
use Rattle.run_comparison.proofs.kept_run.place_all.Given as goal

-- with places for those that are left, all have one
abbrev pub invariant-loop-span : goal.invariant-loop-span
invariant-loop-span l = (with_places l.services (drop l.span-index l.spans) ≡ with_places l.fn.services l.spans) × KeepsFront l.fn.services l.services
