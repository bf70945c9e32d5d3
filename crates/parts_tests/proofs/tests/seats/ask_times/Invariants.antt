use Rattle.std.specs.Prelude.{◌≡◌, ◌≤◌, map}
use Rattle.shared_budget.specs.Budget.{cell_of}
use Rattle.parts_tests.proofs.tests.seats.ask_times.Given as goal

abbrev pub invariant-loop : goal.invariant-loop
invariant-loop g l = (l.granted ≤ l.counter) × (map cell_of l.seat ≡ map cell_of l.fn.seat)
