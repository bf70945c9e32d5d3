-- The seats' nodes, place by place: what the bodies of `SharedBudget::new` and `reunite` do to them.
use Rattle.std.specs.Prelude.{List, [], ◌∷◌, ◌++◌}
use Rattle.shared_budget.specs.declared.known.Asked.{Asked}
use Rattle.shared_budget.specs.Rule.{with_parts, OneHistory}
use Rattle.shared_budget.specs.Seats.{Stand}

-- each of the first seats is at one node more
abbrev pub with_column : List (List Stand) → List Stand → List (List Stand)
with_column [] column = []
with_column (seat ∷ all) [] = seat ∷ all
with_column (seat ∷ all) (s ∷ column) = (seat ++ s ∷ []) ∷ with_column all column

-- each of the first nodes has taken in what another seat knows there
abbrev pub united : List Stand → List Stand → List Stand
united [] others = []
united (n ∷ nodes) [] = n ∷ nodes
united (n ∷ nodes) (o ∷ others) = (n.0, with_parts n.1 o.1) ∷ united nodes others

-- one history has all that was taken in there
abbrev pub IsCompared : Stand → Type 0
IsCompared n = (log : List Asked) × OneHistory n.1 log
