-- What a limiter is asked for is something.
-- For the clause `some` of `amount_of`.
use Rattle.std.proofs.Common.{◌≢◌, ℕ, ◌<◌, List, [], ◌∷◌, length, sym, subst, arith}
use Rattle.otlp_types.specs.declared.arrival.Arrival.{Arrival}
use Rattle.span_size.proofs.Totals.{some-size}
use Rattle.policy_eval.proofs.verdict.amount_of.Goals as goal

some-spans : (spans : List Arrival) → 0 < length spans → spans ≢ []
some-spans [] h e = omega (arith, h)
some-spans (a ∷ spans) h e = cc

pub returns-in-Bytes-clause-some : goal.returns-in-Bytes-clause-some
returns-in-Bytes-clause-some c = subst (λ (n : ℕ). 0 < n) (sym c.size_of.ensures) (some-size c.args.spans.now (some-spans c.args.spans.now c.requires))
