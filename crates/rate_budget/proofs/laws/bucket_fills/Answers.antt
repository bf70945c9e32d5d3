-- A bucket of bytes fills with the seconds.
-- For `bucket_fills`.
use Rattle.rate_budget.specs.BudgetLaws.{fills-law}
use Rattle.rate_budget.proofs.laws.bucket_fills.Goals as goal

pub returns : goal.returns
returns c = fills-law
