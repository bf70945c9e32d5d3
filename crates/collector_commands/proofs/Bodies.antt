-- What was read of standard input.
-- For what `show_by` ensures.
use Rattle.std.proofs.Common.{◌≡◌, ℕ, List, Option, Result, Ok, Err, IfOk, refl}
use Rattle.request_show.specs.Body.{IsWhole, IsTooLong}
use Rattle.request_show.specs.declared.body.BodyFault.{BodyFault}
use Rattle.request_show.specs.declared.body.BodyFault.TheVariants as body_is
use Rattle.collector_commands.specs.Showing.{IsReadOf, body_of}

pub is_read : {V : Type 0} (items : V → List ℕ) (input : Option (List ℕ)) (r : Result V BodyFault) → IfOk r (λ body. IsWhole input (items body)) → (r ≡ Err body_is.TooLong → IsTooLong input)
    → IsReadOf input (body_of items r)
is_read items input (Ok body) whole long = whole
is_read items input (Err body_is.NoMemory) whole long = tt
is_read items input (Err body_is.Unreadable) whole long = tt
is_read items input (Err body_is.TooLong) whole long = long refl
