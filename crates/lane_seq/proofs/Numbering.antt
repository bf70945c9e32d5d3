-- One more arrival.
-- For the contract of `arrivals_from`.
use Rattle.std.proofs.Common.{◌≡◌, ℕ, ◌+◌, List, [], ◌∷◌, ◌++◌, length, ap, ◌∙◌, arith}
use Rattle.span_ids.specs.declared.keys.ConnKey.{ConnKey}
use Rattle.otlp_types.specs.declared.arrival.Record.{Record}
use Rattle.lane_seq.specs.Numbers.{arrival_of, arrivals_from}

pub arrivals_from-push : (conn : ConnKey) (number moment : ℕ) (rs : List Record) (r : Record)
    → arrivals_from conn number moment (rs ++ r ∷ []) ≡ arrivals_from conn number moment rs ++ arrival_of conn (number + length rs) moment r ∷ []
arrivals_from-push conn number moment [] r = let e : number ≡ number + 0 = omega arith in ap (λ n. arrival_of conn n moment r ∷ []) e
arrivals_from-push conn number moment (x ∷ rs) r =
    let e : (number + 1) + length rs ≡ number + length (x ∷ rs) = omega arith in
    ap (λ more. arrival_of conn number moment x ∷ more) (arrivals_from-push conn (number + 1) moment rs r
    ∙ ap (λ n. arrivals_from conn (number + 1) moment rs ++ arrival_of conn n moment r ∷ []) e)
