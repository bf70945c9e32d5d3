-- The arrivals of records, one more at the end, and what a lane does with them.
-- For proofs of `span_world`.
use Rattle.std.proofs.Common.{◌≡◌, ℕ, ◌+◌, true, false, not, is_some, List, [], ◌∷◌, ◌++◌, length, filter, count_by, slice_get, slice_set, Some, refl, ap, ◌∙◌, arith}
use Rattle.otlp_types.specs.declared.arrival.Arrival.{Arrival}
use Rattle.otlp_types.specs.declared.arrival.Record.{Record}
use Rattle.span_ids.specs.declared.keys.ConnKey.{ConnKey}
use Rattle.span_ids.specs.declared.outcome.Reason.TheVariants.{InvalidId}
use Rattle.journal_theory.specs.Fate.{DroppedSpan, counts}
use Rattle.world_theory.specs.World.{CoreConfig, CoreLane, World}
use Rattle.world_theory.specs.Step.{receive, step, arrivals, is_of_conn, has_ids}

pub arrivals_append : (conn : ConnKey) (first moment : ℕ) (records : List Record) (r : Record)
    → arrivals conn first moment (records ++ r ∷ []) ≡ arrivals conn first moment records ++ record { key = record { conn = conn; number = first + length records }; moment = moment; rec = r } ∷ []
arrivals_append conn first moment [] r = ap (λ (n : ℕ). let a : Arrival = record { key = record { conn = conn; number = n }; moment = moment; rec = r } in a ∷ []) (omega arith)
arrivals_append conn first moment (x ∷ rest) r =
    let at : first + 1 + length rest ≡ first + length (x ∷ rest) = omega arith in
    let new : ℕ → Arrival = λ n. record { key = record { conn = conn; number = n }; moment = moment; rec = r } in
    let head : Arrival = record { key = record { conn = conn; number = first }; moment = moment; rec = x } in
    ap (λ (z : List Arrival). head ∷ z) (arrivals_append conn (first + 1) moment rest r ∙ ap (λ (n : ℕ). arrivals conn (first + 1) moment rest ++ new n ∷ []) at)

module _ (c : CoreConfig) (w : World) (lane ordinal moment : ℕ) (records : List Record) (l : CoreLane) (g : slice_get w.lanes lane ≡ Some l) (e : l.ended ≡ false) where
  pub can_receive : is_some (step c w (receive lane ordinal moment records)) ≡ true
  can_receive = rw (g, e) refl

  abbrev new : List Arrival
  new = let conn : ConnKey = record { lane = lane; ordinal = ordinal } in arrivals conn (count_by (is_of_conn conn) l.received) moment records

  pub receives : (grown : CoreLane) (counted : List DroppedSpan) → grown ≡ record l { received = l.received ++ new; unrouted = l.unrouted ++ filter has_ids new }
      → counted ≡ w.counted ++ counts InvalidId (filter (λ a. not (has_ids a)) new)
      → step c w (receive lane ordinal moment records) ≡ Some (record w { lanes = slice_set w.lanes lane grown; counted = counted })
  receives grown counted f h = rw (f, h, g, e) refl
