-- What is received where connections are served one after the other.
-- For the law of `one_by_one_is_received`.
use Rattle.std.proofs.Common.{◌≡◌, ℕ, false, List, [], ◌∷◌, Option, refl}
use Rattle.otlp_types.specs.declared.arrival.Item.{Item}
use Rattle.drop_ledger.proofs.Gains.{gains_none}
use Rattle.drop_ledger.proofs.EachCount.{each_count}
use Rattle.drop_ledger.specs.declared.count.Count.{Count}
use Rattle.lane_queue.specs.Ends.{EndState}
use Rattle.lane_worker.specs.Serving.{Connection, lane_at}
use Rattle.span_weave.specs.Threads.{AreNumbered}
use Rattle.span_weave.proofs.Tries.{no_tries}
use Rattle.run_weave.specs.Received.{lane_gains, Keeps, IsReceived, serves_one_by_one, receives_one_by_one}
use Rattle.run_weave.specs.Workers.{zeros}
use Rattle.run_weave.proofs.Logs.{Between, serves_all}

none_numbered : (number : ℕ) → AreNumbered number []
none_numbered number [] later a e = absurd (cc e)
none_numbered number (x ∷ before) later a e = absurd (cc e)

no_gains : (count : Count) → lane_gains [] 0 count ≡ 0
no_gains = each_count (λ count. lane_gains [] 0 count ≡ 0) refl refl refl refl refl refl refl refl refl

-- a lane that has received nothing
pub keeps_first : (capacity number : ℕ) (ports : List (EndState Item)) → Keeps capacity number ports false [] ports zeros
keeps_first capacity number ports = record { refused = 0; numbered = none_numbered number; tries = no_tries capacity (λ (e : EndState Item). e.items) ports; counts = gains_none (lane_gains [] 0) zeros no_gains; waiting = λ all. (refl, all) }

module _ {V F X : Type 0} (acceptor_of : V → F) (gives : F → Option X → F → Type 0) (known : X → Connection) where
  pub one_by_one : IsReceived (serves_one_by_one acceptor_of gives known) (receives_one_by_one acceptor_of gives known)
  one_by_one keeps_doubles capacity number ports old new last is_full h =
      let all = serves_all capacity number ports gives known h.0 (acceptor_of old) (lane_at (record { number = number; connected = 0; ports = ports; keeps_doubles = keeps_doubles }) zeros) [] (acceptor_of new) last is_full begin h.1 in
      (all.0, (h.0, all.1), all.2.keeps)
    where
      begin : Between capacity number ports false (lane_at (record { number = number; connected = 0; ports = ports; keeps_doubles = keeps_doubles }) zeros) []
      begin = record { keeps = keeps_first capacity number ports; lane_is = refl; below = tt }
