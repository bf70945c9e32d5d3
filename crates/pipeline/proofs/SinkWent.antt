-- Where the sink of an exporter was up, it failed once if it is down in the end, else never.
-- For the contracts of running::run_over and running::run_in.
use Rattle.std.proofs.Common.{◌≡◌, ◌⊎◌, ℕ, zero, suc, ◌+◌, ◌++◌, ◌∙◌, Bool, true, false, if◌then◌else◌, List, [], Result, Ok, Err, refl, ap, sym, subst, inl, inr}
use Rattle.std.specs.Prelude.{replicate}
use Rattle.std.specs.List.{concat, list_any}
use Rattle.span_sink.specs.LineSinks.{LineSinkState}
use Rattle.span_sink.specs.Manners.{Manner}
use Rattle.span_sink.specs.Hands.{Handing, TookLines, StopsWithin, handed_lines}
use Rattle.pipeline.specs.declared.fault.ServeFault.{ServeFault}
use Rattle.pipeline.specs.declared.fault.ServeFault.TheVariants.{NoMemory, CounterOverflow, SinkDown}
use Rattle.pipeline.specs.Outcome.{SinkAnswers, SinkWent, TellsSink}

failed_once : (old new : LineSinkState) (calls : List Handing) (part : List ℕ) → old.is_down ≡ false
    → ((part ≡ []) × (new.is_down ≡ old.is_down) × (new.failures ≡ old.failures)) ⊎ ((old.is_down ≡ false) × (new.is_down ≡ true) × (new.failures ≡ old.failures + 1) × StopsWithin part calls)
    → new.failures ≡ (if new.is_down then old.failures + 1 else old.failures)
failed_once old new calls part up (inl e) = subst (λ down. new.failures ≡ (if down then old.failures + 1 else old.failures)) (sym (e.1 ∙ up)) e.2
failed_once old new calls part up (inr e) = subst (λ down. new.failures ≡ (if down then old.failures + 1 else old.failures)) (sym e.1) e.2

pub went : (manner : Manner) (old new : LineSinkState) (calls : List Handing) → old.is_down ≡ false → TookLines manner old calls new → SinkWent old new
went manner old new calls up took = ((concat (handed_lines manner calls) ++ took.part, took.bytes), failed_once old new calls took.part up took.ends)

down_or_up : (old new : LineSinkState) → new.failures ≡ (if new.is_down then old.failures + 1 else old.failures) → (down : Bool) → new.is_down ≡ down → (new.failures ≡ old.failures) ⊎ (new.failures ≡ old.failures + 1)
down_or_up old new e true down = inr (e ∙ ap (λ b. if b then old.failures + 1 else old.failures) down)
down_or_up old new e false down = inl (e ∙ ap (λ b. if b then old.failures + 1 else old.failures) down)

pub answers : {A : Type 0} → (old new : LineSinkState) (answer : Result A ServeFault) → SinkWent old new → TellsSink new.is_down answer → SinkAnswers old.taken old.failures new.taken new.failures answer
answers old new (Ok report) went told = (went.0, went.1 ∙ ap (λ b. if b then old.failures + 1 else old.failures) told)
answers old new (Err NoMemory) went told = absurd told
answers old new (Err CounterOverflow) went told = (went.0, down_or_up old new went.1 new.is_down refl)
answers old new (Err (SinkDown report)) went told = (went.0, went.1 ∙ ap (λ b. if b then old.failures + 1 else old.failures) told)

-- before any shard has ended none has
pub none_ended : (shards : ℕ) → list_any (λ ended. ended) (replicate shards false) ≡ false
none_ended zero = refl
none_ended (suc shards) = none_ended shards
