-- A script run in which no memory was refused and no write failed.
use Rattle.std.specs.Prelude.{◌≡◌, Bool, true, false, ◌||◌}
use Rattle.std.specs.List.{AllByRecursion}
use Rattle.span_ids.specs.declared.outcome.Reason.TheVariants.{NoMemory}
use Rattle.lane_seq.specs.declared.reply.Reply.TheVariants.{Busy}
use Rattle.journal_theory.specs.Journal.{Entry, Journal}
use Rattle.span_exporter.specs.declared.answer.Flushed.{Flushed}
use Rattle.span_exporter.specs.declared.answer.Flushed.TheVariants.{BatchDropped}
use Rattle.script_run.specs.World.{ScriptWorld, OutputEvent, replied, was_sent}

-- a batch was given up for want of memory
abbrev pub is_for_memory : Flushed → Bool
is_for_memory (BatchDropped spans NoMemory) = true
is_for_memory _ = false

-- a request was refused for want of memory or of numbers, or a batch was given up for want of memory
abbrev pub is_refusal : OutputEvent → Bool
is_refusal (replied Busy) = true
is_refusal (replied reply) = false
is_refusal (was_sent sent) = is_for_memory sent.flushed

-- memory was refused where a shard took an item
abbrev pub is_marked : Entry → Bool
is_marked e = e.refused || e.lost

-- no memory was refused to the journal's items
abbrev pub IsUnmarked : Journal → Type 0
IsUnmarked past = AllByRecursion (λ e. is_marked e ≡ false) past

-- no memory was refused so far, and no write failed
pub record Calm (w : ScriptWorld) : Type 0 where
  pub events : AllByRecursion (λ event. is_refusal event ≡ false) w.events
  pub journals : AllByRecursion IsUnmarked w.journals
  pub up : w.sink.is_down ≡ false
