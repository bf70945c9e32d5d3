-- What a command does to a session: words of private functions.
use Rattle.std.specs.Prelude.{◌≡◌}
use Rattle.journal_theory.specs.Journal.{Settings}
use Rattle.tsc_script.specs.Instructions.{Instruction, is_close}
use Rattle.script_run.specs.World.{ScriptWorld, Sizes, Plays}
use Rattle.span_sink.specs.declared.sink.Sink.{Ghosts}
use Rattle.script_session.specs.Pulling.{AreOf, GoesOn}
use Rattle.script_session.specs.declared.session.Session.{Session}

module _ {S L : Type 0} {sink : Ghosts S} where
  -- how many spans a batch, and the queue of a shard, of the session hold, and whether it keeps doubles
  abbrev pub sizes_of : Session S L sink → Sizes
  sizes_of session = record { batch = session.output.0.size; queue = session.queue_capacity; keeps_doubles = session.keeps_doubles }

  -- the session's parts are those of a world
  abbrev pub IsOf : Settings → ScriptWorld → Session S L sink → Type 0
  IsOf s w session = AreOf s w session.connections session.shards.items session.limiter session.output session.closed

  -- the instruction leads from each world that the session was to one that it is
  abbrev pub PlaysOne : (old : Session S L sink) → Instruction → (new : Session S L sink) → Type 0
  PlaysOne old instruction new = (s : Settings) (w : ScriptWorld) → IsOf s w old → (after : ScriptWorld) × Plays s (sizes_of old) w instruction after × IsOf s after new

  -- its sizes stay, that it keeps doubles or not, and that its sink is down; it is closed where the instruction closes
  -- it
  abbrev pub Leaves : (old : Session S L sink) → Instruction → (new : Session S L sink) → Type 0
  Leaves old instruction new = (new.queue_capacity ≡ old.queue_capacity) × GoesOn old.output new.output × (new.closed ≡ is_close instruction) × (new.keeps_doubles ≡ old.keeps_doubles)
