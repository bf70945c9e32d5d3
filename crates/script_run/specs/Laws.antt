-- What holds of every script that is played.
use Rattle.std.specs.Prelude.{◌≡◌, ℕ, ◌+◌, ◌<◌, false, List, Option, Some, Ok}
use Rattle.journal_theory.specs.Journal.{Settings}
use Rattle.span_sink.specs.LineSinks.{LineSinkState}
use Rattle.world_theory.specs.World.{KeepsATrace}
use Rattle.tsc_script.specs.Instructions.{Instruction}
use Rattle.tsc_script.specs.Script.{instructions_of}
use Rattle.tsc_script.specs.Progress.{StopsAt}
use Rattle.script_run.specs.World.{ScriptWorld, Sizes, new_world, PlaysAll}
use Rattle.script_run.specs.Writing.{WritesAll, FailedOnce}
use Rattle.script_run.specs.CoreRun.{core_config, IsRunOfCore}
use Rattle.script_run.specs.Calm.{Calm}
use Rattle.script_run.specs.Counts.{number_reported}
use Rattle.drop_ledger.specs.declared.count.Count.{Count}

-- settings and sizes with which a script can be played over so many lanes: the senders are the lanes and the ticker,
-- and a batch and a limit hold something
pub record CanPlay (s : Settings) (sizes : Sizes) (lanes : ℕ) : Type 0 where
  pub some_lane : 0 < lanes
  pub senders : s.senders ≡ lanes + 1
  pub batch : 0 < sizes.batch
  pub keeps : KeepsATrace (core_config s sizes)

-- this holds of each world to which a script leads, where its sink was up at first
abbrev pub OfEachScript : (Settings → Sizes → (lanes shards : ℕ) → (first : LineSinkState) → ScriptWorld → Type 0) → Type 0
OfEachScript P = (s : Settings) (sizes : Sizes) (lanes shards : ℕ) (first : LineSinkState) (played : List Instruction) (after : ScriptWorld)
    → CanPlay s sizes lanes → first.is_down ≡ false → PlaysAll s sizes (new_world lanes shards first) played after → P s sizes lanes shards first after

-- each script that is played is a run of the core
abbrev pub EachIsARunOfCore : Type 0
EachIsARunOfCore = OfEachScript (λ s sizes lanes shards first after. IsRunOfCore s sizes lanes shards after)

-- the sink has the lines of the events, and has failed once where it is down
abbrev pub EachWritesItsEvents : Type 0
EachWritesItsEvents = OfEachScript (λ s sizes lanes shards first after. WritesAll first after.events after.sink × FailedOnce first after.sink)

-- two runs did the same: they received the same spans on the same connections, their shards took the same, their
-- limiter was asked the same, their events and their counts are the same; where the bytes of the sink are known at
-- first, they are the same at last
pub record Agrees (s : Settings) (first : LineSinkState) (a b : ScriptWorld) : Type 0 where
  pub contacts : a.contacts ≡ b.contacts
  pub received : a.received ≡ b.received
  pub full : a.full ≡ b.full
  pub journals : a.journals ≡ b.journals
  pub askings : a.askings ≡ b.askings
  pub events : a.events ≡ b.events
  pub closed : a.closed ≡ b.closed
  pub counts : (count : Count) → number_reported s a count ≡ number_reported s b count
  pub sink : (bytes : List ℕ) → first.taken ≡ Some bytes → a.sink ≡ b.sink

-- two runs of one script do the same, where in neither memory was refused or a write failed
abbrev pub CalmRunsAgree : Type 0
CalmRunsAgree = (s : Settings) (sizes : Sizes) (lanes shards : ℕ) (first : LineSinkState) (played : List Instruction) (a b : ScriptWorld)
    → PlaysAll s sizes (new_world lanes shards first) played a → PlaysAll s sizes (new_world lanes shards first) played b → Calm a → Calm b → Agrees s first a b

-- so two runs of one script's bytes do the same
abbrev pub CalmScriptsAgree : Type 0
CalmScriptsAgree = (s : Settings) (sizes : Sizes) (lanes shards : ℕ) (first : LineSinkState) (script : List ℕ) (m n : List Instruction) (a b : ScriptWorld)
    → instructions_of script ≡ Ok m → instructions_of script ≡ Ok n → PlaysAll s sizes (new_world lanes shards first) m a → PlaysAll s sizes (new_world lanes shards first) n b
    → Calm a → Calm b → Agrees s first a b

-- and so do two runs over one script's bytes that stopped at the same line, as at the first that is refused
abbrev pub CalmStopsAgree : Type 0
CalmStopsAgree = (s : Settings) (sizes : Sizes) (lanes shards : ℕ) (first : LineSinkState) (script : List ℕ) (left right : Option (List ℕ)) (number : ℕ) (a b : ScriptWorld)
    → StopsAt (λ m. PlaysAll s sizes (new_world lanes shards first) m a) (Some script) left number
    → StopsAt (λ m. PlaysAll s sizes (new_world lanes shards first) m b) (Some script) right number
    → Calm a → Calm b → Agrees s first a b
