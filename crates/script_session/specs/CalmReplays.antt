-- Two runs of one script, in neither of which memory was refused or a write failed.
use Rattle.std.specs.Prelude.{◌≡◌, ℕ, List, Option, Some, Err, IfSome}
use Rattle.span_sink.specs.LineSinks.{up_state}
use Rattle.tsc_script.specs.Instructions.{Instruction}
use Rattle.tsc_script.specs.Script.{instructions_of}
use Rattle.tsc_script.specs.Progress.{StopsAt}
use Rattle.tsc_script.specs.Reads.{KnownReader}
use Rattle.script_run.specs.Calm.{Calm}
use Rattle.script_session.specs.Replay.{ReplayRun, LeadsIn, PlayedWhole}

-- the run, where it left this of the sink and of the reader
abbrev pub with_end : ReplayRun → (taken : Option (List ℕ)) → (failures : ℕ) → (unread : KnownReader) → ReplayRun
with_end run taken failures unread = record run { taken_after = taken; failures_after = failures; unread_after = unread }

-- the whole script was played to this report, and the run was calm
abbrev pub EndsCalmly : ReplayRun → (report : List ℕ) → Type 0
EndsCalmly run report = (whole : PlayedWhole run (Some report)) × Calm whole.2.0.after

-- these instructions led to the sink as it is, and the run was calm
abbrev pub PlayedCalmly : ReplayRun → List Instruction → Type 0
PlayedCalmly run played = (report : Option (List ℕ)) × (leads : LeadsIn run played (up_state run.taken_after run.failures_after) report) × Calm leads.after

-- this line is refused, the lines before it were played, and the run was calm
abbrev pub RefusesCalmly : ReplayRun → (line : ℕ) → Type 0
RefusesCalmly run line = StopsAt (PlayedCalmly run) run.unread.left run.unread_after.left line × IfSome run.unread.left (λ script. instructions_of script ≡ Err line)

-- the sink has the same bytes in the end
abbrev pub LeavesTheSame : (run other : ReplayRun) → Type 0
LeavesTheSame run other = (run.taken_after ≡ other.taken_after) × (run.failures_after ≡ other.failures_after)

-- Two calm runs with the same settings, over the same script and from the same bytes of the sink, leave the same bytes,
-- and have the same report; or they refuse the same line.
abbrev pub CalmReplaysAgree : Type 0
CalmReplaysAgree = (run : ReplayRun) (taken : Option (List ℕ)) (failures : ℕ) (unread : KnownReader) (script bytes : List ℕ) → run.unread.left ≡ Some script → run.taken ≡ Some bytes
    → let other = with_end run taken failures unread in
    ((report reported : List ℕ) → EndsCalmly run report → EndsCalmly other reported → (report ≡ reported) × LeavesTheSame run other)
    × ((line refused : ℕ) → RefusesCalmly run line → RefusesCalmly other refused → (line ≡ refused) × LeavesTheSame run other)
