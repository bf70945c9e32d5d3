-- What a run leaves of its sink and of its report follows from how its script was played.
-- For the contract of `run_session`.
use Rattle.std.proofs.Common.{◌≡◌, ℕ, Bool, true, false, List, Option, Result, Ok, Err, refl, ap, subst, ◌∙◌, inl, inr}
use Rattle.std.specs.Prelude.{not, IfSome}
use Rattle.std.specs.Result.{OnOk, IfErr, IsErrOf}
use Rattle.drop_ledger.specs.declared.report.Report.{Report}
use Rattle.span_sink.specs.LineSinks.{LineSinkState, up_state, down_state}
use Rattle.tsc_script.specs.declared.stop.ScriptStop.{ScriptStop}
use Rattle.tsc_script.specs.declared.stop.ScriptStop.TheVariants.{NoMemory as NothingRead, Refused as LineRefused, Fault as LineUnread, Down}
use Rattle.tsc_script.specs.Instructions.{Instruction}
use Rattle.tsc_script.specs.Script.{instructions_of}
use Rattle.tsc_script.specs.Stops.{IfRefused, is_up_after}
use Rattle.tsc_script.specs.Progress.{Ends, StopsAfter}
use Rattle.tsc_script.proofs.Weaker.{StopsAfter-weaker}
use Rattle.script_session.specs.declared.fault.ReplayFault.{ReplayFault}
use Rattle.script_session.specs.declared.fault.ReplayFault.TheVariants.{NoMemory, Refused, Fault, CounterOverflow, SinkDown}
use Rattle.script_session.specs.Answers.{AnswersStop}
use Rattle.script_session.specs.Replay.{ReplayRun, LeadsIn, Played, ClosesWith, FellBefore, PlayedWhole, StoppedDown, ReadsSay, RunEnds}

not-true : (b : Bool) → not b ≡ true → b ≡ false
not-true true e = cc
not-true false e = refl

pub not-false : (b : Bool) → not b ≡ false → b ≡ true
not-false true e = refl
not-false false e = cc

pub is_up_state : (s : LineSinkState) (taken : Option (List ℕ)) (failures : ℕ) → taken ≡ s.taken → failures ≡ s.failures → not s.is_down ≡ true → s ≡ up_state taken failures
is_up_state s taken failures t f up = rw (t, f) (ap (λ b. record s { is_down = b }) (not-true s.is_down up))

pub is_down_state : (s : LineSinkState) (taken : Option (List ℕ)) (failures : ℕ) → taken ≡ s.taken → failures ≡ s.failures → not s.is_down ≡ false → s ≡ down_state taken failures
is_down_state s taken failures t f up = rw (t, f) (ap (λ b. record s { is_down = b }) (not-false s.is_down up))

-- these instructions led to this state of the sink and this report, and the script is closed, or not
abbrev pub Led : ReplayRun → LineSinkState → Option (List ℕ) → Bool → List Instruction → Type 0
Led run last report closed played = (leads : LeadsIn run played last report) × (leads.after.closed ≡ closed)

module _ (run : ReplayRun) (played : Result (Unit {0}) ScriptStop) (up closed : Bool) (last : LineSinkState) (report : Option (List ℕ)) (L F : List Instruction → Type 0)
    (whole : OnOk played ((instructions : List Instruction) × Ends run.unread.left run.unread_after.left instructions × L instructions))
    (stopped : IfErr played (StopsAfter L F run.unread.left run.unread_after.left))
    (refused : IfErr played (λ stop. IfRefused stop (λ number. IfSome run.unread.left (λ script. instructions_of script ≡ Err number))))
    (caused : ReadsSay run played)
    (up_is : up ≡ is_up_after played)
    (whole_closed : OnOk played (closed ≡ true))
    (down_closed : IsErrOf played Down → closed ≡ true)
    (no_memory : IsErrOf played NothingRead → (run.taken_after ≡ run.taken) × (run.failures_after ≡ run.failures) × (run.unread_after ≡ run.unread))
    (last_up : up ≡ true → last ≡ up_state run.taken_after run.failures_after)
    (last_down : up ≡ false → last ≡ down_state run.taken_after run.failures_after)
    (to_led : (done : List Instruction) → L done → Led run last report closed done)
    (to_fell : (done : List Instruction) → F done → FellBefore run last report done) where
  -- closed, with the sink as it is
  to_closed : (state : LineSinkState) → last ≡ state → closed ≡ true → (done : List Instruction) → L done → ClosesWith run state report done
  to_closed state e f done l =
      let P = λ (k : LineSinkState). Led run k report closed done in
      let Q = λ (b : Bool). Led run state report b done in
      subst Q f (subst P e (to_led done l))

  to_played : up ≡ true → (done : List Instruction) → L done → Played run done
  to_played e done l = let P = λ (k : LineSinkState). LeadsIn run done k report in (report, subst P (last_up e) (to_led done l).0)

  ended : played ≡ Ok tt → PlayedWhole run report
  ended e =
      let P = λ (p : Result (Unit {0}) ScriptStop). OnOk p ((instructions : List Instruction) × Ends run.unread.left run.unread_after.left instructions × L instructions) in
      let Q = λ (p : Result (Unit {0}) ScriptStop). OnOk p (closed ≡ true) in
      let w = subst P e whole in
      (w.0, w.1, to_closed _ (last_up (up_is ∙ ap is_up_after e)) (subst Q e whole_closed) w.0 w.2)

  stops : (stop : ScriptStop) → played ≡ Err stop → StopsAfter L F run.unread.left run.unread_after.left stop
  stops stop e = let P = λ (p : Result (Unit {0}) ScriptStop). IfErr p (StopsAfter L F run.unread.left run.unread_after.left) in subst P e stopped

  at_line : (stop : ScriptStop) → played ≡ Err stop → is_up_after (Err stop) ≡ true → StopsAfter (Played run) F run.unread.left run.unread_after.left stop
  at_line stop e still = StopsAfter-weaker L (Played run) F F run.unread.left run.unread_after.left stop (to_played (up_is ∙ ap is_up_after e ∙ still)) (λ done f. f) (stops stop e)

  fell : played ≡ Err Down → StoppedDown run report
  fell e =
      let state = down_state run.taken_after run.failures_after in
      let is : last ≡ state = last_down (up_is ∙ ap is_up_after e) in
      StopsAfter-weaker L (ClosesWith run state report) F (FellBefore run state report) run.unread.left run.unread_after.left Down
      (to_closed state is (down_closed e)) (λ done f. let P = λ (k : LineSinkState). FellBefore run k report done in subst P is (to_fell done f)) (stops Down e)

  pub run-ends : (answer : Result Report ReplayFault) → AnswersStop played report answer → RunEnds run answer
  run-ends (Ok numbers) e = (subst (PlayedWhole run) e.1 (ended e.0), subst (ReadsSay run) e.0 caused)
  run-ends (Err NoMemory) e = no_memory e
  run-ends (Err (Refused line)) e =
      let P = λ (p : Result (Unit {0}) ScriptStop). IfErr p (λ stop. IfRefused stop (λ number. IfSome run.unread.left (λ script. instructions_of script ≡ Err number))) in
      (at_line (LineRefused line) e refl, subst P e refused, subst (ReadsSay run) e caused)
  run-ends (Err (Fault line)) e = (at_line (LineUnread line) e refl, subst (ReadsSay run) e caused)
  run-ends (Err CounterOverflow) (inl e, none) = inl (subst (PlayedWhole run) none (ended e))
  run-ends (Err CounterOverflow) (inr e, none) = inr (subst (StoppedDown run) none (fell e))
  run-ends (Err (SinkDown numbers)) e = subst (StoppedDown run) e.1 (fell e.0)
