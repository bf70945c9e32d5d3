-- What each line of a script asks is answered in turn.
-- For the law `scripts_grant_in_any_window`.
use Rattle.std.proofs.Common.{ℕ, true, List, [], ◌∷◌, inl, inr, sym, subst}
use Rattle.otlp_types.specs.declared.arrival.Arrival.{Arrival}
use Rattle.otlp_types.specs.declared.arrival.Item.{Item}
use Rattle.rate_budget.specs.Grant.{Asking}
use Rattle.journal_theory.specs.Journal.{Settings, Journal}
use Rattle.lane_seq.specs.declared.reply.Reply.{Reply}
use Rattle.tsc_script.specs.Instructions.{Instruction, receive, tick, close}
use Rattle.script_run.specs.World.{ScriptWorld, Sizes, ShardTurn, new_world, entry_of, with_entry, Takes, TakesEach, TakesRounds, RunsToQuiet, after_reply, RepliesAndRuns, Answers, Receives, Plays, PlaysAll}
use Rattle.script_run.specs.Requests.{BodyReading, reads, refuses}
use Rattle.rate_windows.specs.Laws.{AreAnsweredAfter}
use Rattle.rate_windows.proofs.Windows.{any-window-of-policies}
use Rattle.script_laws.specs.Windows.{ScriptsGrantInAnyWindow}
use Rattle.script_laws.proofs.Asked.{item_answered}

-- ---- shards

takes_answered : (s : Settings) (before : ShardTurn) (items : List Item) (after : ShardTurn) → Takes s before items after → AreAnsweredAfter s.policies before.askings → AreAnsweredAfter s.policies after.askings
takes_answered s before [] after h given = subst (λ (t : ShardTurn). AreAnsweredAfter s.policies t.askings) (sym h) given
takes_answered s before (item ∷ items) after h given =
    takes_answered s (with_entry s before (entry_of item h.0 h.1)) items after h.3 (item_answered s before.journal before.askings (entry_of item h.0 h.1) given)

each_answered : (s : Settings) (before : List Journal) (asked : List Asking) (items : List (List Item)) (after : List Journal) (now : List Asking) (released : List Arrival) → TakesEach s before asked items after now released
    → AreAnsweredAfter s.policies asked → AreAnsweredAfter s.policies now
each_answered s [] asked [] [] now released h given = subst (AreAnsweredAfter s.policies) (sym h.1) given
each_answered s [] asked [] (k ∷ ks) now released h given = absurd h
each_answered s [] asked (own ∷ others) after now released h given = absurd h
each_answered s (j ∷ js) asked [] after now released h given = absurd h
each_answered s (j ∷ js) asked (own ∷ others) [] now released h given = absurd h
each_answered s (j ∷ js) asked (own ∷ others) (k ∷ ks) now released h given =
    each_answered s js h.2 others ks now h.1 h.4 (takes_answered s (record { journal = j; askings = asked }) own (record { journal = k; askings = h.2 }) h.3.0 given)

rounds_answered : (s : Settings) (before : List Journal) (asked : List Asking) (rounds : List (List (List Item))) (after : List Journal) (now : List Asking) (released : List Arrival) → TakesRounds s before asked rounds after now released
    → AreAnsweredAfter s.policies asked → AreAnsweredAfter s.policies now
rounds_answered s before asked [] after now released h given = subst (AreAnsweredAfter s.policies) (sym h.1) given
rounds_answered s before asked (items ∷ rounds) after now released h given =
    rounds_answered s h.0 h.1 rounds after now h.3 h.5 (each_answered s before asked items h.0 h.1 h.2 h.4 given)

-- ---- lines

abbrev AnswersAll : Settings → ScriptWorld → Type 0
AnswersAll s w = AreAnsweredAfter s.policies w.askings

quiet_answered : (s : Settings) (sizes : Sizes) (old : ScriptWorld) (rounds : List (List (List Item))) (new : ScriptWorld) → RunsToQuiet s sizes old rounds new → AnswersAll s old → AnswersAll s new
quiet_answered s sizes old rounds new h given = rounds_answered s old.journals old.askings rounds new.journals new.askings h.released h.takes given

replies_answered : (s : Settings) (sizes : Sizes) (old : ScriptWorld) (reply : Reply) (rounds : List (List (List Item))) (new : ScriptWorld) → RepliesAndRuns s sizes old reply rounds new → AnswersAll s old → AnswersAll s new
replies_answered s sizes old reply rounds new h given = quiet_answered s sizes (after_reply reply h.0 old) rounds new h.2 given

answers_answered : (s : Settings) (sizes : Sizes) (old : ScriptWorld) (number moment : ℕ) (reading : BodyReading) (new : ScriptWorld) → Answers s sizes old number moment reading new → AnswersAll s old → AnswersAll s new
answers_answered s sizes old number moment (refuses reply) new h given = replies_answered s sizes _ reply [] new h given
answers_answered s sizes old number moment (reads request) new h given = replies_answered s sizes _ h.0 _ new h.3 given

receives_answered : (s : Settings) (sizes : Sizes) (old : ScriptWorld) (number moment : ℕ) (body : List ℕ) (new : ScriptWorld) → Receives s sizes old number moment body new → AnswersAll s old → AnswersAll s new
receives_answered s sizes old number moment body new (inl h) given = replies_answered s sizes old _ [] new h.1 given
receives_answered s sizes old number moment body new (inr h) given = answers_answered s sizes old number moment h.0 new h.2 given

line_answered : (s : Settings) (sizes : Sizes) (old : ScriptWorld) (line : Instruction) (new : ScriptWorld) → Plays s sizes old line new → AnswersAll s old → AnswersAll s new
line_answered s sizes old (receive number moment body) new h given = receives_answered s sizes old number moment body new h.2 given
line_answered s sizes old (tick moment) new h given = quiet_answered s sizes old _ new h.2 given
line_answered s sizes old close new h given = quiet_answered s sizes (record old { closed = true }) _ new h.1 given

lines_answered : (s : Settings) (sizes : Sizes) (old : ScriptWorld) (lines : List Instruction) (new : ScriptWorld) → PlaysAll s sizes old lines new → AnswersAll s old → AnswersAll s new
lines_answered s sizes old [] new h given = subst (AnswersAll s) (sym h) given
lines_answered s sizes old (line ∷ lines) new h given = lines_answered s sizes h.0 lines new h.2 (line_answered s sizes old line h.0 h.1 given)

pub scripts_grant : ScriptsGrantInAnyWindow
scripts_grant s sizes lanes shards first played after can up plays =
    let given = lines_answered s sizes (new_world lanes shards first) played after plays tt in
    (given, λ node limit known. any-window-of-policies s.policies after.askings given node limit known)
