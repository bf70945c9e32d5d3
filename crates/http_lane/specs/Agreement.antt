-- When two connections do the same: what has to come alike from everyone else.
use Rattle.std.specs.Prelude.{◌≡◌, ℕ, ◌⊎◌, List, [], ◌∷◌}
use Rattle.otlp_types.specs.declared.arrival.Item.{Item}
use Rattle.lane_seq.specs.declared.reply.Reply.{Reply}
use Rattle.lane_seq.specs.declared.reply.Reply.TheVariants.{Done, Partial, BadData, Busy}
use Rattle.http_lane.specs.Connection.{ReadRound, gave, interrupted, Cause, starved, stopping, submitted, ConnectionEvent, Submission, submissions, SubmitsAll}
use Rattle.http_lane.specs.Intake.{Intake, Submits}

-- no read was quiet: each gave bytes or was interrupted
abbrev pub NoneWasQuiet : List ReadRound → Type 0
NoneWasQuiet [] = Unit {0}
NoneWasQuiet (round ∷ rounds) =
    (((bytes : List ℕ) × (round.turn ≡ gave bytes)) ⊎ (round.turn ≡ interrupted)) × NoneWasQuiet rounds

-- what a lane says of a body beside what stands in the body: memory or numbers for its spans were wanting, or the ports
-- refused a number of its pushes
pub data Said : Type 0 where
  wanting : Said
  refusing : ℕ → Said

abbrev pub said_by : Reply → Said
said_by (Done spans) = refusing 0
said_by (Partial spans invalid full) = refusing full
said_by (BadData cause) = refusing 0
said_by Busy = wanting

-- what everyone else said when a body was served
pub data OthersAnswers : Type 0 where
  no_choice no_room stop_set : OthersAnswers
  replied : ℕ → Said → OthersAnswers

abbrev pub choice_of : Cause → OthersAnswers
choice_of starved = no_room
choice_of stopping = stop_set
choice_of (submitted body moment reply closing) = replied moment (said_by reply)
choice_of _ = no_choice

-- memory, stop mark, clock, ports, counter and writer answered alike, as far as both go
abbrev pub AgreeAsFar : List ConnectionEvent → List ConnectionEvent → Type 0
AgreeAsFar [] fs = Unit {0}
AgreeAsFar (e ∷ es) [] = Unit {0}
AgreeAsFar (e ∷ es) (f ∷ fs) = (e.fate ≡ f.fate) × (choice_of e.cause ≡ choice_of f.cause) × AgreeAsFar es fs

-- a lane was handed the bodies of these events, one after another, and replied to them so
abbrev pub RepliesTo : {P : Type 0} → (P → Item → P → Type 0) → (P → P → Type 0) → Intake P → List ConnectionEvent → Intake P → Type 0
RepliesTo takes refuses old events new = SubmitsAll (Submits takes refuses) old (submissions events) new

-- of one body in one encoding, with memory and numbers for its spans or not, and as many of its pushes refused, two lanes that both
-- keep doubles, or both discard them, tell the same, whatever was done there before
abbrev pub RepliesAreDetermined : {P Q : Type 0} → (P → Item → P → Type 0) → (P → P → Type 0)
    → (Q → Item → Q → Type 0) → (Q → Q → Type 0) → Type 0
RepliesAreDetermined {P} {Q} takes refuses its_takes its_refuses =
    (a b : Intake P) (s : Submission) (c d : Intake Q) (t : Submission)
    → a.lane.keeps_doubles ≡ c.lane.keeps_doubles
    → Submits takes refuses a s b → Submits its_takes its_refuses c t d
    → s.encoding ≡ t.encoding → s.body ≡ t.body → said_by s.reply ≡ said_by t.reply → s.reply ≡ t.reply
