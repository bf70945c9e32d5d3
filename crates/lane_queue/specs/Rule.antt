-- What the two ends of a queue know, and the rule that ties them.
use Rattle.std.specs.Prelude.{◌≡◌, ℕ, Bool, true, List}
use mathlib.Core.Option.{some}
use lib.ListN.{get_elem?}
use Rattle.lane_queue.specs.Histories.{QueueStep, Leaves, pushes, pops}
use Rattle.lane_queue.specs.declared.rule.EndLog.{EndLog}

module _ {X : Type 0} where
  abbrev pub log : (may_push may_pop : Bool) → (pushed popped : List X) → EndLog X
  log may_push may_pop pushed popped = record { may_push = may_push; may_pop = may_pop; pushed = pushed; popped = popped }

  -- the pass that may push has all that was pushed, and the one that may pop has all that was popped
  abbrev pub Fits : (writer reader : ℕ) → List (QueueStep X) → (pass : ℕ) → EndLog X → Type 0
  Fits writer reader steps pass v = (v.may_push ≡ true → (pass ≡ writer) × (v.pushed ≡ pushes steps)) × (v.may_pop ≡ true → (pass ≡ reader) × (v.popped ≡ pops steps))

  -- there is a history that leaves what the queue holds; one pass at most may push, and one at most may pop
  abbrev pub IsRecorded : (capacity : ℕ) → (held : List X) → List (EndLog X) → Type 0
  IsRecorded capacity held views = (writer : ℕ) × (reader : ℕ) × (steps : List (QueueStep X)) × Leaves capacity steps held
      × ((pass : ℕ) (v : EndLog X) → get_elem? views pass ≡ some v → Fits writer reader steps pass v)

  -- a history with just these pushes leaves these items
  abbrev pub HasPushed : (capacity : ℕ) → (pushed held : List X) → Type 0
  HasPushed capacity pushed held = (steps : List (QueueStep X)) × Leaves capacity steps held × (pushes steps ≡ pushed)

  -- a history with just these pops leaves these items
  abbrev pub HasPopped : (capacity : ℕ) → (popped held : List X) → Type 0
  HasPopped capacity popped held = (steps : List (QueueStep X)) × Leaves capacity steps held × (pops steps ≡ popped)
