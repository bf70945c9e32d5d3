use Rattle.std.proofs.Common.{◌≡◌, drop, true}
use Rattle.ottl_condition.specs.Subjects.{subject_of}
use Rattle.ottl_lists.specs.Texts.{are_known}
use Rattle.ottl_lists.specs.Lists.{some_holds}
use Rattle.ottl_lists.proofs.lists.some_holds.Given as goal

abbrev pub invariant-loop-text : goal.invariant-loop-text
invariant-loop-text l =
    (l.conditions ≡ l.fn.conditions)
    × (are_known l.fn.conditions l.context (drop l.text-index l.texts) ≡ true)
    × (some_holds l.mode l.context (drop l.text-index l.texts) (subject_of l.subject) ≡ some_holds l.mode l.context l.texts (subject_of l.subject))
