use Rattle.std.proofs.Common.{◌≡◌, List, ◌++◌, option_map}
use Rattle.std.specs.Option.{option_to_list}
use Rattle.serde_json.specs.View.{view, members_view}
use Rattle.serde_json.proofs.Views.{Entry}
use Rattle.otlp_reading.specs.Reading.{value_members}
use Rattle.otlp_reading.proofs.value.only_value_member.Given as goal

abbrev pub invariant-loop-name : goal.invariant-loop-name
invariant-loop-name l =
    (done : List Entry) × (l.members.entries ≡ done ++ l.name-iterator)
    × (option_to_list (option_map (λ h. (h.0, view h.1.now)) l.found) ≡ value_members (members_view done))
