use Rattle.std.proofs.Common.{List, [], None, option_map, sym, ◌∙◌, append-nil}
use Rattle.std.specs.Option.{option_to_list}
use Rattle.serde_json.specs.View.{view}
use Rattle.otlp_reading.proofs.Held.{Held, next_left, named_so, held_more, two_held, some_map, none_map}
use Rattle.otlp_reading.proofs.value.only_value_member.Goals as goal

pub returns-then-is_some : goal.returns-then-is_some
returns-then-is_some c =
    let w = c.loop-name.invariant in
    two_held _ _ w.0 _ c.next.new.self c.args.members.now.entries (next_left w.0 _ _ _ _ w.1 c.in-Some.ensures.steps)
    (some_map (λ h. (h.0, view h.1.now)) c.loop-name.found (sym c.is_some.ensures ∙ c.if-is_some.true)) w.2 (named_so _ _ _ _ c.in-Some-value_member.ensures c.as_str.ensures.value)

pub loop-name-preserved-in-Some-value_member : goal.loop-name-preserved-in-Some-value_member
loop-name-preserved-in-Some-value_member c =
    let w = c.loop-name.invariant in
    let none = none_map (λ h. (h.0, view h.1.now)) c.loop-name.found (sym c.is_some.ensures ∙ c.if-is_some.false) in
    held_more _ w.0 _ c.next.new.self c.args.members.now.entries [] (next_left w.0 _ _ _ _ w.1 c.in-Some.ensures.steps) (sym none ∙ w.2)
    (named_so _ _ _ _ c.in-Some-value_member.ensures c.as_str.ensures.value)

pub loop-name-preserved : goal.loop-name-preserved
loop-name-preserved c =
    let w = c.loop-name.invariant in
    let found : List Held = option_to_list (option_map (λ h. (h.0, view h.1.now)) c.loop-name.found) in
    let more = held_more None w.0 _ c.next.new.self c.args.members.now.entries found (next_left w.0 _ _ _ _ w.1 c.in-Some.ensures.steps) w.2 (named_so _ _ _ _ c.in_default.ensures c.as_str.ensures.value) in
    (more.0, more.1, sym (append-nil found) ∙ more.2)
