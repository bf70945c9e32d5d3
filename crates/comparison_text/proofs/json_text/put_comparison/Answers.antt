use Rattle.std.proofs.Common.{◌∙◌, List, ap, map}
use Rattle.json.specs.Json.{Json}
use Rattle.run_comparison.specs.declared.differing.Differing.{Differing}
use Rattle.run_comparison.specs.Overlaps.{first_differing, overlap_of}
use Rattle.run_comparison.specs.Rows.{same_steps, seen_policy, seen_service, service_rows}
use Rattle.run_comparison.specs.Timeline.{Timeline}
use Rattle.comparison_text.specs.Value.{array_of, differing_value, over_time_value, overlap_value, policy_value, service_value}
use Rattle.comparison_text.proofs.Seen.{array-seen, at-both}
use Rattle.comparison_text.proofs.Appended.{member-as, member-then, members-end, object-of}
use Rattle.comparison_text.proofs.json_text.put_comparison.Goals as goal

pub returns : goal.returns
returns c =
    let old = c.args.old.now in
    let new_run = c.args.new.now in
    let overlap = c.overlap_of-overlap.ensures ∙ at-both overlap_of _ _ _ _ c.traces-3.ensures c.traces-4.ensures in
    let steps = ap (λ (p : Timeline × Timeline). over_time_value p.0 p.1) (c.in_ok-steps.ensures ∙ at-both same_steps _ _ _ _ c.steps.ensures c.steps-2.ensures) in
    let policies = array-seen policy_value seen_policy _ _ (ap (map seen_policy) c.deref.ensures.value ∙ c.in_ok-policies.ensures) in
    let services =
    array-seen service_value seen_service _ _ (ap (map seen_service) c.deref-2.ensures.value ∙ c.in_ok-services.ensures ∙ at-both service_rows _ _ _ _ c.services.ensures c.services-2.ensures) in
    let found = c.deref-3.ensures.value ∙ c.in_ok-found.ensures ∙ at-both first_differing _ _ _ _ c.traces.ensures c.traces-2.ensures in
    let differ =
    at-both (λ (f : Differing → Json) (found : List Differing). array_of f found) _ _ _ _ (at-both differing_value _ _ _ _ c.names.ensures c.names-2.ensures) found in
    let last = c.end_object.result in
    let new = c.end_object.new.self in
    object-of last c.args.out.now c.begin_object.new.self new _ c.in_ok-begin_object.ensures.ok c.in_ok-begin_object.ensures.room.0
    (member-then last c.begin_object.new.self c.put_word.new.out new _ _ _ c.in_ok-put_word.ensures.all
    (member-then last c.put_word.new.out c.put_run.new.out new _ _ _ c.in_ok-put_run.ensures.all
    (member-then last c.put_run.new.out c.put_run-2.new.out new _ _ _ c.in_ok-put_run-2.ensures.all
    (member-then last c.put_run-2.new.out c.put_overlap.new.out new _ _ _ (member-as c.put_run-2.new.out c.put_overlap.new.out _ _ _ (ap overlap_value overlap) c.in_ok-put_overlap.ensures.all)
    (member-then last c.put_overlap.new.out c.put_over_time.new.out new _ _ _ (member-as c.put_overlap.new.out c.put_over_time.new.out _ _ _ steps c.in_ok-put_over_time.ensures.all)
    (member-then last c.put_over_time.new.out c.put_policies.new.out new _ _ _ (member-as c.put_over_time.new.out c.put_policies.new.out _ _ _ policies c.in_ok-put_policies.ensures.all)
    (member-then last c.put_policies.new.out c.put_services.new.out new _ _ _ (member-as c.put_policies.new.out c.put_services.new.out _ _ _ services c.in_ok-put_services.ensures.all)
    (member-then last c.put_services.new.out c.put_differing.new.out new _ _ _ (member-as c.put_services.new.out c.put_differing.new.out _ _ _ differ c.in_ok-put_differing.ensures.all)
    (members-end last c.put_differing.new.out new c.end_object.ensures)))))))))
