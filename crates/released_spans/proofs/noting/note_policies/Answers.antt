use Rattle.std.proofs.Common.{◌+◌, suc, List, map, length, None, sym, ap, ◌∙◌, arith}
use Rattle.std.proofs.Math.ListN.{get_or, set, get_or-map}
use Rattle.std.proofs.lemmas.List.{map-set, length-map}
use Rattle.otlp_types.specs.declared.arrival.Arrival.{Arrival}
use Rattle.otlp_types.specs.declared.arrival.Record.{Record}
use Rattle.released_spans.specs.Noting.{noted}
use Rattle.released_spans.proofs.Noted.{noted_to, noted_next, noted_all}
use Rattle.released_spans.proofs.noting.note_policies.Goals as goal

pub loop-place-preserved : goal.loop-place-preserved
loop-place-preserved c =
    let old : List Record = map (λ (a : Arrival). a.rec) c.args.spans.now in
    let here : List Record = map (λ (a : Arrival). a.rec) c.loop-place.spans in
    let before : Arrival = get_or c.loop-place.spans c.loop-place.place c.index-spans-place.result in
    map-set (λ (a : Arrival). a.rec) c.loop-place.spans c.loop-place.place (record before { rec = c.note.new.rec })
    ∙ ap (λ (r : Record). set here c.loop-place.place r) (c.in_ok-note.ensures
    ∙ ap (noted c.args.names.now (get_or c.args.policies.now c.loop-place.place None)) (sym (get_or-map (λ (a : Arrival). a.rec) c.loop-place.spans c.loop-place.place c.index-spans-place.result)))
    ∙ ap (λ (z : List Record). set z c.loop-place.place (noted c.args.names.now (get_or c.args.policies.now c.loop-place.place None) (get_or z c.loop-place.place c.index-spans-place.result.rec))) c.loop-place.invariant
    ∙ noted_next c.loop-place.place c.args.names.now c.args.policies.now old None c.index-spans-place.result.rec
    (omega (arith, c.loop-place-test.true, c.requires)) (c.requires ∙ sym (length-map c.args.spans.now (λ (a : Arrival). a.rec)))
    ∙ ap (λ n. noted_to n c.args.names.now c.args.policies.now old) {x = suc c.loop-place.place} {y = c.loop-place.place + 1} (omega arith)

pub returns : goal.returns
returns c =
    let old : List Record = map (λ (a : Arrival). a.rec) c.args.spans.now in
    c.loop-place.invariant
    ∙ ap (λ n. noted_to n c.args.names.now c.args.policies.now old) {x = c.loop-place.place} {y = length c.args.policies.now} (omega (arith, c.loop-place-test.false, c.loop-place.auto.place-end, c.requires))
    ∙ noted_all c.args.names.now c.args.policies.now old (c.requires ∙ sym (length-map c.args.spans.now (λ (a : Arrival). a.rec)))
