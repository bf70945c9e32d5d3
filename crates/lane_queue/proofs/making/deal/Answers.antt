use Rattle.std.proofs.Common.{rules, ◌≡◌, ◌∙◌, ◌<◌, ◌++◌, ◌∷◌, [], refl, sym, ap, subst, length, set, slice_get, Some, append_assoc, length-append, arith}
use Rattle.lane_queue.specs.Grid.{ends_of, dealt}
use Rattle.lane_queue.proofs.Dealing.{get_at, dealt_none, dealt_more, ends_set, ends_get}
use Rattle.lane_queue.proofs.making.deal.Goals as goal

pub loop-sender-init : goal.loop-sender-init
loop-sender-init g c = (refl, refl, (search rules), sym (dealt_none (ends_of c.args.columns.now.items)))

pub loop-sender-preserved : goal.loop-sender-preserved
loop-sender-preserved g c =
    let h = c.loop-sender.invariant in
    let whole : c.loop-sender.yielded ++ c.in-Some.sender ∷ c.next.new.self.rest.items ≡ c.args.row.items = ap (λ l. c.loop-sender.yielded ++ l) (sym c.in-Some.ensures.steps.0) ∙ h.2 in
    let count = sym (length-append c.loop-sender.yielded (c.in-Some.sender ∷ c.next.new.self.rest.items)) ∙ ap length whole in
    let within : c.loop-sender.place < length c.loop-sender.columns.items = omega (arith, count, h.0, h.1, c.requires, c.args.row.ok.0, c.loop-sender.columns.ok.0) in
    let at = ends_get c.loop-sender.columns.items c.loop-sender.place c.index_mut.result.now (get_at c.loop-sender.columns.items c.loop-sender.place c.index_mut.result.now c.index_mut.ensures.value within) in
    let same = ends_set c.loop-sender.columns.items c.loop-sender.place c.push.new.self ∙ ap (λ l. set (ends_of c.loop-sender.columns.items) c.loop-sender.place l) c.in_ok-push.ensures.items in (
      omega (arith, h.0, length-append c.loop-sender.yielded (c.in-Some.sender ∷ [])),
      h.1,
      append_assoc c.loop-sender.yielded (c.in-Some.sender ∷ []) c.next.new.self.rest.items ∙ ap (λ l. c.loop-sender.yielded ++ l) (sym c.in-Some.ensures.steps.0) ∙ h.2,
      same ∙ subst (λ (cs : _). set cs c.loop-sender.place (c.index_mut.result.now.items ++ c.in-Some.sender ∷ []) ≡ dealt (ends_of c.args.columns.now.items) (c.loop-sender.yielded ++ c.in-Some.sender ∷ [])) (sym h.3) (subst (λ k. set (dealt (ends_of c.args.columns.now.items) c.loop-sender.yielded) k (c.index_mut.result.now.items ++ c.in-Some.sender ∷ []) ≡ dealt (ends_of c.args.columns.now.items) (c.loop-sender.yielded ++ c.in-Some.sender ∷ [])) (sym h.0) (dealt_more (ends_of c.args.columns.now.items) c.loop-sender.yielded c.in-Some.sender c.index_mut.result.now.items (subst (λ cs. slice_get cs (length c.loop-sender.yielded) ≡ Some c.index_mut.result.now.items) h.3 (subst (λ k. slice_get (ends_of c.loop-sender.columns.items) k ≡ Some c.index_mut.result.now.items) h.0 at)))),
    )
