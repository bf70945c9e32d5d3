use Rattle.std.proofs.Common.{◌≡◌, ◌∙◌, ◌++◌, ◌∷◌, [], sym, ap, subst, arith, add-one}
use Rattle.std.specs.Prelude.{All, replicate}
use Rattle.std.proofs.lemmas.List.{map-append}
use Rattle.std.proofs.lemmas.List.Elements.{All-push}
use Rattle.lane_queue.specs.Grid.{ends_of, HasRoom}
use Rattle.lane_queue.proofs.Dealing.{replicate_more}
use Rattle.lane_queue.proofs.making.empty_lists.Goals as goal

pub loop-preserved : goal.loop-preserved
loop-preserved g c =
    let h = c.loop.invariant in
    let p = c.push_reserved.ensures in
    let v = c.in_ok-with_capacity.field-0 in
    let made = c.in_ok-with_capacity.ensures in
    let both : ends_of c.loop.lists.items ++ v.items ∷ [] ≡ replicate c.loop.counter [] ++ [] ∷ [] = λ i. h.2 i ++ made.items i ∷ [] in (
      omega (arith, p.len, h.0),
      omega (arith, p.capacity, h.1),
      ap ends_of p.items ∙ (map-append _ c.loop.lists.items (v ∷ []) ∙ (both ∙ (replicate_more c.loop.counter [] ∙ ap (λ k. replicate k []) (sym (add-one c.loop.counter))))),
      subst (λ l. All (HasRoom c.args.room) l) (sym p.items) (All-push (HasRoom c.args.room) c.loop.lists.items v h.3 (made.items, made.capacity)),
    )
