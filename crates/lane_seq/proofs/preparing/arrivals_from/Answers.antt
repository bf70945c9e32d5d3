use Rattle.std.proofs.Common.{◌≡◌, ◌+◌, ◌++◌, ◌∷◌, [], length, sym, ap, ◌∙◌, arith, length-append}
use Rattle.lane_seq.specs.Numbers.{arrival_of, arrivals_from}
use Rattle.lane_seq.proofs.Numbering.{arrivals_from-push}
use Rattle.lane_seq.proofs.preparing.arrivals_from.Goals as goal

pub loop-rec-preserved : goal.loop-rec-preserved
loop-rec-preserved c =
    let more = c.in-Some.rec ∷ [] in
    let longer : length (c.loop-rec.yielded ++ more) ≡ length c.loop-rec.yielded + 1 = length-append c.loop-rec.yielded more in
    let longer_arrivals = ap length c.in_ok-push.ensures.items ∙ length-append c.loop-rec.arrivals.items (arrival_of c.args.key c.loop-rec.number c.args.moment c.in-Some.rec ∷ []) in
    record {
      numbered = c.in_ok-push.ensures.items
          ∙ ap (λ done. done ++ arrival_of c.args.key c.loop-rec.number c.args.moment c.in-Some.rec ∷ []) c.loop-rec.invariant.numbered
          ∙ ap (λ number. arrivals_from c.args.key c.args.first c.args.moment c.loop-rec.yielded ++ arrival_of c.args.key number c.args.moment c.in-Some.rec ∷ []) c.loop-rec.invariant.next
          ∙ sym (arrivals_from-push c.args.key c.args.first c.args.moment c.loop-rec.yielded c.in-Some.rec);
      next = omega (arith, longer);
      len = longer_arrivals ∙ ap (λ n. n + 1) c.loop-rec.invariant.len ∙ sym longer;
    }
