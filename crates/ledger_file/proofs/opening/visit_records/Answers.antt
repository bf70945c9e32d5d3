-- Each record once, in order: `visited` and `place` of `visit_records`.
use Rattle.std.proofs.Common.{◌≡◌, ◌+◌, [], ◌∷◌, ◌++◌, length, drop, rules, arith, ◌∙◌, ap, subst}
use Rattle.ledger_file.specs.Format.{records_in}
use Rattle.ledger_file.specs.Reading.{IsReadAt}
use Rattle.ledger_file.proofs.Visits.{one_more, visited_more, place_more, none_left, visited_all, place_all, read_on}
use Rattle.ledger_file.proofs.opening.visit_records.Goals as goal

pub loop-buffer-preserved : goal.loop-buffer-preserved
loop-buffer-preserved g c =
    let inv = c.loop-buffer.invariant in
    let file = g.D.Disk.seen c.args.disk.now in
    let at = c.loop-buffer.at in
    let buffer = c.read_record.new.buffer.items in
    let len : c.len.result ≡ length buffer = search rules in
    let after : at + (9 + c.len.result) ≡ at + (9 + length buffer) = ap (λ k. at + (9 + k)) len in
    let within = c.in_ok-read_record.ensures.within c.if-branch.true in
    let next : (clean : Rattle.std.specs.Bool.IsTrue (g.D.Disk.is_clean c.read_record.new.disk)) → records_in c.args.seed (drop at file) ≡ buffer ∷ records_in c.args.seed (drop (at + (9 + c.len.result)) file) =
    λ clean. one_more c.args.seed file at (at + (9 + c.len.result)) c.in_ok-read_record.field-0 buffer
    (subst (λ f. IsReadAt c.args.seed f at c.in_ok-read_record.field-0 buffer) inv.only.same (c.in_ok-read_record.ensures.found clean)) c.if-branch.true after in
    record {
      only = read_on g.D.Disk.seen g.D.Disk.may_leave g.D.Disk.is_usable g.D.Disk.is_clean c.args.disk.now c.loop-buffer.disk c.read_record.new.disk inv.only c.read_record.ensures.only;
      within = omega (arith, len, within);
      visited =
          let done = inv.visited in (
            done.0 ++ buffer ∷ [],
            subst (λ b. g.V.Visit.has_visited c.args.visitor.now (done.0 ++ b ∷ []) c.visit.new.self) c.deref.ensures.value (c.in_ok-visit.ensures c.args.visitor.now done.0 done.1),
            λ clean. visited_more done.0 buffer _ _ _ (next clean) (done.2 (c.read_record.ensures.only.clean clean)),
          );
      place = λ clean. place_more c.args.seed at (at + (9 + c.len.result)) buffer _ _ _ after (next clean) (inv.place (c.read_record.ensures.only.clean clean));
    }

pub returns-clause-visited : goal.returns-clause-visited
returns-clause-visited g c =
    let inv = c.loop-buffer.invariant in
    let done = inv.visited in (
      done.0,
      done.1,
      λ clean. visited_all done.0 _ _
          (none_left c.args.seed (g.D.Disk.seen c.args.disk.now) c.loop-buffer.at c.in_ok-read_record.field-0 c.read_record.new.buffer.items
          (subst (λ f. IsReadAt c.args.seed f c.loop-buffer.at c.in_ok-read_record.field-0 c.read_record.new.buffer.items) inv.only.same (c.in_ok-read_record.ensures.found clean)) c.if-branch.false)
          (done.2 (c.read_record.ensures.only.clean clean)),
    )

pub returns-clause-place : goal.returns-clause-place
returns-clause-place g c clean =
    let inv = c.loop-buffer.invariant in
    let at = c.loop-buffer.at in
    let none = none_left c.args.seed (g.D.Disk.seen c.args.disk.now) at c.in_ok-read_record.field-0 c.read_record.new.buffer.items
    (subst (λ f. IsReadAt c.args.seed f at c.in_ok-read_record.field-0 c.read_record.new.buffer.items) inv.only.same (c.in_ok-read_record.ensures.found clean)) c.if-branch.false in
    place_all c.args.seed at _ _ none (inv.place (c.read_record.ensures.only.clean clean))
