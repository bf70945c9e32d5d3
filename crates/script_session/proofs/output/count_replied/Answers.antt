use Rattle.std.proofs.Common.{ℕ, List, Option, Some, None, sym, subst}
use Rattle.script_session.specs.Adding.{Adds}
use Rattle.script_session.specs.Submitting.{received_by}
use Rattle.script_session.proofs.Replied.{adds-reply, passes-reply}
use Rattle.script_session.proofs.output.count_replied.Goals as goal

pub returns-then-not-count_reply : goal.returns-then-not-count_reply
returns-then-not-count_reply c =
    let P : Option (List ℕ) → Type 0 = λ old. Adds old (received_by c.args.reply.now) None in
    subst P (sym c.in-Some.is) (passes-reply c.args.reply.now _ _ c.if-not-count_reply.ensures.counts)

pub returns-else-not-count_reply : goal.returns-else-not-count_reply
returns-else-not-count_reply c =
    let P : Option (List ℕ) → Type 0 = λ old. Adds old (received_by c.args.reply.now) (Some c.count_reply.new.counts) in
    subst P (sym c.in-Some.is) (adds-reply c.args.reply.now _ _ c.add.ensures.nine c.if-not-count_reply.ensures.counts c.if-not-count_reply.ensures.fits)
