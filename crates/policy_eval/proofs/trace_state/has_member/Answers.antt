use Rattle.std.proofs.Common.{◌+◌, ◌∙◌, ap, sym, arith, length, drop, length-drop}
use Rattle.std.specs.Prelude.{◌||◌}
use Rattle.std.proofs.lemmas.List.{take_rest}
use Rattle.policy_eval.specs.TraceState.{is_member, has_member}
use Rattle.policy_eval.proofs.Members.{member_more, member_last}
use Rattle.policy_eval.proofs.trace_state.has_member.Goals as goal

pub returns-then-is_member : goal.returns-then-is_member
returns-then-is_member c =
    let key = c.args.key.now in
    let values = c.args.values.now in
    let rest = c.members.rest.now in
    let at = c.in-Some.at in
    let found = sym c.if-is_member.true ∙ c.is_member.ensures ∙ ap (λ m. is_member key values m) c.trim.ensures in
    ap (λ t. t || has_member key values (drop (at + 1) rest)) found ∙ sym (member_more key values rest at (sym c.in-Some.ensures.place)) ∙ sym c.members.invariant.0

pub members-preserved : goal.members-preserved
members-preserved c =
    let key = c.args.key.now in
    let values = c.args.values.now in
    let rest = c.members.rest.now in
    let at = c.in-Some.at in
    let not_found = sym (c.is_member.ensures ∙ ap (λ m. is_member key values m) c.trim.ensures) ∙ c.if-is_member.false in (
      c.members.invariant.0 ∙ member_more key values rest at (sym c.in-Some.ensures.place)
          ∙ ap (λ t. t || has_member key values (drop (at + 1) rest)) not_found
          ∙ ap (λ l. has_member key values l) (sym (take_rest rest (at + 1))),
      omega (arith, ap length (take_rest rest (at + 1)), length-drop (at + 1) rest, c.members.invariant.1),
    )

pub returns-in-None : goal.returns-in-None
returns-in-None c =
    let key = c.args.key.now in
    let values = c.args.values.now in
    let last = c.is_member-in-None.ensures ∙ ap (λ m. is_member key values m) c.trim-in-None.ensures in
    last ∙ sym (member_last key values c.members.rest.now (sym c.in-None.ensures.place)) ∙ sym c.members.invariant.0
