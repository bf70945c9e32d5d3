use Rattle.std.proofs.Common.{◌≡◌, ◌≤◌, ◌<◌, ℕ, nat_lt, false, true, max, min, length, get_or, refl, sym, ap, subst, ◌∙◌, arith, option_copied, position}
use Rattle.std.proofs.lemmas.Bool.Decides.{nat_tests}
use Rattle.trace_buffer.specs.Buffer.{Buffer, Episode, is_due_at}
use Rattle.trace_buffer.specs.Range.{DueAreTooBig}
use Rattle.trace_buffer.proofs.Places.{lent, in-range, place-found, place-none}
use Rattle.trace_buffer.proofs.Ranges.{not-due-outside}
use Rattle.trace_buffer.proofs.Walking.{NoneDue, none-more}
use Rattle.trace_buffer.proofs.buffer.TraceBuffer.big_place.Given as given
use Rattle.trace_buffer.proofs.buffer.TraceBuffer.big_place.Goals as goal

pub loop-place-init : goal.loop-place-init
loop-place-init c = λ k d low l.
    let es = c.self.inside.ring.items in
    let r = c.self.inside.big in
    let none = subst (λ (b : Buffer). NoneDue c.args.mark c.args.wait c.args.root_wait b.episodes c.args.start) (sym c.self.view_is) c.requires.none in
    let due = subst (λ (b : Buffer). DueAreTooBig c.args.mark c.args.wait c.args.root_wait c.args.start b.episodes) (sym c.self.view_is) c.requires.big in
    (elim (nat_lt k c.args.start) as (λ b. nat_lt k c.args.start ≡ b → is_due_at c.args.mark c.args.wait c.args.root_wait (get_or es k d) ≡ false) [
      | true ↦ λ e. none k d low (grind (arith, nat_tests))
      | false ↦ λ e. not-due-outside c.args.mark c.args.wait c.args.root_wait c.args.start r es k d c.self.invariant.4 due (grind (arith, nat_tests)) (let len = c.len-held.ensures.len in omega (arith, l, len)) (λ at. let first = at.0 in let behind : c.args.start ≤ k = grind (arith, nat_tests) in absurd (omega (arith, l, first, behind)))
    ]) refl

pub unwrap-requires : goal.unwrap-requires
unwrap-requires c =
    let len = c.len-held.ensures.len in
    let test = c.loop-place-test.true in
    lent c.get.result _ c.get.ensures (in-range c.self.inside.ring.items c.loop-place.place (omega (arith, len, test)))

pub returns-then-is_due : goal.returns-then-is_due
returns-then-is_due c =
    let p = is_due_at c.args.mark c.args.wait c.args.root_wait in
    let at = sym c.get.ensures ∙ ap option_copied c.unwrap.ensures in
    sym (place-found p c.self.inside.ring.items c.loop-place.place c.unwrap.result.now c.loop-place.invariant at (sym c.is_due.ensures ∙ c.if-is_due.true)) ∙ ap (λ (b : Buffer). position p b.episodes) c.self.view_is

pub loop-place-preserved : goal.loop-place-preserved
loop-place-preserved c =
    let at = sym c.get.ensures ∙ ap option_copied c.unwrap.ensures in
    none-more c.args.mark c.args.wait c.args.root_wait c.self.inside.ring.items c.loop-place.place c.unwrap.result.now c.loop-place.invariant at (sym c.is_due.ensures ∙ c.if-is_due.false)

pub returns : goal.returns
returns c =
    let p = is_due_at c.args.mark c.args.wait c.args.root_wait in
    let es = c.self.inside.ring.items in
    let r = c.self.inside.big in
    let len = c.len-held.ensures.len in
    let test = c.loop-place-test.false in
    let end = c.min-place-end.ensures in
    let place = c.loop-place.place in
    let before = subst (λ (b : Buffer). NoneDue c.args.mark c.args.wait c.args.root_wait b.episodes c.args.start) (sym c.self.view_is) c.requires.none in
    let due = subst (λ (b : Buffer). DueAreTooBig c.args.mark c.args.wait c.args.root_wait c.args.start b.episodes) (sym c.self.view_is) c.requires.big in
    let none : NoneDue c.args.mark c.args.wait c.args.root_wait es (length es) = λ k d low l. (elim (nat_lt k place) as (λ b. nat_lt k place ≡ b → p (get_or es k d) ≡ false) [
      | true ↦ λ e. c.loop-place.invariant k d low (grind (arith, nat_tests))
      | false ↦ λ e. (elim (nat_lt k c.args.start) as (λ b. nat_lt k c.args.start ≡ b → p (get_or es k d) ≡ false) [
        | true ↦ λ f. before k d low (grind (arith, nat_tests))
        | false ↦ λ f. not-due-outside c.args.mark c.args.wait c.args.root_wait c.args.start r es k d c.self.invariant.4 due (grind (arith, nat_tests)) l (λ at. let last = at.1 in let behind : place ≤ k = grind (arith, nat_tests) in absurd (omega (arith, l, last, behind, len, test, end)))
      ]) refl
    ]) refl in
    sym (place-none p es none) ∙ ap (λ (b : Buffer). position p b.episodes) c.self.view_is
