use Rattle.std.proofs.Common.{◌≡◌, ◌≢◌, ℕ, ◌+◌, ◌-◌, ◌∙◌, List, [], ◌∷◌, Bool, true, false, length, drop, take, get_or, Ok, refl, sym, ap, inl, inr, arith, rules, length-drop}
use Rattle.std.proofs.lemmas.List.{take_all}
use Rattle.journal_entry.specs.Reading.{Front}
use Rattle.journal_entry.proofs.Decisions.{step_refused, step_granted, step_next, is_ended, is_unfinished, is_other, is_cut}
use Rattle.journal_entry.proofs.answers.decisions_at.Goals as goal
use Rattle.journal_entry.proofs.answers.decisions_at.Goals.{in-0+in_ok-push-in-0, in-1+in_ok-push-in-1, in-2+in_ok-push-in-2}

pub loop-i-preserved : goal.loop-i-preserved
loop-i-preserved c =
    elim c.match-bytes-i.branch [
      | in-0+in_ok-push-in-0 w ↦
          let e = step_refused c.args.bytes.now c.loop-i.i c.loop-i.decisions c.loop-i.answers (omega arith) w.in-0.is c.loop-i.invariant in
          cc (e, w.decisions-is, w.answers-is, w.in_ok-push-in-0.ensures.ok)
      | in-1+in_ok-push-in-1 w ↦
          let e = step_granted c.args.bytes.now c.loop-i.i c.loop-i.decisions c.loop-i.answers (omega arith) w.in-1.is c.loop-i.invariant in
          cc (e, w.decisions-is, w.answers-is, w.in_ok-push-in-1.ensures.ok)
      | in-2+in_ok-push-in-2 w ↦
          let e = step_next c.args.bytes.now c.loop-i.i c.loop-i.decisions c.loop-i.answers (omega arith) w.in-2.is c.loop-i.invariant in
          cc (e, w.decisions-is, w.answers-is, w.in_ok-push-in-2.ensures.ok, w.replace.ensures.value, w.replace.ensures.after, w.new.ensures)
    ]

pub returns-then-is_empty : goal.returns-then-is_empty
returns-then-is_empty c =
    let s : List ℕ = c.args.bytes.now in
    is_ended s c.loop-i.i c.loop-i.decisions c.loop-i.answers (omega arith) c.in-3.is (c.is_empty.ensures.0 c.if-is_empty.true) c.loop-i.invariant
    ∙ ap (λ (left : List ℕ). let r : Front (List (List Bool)) = Ok (c.loop-i.decisions, left) in r) (sym (take_all (length s - (c.loop-i.i + 1)) (drop (c.loop-i.i + 1) s) (omega (arith, length-drop (c.loop-i.i + 1) s))))

pub returns-in-3 : goal.returns-in-3
returns-in-3 c =
    let some : c.loop-i.answers ≢ [] = λ none. let full : true ≡ c.is_empty.result = sym (c.is_empty.ensures.1 none) in let bare : c.is_empty.result ≡ false = c.if-is_empty.false in cc (full, bare) in
    inr (is_unfinished c.args.bytes.now c.loop-i.i c.loop-i.decisions c.loop-i.answers (omega arith) c.in-3.is some c.loop-i.invariant)

pub returns-in_default : goal.returns-in_default
returns-in_default c = inr (is_other c.args.bytes.now c.loop-i.i (get_or c.args.bytes.now c.loop-i.i 0) c.loop-i.decisions c.loop-i.answers (omega arith) refl (omega arith) c.loop-i.invariant)

pub returns : goal.returns
returns c = inr (is_cut c.args.bytes.now c.loop-i.i c.loop-i.decisions c.loop-i.answers (omega arith) c.loop-i.invariant)
