use Rattle.std.proofs.Common.{◌≡◌, ℕ, List, length, ◌==◌, Some, codes, pos, sym, ap, ◌∙◌, rules}
use mir.Val.{of_z}
use mir.Syntax.{w32}
use Rattle.serde_json.specs.Data.{object}
use Rattle.otlp_json.specs.Writing.{message_field, status_fields}
use Rattle.span_size.proofs.Counts.{nothing}
use Rattle.span_size.proofs.Objects.{field-of}
use Rattle.span_size.proofs.Defaults.{no-status, status-of-code, status-of-message}
use Rattle.span_size.proofs.span.status_of.Goals.{else-status-eq0-via-then-status-eq0+else-is_empty, else-status-eq0-via-else-status-eq0}
use Rattle.span_size.proofs.span.status_of.Goals as goal

pub returns-then-is_empty : goal.returns-then-is_empty
returns-then-is_empty c =
    let zero : c.args.status.now.code ≡ pos 0 = search rules in
    let none = no-status c.args.status.now zero (ap (λ (s : List ℕ). length s == 0) (sym c.as_str.ensures) ∙ sym c.is_empty.ensures ∙ c.if-is_empty.true) in
    rw none (nothing c.args.out.now)

pub returns : goal.returns
returns c =
    let s = c.args.status.now in
    let some : message_field (status_fields s) ≡ Some (object (status_fields s)) = elim c.else-status-eq0.branch [
      | else-status-eq0-via-then-status-eq0+else-is_empty w ↦ status-of-message s (ap (λ (t : List ℕ). length t == 0) (sym w.as_str.ensures) ∙ sym w.is_empty.ensures ∙ w.if-is_empty.false)
      | else-status-eq0-via-else-status-eq0 w ↦ status-of-code s (λ zero. w.if-status-eq0.false (ap (of_z w32) zero))
    ] in
    field-of (codes "status") _ (object (status_fields s)) some c.key.ensures c.count.ensures
