use Rattle.std.proofs.Common.{ℕ, List, length, ◌==◌, sym, ap, ◌∙◌}
use Rattle.serde_json.specs.Data.{string}
use Rattle.span_size.proofs.Counts.{nothing}
use Rattle.span_size.proofs.Objects.{field-of}
use Rattle.span_size.proofs.Defaults.{no-text, some-text}
use Rattle.span_size.proofs.counting.text.Goals as goal

pub returns-then-is_empty : goal.returns-then-is_empty
returns-then-is_empty c =
    let none = no-text c.args.text.now (ap (λ (s : List ℕ). length s == 0) (sym c.as_str-text.ensures) ∙ sym c.is_empty.ensures ∙ c.if-is_empty.true) in
    rw none (nothing c.args.out.now)

pub returns : goal.returns
returns c =
    let some = some-text c.args.text.now (ap (λ (s : List ℕ). length s == 0) (sym c.as_str-text.ensures) ∙ sym c.is_empty.ensures ∙ c.if-is_empty.false) in
    field-of c.args.name.now _ (string c.args.text.now) some c.key.ensures (rw c.as_str-text.ensures at c.string.ensures)
