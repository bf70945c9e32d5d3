use Rattle.std.proofs.Common.{◌≡◌, ◌<◌, ℕ, ◌∙◌, ◌==◌, Bool, true, false, length, refl, sym, ap, arith}
use Rattle.std.proofs.lemmas.Bool.Decides.{nat_tests}
use Rattle.protobuf_wire.specs.Wire.{next_field}
use Rattle.protobuf_wire.proofs.Steps.{no_field, first_field, first_fault}
use Rattle.protobuf_wire.proofs.field.Fields.next.Goals as goal

is_zero : (b : Bool) (n : ℕ) → b ≡ (n == 0) → b ≡ true → n ≡ 0
is_zero b n e h = grind (arith, nat_tests)

is_more : (b : Bool) (n : ℕ) → b ≡ (n == 0) → b ≡ false → 0 < n
is_more b n e h = grind (arith, nat_tests)

pub returns-then-is_empty-clause-all : goal.returns-then-is_empty-clause-all
returns-then-is_empty-clause-all c = (no_field c.args.self.now (sym (ap length c.self.view_is) ∙ is_zero c.is_empty.result (length c.self.inside.rest.now) c.is_empty.ensures c.if-is_empty.true), refl)

pub returns-in-Ok-clause-all : goal.returns-in-Ok-clause-all
returns-in-Ok-clause-all c = first_field c.args.self.now _ c.in-Ok.rest.now (is_more c.is_empty.result _ (c.is_empty.ensures ∙ ap (λ s. length s == 0) c.self.view_is) c.if-is_empty.false) (ap next_field (sym c.self.view_is) ∙ c.in-Ok.ensures)

pub returns-in-Err-clause-all : goal.returns-in-Err-clause-all
returns-in-Err-clause-all c = (first_fault c.args.self.now c.in-Err.fault (is_more c.is_empty.result _ (c.is_empty.ensures ∙ ap (λ s. length s == 0) c.self.view_is) c.if-is_empty.false) (ap next_field (sym c.self.view_is) ∙ c.in-Err.ensures), refl)
