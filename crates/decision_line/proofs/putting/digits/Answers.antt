use Rattle.std.proofs.Common.{◌≡◌, ◌∙◌, rules, sym}
use Rattle.hex.specs.Hex.{encode_lower}
use Rattle.decision_line.proofs.Escapes.{id-plain}
use Rattle.decision_line.proofs.putting.digits.Goals as goal

pub returns : goal.returns
returns c =
    let written : c.encode_to_slice-written.new.output ≡ encode_lower c.args.bytes.now = search rules in
    written ∙ sym (id-plain c.args.bytes.now (λ i. (c.type_inv.bytes i).fits))
