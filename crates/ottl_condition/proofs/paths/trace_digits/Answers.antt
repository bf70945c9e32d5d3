use Rattle.std.proofs.Common.{◌≡◌, ℕ, List, subst, sym, rules}
use Rattle.std.specs.Str.{IsUtf8}
use Rattle.hex.specs.Hex.{encode_lower}
use Rattle.ottl_condition.proofs.Digits.{digits-utf8}
use Rattle.ottl_condition.proofs.paths.trace_digits.Goals as goal

pub digits_text-requires-clause-utf8 : goal.digits_text-requires-clause-utf8
digits_text-requires-clause-utf8 c =
    let written : c.encode_to_slice-written.new.output ≡ encode_lower c.args.id = search rules in
    let P : List ℕ → Type 0 = λ s. IsUtf8 s in subst P (sym written) (digits-utf8 c.args.id)
