use Rattle.std.proofs.Common.{ap, subst, arith}
use Rattle.std.proofs.lemmas.Str.{IsUtf8-string_bytes}
use Rattle.std.specs.Prelude.{IsUtf8}
use Rattle.collector_commands.proofs.configuration.text_in.Goals as goal

-- the bytes of a text are UTF-8
pub returns-in-Ok-clause-some : goal.returns-in-Ok-clause-some
returns-in-Ok-clause-some c = (grind (arith, c.if-len-gt-MAX_CONFIG_LEN.false, c.len.ensures), subst IsUtf8 (ap (λ v. v.items) c.in-Ok.ensures.ok) (IsUtf8-string_bytes c.in-Ok.text))
