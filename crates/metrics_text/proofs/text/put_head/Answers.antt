use Rattle.std.proofs.Common.{◌≡◌, ◌++◌, subst, OnOk}
use Rattle.std.specs.Prelude.{string_bytes, ℕ, List}
use Rattle.metrics_text.specs.Families.{head_lines}
use Rattle.metrics_text.proofs.text.put_head.Goals as goal

pub returns : goal.returns
returns c =
    subst (λ (word : List ℕ). OnOk c.write.result (string_bytes c.write.new.self ≡ string_bytes c.args.text.now ++ head_lines c.args.name.now c.args.help.now word))
    c.word-word.ensures c.write.ensures.bytes
