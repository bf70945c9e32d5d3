use Rattle.std.proofs.Common.{◌≡◌, ◌++◌, drop, string_bytes}
use Rattle.ottl_print.specs.Texts.{keys_text}
use Rattle.ottl_print.proofs.texts.put_keys.Given as goal

abbrev pub invariant-loop-key : goal.invariant-loop-key
invariant-loop-key l = string_bytes l.text ++ keys_text (drop l.key-index l.keys) ≡ string_bytes l.initial.text ++ keys_text l.keys
