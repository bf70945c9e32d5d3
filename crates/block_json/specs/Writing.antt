-- What is written where tokens are.
use Rattle.std.specs.Prelude.{◌≡◌, false, List, ◌++◌, refl}
use Rattle.std.proofs.Common.{sym, ap, ◌∙◌, append_assoc, append-nil}
use Rattle.json.specs.Token.{Token}
use Rattle.block_json.specs.declared.json_sink.JsonSink.{JsonSink}
use Rattle.block_json.specs.Sinks.{Composes}

-- unless the new one failed, the old one hadn't, and these tokens were written behind its own
abbrev pub Writes : (old new : JsonSink) → List Token → Type 0
Writes old new ts =
    new.failed ≡ false
    → (old.failed ≡ false) × (new.writer.before ≡ old.writer.before) × (new.writer.tokens ≡ old.writer.tokens ++ ts)

pub writes_compose : Composes Writes
writes_compose = record {
  nothing = λ a h. (h, refl, sym (append-nil a.writer.tokens));
  then = λ a b c xs ys p q h.
      let k = q h in
      let j = p k.0 in
      (j.0, k.1 ∙ j.1, k.2 ∙ ap (λ (ts : List Token). ts ++ ys) j.2 ∙ append_assoc a.writer.tokens xs ys);
}
