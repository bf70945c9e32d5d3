-- The text of what was written, and that it reads again.
-- For the clauses `text` and `back` of `encode`.
use Rattle.std.proofs.Common.{◌≡◌, ℕ, ◌≤◌, List, [], ◌++◌, Some, sym, ap, subst, ◌∙◌, append-nil, arith}
use Rattle.std.specs.Str.{IsUtf8}
use Rattle.json.specs.Lex.{tokens}
use Rattle.json.specs.Print.{print}
use Rattle.json.specs.Json.{value}
use Rattle.json.specs.Written.{Written}
use Rattle.json.proofs.Printed.Trees.{value-json_tokens}
use Rattle.serde_json.specs.Data.{Data, depth}
use Rattle.serde_json.specs.Read.{read}
use Rattle.otlp_json.specs.Outline.{outline, text_of}
use Rattle.otlp_json.specs.Canonical.{IsCanonical}
use Rattle.otlp_json.specs.Tokens.{Adds, value_tokens}
use Rattle.otlp_json.proofs.Canonical.{outline-reads, outline-depth}

-- a writer that began with nothing holds just the value's tokens
all-tokens : (d : Data) (a b : Written) → a.tokens ≡ [] → Adds a b (value_tokens d) → b.tokens ≡ value_tokens d
all-tokens d a b none h = h.1 ∙ ap (λ ts. ts ++ value_tokens d) none

pub encoded : (d : Data) (a b : Written) → a.before ≡ [] → a.tokens ≡ [] → Adds a b (value_tokens d) → b.before ++ print b.tokens ≡ text_of d
encoded d a b before none h = ap (λ (bytes : List ℕ). bytes ++ print b.tokens) (h.0 ∙ before) ∙ ap print (all-tokens d a b none h)

read-written : (d : Data) (bytes : List ℕ) → tokens bytes ≡ value_tokens d → IsCanonical d → depth d ≤ 127 → read bytes ≡ Some d
read-written d bytes same canonical shallow =
    let no_deeper = outline-depth d in
    let parsed : value 127 (tokens bytes) ≡ Some (outline d, [])
    = ap (value 127) (same ∙ sym (append-nil (value_tokens d))) ∙ value-json_tokens (outline d) 127 [] (omega (arith, no_deeper)) in
    rw parsed (outline-reads d canonical)

pub reads-again : (d : Data) (a b : Written) (bytes : List ℕ) → a.before ≡ [] → a.tokens ≡ [] → Adds a b (value_tokens d) → bytes ≡ b.before ++ print b.tokens
    → tokens (print b.tokens) ≡ b.tokens → IsUtf8 (print b.tokens) → IsCanonical d → depth d ≤ 127 → IsUtf8 bytes × (read bytes ≡ Some d)
reads-again d a b bytes before none h is same utf8 canonical shallow =
    let text : bytes ≡ print b.tokens = is ∙ ap (λ (front : List ℕ). front ++ print b.tokens) (h.0 ∙ before) in
    let written : b.tokens ≡ value_tokens d = all-tokens d a b none h in (
      subst (λ (s : List ℕ). IsUtf8 s) (sym text) utf8,
      read-written d bytes (ap tokens text ∙ same ∙ written) canonical shallow,
    )
