use Rattle.std.proofs.Common.{◌≡◌, ℕ, List, ◌++◌, IfOk, codes, string_bytes, subst}
use Rattle.config_findings.proofs.finding_texts.no_key_text.Goals as goal

-- each text is that of its hint
pub returns-in-Nothing : goal.returns-in-Nothing
returns-in-Nothing c =
    let P : List ℕ → Type 0 = λ (h : List ℕ). IfOk c.format.result (λ said. string_bytes said ≡ c.args.here.now ++ (codes ": no such key" ++ h)) in
    subst P c.in-Nothing.ensures c.format.ensures.ok

pub returns-in-Key : goal.returns-in-Key
returns-in-Key c =
    let P : List ℕ → Type 0 = λ (h : List ℕ). IfOk c.format-in-Key.result (λ said. string_bytes said ≡ c.args.here.now ++ (codes ": no such key" ++ h)) in
    subst P c.in-Key.ensures c.format-in-Key.ensures.ok

pub returns-in-Words : goal.returns-in-Words
returns-in-Words c =
    let P : List ℕ → Type 0 = λ (h : List ℕ). IfOk c.format-in-Words.result (λ said. string_bytes said ≡ c.args.here.now ++ (codes ": no such key" ++ h)) in
    subst P c.in-Words.ensures c.format-in-Words.ensures.ok
