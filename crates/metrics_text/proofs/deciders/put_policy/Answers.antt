use Rattle.std.proofs.Common.{◌≡◌, ◌++◌, ℕ, List, ap, subst, ◌∙◌}
use Rattle.std.specs.Prelude.{OnOk, codes, string_bytes}
use Rattle.metrics_text.specs.Families.{sample, sample_line}
use Rattle.metrics_text.specs.Deciders.{decided_line, decided_name, value_of}
use Rattle.metrics_text.proofs.Appending.{appended-then}
use Rattle.metrics_text.proofs.deciders.put_policy.Goals as goal

-- the line of a policy for which this value stands
abbrev line_of : (value decision : List ℕ) → (traces : ℕ) → List ℕ
line_of value decision traces = sample_line decided_name (sample (codes "{policy=\"" ++ (value ++ (codes "\",decision=\"" ++ (decision ++ codes "\"}")))) traces)

pub returns : goal.returns
returns c =
    let policy = c.args.policy.now in
    let old : List ℕ = string_bytes c.args.text.now in
    let between : List ℕ = string_bytes c.put_decided.new.text in
    let new : List ℕ = string_bytes c.put_decided-2.new.text in
    let value : string_bytes c.in_ok-value.value ≡ value_of policy = c.in_ok-value.ensures in
    let P = λ (v : List ℕ). between ≡ old ++ line_of v (codes "sampled") policy.sampled in
    let Q = λ (v : List ℕ). OnOk c.put_decided-2.result (new ≡ between ++ line_of v (codes "not_sampled") policy.not_sampled) in
    appended-then c.put_decided-2.result old (decided_line (value_of policy) (codes "sampled") policy.sampled) between (decided_line (value_of policy) (codes "not_sampled") policy.not_sampled) new
    (subst P (c.as_str.ensures.value ∙ value) c.in_ok-put_decided.ensures) (subst Q (c.as_str-2.ensures.value ∙ value) c.put_decided-2.ensures)
