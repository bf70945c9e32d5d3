-- The traces that each policy decided: one family, with a sample for each policy and decision.
use Rattle.std.specs.Prelude.{ℕ, List, [], ◌∷◌, ◌++◌, ◌==◌, map, codes, decimal, Option, Some, None, if◌then◌else◌}
use Rattle.std.specs.List.{concat}
use Rattle.metrics_text.specs.declared.metrics.PolicyNumbers.{PolicyNumbers}
use Rattle.metrics_text.specs.declared.kind.FamilyKind.TheVariants.{Counter}
use Rattle.metrics_text.specs.Families.{head_lines, sample, sample_line, word_of}

-- a byte of a label's value: a backslash, a quote and a line feed stand behind a backslash
abbrev pub escaped_byte : ℕ → List ℕ
escaped_byte b = if b == 92 then codes "\\\\" else if b == 34 then codes "\\\"" else if b == 10 then codes "\\n" else b ∷ []

-- a text as a label's value
abbrev pub escaped : List ℕ → List ℕ
escaped text = concat (map escaped_byte text)

abbrev pub decided_name : List ℕ
decided_name = codes "tsc_traces_decided_total"

-- behind the name of a policy without one its place stands under a label of its own
abbrev pub place_label : Option ℕ → List ℕ
place_label None = []
place_label (Some place) = codes "\",place=\"" ++ decimal place

-- what stands for a policy behind `policy="`
abbrev pub value_of : PolicyNumbers → List ℕ
value_of policy = escaped policy.name ++ place_label policy.place

-- the labels of a policy, for which this value stands, and a decision
abbrev pub decided_labels : (value decision : List ℕ) → List ℕ
decided_labels value decision = codes "{policy=\"" ++ (value ++ (codes "\",decision=\"" ++ (decision ++ codes "\"}")))

-- the line of a policy and a decision
abbrev pub decided_line : (value decision : List ℕ) → (traces : ℕ) → List ℕ
decided_line value decision traces = sample_line decided_name (sample (decided_labels value decision) traces)

-- the lines of a policy
abbrev pub decided_lines : PolicyNumbers → List ℕ
decided_lines policy = decided_line (value_of policy) (codes "sampled") policy.sampled ++ decided_line (value_of policy) (codes "not_sampled") policy.not_sampled

-- the lines of the family
abbrev pub policies_text : List PolicyNumbers → List ℕ
policies_text policies = head_lines decided_name (codes "Traces that were decided, by the policy that decided.") (word_of Counter) ++ concat (map decided_lines policies)
