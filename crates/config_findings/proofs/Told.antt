-- What is told of a text: its faults, and behind them that some of its expressions are too big.
-- For the contract of `faults`.
use Rattle.std.proofs.Common.{◌≡◌, ◌≢◌, ◌++◌, ℕ, zero, suc, ◌≤◌, ◌⊎◌, inl, inr, refl, ap, ◌∙◌, arith, List, [], ◌∷◌, Option, None, Some, Result, Ok, Err, IsOk, IsErr, IfOk, replicate, count_by, Vec}
use Rattle.policy_tree.specs.declared.expressions.PolicyExpression.{PolicyExpression}
use Rattle.policy_tree.specs.Faults.{fault_of_policies}
use Rattle.policy_tree.specs.declared.fault.PolicyFault.{PolicyFault}
use Rattle.config_findings.specs.FaultLists.{Tells, faults_in, looked_at, policies_expressions, document_expressions, text_faults, text_expressions}
use Rattle.tsc_config.specs.FaultSets.{MayBeTooBig}
use Rattle.tsc_config.specs.Reading.{is_one, expressions_among, reading}
use Rattle.tsc_config.specs.Values.{config_of}
use Rattle.config_findings.proofs.FaultLists.{none_listed}
use Rattle.tsc_config.proofs.Settings.{read_as}
use Rattle.tsc_config.specs.declared.config.Config.{Config}
use Rattle.config_faults.specs.declared.fault.ConfigFault.{ConfigFault}
use Rattle.config_faults.specs.declared.fault.ConfigFault.TheVariants.{ExpressionTooBig}
use Rattle.config_findings.specs.declared.findings.ConfigFinding.{ConfigFinding}

nothing : {A : Type 0} (xs ys : List A) → [] ≡ xs ++ ys → xs ≡ []
nothing [] ys e = refl
nothing (x ∷ xs) ys e = cc

-- nothing is told only of a text that is read as a configuration
pub none_found : (findings : List ConfigFinding) (text : List ℕ) → Tells text (faults_in findings) → findings ≡ [] → IsOk (reading text)
none_found [] text (big, e, few) same = (none_listed text).0 (nothing (text_faults text) (replicate big ExpressionTooBig) e)
none_found (first ∷ rest) text told same = cc

-- policies without an expression have none that is too big
none_looked_at : (found : Option PolicyFault) (texts : List PolicyExpression) → texts ≡ [] → count_by is_one (looked_at found texts) ≡ 0
none_looked_at None texts e = rw e refl
none_looked_at (Some fault) texts e = refl

none_in_text : (text : List ℕ) (config : Config) → reading text ≡ Ok config → expressions_among config.policies ≡ [] → text_expressions text ≡ 0
none_in_text text config e none =
    let (members, parsed, same) = read_as (λ members made. config_of members ≡ made) (λ members f. refl) text config e in
    ap document_expressions parsed ∙ (ap (λ (made : Config). policies_expressions made.policies) same ∙ none_looked_at (fault_of_policies config.policies) (expressions_among config.policies) none)

none_big : (first : ConfigFault) (rest faults : List ConfigFault) (big most : ℕ) → faults ≡ [] → most ≡ 0 → big ≤ most → first ∷ rest ≡ faults ++ replicate big ExpressionTooBig → ⊥
none_big first rest faults zero most same none few e = let wrong : first ∷ rest ≡ [] = e ∙ ap (λ (fs : List ConfigFault). fs ++ []) same in cc
none_big first rest faults (suc big) most same none few e = absurd (omega (arith, none, few))

-- something is told only of a text that has a fault, or is read as a configuration with an expression
pub some_found : (findings : List ConfigFinding) (text : List ℕ) → Tells text (faults_in findings) → findings ≢ [] → IsErr (reading text) ⊎ MayBeTooBig (reading text)
some_found [] text told some = absurd (some refl)
some_found (first ∷ rest) text (big, e, few) some = of (reading text) refl
  where
    of : (answer : Result Config ConfigFault) → reading text ≡ answer → IsErr answer ⊎ MayBeTooBig answer
    of (Err fault) f = inl refl
    of (Ok config) f = inr (λ none. none_big first.fault (faults_in rest) (text_faults text) big (text_expressions text) ((none_listed text).1 (rw f refl)) (none_in_text text config f none) few e)

pub some_told : {A E : Type 0} (answer : Result (Vec ConfigFinding A) E) (text : List ℕ) (faults : List ConfigFault) (big : ℕ) → IfOk answer (λ found. faults_in found.items ≡ faults ++ replicate big ExpressionTooBig)
    → faults ≡ text_faults text → big ≤ text_expressions text → IfOk answer (λ found. found.items ≢ [] → IsErr (reading text) ⊎ MayBeTooBig (reading text))
some_told (Ok found) text faults big told same few = some_found found.items text (big, told ∙ ap (λ (fs : List ConfigFault). fs ++ replicate big ExpressionTooBig) same, few)
some_told (Err e) text faults big told same few = told
