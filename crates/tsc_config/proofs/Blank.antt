-- A text of blanks and comments has no key.
-- For the contract of `read`.
use Rattle.std.proofs.Common.{◌≡◌, ℕ, ◌⊎◌, inl, inr, Some, Result, Ok, Err, IfErr, List, refl, sym, ◌∙◌}
use Rattle.toml.specs.Data.{Members, no_members}
use Rattle.toml.specs.Errors.{IsBlank}
use Rattle.toml.specs.Parse.{parse_document, lines}
use Rattle.config_faults.specs.Faults.{table_fault, keys_fault, twice_fault}
use Rattle.tsc_config.specs.declared.config.Config.{Config}
use Rattle.config_faults.specs.declared.fault.ConfigFault.{ConfigFault}
use Rattle.config_faults.specs.declared.fault.ConfigFault.TheVariants.{MissingKey, NoMemory, ExpressionTooBig}

-- its table is empty
blank_document : (text : List ℕ) → IsBlank text → parse_document text ≡ Some no_members
unfolding parse_document lines
blank_document text h = rw h

-- the empty table has no policies
empty_fault : table_fault no_members ≡ Some MissingKey
unfolding table_fault keys_fault twice_fault
empty_fault = refl

blank_has_fault : (text : List ℕ) (members : Members) (fault : ConfigFault) → parse_document text ≡ Some members → ((found : ConfigFault) → table_fault members ≡ Some found → fault ≡ found) → (fault ≡ NoMemory) ⊎ (fault ≡ ExpressionTooBig) → IsBlank text → ⊥
blank_has_fault text members fault parsed answered refused blank =
    let same : Some no_members ≡ Some members = sym (blank_document text blank) ∙ parsed in
    let missing : table_fault no_members ≡ Some MissingKey = empty_fault in
    let here : table_fault members ≡ Some MissingKey = cc in
    neither (answered MissingKey here) refused
  where
    neither : fault ≡ MissingKey → (fault ≡ NoMemory) ⊎ (fault ≡ ExpressionTooBig) → ⊥
    neither missed (inl e) = cc
    neither missed (inr e) = cc

pub blank_answers : (text : List ℕ) (members : Members) (answer : Result Config ConfigFault) → parse_document text ≡ Some members
    → IfErr answer (λ fault. (found : ConfigFault) → table_fault members ≡ Some found → fault ≡ found)
    → IfErr answer (λ fault. (fault ≡ NoMemory) ⊎ (fault ≡ ExpressionTooBig) → IsBlank text → ⊥)
blank_answers text members (Ok config) parsed answered = answered
blank_answers text members (Err fault) parsed answered = blank_has_fault text members fault parsed answered
