-- What a walk through the members of a table finds at a key is what a look-up finds there.
-- For the contract of `policies_are_of_their_keys`.
use Rattle.std.proofs.Common.{◌≡◌, ℕ, Bool, refl, ap, sym, ◌∙◌, List, [], Option, None, Some, if◌then◌else◌, Ordering, Less, Equal, Greater}
use Rattle.std.proofs.lemmas.Map.Text.{is_eq-slice_cmp}
use Rattle.std.specs.Str.{bytes_eq}
use Rattle.std.specs.Ordering.{nat_cmp, is_eq, match_ordering}
use Rattle.std.specs.Cmp.Lexicographic.{slice_cmp}
use Rattle.toml.specs.Data.{Data, Members, no_members, member, get_member}
use Rattle.policy_tree.specs.declared.policy.Join.{Join}
use Rattle.config_faults.specs.Faults.{parts_fault, parts_settings_fault, sub_policies_fault, sub_value_fault}
use Rattle.config_faults.specs.Keys.{join_name, sub_key}
use Rattle.config_faults.specs.declared.fault.ConfigFault.TheVariants.{MissingKey}
use Rattle.tsc_config.proofs.Shares.{turned}
use Rattle.tsc_config.specs.Values.{parts_policies, parts_settings, sub_policies, sub_value}

-- what is made of the value at a key, where it stands there
abbrev pub looked : {X : Type 0} → X → (Data → X) → Option Data → X
looked none f None = none
looked none f (Some value) = f value

-- a walk through the members finds what a look-up finds
walk : {X : Type 0} (k : List ℕ) (none : X) (f : Data → X) (w : Members → X) → w no_members ≡ none
    → ((key : List ℕ) (value : Data) (rest : Members) → w (member key value rest) ≡ (if bytes_eq key k then f value else w rest)) → (ms : Members) → w ms ≡ looked none f (get_member k ms)
walk k none f w z s no_members = z
walk {X} k none f w z s (member key value rest) = s key value rest ∙ ap (λ (r : Bool). if r then f value else w rest) (turned k key ∙ sym (is_eq-slice_cmp k key)) ∙ go (slice_cmp nat_cmp k key) (walk k none f w z s rest)
  where
    go : (o : Ordering) → w rest ≡ looked none f (get_member k rest)
        → (if is_eq o then f value else w rest) ≡ looked none f (match_ordering o (get_member k rest) (Some value) (get_member k rest))
    go Less later = later
    go Equal later = refl
    go Greater later = later

pub parts_found : (join : Join) (ms : Members) → parts_policies join ms ≡ looked [] (parts_settings join) (get_member (join_name join) ms)
parts_found join ms = walk (join_name join) [] (parts_settings join) (parts_policies join) refl (λ key value rest. refl) ms

pub parts_fault_found : (join : Join) (ms : Members) → parts_fault join ms ≡ looked (Some MissingKey) (parts_settings_fault join) (get_member (join_name join) ms)
parts_fault_found join ms = walk (join_name join) (Some MissingKey) (parts_settings_fault join) (parts_fault join) refl (λ key value rest. refl) ms

pub sub_found : (join : Join) (ms : Members) → sub_policies join ms ≡ looked [] (sub_value join) (get_member (sub_key join) ms)
sub_found join ms = walk (sub_key join) [] (sub_value join) (sub_policies join) refl (λ key value rest. refl) ms

pub sub_fault_found : (join : Join) (ms : Members) → sub_policies_fault join ms ≡ looked (Some MissingKey) (sub_value_fault join) (get_member (sub_key join) ms)
sub_fault_found join ms = walk (sub_key join) (Some MissingKey) (sub_value_fault join) (sub_policies_fault join) refl (λ key value rest. refl) ms
