-- A table with its defaults is read as the table.
-- For the clause `reads` of `settings_in_force`.
use Rattle.std.proofs.Common.{◌≡◌, ℕ, Bool, true, false, not, ◌&&◌, List, [], ◌∷◌, map, Option, Some, None, codes, pos, refl, ap, ◌∙◌, if◌then◌else◌, nat_cmp, is_eq}
use Rattle.std.specs.Cmp.Lexicographic.{slice_cmp}
use Rattle.std.specs.List.{list_all}
use Rattle.std.specs.Option.{is_some}
use Rattle.toml.specs.Data.{Data, string, integer, boolean, table, Members, no_members, get_member}
use Rattle.config_faults.specs.Faults.{least, optional, required, unknown_fault, wanted_fault, integer_fault, cache_fault, export_fault, ledger_fault, policies_fault, each_setting_fault, twice_fault, keys_fault, table_fault}
use Rattle.config_faults.specs.Keys.{is_key, has_unknown_key}
use Rattle.config_faults.specs.Setting.{Setting}
use Rattle.config_faults.specs.Tables.{number_row, choice_row, other_settings, top_settings, cache_settings, export_settings, ledger_settings}
use Rattle.config_faults.specs.declared.fault.ConfigFault.{ConfigFault}
use Rattle.config_faults.specs.declared.fault.ConfigFault.TheVariants.{UnknownKey}
use Rattle.config_faults.specs.declared.tables.ChoiceKey.{ChoiceKey}
use Rattle.config_faults.specs.declared.tables.ChoiceKey.TheVariants as choice_is
use Rattle.config_faults.specs.declared.tables.NumberKey.{NumberKey}
use Rattle.config_faults.specs.declared.tables.NumberKey.TheVariants as number_is
use Rattle.config_faults.specs.declared.keys.TableKind.{TableKind}
use Rattle.config_faults.specs.declared.keys.TableKind.TheVariants as table_is
use Rattle.tsc_config.specs.Reading.{reading_of_table}
use Rattle.tsc_config.specs.declared.log_form.LogForm.{LogForm}
use Rattle.tsc_config.specs.declared.output_fault.OutputFault.{OutputFault}
use Rattle.tsc_config.specs.Values.{bounded_of, number_by, first_found, cache_size, address_of, truth_of, is_other, log_form_of, output_fault_of, export_in, export_of, ledger_sync_of, ledger_in, ledger_of, config_of}
use Rattle.tsc_config.specs.declared.exports.Export.{Export}
use Rattle.tsc_config.specs.declared.ledger.Ledger.{Ledger}
use Rattle.tsc_config.specs.declared.ledger.LedgerSync.{LedgerSync}
use Rattle.config_text.specs.Defaults.{number_default, defaults, cache_defaults, export_defaults, ledger_defaults}
use Rattle.config_text.specs.Members.{Default, with_default, with_each, with_inner}
use Rattle.config_text.specs.Whole.{with_root_wait, with_defaults}
use Rattle.config_text.proofs.Lookups.{or_else, value_at, each}
use Rattle.config_text.proofs.Within.{filled, unfilled, inner_value, inner_here, inner_elsewhere, default_known, each_known, inner_known, are_keys, first_of, second_of}

-- two names differ
abbrev pub Apart : (key name : List ℕ) → Type 0
Apart key name = is_eq (slice_cmp nat_cmp key name) ≡ false

-- the table below those within it
abbrev pub outer : Members → Members
outer m = with_each defaults (with_root_wait m)

-- the table with those within it, but for `ledger`
abbrev pub sent : Members → Members
sent m = with_inner (codes "export") export_defaults (with_inner (codes "decision_cache") cache_defaults (outer m))

-- ---- a key of the outer table

root_elsewhere : (key : List ℕ) (m : Members) → Apart key (codes "root_wait_ms") → get_member key (with_root_wait m) ≡ get_member key m
root_elsewhere key m h = of (is_some (get_member (codes "decision_wait_after_root_received_ms") m))
  where
    of : (s : Bool) → get_member key (if s then m else with_default (number_default number_is.RootWait) m) ≡ get_member key m
    of true = refl
    of false = unfilled key (number_default number_is.RootWait ∷ []) m (rw h refl)

above : (key : List ℕ) (m : Members) → Apart key (codes "ledger") → Apart key (codes "export") → Apart key (codes "decision_cache") → get_member key (with_defaults m) ≡ get_member key (outer m)
unfolding with_defaults
above key m l a b =
    inner_elsewhere key (codes "ledger") ledger_defaults (sent m) l
    ∙ inner_elsewhere key (codes "export") export_defaults (with_inner (codes "decision_cache") cache_defaults (outer m)) a
    ∙ inner_elsewhere key (codes "decision_cache") cache_defaults (outer m) b

-- a key whose default reads as no value does
plain : (A : Type 0) (f : Option Data → A) (key : List ℕ) (d : Data) (m : Members) → Apart key (codes "ledger") → Apart key (codes "export") → Apart key (codes "decision_cache") → Apart key (codes "root_wait_ms")
    → value_at key defaults ≡ Some d → f (Some d) ≡ f None → f (get_member key (with_defaults m)) ≡ f (get_member key m)
plain A f key d m l a b c at same = ap f (above key m l a b) ∙ filled A f key defaults d (with_root_wait m) at same ∙ ap f (root_elsewhere key m c)

-- a key without a default
bare : (key : List ℕ) (m : Members) → Apart key (codes "ledger") → Apart key (codes "export") → Apart key (codes "decision_cache") → Apart key (codes "root_wait_ms") → value_at key defaults ≡ None
    → get_member key (with_defaults m) ≡ get_member key m
bare key m l a b c at = above key m l a b ∙ unfilled key defaults (with_root_wait m) at ∙ root_elsewhere key m c

-- ---- the wait from a trace's root on, by both its names

joint : (A : Type 0) (f : Option Data → Option Data → A) (m : Members) (received : Option Data) → f (Some (integer (pos 0))) None ≡ f None None
    → f (get_member (codes "root_wait_ms") (if is_some received then m else with_default (number_default number_is.RootWait) m)) received ≡ f (get_member (codes "root_wait_ms") m) received
joint A f m (Some x) same = refl
joint A f m None same = filled A (λ o. f o None) (codes "root_wait_ms") (number_default number_is.RootWait ∷ []) (integer (pos 0)) m refl same

pub root_here : (m : Members) → get_member (codes "root_wait_ms") (with_defaults m) ≡ get_member (codes "root_wait_ms") (with_root_wait m)
root_here m = above (codes "root_wait_ms") m refl refl refl ∙ unfilled (codes "root_wait_ms") defaults (with_root_wait m) refl

pub received_here : (m : Members) → get_member (codes "decision_wait_after_root_received_ms") (with_defaults m) ≡ get_member (codes "decision_wait_after_root_received_ms") m
received_here m = bare (codes "decision_wait_after_root_received_ms") m refl refl refl refl refl

pair : (A : Type 0) (f : Option Data → Option Data → A) (m : Members) → f (Some (integer (pos 0))) None ≡ f None None
    → f (get_member (codes "root_wait_ms") (with_defaults m)) (get_member (codes "decision_wait_after_root_received_ms") (with_defaults m))
    ≡ f (get_member (codes "root_wait_ms") m) (get_member (codes "decision_wait_after_root_received_ms") m)
pair A f m same =
    ap (λ o. f o (get_member (codes "decision_wait_after_root_received_ms") (with_defaults m))) (root_here m)
    ∙ ap (f (get_member (codes "root_wait_ms") (with_root_wait m))) (received_here m)
    ∙ joint A f m (get_member (codes "decision_wait_after_root_received_ms") m) same

-- ---- faults of settings

both : (a b c d : Option ConfigFault) → a ≡ b → c ≡ d → least a c ≡ least b d
both a b c d e f = rw (e, f) refl

-- the fault of what stands at the key of a setting
abbrev key_fault : Setting → Option Data → Option ConfigFault
key_fault s at = if s.is_required then required (wanted_fault s.value) at else optional (wanted_fault s.value) at

-- the fault of what these settings have by these defaults, and where nothing stands there
abbrev defaults_fit : List Default → List Setting → Type 0
defaults_fit rows settings = map (λ (s : Setting). key_fault s (value_at s.name rows)) settings ≡ map (λ (s : Setting). key_fault s None) settings

same_or : (f : Option Data → Option ConfigFault) (g d : Option Data) → f d ≡ f None → f (or_else g d) ≡ f g
same_or f None d h = h
same_or f (Some x) d h = refl

-- within a table with these defaults
each_fault : (rows : List Default) (settings : List Setting) (m : Members) → defaults_fit rows settings → each_setting_fault settings (with_each rows m) ≡ each_setting_fault settings m
each_fault rows [] m e = refl
each_fault rows (s ∷ rest) m e =
    let first : key_fault s (value_at s.name rows) ≡ key_fault s None = cc in
    let others : defaults_fit rows rest = cc in
    both _ _ _ _ (ap (key_fault s) (each s.name rows m) ∙ same_or (key_fault s) (get_member s.name m) (value_at s.name rows) first) (each_fault rows rest m others)

-- a key that isn't one of those of tables, nor the wait from a trace's root on
abbrev is_apart : (key : List ℕ) → Bool
is_apart key =
    not (is_eq (slice_cmp nat_cmp key (codes "ledger"))) && (not (is_eq (slice_cmp nat_cmp key (codes "export"))) && (not (is_eq (slice_cmp nat_cmp key (codes "decision_cache"))) && not (is_eq (slice_cmp nat_cmp key (codes "root_wait_ms")))))

differ : (r : Bool) → not r ≡ true → r ≡ false
differ true h = cc
differ false h = refl

at_key : (key : List ℕ) (m : Members) → is_apart key ≡ true → get_member key (with_defaults m) ≡ or_else (get_member key m) (value_at key defaults)
at_key key m h =
    let l = first_of (not (is_eq (slice_cmp nat_cmp key (codes "ledger")))) _ h in
    let q = second_of (not (is_eq (slice_cmp nat_cmp key (codes "ledger")))) _ h in
    let a = first_of (not (is_eq (slice_cmp nat_cmp key (codes "export")))) _ q in
    let r = second_of (not (is_eq (slice_cmp nat_cmp key (codes "export")))) _ q in
    let b = first_of (not (is_eq (slice_cmp nat_cmp key (codes "decision_cache")))) _ r in
    let c = second_of (not (is_eq (slice_cmp nat_cmp key (codes "decision_cache")))) _ r in
    above key m (differ _ l) (differ _ a) (differ _ b) ∙ each key defaults (with_root_wait m) ∙ ap (λ o. or_else o (value_at key defaults)) (root_elsewhere key m (differ _ c))

-- of the whole table
outer_fault : (settings : List Setting) (m : Members) → list_all (λ (s : Setting). is_apart s.name) settings ≡ true → defaults_fit defaults settings
    → each_setting_fault settings (with_defaults m) ≡ each_setting_fault settings m
outer_fault [] m h e = refl
outer_fault (s ∷ rest) m h e =
    let first : key_fault s (value_at s.name defaults) ≡ key_fault s None = cc in
    let others : defaults_fit defaults rest = cc in
    both _ _ _ _ (ap (key_fault s) (at_key s.name m (first_of (is_apart s.name) _ h)) ∙ same_or (key_fault s) (get_member s.name m) (value_at s.name defaults) first)
    (outer_fault rest m (second_of (is_apart s.name) _ h) others)

top_fault : (m : Members) → each_setting_fault top_settings (with_defaults m) ≡ each_setting_fault top_settings m
top_fault m =
    both _ _ _ _ (plain (Option ConfigFault) (optional (integer_fault (pos 1) (pos 3600000))) (codes "decision_wait_ms") (integer (pos 30000)) m refl refl refl refl refl refl)
    (both _ _ _ _ (pair (Option ConfigFault) (λ root _. optional (integer_fault (pos 0) (pos 3600000)) root) m refl)
    (both _ _ _ _ (ap (optional (integer_fault (pos 0) (pos 3600000))) (received_here m)) (outer_fault other_settings m refl refl)))

-- ---- values of settings

number_of : (key : NumberKey) (m : Members) → Apart (number_row key).name (codes "ledger") → Apart (number_row key).name (codes "export") → Apart (number_row key).name (codes "decision_cache") → Apart (number_row key).name (codes "root_wait_ms")
    → value_at (number_row key).name defaults ≡ Some (integer (pos (number_row key).default)) → bounded_of (number_row key) (Some (integer (pos (number_row key).default))) ≡ (number_row key).default
    → number_by (number_row key) (with_defaults m) ≡ number_by (number_row key) m
number_of key m l a b c at same = plain ℕ (bounded_of (number_row key)) (number_row key).name (integer (pos (number_row key).default)) m l a b c at same

choice_of : (key : ChoiceKey) (m : Members) → Apart (choice_row key).name (codes "ledger") → Apart (choice_row key).name (codes "export") → Apart (choice_row key).name (codes "decision_cache") → Apart (choice_row key).name (codes "root_wait_ms")
    → value_at (choice_row key).name defaults ≡ Some (string (choice_row key).default) → is_other (choice_row key) (Some (string (choice_row key).default)) ≡ false
    → is_other (choice_row key) (get_member (choice_row key).name (with_defaults m)) ≡ is_other (choice_row key) (get_member (choice_row key).name m)
choice_of key m l a b c at same = plain Bool (is_other (choice_row key)) (choice_row key).name (string (choice_row key).default) m l a b c at same

-- the number of a row of a table with these defaults
within_of : (key : NumberKey) (rows : List Default) (given : Members) → value_at (number_row key).name rows ≡ Some (integer (pos (number_row key).default))
    → bounded_of (number_row key) (Some (integer (pos (number_row key).default))) ≡ (number_row key).default → number_by (number_row key) (with_each rows given) ≡ number_by (number_row key) given
within_of key rows given at same = filled ℕ (bounded_of (number_row key)) (number_row key).name rows (integer (pos (number_row key).default)) given at same

-- ---- keys that the tables have

known : (kind : TableKind) (rows : List Default) (m : Members) → are_keys kind rows ≡ true → unknown_fault kind (with_each rows m) ≡ unknown_fault kind m
known kind rows m h = ap (λ b. if b then Some UnknownKey else None) (each_known kind rows m h)

root_known : (m : Members) → has_unknown_key table_is.Config (with_root_wait m) ≡ has_unknown_key table_is.Config m
unfolding is_key
root_known m = of (is_some (get_member (codes "decision_wait_after_root_received_ms") m))
  where
    of : (s : Bool) → has_unknown_key table_is.Config (if s then m else with_default (number_default number_is.RootWait) m) ≡ has_unknown_key table_is.Config m
    of true = refl
    of false = default_known table_is.Config (number_default number_is.RootWait) m refl

config_keys : are_keys table_is.Config defaults ≡ true
unfolding is_key
config_keys = refl

cache_keys : are_keys table_is.DecisionCache cache_defaults ≡ true
unfolding is_key
cache_keys = refl

export_keys : are_keys table_is.Export export_defaults ≡ true
unfolding is_key
export_keys = refl

ledger_keys : are_keys table_is.Ledger ledger_defaults ≡ true
unfolding is_key
ledger_keys = refl

ledger_known : is_key table_is.Config (codes "ledger") ≡ true
unfolding is_key
ledger_known = refl

export_known : is_key table_is.Config (codes "export") ≡ true
unfolding is_key
export_known = refl

cache_known : is_key table_is.Config (codes "decision_cache") ≡ true
unfolding is_key
cache_known = refl

all_known : (m : Members) → has_unknown_key table_is.Config (with_defaults m) ≡ has_unknown_key table_is.Config m
unfolding with_defaults
all_known m =
    inner_known table_is.Config (codes "ledger") ledger_defaults (sent m) ledger_known
    ∙ inner_known table_is.Config (codes "export") export_defaults (with_inner (codes "decision_cache") cache_defaults (outer m)) export_known
    ∙ inner_known table_is.Config (codes "decision_cache") cache_defaults (outer m) cache_known
    ∙ each_known table_is.Config defaults (with_root_wait m) config_keys
    ∙ root_known m

-- ---- the table of caches

pub cache_here : (m : Members) → get_member (codes "decision_cache") (with_defaults m) ≡ inner_value cache_defaults (or_else (get_member (codes "decision_cache") m) (Some (table no_members)))
unfolding with_defaults
cache_here m =
    inner_elsewhere (codes "decision_cache") (codes "ledger") ledger_defaults (sent m) refl
    ∙ inner_elsewhere (codes "decision_cache") (codes "export") export_defaults (with_inner (codes "decision_cache") cache_defaults (outer m)) refl
    ∙ inner_here (codes "decision_cache") cache_defaults (outer m)
    ∙ ap (inner_value cache_defaults)
    (each (codes "decision_cache") defaults (with_root_wait m) ∙ ap (λ o. or_else o (Some (table no_members))) (root_elsewhere (codes "decision_cache") m refl))

caches : (A : Type 0) (f : Option Data → A) (m : Members) → ((at : Option Data) → f (inner_value cache_defaults (or_else at (Some (table no_members)))) ≡ f at)
    → f (get_member (codes "decision_cache") (with_defaults m)) ≡ f (get_member (codes "decision_cache") m)
caches A f m same = ap f (cache_here m) ∙ same (get_member (codes "decision_cache") m)

cache_fault_of : (at : Option Data) → optional cache_fault (inner_value cache_defaults (or_else at (Some (table no_members)))) ≡ optional cache_fault at
unfolding is_key
cache_fault_of None = refl
cache_fault_of (Some (table sizes)) = both _ _ _ _ (known table_is.DecisionCache cache_defaults sizes cache_keys) (each_fault cache_defaults cache_settings sizes refl)
cache_fault_of (Some _) = refl

size_of : (key : NumberKey) (at : Option Data) → value_at (number_row key).name cache_defaults ≡ Some (integer (pos (number_row key).default)) → bounded_of (number_row key) (Some (integer (pos (number_row key).default))) ≡ (number_row key).default
    → cache_size (number_row key) (inner_value cache_defaults (or_else at (Some (table no_members)))) ≡ cache_size (number_row key) at
size_of key None at same = within_of key cache_defaults no_members at same
size_of key (Some (table sizes)) at same = within_of key cache_defaults sizes at same
size_of key (Some _) at same = refl

-- ---- the table of `export`

pub export_here : (m : Members) → get_member (codes "export") (with_defaults m) ≡ inner_value export_defaults (get_member (codes "export") m)
unfolding with_defaults
export_here m =
    inner_elsewhere (codes "export") (codes "ledger") ledger_defaults (sent m) refl
    ∙ inner_here (codes "export") export_defaults (with_inner (codes "decision_cache") cache_defaults (outer m))
    ∙ ap (inner_value export_defaults)
    (inner_elsewhere (codes "export") (codes "decision_cache") cache_defaults (outer m) refl
    ∙ unfilled (codes "export") defaults (with_root_wait m) refl ∙ root_elsewhere (codes "export") m refl)

exported : (A : Type 0) (f : Option Data → A) (m : Members) → ((at : Option Data) → f (inner_value export_defaults at) ≡ f at)
    → f (get_member (codes "export") (with_defaults m)) ≡ f (get_member (codes "export") m)
exported A f m same = ap f (export_here m) ∙ same (get_member (codes "export") m)

export_fault_of : (at : Option Data) → optional export_fault (inner_value export_defaults at) ≡ optional export_fault at
export_fault_of None = refl
export_fault_of (Some (table given)) = both _ _ _ _ (known table_is.Export export_defaults given export_keys) (each_fault export_defaults export_settings given refl)
export_fault_of (Some _) = refl

export_in_of : (given : Members) → export_in (with_each export_defaults given) ≡ export_in given
export_in_of given =
    rw (
      unfilled (codes "endpoint") export_defaults given refl,
      within_of number_is.Timeout export_defaults given refl refl,
      within_of number_is.RetryInitial export_defaults given refl refl,
      within_of number_is.RetryMax export_defaults given refl refl,
      within_of number_is.RetryFor export_defaults given refl refl,
      within_of number_is.CloseWait export_defaults given refl refl,
      within_of number_is.QueueBatches export_defaults given refl refl,
      filled Bool truth_of (codes "lines") export_defaults (boolean false) given refl refl,
      filled Bool (is_other (choice_row choice_is.Encoding)) (codes "encoding") export_defaults (string (codes "json")) given refl refl,
      unfilled (codes "headers") export_defaults given refl,
    )
    refl

export_of_it : (at : Option Data) → export_of (inner_value export_defaults at) ≡ export_of at
export_of_it None = refl
export_of_it (Some (table given)) = export_in_of given
export_of_it (Some _) = refl

-- ---- the table of `ledger`

pub ledger_here : (m : Members) → get_member (codes "ledger") (with_defaults m) ≡ inner_value ledger_defaults (get_member (codes "ledger") m)
unfolding with_defaults
ledger_here m =
    inner_here (codes "ledger") ledger_defaults (sent m)
    ∙ ap (inner_value ledger_defaults)
    (inner_elsewhere (codes "ledger") (codes "export") export_defaults (with_inner (codes "decision_cache") cache_defaults (outer m)) refl
    ∙ inner_elsewhere (codes "ledger") (codes "decision_cache") cache_defaults (outer m) refl
    ∙ unfilled (codes "ledger") defaults (with_root_wait m) refl ∙ root_elsewhere (codes "ledger") m refl)

within_ledger : (A : Type 0) (f : Option Data → A) (m : Members) → ((at : Option Data) → f (inner_value ledger_defaults at) ≡ f at)
    → f (get_member (codes "ledger") (with_defaults m)) ≡ f (get_member (codes "ledger") m)
within_ledger A f m same = ap f (ledger_here m) ∙ same (get_member (codes "ledger") m)

ledger_fault_of : (at : Option Data) → optional ledger_fault (inner_value ledger_defaults at) ≡ optional ledger_fault at
ledger_fault_of None = refl
ledger_fault_of (Some (table given)) = both _ _ _ _ (known table_is.Ledger ledger_defaults given ledger_keys) (each_fault ledger_defaults ledger_settings given refl)
ledger_fault_of (Some _) = refl

ledger_in_of : (given : Members) → ledger_in (with_each ledger_defaults given) ≡ ledger_in given
ledger_in_of given =
    rw (
      unfilled (codes "path") ledger_defaults given refl,
      filled LedgerSync ledger_sync_of (codes "sync") ledger_defaults (string (codes "none")) given refl refl,
      within_of number_is.SyncInterval ledger_defaults given refl refl,
      within_of number_is.LedgerMax ledger_defaults given refl refl,
    )
    refl

ledger_of_it : (at : Option Data) → ledger_of (inner_value ledger_defaults at) ≡ ledger_of at
ledger_of_it None = refl
ledger_of_it (Some (table given)) = ledger_in_of given
ledger_of_it (Some _) = refl

-- ---- all of it

twice : (m : Members) → twice_fault (with_defaults m) ≡ twice_fault m
unfolding twice_fault
twice m = pair (Option ConfigFault) (λ root received. if is_some root && is_some received then Some UnknownKey else None) m refl

keys_same : (m : Members) → keys_fault (with_defaults m) ≡ keys_fault m
unfolding keys_fault
keys_same m = rw (all_known m, twice m) refl

faults_same : (m : Members) → table_fault (with_defaults m) ≡ table_fault m
unfolding table_fault
faults_same m =
    both _ _ _ _ (keys_same m) (both _ _ _ _ (top_fault m) (both _ _ _ _ (caches (Option ConfigFault) (optional cache_fault) m cache_fault_of)
    (both _ _ _ _ (exported (Option ConfigFault) (optional export_fault) m export_fault_of) (both _ _ _ _ (within_ledger (Option ConfigFault) (optional ledger_fault) m ledger_fault_of)
    (ap (required policies_fault) (bare (codes "policies") m refl refl refl refl refl))))))

-- what is read of each key is the same
configs_same : (m : Members) → config_of (with_defaults m) ≡ config_of m
configs_same m =
    rw (
      number_of number_is.DecisionWait m refl refl refl refl refl refl,
      pair ℕ (λ root received. bounded_of (number_row number_is.RootWait) (first_found root received)) m refl,
      number_of number_is.NumTraces m refl refl refl refl refl refl,
      caches ℕ (cache_size (number_row number_is.SampledCacheSize)) m (λ at. size_of number_is.SampledCacheSize at refl refl),
      caches ℕ (cache_size (number_row number_is.NonSampledCacheSize)) m (λ at. size_of number_is.NonSampledCacheSize at refl refl),
      plain Bool truth_of (codes "sample_on_first_match") (boolean false) m refl refl refl refl refl refl,
      bare (codes "policies") m refl refl refl refl refl,
      number_of number_is.Lanes m refl refl refl refl refl refl,
      number_of number_is.Shards m refl refl refl refl refl refl,
      number_of number_is.QueueCapacity m refl refl refl refl refl refl,
      number_of number_is.ExportCapacity m refl refl refl refl refl refl,
      number_of number_is.SendBatchSize m refl refl refl refl refl refl,
      number_of number_is.MaxConnections m refl refl refl refl refl refl,
      number_of number_is.MemoryLimit m refl refl refl refl refl refl,
      number_of number_is.MaxRequest m refl refl refl refl refl refl,
      number_of number_is.MaximumTraceSize m refl refl refl refl refl refl,
      number_of number_is.Tick m refl refl refl refl refl refl,
      plain (List ℕ) (address_of (codes "127.0.0.1:4318")) (codes "listen") (string (codes "127.0.0.1:4318")) m refl refl refl refl refl refl,
      bare (codes "admin") m refl refl refl refl refl,
      plain (List ℕ) (address_of []) (codes "metrics") (string []) m refl refl refl refl refl refl,
      plain (List ℕ) (address_of []) (codes "output") (string []) m refl refl refl refl refl refl,
      number_of number_is.OutputMax m refl refl refl refl refl refl,
      number_of number_is.OutputKeep m refl refl refl refl refl refl,
      plain (List ℕ) (address_of []) (codes "decisions") (string []) m refl refl refl refl refl refl,
      number_of number_is.DecisionsMax m refl refl refl refl refl refl,
      plain (List ℕ) (address_of []) (codes "record") (string []) m refl refl refl refl refl refl,
      number_of number_is.RecordMax m refl refl refl refl refl refl,
      plain Bool truth_of (codes "record_policy") (boolean false) m refl refl refl refl refl refl,
      plain OutputFault output_fault_of (codes "output_fault") (string (codes "discard")) m refl refl refl refl refl refl,
      plain LogForm log_form_of (codes "log") (string (codes "text")) m refl refl refl refl refl refl,
      plain Bool truth_of (codes "accept_gzip") (boolean false) m refl refl refl refl refl refl,
      plain Bool truth_of (codes "accept_protobuf") (boolean false) m refl refl refl refl refl refl,
      choice_of choice_is.QueueFull m refl refl refl refl refl refl,
      choice_of choice_is.DoubleValues m refl refl refl refl refl refl,
      plain Bool truth_of (codes "close_at_end_of_input") (boolean false) m refl refl refl refl refl refl,
      exported Export export_of m export_of_it,
      within_ledger Ledger ledger_of m ledger_of_it,
    )
    refl

pub same_reading : (m : Members) → reading_of_table (with_defaults m) ≡ reading_of_table m
same_reading m = rw (faults_same m, configs_same m) refl
