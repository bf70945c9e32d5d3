-- Each setting is what stands at its key, or the key's default.
-- For `settings_are_of_their_keys`.
use Rattle.std.proofs.Common.{ap, ◌≡◌, [], ◌∷◌, ℕ, ◌≤◌, pos, negsuc, Bool, true, false, ◌⊎◌, inl, inr, refl, sym, ◌∙◌, arith, codes, List, Option, None, Some, Ok, Err, subst, if◌then◌else◌, nat_lt, nat_le, int_le, ◌&&◌, ◌||◌}
use Rattle.std.proofs.lemmas.Bool.Decides.{nat_tests}
use Rattle.std.proofs.lemmas.Slice.Eq.{bytes_eq-Decides}
use Rattle.std.specs.Option.{is_some}
use Rattle.std.specs.Str.{bytes_eq}
use Rattle.toml.specs.Data.{Data, string, integer, boolean, table, Members, get_member, no_members, member}
use Rattle.toml.specs.Parse.{parse_document}
use Rattle.policy_tree.specs.Faults.{fault_of_policies}
use Rattle.policy_tree.specs.declared.fault.PolicyFault.{PolicyFault}
use Rattle.config_faults.specs.Faults.{config_fault_number, least, optional, required, unknown_fault, integer_fault, text_fault, truth_fault, choice_fault, is_log_form, log_fault, is_output_fault, output_fault_fault, is_ledger_sync, ledger_sync_fault, cache_fault, endpoint_fault, field_fault, fields_fault, headers_fault, export_fault, ledger_fault, setting_fault, each_setting_fault, policies_fault, table_fault, keys_fault, twice_fault}
use Rattle.config_faults.specs.Setting.{Setting}
use Rattle.config_faults.specs.Tables.{NumberRow, number_row, ChoiceRow, choice_row, number_setting, root_setting, choice_setting, log_setting, output_fault_setting, ledger_sync_setting, switch, top_settings, cache_settings, export_settings, ledger_settings}
use Rattle.config_faults.specs.declared.tables.ChoiceKey.{ChoiceKey}
use Rattle.config_faults.specs.declared.tables.ChoiceKey.TheVariants as choice_is
use Rattle.config_faults.specs.declared.tables.TextKey.TheVariants as text_is
use Rattle.config_faults.specs.declared.tables.NumberKey.{NumberKey}
use Rattle.config_faults.specs.declared.tables.NumberKey.TheVariants as number_is
use Rattle.tsc_config.specs.Reading.{expressions_among, some_is_none, reading, reading_of, reading_unless, reading_where}
use Rattle.config_faults.specs.Exports.{is_endpoint}
use Rattle.tsc_config.specs.HeaderFields.{value_of, fields_in, headers_of, AreFields}
use Rattle.config_faults.specs.Headers.{may_be_sent}
use Rattle.tsc_config.specs.Settings.{IsNumberAtEither, IsTextAt, IsTruthAt, IsChoiceAt, IsLogAt, IsOutputFaultAt, AreHeadersAt, IsEncodingAt, HasExport, IsExportAt, IsLedgerSyncAt, HasLedger, IsLedgerAt, HasSettings, ReadsSettings}
use Rattle.tsc_config.specs.declared.log_form.LogForm.TheVariants as log_is
use Rattle.tsc_config.specs.declared.output_fault.OutputFault.TheVariants as output_is
use Rattle.tsc_config.specs.declared.ledger.LedgerSync.TheVariants as sync_is
use Rattle.tsc_config.specs.Values.{config_of, bounded_of, number_by, natural_of, first_found, cache_size, address_of, truth_of, is_other, log_form_of, output_fault_of, text_of, number_or, encoding_by, export_in, export_of, ledger_sync_of, ledger_in, ledger_of}
use Rattle.tsc_config.specs.declared.config.Config.{Config}
use Rattle.config_faults.specs.declared.fault.ConfigFault.{ConfigFault}
use Rattle.config_faults.specs.declared.fault.ConfigFault.TheVariants.{OutOfRange, TooFewTraces, UnknownKey, NotAnExpression}
use Rattle.config_faults.specs.declared.keys.TableKind.TheVariants as table_is

-- no fault among two
pub neither : (a b : Option ConfigFault) → least a b ≡ None → (a ≡ None) × (b ≡ None)
neither None b e = (refl, e)
neither (Some x) None e = cc
neither (Some x) (Some y) e = absurd (some (nat_lt (config_fault_number y) (config_fault_number x)) e)
  where
    some : (r : Bool) → (if r then Some y else Some x) ≡ None → ⊥
    some true e = cc
    some false e = cc

-- what stands at a key, as a number
abbrev pub NumberOf : Option Data → (default lowest greatest number : ℕ) → Type 0
NumberOf at default lowest greatest number =
    ((at ≡ None) × (number ≡ default)) ⊎ ((at ≡ Some (integer (pos number))) × (lowest ≤ number) × (number ≤ greatest))

allowed : (r : Bool) → (if r then None else Some OutOfRange) ≡ None → r ≡ true
allowed true e = refl
allowed false e = cc

-- the number of a row
bounded : (row : NumberRow) (at : Option Data) → optional (integer_fault (pos row.lowest) (pos row.greatest)) at ≡ None → NumberOf at row.default row.lowest row.greatest (bounded_of row at)
bounded row None e = inl (refl, refl)
bounded row (Some (integer (pos n))) e = of (nat_le row.lowest n && nat_le n row.greatest) refl
  where
    within : int_le (pos row.lowest) (pos n) && int_le (pos n) (pos row.greatest) ≡ true
    within = allowed (int_le (pos row.lowest) (pos n) && int_le (pos n) (pos row.greatest)) e

    of : (r : Bool) → nat_le row.lowest n && nat_le n row.greatest ≡ r → NumberOf (Some (integer (pos n))) row.default row.lowest row.greatest (if r then n else row.default)
    of true t = inr (refl, grind (arith, nat_tests, t), grind (arith, nat_tests, t))
    of false t = let wrong : false ≡ true = sym t ∙ within in cc
bounded row (Some (integer (negsuc n))) e = cc
bounded row (Some _) e = cc

-- the first of these settings that has a name
abbrev pub setting_named : (name : List ℕ) → List Setting → Option Setting
setting_named name [] = None
setting_named name (s ∷ rest) = if bytes_eq name s.name then Some s else setting_named name rest

-- where none of these settings has a fault, the one of a name has none
free : (rows : List Setting) (members : Members) (name : List ℕ) (s : Setting) → setting_named name rows ≡ Some s → each_setting_fault rows members ≡ None → setting_fault s members ≡ None
free [] members name s e f = cc
free (first ∷ rest) members name s e f =
    let parts = neither (setting_fault first members) (each_setting_fault rest members) f in
    of (bytes_eq name first.name) e parts.0 (λ g. free rest members name s g parts.1)
  where
    of : (r : Bool) → (if r then Some first else setting_named name rest) ≡ Some s → setting_fault first members ≡ None
        → (setting_named name rest ≡ Some s → setting_fault s members ≡ None) → setting_fault s members ≡ None
    of true g here later = let same : first ≡ s = cc in rw (← same) here
    of false g here later = later g

-- the number at the key of a row of some table
number_in : (rows : List Setting) (members : Members) (key : NumberKey) → setting_named (number_row key).name rows ≡ Some (number_setting key) → each_setting_fault rows members ≡ None
    → NumberOf (get_member (number_row key).name members) (number_row key).default (number_row key).lowest (number_row key).greatest (number_by (number_row key) members)
number_in rows members key found f = bounded (number_row key) (get_member (number_row key).name members) (free rows members (number_row key).name (number_setting key) found f)

pub natural : (greatest : ℕ) (at : Option Data) → optional (integer_fault (pos 0) (pos greatest)) at ≡ None
    → NumberOf at 0 0 greatest (natural_of at)
natural greatest None e = inl (refl, refl)
natural greatest (Some (integer (pos n))) e = inr (refl, omega arith, within)
  where
    within : n ≤ greatest
    within = grind (arith, nat_tests, allowed (int_le (pos 0) (pos n) && int_le (pos n) (pos greatest)) e)
natural greatest (Some (integer (negsuc n))) e = cc
natural greatest (Some _) e = cc

not_twice : (members : Members) → twice_fault members ≡ None
    → (if is_some (get_member (codes "root_wait_ms") members) && is_some (get_member (codes "decision_wait_after_root_received_ms") members) then Some UnknownKey else None) ≡ None
unfolding twice_fault
not_twice members e = e

-- of a number with two names one stands there at most
natural_at_either : (members : Members) (key other : List ℕ) (at at_other : Option Data) → get_member key members ≡ at → get_member other members ≡ at_other
    → optional (integer_fault (pos 0) (pos 3600000)) at ≡ None → optional (integer_fault (pos 0) (pos 3600000)) at_other ≡ None
    → (if is_some at && is_some at_other then Some UnknownKey else None) ≡ None → IsNumberAtEither members key other 0 0 3600000 (bounded_of (number_row number_is.RootWait) (first_found at at_other))
natural_at_either members key other None at_other a b f g t =
    let P : Option Data → Type 0 = λ o. NumberOf o 0 0 3600000 (bounded_of (number_row number_is.RootWait) at_other) in inr (a, subst P (sym b) (bounded (number_row number_is.RootWait) at_other g))
natural_at_either members key other (Some value) None a b f g t =
    let P : Option Data → Type 0 = λ o. NumberOf o 0 0 3600000 (bounded_of (number_row number_is.RootWait) (Some value)) in inl (b, subst P (sym a) (bounded (number_row number_is.RootWait) (Some value) f))
natural_at_either members key other (Some value) (Some another) a b f g t = absurd (cc t)

text : (key default : List ℕ) (given : Members) (at : Option Data) → get_member key given ≡ at → optional text_fault at ≡ None
    → IsTextAt given key default (address_of default at)
text key default given None e f = inl (e, refl)
text key default given (Some (string bytes)) e f = inr e
text key default given (Some _) e f = cc

pub truth : (key : List ℕ) (given : Members) (at : Option Data) → get_member key given ≡ at → optional truth_fault at ≡ None → IsTruthAt given key (truth_of at)
truth key given None e f = inl (e, refl)
truth key given (Some (boolean value)) e f = inr e
truth key given (Some _) e f = cc

first_of : (a b : Bool) → (a || b) ≡ true → b ≡ false → a ≡ true
first_of true b e f = refl
first_of false b e f = cc

-- one of two texts
choice : (row : ChoiceRow) (given : Members) (at : Option Data) → get_member row.name given ≡ at → optional (choice_fault row) at ≡ None
    → IsChoiceAt given row.name row.default row.other (is_other row at)
choice row given None e f = inl (e, refl)
choice row given (Some (string bytes)) e f = of (bytes_eq bytes row.other) refl
  where
    of : (r : Bool) → bytes_eq bytes row.other ≡ r → IsChoiceAt given row.name row.default row.other r
    of true t = let same : bytes ≡ row.other = (bytes_eq-Decides bytes row.other).0 t in inr (inr (rw (← same) e, refl))
    of false t =
        let first : bytes_eq bytes row.default ≡ true = first_of _ _ (allowed (bytes_eq bytes row.default || bytes_eq bytes row.other) f) t in
        let same : bytes ≡ row.default = (bytes_eq-Decides bytes row.default).0 first in
        inr (inl (rw (← same) e, refl))
choice row given (Some _) e f = cc

-- the form of the log
log_form : (given : Members) (at : Option Data) → get_member (codes "log") given ≡ at → optional log_fault at ≡ None → IsLogAt given (log_form_of at)
log_form given None e f = inl (e, refl)
log_form given (Some (string bytes)) e f = of (bytes_eq bytes (codes "json")) (bytes_eq bytes (codes "off")) refl refl
  where
    of : (j o : Bool) → bytes_eq bytes (codes "json") ≡ j → bytes_eq bytes (codes "off") ≡ o → IsLogAt given (if j then log_is.Json else if o then log_is.Off else log_is.Text)
    of true o t u = let same : bytes ≡ codes "json" = (bytes_eq-Decides bytes (codes "json")).0 t in inr (inr (inl (rw (← same) e, refl)))
    of false true t u = let same : bytes ≡ codes "off" = (bytes_eq-Decides bytes (codes "off")).0 u in inr (inr (inr (rw (← same) e, refl)))
    of false false t u =
        let first : bytes_eq bytes (codes "text") ≡ true = first_of _ _ (allowed (is_log_form bytes) f) (ap (λ b. b || bytes_eq bytes (codes "off")) t ∙ u) in
        let same : bytes ≡ codes "text" = (bytes_eq-Decides bytes (codes "text")).0 first in
        inr (inl (rw (← same) e, refl))
log_form given (Some _) e f = cc

-- what is done once the output fails
output_fault : (given : Members) (at : Option Data) → get_member (codes "output_fault") given ≡ at → optional output_fault_fault at ≡ None → IsOutputFaultAt given (output_fault_of at)
output_fault given None e f = inl (e, refl)
output_fault given (Some (string bytes)) e f = of (bytes_eq bytes (codes "stop")) (bytes_eq bytes (codes "retry")) refl refl
  where
    of : (s r : Bool) → bytes_eq bytes (codes "stop") ≡ s → bytes_eq bytes (codes "retry") ≡ r → IsOutputFaultAt given (if s then output_is.Stop else if r then output_is.Retry else output_is.Discard)
    of true r t u = let same : bytes ≡ codes "stop" = (bytes_eq-Decides bytes (codes "stop")).0 t in inr (inr (inl (rw (← same) e, refl)))
    of false true t u = let same : bytes ≡ codes "retry" = (bytes_eq-Decides bytes (codes "retry")).0 u in inr (inr (inr (rw (← same) e, refl)))
    of false false t u =
        let first : bytes_eq bytes (codes "discard") ≡ true = first_of _ _ (allowed (is_output_fault bytes) f) (ap (λ b. b || bytes_eq bytes (codes "retry")) t ∙ u) in
        let same : bytes ≡ codes "discard" = (bytes_eq-Decides bytes (codes "discard")).0 first in
        inr (inl (rw (← same) e, refl))
output_fault given (Some _) e f = cc

-- a size of the table of caches
cache : (given : Members) (key : NumberKey) (at : Option Data) → get_member (codes "decision_cache") given ≡ at → optional cache_fault at ≡ None
    → setting_named (number_row key).name cache_settings ≡ Some (number_setting key)
    → ((get_member (codes "decision_cache") given ≡ None) × (cache_size (number_row key) at ≡ (number_row key).default))
    ⊎ ((sizes : Members) × (get_member (codes "decision_cache") given ≡ Some (table sizes))
    × NumberOf (get_member (number_row key).name sizes) (number_row key).default (number_row key).lowest (number_row key).greatest (cache_size (number_row key) at))
cache given key None e f found = inl (e, refl)
cache given key (Some (table sizes)) e f found = inr (sizes, e, number_in cache_settings sizes key found (neither (unknown_fault table_is.DecisionCache sizes) _ f).1)
cache given key (Some _) e f found = cc

pub numbered : (default lowest greatest : ℕ) (at : Option Data) → optional (integer_fault (pos lowest) (pos greatest)) at ≡ None → NumberOf at default lowest greatest (number_or default at)
numbered default lowest greatest None e = inl (refl, refl)
numbered default lowest greatest (Some (integer (pos n))) e = inr (refl, least_of, most_of)
  where
    both_of : int_le (pos lowest) (pos n) && int_le (pos n) (pos greatest) ≡ true
    both_of = allowed (int_le (pos lowest) (pos n) && int_le (pos n) (pos greatest)) e

    least_of : lowest ≤ n
    least_of = grind (arith, nat_tests, both_of)

    most_of : n ≤ greatest
    most_of = grind (arith, nat_tests, both_of)
numbered default lowest greatest (Some (integer (negsuc n))) e = cc
numbered default lowest greatest (Some _) e = cc

endpoint : (at : Option Data) → required endpoint_fault at ≡ None → (at ≡ Some (string (text_of at))) × (is_endpoint (text_of at) ≡ true)
endpoint None e = cc
endpoint (Some (string text)) e = (refl, allowed (is_endpoint text) e)
endpoint (Some _) e = cc

-- the fields of a table without a fault
field_parts : (name : List ℕ) (value : Data) → field_fault name value ≡ None → (value ≡ string (value_of value)) × (may_be_sent name (value_of value) ≡ true)
field_parts name (string text) e = (refl, allowed (may_be_sent name text) e)
field_parts name _ e = cc

are_fields : (fields : Members) → fields_fault fields ≡ None → AreFields fields (fields_in fields)
are_fields no_members e = tt
are_fields (member name value rest) e =
    let parts = neither (field_fault name value) (fields_fault rest) e in
    let one = field_parts name value parts.0 in
    (refl, one.0, one.1, are_fields rest parts.1)

header_fields : (given : Members) (at : Option Data) → get_member (codes "headers") given ≡ at → optional headers_fault at ≡ None → AreHeadersAt given (codes "headers") (headers_of at)
header_fields given None e f = inl (e, refl)
header_fields given (Some (table fields)) e f = inr (fields, e, are_fields fields f)
header_fields given (Some _) e f = cc

-- how batches are sent
encoded : (given : Members) (other : Bool) → IsChoiceAt given (codes "encoding") (codes "json") (codes "proto") other → IsEncodingAt given (encoding_by other)
encoded given other (inl e) = inl (e.0, ap encoding_by e.1)
encoded given other (inr (inl e)) = inr (inl (e.0, ap encoding_by e.1))
encoded given other (inr (inr e)) = inr (inr (e.0, ap encoding_by e.1))

-- the table of `export`
has_export : (given : Members) → each_setting_fault export_settings given ≡ None → HasExport given (export_in given)
has_export given e =
    let found = endpoint (get_member (codes "endpoint") given) (free export_settings given (codes "endpoint") _ refl e) in record {
      endpoint = found.0;
      form = found.1;
      timeout = number_in export_settings given number_is.Timeout refl e;
      retry_initial = number_in export_settings given number_is.RetryInitial refl e;
      retry_max = number_in export_settings given number_is.RetryMax refl e;
      retry_for = number_in export_settings given number_is.RetryFor refl e;
      close_wait = number_in export_settings given number_is.CloseWait refl e;
      queue_batches = number_in export_settings given number_is.QueueBatches refl e;
      lines = truth (codes "lines") given (get_member (codes "lines") given) refl (free export_settings given (codes "lines") (switch (codes "lines")) refl e);
      encoding = encoded given _ (choice (choice_row choice_is.Encoding) given (get_member (codes "encoding") given) refl (free export_settings given (codes "encoding") (choice_setting choice_is.Encoding) refl e));
      headers = header_fields given (get_member (codes "headers") given) refl (free export_settings given (codes "headers") _ refl e);
    }

exports : (given : Members) (at : Option Data) → get_member (codes "export") given ≡ at → optional export_fault at ≡ None → IsExportAt given (export_of at)
exports given None e f = inl (e, refl)
exports given (Some (table settings)) e f = inr (settings, e, has_export settings (neither (unknown_fault table_is.Export settings) _ f).1)
exports given (Some _) e f = cc

-- when the ledger is synced
ledger_sync : (given : Members) (at : Option Data) → get_member (codes "sync") given ≡ at → optional ledger_sync_fault at ≡ None → IsLedgerSyncAt given (ledger_sync_of at)
ledger_sync given None e f = inl (e, refl)
ledger_sync given (Some (string bytes)) e f = of (bytes_eq bytes (codes "interval")) (bytes_eq bytes (codes "request")) refl refl
  where
    of : (i r : Bool) → bytes_eq bytes (codes "interval") ≡ i → bytes_eq bytes (codes "request") ≡ r → IsLedgerSyncAt given (if i then sync_is.Interval else if r then sync_is.Request else sync_is.None)
    of true r t u = let same : bytes ≡ codes "interval" = (bytes_eq-Decides bytes (codes "interval")).0 t in inr (inr (inl (rw (← same) e, refl)))
    of false true t u = let same : bytes ≡ codes "request" = (bytes_eq-Decides bytes (codes "request")).0 u in inr (inr (inr (rw (← same) e, refl)))
    of false false t u =
        let first : bytes_eq bytes (codes "none") ≡ true = first_of _ _ (allowed (is_ledger_sync bytes) f) (ap (λ b. b || bytes_eq bytes (codes "request")) t ∙ u) in
        let same : bytes ≡ codes "none" = (bytes_eq-Decides bytes (codes "none")).0 first in
        inr (inl (rw (← same) e, refl))
ledger_sync given (Some _) e f = cc

-- the text of a key that has to stand there
required_text : (at : Option Data) → required text_fault at ≡ None → at ≡ Some (string (text_of at))
required_text None e = cc
required_text (Some (string text)) e = refl
required_text (Some _) e = cc

-- the table of `ledger`
has_ledger : (given : Members) → each_setting_fault ledger_settings given ≡ None → HasLedger given (ledger_in given)
has_ledger given e = record {
  path = required_text (get_member (codes "path") given) (free ledger_settings given (codes "path") _ refl e);
  sync = ledger_sync given (get_member (codes "sync") given) refl (free ledger_settings given (codes "sync") (ledger_sync_setting text_is.LedgerSync) refl e);
  sync_interval_ms = number_in ledger_settings given number_is.SyncInterval refl e;
  max_mib = number_in ledger_settings given number_is.LedgerMax refl e;
}

ledgers : (given : Members) (at : Option Data) → get_member (codes "ledger") given ≡ at → optional ledger_fault at ≡ None → IsLedgerAt given (ledger_of at)
ledgers given None e f = inl (e, refl)
ledgers given (Some (table settings)) e f = inr (settings, e, has_ledger settings (neither (unknown_fault table_is.Ledger settings) _ f).1)
ledgers given (Some _) e f = cc

-- each part of a table without a fault has none
pub table_parts : (members : Members) → table_fault members ≡ None → (each_setting_fault top_settings members ≡ None)
    × (optional cache_fault (get_member (codes "decision_cache") members) ≡ None) × (optional export_fault (get_member (codes "export") members) ≡ None)
    × (optional ledger_fault (get_member (codes "ledger") members) ≡ None) × (required policies_fault (get_member (codes "policies") members) ≡ None) × (twice_fault members ≡ None)
unfolding table_fault keys_fault
table_parts members e =
    let k = neither (least (unknown_fault table_is.Config members) (twice_fault members)) _ e in
    let r = neither (each_setting_fault top_settings members) _ k.1 in
    let c = neither (optional cache_fault (get_member (codes "decision_cache") members)) _ r.1 in
    let x = neither (optional export_fault (get_member (codes "export") members)) _ c.1 in
    let l = neither (optional ledger_fault (get_member (codes "ledger") members)) _ x.1 in
    (r.0, c.0, x.0, l.0, l.1, (neither (unknown_fault table_is.Config members) (twice_fault members) k.0).1)

-- the truth value at a key that is false by default
pub switched : (members : Members) (name : List ℕ) → setting_named name top_settings ≡ Some (switch name) → each_setting_fault top_settings members ≡ None → IsTruthAt members name (truth_of (get_member name members))
switched members name found f = truth name members (get_member name members) refl (free top_settings members name (switch name) found f)

-- the choice of a key
chosen : (members : Members) (key : ChoiceKey) → setting_named (choice_row key).name top_settings ≡ Some (choice_setting key) → each_setting_fault top_settings members ≡ None
    → IsChoiceAt members (choice_row key).name (choice_row key).default (choice_row key).other (is_other (choice_row key) (get_member (choice_row key).name members))
chosen members key found f = choice (choice_row key) members (get_member (choice_row key).name members) refl (free top_settings members (choice_row key).name (choice_setting key) found f)

-- each setting of a table without a fault
whole : (members : Members) → table_fault members ≡ None → HasSettings members (config_of members)
whole members e =
    let t = table_parts members e in
    let f = t.0 in record {
      decision_wait = number_in top_settings members number_is.DecisionWait refl f;
      root_wait = natural_at_either members (codes "root_wait_ms") (codes "decision_wait_after_root_received_ms") (get_member (codes "root_wait_ms") members)
          (get_member (codes "decision_wait_after_root_received_ms") members) refl refl (free top_settings members (codes "root_wait_ms") (root_setting number_is.RootWait) refl f)
          (free top_settings members (codes "decision_wait_after_root_received_ms") (root_setting number_is.RootReceived) refl f) (not_twice members t.5);
      num_traces = number_in top_settings members number_is.NumTraces refl f;
      sampled_cache_size = cache members number_is.SampledCacheSize (get_member (codes "decision_cache") members) refl t.1 refl;
      non_sampled_cache_size = cache members number_is.NonSampledCacheSize (get_member (codes "decision_cache") members) refl t.1 refl;
      lanes = number_in top_settings members number_is.Lanes refl f;
      shards = number_in top_settings members number_is.Shards refl f;
      queue_capacity = number_in top_settings members number_is.QueueCapacity refl f;
      export_capacity = number_in top_settings members number_is.ExportCapacity refl f;
      send_batch_size = number_in top_settings members number_is.SendBatchSize refl f;
      max_connections = number_in top_settings members number_is.MaxConnections refl f;
      memory_limit_mib = number_in top_settings members number_is.MemoryLimit refl f;
      max_request_mib = number_in top_settings members number_is.MaxRequest refl f;
      maximum_trace_size = number_in top_settings members number_is.MaximumTraceSize refl f;
      tick = number_in top_settings members number_is.Tick refl f;
      listen = text (codes "listen") (codes "127.0.0.1:4318") members (get_member (codes "listen") members) refl (free top_settings members (codes "listen") _ refl f);
      accept_gzip = switched members (codes "accept_gzip") refl f;
      accept_protobuf = switched members (codes "accept_protobuf") refl f;
      waits_for_room = chosen members choice_is.QueueFull refl f;
      output = text (codes "output") [] members (get_member (codes "output") members) refl (free top_settings members (codes "output") _ refl f);
      output_max_mib = number_in top_settings members number_is.OutputMax refl f;
      output_keep = number_in top_settings members number_is.OutputKeep refl f;
      decisions = text (codes "decisions") [] members (get_member (codes "decisions") members) refl (free top_settings members (codes "decisions") _ refl f);
      decisions_max_mib = number_in top_settings members number_is.DecisionsMax refl f;
      request_record = text (codes "record") [] members (get_member (codes "record") members) refl (free top_settings members (codes "record") _ refl f);
      record_max_mib = number_in top_settings members number_is.RecordMax refl f;
      record_policy = switched members (codes "record_policy") refl f;
      output_fault = output_fault members (get_member (codes "output_fault") members) refl (free top_settings members (codes "output_fault") (output_fault_setting text_is.OutputFault) refl f);
      keeps_doubles = chosen members choice_is.DoubleValues refl f;
      close_at_end_of_input = switched members (codes "close_at_end_of_input") refl f;
      admin = text (codes "admin") [] members (get_member (codes "admin") members) refl (free top_settings members (codes "admin") _ refl f);
      metrics = text (codes "metrics") [] members (get_member (codes "metrics") members) refl (free top_settings members (codes "metrics") _ refl f);
      log = log_form members (get_member (codes "log") members) refl (free top_settings members (codes "log") (log_setting text_is.Log) refl f);
      export = exports members (get_member (codes "export") members) refl t.2;
      ledger = ledgers members (get_member (codes "ledger") members) refl t.3;
    }

-- what is read as a configuration is the table's, which has no fault
all_are : (r : Bool) (made config : Config) → (if r then Err NotAnExpression else Ok made) ≡ Ok config → made ≡ config
all_are true made config e = cc
all_are false made config e = cc

where_none : (found : Option PolicyFault) (made config : Config) → reading_where found made ≡ Ok config → made ≡ config
where_none None made config e = all_are (some_is_none (expressions_among made.policies)) made config e
where_none (Some fault) made config e = cc

with_enough : (r : Bool) (made config : Config) → (if r then Err TooFewTraces else reading_where (fault_of_policies made.policies) made) ≡ Ok config → made ≡ config
with_enough true made config e = cc
with_enough false made config e = where_none (fault_of_policies made.policies) made config e

of_table : (Has : Members → Config → Type 0) → ((members : Members) → table_fault members ≡ None → Has members (config_of members))
    → (members : Members) (found : Option ConfigFault) (config : Config) → table_fault members ≡ found → reading_unless found (config_of members) ≡ Ok config → Has members config
of_table Has each members None config f e =
    let same : config_of members ≡ config = with_enough (nat_lt (config_of members).num_traces (config_of members).shards) (config_of members) config e in
    let P : Config → Type 0 = λ c. Has members c in
    subst P same (each members f)
of_table Has each members (Some fault) config f e = cc

of_document : (Has : Members → Config → Type 0) → ((members : Members) → table_fault members ≡ None → Has members (config_of members))
    → (document : Option Members) (config : Config) → reading_of document ≡ Ok config → (members : Members) × (document ≡ Some members) × Has members config
of_document Has each None config e = cc
of_document Has each (Some members) config e = (members, refl, of_table Has each members (table_fault members) config refl e)

-- what the configuration of each table without a fault has, each configuration that is read has
pub read_as : (Has : Members → Config → Type 0) → ((members : Members) → table_fault members ≡ None → Has members (config_of members))
    → (text : List ℕ) (config : Config) → reading text ≡ Ok config → (members : Members) × (parse_document text ≡ Some members) × Has members config
read_as Has each text config e = of_document Has each (parse_document text) config e

pub reads_settings : ReadsSettings
reads_settings text config e = read_as HasSettings whole text config e
