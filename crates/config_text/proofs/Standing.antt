-- In a table with its defaults stands each key that has one.
-- For the clause `whole` of `settings_in_force`.
use Rattle.std.proofs.Common.{◌≡◌, ℕ, Bool, true, false, ◌||◌, List, [], ◌∷◌, Option, Some, None, codes, refl, if◌then◌else◌}
use Rattle.std.specs.List.{list_all}
use Rattle.std.specs.Option.{is_some}
use Rattle.toml.specs.Data.{Data, table, Members, no_members, get_member}
use Rattle.config_text.specs.Defaults.{number_default, defaults, cache_defaults, export_defaults, ledger_defaults}
use Rattle.config_text.specs.Members.{Default, with_default, with_each, with_inner}
use Rattle.config_text.specs.Whole.{HasEach, IsWhole, with_root_wait, with_defaults}
use Rattle.config_text.proofs.Lookups.{or_else, value_at}
use Rattle.config_text.proofs.SameReading.{outer, sent, root_here, received_here, cache_here, export_here, ledger_here}
use Rattle.config_text.proofs.Within.{inner_value, inner_stands, each_stands, all_stand}
use Rattle.config_faults.specs.declared.tables.NumberKey.TheVariants as number_is

settings_stand : (m : Members) → HasEach defaults (with_defaults m)
unfolding with_defaults
settings_stand m = all_stand defaults defaults (with_defaults m) here refl
  where
    here : (key : List ℕ) → is_some (value_at key defaults) ≡ true → is_some (get_member key (with_defaults m)) ≡ true
    here key h =
        inner_stands key (codes "ledger") ledger_defaults (sent m)
        (inner_stands key (codes "export") export_defaults (with_inner (codes "decision_cache") cache_defaults (outer m))
        (inner_stands key (codes "decision_cache") cache_defaults (outer m) (each_stands key defaults (with_root_wait m) h)))

or_true : (a : Bool) → a || true ≡ true
or_true true = refl
or_true false = refl

root_stands : (m : Members) (received : Option Data)
    → is_some (get_member (codes "root_wait_ms") (if is_some received then m else with_default (number_default number_is.RootWait) m)) || is_some received ≡ true
root_stands m (Some x) = or_true (is_some (get_member (codes "root_wait_ms") m))
root_stands m None = rw (each_stands (codes "root_wait_ms") (number_default number_is.RootWait ∷ []) m refl) refl

-- in a table with these defaults each of them stands
inner_whole : (rows : List Default) (at : Option Data) (given : Members) → list_all (λ (row : Default). is_some (value_at row.name rows)) rows ≡ true
    → inner_value rows at ≡ Some (table given) → HasEach rows given
inner_whole rows None given h e = cc
inner_whole rows (Some (table written)) given h e =
    let same : with_each rows written ≡ given = cc in
    rw (← same) (all_stand rows rows (with_each rows written) (λ key k. each_stands key rows written k) h)
inner_whole rows (Some _) given h e = cc

pub is_whole : (m : Members) → IsWhole (with_defaults m)
is_whole m = record {
  settings = settings_stand m;
  root_wait = rw (root_here m, received_here m) (root_stands m (get_member (codes "decision_wait_after_root_received_ms") m));
  caches = λ sizes e. inner_whole cache_defaults (or_else (get_member (codes "decision_cache") m) (Some (table no_members))) sizes refl (rw (← cache_here m) e);
  export = λ given e. inner_whole export_defaults (get_member (codes "export") m) given refl (rw (← export_here m) e);
  ledger = λ given e. inner_whole ledger_defaults (get_member (codes "ledger") m) given refl (rw (← ledger_here m) e);
}
