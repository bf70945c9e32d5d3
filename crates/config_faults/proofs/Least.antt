-- The least of faults, however they are grouped.
-- For the contracts of `items_fault`, `each_setting_fault` and `policies`.
use Rattle.std.proofs.Common.{◌≡◌, ℕ, ◌+◌, ◌<◌, Option, Some, None, List, map, drop, length, get_or, refl, sym, ap, ◌∙◌, arith, drop-cons, add-one}
use Rattle.std.proofs.lemmas.Bool.Decides.{nat_tests}
use Rattle.toml.proofs.Views.{items_view-drop}
use Rattle.toml.specs.Data.{Data, Items, item, Members}
use Rattle.toml.specs.View.{view, items_view}
use Rattle.toml.specs.declared.value.Value.{Value}
use Rattle.config_faults.specs.Faults.{least, setting_fault, each_setting_fault}
use Rattle.config_faults.specs.Tables.{setting_of}
use Rattle.config_faults.specs.declared.settings.Setting as code
use Rattle.config_faults.specs.declared.fault.ConfigFault.{ConfigFault}

least_none : (a : Option ConfigFault) → least a None ≡ a
least_none None = refl
least_none (Some a) = refl

pub least_assoc : (a b c : Option ConfigFault) → least (least a b) c ≡ least a (least b c)
least_assoc None b c = refl
least_assoc (Some a) None c = refl
least_assoc (Some a) (Some b) None = least_none (least (Some a) (Some b))
least_assoc (Some a) (Some b) (Some c) = grind (arith, nat_tests)

-- one more item taken from those that are left
pub items_step : (f : Data → Option ConfigFault) (all_of : Items → Option ConfigFault) → ((value : Data) (rest : Items) → all_of (item value rest) ≡ least (f value) (all_of rest))
    → (so_far one new : Option ConfigFault) (vs : List Value) (i : ℕ) (d : Value) (all : Option ConfigFault) → i < length vs → one ≡ f (view (get_or vs i d)) → new ≡ least so_far one
    → least so_far (all_of (items_view (drop i vs))) ≡ all → least new (all_of (items_view (drop (i + 1) vs))) ≡ all
items_step f all_of first so_far one new vs i d all h one_is new_is before =
    let rest : Items = items_view (drop (i + 1) vs) in
    let split : all_of (items_view (drop i vs)) ≡ least (f (view (get_or vs i d))) (all_of rest) = ap all_of (items_view-drop vs i d h) ∙ first (view (get_or vs i d)) rest in
    rw (new_is, one_is, least_assoc so_far (f (view (get_or vs i d))) (all_of rest), ← split) before

-- one more setting taken from those that are left
pub settings_step : (members : Members) (so_far one new : Option ConfigFault) (rows : List code.Setting) (i : ℕ) (d : code.Setting) (all : Option ConfigFault) → i < length rows
    → one ≡ setting_fault (setting_of (get_or rows i d)) members → new ≡ least so_far one
    → least so_far (each_setting_fault (map setting_of (drop i rows)) members) ≡ all → least new (each_setting_fault (map setting_of (drop (i + 1) rows)) members) ≡ all
settings_step members so_far one new rows i d all h one_is new_is before =
    let s = get_or rows i d in
    let rest : Option ConfigFault = each_setting_fault (map setting_of (drop (i + 1) rows)) members in
    let split : each_setting_fault (map setting_of (drop i rows)) members ≡ least (setting_fault (setting_of s) members) rest =
    ap (λ (rs : List code.Setting). each_setting_fault (map setting_of rs) members) (drop-cons rows i d h)
    ∙ ap (λ k. least (setting_fault (setting_of s) members) (each_setting_fault (map setting_of (drop k rows)) members)) (sym (add-one i)) in
    rw (new_is, one_is, least_assoc so_far (setting_fault (setting_of s) members) rest, ← split) before
