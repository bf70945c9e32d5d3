-- A setting: its key, what its value is to be, and what counts where it is missing.
use Rattle.std.specs.Prelude.{ℕ, Bool, true, false, List, Option, None, Some}
use Rattle.toml.specs.Data.{Data}
use Rattle.config_faults.specs.declared.settings.ValueKind.{ValueKind}

-- a setting: its key, what its value is to be, whether it has to stand there, and what counts where it doesn't
pub record Setting : Type 0 where
  pub name : List ℕ
  pub value : ValueKind
  pub is_required : Bool
  pub default : Option Data

abbrev pub required : (name : List ℕ) → ValueKind → Setting
required name value = record { name = name; value = value; is_required = true; default = None }

abbrev pub optional : (name : List ℕ) → ValueKind → Setting
optional name value = record { name = name; value = value; is_required = false; default = None }

abbrev pub defaulted : (name : List ℕ) → ValueKind → Data → Setting
defaulted name value default = record { name = name; value = value; is_required = false; default = Some default }
