-- The steps of completing a table, one after the other.
-- For the `ensures` of `complete`.
use Rattle.std.proofs.Common.{◌≡◌, List, codes, refl}
use Rattle.toml.specs.Data.{Members}
use Rattle.config_faults.specs.Setting.{Setting}
use Rattle.config_faults.specs.Tables.{top_settings, cache_settings, export_settings, ledger_settings}
use Rattle.config_text.specs.Defaults.{no_sizes, defaults_of}
use Rattle.config_text.specs.Members.{with_default, with_each, with_inner}
use Rattle.config_text.specs.Whole.{with_root_wait, with_defaults}

pub completed : (m rooted sized filled cached sent whole : Members) (rows sizes waits folders : List Setting) → rows ≡ top_settings → sizes ≡ cache_settings → waits ≡ export_settings → folders ≡ ledger_settings
    → rooted ≡ with_root_wait m → sized ≡ with_default no_sizes rooted → filled ≡ with_each (defaults_of rows) sized → cached ≡ with_inner (codes "decision_cache") (defaults_of sizes) filled
    → sent ≡ with_inner (codes "export") (defaults_of waits) cached → whole ≡ with_inner (codes "ledger") (defaults_of folders) sent → whole ≡ with_defaults m
unfolding with_defaults
completed m rooted sized filled cached sent whole rows sizes waits folders a b c k d s e f g l = rw (l, g, f, e, s, d, a, b, c, k) refl
