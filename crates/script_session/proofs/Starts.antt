-- The shards before the first line.
-- For the contract of `parts_of`.
use Rattle.std.proofs.Common.{◌≡◌, ℕ, List, [], ◌∷◌, length, All, refl, subst}
use Rattle.std.proofs.lemmas.List.Elements.{All-head, All-tail}
use Rattle.config_shards.specs.Shards.{IsNewShard}
use Rattle.tsc_config.specs.declared.config.Config.{Config}
use Rattle.shard_core.specs.Held.{Held}
use Rattle.script_session.specs.Starting.{IsNew, AreNew}

new_is : (config : Config) (h : Held) → IsNewShard config h → IsNew config h
new_is config h n = (n.3, (n.5, n.1), record { dealt = 0; stands = n.0; all_dealt = refl })

new_are : (config : Config) (made : List Held) → All (IsNewShard config) made → AreNew config (length made) made
new_are config [] all = (refl, tt, tt, tt)
new_are config (h ∷ rest) all =
    let one = new_is config h (All-head (IsNewShard config) h rest all) in
    let more = new_are config rest (All-tail (IsNewShard config) h rest all) in
    (refl, (one.0, more.1), (one.1, more.2), (one.2, more.3))

pub all_new : (config : Config) (shards : ℕ) (made : List Held) → length made ≡ shards → All (IsNewShard config) made → AreNew config shards made
all_new config shards made e all = subst (λ (n : ℕ). AreNew config n made) e (new_are config made all)
