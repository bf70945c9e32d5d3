-- What was found looking back, where one shard of the list changes.
-- For the contracts of `decide`, `keep_entry`, `new`, `route` and `ship`.
use Rattle.std.proofs.Common.{◌≡◌, ℕ, zero, suc, List, [], ◌∷◌, map, replicate, slice_get, slice_set, Some, refl, ap, sym, ◌∙◌}
use Rattle.journal_theory.specs.Journal.{Settings}
use Rattle.shard_journal.specs.Look.{Look, look_of}
use Rattle.world_theory.specs.World.{CoreShard, new_shard}
use Rattle.span_world.specs.Core.{LooksBack}

-- what is found looking back over each shard's journal
abbrev looks_over : Settings → List CoreShard → List Look
looks_over s shards = map (λ (sh : CoreShard). look_of s sh.journal) shards

pub new_looks : (s : Settings) (n : ℕ) → LooksBack s (replicate n new_shard) (replicate n (look_of s []))
new_looks s zero = refl
new_looks s (suc n) = ap (λ z. look_of s [] ∷ z) (new_looks s n)

pub looks_set : (s : Settings) (shards : List CoreShard) (i : ℕ) (new : CoreShard) → looks_over s (slice_set shards i new) ≡ slice_set (looks_over s shards) i (look_of s new.journal)
looks_set s [] i new = refl
looks_set s (x ∷ shards) zero new = refl
looks_set s (x ∷ shards) (suc i) new = ap (λ z. look_of s x.journal ∷ z) (looks_set s shards i new)

pub looks_kept : (s : Settings) (shards : List CoreShard) (i : ℕ) (sh new : CoreShard) → slice_get shards i ≡ Some sh → new.journal ≡ sh.journal → looks_over s (slice_set shards i new) ≡ looks_over s shards
looks_kept s [] i sh new e f = refl
looks_kept s (x ∷ shards) zero sh new e f = let q : x ≡ sh = cc e in ap (λ z. look_of s z ∷ looks_over s shards) (f ∙ sym (ap (λ (z : CoreShard). z.journal) q))
looks_kept s (x ∷ shards) (suc i) sh new e f = ap (λ z. look_of s x.journal ∷ z) (looks_kept s shards i sh new e f)

pub looks_put : (s : Settings) (shards : List CoreShard) (looks : List Look) (i : ℕ) (new : CoreShard) (look : Look) → LooksBack s shards looks → look ≡ look_of s new.journal → LooksBack s (slice_set shards i new) (slice_set looks i look)
looks_put s shards looks i new look h e = ap (λ (ls : List Look). slice_set ls i look) h ∙ ap (λ (l : Look). slice_set (looks_over s shards) i l) e ∙ sym (looks_set s shards i new)

pub looks_stay : (s : Settings) (shards : List CoreShard) (looks : List Look) (i : ℕ) (sh new : CoreShard) → LooksBack s shards looks → slice_get shards i ≡ Some sh → new.journal ≡ sh.journal → LooksBack s (slice_set shards i new) looks
looks_stay s shards looks i sh new h g e = h ∙ sym (looks_kept s shards i sh new g e)
