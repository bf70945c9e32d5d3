-- The entries of the kit's cache as a list of traces.
-- For the contracts of `put` and `renew`.
use Rattle.std.proofs.Common.{◌≡◌, ℕ, zero, suc, ◌-◌, Bool, true, false, cond, ◌||◌, List, [], ◌∷◌, map, take, Some, None, refl, sym, ap}
use Rattle.std.specs.Option.{is_some}
use Rattle.std.specs.Map.{lookup, lookup_entry, remove_entry}
use Rattle.span_ids.proofs.SameTraces.{same_trace-is}
use Rattle.span_ids.specs.Same.{same_trace}
use Rattle.span_ids.specs.declared.ids.TraceId.{TraceId}
use Rattle.lru.specs.LruCache.{LruCache, promoted, put_entries}
use Rattle.decision_cache.specs.Lists.{is_held, without, renewed, renewed_if}

module _ {U : Type 0} where
  abbrev pub keys : List (TraceId × U) → List TraceId
  keys es = map (λ e. e.0) es

  pub is_held-lookup : (t : TraceId) (es : List (TraceId × U)) → is_some (lookup (same_trace t) es) ≡ is_held t (keys es)
  is_held-lookup t [] = refl
  is_held-lookup t (e ∷ es) = (elim (same_trace t e.0) as (λ b. is_some (cond b (Some e.1) (lookup (same_trace t) es)) ≡ (b || is_held t (keys es))) [
    | true ↦ refl
    | false ↦ is_held-lookup t es
  ])

  entry-none : (t : TraceId) (es : List (TraceId × U)) → is_held t (keys es) ≡ false → lookup_entry (same_trace t) es ≡ None
  entry-none t [] h = refl
  entry-none t (e ∷ es) h = (elim (same_trace t e.0) as (λ b. (b || is_held t (keys es)) ≡ false → cond b (Some e) (lookup_entry (same_trace t) es) ≡ None) [
    | true ↦ λ h. cc
    | false ↦ λ h. entry-none t es h
  ]) h

  entry-some : (t : TraceId) (es : List (TraceId × U)) → is_held t (keys es) ≡ true → (e : TraceId × U) × (lookup_entry (same_trace t) es ≡ Some e) × (e.0 ≡ t)
  entry-some t [] h = cc
  entry-some t (e ∷ es) h = (elim (same_trace t e.0) as (λ b. same_trace t e.0 ≡ b → (b || is_held t (keys es)) ≡ true → (f : TraceId × U) × (cond b (Some e) (lookup_entry (same_trace t) es) ≡ Some f) × (f.0 ≡ t)) [
    | true ↦ λ k h. (e, refl, sym (same_trace-is t e.0 k))
    | false ↦ λ k h. entry-some t es h
  ]) refl h

  keys-remove : (t : TraceId) (es : List (TraceId × U)) → keys (remove_entry (same_trace t) es) ≡ without t (keys es)
  keys-remove t [] = refl
  keys-remove t (e ∷ es) = (elim (same_trace t e.0) as (λ b. keys (cond b es (e ∷ remove_entry (same_trace t) es)) ≡ cond b (keys es) (e.0 ∷ without t (keys es))) [
    | true ↦ refl
    | false ↦ ap (λ ts. e.0 ∷ ts) (keys-remove t es)
  ])

  keys-promoted-if : (t : TraceId) (es : List (TraceId × U)) (b : Bool) → is_held t (keys es) ≡ b → keys (promoted (same_trace t) es) ≡ renewed_if b t (keys es)
  keys-promoted-if t es true h = let w = entry-some t es h in rw (w.1, w.2) (ap (λ ts. t ∷ ts) (keys-remove t es))
  keys-promoted-if t es false h = rw (entry-none t es h)

  pub keys-promoted : (t : TraceId) (es : List (TraceId × U)) → keys (promoted (same_trace t) es) ≡ renewed t (keys es)
  keys-promoted t es = keys-promoted-if t es (is_held t (keys es)) refl

  keys-take : (n : ℕ) (es : List (TraceId × U)) → keys (take n es) ≡ take n (keys es)
  keys-take zero es = refl
  keys-take (suc n) [] = refl
  keys-take (suc n) (e ∷ es) = ap (λ ts. e.0 ∷ ts) (keys-take n es)

  pub keys-put : (c : LruCache TraceId U) (t : TraceId) (u : U) → is_held t (keys c.entries) ≡ false → keys (put_entries same_trace c t u) ≡ t ∷ take (c.cap - 1) (keys c.entries)
  keys-put c t u h = rw (entry-none t c.entries h) (ap (λ ts. t ∷ ts) (keys-take (c.cap - 1) c.entries))
