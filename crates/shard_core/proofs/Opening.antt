-- A span that opens an episode, or finds no memory, by what the buffer and the cache became.
-- Serves the contract of `take_span`, and the invariant of `Shard` there.
use Rattle.std.proofs.Common.{◌≡◌, ℕ, max, Bool, true, false, List, Option, Some, None, Result, Ok, Err, sym, subst, ◌∙◌}
use Rattle.policy_tree.specs.declared.policy.Policy.{Policy}
use Rattle.otlp_types.specs.declared.span.Ids.{Ids}
use Rattle.otlp_types.specs.declared.arrival.Arrival.{Arrival}
use Rattle.trace_buffer.specs.Buffer.{Buffer, Opened, episode_of, state_of}
use Rattle.trace_buffer.specs.declared.episode.Evicted.{Evicted}
use Rattle.decision_cache.specs.Lists.{CacheLists, asked, is_held_in_either}
use Rattle.shard_core.specs.Forgotten.{have_spans}
use Rattle.shard_core.specs.Held.{held_of}
use Rattle.shard_core.specs.Holding.{OpensAs, Puts, TakesSpanOf}
use Rattle.shard_core.specs.declared.answer.Taken.{Taken}
use Rattle.shard_core.proofs.Forgetting.{IsKept, open_keeps}
use Rattle.shard_core.proofs.HeldSpans.{open_spans}
use Rattle.shard_core.proofs.Codes.{keep_puts, opened, refused_opening}
use Rattle.shard_core.specs.declared.setup.Waits.{Waits}

pub opening_keeps : (clock maximum : ℕ) (old new : Buffer) (c d : CacheLists) (a : Arrival) (ids : Ids) (answer : Taken) {E : Type 0} (r : Result (Option Evicted) (Arrival × E)) → Opened old a (Some ids) clock maximum r new → OpensAs r c answer d →
    episode_of ids.trace old.episodes ≡ None → is_held_in_either ids.trace c ≡ false → IsKept clock old c → IsKept clock new d
opening_keeps clock maximum old new c d a ids answer (Ok left) o q n h k = let p = keep_puts left c d answer q in open_keeps clock maximum old new c d a ids.trace left p.0 o.0 o.1 p.2 n h k
opening_keeps clock maximum old new c d a ids answer (Err back) o q n h k =
    let P = λ (b : Buffer). IsKept clock b d in
    let Q = λ (l : CacheLists). IsKept clock old l in
    subst P (sym o.1) (subst Q (sym q.1) k)

pub opening_spans : (clock maximum : ℕ) (old new : Buffer) (a : Arrival) (ids : Ids) {E : Type 0} (r : Result (Option Evicted) (Arrival × E)) → Opened old a (Some ids) clock maximum r new → have_spans old.episodes ≡ true → have_spans new.episodes ≡ true
opening_spans clock maximum old new a ids (Ok left) o h = open_spans ids.trace a clock maximum old new o.1 h
opening_spans clock maximum old new a ids (Err back) o h = let P = λ (b : Buffer). have_spans b.episodes ≡ true in subst P (sym o.1) h

module _ (p : List Policy) (waits : Waits) (b : Buffer) (c : CacheLists) (cl mk : ℕ) (en : List Bool) (a : Arrival) (ids : Ids) where
  pub opening_takes : (answer : Taken) {E : Type 0} (r : Result (Option Evicted) (Arrival × E)) → state_of (episode_of ids.trace b.episodes) ≡ None → asked ids.trace c ≡ None → (d : Buffer) (x e : CacheLists) → x ≡ c →
      Opened b a (Some ids) (max a.moment cl) waits.maximum_trace_size r d → OpensAs r x answer e → TakesSpanOf (held_of p waits b c cl mk en) a ids.trace answer (held_of p waits d e (max a.moment cl) mk en)
  opening_takes answer (Ok left) h g d x e z o q =
      let k = keep_puts left x e answer q in
      let P = λ (l : CacheLists). Puts left l k.0 e in
      opened p waits b c cl mk en a ids.trace answer left k.0 k.1 h g d e o.0 o.1 (subst P z k.2)
  opening_takes answer (Err back) h g d x e z o q = refused_opening p waits b c cl mk en a ids.trace answer q.0 h g d e o.1 (q.1 ∙ z)
