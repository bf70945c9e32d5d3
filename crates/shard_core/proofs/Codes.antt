-- What the code of `take` does to what a shard holds, beside the definitions.
-- For the contract of `take_span`.
use Rattle.std.proofs.Common.{◌≡◌, ℕ, ◌<◌, max, Bool, true, false, not, ◌||◌, cond, ◌==◌, nat_lt, List, Option, Some, None, option_map, refl, sym, ap, subst, ◌∙◌, arith, ne_eqb, eq-eqb}
use Rattle.std.proofs.lemmas.Bool.Decides.{nat_tests}
use Rattle.span_ids.specs.declared.ids.TraceId.{TraceId}
use Rattle.span_ids.specs.declared.outcome.Verdict.{Verdict}
use Rattle.span_ids.specs.declared.outcome.Verdict.TheVariants.{Sampled, NotSampled}
use Rattle.span_ids.specs.declared.outcome.Reason.TheVariants.{NoMemory}
use Rattle.otlp_types.specs.declared.arrival.Arrival.{Arrival}
use Rattle.policy_tree.specs.declared.policy.Policy.{Policy}
use Rattle.trace_buffer.specs.Buffer.{Episode, Buffer, append_first, episode_of, state_of, state_of_verdict, after_opening, opening_episode, leaves}
use Rattle.trace_buffer.specs.declared.episode.State.TheVariants.{Undecided}
use Rattle.trace_buffer.specs.declared.episode.Evicted.{Evicted}
use Rattle.decision_cache.specs.Lists.{CacheLists, TraceList, asked, list_after_put, puts, PutAs, Remembers}
use Rattle.decision_cache.specs.declared.traces.Remembered.{Remembered}
use Rattle.decision_cache.specs.declared.traces.Remembered.TheVariants.{Kept as InCache, Off, Lost}
use Rattle.journal_theory.specs.Journal.{Settings, cache_size}
use Rattle.journal_theory.specs.Standing.{Standing}
use Rattle.shard_core.specs.Held.{Held, held_of, settings}
use Rattle.journal_theory.specs.Keeping.{after_span_of, after_episode, after_known, after_unknown, after_leaving, after_leaving_decided, with_caches}
use Rattle.journal_theory.specs.Laws.{State, state_in, state_by}
use Rattle.shard_core.specs.Taking.{is_refusal, is_loss, put_answer, put_in}
use Rattle.journal_theory.specs.Marked.{cache_is_on}
use Rattle.shard_core.specs.Holding.{answer_held, verdict_leaving, marks_held, at_clock, TakesSpanOf, Puts, PutsDecided, KeepsAs}
use Rattle.shard_core.specs.declared.answer.Taken.{Taken}
use Rattle.shard_core.specs.declared.answer.Taken.TheVariants.{Kept, Dropped, Late, Ticked, Ended, Finished}
use Rattle.decision_cache.specs.Touches.{is_lost}
use Rattle.journal_theory.proofs.StandingParts.{state_asked}
use Rattle.shard_core.specs.declared.setup.Waits.{Waits}

-- ---- what `find` says of the trace's episode

undecided_episode : (e : Option Episode) → state_of e ≡ Some Undecided → (x : Episode) × (e ≡ Some x) × (x.verdict ≡ None)
undecided_episode None h = absurd (cc h)
undecided_episode (Some x) h = go x.verdict refl (cc h)
  where
    go : (v : Option Verdict) → x.verdict ≡ v → state_of_verdict v ≡ Undecided → (y : Episode) × (Some x ≡ Some y) × (y.verdict ≡ None)
    go None e h = (x, refl, e)
    go (Some v) e h = absurd (cc h)

pub no_episode : (e : Option Episode) → state_of e ≡ None → e ≡ None
no_episode None h = refl
no_episode (Some x) h = absurd (cc h)

module _ (p : List Policy) (waits : Waits) (b : Buffer) (c : CacheLists) (cl mk : ℕ) (en : List Bool) (a : Arrival) (t : TraceId) where
  abbrev old : Held
  old = held_of p waits b c cl mk en

  abbrev new_of : Buffer → CacheLists → Held
  new_of d e = held_of p waits d e (max a.moment cl) mk en

  abbrev s : Settings
  s = settings old

  abbrev st : Standing
  st = at_clock a.moment old.standing

  -- the relation, by the marks and the state
  by_state : (answer : Taken) (new : Held) (refused lost : Bool) (state : State) → is_refusal answer ≡ refused → is_loss answer ≡ lost → state_in st t ≡ state →
      new ≡ record old { standing = after_span_of s b.num_traces refused lost t a st } → answer ≡ answer_held s b.num_traces refused lost a st state → marks_held s b.num_traces refused lost st state ≡ true → TakesSpanOf old a t answer new
  by_state answer new refused lost state r l e n q m = rw (r, l, e) (n, q, m)

  state_known : (e : Episode) → episode_of t b.episodes ≡ Some e → state_in st t ≡ Some e.verdict
  state_known e h = ap (state_by st t) h

  state_unknown : episode_of t b.episodes ≡ None → state_in st t ≡ option_map (λ (v : Verdict). Some v) (asked t c)
  state_unknown h = ap (state_by st t) h ∙ state_asked t c

  after_by : (lost : Bool) (o : Option Episode) → episode_of t b.episodes ≡ o → after_span_of s b.num_traces false lost t a st ≡ after_episode s b.num_traces lost t a st o
  after_by lost o h = ap (after_episode s b.num_traces lost t a st) h

  pub appended : state_of (episode_of t b.episodes) ≡ Some Undecided → (d : Buffer) → d ≡ record b { episodes = append_first t st.clock a b.episodes } → TakesSpanOf old a t (Kept None None) (new_of d c)
  appended h d e =
      let x = undecided_episode (episode_of t b.episodes) h in
      by_state (Kept None None) (new_of d c) false false (Some None) refl refl (state_known x.0 x.1 ∙ ap (λ (v : Option Verdict). Some v) x.2)
      (ap (λ (z : Buffer). new_of z c) e ∙ ap (λ (z : Standing). record old { standing = z }) (sym (after_by false (Some x.0) x.1 ∙ ap (after_known t a st) x.2))) refl refl

  pub refused_append : state_of (episode_of t b.episodes) ≡ Some Undecided → (d : Buffer) → d ≡ b → TakesSpanOf old a t (Dropped NoMemory) (new_of d c)
  refused_append h d e =
      let x = undecided_episode (episode_of t b.episodes) h in
      by_state (Dropped NoMemory) (new_of d c) true false (Some None) refl refl (state_known x.0 x.1 ∙ ap (λ (v : Option Verdict). Some v) x.2) (ap (λ (z : Buffer). new_of z c) e) refl refl

  -- a shard with other lists
  abbrev sized : Buffer → CacheLists → (num_traces sampled_cache_size non_sampled_cache_size : ℕ) → Held
  sized d e num_traces sampled_cache_size non_sampled_cache_size = record { policies = p; waits = waits; num_traces = num_traces; sampled_cache_size = sampled_cache_size; non_sampled_cache_size = non_sampled_cache_size; standing = record (with_caches e st) { episodes = d.episodes } }

  at_sizes : (d : Buffer) (e : CacheLists) (m n i j g h : ℕ) → m ≡ n → i ≡ j → g ≡ h → sized d e m i g ≡ sized d e n j h
  at_sizes d e m n i j g h u x y = rw (u, x, y) refl

  -- where the limit and the sizes are as before
  resized : (d : Buffer) (e : CacheLists) → d.num_traces ≡ b.num_traces → e.sampled.size ≡ c.sampled.size → e.not_sampled.size ≡ c.not_sampled.size → new_of d e ≡ record old { standing = record (with_caches e st) { episodes = d.episodes } }
  resized d e l x y = at_sizes d e d.num_traces b.num_traces e.sampled.size c.sampled.size e.not_sampled.size c.not_sampled.size l x y

  pub refused_opening : (answer : Taken) → answer ≡ Dropped NoMemory → state_of (episode_of t b.episodes) ≡ None → asked t c ≡ None → (d : Buffer) (e : CacheLists) → d ≡ b → e ≡ c → TakesSpanOf old a t answer (new_of d e)
  refused_opening answer r h g d e q z =
      let n = no_episode (episode_of t b.episodes) h in
      by_state answer (new_of d e) true false None (ap is_refusal r) (ap is_loss r) (state_unknown n ∙ ap (option_map (λ (v : Verdict). Some v)) g) (rw (q, z) refl) r refl

  -- ---- an opening

  lists_are : (e : CacheLists) (x y : TraceList) → e.sampled ≡ x → e.not_sampled ≡ y → e ≡ (let l : CacheLists = record { sampled = x; not_sampled = y } in l)
  lists_are e x y f g = ap (λ (z : TraceList). let l : CacheLists = record { sampled = z; not_sampled = e.not_sampled } in l) f ∙ ap (λ (z : TraceList). let l : CacheLists = record { sampled = x; not_sampled = z } in l) g

  -- what a put did to a list, by its answer
  abbrev ListFacts : (l e : TraceList) → TraceId → Remembered → Type 0
  ListFacts l e tr y = (e ≡ cond (is_lost y) l (list_after_put tr l)) × (e.size ≡ l.size) × (y ≡ put_in (is_lost y) l.size) × ((not (is_lost y) || nat_lt 0 l.size) ≡ true)

  not-zero : (n : ℕ) → 0 < n → (n == 0) ≡ false
  not-zero n l = ne_eqb n 0 (λ e. omega (arith, l, e))

  above-zero : (n : ℕ) → 0 < n → nat_lt 0 n ≡ true
  above-zero n l = grind (arith, nat_tests, l)

  list_facts : (l e : TraceList) (tr : TraceId) (y : Remembered) → PutAs tr l y e → ListFacts l e tr y
  list_facts l e tr InCache q = (q.1 ∙ sym (ap (λ z. cond z l (puts tr l)) (not-zero l.size q.0)), ap (λ (z : TraceList). z.size) q.1, sym (ap (λ z. cond z Off InCache) (not-zero l.size q.0)), refl)
  list_facts l e tr Off q = (q.1 ∙ sym (ap (λ z. cond z l (puts tr l)) (eq-eqb l.size 0 q.0)), ap (λ (z : TraceList). z.size) q.1, sym (ap (λ z. cond z Off InCache) (eq-eqb l.size 0 q.0)), refl)
  list_facts l e tr Lost q = (q.1, ap (λ (z : TraceList). z.size) q.1, refl, above-zero l.size q.0)

  -- what the put of the verdict of the episode that left did
  record PutDone (left : Option Evicted) (r : Option Remembered) (e : CacheLists) : Type 0 where
    caches : e ≡ after_leaving (is_loss (Kept left r)) left c
    size : e.sampled.size ≡ c.sampled.size
    other_size : e.not_sampled.size ≡ c.not_sampled.size
    answer : r ≡ put_answer s (is_loss (Kept left r)) left
    mark : (not (is_loss (Kept left r)) || cache_is_on s (verdict_leaving left)) ≡ true

  -- memory was refused to the put exactly where the put was lost
  loss_of : (left : Option Evicted) (y : Remembered) → is_loss (Kept left (Some y)) ≡ is_lost y
  loss_of left InCache = refl
  loss_of left Off = refl
  loss_of left Lost = refl

  -- a put of this verdict, by what the lists became and what was answered
  put_as : (x : Evicted) (v : Verdict) (y : Remembered) (e : CacheLists) → x.verdict ≡ Some v → e ≡ after_leaving_decided (is_lost y) x.trace (Some v) c → e.sampled.size ≡ c.sampled.size → e.not_sampled.size ≡ c.not_sampled.size →
      y ≡ put_in (is_lost y) (cache_size s v) → (not (is_lost y) || nat_lt 0 (cache_size s v)) ≡ true → PutDone (Some x) (Some y) e
  put_as x v y e d lists size other_size answer mark = let l = loss_of (Some x) y in record {
    caches = lists ∙ sym (ap (λ b. after_leaving b (Some x) c) l ∙ ap (λ z. after_leaving_decided (is_lost y) x.trace z c) d);
    size = size;
    other_size = other_size;
    answer = ap (λ (z : Remembered). Some z) answer ∙ sym (ap (λ b. put_answer s b (Some x)) l ∙ ap (option_map (λ v. put_in (is_lost y) (cache_size s v))) d);
    mark = ap (λ b. not b || cache_is_on s x.verdict) l ∙ ap (λ z. not (is_lost y) || cache_is_on s z) d ∙ mark;
  }

  sampled_put : (lost : Bool) (tr : TraceId) → (let l : CacheLists = record { sampled = cond lost c.sampled (list_after_put tr c.sampled); not_sampled = c.not_sampled } in l) ≡ after_leaving_decided lost tr (Some Sampled) c
  sampled_put true tr = refl
  sampled_put false tr = refl

  not_sampled_put : (lost : Bool) (tr : TraceId) → (let l : CacheLists = record { sampled = c.sampled; not_sampled = cond lost c.not_sampled (list_after_put tr c.not_sampled) } in l) ≡ after_leaving_decided lost tr (Some NotSampled) c
  not_sampled_put true tr = refl
  not_sampled_put false tr = refl

  put_decided : (x : Evicted) (v : Verdict) (y : Remembered) (e : CacheLists) → x.verdict ≡ Some v → Remembers x.trace v c y e → PutDone (Some x) (Some y) e
  put_decided x Sampled y e d q =
      let f = list_facts c.sampled e.sampled x.trace y q.0 in
      put_as x Sampled y e d (lists_are e (cond (is_lost y) c.sampled (list_after_put x.trace c.sampled)) c.not_sampled f.0 q.1 ∙ sampled_put (is_lost y) x.trace) f.1 (ap (λ (z : TraceList). z.size) q.1) f.2 f.3
  put_decided x NotSampled y e d q =
      let f = list_facts c.not_sampled e.not_sampled x.trace y q.0 in
      put_as x NotSampled y e d (lists_are e c.sampled (cond (is_lost y) c.not_sampled (list_after_put x.trace c.not_sampled)) q.1 f.0 ∙ not_sampled_put (is_lost y) x.trace) (ap (λ (z : TraceList). z.size) q.1) f.1 f.2 f.3

  put_none : (left : Option Evicted) (r : Option Remembered) (e : CacheLists) → verdict_leaving left ≡ None → r ≡ None → e ≡ c → (lost : Bool) → is_loss (Kept left r) ≡ lost → PutDone left r e
  put_none None r e d q z lost l = let n : is_loss (Kept None r) ≡ false = ap (λ (x : Option Remembered). is_loss (Kept None x)) q in record {
    caches = z;
    size = ap (λ (l : CacheLists). l.sampled.size) z;
    other_size = ap (λ (l : CacheLists). l.not_sampled.size) z;
    answer = q;
    mark = ap (λ b. not b || cache_is_on s None) n;
  }
  put_none (Some x) r e d q z lost l = let n : is_loss (Kept (Some x) r) ≡ false = ap (λ (y : Option Remembered). is_loss (Kept (Some x) y)) q in record {
    caches = z ∙ sym (ap (λ b. after_leaving b (Some x) c) n ∙ ap (λ v. after_leaving_decided false x.trace v c) d);
    size = ap (λ (l : CacheLists). l.sampled.size) z;
    other_size = ap (λ (l : CacheLists). l.not_sampled.size) z;
    answer = q ∙ sym (ap (λ b. put_answer s b (Some x)) n ∙ ap (option_map (λ v. put_in false (cache_size s v))) d);
    mark = ap (λ b. not b || cache_is_on s x.verdict) n;
  }

  put_left : (x : Evicted) (v : Option Verdict) (r : Option Remembered) (e : CacheLists) → x.verdict ≡ v → PutsDecided x.trace v c r e → PutDone (Some x) r e
  put_left x None r e d q = put_none (Some x) r e d q.0 q.1 (is_loss (Kept (Some x) r)) refl
  put_left x (Some v) r e d q = let P = λ (z : Option Remembered). PutDone (Some x) z e in subst P (sym q.1) (put_decided x v q.0 e d q.2)

  put_done : (left : Option Evicted) (r : Option Remembered) (e : CacheLists) → Puts left c r e → PutDone left r e
  put_done None r e q = put_none None r e refl q.0 q.1 (is_loss (Kept None r)) refl
  put_done (Some x) r e q = put_left x x.verdict r e refl q

  pub opened : (answer : Taken) (left : Option Evicted) (r : Option Remembered) → answer ≡ Kept left r → state_of (episode_of t b.episodes) ≡ None → asked t c ≡ None → (d : Buffer) (e : CacheLists) → left ≡ leaves b → d ≡ after_opening b (opening_episode t a (max a.moment cl) waits.maximum_trace_size) → Puts left c r e → TakesSpanOf old a t answer (new_of d e)
  opened answer left r x h g d e l z q =
      let n = no_episode (episode_of t b.episodes) h in
      let done = put_done left r e q in
      let P = λ (y : Taken). TakesSpanOf old a t y (new_of d e) in
      let lost = is_loss (Kept left r) in
      subst P (sym x) (by_state (Kept left r) (new_of d e) false lost None refl refl (state_unknown n ∙ ap (option_map (λ (v : Verdict). Some v)) g)
      (resized d e (ap (λ (y : Buffer). y.num_traces) z) done.size done.other_size
      ∙ ap (λ (y : CacheLists). record old { standing = record (with_caches y st) { episodes = d.episodes } }) (done.caches ∙ ap (λ (y : Option Evicted). after_leaving lost y c) l)
      ∙ ap (λ (y : Buffer). record old { standing = record (with_caches (after_leaving lost (leaves b) c) st) { episodes = y.episodes } }) z
      ∙ ap (λ (y : Standing). record old { standing = y }) (sym (after_by lost None n ∙ ap (after_unknown s b.num_traces lost t a st) g)))
      (ap (Kept left) done.answer ∙ ap (λ (y : Option Evicted). Kept y (put_answer s lost y)) l)
      (ap (λ (y : Option Evicted). not lost || cache_is_on s (verdict_leaving y)) (sym l) ∙ done.mark))

-- what is answered to an opening, by the put
pub keep_puts : (left : Option Evicted) (old new : CacheLists) (answer : Taken) → KeepsAs left old answer new → (r : Option Remembered) × (answer ≡ Kept left r) × Puts left old r new
keep_puts left old new (Kept evicted r) k = (r, ap (λ (e : Option Evicted). Kept e r) k.0, k.1)
keep_puts left old new (Late a) k = absurd k
keep_puts left old new (Dropped r) k = absurd k
keep_puts left old new Ticked k = absurd k
keep_puts left old new Ended k = absurd k
keep_puts left old new Finished k = absurd k
