-- A line of a script leaves all quiet.
-- For the contracts of `close`, `play`, `receive`, `replay_run` and others.
use Rattle.std.proofs.Common.{add-one, suc, replicate, ◌≡◌, ℕ, ◌+◌, ◌<◌, Bool, true, false, Option, Some, None, List, [], ◌∷◌, ◌++◌, map, length, refl, sym, ap, subst, ◌∙◌, arith}
use Rattle.std.proofs.lemmas.List.{with_items_is}
use Rattle.std.specs.Prelude.{not, ◌&&◌, Vec}
use Rattle.std.specs.List.{list_all}
use Rattle.std.specs.Vec.{with_items}
use Rattle.otlp_types.specs.declared.arrival.Item.{Item}
use Rattle.lane_queue.specs.Queues.{QueueState}
use Rattle.journal_theory.specs.Journal.{Settings, Journal}
use Rattle.shard_core.specs.Held.{Held, has_due}
use Rattle.span_sink.specs.LineSinks.{LineSinkState}
use Rattle.span_exporter.specs.declared.answer.Flushed.{Flushed}
use Rattle.span_exporter.specs.Exports.{Sends}
use Rattle.tsc_script.specs.Instructions.{Instruction}
use Rattle.script_run.specs.Connections.{Contacts}
use Rattle.script_run.specs.Sending.{SendsInBatches}
use Rattle.script_run.specs.World.{ScriptWorld, Sizes, was_sent, RunsToQuiet, Plays, PlaysAll, empty_queues}
use Rattle.script_run.specs.Counts.{number_reported, counted_for, Reports}
use Rattle.script_session.specs.Adding.{Adds, at_reasons, counted_in}
use Rattle.script_session.specs.Pulling.{Export, Counts, HaveReleased, HaveSettings, AreQuiet, AreOpen, ends_of, has_all_nodes, has_none_due, ends_in, EachTakes, RoundsTaken, AreOf}
use Rattle.script_session.proofs.Adds.{Adds-then, Reports-grow}
use Rattle.script_session.proofs.Numbers.{number-quiet}
use Rattle.script_session.proofs.Pulls.{sent-in_batches}
use Rattle.script_session.proofs.Several.{RoundsTaken-none, RoundsTaken-push}

-- the shards are quiet, in two equations
pub quiet-of : (ends : List Bool) (hs : List Held) → has_none_due hs ≡ true → ends_in hs ≡ map (λ (h : Held). ends) hs → AreQuiet ends hs
quiet-of ends [] d e = tt
quiet-of ends (h ∷ hs) d e = go (has_due h) refl d (quiet-of ends hs)
  where
    first : h.standing.ends ≡ ends
    first = cc e

    rest : ends_in hs ≡ map (λ (h : Held). ends) hs
    rest = cc e

    go : (b : Bool) → has_due h ≡ b → (not b && has_none_due hs) ≡ true → (has_none_due hs ≡ true → ends_in hs ≡ map (λ (h : Held). ends) hs → AreQuiet ends hs) → AreQuiet ends (h ∷ hs)
    go true k d f = absurd (cc d)
    go false k d f = ((first, k), f d rest)

pub none-due : (ends : List Bool) (hs : List Held) → AreQuiet ends hs → has_none_due hs ≡ true
none-due ends [] q = refl
none-due ends (h ∷ hs) q = rw (q.0.1) (none-due ends hs q.1)

pub ends-are : (ends : List Bool) (hs : List Held) → AreQuiet ends hs → ends_in hs ≡ map (λ (h : Held). ends) hs
ends-are ends [] q = refl
ends-are ends (h ∷ hs) q = let first = q.0.0 in let rest = ends-are ends hs q.1 in cc (first, rest)

pub released-length : (hs : List Held) (pasts : List Journal) → HaveReleased hs pasts → length hs ≡ length pasts
released-length [] [] has = refl
released-length [] (p ∷ ps) has = absurd has
released-length (h ∷ hs) [] has = absurd has
released-length (h ∷ hs) (p ∷ ps) has = ap suc (released-length hs ps has.1)

-- one round
pub one-round : (old new : List Held) (first last : Counts) (items : List (List Item)) (before after : Export) → EachTakes old first before items new last after → RoundsTaken old first before (items ∷ []) new last after
one-round old new first last items before after t = RoundsTaken-push old old new first first last [] items before before after (λ s alike. alike) (RoundsTaken-none old first before) t

regroup : (all n d c b f : ℕ) → all ≡ n + (d + c) → c ≡ b + f → all ≡ n + ((d + b) + f)
regroup all n d c b f p q = omega arith

-- rounds were taken and the rest of the batch was sent
pub quiets : (s : Settings) (sizes : Sizes) (w : ScriptWorld) (contacts : Contacts) (old new : List Held) (first last : Counts) (before between final : Export) (closed : Bool) (rounds : List (List (List Item)))
    → AreOf s w contacts old first before closed → before.0.size ≡ sizes.batch → length before.0.batch ≡ 0
    → RoundsTaken old first before rounds new last between → HaveSettings s new
    → length between.0.batch < between.0.size
    → ((flushed : Flushed) × Sends between.0.sink between.0.batch flushed final.0.sink × Adds between.1 (λ count. counted_for count flushed) final.1)
    → (after : ScriptWorld) × RunsToQuiet s sizes w rounds after × AreOf s after contacts new last final closed
quiets s sizes w contacts old new first last before between final closed rounds are size_is empty takes alike room sent =
    let t = takes.takes s w.journals w.askings are.settings_are are.released_all are.limiter_is in
    let went = sent-in_batches before between final.0.sink t.released t.dropped sent.0 empty t.pulls room sent.1 in
    let P = λ (k : LineSinkState). SendsInBatches sizes.batch k t.released went.batches final.0.sink in
    let Q = λ (n : ℕ). SendsInBatches n before.0.sink t.released went.batches final.0.sink in
    let after : ScriptWorld = record w { journals = t.nows; askings = t.asked_now; events = w.events ++ map was_sent went.batches; sink = final.0.sink } in (
      after,
      record { released = t.released; takes = t.takes; batches = went.batches; sends = subst P are.sink_is (subst Q size_is went.sends); becomes = refl },
      record {
        contacts_are = are.contacts_are;
        settings_are = alike;
        released_all = t.have_released;
        limiter_is = t.limiter_is;
        sink_is = refl;
        reports = Reports-grow s w after before.1 final.1 (λ k. (at_reasons t.dropped k + counted_in t.pulls.batches k) + counted_for k sent.0)
            (λ k. regroup (number_reported s after k) (number_reported s w k) (at_reasons t.dropped k) (counted_in went.batches k) (counted_in t.pulls.batches k) (counted_for k sent.0)
            (number-quiet s w t.nows t.asked_now went.batches final.0.sink t.dropped t.drops k) (went.counts k))
            are.reports (Adds-then before.1 between.1 final.1 _ _ _ (λ k. refl) t.pulls.adds sent.2);
        closed_is = are.closed_is;
      },
    )

-- nothing but the mark changes at a close
pub closes : (s : Settings) (w : ScriptWorld) (contacts : Contacts) (shards : List Held) (limiter : Counts) (output : Export) (closed : Bool) → AreOf s w contacts shards limiter output closed
    → AreOf s (record w { closed = true }) contacts shards limiter output true
closes s w contacts shards limiter output closed are = record {
  contacts_are = are.contacts_are;
  settings_are = are.settings_are;
  released_all = are.released_all;
  limiter_is = are.limiter_is;
  sink_is = are.sink_is;
  reports = reported output.1 are.reports;
  closed_is = refl;
}
  where
    reported : (r : Option (List ℕ)) → Reports s w r → Reports s (record w { closed = true }) r
    reported None p = p
    reported (Some numbers) p = p

pub PlaysAll-push : (s : Settings) (sizes : Sizes) (w mid after : ScriptWorld) (done : List Instruction) (x : Instruction) → PlaysAll s sizes w done mid → Plays s sizes mid x after
    → PlaysAll s sizes w (done ++ x ∷ []) after
PlaysAll-push s sizes w mid after [] x p q = let P = λ (v : ScriptWorld). Plays s sizes v x after in (after, subst P p q, refl)
PlaysAll-push s sizes w mid after (y ∷ ys) x p q = (p.0, p.1, PlaysAll-push s sizes p.0 mid after ys x p.2 q)

-- ---- between two lines

open-ends : (n : ℕ) → list_all (λ b. b) (ends_of n false) ≡ false
open-ends n = ap (λ (k : ℕ). list_all (λ b. b) (replicate k false)) (add-one n)

-- the shards of a session, which is not closed
pub quiet-now : (lanes : ℕ) (closed : Bool) (shards now : List Held) → now ≡ shards → closed ≡ false → has_none_due shards ≡ true → ends_in shards ≡ map (λ (h : Held). ends_of lanes closed) shards → AreQuiet (ends_of lanes false) now
quiet-now lanes closed shards now is opened none ends =
    let P = λ (hs : List Held). AreQuiet (ends_of lanes false) hs in
    let E = λ (b : Bool). ends_in shards ≡ map (λ (h : Held). ends_of lanes b) shards in
    subst P (sym is) (quiet-of (ends_of lanes false) shards none (subst E opened ends))

pub open-now : (lanes : ℕ) (closed : Bool) (shards now : List Held) → now ≡ shards → closed ≡ false → has_none_due shards ≡ true → ends_in shards ≡ map (λ (h : Held). ends_of lanes closed) shards → AreOpen now
open-now lanes closed shards now is opened none ends = (ends_of lanes false, quiet-now lanes closed shards now is opened none ends, open-ends lanes)

-- what it keeps, once its shards are these
pub none-due-now : (ends : List Bool) (shards now : List Held) → now ≡ shards → AreQuiet ends shards → has_none_due now ≡ true
none-due-now ends shards now is q = ap has_none_due is ∙ none-due ends shards q

pub ends-now : (lanes : ℕ) (closed later : Bool) (shards now : List Held) → now ≡ shards → later ≡ closed → AreQuiet (ends_of lanes closed) shards → ends_in now ≡ map (λ (h : Held). ends_of lanes later) now
ends-now lanes closed later shards now is same q =
    let P = λ (hs : List Held). ends_in hs ≡ map (λ (h : Held). ends_of lanes later) hs in
    let E = λ (b : Bool). ends_in shards ≡ map (λ (h : Held). ends_of lanes b) shards in
    subst P (sym is) (subst E (sym same) (ends-are (ends_of lanes closed) shards q))

-- ---- shards that were lent as a slice

-- what those that came back are, the vector is
pub returned : {Z : Type 0} (v : Vec Held Z) (new : List Held) → length new ≡ v.len → (P : List Held → Type 0) → P new → P (with_items v new).items
returned v new len P h = subst P (sym (with_items_is v new len)) h

-- what they took, the vector's took, which have the settings that they had
pub told : {Z : Type 0} (s : Settings) (v : Vec Held Z) (lent new : List Held) (first last : Counts) (rounds : List (List (List Item))) (before after : Export) → lent ≡ v.items → length new ≡ v.len
    → RoundsTaken lent first before rounds new last after → (HaveSettings s lent → HaveSettings s new) → HaveSettings s v.items
    → RoundsTaken v.items first before rounds (with_items v new).items last after × HaveSettings s (with_items v new).items
told s v lent new first last rounds before after is len took alike had =
    let T = λ (hs : List Held). RoundsTaken hs first before rounds new last after in
    let N = λ (hs : List Held). RoundsTaken v.items first before rounds hs last after in
    let H = λ (hs : List Held). HaveSettings s hs in
    (returned v new len N (subst T is took), returned v new len H (alike (subst H (sym is) had)))

-- what a session says of its shards
pub record Standing (limiter : Counts) (lanes : ℕ) (closed : Bool) (queues : List (QueueState Item)) (capacity : ℕ) (hs : List Held) : Type 0 where
  pub nodes : has_all_nodes limiter hs ≡ true
  pub none_due : has_none_due hs ≡ true
  pub ends : ends_in hs ≡ map (λ (h : Held). ends_of lanes closed) hs
  pub some : 0 < length hs
  pub empty : queues ≡ empty_queues capacity (length hs)

-- it goes on saying so of quiet shards, of which there are as many
pub standing : (limiter : Counts) (lanes : ℕ) (closed later : Bool) (queues : List (QueueState Item)) (capacity : ℕ) (old new : List Held) → has_all_nodes limiter new ≡ true → AreQuiet (ends_of lanes closed) new → later ≡ closed
    → length new ≡ length old → 0 < length old → queues ≡ empty_queues capacity (length old) → Standing limiter lanes later queues capacity new
standing limiter lanes closed later queues capacity old new nodes quiet same many some empty = record {
  nodes = nodes;
  none_due = none-due (ends_of lanes closed) new quiet;
  ends = ends-now lanes closed later new new refl same quiet;
  some = omega (arith, many, some);
  empty = empty ∙ ap (empty_queues capacity) (sym many);
}
