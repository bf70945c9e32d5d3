use Rattle.std.proofs.Common.{◌≡◌, true, ◌∙◌, refl, sym, subst}
use Rattle.policy_tree.specs.Tree.{limiters}
use Rattle.policy_tree.specs.Meaning.{meaning}
use Rattle.policy_eval.specs.Meaning.{knows}
use Rattle.shard_recording.proofs.Drafting.{none_of, not_none, goes_nowhere, goes_on, settles, decides_inner}
use Rattle.shard_recording.proofs.draft.EntryDraft.decide.Goals as goal

pub returns-then-is_nothing-clause-goes_on : goal.returns-then-is_nothing-clause-goes_on
returns-then-is_nothing-clause-goes_on g c =
    let none = none_of c.decide-decided.result (sym c.is_nothing.ensures ∙ c.if-is_nothing.true) in
    λ e past way. goes_nowhere c.args.shard.now c.decide-decided.new.self c.decide-decided.result c.args.self.now none (c.decide-decided.ensures.unchanged none).0 e past way

pub returns-then-is_nothing-clause-settled : goal.returns-then-is_nothing-clause-settled
returns-then-is_nothing-clause-settled g c =
    λ e past way none. settles c.args.shard.now c.decide-decided.new.self (c.decide-decided.ensures.unchanged none).0 (c.decide-decided.ensures.all_dealt none) (c.decide-decided.ensures.answered none) c.args.self.now e past way

pub returns-clause-goes_on : goal.returns-clause-goes_on
returns-clause-goes_on g c =
    λ e past way. goes_on g.L.Limiter.asks c.args.shard.now c.decide-decided.new.self c.decide-decided.result c.noted.new.self c.decide-decided.new.limiter c.noted-answers.result c.args.self.now c.note.new.self
    c.decide-decided.ensures.decides (sym c.is_nothing.ensures ∙ c.if-is_nothing.false) c.noted.ensures.none_left.0 c.noted-answers.ensures.noted c.note.ensures.same c.note.ensures.noted e past way

pub returns-clause-settled : goal.returns-clause-settled
returns-clause-settled g c = λ e past way none. not_none c.decide-decided.result (sym c.is_nothing.ensures ∙ c.if-is_nothing.false) none

pub returns-clause-none_due : goal.returns-clause-none_due
returns-clause-none_due g c = λ none. not_none c.decide-decided.result (sym c.is_nothing.ensures ∙ c.if-is_nothing.false) none

pub decide-decided-requires : goal.decide-decided-requires
decide-decided-requires g c =
    record { nodes = subst (λ l. knows (g.L.Limiter.has_node l) (limiters (meaning c.args.shard.now.policies)) ≡ true) (sym c.noted.ensures.inner) c.requires.nodes }

pub returns-then-is_nothing-clause-decides : goal.returns-then-is_nothing-clause-decides
returns-then-is_nothing-clause-decides g c =
    decides_inner g.L.Limiter.asks c.args.shard.now c.decide-decided.new.self c.decide-decided.result c.noted.new.self c.decide-decided.new.limiter _ _ c.noted.ensures.inner refl c.decide-decided.ensures.decides

pub returns-clause-decides : goal.returns-clause-decides
returns-clause-decides g c =
    decides_inner g.L.Limiter.asks c.args.shard.now c.decide-decided.new.self c.decide-decided.result c.noted.new.self c.decide-decided.new.limiter _ _ c.noted.ensures.inner c.noted-answers.ensures.inner c.decide-decided.ensures.decides
