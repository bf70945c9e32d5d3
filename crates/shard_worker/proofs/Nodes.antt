-- A limiter goes on knowing the nodes of the policies.
-- For the clauses `nodes` of `Turns::turn` and `Turns::decide_due`.
use Rattle.std.proofs.Common.{◌≡◌, ℕ, Bool, true, List, ap, ◌∙◌}
use mathlib.Core.Path.{fun_ext}
use Rattle.policy_tree.specs.Tree.{limiters}
use Rattle.policy_tree.specs.Meaning.{meaning}
use Rattle.policy_tree.specs.declared.policy.Policy.{Policy}
use Rattle.policy_eval.specs.Meaning.{knows}

pub knows_kept : (old new : ℕ → Bool) (before after : List Policy) → ((node : ℕ) → new node ≡ old node) → after ≡ before → knows old (limiters (meaning before)) ≡ true → knows new (limiters (meaning after)) ≡ true
knows_kept old new before after nodes same h =
    let is : new ≡ old = fun_ext (λ node. nodes node) in
    ap (λ (f : ℕ → Bool). knows f (limiters (meaning after))) is ∙ ap (λ (ps : List Policy). knows old (limiters (meaning ps))) same ∙ h
