use Rattle.std.proofs.Common.{Bor, ◌≡◌, ℕ, Option, Some, None, refl, sym, ap, subst, ◌∙◌}
use Rattle.std.specs.List.{find}
use Rattle.std.specs.Option.{is_some, option_copied}
use Rattle.trace_buffer.specs.Buffer.{is_due_at}
use Rattle.shard_core.specs.Held.{Held, has_due, due_by}
use Rattle.shard_core.specs.contracts.shard.Shard.{the_view}
use Rattle.shard_core.proofs.Deciding.{has_due_is}
use Rattle.shard_core.proofs.shard.Shard.has_due.Goals as goal

copied : {T : Type 0} (o : Option (Bor T)) → is_some o ≡ is_some (option_copied o)
copied None = refl
copied (Some x) = refl

pub returns : goal.returns
returns c =
    let h = the_view c.self.inside in
    let P = λ (g : Held). c.is_some.result ≡ has_due g in
    let by : c.due_by-mark.result ≡ due_by h = c.due_by-mark.ensures ∙ ap due_by (sym c.self.view_is) in
    let found = ap (λ (d : ℕ × ℕ × ℕ). is_some (find (is_due_at d.0 d.1 d.2) c.self.inside.buffer.episodes)) by in
    subst P c.self.view_is (c.is_some.ensures ∙ copied c.next_due.result ∙ ap is_some c.next_due.ensures ∙ found ∙ has_due_is h c.self.invariant.3)
