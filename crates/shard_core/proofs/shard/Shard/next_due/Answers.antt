-- What is told of the trace that is decided next.
-- For the clauses of `Shard::next_due`.
use Rattle.std.proofs.Common.{◌≡◌, ℕ, drop, Some, None, option_map, sym, ap, subst, ◌∙◌}
use Rattle.std.specs.List.{find}
use Rattle.std.specs.Option.{option_copied}
use Rattle.trace_buffer.specs.Buffer.{is_due_at}
use Rattle.journal_theory.specs.Journal.{due_now}
use Rattle.shard_core.specs.Held.{Held, StandsFor, settings, is_finished, due_by}
use Rattle.shard_core.specs.Telling.{cause_of, told_of, due_trace, next_told}
use Rattle.shard_core.specs.contracts.shard.Shard.{the_view}
use Rattle.shard_core.proofs.DueTold.{next_due_told}
use Rattle.shard_core.proofs.shard.Shard.next_due.Goals as goal
use Rattle.shard_core.proofs.shard.Shard.next_due.Goals.{in-Some, in-None}

pub returns-clause-due : goal.returns-clause-due
returns-clause-due c =
    let h = the_view c.self.inside in
    let d = c.due_by-mark.result in
    let by : d ≡ due_by h = c.due_by-mark.ensures ∙ ap due_by (sym c.self.view_is) in
    let finished : c.finished-finished.result ≡ is_finished h = c.finished-finished.ensures ∙ ap is_finished (sym c.self.view_is) in
    let P = λ (x : Held). c.match-next_due.result ≡ due_trace x in
    subst P (c.self.view_is ∙ c.search.ensures) (elim c.match-next_due.branch [
      | in-Some w ↦
          let e = w.in-Some.episode.now in
          let F = λ (x : ℕ × ℕ × ℕ). find (is_due_at x.0 x.1 x.2) c.self.inside.buffer.episodes ≡ Some e in
          let found = subst F by (sym c.next_due.ensures ∙ ap option_copied w.in-Some.is) in
          let cause : w.cause_of.result ≡ cause_of (is_finished h) (due_by h).0 (due_by h).1 e = w.cause_of.ensures ∙ rw (finished, by) in
          let told : c.match-next_due.result ≡ Some (told_of h e) = w.result-is ∙ rw (w.trace.ensures, w.moment.ensures, w.spans.ensures, cause) in
          told ∙ sym (ap (option_map (told_of h)) found)
      | in-None w ↦
          let F = λ (x : ℕ × ℕ × ℕ). find (is_due_at x.0 x.1 x.2) c.self.inside.buffer.episodes ≡ None in
          let none = subst F by (sym c.next_due.ensures ∙ ap option_copied w.in-None.is) in
          w.result-is ∙ sym (ap (option_map (told_of h)) none)
    ])

pub returns-clause-told : goal.returns-clause-told
returns-clause-told c = λ past dealt s.
    let h = the_view c.self.inside in
    let is = c.self.view_is ∙ c.search.ensures in
    let P = λ (x : Held). StandsFor x past dealt → due_trace x ≡ next_told (settings x) past (drop dealt (due_now (settings x) past)) in
    returns-clause-due c ∙ subst P is (next_due_told h c.self.invariant.0 c.self.invariant.1 c.self.invariant.3 past dealt) s
