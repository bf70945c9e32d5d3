use Rattle.std.proofs.Common.{◌≡◌, ℕ, ◌<◌, ◌≤◌, ◌∙◌, [], ◌∷◌, ap, sym, subst, length, arith, map, vec_len, vec_capacity, All, Some}
use Rattle.std.proofs.lemmas.List.{length-map, map-append}
use Rattle.pipeline.specs.Made.{NumberedFrom}
use Rattle.lane_queue.specs.Grid.{ends_of}
use Rattle.pipeline.proofs.Dealt.{dealt, numbered, all_dealt, all_reverse}
use Rattle.std.proofs.lemmas.List.Elements.{All-push, All-pop}
use Rattle.pipeline.proofs.lanes.lane_jobs.Goals as goal

none_left : (columns acceptors : ℕ) → columns ≡ acceptors → columns ≡ 0 → acceptors ≡ 0
none_left columns acceptors same none = omega (arith, same, none)

pub loop-senders-preserved : goal.loop-senders-preserved
loop-senders-preserved g c =
    let h = c.loop-senders.invariant in
    let s = c.in-Some.ensures in
    let p = c.take_last-acceptor.ensures in
    let pushed = c.push_reserved.ensures in
    let made = c.lane_job.ensures in (
      omega (arith, p.len, pushed.len, h.0),
      omega (arith, p.len, s.len, h.1),
      (All-pop (λ v. 0 < length v.items) c.loop-senders.columns.items c.pop.new.self.items (Some c.in-Some.senders) s.items h.2).0,
      subst (All (λ job. (job.lane.number ≡ job.number) × (job.room.items ≡ []) × (length job.lane.ports ≤ vec_capacity job.room))) (sym pushed.items) (All-push (λ job. (job.lane.number ≡ job.number) × (job.room.items ≡ []) × (length job.lane.ports ≤ vec_capacity job.room)) c.loop-senders.jobs.items c.lane_job.result h.3 (ap (λ l. l.number) made.lane ∙ sym made.number, made.room.0, made.room.1)),
      dealt (λ job. job.acceptor) c.args.acceptors.items c.loop-senders.acceptors.items c.take_last-acceptor.new.self.items c.loop-senders.jobs.items _ c.take_last-acceptor.result c.lane_job.result p.items pushed.items made.acceptor h.4,
      dealt (λ job. job.lane.ports) (ends_of c.args.columns.items) (ends_of c.loop-senders.columns.items) (ends_of c.pop.new.self.items) c.loop-senders.jobs.items _ c.in-Some.senders.items c.lane_job.result
          (ap ends_of s.items ∙ map-append (λ v. v.items) c.pop.new.self.items (c.in-Some.senders ∷ [])) pushed.items (ap (λ l. l.ports) made.lane) h.5,
      numbered (λ job. job.number) (vec_len c.loop-senders.acceptors) (vec_len c.take_last-acceptor.new.self) c.loop-senders.jobs.items _ c.lane_job.result (sym p.len) (made.number ∙ c.len-number.ensures) pushed.items h.6,
      subst (All (λ job. (job.lane.connected ≡ 0) × (job.lane.keeps_doubles ≡ c.args.keeps_doubles))) (sym pushed.items) (All-push (λ job. (job.lane.connected ≡ 0) × (job.lane.keeps_doubles ≡ c.args.keeps_doubles)) c.loop-senders.jobs.items c.lane_job.result h.7 (ap (λ l. l.connected) made.lane, ap (λ l. l.keeps_doubles) made.lane)),
      omega (arith, pushed.capacity, h.8),
      omega (arith, p.capacity, h.9),
    )

pub returns-clause-acceptors : goal.returns-clause-acceptors
returns-clause-acceptors g c = all_dealt (λ job. job.acceptor) c.args.acceptors.items c.loop-senders.acceptors.items c.loop-senders.jobs.items c.reverse-2.new.self.items c.reverse-2.ensures.items (omega (arith, c.loop-senders.acceptors.ok.0, c.in_default-pop.ensures.cases.0, c.loop-senders.invariant.1)) c.loop-senders.invariant.4

pub returns-clause-columns : goal.returns-clause-columns
returns-clause-columns g c = all_dealt (λ job. job.lane.ports) (ends_of c.args.columns.items) (ends_of c.loop-senders.columns.items) c.loop-senders.jobs.items c.reverse-2.new.self.items c.reverse-2.ensures.items
    (omega (arith, length-map c.loop-senders.columns.items (λ v. v.items), c.loop-senders.columns.ok.0, c.in_default-pop.ensures.cases.0)) c.loop-senders.invariant.5

pub returns-clause-numbers : goal.returns-clause-numbers
returns-clause-numbers g c = subst (λ n. NumberedFrom n (map (λ job. job.number) c.reverse-2.new.self.items)) (none_left (vec_len c.loop-senders.columns) (vec_len c.loop-senders.acceptors) c.loop-senders.invariant.1 c.in_default-pop.ensures.cases.0)
    (subst (λ z. NumberedFrom (vec_len c.loop-senders.acceptors) (map (λ job. job.number) z)) (sym c.reverse-2.ensures.items) c.loop-senders.invariant.6)

pub returns-clause-new : goal.returns-clause-new
returns-clause-new g c = subst (All (λ job. (job.lane.connected ≡ 0) × (job.lane.keeps_doubles ≡ c.args.keeps_doubles))) (sym c.reverse-2.ensures.items) (all_reverse (λ job. (job.lane.connected ≡ 0) × (job.lane.keeps_doubles ≡ c.args.keeps_doubles)) c.loop-senders.jobs.items c.loop-senders.invariant.7)
