-- A trace that is too big is decided by no policy, and without a maximum none is.
-- For the contracts of `too_big_is_not_sampled` and `none_too_big_without_maximum`.
use Rattle.std.proofs.Common.{◌≡◌, false, cond, [], ◌∷◌, ap, ◌∙◌}
use Rattle.policy_tree.specs.Tree.{no_more}
use Rattle.policy_eval.specs.Given.{verdict_given, asked_given}
use Rattle.otlp_types.specs.declared.arrival.Item.{Item}
use Rattle.otlp_types.specs.declared.arrival.Item.TheVariants.{Span}
use Rattle.trace_buffer.specs.Buffer.{is_too_big}
use Rattle.journal_theory.specs.Journal.{Settings, Journal, Opening, Notes, spans_since, is_oversized, oversized, undecided, due_at, after_item, notes}
use Rattle.journal_theory.specs.TooBig.{TooBigIsNotSampled, NoneTooBigWithoutMaximum}
use Rattle.journal_theory.proofs.Lists.{Each-all, filter-none}

pub too_big_is_not_sampled : TooBigIsNotSampled
too_big_is_not_sampled s past o answers h =
    let spans = spans_since past o in
    (ap (λ b. verdict_given (cond b no_more s.policies) answers spans) h, ap (λ b. asked_given (cond b no_more s.policies) answers spans) h)

none_oversized : (s : Settings) (past : Journal) (noted : Notes) → s.maximum_trace_size ≡ 0 → oversized s past noted ≡ []
none_oversized s past noted h = filter-none (is_oversized s past) (undecided s noted)
    (Each-all (λ (o : Opening). is_oversized s past o ≡ false) (λ o. ap (λ maximum. is_too_big maximum (spans_since past o)) h) (undecided s noted))

pub none_too_big_without_maximum : NoneTooBigWithoutMaximum
none_too_big_without_maximum s e before a h is =
    ap (λ (item : Item). due_at s e before item (after_item s e before item (notes s before))) is
    ∙ none_oversized s (e ∷ before) (after_item s e before (Span a) (notes s before)) h
