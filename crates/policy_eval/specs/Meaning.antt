-- The program's answers, and the nodes that a limiter knows.
use Rattle.std.specs.Prelude.{ℕ, Bool, true, false, not, ◌&&◌, ◌||◌, if◌then◌else◌, List, Option, Some, None}
use Rattle.std.specs.List.{list_all}
use Rattle.std.specs.Option.{option_or}
use Rattle.policy_eval.specs.Policies as spec
use Rattle.policy_tree.specs.declared.policy.Join.{Join}
use Rattle.policy_tree.specs.declared.policy.Join.TheVariants.{And, Not, Drop, FirstMatch, Share}
use Rattle.policy_tree.specs.declared.limiter_node.LimiterNode.{LimiterNode}
use Rattle.policy_eval.specs.declared.answer.Answer.{Answer}
use Rattle.policy_eval.specs.declared.answer.Answer.TheVariants.{Sample, NotSample, InvertedSample, InvertedNotSample, Dropped}
use Rattle.policy_eval.specs.declared.answer.AnswersSeen.{AnswersSeen}
use Rattle.policy_eval.specs.declared.decider.Firsts.{Firsts}
use Rattle.span_ids.specs.declared.outcome.Verdict.{Verdict}
use Rattle.span_ids.specs.declared.outcome.Verdict.TheVariants.{Sampled, NotSampled}

-- the program's answer
abbrev pub answer_of : spec.Answer → Answer
answer_of spec.sample = Sample
answer_of spec.not_sample = NotSample
answer_of spec.inverted_sample = InvertedSample
answer_of spec.inverted_not_sample = InvertedNotSample
answer_of spec.dropped = Dropped

-- an answer for the trace
abbrev pub is_for : Answer → Bool
is_for Sample = true
is_for InvertedSample = true
is_for NotSample = false
is_for InvertedNotSample = false
is_for Dropped = false

-- no answer was given
abbrev pub none_seen : AnswersSeen
none_seen = record { sample = false; not_sample = false; inverted_sample = false; inverted_not_sample = false; dropped = false }

-- which answers were given, with one more
abbrev pub seen_with : Answer → AnswersSeen → AnswersSeen
seen_with Sample s = record s { sample = true }
seen_with NotSample s = record s { not_sample = true }
seen_with InvertedSample s = record s { inverted_sample = true }
seen_with InvertedNotSample s = record s { inverted_not_sample = true }
seen_with Dropped s = record s { dropped = true }

-- the verdict by which answers were given
abbrev pub verdict_of_seen : AnswersSeen → Verdict
verdict_of_seen s =
    if s.dropped then NotSampled
    else if s.inverted_not_sample then NotSampled
    else if s.sample then Sampled
    else if s.inverted_sample && not s.not_sample then Sampled
    else NotSampled

-- nothing was given first
abbrev pub none_first : Firsts
none_first = record { sample = None; inverted_sample = None; inverted_not_sample = None; dropped = None }

-- where answers were given first, with one more at this place, behind all others
abbrev pub first_with : Answer → (place : ℕ) → Firsts → Firsts
first_with Sample place f = record f { sample = option_or f.sample (Some place) }
first_with NotSample place f = f
first_with InvertedSample place f = record f { inverted_sample = option_or f.inverted_sample (Some place) }
first_with InvertedNotSample place f = record f { inverted_not_sample = option_or f.inverted_not_sample (Some place) }
first_with Dropped place f = record f { dropped = option_or f.dropped (Some place) }

-- the place of the policy that decides, by which answers were given, and where first
abbrev pub decider_of_seen : AnswersSeen → Firsts → Option ℕ
decider_of_seen s f =
    if s.dropped then f.dropped
    else if s.inverted_not_sample then f.inverted_not_sample
    else if s.sample then f.sample
    else if s.inverted_sample && not s.not_sample then f.inverted_sample
    else None

-- each of the answers, and some of them, is for the trace
abbrev pub each_is_for : AnswersSeen → Bool
each_is_for s = not (s.not_sample || s.inverted_not_sample || s.dropped)

abbrev pub some_is_for : AnswersSeen → Bool
some_is_for s = s.sample || s.inverted_sample

-- what is made of policies by which answers they gave
abbrev pub joined_seen : Join → AnswersSeen → spec.Answer
joined_seen And s = spec.plain (each_is_for s)
joined_seen Not s = spec.plain (not (each_is_for s))
joined_seen Drop s = if each_is_for s then spec.dropped else spec.not_sample
joined_seen FirstMatch s = spec.verdict_answer (verdict_of_seen s)
joined_seen Share s = if each_is_for s then spec.sample else if some_is_for s then spec.dropped else spec.not_sample

-- behind this answer no further policy is asked
abbrev pub is_end : Join → Answer → Bool
is_end And one = not (is_for one)
is_end Not one = not (is_for one)
is_end Drop one = not (is_for one)
is_end FirstMatch Sample = true
is_end FirstMatch Dropped = true
is_end FirstMatch NotSample = false
is_end FirstMatch InvertedSample = false
is_end FirstMatch InvertedNotSample = false
is_end Share one = not (is_for one)

-- ---- the limiter nodes

-- a limiter of these nodes knows each of these limiter nodes
abbrev pub knows : (has_node : ℕ → Bool) → List LimiterNode → Bool
knows has_node nodes = list_all (λ (l : LimiterNode). has_node l.node) nodes
