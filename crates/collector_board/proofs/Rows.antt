-- Worked rows, computed: how long a write stalls, for how long decisions are told and questions stand, and what the
-- answers of several shards make, how often a batch failed and what waits for the backend. They serve the definitions that
-- `OutputStall`, `is_looked_at`, `stands`, `held_by_all`, `tries_after` and `left_by` promise.
use Rattle.std.specs.Prelude.{◌≡◌, [], ◌∷◌, codes, Some, None, true, false, refl}
use Rattle.batch_post.specs.declared.outcome.AttemptOutcome.TheVariants.{Answered, NoAnswer}
use Rattle.collector_board.specs.Backlog.{left_by, tries_after}
use Rattle.collector_board.specs.Looks.{is_looked_at}
use Rattle.batch_post.specs.declared.outcome.BatchFate.TheVariants.{Delivered, GivenUp}
use Rattle.collector_board.specs.declared.write_news.WriteNews.TheVariants.{Nothing, Took, Fails}
use Rattle.collector_board.specs.News.{delivered_of, news_of}
use Rattle.collector_board.specs.Questions.{held_by_all, stands}
use Rattle.collector_board.specs.Stalls.{stalled_seconds}
use Rattle.decision_line.specs.declared.held.TraceHeld.TheVariants.{Waiting, Decided, Remembered, Unknown}
use Rattle.span_ids.specs.declared.outcome.Verdict.TheVariants.{Sampled, NotSampled}

-- no write; one that began in the first millisecond; one of 1,999 and one of 2,000 milliseconds; one that began later
stalls : stalled_seconds 0 5000 ∷ stalled_seconds 1 3000 ∷ stalled_seconds 501 2499 ∷ stalled_seconds 501 2500 ∷ stalled_seconds 502 500 ∷ []
    ≡ 0 ∷ 3 ∷ 1 ∷ 2 ∷ 0 ∷ []
stalls = refl

-- no look; one at this moment, and in the last millisecond of the minute; one a minute ago; one that lies ahead
looks : is_looked_at None 70000 ∷ is_looked_at (Some 70000) 70000 ∷ is_looked_at (Some 10001) 70000 ∷ is_looked_at (Some 10000) 70000 ∷ is_looked_at (Some 70001) 70000 ∷ []
    ≡ false ∷ true ∷ true ∷ false ∷ false ∷ []
looks = refl

-- asked at this moment, and in the last millisecond of ten seconds; ten seconds ago; ahead
questions : stands 20000 20000 ∷ stands 10001 20000 ∷ stands 10000 20000 ∷ stands 20001 20000 ∷ [] ≡ true ∷ true ∷ false ∷ false ∷ []
questions = refl

-- the second of three knows it, and the third hasn't answered; it is remembered by the last; none knows it; the first
-- hasn't answered; none has; two know it
answers : held_by_all (Some Unknown ∷ Some (Waiting 71 4) ∷ None ∷ [])
    ∷ held_by_all (None ∷ Some Unknown ∷ Some (Remembered NotSampled) ∷ [])
    ∷ held_by_all (Some Unknown ∷ Some Unknown ∷ [])
    ∷ held_by_all (None ∷ Some Unknown ∷ [])
    ∷ held_by_all (None ∷ None ∷ [])
    ∷ held_by_all (Some (Decided Sampled) ∷ Some (Remembered NotSampled) ∷ []) ∷ []
    ≡ Some (Waiting 71 4) ∷ Some (Remembered NotSampled) ∷ Some Unknown ∷ None ∷ None ∷ Some (Decided Sampled) ∷ []
answers = refl

-- refused, taken, not answered, and once more after the most there are
tries : tries_after 3 (Answered 503 None) ∷ tries_after 4 (Answered 200 None) ∷ tries_after 5 NoAnswer ∷ tries_after 18446744073709551615 NoAnswer ∷ [] ≡ 4 ∷ 0 ∷ 6 ∷ 18446744073709551615 ∷ []
tries = refl

-- of 1,000 that wait, 20 and 3 in queues and 400 and 50 in traces; of 30; and with no shard
left : left_by 1000 (record { queued = 20; traces = 7; spans = 400 } ∷ record { queued = 3; traces = 8; spans = 50 } ∷ [])
    ∷ left_by 30 (record { queued = 20; traces = 7; spans = 400 } ∷ record { queued = 3; traces = 8; spans = 50 } ∷ []) ∷ left_by 9 [] ∷ []
    ≡ 527 ∷ 0 ∷ 9 ∷ []
left = refl

-- of `ab` and a line feed all, two bytes and none were taken; the same where lines are sent, too; failures
writes : news_of (Some 3) (codes "ab\n") false true ∷ news_of (Some 2) (codes "ab\n") false true ∷ news_of (Some 0) (codes "ab\n") false false
    ∷ news_of (Some 3) (codes "ab\n") true true ∷ news_of None (codes "ab\n") true false ∷ news_of None (codes "ab\n") false true ∷ []
    ≡ Took 3 1 ∷ Took 2 0 ∷ Took 0 0 ∷ Nothing ∷ Fails false ∷ Fails true ∷ []
writes = refl

batches : delivered_of 70 Delivered ∷ delivered_of 71 GivenUp ∷ [] ≡ Some 70 ∷ None ∷ []
batches = refl
