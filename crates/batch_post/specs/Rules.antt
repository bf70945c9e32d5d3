-- What each answer means, and how long the waits are (OTLP 1.x, OTLP/HTTP: "Failures", "Retryable Response Codes",
-- "OTLP/HTTP Throttling").
use Rattle.std.specs.Prelude.{ℕ, zero, suc, ◌+◌, ◌-◌, ◌*◌, ◌/◌, ◌%◌, ◌^◌, ◌==◌, min, nat_lt, Bool, true, false, not, ◌&&◌, ◌||◌, Option, Some, None, if◌then◌else◌}
use Rattle.batch_post.specs.declared.outcome.AttemptOutcome.{AttemptOutcome}
use Rattle.batch_post.specs.declared.outcome.AttemptOutcome.TheVariants.{Answered, NoAnswer}
use Rattle.batch_post.specs.declared.rule.Retry.{Retry}
use Rattle.batch_post.specs.declared.rule.RetryVerdict.{RetryVerdict}
use Rattle.batch_post.specs.declared.rule.RetryVerdict.TheVariants.{Taken, Waits, Ends}

-- the backend took the batch
abbrev pub is_taken : AttemptOutcome → Bool
is_taken (Answered status asked) = status == 200
is_taken NoAnswer = false

-- the batch may be tried again: the backend says so, or nothing is known
abbrev pub may_try_again : AttemptOutcome → Bool
may_try_again (Answered status asked) = status == 429 || status == 502 || status == 503 || status == 504
may_try_again NoAnswer = true

-- the greatest number of 64 bits
abbrev pub most : ℕ
most = 2 ^ 64 - 1

-- the wait after this one: twice as long, and at most the longest
abbrev pub next_wait : Retry → (wait : ℕ) → ℕ
next_wait rule wait = min (min (wait * 2) most) rule.longest

-- the wait behind an attempt that no answer asks for, where so many were made before: the first one, and then each after
-- the one before it
abbrev pub wait_behind : Retry → (tries : ℕ) → ℕ
wait_behind rule zero = rule.initial
wait_behind rule (suc tries) = next_wait rule (wait_behind rule tries)

-- between the half and the whole of a wait
abbrev pub with_jitter : (wait random : ℕ) → ℕ
with_jitter wait random = wait - random % (wait / 2 + 1)

-- the wait: that which the answer asks for, where it asks for some time, else this one with jitter
abbrev pub wait_after : AttemptOutcome → (wait random : ℕ) → ℕ
wait_after (Answered status (Some asked)) wait random = if asked == 0 then with_jitter wait random else asked
wait_after (Answered status None) wait random = with_jitter wait random
wait_after NoAnswer wait random = with_jitter wait random

-- the attempt would begin too late after the first one
abbrev pub is_over : Retry → (elapsed wait : ℕ) → Bool
is_over rule elapsed wait = nat_lt 0 rule.patience && nat_lt rule.patience (min (elapsed + wait) most)

-- it would, or after a collector that closes has ended
abbrev pub is_too_late : Retry → (elapsed wait : ℕ) → (left : Option ℕ) → Bool
is_too_late rule elapsed wait None = is_over rule elapsed wait
is_too_late rule elapsed wait (Some left) = is_over rule elapsed wait || nat_lt left wait

-- what is done after an attempt
abbrev pub verdict_of : Retry → AttemptOutcome → (wait random elapsed : ℕ) → (left : Option ℕ) → RetryVerdict
verdict_of rule outcome wait random elapsed left =
    if is_taken outcome then Taken
    else (if may_try_again outcome && not (is_too_late rule elapsed (wait_after outcome wait random) left) then Waits (wait_after outcome wait random) else Ends)
