-- What is done after an answer, computed, and a log by hand.
use Rattle.std.specs.Prelude.{filter}
use Rattle.std.proofs.Common.{◌≡◌, ℕ, zero, suc, ◌+◌, List, [], ◌∷◌, map, Option, Some, None, refl}
use Rattle.batch_post.specs.declared.outcome.AttemptOutcome.TheVariants.{Answered, NoAnswer}
use Rattle.batch_post.specs.declared.outcome.BatchFate.TheVariants.{Delivered, GivenUp}
use Rattle.batch_post.specs.declared.rule.Retry.{Retry}
use Rattle.batch_post.specs.declared.rule.RetryVerdict.TheVariants.{Taken, Waits, Ends}
use Rattle.batch_post.specs.Rules.{is_taken, may_try_again, next_wait, wait_behind, with_jitter, verdict_of}
use Rattle.batch_post.specs.Logs.{tried, told, drawn, remained, waited, settled}
use Rattle.batch_post.specs.Deliveries.{Attempt, Retried, Course, IsCourse, verdict_on, course_entries, delivered_bytes}

-- half a second at first, at most thirty, and five minutes in all
abbrev usual : Retry
usual = record { initial = 500; longest = 30000; patience = 300000 }

abbrev endless : Retry
endless = record { initial = 500; longest = 30000; patience = 0 }

taken : verdict_of usual (Answered 200 (Some 7000)) 500 3 0 None ≡ Taken
taken = refl

too_many : verdict_of usual (Answered 429 None) 500 0 0 None ≡ Waits 500
too_many = refl

bad_gateway : verdict_of usual (Answered 502 None) 1000 500 0 None ≡ Waits 500
bad_gateway = refl

unavailable_for_a_while : verdict_of usual (Answered 503 (Some 7000)) 500 0 0 None ≡ Waits 7000
unavailable_for_a_while = refl

asks_for_no_time : verdict_of usual (Answered 503 (Some 0)) 500 250 0 None ≡ Waits 250
asks_for_no_time = refl

gateway_is_late : verdict_of usual (Answered 504 None) 2000 1001 0 None ≡ Waits 2000
gateway_is_late = refl

no_answer : verdict_of usual NoAnswer 500 250 0 None ≡ Waits 250
no_answer = refl

bad_request : verdict_of usual (Answered 400 (Some 1000)) 500 0 0 None ≡ Ends
bad_request = refl

server_error : verdict_of usual (Answered 500 None) 500 0 0 None ≡ Ends
server_error = refl

accepted_is_no_200 : verdict_of usual (Answered 202 None) 500 0 0 None ≡ Ends
accepted_is_no_200 = refl

-- of all statuses that an answer may have (RFC 9110, section 15), a batch is tried again after these, and taken by this
abbrev counted_on : (from count : ℕ) → List ℕ
counted_on from zero = []
counted_on from (suc count) = from ∷ counted_on (from + 1) count

tried_again : filter (λ status. may_try_again (Answered status None)) (counted_on 100 500) ≡ 429 ∷ 502 ∷ 503 ∷ 504 ∷ []
tried_again = refl

took_it : filter (λ status. is_taken (Answered status None)) (counted_on 100 500) ≡ 200 ∷ []
took_it = refl

-- at its last moment, and behind it
still_in_time : verdict_of usual NoAnswer 500 0 299500 None ≡ Waits 500
still_in_time = refl

too_late : verdict_of usual NoAnswer 500 0 299501 None ≡ Ends
too_late = refl

never_too_late : verdict_of endless NoAnswer 500 0 900000000 None ≡ Waits 500
never_too_late = refl

-- while the collector closes
before_the_end : verdict_of endless NoAnswer 500 0 0 (Some 500) ≡ Waits 500
before_the_end = refl

behind_the_end : verdict_of endless NoAnswer 500 0 0 (Some 499) ≡ Ends
behind_the_end = refl

-- waits
doubled : next_wait usual 500 ≡ 1000
doubled = refl

at_most : next_wait usual 20000 ≡ 30000
at_most = refl

whole_wait : with_jitter 1000 501 ≡ 1000
whole_wait = refl

half_wait : with_jitter 1000 500 ≡ 500
half_wait = refl

doubled_to_the_longest : map (wait_behind usual) (0 ∷ 1 ∷ 2 ∷ 3 ∷ 4 ∷ 5 ∷ 6 ∷ 7 ∷ []) ≡ 500 ∷ 1000 ∷ 2000 ∷ 4000 ∷ 8000 ∷ 16000 ∷ 30000 ∷ 30000 ∷ []
doubled_to_the_longest = refl

-- Three attempts, from 1000 on: none is answered the first time, then the backend is away for seven seconds, and then it
-- takes the batch.
abbrev first_try : Retried
first_try = record { attempt = record { outcome = NoAnswer; random = 150; moment = 1130; left = None }; wait = 350 }

abbrev second_try : Retried
second_try = record { attempt = record { outcome = Answered 503 (Some 7000); random = 9; moment = 1512; left = None }; wait = 7000 }

abbrev three_tries : Course
three_tries = record { began = 1000; before = first_try ∷ second_try ∷ []; last = record { outcome = Answered 200 None; random = 4; moment = 8777; left = Some 20 } }

is_delivered_at_last : IsCourse usual Delivered three_tries
is_delivered_at_last = record { waits = (refl, (refl, tt)); ends = refl; again = refl; taken = refl }

what_they_leave : course_entries (65 ∷ 66 ∷ []) three_tries
    ≡ told 1000
    ∷ tried (65 ∷ 66 ∷ []) NoAnswer ∷ drawn 150 ∷ told 1130 ∷ remained None ∷ waited 350
    ∷ tried (65 ∷ 66 ∷ []) (Answered 503 (Some 7000)) ∷ drawn 9 ∷ told 1512 ∷ remained None ∷ waited 7000
    ∷ tried (65 ∷ 66 ∷ []) (Answered 200 None) ∷ drawn 4 ∷ told 8777 ∷ remained (Some 20) ∷ []
what_they_leave = refl

-- The third attempt isn't answered either. The wait would be one of two seconds, less 9 milliseconds: where ten seconds
-- are the patience, it is waited while 8009 milliseconds have passed behind that attempt, and not a millisecond later.
abbrev brief : Retry
brief = record { initial = 500; longest = 30000; patience = 10000 }

abbrev third_try : (moment : ℕ) (left : Option ℕ) → Attempt
third_try moment left = record { outcome = NoAnswer; random = 9; moment = moment; left = left }

given_up_late : IsCourse brief GivenUp (record { began = 1000; before = first_try ∷ second_try ∷ []; last = third_try 9010 None })
given_up_late = record { waits = (refl, (refl, tt)); ends = refl; again = refl; taken = refl }

just_in_time : verdict_on brief 1000 2 (third_try 9009 None) ≡ Waits 1991
just_in_time = refl

-- and while the collector closes, as long as that wait is left
given_up_at_the_close : IsCourse brief GivenUp (record { began = 1000; before = first_try ∷ second_try ∷ []; last = third_try 9009 (Some 1990) })
given_up_at_the_close = record { waits = (refl, (refl, tt)); ends = refl; again = refl; taken = refl }

waits_to_the_close : verdict_on brief 1000 2 (third_try 9009 (Some 1991)) ≡ Waits 1991
waits_to_the_close = refl

-- a line that was tried twice and given up, and one that was delivered
two_lines : delivered_bytes
    (told 0 ∷ tried (65 ∷ []) NoAnswer ∷ drawn 1 ∷ told 2 ∷ remained None ∷ waited 3 ∷ tried (65 ∷ []) (Answered 400 None) ∷ settled (65 ∷ []) GivenUp ∷ tried (66 ∷ []) (Answered 200 None) ∷ settled (66 ∷ []) Delivered ∷ [])
    ≡ 66 ∷ []
two_lines = refl
