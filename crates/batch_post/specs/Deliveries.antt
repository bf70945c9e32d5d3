-- What a delivery did: each batch is tried until the backend takes it or it is to be given up by the rule, and has one
-- end.
use Rattle.std.specs.Prelude.{◌≡◌, ⊤, ℕ, suc, ◌-◌, Bool, true, false, List, [], ◌∷◌, ◌++◌, length, Option, Some, None}
use Rattle.std.specs.List.{AllByRecursion, list_all, flat_map}
use Rattle.batch_post.specs.declared.outcome.AttemptOutcome.{AttemptOutcome}
use Rattle.batch_post.specs.declared.outcome.BatchFate.{BatchFate}
use Rattle.batch_post.specs.declared.outcome.BatchFate.TheVariants.{Delivered, GivenUp}
use Rattle.batch_post.specs.declared.rule.Retry.{Retry}
use Rattle.batch_post.specs.declared.rule.RetryVerdict.{RetryVerdict}
use Rattle.batch_post.specs.declared.rule.RetryVerdict.TheVariants.{Taken, Waits, Ends}
use Rattle.batch_post.specs.Rules.{is_taken, may_try_again, wait_behind, verdict_of}
use Rattle.batch_post.specs.Logs.{LogEntry, tried, told, drawn, remained, waited, settled, Grows}

-- a batch was delivered
abbrev pub is_delivered : BatchFate → Bool
is_delivered Delivered = true
is_delivered GivenUp = false

-- An attempt, and what was read behind it: a random number, the clock, and what is left, once the collector closes.
pub record Attempt : Type 0 where
  pub outcome : AttemptOutcome
  pub random : ℕ
  pub moment : ℕ
  pub left : Option ℕ

-- what the rule says of an attempt, where so many were made before it and the first one began at this moment: the time
-- that has passed is read behind the attempt
abbrev pub verdict_on : Retry → (began tries : ℕ) → Attempt → RetryVerdict
verdict_on rule began tries a = verdict_of rule a.outcome (wait_behind rule tries) a.random (a.moment - began) a.left

-- an attempt behind which the batch is tried again, after this wait
pub record Retried : Type 0 where
  pub attempt : Attempt
  pub wait : ℕ

-- the rule says to wait just so long behind each of these attempts, before which so many were made
abbrev pub AreRetried : Retry → (began tries : ℕ) → List Retried → Type 0
AreRetried rule began tries [] = ⊤
AreRetried rule began tries (r ∷ rest) = (verdict_on rule began tries r.attempt ≡ Waits r.wait) × AreRetried rule began (suc tries) rest

-- what the rule says where a batch ends so
abbrev pub verdict_at_end : BatchFate → RetryVerdict
verdict_at_end Delivered = Taken
verdict_at_end GivenUp = Ends

-- How one batch was tried: from this moment on, again behind each attempt but the last.
pub record Course : Type 0 where
  pub began : ℕ
  pub before : List Retried
  pub last : Attempt

-- this is how it may have gone, by the rule, where the batch ends so
pub record IsCourse (rule : Retry) (fate : BatchFate) (c : Course) : Type 0 where
  -- behind each attempt but the last it says to wait as long as was waited, and behind the last one how the batch ends
  pub waits : AreRetried rule c.began 0 c.before
  pub ends : verdict_on rule c.began (length c.before) c.last ≡ verdict_at_end fate
  -- so each but the last may be tried again, and the last one says whether the backend took the batch
  pub again : list_all (λ r. may_try_again r.attempt.outcome) c.before ≡ true
  pub taken : is_taken c.last.outcome ≡ is_delivered fate

-- what an attempt leaves in the log
abbrev pub attempt_entries : (batch : List ℕ) → Attempt → List LogEntry
attempt_entries batch a = tried batch a.outcome ∷ drawn a.random ∷ told a.moment ∷ remained a.left ∷ []

-- with the wait behind it
abbrev pub retried_entries : (batch : List ℕ) → Retried → List LogEntry
retried_entries batch r = attempt_entries batch r.attempt ++ waited r.wait ∷ []

-- what all of them leave
abbrev pub course_entries : (batch : List ℕ) → Course → List LogEntry
course_entries batch c = told c.began ∷ flat_map (retried_entries batch) c.before ++ attempt_entries batch c.last

-- A delivery of one batch.
pub record Delivery : Type 0 where
  pub batch : List ℕ
  pub course : Course
  pub fate : BatchFate

-- this is how it may have gone
abbrev pub IsDelivery : Retry → Delivery → Type 0
IsDelivery rule d = IsCourse rule d.fate d.course

-- what it leaves in the log
abbrev pub entries : Delivery → List LogEntry
entries d = course_entries d.batch d.course ++ settled d.batch d.fate ∷ []

-- a log is that of deliveries by the rule, one after the other
abbrev pub IsLog : Retry → List LogEntry → Type 0
IsLog rule log = (ds : List Delivery) × AllByRecursion (IsDelivery rule) ds × (log ≡ flat_map entries ds)

-- where it is known
abbrev pub IsKnownLog : Retry → Option (List LogEntry) → Type 0
IsKnownLog rule None = ⊤
IsKnownLog rule (Some log) = IsLog rule log

-- a batch was tried so, by the rule
abbrev pub Delivers : Retry → (old new : Option (List LogEntry)) → (batch : List ℕ) → BatchFate → Type 0
Delivers rule old new batch fate = (c : Course) × IsCourse rule fate c × Grows old new (course_entries batch c)

-- a batch was tried so, and settled
abbrev pub Posts : Retry → (old new : Option (List LogEntry)) → (batch : List ℕ) → BatchFate → Type 0
Posts rule old new batch fate = (mid : Option (List LogEntry)) × Delivers rule old mid batch fate × Grows mid new (settled batch fate ∷ [])

-- the bytes of the batches that were delivered, in order
abbrev pub delivered_bytes : List LogEntry → List ℕ
delivered_bytes [] = []
delivered_bytes (tried batch outcome ∷ rest) = delivered_bytes rest
delivered_bytes (told moment ∷ rest) = delivered_bytes rest
delivered_bytes (drawn random ∷ rest) = delivered_bytes rest
delivered_bytes (remained left ∷ rest) = delivered_bytes rest
delivered_bytes (waited wait ∷ rest) = delivered_bytes rest
delivered_bytes (settled batch Delivered ∷ rest) = batch ++ delivered_bytes rest
delivered_bytes (settled batch GivenUp ∷ rest) = delivered_bytes rest

-- where the log is known
abbrev pub known_bytes : Option (List LogEntry) → Option (List ℕ)
known_bytes None = None
known_bytes (Some log) = Some (delivered_bytes log)
