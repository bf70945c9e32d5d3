-- One delivery more.
-- For what `Posts` keeps, and for the contract of its `hand`.
use Rattle.std.proofs.Common.{◌≡◌, ◌∙◌, ℕ, List, [], ◌∷◌, ◌++◌, Option, Some, None, Ok, Err, refl, sym, ap, subst, append_assoc, append-nil}
use Rattle.std.specs.Io.KnownBytes.{Appends}
use Rattle.std.specs.List.{AllByRecursion, flat_map}
use Rattle.batch_post.specs.declared.outcome.BatchFate.{BatchFate}
use Rattle.batch_post.specs.declared.outcome.BatchFate.TheVariants.{Delivered, GivenUp}
use Rattle.batch_post.specs.declared.rule.Retry.{Retry}
use Rattle.span_sink.specs.Manners.{may_refuse}
use Rattle.span_sink.specs.LineSinks.{up_state}
use Rattle.span_sink.specs.Hands.{HandsTo}
use Rattle.span_sink.specs.declared.sink.SinkFault.TheVariants.{Refused}
use Rattle.batch_post.specs.Logs.{LogEntry, tried, told, drawn, remained, waited, settled, Grows, IsNewLog}
use Rattle.batch_post.specs.Deliveries.{Attempt, Retried, Course, IsCourse, Delivery, IsDelivery, IsLog, IsKnownLog, Delivers, known_bytes, entries, course_entries, retried_entries, attempt_entries, delivered_bytes}

entries_append : (ds : List Delivery) (d : Delivery) → flat_map entries ds ++ entries d ≡ flat_map entries (ds ++ d ∷ [])
entries_append [] d = sym (append-nil (entries d))
entries_append (first ∷ ds) d = append_assoc (entries first) (flat_map entries ds) (entries d) ∙ ap (λ es. entries first ++ es) (entries_append ds d)

all_more : (rule : Retry) (ds : List Delivery) (d : Delivery) → AllByRecursion (IsDelivery rule) ds → IsDelivery rule d → AllByRecursion (IsDelivery rule) (ds ++ d ∷ [])
all_more rule [] d all one = (one, tt)
all_more rule (first ∷ ds) d all one = (all.0, all_more rule ds d all.1 one)

-- the log of one more delivery
pub log_more : (rule : Retry) (log : List LogEntry) (d : Delivery) → IsLog rule log → IsDelivery rule d → IsLog rule (log ++ entries d)
log_more rule log d is one = (is.0 ++ d ∷ [], all_more rule is.0 d is.1 one, ap (λ es. es ++ entries d) is.2 ∙ entries_append is.0 d)

-- what was delivered
pub delivered_append : (log more : List LogEntry) → delivered_bytes (log ++ more) ≡ delivered_bytes log ++ delivered_bytes more
delivered_append [] more = refl
delivered_append (tried batch outcome ∷ log) more = delivered_append log more
delivered_append (told moment ∷ log) more = delivered_append log more
delivered_append (drawn random ∷ log) more = delivered_append log more
delivered_append (remained left ∷ log) more = delivered_append log more
delivered_append (waited wait ∷ log) more = delivered_append log more
delivered_append (settled batch Delivered ∷ log) more = ap (λ bytes. batch ++ bytes) (delivered_append log more) ∙ sym (append_assoc batch (delivered_bytes log) (delivered_bytes more))
delivered_append (settled batch GivenUp ∷ log) more = delivered_append log more

none_retried : (batch : List ℕ) (before : List Retried) (last : Attempt) → delivered_bytes (flat_map (retried_entries batch) before ++ attempt_entries batch last) ≡ []
none_retried batch [] last = refl
none_retried batch (r ∷ before) last = none_retried batch before last

none_delivered : (batch : List ℕ) (c : Course) → delivered_bytes (course_entries batch c) ≡ []
none_delivered batch c = none_retried batch c.before c.last

-- the bytes of a batch, where it was delivered
abbrev pub taken_of : (batch : List ℕ) → BatchFate → List ℕ
taken_of batch Delivered = batch
taken_of batch GivenUp = []

delivered_one : (batch : List ℕ) (fate : BatchFate) → delivered_bytes (settled batch fate ∷ []) ≡ taken_of batch fate
delivered_one batch Delivered = append-nil batch
delivered_one batch GivenUp = refl

-- ---- where the log is known

-- the log after a batch was settled
ended_log : (rule : Retry) (old mid new : List LogEntry) (batch : List ℕ) (fate : BatchFate) (c : Course) → IsCourse rule fate c → mid ≡ old ++ course_entries batch c → new ≡ mid ++ settled batch fate ∷ []
    → IsLog rule old → IsLog rule new
ended_log rule old mid new batch fate c one e f is =
    let d : Delivery = record { batch = batch; course = c; fate = fate } in
    subst (IsLog rule) (sym (f ∙ (ap (λ es. es ++ settled batch fate ∷ []) e ∙ append_assoc old (course_entries batch c) (settled batch fate ∷ []))))
    (log_more rule old d is one)

-- the bytes after that
ended_bytes : (old mid new : List LogEntry) (batch : List ℕ) (c : Course) (fate : BatchFate) → mid ≡ old ++ course_entries batch c → new ≡ mid ++ settled batch fate ∷ [] → delivered_bytes new ≡ delivered_bytes old ++ taken_of batch fate
ended_bytes old mid new batch c fate e f =
    ap delivered_bytes f ∙ delivered_append mid (settled batch fate ∷ [])
    ∙ ap (λ bytes. bytes ++ delivered_bytes (settled batch fate ∷ [])) (ap delivered_bytes e ∙ delivered_append old (course_entries batch c) ∙ ap (λ bytes. delivered_bytes old ++ bytes) (none_delivered batch c) ∙ append-nil (delivered_bytes old))
    ∙ ap (λ bytes. delivered_bytes old ++ bytes) (delivered_one batch fate)

-- a batch was posted
pub known_posted : (rule : Retry) (old mid new : Option (List LogEntry)) (batch : List ℕ) (fate : BatchFate) → Delivers rule old mid batch fate → Grows mid new (settled batch fate ∷ []) → IsKnownLog rule old
    → IsKnownLog rule new × Appends (known_bytes old) (known_bytes new) (taken_of batch fate)
known_posted rule None None None batch fate d g is = (tt, tt)
known_posted rule None None (Some new) batch fate d g is = absurd g
known_posted rule None (Some mid) new batch fate d g is = absurd d.2
known_posted rule (Some old) None new batch fate d g is = absurd d.2
known_posted rule (Some old) (Some mid) None batch fate d g is = absurd g
known_posted rule (Some old) (Some mid) (Some new) batch fate d g is = (ended_log rule old mid new batch fate d.0 d.1 d.2 g is, ended_bytes old mid new batch d.0 fate d.2 g)

-- a batch that was delivered was taken, and one that was given up was refused
pub hands_delivered : (rule : Retry) (old mid new : Option (List LogEntry)) (line : List ℕ) → Delivers rule old mid line Delivered → Grows mid new (settled line Delivered ∷ []) → IsKnownLog rule old
    → HandsTo may_refuse (up_state (known_bytes old) 0) line (Ok tt) (up_state (known_bytes new) 0)
hands_delivered rule old mid new line d g is = record { was_up = refl; stays_up = refl; no_failure = refl; bytes = (known_posted rule old mid new line Delivered d g is).1 }

pub hands_given_up : (rule : Retry) (old mid new : Option (List LogEntry)) (line : List ℕ) → Delivers rule old mid line GivenUp → Grows mid new (settled line GivenUp ∷ []) → IsKnownLog rule old
    → HandsTo may_refuse (up_state (known_bytes old) 0) line (Err Refused) (up_state (known_bytes new) 0)
hands_given_up rule old mid new line d g is = record { was_up = refl; stays_up = refl; no_failure = refl; bytes = (known_posted rule old mid new line GivenUp d g is).1 }

-- nothing was tried yet
pub new_log : (rule : Retry) (log : Option (List LogEntry)) → IsNewLog log → IsKnownLog rule log
new_log rule None is = tt
new_log rule (Some []) is = ([], tt, refl)
new_log rule (Some (e ∷ log)) is = absurd (none is)
  where
    none : e ∷ log ≡ [] → ⊥
    none h = cc h
