-- What a reply tells of its request.
-- For the contract of `submit`.
use Rattle.std.proofs.Common.{◌≡◌, ℕ, ◌+◌, Bool, true, false, List, length, refl, sym, ap, subst, ◌∙◌, inl, inr}
use Rattle.std.specs.Prelude.{nat_eq}
use Rattle.indexmap.specs.IndexMap.{insert_entry}
use Rattle.lane_queue.specs.Queues.{QueueState, TakesLast, IsFull}
use Rattle.lane_seq.specs.Pushes.{Receives as IsPushed}
use Rattle.lane_seq.specs.Numbers.{arrivals_from}
use Rattle.lane_seq.specs.declared.preparing.Conn.{Conn}
use Rattle.otlp_flatten.specs.Flat.{records_of}
use Rattle.otlp_types.specs.declared.request.Request.{Request}
use Rattle.otlp_types.specs.declared.arrival.Item.{Item}
use Rattle.script_run.specs.Connections.{Contacts, connection_of, with_connection, with_spans}
use Rattle.otlp_encoding.specs.declared.encoding.Encoding.TheVariants.{Json}
use Rattle.otlp_request.specs.declared.bad_data.BadData.{BadData}
use Rattle.otlp_request.specs.Reads.{Reads, IsRefusedFor}
use Rattle.lane_seq.specs.declared.reply.Reply.{Reply}
use Rattle.lane_seq.specs.declared.reply.Reply.TheVariants.{Done, Partial, BadData as BadRequest, Busy}
use Rattle.lane_seq.specs.Replies.{IsRefusal, OnReceived}
use Rattle.script_run.specs.Requests.{IsTakenFor, refuses, arrivals_of}
use Rattle.lane_seq.specs.Replies.{is_received}
use Rattle.script_session.specs.Submitting.{Submits}

-- what holds where the spans were received
pub received : (reply : Reply) (F : Type 0) → is_received reply ≡ true → OnReceived reply F → F
received (Done spans) F e f = f
received (Partial spans invalid full) F e f = f
received (BadRequest cause) F e f = absurd (cc e)
received Busy F e f = absurd (cc e)

pub refusal : (reply : Reply) → is_received reply ≡ false → IsRefusal reply
refusal (Done spans) e = absurd (cc e)
refusal (Partial spans invalid full) e = absurd (cc e)
refusal (BadRequest cause) e = tt
refusal Busy e = tt

-- the cause of a refusal
pub refused : (keeps : Bool) (reply : Reply) (body : List ℕ) → is_received reply ≡ false → ((cause : BadData) → reply ≡ BadRequest cause → IsRefusedFor Json keeps body cause)
    → IsTakenFor keeps body (refuses reply)
refused keeps (Done spans) body e bad = absurd (cc e)
refused keeps (Partial spans invalid full) body e bad = absurd (cc e)
refused keeps (BadRequest cause) body e bad = bad cause refl
refused keeps Busy body e bad = tt

-- a request that was read
pub submits-read : (keeps : Bool) (old mid new : Contacts) (number moment : ℕ) (body : List ℕ) (before after lane_before lane_after : List (QueueState Item)) (reply : Reply) (conn conn_after : Conn)
    → conn ≡ connection_of number old → mid ≡ with_connection number old → new ≡ record mid { connections = insert_entry nat_eq mid.connections number conn_after } → lane_before ≡ before → after ≡ lane_after
    → ((request : Request) × Reads Json keeps body request × IsPushed TakesLast IsFull (arrivals_from conn.key conn.next moment (records_of request)) lane_before reply lane_after
    × (conn_after ≡ record conn { next = conn.next + length (arrivals_from conn.key conn.next moment (records_of request)) }))
    → Submits keeps old number moment body before reply after new
submits-read keeps old mid new number moment body before after lane_before lane_after reply conn conn_after is_conn is_mid is_new is_before is_after r =
    let request = r.0 in
    let B = λ (q : List (QueueState Item)). IsPushed TakesLast IsFull (arrivals_of conn moment request) q reply lane_after in
    let A = λ (q : List (QueueState Item)). IsPushed TakesLast IsFull (arrivals_of conn moment request) before reply q in
    let C = λ (k : Conn). IsPushed TakesLast IsFull (arrivals_of k moment request) before reply after in
    let N = λ (m : Contacts) (k : Conn). (let c : Contacts = record m { connections = with_spans number k (length (arrivals_of k moment request)) m.connections } in c) in
    let grown : new ≡ N mid conn = is_new ∙ ap (λ (k : Conn). let c : Contacts = record mid { connections = insert_entry nat_eq mid.connections number k } in c) r.3 in
    inr (inr (request, r.1, subst C is_conn (subst A (sym is_after) (subst B is_before r.2)), grown ∙ ap (λ (m : Contacts). N m conn) is_mid ∙ ap (N (with_connection number old)) is_conn))

-- a request that was refused
pub submits-refused : (keeps : Bool) (old mid : Contacts) (number moment : ℕ) (body : List ℕ) (before after lane_before lane_after : List (QueueState Item)) (reply : Reply)
    → mid ≡ with_connection number old → lane_before ≡ before → after ≡ lane_after → lane_after ≡ lane_before → IsTakenFor keeps body (refuses reply) → Submits keeps old number moment body before reply after mid
submits-refused keeps old mid number moment body before after lane_before lane_after reply is_mid is_before is_after same taken = inr (inl (taken, is_after ∙ same ∙ is_before, is_mid))
