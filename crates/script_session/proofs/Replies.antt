-- A reply line fits its room.
-- For the contract of `write_reply_line`.
use Rattle.std.proofs.Common.{◌≡◌, ◌≤◌, true, false, Result, Ok, Err, length, lit<}
use Rattle.std.specs.Result.{OnOk, OnErr, is_err}
use Rattle.std.specs.Prelude.{decimal}
use Rattle.std.proofs.lemmas.Fmt.{length-decimal-le}
use Rattle.lane_seq.specs.declared.reply.Reply.{Reply}
use Rattle.lane_seq.specs.declared.reply.Reply.TheVariants.{Done, Partial, BadData, Busy}
use Rattle.otlp_reply.specs.Bodies.{status_of}

pub status-short : (reply : Reply) → length (decimal (status_of reply)) ≤ 3
status-short (Done spans) = length-decimal-le 3 200 (lit< tt) (lit< tt) (lit< tt)
status-short (Partial spans invalid full) = length-decimal-le 3 200 (lit< tt) (lit< tt) (lit< tt)
status-short (BadData cause) = length-decimal-le 3 400 (lit< tt) (lit< tt) (lit< tt)
status-short Busy = length-decimal-le 3 503 (lit< tt) (lit< tt) (lit< tt)

pub when_err : {X E : Type 0} (r : Result X E) (P : Type 0) → true ≡ is_err r → OnErr r P → P
when_err (Ok x) P e p = cc
when_err (Err x) P e p = p

pub when_ok : {X E : Type 0} (r : Result X E) (P : Type 0) → false ≡ is_err r → OnOk r P → P
when_ok (Ok x) P e p = p
when_ok (Err x) P e p = cc
