-- A request whose spans were received was kept, or none was received.
-- For the contract of serving::submit.
use Rattle.std.proofs.Common.{◌≡◌, ◌⊎◌, true, refl, inl, inr}
use Rattle.lane_seq.specs.declared.reply.Reply.{Reply}
use Rattle.lane_seq.specs.declared.reply.Reply.TheVariants.{Done, Partial, BadData, Busy}
use Rattle.lane_seq.specs.Replies.{is_received, IsRefusal}

pub unkept_or_kept : {A B : Type 0} (reply : Reply) → (IsRefusal reply → A) → (is_received reply ≡ true → B) → A ⊎ B
unkept_or_kept (Done spans) unkept kept = inr (kept refl)
unkept_or_kept (Partial spans invalid full) unkept kept = inr (kept refl)
unkept_or_kept (BadData cause) unkept kept = inl (unkept tt)
unkept_or_kept Busy unkept kept = inl (unkept tt)
