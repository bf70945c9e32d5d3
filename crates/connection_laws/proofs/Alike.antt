-- Two connections with the same bytes and the same answers of everyone else did alike.
-- For the clause of `bytes_decide`.
use Rattle.std.proofs.Common.{◌≡◌, false, List, [], ◌∷◌, Some, None, refl, ap, sym, ◌∙◌, subst}
use Rattle.std.specs.Prelude.{if◌then◌else◌}
use Rattle.otlp_types.specs.declared.arrival.Item.{Item}
use Rattle.http_text.specs.declared.allowed.Allowed.{Allowed}
use Rattle.http_lane.specs.Connection.{in_head, Settles, submissions, text_of_all}
use Rattle.http_lane.specs.Agreement.{AgreeAsFar}
use Rattle.http_lane.specs.Turns.{Coming, came, unkept, nothing, over, read_failed, write_failed, dismissed, Waiting, Turned}
use Rattle.http_lane.specs.TurnAgreement.{bytes_that_came}
use Rattle.http_lane.proofs.ReplyLemmas.{RepliesSameAsFar}
use Rattle.http_lane.proofs.AnswerLemmas.{settles_same, reading_same}
use Rattle.connection_laws.specs.Connections.{brought_bytes, done_for_bytes, last_brought_bytes, end_by_bytes, EndsIt, last_coming, end_for, InOnePiece, counted_for, DidAlike, BytesDecide}
use Rattle.connection_laws.proofs.Pieces.{turns_are_one_piece}
use Rattle.connection_laws.proofs.Replies.{of_lane, replies_as_far}

-- where the last turn brought something else that ends a connection, its bytes didn't end it
not_by_bytes : (turns : List Turned) (last : Waiting) (coming : Coming) → EndsIt coming → last_coming turns ≡ Some coming → end_by_bytes turns last ≡ None
not_by_bytes turns last coming ends at = ap (λ b. if b then last.end else None) (go turns at)
  where
    none : (c : Coming) → EndsIt c → brought_bytes c ≡ false
    none (came bytes) e = absurd e
    none (unkept bytes) e = refl
    none nothing e = refl
    none over e = refl
    none read_failed e = refl
    none write_failed e = refl
    none dismissed e = refl

    go : (turns : List Turned) → last_coming turns ≡ Some coming → last_brought_bytes turns ≡ false
    go [] e = refl
    go (t ∷ []) e = let is : t.coming ≡ coming = cc e in ap brought_bytes is ∙ none coming ends
    go (t ∷ next ∷ turns) e = go (next ∷ turns) e

alike : (g : Allowed) (a b : List Turned) (s t : Waiting) → InOnePiece g a s → InOnePiece g b t → bytes_that_came a ≡ bytes_that_came b
    → AgreeAsFar (done_for_bytes a) (done_for_bytes b) → RepliesSameAsFar (done_for_bytes a) (done_for_bytes b) → DidAlike a b s t
alike g a b s t one other bytes agree replies =
    let moved : Settles (in_head g (bytes_that_came a)) (done_for_bytes b) (end_by_bytes b t) other.reading = subst (λ xs. Settles (in_head g xs) (done_for_bytes b) (end_by_bytes b t) other.reading) (sym bytes) other.settles in
    let same = settles_same (in_head g (bytes_that_came a)) (done_for_bytes a) (done_for_bytes b) (end_by_bytes a s) (end_by_bytes b t) one.reading other.reading one.settles moved agree replies in
    record {
      events = same.0;
      submitted = ap submissions same.0;
      answers = ap text_of_all same.0;
      counts = ap counted_for same.0;
      end = same.1;
      ended = λ coming ends at its_at.
          let mine = subst (λ o. Settles (in_head g (bytes_that_came a)) (done_for_bytes a) o one.reading) (not_by_bytes a s coming ends at) one.settles in
          let its = subst (λ es. Settles (in_head g (bytes_that_came a)) es None other.reading) (sym same.0) (subst (λ o. Settles (in_head g (bytes_that_came a)) (done_for_bytes b) o other.reading) (not_by_bytes b t coming ends its_at) moved) in
          let reading = reading_same (in_head g (bytes_that_came a)) (done_for_bytes a) one.reading other.reading mine its in
          one.ended coming ends at ∙ (ap (end_for coming) reading ∙ sym (other.ended coming ends its_at));
    }

module _ {P Q : Type 0} (takes : P → Item → P → Type 0) (refuses : P → P → Type 0) (its_takes : Q → Item → Q → Type 0) (its_refuses : Q → Q → Type 0) where
  pub decided : BytesDecide takes refuses its_takes its_refuses
  decided allowed keeps c d s t bytes agree =
      alike allowed _ _ s.last t.last (turns_are_one_piece allowed _ s) (turns_are_one_piece allowed _ t) bytes agree
      (replies_as_far takes refuses its_takes its_refuses keeps _ _ (of_lane takes refuses keeps c.number c.ordinal c.acts c.first c.now c.keeps c.fits.did)
      (of_lane its_takes its_refuses keeps d.number d.ordinal d.acts d.first d.now d.keeps d.fits.did))
