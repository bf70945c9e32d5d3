-- The fields that were put are those of the note.
use Rattle.std.proofs.Common.{◌≡◌, ℕ, List, [], ◌∷◌, ◌++◌, OnOk, subst, sym, ◌∙◌, ap}
use Rattle.std.specs.Int.{w16, w64, to_le_bytes}
use Rattle.request_ledger.specs.declared.notes.LedgerNote.TheVariants.{Again}
use Rattle.request_ledger.specs.Format.{record_of}
use Rattle.request_ledger.specs.Entries.{note_bytes}
use Rattle.request_ledger.proofs.notes.put_note.Goals as goal

pub returns-in-Again-clause-ok : goal.returns-in-Again-clause-ok
returns-in-Again-clause-ok c =
    let is : c.args.note.now ≡ Again c.in-Again.segment c.in-Again.lane c.in-Again.place = c.in-Again.is in
    let place : c.to_le_bytes-place.result ≡ to_le_bytes w64 c.in-Again.place = c.to_le_bytes-place.ensures in
    let segment : c.to_le_bytes-in-Again.result ≡ to_le_bytes w64 c.in-Again.segment = c.to_le_bytes-in-Again.ensures in
    let lane : c.to_le_bytes-in-Again-2.result ≡ to_le_bytes w16 c.in-Again.lane = c.to_le_bytes-in-Again-2.ensures in
    let put = λ (p : List ℕ). OnOk c.put_fields-in-Again.result (c.put_fields-in-Again.new.out.items ≡ c.args.out.now.items ++ record_of p) in
    let same : 5 ∷ c.to_le_bytes-in-Again.result ++ c.to_le_bytes-in-Again-2.result ++ c.to_le_bytes-place.result ++ [] ≡ 5 ∷ to_le_bytes w64 c.in-Again.segment ++ to_le_bytes w16 c.in-Again.lane ++ to_le_bytes w64 c.in-Again.place =
    λ i. 5 ∷ segment i ++ lane i ++ place i ++ [] in
    subst put (same ∙ ap note_bytes (sym is)) c.put_fields-in-Again.ensures.ok
