-- Rows of the bytes by computation. The bytes come from a few lines of Python (struct and json), which share nothing with
-- this crate.
use Rattle.std.proofs.Common.{◌≡◌, ℕ, ◌+◌, Bool, true, false, List, [], ◌∷◌, ◌++◌, None, Ok, Err, take, set, refl}
use Rattle.otlp_types.specs.declared.arrival.Arrival.{Arrival}
use Rattle.otlp_types.specs.declared.arrival.Item.TheVariants.{Span, Tick, End}
use Rattle.otlp_types.specs.Empty.{no_resource, no_scope, plain_span}
use Rattle.serde_json.proofs.OnLiterals.{serde_json_on_literals}
use Rattle.journal_entry.specs.Bytes.{bytes_of_entry, text_of}
use Rattle.journal_entry.specs.Reading.{number_at, short_number_at, decisions_at, tick, ended, span, frame_of}
use Rattle.journal_entry.specs.declared.error.EntryError.TheVariants as faults

-- a tick, with three decisions: one asked twice, one not at all, one once
tick_bytes : List ℕ
tick_bytes = 1 ∷ 0 ∷ 0 ∷ 1 ∷ 0 ∷ 2 ∷ 2 ∷ 0 ∷ 2 ∷ 3 ∷ 1 ∷ 89 ∷ 188 ∷ 130 ∷ 45 ∷ 162 ∷ 1 ∷ 0 ∷ 0 ∷ []

tick_written : bytes_of_entry (record { item = Tick 1796059872345; refused = false; lost = false; answers = (true ∷ false ∷ []) ∷ [] ∷ (false ∷ []) ∷ [] }) ≡ tick_bytes
unfolding tick_bytes
tick_written = refl

tick_read : frame_of tick_bytes ≡ Ok (record { refused = false; lost = false; answers = (true ∷ false ∷ []) ∷ [] ∷ (false ∷ []) ∷ []; item = tick 1796059872345 })
unfolding tick_bytes number_at decisions_at
tick_read = refl

-- the End of sender 517
end_bytes : List ℕ
end_bytes = 1 ∷ 0 ∷ 0 ∷ 3 ∷ 2 ∷ 5 ∷ 2 ∷ []

end_written : bytes_of_entry (record { item = End 517; refused = false; lost = false; answers = [] }) ≡ end_bytes
unfolding end_bytes
end_written = refl

end_read : frame_of end_bytes ≡ Ok (record { refused = false; lost = false; answers = []; item = ended 517 })
unfolding end_bytes short_number_at decisions_at
end_read = refl

-- an empty span, and its text: {"resourceSpans":[{"scopeSpans":[{"spans":[{}]}]}]}
empty_arrival : Arrival
empty_arrival = record {
  key = record { conn = record { lane = 258; ordinal = 72623859790382856 }; number = 3 };
  moment = 4294967301;
  rec = record { resource = no_resource; resource_schema_url = []; scope = no_scope; scope_schema_url = []; span = plain_span None 0 0 0 };
}

empty_text : List ℕ
empty_text = 123 ∷ 34 ∷ 114 ∷ 101 ∷ 115 ∷ 111 ∷ 117 ∷ 114 ∷ 99 ∷ 101 ∷ 83 ∷ 112 ∷ 97 ∷ 110 ∷ 115 ∷ 34 ∷ 58 ∷ 91 ∷ 123 ∷ 34 ∷ 115 ∷ 99 ∷ 111 ∷ 112 ∷ 101 ∷ 83 ∷ 112 ∷ 97 ∷ 110 ∷ 115 ∷ 34 ∷ 58 ∷ 91 ∷ 123 ∷ 34 ∷ 115 ∷ 112 ∷ 97 ∷ 110 ∷ 115 ∷ 34 ∷ 58 ∷ 91 ∷ 123 ∷ 125 ∷ 93 ∷ 125 ∷ 93 ∷ 125 ∷ 93 ∷ 125 ∷ []

arrival_bytes : List ℕ
arrival_bytes = 3 ∷ 2 ∷ 1 ∷ 8 ∷ 7 ∷ 6 ∷ 5 ∷ 4 ∷ 3 ∷ 2 ∷ 1 ∷ 3 ∷ 0 ∷ 0 ∷ 0 ∷ 0 ∷ 0 ∷ 0 ∷ 0 ∷ 5 ∷ 0 ∷ 0 ∷ 0 ∷ 1 ∷ 0 ∷ 0 ∷ 0 ∷ []

text_written : text_of empty_arrival.rec ≡ empty_text
unfolding empty_arrival empty_text serde_json_on_literals
text_written = refl

-- a span that was refused memory
refused_written : bytes_of_entry (record { item = Span empty_arrival; refused = true; lost = false; answers = [] }) ≡ 1 ∷ 1 ∷ 0 ∷ 3 ∷ (arrival_bytes ++ empty_text)
unfolding empty_arrival arrival_bytes empty_text serde_json_on_literals
refused_written = refl

-- a span whose evicted decision was lost, and at which one trace was decided
lost_written : bytes_of_entry (record { item = Span empty_arrival; refused = false; lost = true; answers = (true ∷ []) ∷ [] }) ≡ 1 ∷ 0 ∷ 1 ∷ 1 ∷ 2 ∷ 3 ∷ (arrival_bytes ++ empty_text)
unfolding empty_arrival arrival_bytes empty_text serde_json_on_literals
lost_written = refl

lost_read : frame_of (1 ∷ 0 ∷ 1 ∷ 1 ∷ 2 ∷ 3 ∷ (arrival_bytes ++ empty_text))
    ≡ Ok (record { refused = false; lost = true; answers = (true ∷ []) ∷ []; item = span (record { conn = record { lane = 258; ordinal = 72623859790382856 }; number = 3 }) 4294967301 empty_text })
unfolding arrival_bytes empty_text number_at short_number_at decisions_at
lost_read = refl

-- cut within the moment, within the answers, and before the version; a byte too many; and bytes that mean nothing
cut_moment : frame_of (take 18 tick_bytes) ≡ Err faults.Short
unfolding tick_bytes number_at decisions_at
cut_moment = refl

cut_answers : frame_of (take 7 tick_bytes) ≡ Err faults.Short
unfolding tick_bytes decisions_at
cut_answers = refl

nothing : frame_of [] ≡ Err faults.Short
nothing = refl

one_more_byte : frame_of (end_bytes ++ 0 ∷ []) ≡ Err faults.Long
unfolding end_bytes short_number_at decisions_at
one_more_byte = refl

other_version : frame_of (set end_bytes 0 2) ≡ Err faults.Version
unfolding end_bytes
other_version = refl

no_mark : frame_of (set end_bytes 2 2) ≡ Err faults.Mark
unfolding end_bytes
no_mark = refl

no_answer : frame_of (set tick_bytes 4 4) ≡ Err faults.Answer
unfolding tick_bytes decisions_at
no_answer = refl

-- an answer behind the last decision belongs to none
stray_answer : frame_of (set tick_bytes 8 1) ≡ Err faults.Answer
unfolding tick_bytes decisions_at
stray_answer = refl

no_kind : frame_of (set end_bytes 4 4) ≡ Err faults.Kind
unfolding end_bytes decisions_at
no_kind = refl
