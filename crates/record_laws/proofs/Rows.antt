-- What some scripts say and bring, computed on the definitions. No clause needs them: they show what the words of
-- `Recorded` say.
use Rattle.std.proofs.Common.{◌≡◌, List, [], ◌∷◌, map, flat_map, refl}
use Rattle.otlp_types.specs.declared.arrival.Arrival.{Arrival}
use Rattle.otlp_types.specs.declared.request.Request.{Request}
use Rattle.span_ids.specs.declared.keys.ConnKey.{ConnKey}
use Rattle.world_theory.proofs.Samples.{plain}
use Rattle.tsc_script.specs.Instructions.{Instruction, receive, tick, close}
use Rattle.script_line.specs.Entries.{Entry, request as recorded, ticked}
use Rattle.record_laws.specs.Recorded.{Came, all_said_on, recorded_on, spans_from}

-- connection 3 says two things, and connection 4 one between them
abbrev script : List Instruction
script = receive 3 10 (65 ∷ []) ∷ tick 11 ∷ receive 4 12 (66 ∷ []) ∷ receive 3 13 (67 ∷ 68 ∷ []) ∷ close ∷ []

said_on_3 : all_said_on 3 script ≡ record { moment = 10; body = 65 ∷ [] } ∷ record { moment = 13; body = 67 ∷ 68 ∷ [] } ∷ []
said_on_3 = refl

said_on_4 : all_said_on 4 script ≡ record { moment = 12; body = 66 ∷ [] } ∷ []
said_on_4 = refl

said_on_5 : all_said_on 5 script ≡ []
said_on_5 = refl

-- the same as a record: a body of two lines is one of one line there
abbrev entries : List Entry
entries = recorded 3 10 (65 ∷ []) ∷ ticked 11 ∷ recorded 4 12 (66 ∷ []) ∷ recorded 3 13 (67 ∷ 10 ∷ 68 ∷ []) ∷ []

recorded_on_3 : flat_map (recorded_on 3) entries ≡ record { moment = 10; body = 65 ∷ [] } ∷ record { moment = 13; body = 67 ∷ 32 ∷ 68 ∷ [] } ∷ []
recorded_on_3 = refl

-- two requests of two spans and of one
abbrev conn : ConnKey
conn = record { lane = 1; ordinal = 4 }

abbrev of_two : Request
of_two = record { resource_spans = record { resource = (plain 1).resource; schema_url = []; scope_spans = record { scope = (plain 1).scope; schema_url = []; spans = (plain 1).span ∷ (plain 2).span ∷ [] } ∷ [] } ∷ [] }

abbrev of_one : Request
of_one = record { resource_spans = record { resource = (plain 3).resource; schema_url = []; scope_spans = record { scope = (plain 3).scope; schema_url = []; spans = (plain 3).span ∷ [] } ∷ [] } ∷ [] }

abbrev came : List Came
came = record { moment = 10; request = of_two } ∷ record { moment = 13; request = of_one } ∷ []

numbers : map (λ (a : Arrival). a.key.number) (spans_from conn 0 came) ≡ 0 ∷ 1 ∷ 2 ∷ []
numbers = refl

moments : map (λ (a : Arrival). a.moment) (spans_from conn 0 came) ≡ 10 ∷ 10 ∷ 13 ∷ []
moments = refl
