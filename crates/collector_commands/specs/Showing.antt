-- What is shown of the body that standard input has.
use Rattle.std.specs.Prelude.{◌≡◌, ⊤, ℕ, List, Option, Result, Ok, Err, codes, string_bytes}
use Rattle.request_show.specs.Body.{IsWhole, IsTooLong}
use Rattle.request_show.specs.Showing.{Shows}
use Rattle.request_show.specs.declared.body.BodyFault.{BodyFault}
use Rattle.request_show.specs.declared.body.BodyFault.TheVariants as body_is
use Rattle.request_show.specs.declared.showing.Shown.TheVariants as show_is
use Rattle.collector_commands.specs.declared.outcome.Outcome.{Outcome}
use Rattle.collector_commands.specs.declared.outcome.Outcome.TheVariants as is

-- what was read from a body, or why nothing was
abbrev pub body_of : {V : Type 0} → (V → List ℕ) → Result V BodyFault → Result (List ℕ) BodyFault
body_of items (Ok body) = Ok (items body)
body_of items (Err fault) = Err fault

-- why a body was not read
abbrev pub unread_text : BodyFault → List ℕ
unread_text body_is.NoMemory = codes "tsc: no memory\n"
unread_text body_is.Unreadable = codes "tsc: body refused: reading it failed\n"
unread_text body_is.TooLong = codes "tsc: body refused: longer than 67108864 bytes\n"

-- what is shown of what was read from a body; or there was no memory
abbrev pub BodyShows : Result (List ℕ) BodyFault → Outcome → Type 0
BodyShows (Ok body) (is.Shown line) = Shows body (show_is.Line line)
BodyShows (Ok body) (is.NotShown said) = Shows body (show_is.Refused said)
BodyShows (Err fault) (is.NotShown said) = string_bytes said ≡ unread_text fault
BodyShows _ is.NoMemory = ⊤
BodyShows _ _ = ⊥

-- this was read from what standard input has
abbrev pub IsReadOf : (input : Option (List ℕ)) → Result (List ℕ) BodyFault → Type 0
IsReadOf input (Ok body) = IsWhole input body
IsReadOf input (Err body_is.TooLong) = IsTooLong input
IsReadOf input (Err fault) = ⊤

-- what is shown of standard input
abbrev pub InputShows : (input : Option (List ℕ)) → Outcome → Type 0
InputShows input outcome = (body : Result (List ℕ) BodyFault) × IsReadOf input body × BodyShows body outcome
