-- What a post does with a stream.
use Rattle.std.specs.Prelude.{◌≡◌, ℕ, ◌<◌, Bool, true, false, List, [], ◌++◌, length, Option, Some, None}
use Rattle.std.specs.Io.KnownBytes.{Appends, Consumes}
use Rattle.post_http.specs.declared.answer.BackendResponse.{BackendResponse}
use Rattle.post_http.specs.declared.answer.Posted.{Posted}
use Rattle.post_http.specs.declared.answer.Posted.TheVariants.{Answered, Unsent, Unanswered}
use Rattle.post_http.specs.declared.posting.Piece.{Piece}
use Rattle.post_http.specs.declared.posting.Piece.TheVariants.{More, End, Interrupted, Failed}
use Rattle.post_http.specs.Answers.{IsAnswerIn}

-- a text was written whole, or a first part of it that isn't the whole
abbrev pub Puts : (old new : Option (List ℕ)) → (text : List ℕ) → Bool → Type 0
Puts old new text true = Appends old new text
Puts old new text false = (part : List ℕ) × (missing : List ℕ) × (text ≡ part ++ missing) × (0 < length missing) × Appends old new part

-- what one read added to what came
abbrev pub Takes : (left left_after : Option (List ℕ)) → (came came_after : List ℕ) → Piece → Type 0
Takes left left_after came came_after More = (more : List ℕ) × Consumes left left_after more × (came_after ≡ came ++ more)
Takes left left_after came came_after End = Consumes left left_after [] × (came_after ≡ came)
Takes left left_after came came_after Interrupted = Consumes left left_after [] × (came_after ≡ came)
Takes left left_after came came_after Failed = (more : List ℕ) × Consumes left left_after more

-- an answer is what the bytes hold that were read
abbrev pub Answers : (left left_after : Option (List ℕ)) → Option BackendResponse → Type 0
Answers left left_after (Some a) = (came : List ℕ) × Consumes left left_after came × IsAnswerIn came a
Answers left left_after None = Unit {0}

-- a request was written whole and answered, or written whole and not answered, or not written whole
abbrev pub Posts : (left left_after old new : Option (List ℕ)) → (head body : List ℕ) → Posted → Type 0
Posts left left_after old new head body (Answered a) = Appends old new (head ++ body) × Answers left left_after (Some a)
Posts left left_after old new head body Unanswered = Appends old new (head ++ body)
Posts left left_after old new head body Unsent = Puts old new (head ++ body) false × (left_after ≡ left)
