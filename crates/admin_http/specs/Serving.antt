-- What one connection does: it reads until a head is whole, answers it once, and ends.
use Rattle.std.specs.Prelude.{◌≡◌, ℕ, ◌+◌, ◌-◌, ◌^◌, ◌<◌, min, nat_lt, Bool, true, false, if◌then◌else◌, List, [], ◌++◌, length, take, Option, Some, Result, Ok, Err}
use Rattle.std.specs.Io.KnownBytes.{Appends, Consumes, IsAtEnd}
use Rattle.http_text.specs.Lines.{Waits, cut, head_len}
use Rattle.admin_http.specs.declared.asked.AdminRequest.{AdminRequest}
use Rattle.admin_http.specs.declared.asked.Access.{Access}
use Rattle.admin_http.specs.declared.asked.Route.{Route}
use Rattle.admin_http.specs.declared.asked.Route.TheVariants.{Close, Reopen, Metrics, Config, Status, Decisions, Trace, Page}
use Rattle.admin_http.specs.declared.ends.AdminEnd.{AdminEnd}
use Rattle.admin_http.specs.declared.ends.AdminEnd.TheVariants.{Heard, Unheard}
use Rattle.admin_http.specs.declared.ends.Portion.{Portion}
use Rattle.admin_http.specs.declared.ends.Portion.TheVariants.{Whole, Part, Nothing}
use Rattle.admin_http.specs.declared.ends.Silence.{Silence}
use Rattle.admin_http.specs.declared.ends.Silence.TheVariants.{Cut, NoMemory, Quiet, Stopped}
use Rattle.admin_http.specs.declared.ends.TheConstants.{QUIET_LIMIT}
use Rattle.admin_http.specs.declared.ends.PieceRead.{PieceRead}
use Rattle.admin_http.specs.declared.ends.PieceRead.TheVariants.{More, End, NoRoom}
use Rattle.admin_http.specs.Asked.{IsHeard}
use Rattle.admin_http.specs.Texts.{AdminState, AdminTexts, answer_of}

-- a route asks for what the collector has counted, or decided
abbrev pub is_counted : Route → Bool
is_counted Metrics = true
is_counted Status = true
is_counted Decisions = true
is_counted (Trace id) = true
is_counted _ = false

-- what an answer tells of is what the collector said: whether it is closing, its texts, and, where that is asked for,
-- what it has counted
pub record IsStateOf (stops : Bool → Type 0) (tells : Route → List ℕ → Type 0) (texts : AdminTexts) (route : Route) (s : AdminState) : Type 0 where
  pub is_stopping : stops s.is_stopping
  pub same : s.texts ≡ texts
  pub counted : is_counted route ≡ true → tells route s.counted

-- this is the answer to a request
abbrev pub Answers : (stops : Bool → Type 0) (tells : Route → List ℕ → Type 0) (texts : AdminTexts) → AdminRequest → (text : List ℕ) → Type 0
Answers stops tells texts asked text = (s : AdminState) × IsStateOf stops tells texts asked.route s × (text ≡ answer_of asked s)

-- what was written of a text
abbrev pub WrittenBy : Portion → (text bytes : List ℕ) → Type 0
WrittenBy Whole text bytes = bytes ≡ text
WrittenBy Part text bytes = (n : ℕ) × (n < length text) × (bytes ≡ take n text)
WrittenBy Nothing text bytes = bytes ≡ []

-- what that did to a writer
abbrev pub Puts : (old new : Option (List ℕ)) → (text : List ℕ) → Portion → Type 0
Puts old new text sent = (bytes : List ℕ) × Appends old new bytes × WrittenBy sent text bytes

-- a text was made
abbrev pub IsMade : Portion → Type 0
IsMade Nothing = ⊥
IsMade _ = Unit {0}

-- a request was answered, unless there was no memory for the answer
abbrev pub Responds : (stops : Bool → Type 0) (tells : Route → List ℕ → Type 0) (texts : AdminTexts) (old new : Option (List ℕ)) → AdminRequest → Portion → Type 0
Responds stops tells texts old new asked Nothing = new ≡ old
Responds stops tells texts old new asked sent = (text : List ℕ) × Answers stops tells texts asked text × Puts old new text sent

-- what one read added to what was read so far
abbrev pub Takes : (left left_after : Option (List ℕ)) → (read read_after : List ℕ) → PieceRead → Type 0
Takes left left_after read read_after More = (more : List ℕ) × Consumes left left_after more × (read_after ≡ read ++ more)
Takes left left_after read read_after NoRoom = (more : List ℕ) × Consumes left left_after more
Takes left left_after read read_after End = Consumes left left_after [] × (read_after ≡ read) × IsAtEnd left_after
Takes left left_after read read_after _ = Consumes left left_after [] × (read_after ≡ read)

-- how many reads gave nothing for now, with one more behind these, or why that ends the connection: the collector is
-- closing, or that were too many
abbrev pub one_more : (quiet : ℕ) → ℕ
one_more quiet = min (quiet + 1) (2 ^ 64 - 1)

abbrev pub quiet_after : (quiet : ℕ) → (is_stopping : Bool) → Result ℕ Silence
quiet_after quiet true = Err Stopped
quiet_after quiet false = if nat_lt (one_more quiet) QUIET_LIMIT then Ok (one_more quiet) else Err Quiet

-- no request was heard: the head isn't whole
abbrev pub IsSilent : (left : Option (List ℕ)) → (read : List ℕ) → Silence → Type 0
IsSilent left read NoMemory = Unit {0}
IsSilent left read Cut = (cut head_len read ≡ Waits) × IsAtEnd left
IsSilent left read _ = cut head_len read ≡ Waits

-- what was heard in the bytes that were read
abbrev pub HearsIn : Access → (left : Option (List ℕ)) → (read : List ℕ) → Result AdminRequest Silence → Type 0
HearsIn access left read (Ok asked) = IsHeard access read (Some asked)
HearsIn access left read (Err silence) = IsSilent left read silence

abbrev pub Hears : Access → (left left_after : Option (List ℕ)) → Result AdminRequest Silence → Type 0
Hears access left left_after heard = (read : List ℕ) × Consumes left left_after read × HearsIn access left_after read heard

-- the end of a connection in which this was read: a request was answered, or none was heard and nothing was written
abbrev pub EndsWith : Access → (stops : Bool → Type 0) (tells : Route → List ℕ → Type 0) (texts : AdminTexts) (left_after old new : Option (List ℕ)) → (read : List ℕ) → AdminEnd → Type 0
EndsWith access stops tells texts left_after old new read (Heard asked sent) = IsHeard access read (Some asked) × Responds stops tells texts old new asked sent
EndsWith access stops tells texts left_after old new read (Unheard silence) = IsSilent left_after read silence × (new ≡ old)

abbrev pub Served : Access → (stops : Bool → Type 0) (tells : Route → List ℕ → Type 0) (texts : AdminTexts) (left left_after old new : Option (List ℕ)) → AdminEnd → Type 0
Served access stops tells texts left left_after old new end =
    (read : List ℕ) × Consumes left left_after read × EndsWith access stops tells texts left_after old new read end

-- the request asked the collector to close
abbrev pub closes : Route → Bool
closes Close = true
closes _ = false

abbrev pub asked_to_close : AdminEnd → Bool
asked_to_close (Heard asked sent) = closes asked.route
asked_to_close (Unheard silence) = false

-- the request asked the collector to open its output anew
abbrev pub reopens : Route → Bool
reopens Reopen = true
reopens _ = false

abbrev pub asked_to_reopen : AdminEnd → Bool
asked_to_reopen (Heard asked sent) = reopens asked.route
asked_to_reopen (Unheard silence) = false

-- a route that has no power, and whose answer tells nothing of the configuration, nor names its policies, nor is the page
-- that shows it
abbrev pub is_harmless : Route → Bool
is_harmless Close = false
is_harmless Reopen = false
is_harmless Config = false
is_harmless Decisions = false
is_harmless (Trace id) = false
is_harmless Page = false
is_harmless _ = true

abbrev pub was_harmless : AdminEnd → Bool
was_harmless (Heard asked sent) = is_harmless asked.route
was_harmless (Unheard silence) = true
