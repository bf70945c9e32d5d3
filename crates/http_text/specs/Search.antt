-- A search for the end of a part that goes on where it stopped.
use Rattle.std.specs.Prelude.{◌≡◌, ℕ, ◌+◌, ◌<◌, ◌≤◌, true, false, List, [], ◌∷◌, ◌++◌, length, take, Option, None, Some, if◌then◌else◌, ◌==◌}
use Rattle.std.specs.Option.{option_map}
use Rattle.httparse.specs.Ascii.{line_feed, carriage_return}
use Rattle.http_text.specs.declared.lines.TheConstants.{PART_LIMIT}
use Rattle.http_text.specs.Lines.{Whole as CWhole, Waits as CWaits, TooLong as CTooLong}
use Rattle.http_text.specs.declared.search.SearchPlace.{SearchPlace}
use Rattle.http_text.specs.declared.search.SearchPlace.TheVariants.{Blank, Start, Middle, Line}
use Rattle.http_text.specs.declared.search.PartSearch.{PartSearch}
use Rattle.http_text.specs.declared.search.SearchStep.{SearchStep}
use Rattle.http_text.specs.declared.search.SearchStep.TheVariants.{Found, On, Pause}
use Rattle.http_text.specs.declared.search.Ending.{Ending}
use Rattle.http_text.specs.declared.search.Ending.TheVariants.{At, Open}
use Rattle.http_text.specs.declared.search.Cutting.{Cutting}
use Rattle.http_text.specs.declared.search.Cutting.TheVariants.{Whole, Waits, TooLong}
use Rattle.http_text.specs.Lines.{head_len, line_len, len_through_empty, cut}

-- the end of the part in the bytes that are still to be looked at
abbrev pub ends : SearchPlace → List ℕ → Option ℕ
ends Blank ys = head_len ys
ends Start ys = len_through_empty true ys
ends Middle ys = len_through_empty false ys
ends Line ys = line_len ys

abbrev pub step_blank : List ℕ → SearchStep
step_blank [] = Pause
step_blank (a ∷ []) = if a == line_feed then On 1 Blank else (if a == carriage_return then Pause else On 1 Middle)
step_blank (a ∷ b ∷ bytes) = if a == line_feed then On 1 Blank else (if a == carriage_return then (if b == line_feed then On 2 Blank else On 2 Middle) else On 1 Middle)

abbrev pub step_start : List ℕ → SearchStep
step_start [] = Pause
step_start (a ∷ []) = if a == line_feed then Found 1 else (if a == carriage_return then Pause else On 1 Middle)
step_start (a ∷ b ∷ bytes) = if a == line_feed then Found 1 else (if a == carriage_return then (if b == line_feed then Found 2 else On 2 Middle) else On 1 Middle)

abbrev pub step_middle : List ℕ → SearchStep
step_middle [] = Pause
step_middle (a ∷ bytes) = if a == line_feed then On 1 Start else On 1 Middle

abbrev pub step_line : List ℕ → SearchStep
step_line [] = Pause
step_line (a ∷ bytes) = if a == line_feed then Found 1 else On 1 Line

abbrev pub step : SearchPlace → List ℕ → SearchStep
step Blank rest = step_blank rest
step Start rest = step_start rest
step Middle rest = step_middle rest
step Line rest = step_line rest

-- what a step says of the part, whatever bytes follow
abbrev pub IsStep : SearchPlace → List ℕ → SearchStep → Type 0
IsStep place rest (Found n) = (0 < n) × (n ≤ length rest) × ((ys : List ℕ) → ends place (rest ++ ys) ≡ Some n)
IsStep place rest (On n next) = (0 < n) × (n ≤ length rest) × ((ys : List ℕ) → ends place (take n rest ++ ys) ≡ option_map (λ k. n + k) (ends next ys))
IsStep place rest Pause = ends place rest ≡ None

-- the search is right about the bytes that it has looked at, whatever bytes follow them
abbrev pub Searched : (List ℕ → Option ℕ) → PartSearch → List ℕ → Type 0
Searched len_of s bytes = (s.at ≤ length bytes) × ((ys : List ℕ) → len_of (take s.at bytes ++ ys) ≡ option_map (λ k. s.at + k) (ends s.place ys))

abbrev pub IsEnding : (List ℕ → Option ℕ) → List ℕ → Ending → Type 0
IsEnding len_of bytes (At n) = (len_of bytes ≡ Some n) × (0 < n) × (n ≤ length bytes)
IsEnding len_of bytes (Open s) = (len_of bytes ≡ None) × Searched len_of s bytes

abbrev pub IsCutting : (List ℕ → Option ℕ) → List ℕ → Cutting → Type 0
IsCutting len_of stream (Whole n) = (cut len_of stream ≡ CWhole n) × (0 < n) × (n ≤ length stream)
IsCutting len_of stream (Waits s) = (cut len_of stream ≡ CWaits) × Searched len_of s stream × (length stream < PART_LIMIT)
IsCutting len_of stream TooLong = cut len_of stream ≡ CTooLong

-- whatever part is searched for, this is what stands at the front of the stream
abbrev pub Cuts : PartSearch → List ℕ → Cutting → Type 0
Cuts search stream result = (len_of : List ℕ → Option ℕ) → Searched len_of search stream → IsCutting len_of stream result

-- the numbers lie in the bytes
abbrev pub IsInside : PartSearch → List ℕ → Type 0
IsInside search rest = (search.at ≤ length rest) × (search.at ≤ PART_LIMIT)

abbrev pub IsEndingInside : List ℕ → Ending → Type 0
IsEndingInside bytes (At n) = (0 < n) × (n ≤ length bytes)
IsEndingInside bytes (Open s) = s.at ≤ length bytes

abbrev pub IsCutInside : List ℕ → Cutting → Type 0
IsCutInside stream (Whole n) = (0 < n) × (n ≤ length stream)
IsCutInside stream (Waits s) = IsInside s stream × (length stream < PART_LIMIT)
IsCutInside stream TooLong = Unit {0}
