-- For how long an answer asks to wait (RFC 9110, section 10.2.3).
use Rattle.std.specs.Prelude.{ℕ, ◌+◌, ◌-◌, ◌*◌, min, List, [], ◌∷◌, Option, Some, None, codes, if◌then◌else◌}
use Rattle.std.specs.Char.{is_ascii_digit}
use Rattle.http1.specs.Fields.{Header}
use Rattle.http1.specs.Text.{eq_ignore_case}
use Rattle.post_http.specs.declared.wait.TheConstants.{LONGEST_WAIT}

-- the number that digits write, behind the number before them, and at most the longest wait
abbrev pub digits_on : ℕ → List ℕ → Option ℕ
digits_on n [] = Some n
digits_on n (b ∷ bs) = if is_ascii_digit b then digits_on (min (n * 10 + (b - 48)) LONGEST_WAIT) bs else None

-- the seconds that a value says in digits; a date says none here
abbrev pub seconds_of : List ℕ → Option ℕ
seconds_of [] = None
seconds_of (b ∷ bs) = digits_on 0 (b ∷ bs)

-- the seconds of the first field `Retry-After`
abbrev pub wait_in : List Header → Option ℕ
wait_in [] = None
wait_in (field ∷ rest) = if eq_ignore_case field.0 (codes "retry-after") then seconds_of field.1 else wait_in rest
