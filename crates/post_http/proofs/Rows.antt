-- For how long answers ask to wait, and how much may come, computed.
use Rattle.std.proofs.Common.{◌≡◌, [], ◌∷◌, Some, None, codes, refl}
use Rattle.http1.specs.Text.{eq_ignore_case}
use Rattle.post_http.specs.Waits.{seconds_of, wait_in}
use Rattle.post_http.specs.declared.reading.TheConstants.{FIELD_LIMIT, INTERIM_LIMIT}
use Rattle.post_http.specs.declared.posting.TheConstants.{ANSWER_LIMIT}

seven_seconds : seconds_of (codes "7") ≡ Some 7
seven_seconds = refl

two_minutes : seconds_of (codes "0120") ≡ Some 120
two_minutes = refl

at_most_the_longest : seconds_of (codes "1000001") ≡ Some 1000000
at_most_the_longest = refl

no_digits : seconds_of [] ≡ None
no_digits = refl

a_date : seconds_of (codes "Wed, 21 Oct 2015 07:28:00 GMT") ≡ None
a_date = refl

signed : seconds_of (codes "-1") ≡ None
signed = refl

the_first_of_its_name : wait_in ((codes "Server", codes "3") ∷ (codes "RETRY-after", codes "5") ∷ (codes "Retry-After", codes "9") ∷ []) ≡ Some 5
unfolding eq_ignore_case
the_first_of_its_name = refl

no_such_field : wait_in ((codes "Retry", codes "3") ∷ []) ≡ None
unfolding eq_ignore_case
no_such_field = refl

-- how many fields a head may have, how many heads may stand in front of a body, and how many bytes an answer may take
limits : FIELD_LIMIT ∷ INTERIM_LIMIT ∷ ANSWER_LIMIT ∷ [] ≡ 64 ∷ 8 ∷ 65536 ∷ []
limits = refl
