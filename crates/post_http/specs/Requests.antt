-- The head of a request (RFC 9112, section 3).
use Rattle.std.specs.Prelude.{ℕ, List, codes}
use Rattle.http1.specs.declared.conn.BodySize.TheVariants.{Known}
use Rattle.http1.specs.Fields.{Header}
use Rattle.http1.specs.Client.{new_client, planned_request}
use Rattle.post_http.specs.Answers.{limits}

-- the first line of `POST` to a path, these fields, and the length of the body
abbrev pub head_text : (path : List ℕ) → (fields : List Header) → (len : ℕ) → List ℕ
head_text path fields len = planned_request (new_client limits) (codes "POST") path (Known len) fields
