-- What a function that writes tokens leaves, and numbers that can be written. For private clauses.
use Rattle.std.specs.Prelude.{ℕ, ◌≡◌, ◌<◌, ◌^◌, ◌++◌, List, [], ◌∷◌, Option, Some, None, Result, OnOk, ⊤}
use Rattle.json.specs.Json.{Json}
use Rattle.json.specs.Token.{Token, begin_object, key}
use Rattle.json.specs.Tree.{json_tokens}
use Rattle.json.specs.Written.{Written}
use Rattle.decision_line.specs.declared.held.TraceHeld.{TraceHeld}
use Rattle.decision_line.specs.declared.held.TraceHeld.TheVariants.{Waiting, Decided as HeldDecided, Remembered, Unknown}
use Rattle.decision_json.specs.declared.news.TraceNews.{TraceNews}
use Rattle.decision_json.specs.declared.news.TraceNews.TheVariants.{Decided, Evicted}

-- these tokens were appended, unless memory was refused
pub record PutsAll {E : Type 0} (result : Result (Unit {0}) E) (old new : Written) (tokens : List Token) : Type 0 where
  pub all : OnOk result ((new.tokens ≡ old.tokens ++ tokens) × (new.before ≡ old.before))

-- members of an object, and what an object begins with that has these members first
abbrev pub member_tokens : List (List ℕ × Json) → List Token
member_tokens [] = []
member_tokens (m ∷ ms) = key m.0 ∷ (json_tokens m.1 ++ member_tokens ms)

abbrev pub begun : List (List ℕ × Json) → List Token
begun ms = begin_object ∷ member_tokens ms

-- its numbers are those of 64 bits
abbrev pub IsCounted : TraceNews → Type 0
IsCounted (Decided trace said asked) = (trace.moment < 2 ^ 64) × (trace.spans < 2 ^ 64)
IsCounted (Evicted trace) = (trace.moment < 2 ^ 64) × (trace.spans < 2 ^ 64)

abbrev pub AreCounted : List TraceNews → Type 0
AreCounted [] = ⊤
AreCounted (one ∷ news) = IsCounted one × AreCounted news

abbrev pub IsKnownCounted : TraceHeld → Type 0
IsKnownCounted (Waiting since spans) = (since < 2 ^ 64) × (spans < 2 ^ 64)
IsKnownCounted (HeldDecided verdict) = ⊤
IsKnownCounted (Remembered verdict) = ⊤
IsKnownCounted Unknown = ⊤

abbrev pub IsHeldCounted : Option TraceHeld → Type 0
IsHeldCounted None = ⊤
IsHeldCounted (Some held) = IsKnownCounted held
