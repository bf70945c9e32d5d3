-- Whether a backend is away.
use Rattle.std.specs.Prelude.{ℕ, ◌-◌, Bool, not, ◌&&◌, if◌then◌else◌, Option, Some, None}
use Rattle.event_log.specs.declared.away.AwayTurn.{AwayTurn}
use Rattle.event_log.specs.declared.away.AwayTurn.TheVariants.{Away, Back}

-- one that is away is back once it takes something; another is away once it fails to answer and takes nothing
abbrev pub away_after : (since : Option ℕ) → (takes fails : Bool) → (now : ℕ) → Option ℕ × Option AwayTurn
away_after (Some began) takes fails now = if takes then (None, Some (Back (now - began))) else (Some began, None)
away_after None takes fails now = if fails && not takes then (Some now, Some Away) else (None, None)
