-- When something is said, computed on the definitions; no clause needs it.
use Rattle.std.specs.Prelude.{◌≡◌, ℕ, Bool, true, false, List, [], ◌∷◌, Option, Some, None, refl}
use Rattle.event_log.specs.Spells.{spell_after, never}
use Rattle.event_log.specs.Jumps.{jump_of}
use Rattle.event_log.specs.Away.{away_after}
use Rattle.event_log.specs.declared.away.AwayTurn.{AwayTurn}
use Rattle.event_log.specs.declared.away.AwayTurn.TheVariants.{Away, Back}
use Rattle.event_log.specs.declared.spell.Spell.{Spell}
use Rattle.event_log.specs.declared.spell.SpellTurn.{SpellTurn}
use Rattle.event_log.specs.declared.spell.SpellTurn.TheVariants.{Begins, Ends}

-- looks at these moments, each with whether it was seen, and what was said
abbrev said : Spell → List (Bool × ℕ) → List (Option SpellTurn)
said spell [] = []
said spell (look ∷ rest) = let after = spell_after spell look.0 look.1 in after.1 ∷ said after.0 rest

-- it begins at once; ten seconds later it is quiet, but a minute hasn't passed; then it is over; seen again at once, it
-- is told of again a minute later
said_once_a_minute : said never ((true, 5) ∷ (true, 500) ∷ (false, 10500) ∷ (false, 60004) ∷ (false, 60005) ∷ (true, 60505) ∷ (true, 120004) ∷ (true, 120005) ∷ [])
    ≡ Some Begins ∷ None ∷ None ∷ None ∷ Some Ends ∷ None ∷ None ∷ Some Begins ∷ []
said_once_a_minute = refl

-- what goes on isn't over
goes_on : said never ((true, 0) ∷ (true, 55000) ∷ (false, 64999) ∷ (false, 65000) ∷ []) ≡ Some Begins ∷ None ∷ None ∷ Some Ends ∷ []
goes_on = refl

jumps : jump_of 5000 5999 ∷ jump_of 5000 6000 ∷ jump_of 3605000 5000 ∷ jump_of 7 7 ∷ [] ≡ None ∷ Some 1000 ∷ Some 3600000 ∷ None ∷ []
jumps = refl

-- looks at a backend, each with whether it takes something, whether it fails to answer, and when, and what is said
abbrev told : Option ℕ → List (Bool × Bool × ℕ) → List (Option AwayTurn)
told since [] = []
told since (look ∷ rest) = let after = away_after since look.0 look.1 look.2 in after.1 ∷ told after.0 rest

-- one that takes something and fails meanwhile isn't away; one that is away is back by that, and back once
away_and_back : told None ((false, false, 1) ∷ (true, true, 2) ∷ (false, true, 30) ∷ (false, true, 40) ∷ (false, false, 50) ∷ (true, true, 75) ∷ (true, false, 80) ∷ [])
    ≡ None ∷ None ∷ Some Away ∷ None ∷ None ∷ Some (Back 45) ∷ None ∷ []
away_and_back = refl
