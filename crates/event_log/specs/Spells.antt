-- When the beginning and the end are said of what goes on for a while.
use Rattle.std.specs.Prelude.{ℕ, ◌-◌, Bool, true, false, not, ◌&&◌, nat_le, if◌then◌else◌, Option, Some, None}
use Rattle.event_log.specs.declared.spell.Spell.{Spell}
use Rattle.event_log.specs.declared.spell.SpellTurn.{SpellTurn}
use Rattle.event_log.specs.declared.spell.SpellTurn.TheVariants.{Begins, Ends}

-- it wasn't seen yet
abbrev pub never : Spell
never = record { is_on = false; seen = 0; said = None }

-- a minute has passed since something was said, or nothing was
abbrev pub may_say : Option ℕ → (now : ℕ) → Bool
may_say (Some before) now = nat_le 60000 (now - before)
may_say None now = true

-- it is said that it begins where it is seen and isn't known to go on, and that it is over once it was quiet for ten
-- seconds
abbrev pub begins : Spell → (is_seen : Bool) → (now : ℕ) → Bool
begins spell is_seen now = is_seen && (not spell.is_on && may_say spell.said now)

abbrev pub ends : Spell → (is_seen : Bool) → (now : ℕ) → Bool
ends spell is_seen now = not is_seen && (spell.is_on && (may_say spell.said now && nat_le 10000 (now - spell.seen)))

-- what is known after a look, and what is said
abbrev pub spell_after : Spell → (is_seen : Bool) → (now : ℕ) → Spell × Option SpellTurn
spell_after spell is_seen now =
    let seen = if is_seen then now else spell.seen in
    if begins spell is_seen now then (record { is_on = true; seen = seen; said = Some now }, Some Begins)
    else if ends spell is_seen now then (record { is_on = false; seen = seen; said = Some now }, Some Ends)
    else (record { is_on = spell.is_on; seen = seen; said = spell.said }, None)
