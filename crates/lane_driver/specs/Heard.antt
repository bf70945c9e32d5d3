-- What a lane's driver does with what it is told: answers go behind what wasn't sent yet, each at its connection.
use Rattle.std.specs.Prelude.{◌≡◌, ◌≢◌, ℕ, Bool, true, List, [], ◌++◌, Option, Some, None, is_none}
use Rattle.slab.specs.Slab.{Slab, get}
use Rattle.http_lane.specs.declared.answer.ServeEnd.{ServeEnd}
use Rattle.lane_turns.specs.declared.serving.Done.{Done}
use Rattle.lane_turns.specs.declared.serving.Done.TheVariants.{Took, Turned, Nothing}
use Rattle.lane_driver.specs.declared.link.ConnectionSocket.{ConnectionSocket}

-- a lane's links, by their places
abbrev pub Sockets : Type 0
Sockets = Slab ConnectionSocket

-- what a link has still to send, if there is one
abbrev pub unsent_of : Option ConnectionSocket → Option (List ℕ)
unsent_of None = None
unsent_of (Some link) = Some link.outgoing

-- what is still to be sent at a place
abbrev pub unsent : Sockets → (place : ℕ) → Option (List ℕ)
unsent links place = unsent_of (get links place)

-- at each place the same is to be sent
abbrev pub SendTheSame : (old new : Sockets) → Type 0
SendTheSame old new = (place : ℕ) → unsent new place ≡ unsent old place

-- the same at each place but this one, where the link may be gone
pub record MayEnd (place : ℕ) (old new : Sockets) : Type 0 where
  pub others : (other : ℕ) → other ≢ place → unsent new other ≡ unsent old other
  pub here : (left : List ℕ) → unsent new place ≡ Some left → unsent old place ≡ Some left

-- each link is still there, with the same to be sent; one more may be
abbrev pub AllStay : (old new : Sockets) → Type 0
AllStay old new = (place : ℕ) (left : List ℕ) → unsent old place ≡ Some left → unsent new place ≡ Some left

-- The connection at this place had a turn, and this text is to be sent there: it goes behind what wasn't sent yet, whole
-- and in order, unless the link is gone. Where the connection ended a first part of all that may have been sent since.
-- At each other place the same is to be sent.
pub record PutsText (place : ℕ) (text : List ℕ) (end : Option ServeEnd) (old new : Sockets) : Type 0 where
  pub others : (other : ℕ) → other ≢ place → unsent new other ≡ unsent old other
  pub here : (before after : List ℕ) → unsent old place ≡ Some before → unsent new place ≡ Some after
      → (sent : List ℕ) × (before ++ text ≡ sent ++ after) × (is_none end ≡ true → sent ≡ [])

-- what a driver does that is told what became of what it had said, of the connection at this place
abbrev pub Hears : (told : ℕ) → (old : Sockets) → Done → (text : List ℕ) → (new : Sockets) → Type 0
Hears told old (Took key) text new = AllStay old new
Hears told old (Turned key end due is_idle) text new = PutsText told text end old new
Hears told old Nothing text new = SendTheSame old new
