-- Worked rows of when a lane takes a connection, which leave, and what a look comes to: by computation.
-- No clause needs them: they show the definitions, which code and contracts follow.
use Rattle.std.proofs.Common.{◌≡◌, ◌∷◌, [], refl}
use Rattle.std.specs.Prelude.{codes}
use Rattle.std.specs.Prelude.{true, false, Some, None, map}
use Rattle.lane_turns.specs.declared.table.Leaving.TheVariants.{ReadFailed, WriteFailed}
use Rattle.lane_driver.specs.declared.link.Phase.TheVariants.{Serving, Closing, Lingering}
use Rattle.lane_driver.specs.declared.link.Looked.TheVariants.{Waits, Over, Leaves, HasTurn}
use Rattle.lane_driver.specs.declared.rounds.Sending.TheVariants.{Now, Later, Never}
use Rattle.lane_driver.specs.Rounds.{after_commit, sending, starts}
use Rattle.lane_driver.specs.Looks.{looked, since_flushed, since_put}
use Rattle.lane_driver.specs.Traffic.{counted_as}
use Rattle.lane_driver.specs.declared.traffic.TrafficEvent.TheVariants.{Came, Went, ClosesIdle, LacksFile}
use Rattle.lane_driver.specs.declared.traffic.TrafficCount.TheVariants.{Received, Sent, ClosedIdle, LackedFile}
use Rattle.lane_driver.specs.Taking.{leaves_by, taken_from}

-- with the fewest, an eighth more, three more than that, and many more
taken : taken_from 8 8 100 ∷ taken_from 9 8 100 ∷ taken_from 12 8 100 ∷ taken_from 20 8 100 ∷ [] ≡ 100 ∷ 100 ∷ 124 ∷ 132 ∷ []
taken = refl

leaving : leaves_by 5000 ≡ 64000
leaving = refl

-- more is put behind a rest, and where nothing was left
standing_still : since_put (codes "ab") 3 7 ∷ since_put [] 3 7 ∷ [] ≡ 3 ∷ 7 ∷ []
standing_still = refl

-- of three bytes that were left one more, all and none were taken
flushed : since_flushed (codes "abc") (codes "bc") 3 7 ∷ since_flushed (codes "abc") [] 3 7 ∷ since_flushed (codes "abc") (codes "abc") 3 7 ∷ [] ≡ 7 ∷ 7 ∷ 3 ∷ []
flushed = refl

counted : counted_as (Came 5) ∷ counted_as (Went 6) ∷ counted_as ClosesIdle ∷ counted_as LacksFile ∷ [] ≡ (Received, 5) ∷ (Sent, 6) ∷ (ClosedIdle, 1) ∷ (LackedFile, 1) ∷ []
counted = refl

-- between requests, with all sent: before its time is over, then, and once the mark to stop is set
idle : looked Serving true true 10 9 None ∷ looked Serving true true 10 10 None ∷ looked Serving true true 10 9 (Some 50) ∷ [] ≡ Waits 10 ∷ HasTurn ∷ HasTurn ∷ []
idle = refl

-- between requests, with an answer to be sent: while the collector closes, once writes stood still, and once it is cut
idle_unsent : looked Serving true false 10 9 (Some 50) ∷ looked Serving true false 10 11 None ∷ looked Serving true false 10 51 (Some 50) ∷ [] ≡ Waits 10 ∷ Leaves WriteFailed ∷ Leaves ReadFailed ∷ []
idle_unsent = refl

-- within a request: once its time is over, as it is cut, and with answers unsent
under_way : looked Serving false true 10 12 None ∷ looked Serving false true 10 9 (Some 9) ∷ looked Serving false false 10 10 None ∷ [] ≡ HasTurn ∷ Leaves ReadFailed ∷ Leaves WriteFailed ∷ []
under_way = refl

-- behind its last answer: while the collector closes, once its time is over, as it is cut, and while it lingers
last : looked Closing false false 10 9 (Some 50) ∷ looked Closing true true 10 10 None ∷ looked (Lingering 3) true true 10 9 (Some 8) ∷ looked (Lingering 3) true true 10 9 None ∷ [] ≡ Waits 10 ∷ Over ∷ Over ∷ Waits 10 ∷ []
last = refl

-- in the third round, where the commit of the first has failed: answers that wait for none, and those of each round
rounds : map (sending (record { number = 3; lost = 1; waits = true })) (0 ∷ 1 ∷ 2 ∷ 3 ∷ []) ≡ Now ∷ Never ∷ Now ∷ Later ∷ []
rounds = refl

-- the first round is committed; that fails, and then the second one is
commits : after_commit true starts ∷ after_commit true (after_commit false starts) ∷ [] ≡ record { number = 2; lost = 0; waits = false } ∷ record { number = 3; lost = 1; waits = false } ∷ []
commits = refl
