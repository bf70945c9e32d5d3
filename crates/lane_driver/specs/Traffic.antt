-- As what it counts that happens on connections.
use Rattle.std.specs.Prelude.{ℕ}
use Rattle.lane_driver.specs.declared.traffic.TrafficEvent.{TrafficEvent}
use Rattle.lane_driver.specs.declared.traffic.TrafficEvent.TheVariants.{Came, Went, ClosesIdle, LacksFile}
use Rattle.lane_driver.specs.declared.traffic.TrafficCount.{TrafficCount}
use Rattle.lane_driver.specs.declared.traffic.TrafficCount.TheVariants.{Received, Sent, ClosedIdle, LackedFile}

-- bytes by their number; a connection that is closed for another one, and one for which there is no file, once each
abbrev pub counted_as : TrafficEvent → TrafficCount × ℕ
counted_as (Came bytes) = (Received, bytes)
counted_as (Went bytes) = (Sent, bytes)
counted_as ClosesIdle = (ClosedIdle, 1)
counted_as LacksFile = (LackedFile, 1)
