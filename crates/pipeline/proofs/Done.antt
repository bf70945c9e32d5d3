-- What jobs did, one after the other, as what all threads of a kind did.
-- For the contract of running::run_over.
use Rattle.std.proofs.Common.{◌≡◌, ℕ, ◌+◌, Bool, List, [], ◌∷◌, map, All, ap, subst, ◌∙◌}
use Rattle.std.proofs.lemmas.List.Elements.{All-head, All-tail}
use Rattle.job_threads.specs.Jobs.{HaveDone}
use Rattle.otlp_types.specs.declared.arrival.Item.{Item}
use Rattle.lane_queue.specs.Ends.{EndState}
use Rattle.lane_seq.specs.Pushes.{LaneState}
use Rattle.lane_worker.specs.Serving.{LaneAt}
use Rattle.journal_theory.specs.Journal.{Settings}
use Rattle.run_weave.specs.Jobs.{LaneDid, ShardDid}
use Rattle.run_weave.specs.Workers.{zeros, LaneOut, ShardIn, ShardOut, LanesDid, ShardsDid}
use Rattle.pipeline.specs.Made.{NumberedFrom}

module _ {F J L : Type 0} (serves : ℕ → F → LaneAt → F → LaneAt → Bool → Type 0) (keeps_doubles : Bool) (capacity : ℕ)
    (number_of : J → ℕ) (acceptor_of : J → F) (lane_of : J → LaneState (EndState Item)) (out_of : L → LaneOut) (did : J → L → Type 0)
    (tells : (j : J) (l : L) → did j l → LaneDid serves capacity (number_of j) (acceptor_of j) (lane_of j) zeros (out_of l).senders (out_of l).counted (out_of l).is_full) where
  -- the lane is new, keeps doubles or not, and has the job's number
  abbrev pub IsNewLane : J → Type 0
  IsNewLane j = ((lane_of j).number ≡ number_of j) × ((lane_of j).connected ≡ 0) × ((lane_of j).keeps_doubles ≡ keeps_doubles)

  pub lanes_did : (number : ℕ) (jobs : List J) (lefts : List L) → NumberedFrom number (map number_of jobs) → All IsNewLane jobs → HaveDone did jobs lefts
      → LanesDid serves keeps_doubles capacity number (map acceptor_of jobs) (map (λ (j : J). (lane_of j).ports) jobs) (map out_of lefts)
  lanes_did number [] [] numbers new done = tt
  lanes_did number [] (l ∷ lefts) numbers new done = absurd done
  lanes_did number (j ∷ jobs) [] numbers new done = absurd done
  lanes_did number (j ∷ jobs) (l ∷ lefts) numbers new done = (
    subst (λ n. LaneDid serves capacity n (acceptor_of j) (record { number = n; connected = 0; ports = (lane_of j).ports; keeps_doubles = keeps_doubles }) zeros out.senders out.counted out.is_full) numbers.0
        (subst (λ (z : LaneState (EndState Item)). LaneDid serves capacity (number_of j) (acceptor_of j) z zeros out.senders out.counted out.is_full) same (tells j l done.0)),
    lanes_did (number + 1) jobs lefts numbers.1 (All-tail IsNewLane j jobs new) done.1,
  )
    where
      out : LaneOut
      out = out_of l

      head : IsNewLane j
      head = All-head IsNewLane j jobs new

      same : lane_of j ≡ record { number = number_of j; connected = 0; ports = (lane_of j).ports; keeps_doubles = keeps_doubles }
      same =
          ap (λ (n : ℕ). record { number = n; connected = (lane_of j).connected; ports = (lane_of j).ports; keeps_doubles = (lane_of j).keeps_doubles }) head.0
          ∙ (ap (λ (k : ℕ). record { number = number_of j; connected = k; ports = (lane_of j).ports; keeps_doubles = (lane_of j).keeps_doubles }) head.1
          ∙ ap (λ (keeps : Bool). record { number = number_of j; connected = 0; ports = (lane_of j).ports; keeps_doubles = keeps }) head.2)

module _ {J L : Type 0} (capacity : ℕ) (s : Settings) (number_of : J → ℕ) (given_of : J → ShardIn) (settings_of : J → Settings) (out_of : L → ShardOut) (did : J → L → Type 0)
    (tells : (j : J) (l : L) → did j l → ShardDid capacity (number_of j) (settings_of j) (given_of j).seat (given_of j).receiver (given_of j).sender zeros (out_of l).seat (out_of l).receiver (out_of l).sender (out_of l).counted (out_of l).is_full) where
  abbrev pub IsNewShard : J → Type 0
  IsNewShard j = settings_of j ≡ s

  pub shards_did : (number : ℕ) (jobs : List J) (lefts : List L) → NumberedFrom number (map number_of jobs) → All IsNewShard jobs → HaveDone did jobs lefts → ShardsDid capacity s number (map given_of jobs) (map out_of lefts)
  shards_did number [] [] numbers new done = tt
  shards_did number [] (l ∷ lefts) numbers new done = absurd done
  shards_did number (j ∷ jobs) [] numbers new done = absurd done
  shards_did number (j ∷ jobs) (l ∷ lefts) numbers new done = (
    subst (λ n. ShardDid capacity n s given.seat given.receiver given.sender zeros out.seat out.receiver out.sender out.counted out.is_full) numbers.0
        (subst (λ (z : Settings). ShardDid capacity (number_of j) z given.seat given.receiver given.sender zeros out.seat out.receiver out.sender out.counted out.is_full) head (tells j l done.0)),
    shards_did (number + 1) jobs lefts numbers.1 (All-tail IsNewShard j jobs new) done.1,
  )
    where
      given : ShardIn
      given = given_of j

      out : ShardOut
      out = out_of l

      head : IsNewShard j
      head = All-head IsNewShard j jobs new
