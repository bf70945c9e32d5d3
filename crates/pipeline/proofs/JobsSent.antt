-- What each thread is given and leaves may go to another thread, by what it holds.
-- For the call of run_team in running::run_over.
use denote.RattleType.{RattleType}
use denote.Ref.{NamedLft, ShrRef}
use denote.Struct.Declared.{shape}
use denote.Struct.Field.{row_field}
use denote.Param.Send.{IsSend, IsSync, sendable, shr_send, recorded_send, struct_send}
use Rattle.std.proofs.Crossing as crossing
use Rattle.std.specs.contracts.alloc.Global as Heap
use Rattle.std.specs.contracts.impls.GlobalAllocator.TheImpl.{ghosts}
use Rattle.std.specs.contracts.sync.Arc as Arc
use Rattle.std.specs.contracts.vec.Vec as Vec
use Rattle.drop_ledger.proofs.report.Report.TheSendSync as report_sent
use Rattle.drop_ledger.specs.contracts.report.Report as report
use Rattle.lane_queue.proofs.ends.Sender.TheSendSync as sender_sent
use Rattle.lane_queue.proofs.bell.Bell.TheSendSync as bell_sent
use Rattle.lane_queue.proofs.calls.CallLog.TheLaws.TheKnot as calls_knot
use Rattle.lane_queue.proofs.ends.Outlet.TheSendSync as outlet_sent
use Rattle.lane_queue.proofs.sender_port.SenderPort.TheSendSync as port_sent
use Rattle.http_lane.proofs.answers.Answers.TheSendSync as answers_sent
use Rattle.http_lane.specs.contracts.answers.Answers as answers
use Rattle.lane_queue.proofs.brake.Brake.TheSendSync as brake_sent
use Rattle.lane_queue.specs.contracts.bell.Bell as bell
use Rattle.lane_queue.specs.contracts.brake.Brake as brake
use Rattle.lane_queue.specs.contracts.calls.CallLog as calls
use Rattle.lane_queue.specs.contracts.ends.Outlet as outlet
use Rattle.lane_queue.specs.contracts.ends.Sender as sender
use Rattle.lane_queue.specs.contracts.receiver.Receiver as receiver
use Rattle.lane_queue.specs.contracts.sender_port.SenderPort as port
use Rattle.lane_queue.specs.declared.rule.Room.{Ghosts}
use Rattle.lane_seq.proofs.lane.Lane.TheSendSync as lane_sent
use Rattle.lane_seq.specs.contracts.lane.Lane as lane
use Rattle.otlp_types.specs.contracts.arrival.Item as item
use Rattle.released_spans.specs.contracts.shipment.Shipment as shipment
use Rattle.shard_core.specs.contracts.shard.Shard as shard
use Rattle.shared_budget.proofs.budget_seat.BudgetSeat.TheSendSync as seat_sent
use Rattle.shared_budget.specs.contracts.budget_seat.BudgetSeat as seat
use Rattle.otlp_types.proofs.Sent.{item_send}
use Rattle.released_spans.proofs.Sent.{shipment_send}
use Rattle.shard_core.proofs.Sent.{shard_send}
use Rattle.pipeline.specs.contracts.lane_job.LaneJob as lane_job
use Rattle.pipeline.specs.contracts.lane_job.LaneLeft as lane_left
use Rattle.pipeline.specs.contracts.shard_job.ShardJob as shard_job
use Rattle.pipeline.specs.contracts.shard_job.ShardLeft as shard_left
use Rattle.pipeline.specs.contracts.ticker_job.TickerJob as ticker_job

-- a reference to what several threads may read
lent_field : (a : NamedLft) (T : RattleType) → IsSync T → IsSend (row_field (ShrRef a.mir a.lft T)).row
lent_field a T y = shr_send a.mir a.lft T y

-- the brake
brake_field : (a : NamedLft) → IsSend (row_field (ShrRef a.mir a.lft brake.the_row)).row
brake_field a = lent_field a brake.the_row brake_sent.the_sync

report_field : IsSend report.the_field.row
report_field = report_sent.the_send

bell_send : IsSend (Arc.the_row bell.the_row Heap.the_row ghosts)
bell_send = crossing.Arc-send bell.the_row bell_sent.the_send bell_sent.the_sync

-- a log of calls holds what owns nothing
log_send : IsSend calls.the_row
log_send = search (sendable, crossing.crosses, calls_knot.send-CallLog) depth 20

module _ (C : RattleType) (g : Ghosts C.Denot) where
  pub ends_send : IsSend (Vec.the_row (sender.the_row item.the_row C g) Heap.the_row ghosts)
  ends_send = crossing.Vec-send (sender.the_row item.the_row C g) (sender_sent.the_send item.the_row C g item_send)

  outlets_send : IsSend (Vec.the_row (outlet.the_row item.the_row C g) Heap.the_row ghosts)
  outlets_send = crossing.Vec-send (outlet.the_row item.the_row C g) (outlet_sent.the_send item.the_row C g item_send)

  receiver_field : IsSend (receiver.the_field item.the_row C g).row
  receiver_field = search (sendable, outlets_send, bell_send, log_send) depth 20

  sender_field : IsSend (sender.the_field shipment.the_row C g).row
  sender_field = sender_sent.the_send shipment.the_row C g shipment_send

module _ (a : NamedLft) (C R : RattleType) (g : Ghosts C.Denot) (y : IsSync R) where
  lane_field : IsSend (lane.the_field (port.the_row a item.the_row C R g)).row
  lane_field = lane_sent.the_send (port.the_row a item.the_row C R g) (port_sent.the_send a item.the_row C R g item_send y)

shard_field : IsSend shard.the_field.row
shard_field = shard_send

seat_field : (a : NamedLft) (R : RattleType) → IsSync R → IsSend (seat.the_field a R).row
seat_field a R y = seat_sent.the_send a R y

module _ (a : NamedLft) (F C G P M R : RattleType) (gC : Ghosts C.Denot) (f : IsSend F) (yG : IsSync G) (yP : IsSync P) (yM : IsSync M) (yR : IsSync R) where
  pub lane_job_send : IsSend (lane_job.the_row a F C G P M R gC)
  lane_job_send =
      let type = lane_job.the_type a F C G P M R gC in
      recorded_send _ _ _ type.to_one (struct_send (shape type) (lent_field a R yR, (search sendable, (search sendable, (f, (lane_field a C R gC yR, (ends_send C gC, (lent_field a G yG, (lent_field a P yP, (lent_field a M yM, (lent_field a answers.the_row answers_sent.the_sync, tt)))))))))))

module _ (a : NamedLft) (T C R : RattleType) (gC : Ghosts C.Denot) (t : IsSend T) (yR : IsSync R) where
  pub ticker_job_send : IsSend (ticker_job.the_row a T C R gC)
  ticker_job_send =
      let type = ticker_job.the_type a T C R gC in
      recorded_send _ _ _ type.to_one (struct_send (shape type) (lent_field a R yR, (search sendable, (t, (ends_send C gC, tt)))))

module _ (a : NamedLft) (C D G R : RattleType) (gC : Ghosts C.Denot) (gD : Ghosts D.Denot) (yG : IsSync G) (yR : IsSync R) where
  pub shard_job_send : IsSend (shard_job.the_row a C D G R gC gD)
  shard_job_send =
      let type = shard_job.the_type a C D G R gC gD in
      recorded_send _ _ _ type.to_one (struct_send (shape type) (lent_field a R yR, (search sendable, (shard_field, (seat_field a R yR, (receiver_field C gC, (sender_field D gD, (lent_field a G yG, (brake_field a, tt)))))))))

module _ (a : NamedLft) (C D R : RattleType) (gC : Ghosts C.Denot) (gD : Ghosts D.Denot) (yR : IsSync R) where
  pub shard_left_send : IsSend (shard_left.the_row a C D R gC gD)
  shard_left_send =
      let type = shard_left.the_type a C D R gC gD in
      recorded_send _ _ _ type.to_one (struct_send (shape type) (seat_field a R yR, (receiver_field C gC, (sender_field D gD, (report_field, (search sendable, tt))))))

module _ (C : RattleType) (gC : Ghosts C.Denot) where
  pub lane_left_send : IsSend (lane_left.the_row C gC)
  lane_left_send =
      let type = lane_left.the_type C gC in
      recorded_send _ _ _ type.to_one (struct_send (shape type) (ends_send C gC, (report_field, (search sendable, tt))))
