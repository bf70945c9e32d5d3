-- What is written piece by piece is what the definitions say.
-- For the contracts of `put_dropped`, `put_spans`, `put_backlog`, `put_history` and `status_text`.
use Rattle.std.proofs.Common.{◌≡◌, ◌++◌, ◌∷◌, ℕ, List, [], append_assoc, append-nil}
use Rattle.std.specs.Prelude.{codes, decimal, map}
use Rattle.span_ids.specs.declared.outcome.Reason.TheVariants.{InvalidId, QueueFull, NoMemory, Evicted, NotSampled, LateNotSampled, ExporterDown}
use Rattle.drop_ledger.specs.declared.count.Count.TheVariants.{Received, Handed, Dropped}
use Rattle.metrics_text.specs.Families.{number_of}
use Rattle.status_json.specs.declared.numbers.Status.{Status}
use Rattle.status_json.specs.Json.{array, member, object, quoted}
use Rattle.status_json.specs.Text.{columns, dropped_of, spans_of}

-- pieces in a row, whose first ones and those between stand for literals

seven-pieces : (k1 a k2 b k3 c k4 d between k5 e k6 f k7 g end : List ℕ)
    → (k1 ++ (a ++ (k2 ++ (b ++ (k3 ++ (c ++ (k4 ++ (d ++ between)))))))) ++ (k5 ++ (e ++ (k6 ++ (f ++ (k7 ++ (g ++ end))))))
    ≡ k1 ++ ((a ++ (k2 ++ (b ++ (k3 ++ (c ++ (k4 ++ (d ++ (between ++ (k5 ++ (e ++ (k6 ++ (f ++ (k7 ++ (g ++ [])))))))))))))) ++ end)
seven-pieces k1 a k2 b k3 c k4 d between k5 e k6 f k7 g end = simp (append_assoc, append-nil)

four-pieces : (k1 a k2 b k3 c k4 d end : List ℕ)
    → (k1 ++ (a ++ (k2 ++ (b ++ k3)))) ++ (c ++ (k4 ++ (d ++ end))) ≡ k1 ++ ((a ++ (k2 ++ (b ++ (k3 ++ (c ++ (k4 ++ (d ++ []))))))) ++ end)
four-pieces k1 a k2 b k3 c k4 d end = simp (append_assoc, append-nil)

three-pieces : (k1 a k2 b k3 c inner end : List ℕ)
    → (k1 ++ (a ++ (k2 ++ (b ++ k3)))) ++ (c ++ (inner ++ end)) ≡ k1 ++ ((a ++ (k2 ++ (b ++ (k3 ++ ((c ++ inner) ++ []))))) ++ end)
three-pieces k1 a k2 b k3 c inner end = simp (append_assoc, append-nil)

four-pieces-in-a-line : (k1 a k2 b k3 c k4 d end feed : List ℕ)
    → (k1 ++ (a ++ k2)) ++ (b ++ (k3 ++ (c ++ (k4 ++ (d ++ (end ++ feed)))))) ≡ k1 ++ (((a ++ (k2 ++ (b ++ (k3 ++ (c ++ (k4 ++ (d ++ []))))))) ++ end) ++ feed)
four-pieces-in-a-line k1 a k2 b k3 c k4 d end feed = simp (append_assoc, append-nil)

four-in-a-row : (k1 a k2 b k3 c k4 d end : List ℕ)
    → k1 ++ (a ++ (k2 ++ (b ++ (k3 ++ (c ++ (k4 ++ (d ++ end))))))) ≡ k1 ++ ((a ++ (k2 ++ (b ++ (k3 ++ (c ++ (k4 ++ (d ++ []))))))) ++ end)
four-in-a-row k1 a k2 b k3 c k4 d end = simp (append_assoc, append-nil)

-- of texts of numbers

dropped-of-texts : (a b c d e f g : List ℕ)
    → (codes "{\"invalid_id\":" ++ (a ++ (codes ",\"queue_full\":" ++ (b ++ (codes ",\"no_memory\":" ++ (c ++ (codes ",\"evicted\":" ++ (d ++ codes ","))))))))
    ++ (codes "\"not_sampled\":" ++ (e ++ (codes ",\"late_not_sampled\":" ++ (f ++ (codes ",\"exporter_down\":" ++ (g ++ codes "}"))))))
    ≡ object
    (member (codes "invalid_id") a ∷ member (codes "queue_full") b ∷ member (codes "no_memory") c ∷ member (codes "evicted") d
    ∷ member (codes "not_sampled") e ∷ member (codes "late_not_sampled") f ∷ member (codes "exporter_down") g ∷ [])
dropped-of-texts a b c d e f g =
    seven-pieces (codes "{\"invalid_id\":") a (codes ",\"queue_full\":") b (codes ",\"no_memory\":") c (codes ",\"evicted\":") d (codes ",")
    (codes "\"not_sampled\":") e (codes ",\"late_not_sampled\":") f (codes ",\"exporter_down\":") g (codes "}")

spans-of-texts : (received handed dropped waiting : List ℕ)
    → (codes "{\"received\":" ++ (received ++ (codes ",\"handed\":" ++ (handed ++ codes ",\"dropped\":"))))
    ++ (dropped ++ (codes ",\"waiting\":" ++ (waiting ++ codes "}")))
    ≡ object (member (codes "received") received ∷ member (codes "handed") handed ∷ member (codes "dropped") dropped ∷ member (codes "waiting") waiting ∷ [])
spans-of-texts received handed dropped waiting =
    four-pieces (codes "{\"received\":") received (codes ",\"handed\":") handed (codes ",\"dropped\":") dropped (codes ",\"waiting\":") waiting (codes "}")

pub history-of-texts : (every rows : List ℕ)
    → (codes "{\"every_ms\":" ++ (every ++ (codes ",\"columns\":" ++ (array (map quoted columns) ++ codes ",\"rows\":["))))
    ++ (rows ++ codes "]}")
    ≡ object (member (codes "every_ms") every ∷ member (codes "columns") (array (map quoted columns)) ∷ member (codes "rows") (codes "[" ++ (rows ++ codes "]")) ∷ [])
history-of-texts every rows =
    three-pieces (codes "{\"every_ms\":") every (codes ",\"columns\":") (array (map quoted columns)) (codes ",\"rows\":[") rows (codes "]") (codes "}")

pub backlog-of-texts : (waiting under_way failed_tries given_up : List ℕ)
    → codes "{\"waiting_spans\":" ++ (waiting ++ (codes ",\"under_way_s\":" ++ (under_way ++ (codes ",\"failed_tries\":" ++ (failed_tries ++ (codes ",\"given_up_batches\":" ++ (given_up ++ codes "}")))))))
    ≡ object (member (codes "waiting_spans") waiting ∷ member (codes "under_way_s") under_way ∷ member (codes "failed_tries") failed_tries ∷ member (codes "given_up_batches") given_up ∷ [])
backlog-of-texts waiting under_way failed_tries given_up =
    four-in-a-row (codes "{\"waiting_spans\":") waiting (codes ",\"under_way_s\":") under_way (codes ",\"failed_tries\":") failed_tries (codes ",\"given_up_batches\":") given_up (codes "}")

pub status-of-texts : (now spans export history : List ℕ)
    → (codes "{\"now_ms\":" ++ (now ++ codes ",\"spans\":")) ++ (spans ++ (codes ",\"export\":" ++ (export ++ (codes ",\"history\":" ++ (history ++ codes "}\n")))))
    ≡ object (member (codes "now_ms") now ∷ member (codes "spans") spans ∷ member (codes "export") export ∷ member (codes "history") history ∷ []) ++ codes "\n"
status-of-texts now spans export history =
    four-pieces-in-a-line (codes "{\"now_ms\":") now (codes ",\"spans\":") spans (codes ",\"export\":") export (codes ",\"history\":") history (codes "}") (codes "\n")

-- of the numbers themselves

pub dropped-told : (report : List ℕ) (a b c d e f g : ℕ) → a ≡ number_of report (Dropped InvalidId) → b ≡ number_of report (Dropped QueueFull) → c ≡ number_of report (Dropped NoMemory)
    → d ≡ number_of report (Dropped Evicted) → e ≡ number_of report (Dropped NotSampled) → f ≡ number_of report (Dropped LateNotSampled) → g ≡ number_of report (Dropped ExporterDown)
    → (codes "{\"invalid_id\":" ++ (decimal a ++ (codes ",\"queue_full\":" ++ (decimal b ++ (codes ",\"no_memory\":" ++ (decimal c ++ (codes ",\"evicted\":" ++ (decimal d ++ codes ","))))))))
    ++ (codes "\"not_sampled\":" ++ (decimal e ++ (codes ",\"late_not_sampled\":" ++ (decimal f ++ (codes ",\"exporter_down\":" ++ (decimal g ++ codes "}"))))))
    ≡ dropped_of report
dropped-told report a b c d e f g is-a is-b is-c is-d is-e is-f is-g =
    rw (is-a, is-b, is-c, is-d, is-e, is-f, is-g)
    (dropped-of-texts (decimal (number_of report (Dropped InvalidId))) (decimal (number_of report (Dropped QueueFull))) (decimal (number_of report (Dropped NoMemory)))
    (decimal (number_of report (Dropped Evicted))) (decimal (number_of report (Dropped NotSampled))) (decimal (number_of report (Dropped LateNotSampled)))
    (decimal (number_of report (Dropped ExporterDown))))

pub spans-told : (status : Status) (received handed : ℕ) → received ≡ number_of status.report Received → handed ≡ number_of status.report Handed
    → (codes "{\"received\":" ++ (decimal received ++ (codes ",\"handed\":" ++ (decimal handed ++ codes ",\"dropped\":"))))
    ++ (dropped_of status.report ++ (codes ",\"waiting\":" ++ (decimal status.waiting ++ codes "}")))
    ≡ spans_of status
spans-told status received handed is-received is-handed =
    rw (is-received, is-handed)
    (spans-of-texts (decimal (number_of status.report Received)) (decimal (number_of status.report Handed)) (dropped_of status.report) (decimal status.waiting))
