-- Worked rows, computed: the whole text of two statuses, the constants, and when a row is due.
-- They serve the definitions that `status_text` and `is_row_due` promise.
use Rattle.std.proofs.Common.{◌≡◌, ◌++◌, refl, [], ◌∷◌}
use Rattle.std.specs.Prelude.{Some, None, true, false, codes}
use Rattle.std.specs.Fmt.{digits}
use Rattle.status_json.specs.declared.due.TheConstants.{HISTORY_PACE, HISTORY_ROWS}
use Rattle.status_json.specs.Due.{is_row_due}
use Rattle.status_json.specs.Text.{status_text}

-- without a row
no_rows : status_text (record { now = 1795845109617; report = 1953 ∷ 217 ∷ 0 ∷ 0 ∷ 0 ∷ 0 ∷ 621 ∷ 0 ∷ 0 ∷ []; waiting = 1115; backlog = None }) []
    ≡ codes "{\"now_ms\":1795845109617,"
    ++ codes "\"spans\":{\"received\":1953,\"handed\":217,"
    ++ codes "\"dropped\":{\"invalid_id\":0,\"queue_full\":0,\"no_memory\":0,\"evicted\":0,\"not_sampled\":621,\"late_not_sampled\":0,\"exporter_down\":0},"
    ++ codes "\"waiting\":1115},\"export\":null,"
    ++ codes "\"history\":{\"every_ms\":10000,"
    ++ codes "\"columns\":[\"at_ms\",\"received\",\"handed\",\"invalid_id\",\"queue_full\",\"no_memory\",\"evicted\",\"not_sampled\",\"late_not_sampled\",\"exporter_down\"],"
    ++ codes "\"rows\":[]}}\n"
unfolding digits
no_rows = refl

-- two rows: no two numbers are the same, and the greatest is among them
two_rows : status_text (record { now = 18446744073709551615; report = 21 ∷ 302 ∷ 43 ∷ 5004 ∷ 65 ∷ 706 ∷ 87 ∷ 908 ∷ 19 ∷ []; waiting = 1200; backlog = Some (record { waiting = 1077; under_way = 23; failed_tries = 9; given_up = 410 }) })
    (record { at = 1795845105026; report = 17 ∷ 1 ∷ 2 ∷ 3 ∷ 4 ∷ 5 ∷ 6 ∷ 7 ∷ 8 ∷ [] } ∷ record { at = 1795845115030; report = 111 ∷ 112 ∷ 113 ∷ 0 ∷ 114 ∷ 115 ∷ 116 ∷ 117 ∷ 118 ∷ [] } ∷ [])
    ≡ codes "{\"now_ms\":18446744073709551615,"
    ++ codes "\"spans\":{\"received\":21,\"handed\":302,"
    ++ codes "\"dropped\":{\"invalid_id\":43,\"queue_full\":5004,\"no_memory\":65,\"evicted\":706,\"not_sampled\":87,\"late_not_sampled\":908,\"exporter_down\":19},"
    ++ codes "\"waiting\":1200},"
    ++ codes "\"export\":{\"waiting_spans\":1077,\"under_way_s\":23,\"failed_tries\":9,\"given_up_batches\":410},"
    ++ codes "\"history\":{\"every_ms\":10000,"
    ++ codes "\"columns\":[\"at_ms\",\"received\",\"handed\",\"invalid_id\",\"queue_full\",\"no_memory\",\"evicted\",\"not_sampled\",\"late_not_sampled\",\"exporter_down\"],"
    ++ codes "\"rows\":[[1795845105026,17,1,2,3,4,5,6,7,8],[1795845115030,111,112,113,0,114,115,116,117,118]]}}\n"
unfolding digits
two_rows = refl

pace : HISTORY_PACE ≡ 10000
pace = refl

most_rows : HISTORY_ROWS ≡ 60
most_rows = refl

due_where_none_was : is_row_due None 5 ≡ true
due_where_none_was = refl

not_due_a_millisecond_before : is_row_due (Some 1000) 10999 ≡ false
not_due_a_millisecond_before = refl

due_at_the_pace : is_row_due (Some 1000) 11000 ≡ true
due_at_the_pace = refl

not_due_at_once : is_row_due (Some 1000) 1000 ≡ false
not_due_at_once = refl

due_where_the_clock_went_back : is_row_due (Some 1000) 999 ≡ true
due_where_the_clock_went_back = refl
