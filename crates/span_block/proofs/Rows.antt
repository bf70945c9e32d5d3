-- Rows of the definition, by computation: what Google's parser writes of the same spans.
use Rattle.std.specs.Prelude.{◌≡◌, ◌∷◌, [], Some, None, false, pos, negsuc, refl}
use lib.Ieee.{to_bits}
use Rattle.std.specs.Float.{fin}
use Rattle.hex.specs.Hex.{decode_pairs}
use Rattle.protobuf_writer.specs.Writing.{written, message_bytes}
use Rattle.otlp_types.specs.Empty.{plain_span}
use Rattle.otlp_types.specs.declared.value.AnyValue.{Empty, Str, Bool as Truth, Int, Double, Array, KvList}
use Rattle.otlp_protobuf_encode.specs.Writing.{hex_of}
use Rattle.otlp_protobuf_encode.proofs.Values.{fields-Empty, fields-Str, fields-Truth, fields-Int, fields-Double, fields-Array, fields-KvList, fields-pair}
use Rattle.span_block.specs.Block.{block_of}

-- of each field a value of its own
whole_span :
    block_of (record {
      ids = Some (record { trace = 1 ∷ 2 ∷ 3 ∷ 4 ∷ 5 ∷ 6 ∷ 7 ∷ 8 ∷ 9 ∷ 10 ∷ 11 ∷ 12 ∷ 13 ∷ 14 ∷ 15 ∷ 16 ∷ []; span = 1 ∷ 2 ∷ 3 ∷ 4 ∷ 5 ∷ 6 ∷ 7 ∷ 8 ∷ []; parent = Some (9 ∷ 10 ∷ 11 ∷ 12 ∷ 13 ∷ 14 ∷ 15 ∷ 16 ∷ []) });
      trace_state = 97 ∷ 61 ∷ 49 ∷ [];
      flags = 257;
      name = 71 ∷ 69 ∷ 84 ∷ [];
      kind = pos 3;
      start_time_unix_nano = 258;
      end_time_unix_nano = 772;
      attributes = record { key = 107 ∷ []; value = Str (118 ∷ []) } ∷ record { key = 110 ∷ []; value = Int (pos 300) } ∷ [];
      dropped_attributes_count = 1;
      events = record { time_unix_nano = 5; name = 101 ∷ []; attributes = []; dropped_attributes_count = 0 } ∷ [];
      dropped_events_count = 2;
      links = record { trace_id = 97 ∷ 98 ∷ 48 ∷ 49 ∷ []; span_id = 99 ∷ 100 ∷ []; trace_state = []; attributes = []; dropped_attributes_count = 0; flags = 7 } ∷ [];
      dropped_links_count = 200;
      status = record { message = 110 ∷ 111 ∷ []; code = pos 2 };
    })
    ≡ 10 ∷ 16 ∷ 1 ∷ 2 ∷ 3 ∷ 4 ∷ 5 ∷ 6 ∷ 7 ∷ 8 ∷ 9 ∷ 10 ∷ 11 ∷ 12 ∷ 13 ∷ 14 ∷ 15 ∷ 16 ∷ 18 ∷ 8 ∷ 1 ∷ 2 ∷ 3 ∷ 4 ∷ 5 ∷ 6 ∷ 7 ∷ 8 ∷ 26 ∷ 3 ∷ 97 ∷ 61 ∷ 49 ∷ 34 ∷ 8 ∷ 9 ∷ 10 ∷ 11 ∷ 12 ∷ 13 ∷ 14 ∷ 15 ∷ 16 ∷ 42 ∷ 3 ∷ 71 ∷ 69 ∷ 84 ∷ 48 ∷ 3 ∷ 57 ∷ 2 ∷ 1 ∷ 0 ∷ 0 ∷ 0 ∷ 0 ∷ 0 ∷ 0 ∷ 65 ∷ 4 ∷ 3 ∷ 0 ∷ 0 ∷ 0 ∷ 0 ∷ 0 ∷ 0 ∷ 74 ∷ 8 ∷ 10 ∷ 1 ∷ 107 ∷ 18 ∷ 3 ∷ 10 ∷ 1 ∷ 118 ∷ 74 ∷ 8 ∷ 10 ∷ 1 ∷ 110 ∷ 18 ∷ 3 ∷ 24 ∷ 172 ∷ 2 ∷ 80 ∷ 1 ∷ 90 ∷ 12 ∷ 9 ∷ 5 ∷ 0 ∷ 0 ∷ 0 ∷ 0 ∷ 0 ∷ 0 ∷ 0 ∷ 18 ∷ 1 ∷ 101 ∷ 96 ∷ 2 ∷ 106 ∷ 12 ∷ 10 ∷ 2 ∷ 171 ∷ 1 ∷ 18 ∷ 1 ∷ 205 ∷ 53 ∷ 7 ∷ 0 ∷ 0 ∷ 0 ∷ 112 ∷ 200 ∷ 1 ∷ 122 ∷ 6 ∷ 18 ∷ 2 ∷ 110 ∷ 111 ∷ 24 ∷ 2 ∷ 133 ∷ 1 ∷ 1 ∷ 1 ∷ 0 ∷ 0 ∷ []
unfolding written message_bytes hex_of decode_pairs
whole_span = simp (fields-pair, fields-Str, fields-Int)

-- attributes: no value, false, 1.0, [-1], { x: "" }
attributes_by_kind :
    block_of (record (plain_span None 0 0 0) {
      attributes = record { key = 97 ∷ []; value = Empty } ∷ record { key = 98 ∷ []; value = Truth false } ∷ record { key = 100 ∷ []; value = Double (fin false 1 (pos 0)) }
          ∷ record { key = 108 ∷ []; value = Array (Int (negsuc 0) ∷ []) } ∷ record { key = 109 ∷ []; value = KvList (record { key = 120 ∷ []; value = Str [] } ∷ []) } ∷ [];
    })
    ≡ 74 ∷ 3 ∷ 10 ∷ 1 ∷ 97 ∷ 74 ∷ 7 ∷ 10 ∷ 1 ∷ 98 ∷ 18 ∷ 2 ∷ 16 ∷ 0 ∷ 74 ∷ 14 ∷ 10 ∷ 1 ∷ 100 ∷ 18 ∷ 9 ∷ 33 ∷ 0 ∷ 0 ∷ 0 ∷ 0 ∷ 0 ∷ 0 ∷ 240 ∷ 63 ∷ 74 ∷ 20 ∷ 10 ∷ 1 ∷ 108 ∷ 18 ∷ 15 ∷ 42 ∷ 13 ∷ 10 ∷ 11 ∷ 24 ∷ 255 ∷ 255 ∷ 255 ∷ 255 ∷ 255 ∷ 255 ∷ 255 ∷ 255 ∷ 255 ∷ 1 ∷ 74 ∷ 16 ∷ 10 ∷ 1 ∷ 109 ∷ 18 ∷ 11 ∷ 50 ∷ 9 ∷ 10 ∷ 7 ∷ 10 ∷ 1 ∷ 120 ∷ 18 ∷ 2 ∷ 10 ∷ 0 ∷ []
unfolding written message_bytes to_bits
attributes_by_kind = simp (fields-pair, fields-Empty, fields-Str, fields-Truth, fields-Int, fields-Double, fields-Array, fields-KvList)

-- of nothing told no byte
empty_span : block_of (plain_span None 0 0 0) ≡ []
unfolding written message_bytes
empty_span = refl
