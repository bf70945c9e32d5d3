-- Worked rows, computed: the whole text of a comparison, the five numbers of an overlap, and the begin of a page.
-- They serve the definitions that `put_json` and `put_page` promise.
use Rattle.std.proofs.Common.{◌≡◌, ◌++◌, refl, ℕ, List, [], ◌∷◌, true, false}
use Rattle.std.specs.Prelude.{Some, None, codes}
use Rattle.std.specs.Fmt.{digits}
use Rattle.hex.specs.Hex.{encode_with}
use Rattle.json.specs.Print.{escape_byte, print_from}
use Rattle.span_ids.specs.declared.outcome.Verdict.TheVariants.{Sampled, NotSampled}
use Rattle.decision_line.specs.declared.decision.DueCause.TheVariants.{Wait, RootWait, Size, Close}
use Rattle.decision_line.specs.Line.{line_of}
use Rattle.run_comparison.specs.declared.end.HowEnded.TheVariants.{Decided, Evicted}
use Rattle.run_comparison.specs.Numbers.{zeros}
use Rattle.run_comparison.specs.Run.{Run}
use Rattle.run_comparison.specs.Timeline.{least_doubling}
use Rattle.comparison_text.specs.Page.{page_of}
use Rattle.comparison_text.specs.Value.{comparison_value, overlap_value}

-- a trace that each run decided, the old one kept
first_id : List ℕ
first_id = 91 ∷ 142 ∷ 255 ∷ 247 ∷ 152 ∷ 3 ∷ 129 ∷ 4 ∷ 210 ∷ 105 ∷ 182 ∷ 51 ∷ 130 ∷ 63 ∷ 198 ∷ 12 ∷ []

-- one that the old run alone decided; the new one's table had no room for all
second_id : List ℕ
second_id = 0 ∷ 1 ∷ 2 ∷ 3 ∷ 4 ∷ 5 ∷ 6 ∷ 7 ∷ 8 ∷ 9 ∷ 10 ∷ 11 ∷ 12 ∷ 13 ∷ 14 ∷ 15 ∷ []

-- one that the new run alone decided, and kept
third_id : List ℕ
third_id = 16 ∷ 17 ∷ 18 ∷ 19 ∷ 20 ∷ 21 ∷ 22 ∷ 23 ∷ 24 ∷ 25 ∷ 26 ∷ 27 ∷ 28 ∷ 29 ∷ 30 ∷ 31 ∷ []

-- one that the old run kept by a decision, and then evicted
fourth_id : List ℕ
fourth_id = 160 ∷ 161 ∷ 162 ∷ 163 ∷ 164 ∷ 165 ∷ 166 ∷ 167 ∷ 168 ∷ 169 ∷ 170 ∷ 171 ∷ 172 ∷ 173 ∷ 174 ∷ 175 ∷ []

-- one that the new run alone decided, and kept not
fifth_id : List ℕ
fifth_id = 255 ∷ 254 ∷ 253 ∷ 252 ∷ 251 ∷ 250 ∷ 249 ∷ 248 ∷ 247 ∷ 246 ∷ 245 ∷ 244 ∷ 243 ∷ 242 ∷ 241 ∷ 240 ∷ []

old_run : Run
old_run = record {
  names = codes "errors" ∷ codes "a \"rest\"" ∷ [];
  traces = record {
    ends =
        (first_id, record { how = Decided Sampled RootWait (Some 0); spans = 12; moment = 1700000030000; kept = true })
        ∷ (second_id, record { how = Decided NotSampled Close None; spans = 13; moment = 900; kept = false })
        ∷ (fourth_id, record { how = Evicted; spans = 15; moment = 901; kept = true })
        ∷ [];
    beyond = 0;
  };
  policies = record { by_place = record { traces = 21; spans = 22; bytes = 23 } ∷ record { traces = 24; spans = 25; bytes = 26 } ∷ []; without = record { traces = 27; spans = 28; bytes = 29 } };
  services = record { names = codes "shop" ∷ codes "<b>" ∷ []; spans = 31 ∷ 32 ∷ 0 ∷ []; beyond = 33 };
  steps = record { any = true; from = 5000; to = 7999; width = 1000; counts = 41 ∷ 42 ∷ 43 ∷ 0 ∷ 0 ∷ [] };
}

-- its first policy's name stands in it alone, its second one's in both, and its third one's name stands twice
new_run : Run
new_run = record {
  names = codes "slow" ∷ codes "errors" ∷ codes "errors" ∷ [];
  traces = record {
    ends =
        (third_id, record { how = Decided NotSampled Close (Some 0); spans = 1; moment = 52; kept = true })
        ∷ (first_id, record { how = Decided NotSampled Wait (Some 7); spans = 14; moment = 1000; kept = false })
        ∷ (fifth_id, record { how = Decided NotSampled Wait None; spans = 17; moment = 903; kept = false })
        ∷ (fourth_id, record { how = Decided NotSampled Size None; spans = 16; moment = 902; kept = false })
        ∷ [];
    beyond = 5;
  };
  policies = record {
    by_place = record { traces = 51; spans = 52; bytes = 53 } ∷ record { traces = 54; spans = 55; bytes = 56 } ∷ record { traces = 57; spans = 58; bytes = 59 } ∷ [];
    without = record { traces = 61; spans = 62; bytes = 63 };
  };
  services = record { names = codes "<b>" ∷ codes "cart" ∷ []; spans = 71 ∷ 72 ∷ 0 ∷ []; beyond = 73 };
  steps = record { any = true; from = 6500; to = 8000; width = 1000; counts = 81 ∷ 82 ∷ 83 ∷ 0 ∷ 0 ∷ [] };
}

of_runs : List ℕ
of_runs =
    codes "{\"version\":\"0.1.2\","
    ++ codes "\"old\":{\"name\":\"old.toml\",\"kept\":{\"traces\":72,\"spans\":75,\"bytes\":78},\"without_policy\":{\"traces\":27,\"spans\":28,\"bytes\":29},\"traces\":3,\"ends_beyond\":0,\"spans_of_other_services\":33},"
    ++ codes "\"new\":{\"name\":\"the \\\"new\\\"\",\"kept\":{\"traces\":223,\"spans\":227,\"bytes\":231},\"without_policy\":{\"traces\":61,\"spans\":62,\"bytes\":63},\"traces\":4,\"ends_beyond\":5,\"spans_of_other_services\":73},"
    ++ codes "\"traces\":{\"both\":0,\"only_old\":2,\"only_new\":1,\"none\":1,\"unknown\":1},"
    ++ codes "\"over_time\":{\"from_ms\":5000,\"every_ms\":1000,\"old\":[41,42,43,0],\"new\":[0,81,82,83]},"

of_rows : List ℕ
of_rows =
    codes "\"policies\":[{\"name\":\"errors\",\"old\":{\"traces\":21,\"spans\":22,\"bytes\":23},\"new\":{\"traces\":54,\"spans\":55,\"bytes\":56}},{\"name\":\"a \\\"rest\\\"\",\"old\":{\"traces\":24,\"spans\":25,\"bytes\":26},\"new\":null},"
    ++ codes "{\"name\":\"slow\",\"old\":null,\"new\":{\"traces\":51,\"spans\":52,\"bytes\":53}},{\"name\":\"errors\",\"old\":null,\"new\":{\"traces\":57,\"spans\":58,\"bytes\":59}}],"
    ++ codes "\"services\":[{\"name\":\"shop\",\"old\":31,\"new\":0},{\"name\":\"<b>\",\"old\":32,\"new\":71},{\"name\":\"cart\",\"old\":0,\"new\":72}],"

of_traces : List ℕ
of_traces =
    codes "\"differ\":[{\"trace_id\":\"5b8efff798038104d269b633823fc60c\",\"old\":{\"verdict\":\"sampled\",\"policy\":\"errors\",\"by\":\"rootWait\",\"spans\":12,\"moment_ms\":1700000030000,\"kept\":true},"
    ++ codes "\"new\":{\"verdict\":\"notSampled\",\"policy\":null,\"by\":\"wait\",\"spans\":14,\"moment_ms\":1000,\"kept\":false}},"
    ++ codes "{\"trace_id\":\"a0a1a2a3a4a5a6a7a8a9aaabacadaeaf\",\"old\":{\"verdict\":\"evicted\",\"policy\":null,\"by\":null,\"spans\":15,\"moment_ms\":901,\"kept\":true},"
    ++ codes "\"new\":{\"verdict\":\"notSampled\",\"policy\":null,\"by\":\"size\",\"spans\":16,\"moment_ms\":902,\"kept\":false}},"
    ++ codes "{\"trace_id\":\"101112131415161718191a1b1c1d1e1f\",\"old\":null,\"new\":{\"verdict\":\"notSampled\",\"policy\":\"slow\",\"by\":\"close\",\"spans\":1,\"moment_ms\":52,\"kept\":true}}]}\n"

whole : line_of (comparison_value (codes "0.1.2") (codes "old.toml") (codes "the \"new\"") old_run new_run) ≡ of_runs ++ (of_rows ++ of_traces)
unfolding digits encode_with escape_byte print_from zeros least_doubling first_id second_id third_id fourth_id fifth_id old_run new_run of_runs of_rows of_traces
whole = refl

five_numbers : line_of (overlap_value (record { both = 2; only_old = 3; only_new = 5; none = 7; unknown = 18446744073709551615 }))
    ≡ codes "{\"both\":2,\"only_old\":3,\"only_new\":5,\"none\":7,\"unknown\":18446744073709551615}\n"
unfolding digits escape_byte print_from
five_numbers = refl

page : page_of (codes "<p>") (codes "{\"a\":\"</p><\"}") (codes "<b>") ≡ codes "<p>{\"a\":\"\\u003c/p>\\u003c\"}<b>"
page = refl
