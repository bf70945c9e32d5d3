-- Worked rows, computed: whole texts, and the one trace that is found. No two of the values of a text are the same.
-- They serve the definitions that `decisions_text` and `trace_text` promise.
use Rattle.std.proofs.Common.{◌≡◌, ◌++◌, ◌-◌, refl, ℕ, List, [], ◌∷◌, length, take}
use Rattle.std.specs.Prelude.{Some, None, codes}
use Rattle.std.specs.Fmt.{digits}
use Rattle.hex.specs.Hex.{encode_with}
use Rattle.json.specs.Print.{escape_byte, print_from}
use Rattle.span_ids.specs.declared.outcome.Verdict.TheVariants as verdict
use Rattle.decision_line.specs.declared.decision.DueCause.TheVariants.{Wait, RootWait, Size, Close}
use Rattle.decision_line.specs.declared.decision.Said.TheVariants.{Sampled, NotSampled, InvertedSampled, InvertedNotSampled, Dropped, NotAsked}
use Rattle.decision_line.specs.declared.held.TraceHeld.TheVariants.{Waiting, Decided as HeldDecided, Remembered, Unknown}
use Rattle.decision_line.specs.Line.{line_of}
use Rattle.decision_json.specs.declared.news.TraceNews.{TraceNews}
use Rattle.decision_json.specs.declared.news.TraceNews.TheVariants.{Decided, Evicted}
use Rattle.decision_json.specs.Value.{decisions_value, trace_value}

names : List (List ℕ)
names = codes "errors" ∷ codes "slow" ∷ codes "a \"rest\"" ∷ []

first_id : List ℕ
first_id = 91 ∷ 142 ∷ 255 ∷ 247 ∷ 152 ∷ 3 ∷ 129 ∷ 4 ∷ 210 ∷ 105 ∷ 182 ∷ 51 ∷ 130 ∷ 63 ∷ 198 ∷ 12 ∷ []

second_id : List ℕ
second_id = 0 ∷ 1 ∷ 2 ∷ 3 ∷ 4 ∷ 5 ∷ 6 ∷ 7 ∷ 8 ∷ 9 ∷ 10 ∷ 11 ∷ 12 ∷ 13 ∷ 14 ∷ 15 ∷ []

-- the second of three policies decided, and nothing is kept of what the third said
by_second : TraceNews
by_second = Decided (record { trace = first_id; moment = 1700000030000; opened = 1699999999877; spans = 12; verdict = verdict.Sampled; cause = RootWait; decider = Some 1 }) (NotSampled ∷ Sampled ∷ Dropped ∷ []) 2

-- none decided, and the clock went back
by_none : TraceNews
by_none = Decided (record { trace = second_id; moment = 1000; opened = 1001; spans = 7; verdict = verdict.NotSampled; cause = Wait; decider = None }) (InvertedSampled ∷ InvertedNotSampled ∷ Dropped ∷ NotAsked ∷ []) 4

left : TraceNews
left = Evicted (record { trace = second_id; moment = 900; spans = 3 })

of_second : List ℕ
of_second =
    codes "{\"trace_id\":\"5b8efff798038104d269b633823fc60c\",\"state\":\"decided\",\"decided_ms\":1700000030000,\"verdict\":\"kept\",\"because\":\"policy\",\"policy\":\"slow\",\"spans\":12,\"wait_ms\":30123,\"ended_wait\":\"root\","
    ++ codes "\"answers\":[{\"policy\":\"errors\",\"answer\":\"not_sample\"},{\"policy\":\"slow\",\"answer\":\"sample\"},{\"policy\":\"a \\\"rest\\\"\",\"answer\":\"not_asked\"}]}"

of_none : List ℕ
of_none =
    codes "{\"trace_id\":\"000102030405060708090a0b0c0d0e0f\",\"state\":\"decided\",\"decided_ms\":1000,\"verdict\":\"not_kept\",\"because\":\"none_agreed\",\"policy\":null,\"spans\":7,\"wait_ms\":0,\"ended_wait\":\"wait\","
    ++ codes "\"answers\":[{\"policy\":\"errors\",\"answer\":\"inverted_sample\"},{\"policy\":\"slow\",\"answer\":\"inverted_not_sample\"},{\"policy\":\"a \\\"rest\\\"\",\"answer\":\"drop\"}]}"

three : line_of (decisions_value 1700000031111 1000 names (by_second ∷ by_none ∷ left ∷ []))
    ≡ codes "{\"now_ms\":1700000031111,\"remembers\":1000,\"decisions\":[" ++ (of_second ++ (codes "," ++ (of_none
    ++ codes ",{\"trace_id\":\"000102030405060708090a0b0c0d0e0f\",\"state\":\"evicted\",\"decided_ms\":900,\"spans\":3}]}\n")))
unfolding digits encode_with escape_byte print_from names first_id second_id by_second by_none left of_second of_none
three = refl

nothing : line_of (decisions_value 18446744073709551615 2 names []) ≡ codes "{\"now_ms\":18446744073709551615,\"remembers\":2,\"decisions\":[]}\n"
unfolding digits encode_with escape_byte print_from
nothing = refl

-- too big, so that no policy was asked; and decided at the close by one that isn't there
without_policies : line_of
    (decisions_value 5 6 []
    (Decided (record { trace = first_id; moment = 52; opened = 31; spans = 1; verdict = verdict.NotSampled; cause = Size; decider = None }) [] 0
    ∷ Decided (record { trace = second_id; moment = 80; opened = 71; spans = 4; verdict = verdict.Sampled; cause = Close; decider = Some 0 }) [] 0 ∷ []))
    ≡ codes "{\"now_ms\":5,\"remembers\":6,\"decisions\":["
    ++ codes "{\"trace_id\":\"5b8efff798038104d269b633823fc60c\",\"state\":\"decided\",\"decided_ms\":52,\"verdict\":\"not_kept\",\"because\":\"too_big\",\"policy\":null,\"spans\":1,\"wait_ms\":21,\"ended_wait\":\"size\",\"answers\":[]},"
    ++ codes "{\"trace_id\":\"000102030405060708090a0b0c0d0e0f\",\"state\":\"decided\",\"decided_ms\":80,\"verdict\":\"kept\",\"because\":\"policy\",\"policy\":null,\"spans\":4,\"wait_ms\":9,\"ended_wait\":\"close\",\"answers\":[]}]}\n"
unfolding digits encode_with escape_byte print_from first_id second_id
without_policies = refl

-- the text without its last byte
abbrev but_for_its_end : List ℕ → List ℕ
but_for_its_end text = take (length text - 1) text

-- the newest of a trace of which two are remembered, the other one, and one of which none is
found : line_of (trace_value names second_id (by_second ∷ by_none ∷ left ∷ []) (Some (HeldDecided verdict.NotSampled)))
    ≡ but_for_its_end of_none ++ codes ",\"held\":{\"state\":\"decided\",\"verdict\":\"not_kept\"}}\n"
unfolding digits encode_with escape_byte print_from names first_id second_id by_second by_none left of_none
found = refl

found_behind : line_of (trace_value names first_id (left ∷ by_none ∷ by_second ∷ []) (Some (Remembered verdict.Sampled)))
    ≡ but_for_its_end of_second ++ codes ",\"held\":{\"state\":\"remembered\",\"verdict\":\"kept\"}}\n"
unfolding digits encode_with escape_byte print_from names first_id second_id by_second by_none left of_second
found_behind = refl

found_evicted : line_of (trace_value names second_id (left ∷ by_none ∷ []) (Some (Waiting 1700000031234 11)))
    ≡ codes "{\"trace_id\":\"000102030405060708090a0b0c0d0e0f\",\"state\":\"evicted\",\"decided_ms\":900,\"spans\":3,\"held\":{\"state\":\"waiting\",\"since_ms\":1700000031234,\"spans\":11}}\n"
unfolding digits encode_with escape_byte print_from names second_id by_none left
found_evicted = refl

found_none : line_of (trace_value names (16 ∷ 17 ∷ 18 ∷ 19 ∷ 20 ∷ 21 ∷ 22 ∷ 23 ∷ 24 ∷ 25 ∷ 26 ∷ 27 ∷ 28 ∷ 29 ∷ 30 ∷ 31 ∷ []) (left ∷ by_second ∷ []) (Some Unknown))
    ≡ codes "{\"trace_id\":\"101112131415161718191a1b1c1d1e1f\",\"state\":\"unknown\",\"held\":{\"state\":\"unknown\"}}\n"
unfolding digits encode_with escape_byte print_from first_id second_id by_second left
found_none = refl

-- the shards haven't all answered yet
not_answered : line_of (trace_value [] second_id [] None) ≡ codes "{\"trace_id\":\"000102030405060708090a0b0c0d0e0f\",\"state\":\"unknown\",\"held\":null}\n"
unfolding digits encode_with escape_byte print_from second_id
not_answered = refl
