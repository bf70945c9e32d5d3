-- Worked rows, computed: whole lines. No two of the values of a line are the same.
-- They serve the definitions that `put_decided`, `put_evicted` and `put_late` promise.
use Rattle.std.proofs.Common.{◌≡◌, ◌++◌, refl, [], ◌∷◌}
use Rattle.std.specs.Prelude.{Some, None, codes}
use Rattle.std.specs.Fmt.{digits}
use Rattle.hex.specs.Hex.{encode_with}
use Rattle.json.specs.Print.{escape_byte, print_from}
use Rattle.span_ids.specs.declared.outcome.Verdict.TheVariants as verdict
use Rattle.decision_line.specs.declared.decision.DueCause.TheVariants.{Wait, RootWait, Size, Close}
use Rattle.decision_line.specs.declared.decision.Said.TheVariants.{Sampled, NotSampled, InvertedSampled, InvertedNotSampled, Dropped, NotAsked}
use Rattle.decision_line.specs.Line.{decided_line, evicted_line, late_line}

-- the second of three policies decided, and nothing is said of the third
second_of_three : decided_line (codes "errors" ∷ codes "slow" ∷ codes "rest" ∷ []) (NotSampled ∷ Sampled ∷ [])
    (record { trace = 91 ∷ 142 ∷ 255 ∷ 247 ∷ 152 ∷ 3 ∷ 129 ∷ 4 ∷ 210 ∷ 105 ∷ 182 ∷ 51 ∷ 130 ∷ 63 ∷ 198 ∷ 12 ∷ []; moment = 1700000030000; opened = 1699999999877; spans = 12; verdict = verdict.Sampled; cause = Wait; decider = Some 1 })
    ≡ codes "{\"traceId\":\"5b8efff798038104d269b633823fc60c\",\"moment\":1700000030000,\"verdict\":\"sampled\",\"policy\":\"slow\",\"by\":\"wait\",\"spans\":12,\"waitedMs\":30123,"
    ++ codes "\"policies\":[{\"name\":\"errors\",\"said\":\"notSampled\"},{\"name\":\"slow\",\"said\":\"sampled\"},{\"name\":\"rest\",\"said\":\"notAsked\"}]}\n"
unfolding digits encode_with escape_byte print_from
second_of_three = refl

-- none decided; the clock went back, and more is said than there are policies
none_decided : decided_line (codes "a" ∷ codes "b" ∷ codes "c" ∷ []) (InvertedSampled ∷ InvertedNotSampled ∷ NotAsked ∷ Dropped ∷ [])
    (record { trace = 0 ∷ 1 ∷ 2 ∷ 3 ∷ 4 ∷ 5 ∷ 6 ∷ 7 ∷ 8 ∷ 9 ∷ 10 ∷ 11 ∷ 12 ∷ 13 ∷ 14 ∷ 15 ∷ []; moment = 1000; opened = 1001; spans = 7; verdict = verdict.NotSampled; cause = RootWait; decider = None })
    ≡ codes "{\"traceId\":\"000102030405060708090a0b0c0d0e0f\",\"moment\":1000,\"verdict\":\"notSampled\",\"policy\":null,\"by\":\"rootWait\",\"spans\":7,\"waitedMs\":0,"
    ++ codes "\"policies\":[{\"name\":\"a\",\"said\":\"invertedSampled\"},{\"name\":\"b\",\"said\":\"invertedNotSampled\"},{\"name\":\"c\",\"said\":\"notAsked\"}]}\n"
unfolding digits encode_with escape_byte print_from
none_decided = refl

-- a name with escapes: a control character, a quote, a backslash, a line feed, and two bytes of one letter that stay
name_with_escapes : decided_line ((1 ∷ 34 ∷ 92 ∷ 10 ∷ 195 ∷ 169 ∷ []) ∷ []) (Dropped ∷ [])
    (record { trace = 16 ∷ 17 ∷ 18 ∷ 19 ∷ 20 ∷ 21 ∷ 22 ∷ 23 ∷ 24 ∷ 25 ∷ 26 ∷ 27 ∷ 28 ∷ 29 ∷ 30 ∷ 31 ∷ []; moment = 18446744073709551615; opened = 1; spans = 18446744073709551613; verdict = verdict.NotSampled; cause = Size; decider = Some 0 })
    ≡ codes "{\"traceId\":\"101112131415161718191a1b1c1d1e1f\",\"moment\":18446744073709551615,\"verdict\":\"notSampled\",\"policy\":\"\\u0001\\\"\\\\\\n" ++ 195 ∷ 169 ∷ []
    ++ codes "\",\"by\":\"size\",\"spans\":18446744073709551613,\"waitedMs\":18446744073709551614,"
    ++ codes "\"policies\":[{\"name\":\"\\u0001\\\"\\\\\\n" ++ 195 ∷ 169 ∷ [] ++ codes "\",\"said\":\"dropped\"}]}\n"
unfolding digits encode_with escape_byte print_from
name_with_escapes = refl

-- there is no policy, so none at the place of the one that decided
no_policies : decided_line [] [] (record { trace = 255 ∷ 254 ∷ 253 ∷ 252 ∷ 251 ∷ 250 ∷ 249 ∷ 248 ∷ 247 ∷ 246 ∷ 245 ∷ 244 ∷ 243 ∷ 242 ∷ 241 ∷ 240 ∷ []; moment = 52; opened = 31; spans = 1; verdict = verdict.Sampled; cause = Close; decider = Some 0 })
    ≡ codes "{\"traceId\":\"fffefdfcfbfaf9f8f7f6f5f4f3f2f1f0\",\"moment\":52,\"verdict\":\"sampled\",\"policy\":null,\"by\":\"close\",\"spans\":1,\"waitedMs\":21,\"policies\":[]}\n"
unfolding digits encode_with escape_byte print_from
no_policies = refl

evicted : evicted_line (record { trace = 91 ∷ 142 ∷ 255 ∷ 247 ∷ 152 ∷ 3 ∷ 129 ∷ 4 ∷ 210 ∷ 105 ∷ 182 ∷ 51 ∷ 130 ∷ 63 ∷ 198 ∷ 12 ∷ []; moment = 1700000030001; spans = 3 })
    ≡ codes "{\"traceId\":\"5b8efff798038104d269b633823fc60c\",\"moment\":1700000030001,\"verdict\":\"evicted\",\"spans\":3}\n"
unfolding digits encode_with escape_byte print_from
evicted = refl

late : late_line (record { trace = 91 ∷ 142 ∷ 255 ∷ 247 ∷ 152 ∷ 3 ∷ 129 ∷ 4 ∷ 210 ∷ 105 ∷ 182 ∷ 51 ∷ 130 ∷ 63 ∷ 198 ∷ 12 ∷ []; moment = 1700000030002; verdict = verdict.NotSampled; spans = 4 })
    ≡ codes "{\"traceId\":\"5b8efff798038104d269b633823fc60c\",\"moment\":1700000030002,\"verdict\":\"notSampled\",\"by\":\"late\",\"spans\":4}\n"
unfolding digits encode_with escape_byte print_from
late = refl
