-- Texts that are handed to a sink, one after the other, and what they are for some outcomes.
-- For the contract of `say_report`.
use Rattle.std.proofs.Common.{◌≡◌, ◌<◌, ℕ, Bool, true, false, List, [], ◌++◌, length, ◌∷◌, refl, sym, ap, subst, ◌∙◌, append_assoc, append-nil, arith, replicate}
use Rattle.std.specs.Prelude.{suc, ◌+◌, map, take, get_or, slice_index, codes, decimal, Option}
use Rattle.std.specs.List.{concat}
use Rattle.std.proofs.lemmas.List.{map-append}
use Rattle.std.proofs.lemmas.List.Folds.{concat-append}
use Rattle.std.proofs.Math.Seq.{take-suc}
use Rattle.drop_ledger.specs.Places.{place_of}
use Rattle.drop_ledger.specs.declared.count.Count.{Count}
use Rattle.drop_ledger.specs.declared.count.Count.TheVariants.{Received}
use Rattle.std.specs.Fmt.{digits}
use Rattle.std.specs.Io.KnownBytes.{Appends}
use Rattle.std.proofs.KnownBytes.{Appends-nil, Appends-trans}
use Rattle.std.specs.Prelude.{Result, Ok, Err, is_ok}
use Rattle.span_sink.specs.LineSinks.{LineSinkState}
use Rattle.span_sink.specs.Hands.{HandsOne}
use Rattle.span_sink.specs.declared.sink.SinkFault.{SinkFault}
use Rattle.span_sink.specs.declared.sink.SinkFault.TheVariants.{Failed, Refused, Down}
use Rattle.collector_commands.specs.Texts.{WritesText, HandsText, text_of, name_of, count_line, counts}
use Rattle.collector_commands.specs.declared.outcome.Outcome.TheVariants.{Done, Configuration, Script}
use Rattle.config_faults.specs.declared.fault.ConfigFault.TheVariants.{Policy, MissingKey}
use Rattle.policy_tree.specs.declared.fault.PolicyFault.TheVariants.{EmptyList}

-- ---- examples, computed

text_of_zeros : text_of (Done (replicate 9 0))
    ≡ codes "received 0\nhanded 0\ndropped 1 0\ndropped 2 0\ndropped 3 0\ndropped 4 0\ndropped 5 0\ndropped 6 0\ndropped 7 0\n"
unfolding digits
text_of_zeros = refl

text_of_policy_fault : text_of (Configuration (Policy EmptyList)) ≡ codes "tsc: configuration refused: 7.1\n"
unfolding digits
text_of_policy_fault = refl

text_of_fault : text_of (Configuration MissingKey) ≡ codes "tsc: configuration refused: 3\n"
unfolding digits
text_of_fault = refl

text_of_line : text_of (Script 12) ≡ codes "tsc: script refused: line 12\n"
unfolding digits
text_of_line = refl

-- ---- texts one after the other

-- a line was handed over
pub HandsText-one : (old new : LineSinkState) (line : List ℕ) (answer : Result (Unit {0}) SinkFault) → 0 < length line → HandsOne old line answer new
    → HandsText old line (is_ok answer) new
HandsText-one old new line (Ok done) some t = record {
  writes = record { part = line; missing = []; split = sym (append-nil line); whole = λ e. refl; cut_short = λ (e : true ≡ false). cc; bytes = t.bytes };
  down = t.stays_up;
  stays = λ (d : old.is_down ≡ true). let up : old.is_down ≡ false = t.was_up in cc;
}
HandsText-one old new line (Err Failed) some f = record {
  writes = record { part = f.part; missing = f.missing; split = f.split; whole = λ (e : false ≡ true). cc; cut_short = λ e. f.cut_short; bytes = f.bytes };
  down = f.goes_down;
  stays = λ (d : old.is_down ≡ true). let up : old.is_down ≡ false = f.was_up in cc;
}
HandsText-one old new line (Err Refused) some f = elim f [ ]
HandsText-one old new line (Err Down) some d = record {
  writes = record {
    part = [];
    missing = line;
    split = refl;
    whole = λ (e : false ≡ true). cc;
    cut_short = λ e. some;
    bytes = let P = λ (s : LineSinkState). Appends old.taken s.taken [] in subst P (sym d.1) (Appends-nil old.taken);
  };
  down = ap (λ (s : LineSinkState). s.is_down) d.1 ∙ d.0;
  stays = λ e. (d.1, refl);
}

some_more : (xs ys : List ℕ) → 0 < length xs → 0 < length (xs ++ ys)
some_more [] ys e = absurd (let no : 0 < 0 = e in omega arith)
some_more (x ∷ xs) ys e = omega arith

-- the first text was taken whole, and then of the second as much as it says
second_writes : (a b c : Option (List ℕ)) (s t : List ℕ) (w : Bool) → WritesText a s true b → WritesText b t w c → WritesText a (s ++ t) w c
second_writes a b c s t w first second =
    let all : s ≡ first.part = first.split ∙ ap (λ (m : List ℕ). first.part ++ m) (first.whole refl) ∙ append-nil first.part in record {
      part = first.part ++ second.part;
      missing = second.missing;
      split = ap (λ (x : List ℕ). x ++ t) all ∙ ap (λ (y : List ℕ). first.part ++ y) second.split ∙ sym (append_assoc first.part second.part second.missing);
      whole = second.whole;
      cut_short = second.cut_short;
      bytes = Appends-trans a b c first.part second.part first.bytes second.bytes;
    }

-- the first text was not taken whole, and nothing more was written
first_writes : (a b : Option (List ℕ)) (s t : List ℕ) → WritesText a s false b → WritesText a (s ++ t) false b
first_writes a b s t first = record {
  part = first.part;
  missing = first.missing ++ t;
  split = ap (λ (x : List ℕ). x ++ t) first.split ∙ append_assoc first.part first.missing t;
  whole = λ (e : false ≡ true). cc;
  cut_short = λ e. some_more first.missing t (first.cut_short refl);
  bytes = first.bytes;
}

-- a text was handed over, and then one more
pub HandsText-both : (a b c : LineSinkState) (s t : List ℕ) (v w r : Bool) → HandsText a s v b → HandsText b t w c → (w ≡ true → r ≡ v) → (w ≡ false → r ≡ false)
    → HandsText a (s ++ t) r c
HandsText-both a b c s t true true r first second whole cut = let P = λ (x : Bool). HandsText a (s ++ t) x c in subst P (sym (whole refl)) (record {
  writes = second_writes a.taken b.taken c.taken s t true first.writes second.writes;
  down = second.down;
  stays = λ (d : a.is_down ≡ true). let e : true ≡ false = (first.stays d).1 in cc;
})
HandsText-both a b c s t true false r first second whole cut = let P = λ (x : Bool). HandsText a (s ++ t) x c in subst P (sym (cut refl)) (record {
  writes = second_writes a.taken b.taken c.taken s t false first.writes second.writes;
  down = second.down;
  stays = λ (d : a.is_down ≡ true). let e : true ≡ false = (first.stays d).1 in cc;
})
HandsText-both a b c s t false true r first second whole cut = let e : true ≡ false = (second.stays first.down).1 in cc
HandsText-both a b c s t false false r first second whole cut =
    let P = λ (x : Bool). HandsText a (s ++ t) x c in
    let Q = λ (k : LineSinkState). WritesText a.taken (s ++ t) false k.taken in
    let same : c ≡ b = (second.stays first.down).0 in
    subst P (sym (cut refl)) (record {
      writes = subst Q (sym same) (first_writes a.taken b.taken s t first.writes);
      down = second.down;
      stays = λ (d : a.is_down ≡ true). (same ∙ (first.stays d).0, refl);
    })

-- ---- the lines of a report

-- the lines of one count more
counts_next : (report : List ℕ) (i : ℕ) (what : Count) → i < 9 → concat (map (count_line report) (take (i + 1) counts))
    ≡ concat (map (count_line report) (take i counts)) ++ count_line report (get_or counts i what)
counts_next report i what within =
    let f : Count → List ℕ = count_line report in
    let one : Count = get_or counts i what in
    let e : i + 1 ≡ suc i = omega arith in
    ap (λ (n : ℕ). concat (map f (take n counts))) e
    ∙ ap (λ (done : List Count). concat (map f done)) (take-suc counts i what within)
    ∙ ap concat (map-append f (take i counts) (one ∷ []))
    ∙ concat-append (map f (take i counts)) (f one ∷ [])
    ∙ ap (λ (line : List ℕ). concat (map f (take i counts)) ++ line) (append-nil (f one))

-- after the lines of some counts, the next one's was handed over
pub HandsText-next : (report : List ℕ) (i : ℕ) (what : Count) (number : ℕ) (a b c : LineSinkState) (v w r : Bool) → i < 9 → what ≡ get_or counts i Received
    → number ≡ slice_index report (place_of what)
    → HandsText a (concat (map (count_line report) (take i counts))) v b → HandsText b (name_of what ++ decimal number ++ codes "\n") w c
    → (w ≡ true → r ≡ v) → (w ≡ false → r ≡ false)
    → HandsText a (concat (map (count_line report) (take (i + 1) counts))) r c
HandsText-next report i what number a b c v w r within is number_is done next whole cut =
    let P = λ (text : List ℕ). HandsText a text r c in
    let line : name_of what ++ decimal number ++ codes "\n" ≡ count_line report (get_or counts i Received) =
    ap (λ (n : ℕ). name_of what ++ decimal n ++ codes "\n") number_is ∙ ap (count_line report) is in
    subst P (ap (λ (l : List ℕ). concat (map (count_line report) (take i counts)) ++ l) line ∙ sym (counts_next report i Received within))
    (HandsText-both a b c (concat (map (count_line report) (take i counts))) (name_of what ++ decimal number ++ codes "\n") v w r done next whole cut)
