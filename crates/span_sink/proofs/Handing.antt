-- The bytes of calls of `hand`, by induction over the calls.
-- For the contract of `takes_handed_lines`.
use Rattle.std.proofs.Common.{◌≡◌, ℕ, ◌+◌, true, false, List, [], ◌∷◌, ◌++◌, Result, Ok, Err, refl, sym, ap, subst, ◌∙◌, append_assoc, inl, inr, ◌⊎◌}
use Rattle.std.specs.List.{concat, list_all}
use Rattle.std.specs.Io.KnownBytes.{Appends}
use Rattle.std.proofs.KnownBytes.{Appends-nil, Appends-trans}
use Rattle.span_sink.specs.declared.sink.SinkFault.{SinkFault}
use Rattle.span_sink.specs.declared.sink.SinkFault.TheVariants.{Failed, Down, Refused}
use Rattle.span_sink.specs.LineSinks.{LineSinkState, Refuses}
use Rattle.span_sink.specs.Manners.{Manner, takes_all, may_refuse, prints_refused}
use Rattle.span_sink.specs.Hands.{Handing, HandsTo, HandsAll, handed_lines, is_down_answer, StopsWithin, TookLines, TakesHandedLines}

-- once a write has failed, nothing is taken and every call is answered Down
pub record StaysDown (manner : Manner) (old : LineSinkState) (calls : List Handing) (new : LineSinkState) : Type 0 where
  pub same : new ≡ old
  pub nothing : handed_lines manner calls ≡ []
  pub answers : list_all (λ call. is_down_answer call.answer) calls ≡ true

one_stays_down : (manner : Manner) (old between new : LineSinkState) (line : List ℕ) (answer : Result (Unit {0}) SinkFault) (calls : List Handing) → old.is_down ≡ true
    → HandsTo manner old line answer between → (between ≡ old → StaysDown manner old calls new) → StaysDown manner old (record { line = line; answer = answer } ∷ calls) new
one_stays_down manner old between new line (Ok done) calls down one rest = let up : old.is_down ≡ false = one.was_up in cc
one_stays_down manner old between new line (Err Failed) calls down one rest = let up : old.is_down ≡ false = one.was_up in cc
one_stays_down manner old between new line (Err Down) calls down one rest =
    let all = rest one.1 in record { same = all.same; nothing = all.nothing; answers = all.answers }
one_stays_down manner old between new line (Err Refused) calls down one rest = absurd (up manner one)
  where
    up : (m : Manner) → Refuses m old line between → ⊥
    up takes_all one = one
    up may_refuse one = let up : old.is_down ≡ false = one.was_up in cc
    up prints_refused one = let up : old.is_down ≡ false = one.was_up in cc

stays_down : (manner : Manner) (old new : LineSinkState) (calls : List Handing) → old.is_down ≡ true → HandsAll manner old calls new → StaysDown manner old calls new
stays_down manner old new [] down all = record { same = all; nothing = refl; answers = refl }
stays_down manner old new (call ∷ calls) down all =
    one_stays_down manner old all.0 new call.line call.answer calls down all.1
    (λ (same : all.0 ≡ old). subst (λ s. StaysDown manner s calls new) same (stays_down manner all.0 new calls (ap (λ s. s.is_down) same ∙ down) all.2))

abbrev Ends : (old : LineSinkState) → (part : List ℕ) → List Handing → (new : LineSinkState) → Type 0
Ends old part calls new =
    ((part ≡ []) × (new.is_down ≡ old.is_down) × (new.failures ≡ old.failures))
    ⊎ ((old.is_down ≡ false) × (new.is_down ≡ true) × (new.failures ≡ old.failures + 1) × StopsWithin part calls)

-- one call more in front, after which the sink is as up as before
one_before : (old between new : LineSinkState) (part : List ℕ) (call : Handing) (calls : List Handing) → between.is_down ≡ old.is_down → between.failures ≡ old.failures
    → Ends between part calls new → Ends old part (call ∷ calls) new
one_before old between new part call calls down failures (inl ends) = inl (ends.0, ends.1 ∙ down, ends.2 ∙ failures)
one_before old between new part call calls down failures (inr ends) = let stop = ends.3 in
    inr (
      sym down ∙ ends.0,
      ends.1,
      ends.2 ∙ ap (λ n. n + 1) failures,
      record {
        before = call ∷ stop.before;
        line = stop.line;
        after = stop.after;
        missing = stop.missing;
        place = ap (λ cs. call ∷ cs) stop.place;
        split = stop.split;
        cut_short = stop.cut_short;
        nothing_follows = stop.nothing_follows;
      },
    )

one_took : (manner : Manner) (old between new : LineSinkState) (line : List ℕ) (answer : Result (Unit {0}) SinkFault) (calls : List Handing) → HandsTo manner old line answer between
    → HandsAll manner between calls new → TookLines manner between calls new → TookLines manner old (record { line = line; answer = answer } ∷ calls) new
one_took manner old between new line (Ok done) calls one all rest = record {
  part = rest.part;
  bytes = rw append_assoc (Appends-trans old.taken between.taken new.taken line (concat (handed_lines manner calls) ++ rest.part) one.bytes rest.bytes);
  ends = one_before old between new rest.part (record { line = line; answer = Ok done }) calls (one.stays_up ∙ sym one.was_up) one.no_failure rest.ends;
}
one_took manner old between new line (Err Failed) calls one all rest = let down = stays_down manner between new calls one.goes_down all in record {
  part = one.part;
  bytes = subst (λ s. Appends old.taken s.taken (concat (handed_lines manner calls) ++ one.part)) (sym down.same)
      (subst (λ lines. Appends old.taken between.taken (concat lines ++ one.part)) (sym down.nothing) one.bytes);
  ends = inr (
    one.was_up,
    ap (λ s. s.is_down) down.same ∙ one.goes_down,
    ap (λ s. s.failures) down.same ∙ one.one_failure,
    record {
      before = [];
      line = line;
      after = calls;
      missing = one.missing;
      place = refl;
      split = one.split;
      cut_short = one.cut_short;
      nothing_follows = down.answers;
    },
  );
}
one_took manner old between new line (Err Down) calls one all rest = record {
  part = rest.part;
  bytes = subst (λ s. Appends s.taken new.taken (concat (handed_lines manner calls) ++ rest.part)) one.1 rest.bytes;
  ends = one_before old between new rest.part (record { line = line; answer = Err Down }) calls (ap (λ s. s.is_down) one.1) (ap (λ s. s.failures) one.1) rest.ends;
}
one_took manner old between new line (Err Refused) calls one all rest = refused manner one rest
  where
    refused : (m : Manner) → Refuses m old line between → TookLines m between calls new → TookLines m old (record { line = line; answer = Err Refused } ∷ calls) new
    refused takes_all one rest = absurd one
    refused may_refuse one rest = record {
      part = rest.part;
      bytes = Appends-trans old.taken between.taken new.taken [] (concat (handed_lines may_refuse calls) ++ rest.part) one.bytes rest.bytes;
      ends = one_before old between new rest.part (record { line = line; answer = Err Refused }) calls (one.stays_up ∙ sym one.was_up) one.no_failure rest.ends;
    }
    refused prints_refused one rest = record {
      part = rest.part;
      bytes = rw append_assoc (Appends-trans old.taken between.taken new.taken line (concat (handed_lines prints_refused calls) ++ rest.part) one.bytes rest.bytes);
      ends = one_before old between new rest.part (record { line = line; answer = Err Refused }) calls (one.stays_up ∙ sym one.was_up) one.no_failure rest.ends;
    }

pub takes_handed_lines : TakesHandedLines
takes_handed_lines manner old new [] all =
    record { part = []; bytes = subst (λ s. Appends old.taken s.taken []) (sym all) (Appends-nil old.taken); ends = inl (refl, ap (λ s. s.is_down) all, ap (λ s. s.failures) all) }
takes_handed_lines manner old new (call ∷ calls) all =
    one_took manner old all.0 new call.line call.answer calls all.1 all.2 (takes_handed_lines manner all.0 new calls all.2)
