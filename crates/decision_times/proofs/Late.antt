-- Where nothing is left to decide, each undecided trace has its time to come.
-- For the law `never_too_late`.
use Rattle.std.proofs.Common.{◌≡◌, ℕ, ◌+◌, ◌<◌, ◌≤◌, nat_lt, nat_le, Bool, true, false, ◌&&◌, ◌||◌, List, [], ◌∷◌, ◌++◌, length, reverse, filter, take, drop, refl, sym, ap, subst, ◌∙◌, arith, append_assoc, le-leb}
use Rattle.std.specs.List.{list_any}
use Rattle.std.proofs.lemmas.List.{reverse-append, reverse-reverse}
use Rattle.std.proofs.lemmas.Bool.Decides.{nat_tests}
use Rattle.trace_buffer.specs.Buffer.{is_root_due}
use Rattle.otlp_types.specs.declared.arrival.Arrival.{Arrival}
use Rattle.otlp_types.specs.declared.arrival.Item.{Item}
use Rattle.otlp_types.specs.declared.arrival.Item.TheVariants.{Span}
use Rattle.span_size.specs.Size.{size_of}
use Rattle.journal_theory.specs.Journal.{Settings, Journal, Entry, Opening, Notes, StoppedInTime, IsAnswered, IsAnsweredUpTo, are_each_answered, clock, is_of_trace, is_root, item_spans, is_root_past, is_oversized, spans_since, have_ended, due_now, undecided, in_buffer, no_notes, notes}
use Rattle.journal_theory.specs.Standing.{mark, first_root_since}
use Rattle.journal_theory.proofs.ListFacts.{Each, Each-split, Each-weaker, Each-reverse, Split}
use Rattle.journal_theory.proofs.Lists.{Each-from_none, drop-length}
use Rattle.journal_theory.proofs.RootWait.{due_by_first_root}
use Rattle.journal_theory.proofs.Notes.{HasRoom, is_open}
use Rattle.journal_theory.proofs.Sound.{last_of_nil}
use Rattle.journal_theory.proofs.Due.{front, ripe, open_due, item_notes, known, stopped-before, due-dealt, all-dealt}
use Rattle.world_theory.proofs.Steps.{or_both}
use Rattle.world_theory.proofs.Dealing.{undecided_stand}
use Rattle.decision_times.specs.Times.{HasRoot, HasTime}

-- an element of a list is one of its reverse
split_reverse : (x : Opening) (xs : List Opening) → Split x xs → Split x (reverse xs)
split_reverse x xs k = record {
  front = reverse k.back;
  back = reverse k.front;
  is = ap (λ (z : List Opening). reverse z) k.is ∙ (reverse-append k.front (x ∷ k.back)
      ∙ (ap (λ (z : List Opening). z ++ reverse k.front) (reverse-append (x ∷ []) k.back) ∙ append_assoc (reverse k.back) (x ∷ []) (reverse k.front)));
}

-- ---- a root that waited makes its trace due

or-left : (a b : Bool) → a ≡ true → (a || b) ≡ true
or-left a b h = rw h

or-right : (a b : Bool) → b ≡ true → (a || b) ≡ true
or-right true b h = refl
or-right false b h = h

-- the root is among the spans of its item
root_there : (o : Opening) (at : ℕ) (a : Arrival) → o.at ≤ at → is_of_trace o.trace a ≡ true → is_root a ≡ true → list_any is_root (item_spans o at false (Span a)) ≡ true
root_there o at a since of root = let l : nat_le o.at at ≡ true = le-leb o.at at since in rw (l, of, root)

root_past_at : (root_wait now : ℕ) (later : Journal) (e : Entry) (J : Journal) (o : Opening) (a : Arrival) → e.item ≡ Span a → e.refused ≡ false → is_of_trace o.trace a ≡ true → is_root a ≡ true → o.at ≤ length J → clock (e ∷ J) + root_wait ≤ now
    → is_root_past root_wait now (later ++ e ∷ J) o ≡ true
root_past_at root_wait now [] e J o a is kept of root since waited =
    let there : list_any is_root (item_spans o (length J) e.refused e.item) ≡ true
    = ap (λ (i : Item). list_any is_root (item_spans o (length J) e.refused i)) is ∙ ap (λ (r : Bool). list_any is_root (item_spans o (length J) r (Span a))) kept ∙ root_there o (length J) a since of root in
    let late : nat_le (clock (e ∷ J) + root_wait) now ≡ true = le-leb (clock (e ∷ J) + root_wait) now waited in
    or-right (is_root_past root_wait now J o) (list_any is_root (item_spans o (length J) e.refused e.item) && nat_le (clock (e ∷ J) + root_wait) now) (rw (there, late))
root_past_at root_wait now (x ∷ later) e J o a is kept of root since waited =
    or-left (is_root_past root_wait now (later ++ e ∷ J) o) _ (root_past_at root_wait now later e J o a is kept of root since waited)

pub root_past : (root_wait now : ℕ) (J : Journal) (o : Opening) → HasRoot root_wait now J o → is_root_past root_wait now J o ≡ true
root_past root_wait now J o h = subst (λ (z : Journal). is_root_past root_wait now z o ≡ true) (sym h.split) (root_past_at root_wait now h.later h.item h.before o h.root h.is h.kept h.of_trace h.without_parent h.since h.waited)

-- ---- what isn't due

both : (b : Bool) → b ≡ true → b ≡ false → ⊥
both b p q = cc (p, q)

second : (a b : Bool) → a ≡ true → (a && b) ≡ false → b ≡ false
second a b h k = sym (ap (λ (x : Bool). x && b) h) ∙ k

lt-not : (m n : ℕ) → nat_le m n ≡ false → n < m
lt-not m n h = grind (arith, nat_tests)

le-not : (m n : ℕ) → nat_lt m n ≡ false → n ≤ m
le-not m n h = grind (arith, nat_tests)

lt-test : (m n : ℕ) → m < n → nat_lt m n ≡ true
lt-test m n h = grind (arith, nat_tests)

taken_whole : (os : List Opening) → take (length os) os ≡ os
taken_whole [] = refl
taken_whole (o ∷ os) = ap (λ ps. o ∷ ps) (taken_whole os)

module _ (s : Settings) (room : HasRoom s.num_traces) where
  -- an open episode that isn't due has its time to come
  has_time : (J : Journal) (noted : Notes) (o : Opening) → is_open noted o ≡ true → open_due s room J noted o ≡ false → HasTime s J o
  has_time J noted o stands none =
      let rest = second (is_open noted o) (have_ended J s.senders || (ripe s room J (mark J) o || is_oversized s J o)) stands none in
      let p = or_both (have_ended J s.senders) (ripe s room J (mark J) o || is_oversized s J o) rest in
      let q = or_both (ripe s room J (mark J) o) (is_oversized s J o) p.1 in
      let r = or_both (nat_le (o.moment + s.decision_wait) (mark J)) (is_root_due (mark J) s.root_wait (first_root_since J o)) q.0 in
      record {
        wait = lt-not (o.moment + s.decision_wait) (mark J) r.0;
        root_wait = λ on root. both (is_root_due (mark J) s.root_wait (first_root_since J o))
            (due_by_first_root s.root_wait (mark J) J o ∙ ap (λ b. b && is_root_past s.root_wait (mark J) J o) (lt-test 0 s.root_wait on) ∙ root_past s.root_wait (mark J) J o root) r.1;
        size = λ on. le-not s.maximum_trace_size (size_of (spans_since J o)) (second (nat_lt 0 s.maximum_trace_size) (nat_lt s.maximum_trace_size (size_of (spans_since J o))) (lt-test 0 s.maximum_trace_size on) q.1);
        senders = p.0;
      }

  -- nothing in the buffer is due
  none_due : (e : Entry) (J : Journal) (k : ℕ) → 0 < s.decision_wait → StoppedInTime s (e ∷ J) → IsAnsweredUpTo s (e ∷ J) k → drop k (due_now s (e ∷ J)) ≡ []
      → Each (λ (o : Opening). open_due s room (e ∷ J) (notes s (e ∷ J)) o ≡ false) (front s room (item_notes s room e J))
  none_due e J k w h given none =
      let left = due-dealt s room e J k h w (known s room J w (stopped-before s room e J h) given.1) given in
      let dealt = all-dealt s room e J k none in
      let end : filter (open_due s room (e ∷ J) (notes s (e ∷ J))) (front s room (item_notes s room e J)) ≡ [] =
      (let Q = λ (n : Notes). filter (open_due s room (e ∷ J) n) (front s room (item_notes s room e J)) ≡ [] in subst Q dealt (left ∙ none)) in
      Each-from_none (open_due s room (e ∷ J) (notes s (e ∷ J))) (front s room (item_notes s room e J)) end

  -- so each that is open in the buffer has its time to come, where all was decided
  pub open_have_time : (J : Journal) → 0 < s.decision_wait → StoppedInTime s J → IsAnswered s J → Each (λ (o : Opening). is_open (notes s J) o ≡ true → HasTime s J o) (in_buffer s (notes s J))
  unfolding notes
  open_have_time [] w h given = subst (λ (os : List Opening). Each (λ (o : Opening). is_open no_notes o ≡ true → HasTime s [] o) os) (sym (last_of_nil s.num_traces)) tt
  open_have_time (e ∷ J) w h given =
      let os = due_now s (e ∷ J) in
      let all : IsAnsweredUpTo s (e ∷ J) (length os) = (ap (λ (ps : List Opening). are_each_answered s (e ∷ J) ps e.answers) (taken_whole os) ∙ given.0, given.1) in
      let due = none_due e J (length os) w h all (drop-length os) in
      let back = Each-reverse (λ (o : Opening). open_due s room (e ∷ J) (notes s (e ∷ J)) o ≡ false) (reverse (in_buffer s (notes s (e ∷ J)))) due in
      Each-weaker (λ (o : Opening). open_due s room (e ∷ J) (notes s (e ∷ J)) o ≡ false) (λ (o : Opening). is_open (notes s (e ∷ J)) o ≡ true → HasTime s (e ∷ J) o) (in_buffer s (notes s (e ∷ J)))
      (λ o none stands. has_time (e ∷ J) (notes s (e ∷ J)) o stands none)
      (subst (λ (os : List Opening). Each (λ (o : Opening). open_due s room (e ∷ J) (notes s (e ∷ J)) o ≡ false) os) (reverse-reverse (in_buffer s (notes s (e ∷ J)))) back)

  -- so each undecided one has its time to come
  pub undecided_have_time : (J : Journal) (k : ℕ) → 0 < s.decision_wait → StoppedInTime s J → IsAnsweredUpTo s J k → drop k (due_now s J) ≡ [] → Each (HasTime s J) (undecided s (notes s J))
  unfolding notes
  undecided_have_time [] k w h given none = subst (λ (os : List Opening). Each (HasTime s []) (reverse (filter (is_open no_notes) os))) (sym (last_of_nil s.num_traces)) tt
  undecided_have_time (e ∷ J) k w h given none =
      let noted = notes s (e ∷ J) in
      Each-weaker (λ (o : Opening). Split o (in_buffer s noted) × (is_open noted o ≡ true)) (HasTime s (e ∷ J)) (undecided s noted)
      (λ o p. has_time (e ∷ J) (notes s (e ∷ J)) o p.1
      (Each-split (λ (x : Opening). open_due s room (e ∷ J) (notes s (e ∷ J)) x ≡ false) o (front s room (item_notes s room e J)) (split_reverse o (in_buffer s (notes s (e ∷ J))) p.0) (none_due e J k w h given none)))
      (undecided_stand s (notes s (e ∷ J)))
