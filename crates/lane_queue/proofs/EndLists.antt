-- Lists of ends: one more, one less, one that was asked.
-- For the contracts of `LaneQueue::new`, `Receiver::pop` and `reunite`.
use Rattle.std.proofs.Common.{◌≡◌, ◌⊎◌, Bool, ℕ, zero, suc, ◌+◌, ◌<◌, ◌≤◌, List, [], ◌∷◌, ◌++◌, length, set, All, Some, slice_get, sym, refl, ap, ◌∙◌, subst, ⊎_elim, append_assoc, length-append, arith}
use native.Mathlib.Decide.{dec_le}
use Rattle.std.proofs.lemmas.List.{append-nil}
use Rattle.std.proofs.lemmas.List.{map-append}
use Rattle.std.proofs.lemmas.List.Elements.{All-push}
use Rattle.lane_queue.specs.Moments.{HasHistory, WasEmpty}
use Rattle.lane_queue.specs.declared.calls.Call.{Call}
use Rattle.lane_queue.specs.declared.calls.Call.TheVariants.{Popped}
use Rattle.lane_queue.specs.Ends.{EndState, ReceiverState, IsNew, WaitAs, queues, AreTied, WasEmptyAt, HasHistoryAt, TakesAt, PopsAt}

-- what holds from a on and before b, and of b, holds before b + 1
grow : (P : ℕ → Type 0) (a b : ℕ) → ((k : ℕ) → a ≤ k → k < b → P k) → P b → (k : ℕ) → a ≤ k → k < b + 1 → P k
grow P a b before here k low high = elim (dec_le b k) as (λ _. P k) [ yes le ↦ (let same : b ≡ k = omega arith in subst P same here) | no more ↦ before k low (omega arith) ]

module _ {T : Type 0} where
  pub tied-push : (s r : List (EndState T)) (a b : EndState T) → AreTied s r → a.queue ≡ b.queue → AreTied (s ++ a ∷ []) (r ++ b ∷ [])
  tied-push s r a b tied same = map-append (λ (e : EndState T). e.queue) s (a ∷ []) ∙ (λ i. tied i ++ same i ∷ []) ∙ sym (map-append (λ (e : EndState T). e.queue) r (b ∷ []))

  pub get_mid : (front : List (EndState T)) (x : EndState T) (back : List (EndState T)) → slice_get (front ++ x ∷ back) (length front) ≡ Some x
  get_mid [] x back = refl
  get_mid (y ∷ front) x back = get_mid front x back

  -- the last of two lists of ends of the same queues are ends of one queue, and so are the others
  pub tied_last : (s r : List (EndState T)) (a b : EndState T) → AreTied (s ++ a ∷ []) (r ++ b ∷ []) → length s ≡ length r → AreTied s r × (a.queue ≡ b.queue)
  tied_last [] [] a b tied len = (refl, cc)
  tied_last [] (y ∷ r) a b tied len = absurd (omega arith)
  tied_last (x ∷ s) [] a b tied len = absurd (omega arith)
  tied_last (x ∷ s) (y ∷ r) a b tied len =
      let head : x.queue ≡ y.queue = cc in
      let rest : AreTied (s ++ a ∷ []) (r ++ b ∷ []) = cc in
      let more = tied_last s r a b rest (omega arith) in ((λ i. head i ∷ more.0 i), more.1)

  -- one more queue was asked and was empty
  pub asked_more : (n : ℕ) (ends : List (EndState T)) (from place : ℕ) (end : EndState T) → ((k : ℕ) → from ≤ k → k < place → WasEmptyAt n ends k) → slice_get ends place ≡ Some end → WasEmpty n end.items → (k : ℕ) → from ≤ k → k < place + 1 → WasEmptyAt n ends k
  asked_more n ends from place end before there empty = grow (WasEmptyAt n ends) from place before (end, there, empty)

  -- all were asked, from one place on to the end, and then from the front up to it
  pub asked_all : (n : ℕ) (ends : List (EndState T)) (next count : ℕ) → length ends ≤ count → ((k : ℕ) → next ≤ k → k < count → WasEmptyAt n ends k) → ((k : ℕ) → 0 ≤ k → k < next → WasEmptyAt n ends k) → (k : ℕ) → k < length ends → WasEmptyAt n ends k
  asked_all n ends next count enough high low k within = elim (dec_le next k) as (λ _. WasEmptyAt n ends k) [ yes le ↦ high k le (omega arith) | no more ↦ low k (omega arith) (omega arith) ]

  get_front : (front back : List (EndState T)) (x : EndState T) (whole : List (EndState T)) → whole ≡ front ++ x ∷ back → slice_get whole (length front) ≡ Some x
  get_front front back x whole is = ap (λ l. slice_get l (length front)) is ∙ get_mid front x back

  -- what the loop of `reunite` keeps: the ends that are left are the first ones, and the others were rejoined
  pub record Rejoining (n : ℕ) (S R s r : List (EndState T)) : Type 0 where
    pub tied : AreTied s r
    pub same : length s ≡ length r
    pub senders : (ss : List (EndState T)) × (S ≡ s ++ ss)
    pub receiver : (rs : List (EndState T)) × (R ≡ r ++ rs)
    pub done : (k : ℕ) → length s ≤ k → k < length R → HasHistoryAt n S R k

  length_tied : (s r : List (EndState T)) → AreTied s r → length s ≡ length r
  length_tied [] [] tied = refl
  length_tied [] (y ∷ r) tied = absurd (omega (arith, ap length tied))
  length_tied (x ∷ s) [] tied = absurd (omega (arith, ap length tied))
  length_tied (x ∷ s) (y ∷ r) tied = let rest : AreTied s r = cc in ap suc (length_tied s r rest)

  pub rejoin_init : (n : ℕ) (S R : List (EndState T)) → AreTied S R → Rejoining n S R S R
  rejoin_init n S R tied = let len = length_tied S R tied in record { tied = tied; same = len; senders = ([], sym (append-nil S)); receiver = ([], sym (append-nil R)); done = λ k low high. absurd (omega arith) }

  pub rejoin_ends : (n : ℕ) (S R s r s' r' : List (EndState T)) (a b : EndState T) → Rejoining n S R s r → s ≡ s' ++ a ∷ [] → r ≡ r' ++ b ∷ [] → AreTied s' r' × (length s' ≡ length r') × (a.queue ≡ b.queue)
  rejoin_ends n S R s r s' r' a b kept is ir =
      let ls : length s ≡ length s' + 1 = ap length is ∙ length-append s' (a ∷ []) in
      let lr : length r ≡ length r' + 1 = ap length ir ∙ length-append r' (b ∷ []) in
      let both : length s' ≡ length r' = omega (arith, kept.same) in
      let t : AreTied (s' ++ a ∷ []) (r' ++ b ∷ []) = subst (λ (y : List (EndState T) × List (EndState T)). AreTied y.0 y.1) (λ i. (is i, ir i)) kept.tied in
      let more = tied_last s' r' a b t both in (more.0, both, more.1)

  pub rejoin_step : (n : ℕ) (S R s r s' r' : List (EndState T)) (a b : EndState T) → Rejoining n S R s r → s ≡ s' ++ a ∷ [] → r ≡ r' ++ b ∷ [] → HasHistory n a.items b.items → Rejoining n S R s' r'
  rejoin_step n S R s r s' r' a b kept is ir history =
      let tie = rejoin_ends n S R s r s' r' a b kept is ir in
      let ls : length s ≡ length s' + 1 = ap length is ∙ length-append s' (a ∷ []) in
      let whole_s : S ≡ s' ++ a ∷ kept.senders.0 = kept.senders.1 ∙ ap (λ l. l ++ kept.senders.0) is ∙ append_assoc s' (a ∷ []) kept.senders.0 in
      let whole_r : R ≡ r' ++ b ∷ kept.receiver.0 = kept.receiver.1 ∙ ap (λ l. l ++ kept.receiver.0) ir ∙ append_assoc r' (b ∷ []) kept.receiver.0 in
      let here : HasHistoryAt n S R (length s') = (a, b, get_front s' kept.senders.0 a S whole_s, subst (λ m. slice_get R m ≡ Some b) (sym tie.1) (get_front r' kept.receiver.0 b R whole_r), history) in
      record {
        tied = tie.0;
        same = tie.1;
        senders = (a ∷ kept.senders.0, whole_s);
        receiver = (b ∷ kept.receiver.0, whole_r);
        done = λ k low high. elim (dec_le (suc (length s')) k) as (λ _. HasHistoryAt n S R k) [ yes le ↦ kept.done k (omega arith) high | no more ↦ (let same : length s' ≡ k = omega arith in subst (HasHistoryAt n S R) same here) ];
      }

  pub new-push : (xs : List (EndState T)) (y : EndState T) → All IsNew xs → IsNew y → All IsNew (xs ++ y ∷ [])
  new-push xs y all here = All-push IsNew xs y all here

  pub waits-push : (waits : Bool) (xs : List (EndState T)) (y : EndState T) → WaitAs waits xs → y.waits ≡ waits → WaitAs waits (xs ++ y ∷ [])
  waits-push waits xs y all here = All-push (λ (e : EndState T). e.waits ≡ waits) xs y all here

  -- one more item at one end leaves the queues
  pub same_queues : (xs : List (EndState T)) (place : ℕ) (end new : EndState T) → slice_get xs place ≡ Some end → new.queue ≡ end.queue → queues (set xs place new) ≡ queues xs
  same_queues [] place end new at same = refl
  same_queues (x ∷ xs) zero end new at same = (let is : x ≡ end = cc in ap (λ q. q ∷ queues xs) (same ∙ ap (λ (e : EndState T). e.queue) (sym is)))
  same_queues (x ∷ xs) (suc place) end new at same = ap (λ l. x.queue ∷ l) (same_queues xs place end new at same)

  abbrev state : List (EndState T) → ℕ → List Call → ReceiverState T
  state ends next calls = record { ends = ends; next = next; calls = calls }

  -- found among the places from the next one on
  pub pops_from_next : (n next place : ℕ) (x : T) (old new : List (EndState T)) (calls called : List Call) (self : ReceiverState T) → state old next calls ≡ self → next ≤ place → TakesAt n place x old new
      → ((k : ℕ) → next ≤ k → k < place → WasEmptyAt n old k) → called ≡ calls ++ Popped place ∷ [] → PopsAt n place x self (state new (place + 1) called)
  pops_from_next n next place x old new calls called self is at takes before more = subst (λ s. PopsAt n place x s (state new (place + 1) called)) is (record {
    takes = takes;
    next = refl;
    called = more;
    before = λ k within asked. ⊎_elim (λ (a : (next ≤ k) × ((k < place) ⊎ (place < next))). ⊎_elim (λ (l : k < place). before k a.0 l) (λ (l : place < next). absurd (omega arith)) a.1) (λ (a : (k < place) × (place < next)). absurd (omega (arith, a.1))) asked;
  })

  -- found among the places before the next one
  pub pops_from_first : (n next count place : ℕ) (x : T) (old between new : List (EndState T)) (calls called : List Call) (self : ReceiverState T) → state old next calls ≡ self → between ≡ old → place < next → length old ≤ count → TakesAt n place x between new
      → ((k : ℕ) → next ≤ k → k < count → WasEmptyAt n old k) → ((k : ℕ) → 0 ≤ k → k < place → WasEmptyAt n between k)
      → called ≡ calls ++ Popped place ∷ [] → PopsAt n place x self (state new (place + 1) called)
  pops_from_first n next count place x old between new calls called self is same at enough takes high low more = subst (λ s. PopsAt n place x s (state new (place + 1) called)) is (record {
    takes = subst (λ l. TakesAt n place x l new) same takes;
    next = refl;
    called = more;
    before = λ k within asked. ⊎_elim (λ (a : (next ≤ k) × ((k < place) ⊎ (place < next))). high k a.0 (omega arith)) (λ (a : (k < place) × (place < next)). subst (λ l. WasEmptyAt n l k) same (low k (omega arith) a.0)) asked;
  })

  -- found nowhere
  pub pops_none : (n next count : ℕ) (old between new : List (EndState T)) (calls : List Call) (self : ReceiverState T) → state old next calls ≡ self → between ≡ old → new ≡ between → length old ≤ count
      → ((k : ℕ) → next ≤ k → k < count → WasEmptyAt n old k) → ((k : ℕ) → 0 ≤ k → k < next → WasEmptyAt n between k)
      → (state new next calls ≡ self) × ((k : ℕ) → k < length self.ends → WasEmptyAt n self.ends k)
  pops_none n next count old between new calls self is same again enough high low = (
    ap (λ l. state l next calls) (again ∙ same) ∙ is,
    subst (λ (r : ReceiverState T). (k : ℕ) → k < length r.ends → WasEmptyAt n r.ends k) is (asked_all n old next count enough high (λ k a b. subst (λ l. WasEmptyAt n l k) same (low k a b))),
  )
