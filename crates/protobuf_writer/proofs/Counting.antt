-- The count of the bytes behind a place, put into it.
-- For put_count and count_behind of messages.rt.
use Rattle.std.proofs.Common.{◌≡◌, ℕ, suc, ◌+◌, ◌-◌, ◌/◌, ◌%◌, ◌^◌, ◌<◌, ◌≤◌, List, [], ◌∷◌, ◌++◌, length, take, drop, set, insert, get_or, sym, ◌∙◌, ap, arith, append_assoc, length-append, length-drop}
use Rattle.std.proofs.Math.Seq.{drop-cons, set-append_seam, take-append_seam, drop-append_seam}
use Rattle.std.proofs.lemmas.List.{take-append-drop, length-take-le}
use Rattle.protobuf_writer.specs.Writing.{written, counted_bytes}
use Rattle.protobuf_writer.proofs.Numbers.{Writes, Writes-start, Writes-step, Writes-end, Writes-small}

-- of a count i bytes are put in, behind them a byte is free, and then the rest comes
pub record Counts (old : List ℕ) (at count i : ℕ) (out : List ℕ) (left : ℕ) : Type 0 where
  pub front : List ℕ
  pub free : ℕ
  pub is : out ≡ front ++ free ∷ drop (at + 1) old
  pub place : length front ≡ at + i
  pub writes : Writes (take at old) count i front left

at_free : (old : List ℕ) (at : ℕ) → at < length old → old ≡ take at old ++ get_or old at 0 ∷ drop (at + 1) old
at_free old at h =
    sym (take-append-drop at old) ∙ ap (λ s. take at old ++ s) (drop-cons old at 0 h ∙ ap (λ k. get_or old at 0 ∷ drop k old) (let e : suc at ≡ at + 1 = omega arith in e))

pub Counts-start : (old : List ℕ) (at count : ℕ) → at < length old → count < 2 ^ 64 → Counts old at count 0 old count
Counts-start old at count h g = record {
  front = take at old;
  free = get_or old at 0;
  is = at_free old at h;
  place = length-take-le at old (omega arith) ∙ (let e : at ≡ at + 0 = omega arith in e);
  writes = Writes-start (take at old) count g;
}

inserted : (front rest : List ℕ) (free d k : ℕ) → length front ≡ k → insert (front ++ free ∷ rest) k d ≡ (front ++ d ∷ []) ++ free ∷ rest
inserted front rest free d k e =
    let xs : List ℕ = front ++ free ∷ rest in
    ap (λ n. take n xs ++ d ∷ drop n xs) (sym e) ∙ ap (λ s. s ++ d ∷ drop (length front) xs) (take-append_seam front (free ∷ rest))
    ∙ ap (λ s. front ++ d ∷ s) (drop-append_seam front (free ∷ rest)) ∙ sym (append_assoc front (d ∷ []) (free ∷ rest))

pub Counts-step : (old : List ℕ) (at count i : ℕ) (out new : List ℕ) (left : ℕ) → Counts old at count i out left → i < 9 → 128 ≤ left
    → new ≡ insert out (at + i) (left % 128 + 128) → Counts old at count (i + 1) new (left / 128)
Counts-step old at count i out new left c h g e = record {
  front = c.front ++ (left % 128 + 128) ∷ [];
  free = c.free;
  is = e ∙ ap (λ s. insert s (at + i) (left % 128 + 128)) c.is ∙ inserted c.front (drop (at + 1) old) c.free (left % 128 + 128) (at + i) c.place;
  place = length-append c.front ((left % 128 + 128) ∷ []) ∙ (let p : length c.front ≡ at + i = c.place in omega (arith, p));
  writes = Writes-step (take at old) count i c.front left c.writes h g;
}

put : (front rest : List ℕ) (free d k : ℕ) → length front ≡ k → set (front ++ free ∷ rest) k d ≡ (front ++ d ∷ []) ++ rest
put front rest free d k e =
    ap (λ n. set (front ++ free ∷ rest) n d) (sym e) ∙ set-append_seam front free rest d ∙ sym (append_assoc front (d ∷ []) rest)

pub Counts-end : (old : List ℕ) (at count i : ℕ) (out new : List ℕ) (left : ℕ) → Counts old at count i out left → i ≤ 9 → left < 128
    → new ≡ set out (at + i) left → new ≡ take at old ++ (written 10 count ++ drop (at + 1) old)
Counts-end old at count i out new left c h g e =
    e ∙ ap (λ s. set s (at + i) left) c.is ∙ put c.front (drop (at + 1) old) c.free left (at + i) c.place
    ∙ ap (λ s. s ++ drop (at + 1) old) (Writes-end (take at old) count i c.front left c.writes h g)
    ∙ append_assoc (take at old) (written 10 count) (drop (at + 1) old)

-- a count of one byte
pub counted-short : (old : List ℕ) (at count : ℕ) (new : List ℕ) → at < length old → count ≡ length old - at - 1 → count < 128
    → new ≡ set old at count → new ≡ take at old ++ counted_bytes (drop (at + 1) old)
counted-short old at count new h e g is =
    let n : count ≡ length (drop (at + 1) old) = omega (arith, length-drop (at + 1) old) in
    Counts-end old at count 0 old new count (Counts-start old at count h (omega arith)) (omega arith) g (is ∙ ap (λ k. set old k count) (let p : at ≡ at + 0 = omega arith in p))
    ∙ ap (λ k. take at old ++ (written 10 k ++ drop (at + 1) old)) n

-- behind nine bytes one bit is left
pub Counts-small : (old : List ℕ) (at count i : ℕ) (out : List ℕ) (left : ℕ) → Counts old at count i out left → i ≡ 9 → left < 128
Counts-small old at count i out left c e = Writes-small (take at old) count i c.front left c.writes e

pub Counts-last : (old : List ℕ) (at count i : ℕ) (out new : List ℕ) (left : ℕ) → Counts old at count i out left → i ≡ 9
    → new ≡ set out (at + 9) left → new ≡ take at old ++ (written 10 count ++ drop (at + 1) old)
Counts-last old at count i out new left c e h =
    Counts-end old at count i out new left c (omega arith) (Counts-small old at count i out left c e) (h ∙ ap (λ k. set out (at + k) left) (sym e))
