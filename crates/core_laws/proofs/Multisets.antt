-- Two lists that have each key equally often are equally long.
-- For the law `counts_add_up`.
use Rattle.std.proofs.Common.{◌≡◌, ℕ, ◌+◌, ◌<◌, Bool, true, false, cond, List, [], ◌∷◌, ◌++◌, length, length-append, refl, ap, arith}
use Rattle.span_ids.specs.declared.keys.ArrivalKey.{ArrivalKey}
use Rattle.world_theory.specs.World.{same_key}
use Rattle.journal_theory.proofs.ListFacts.{tally, tally-append}
use Rattle.world_theory.proofs.Single.{same_key_is, key_self}

-- how often a key stands in a list
abbrev pub often : ArrivalKey → List ArrivalKey → ℕ
often k keys = tally (λ (x : ArrivalKey). same_key x k) keys

-- an element that passes, with what stands before and behind it
record Hit (k : ArrivalKey) (keys : List ArrivalKey) : Type 0 where
  front : List ArrivalKey
  back : List ArrivalKey
  is : keys ≡ front ++ k ∷ back

hit : (k : ArrivalKey) (keys : List ArrivalKey) → 0 < often k keys → Hit k keys
hit k [] h = absurd (omega arith)
hit k (x ∷ keys) h = go (same_key x k) refl h (hit k keys)
  where
    go : (b : Bool) → same_key x k ≡ b → 0 < cond b 1 0 + often k keys → (0 < often k keys → Hit k keys) → Hit k (x ∷ keys)
    go true e h more = record { front = []; back = keys; is = ap (λ (y : ArrivalKey). y ∷ keys) (same_key_is x k e) }
    go false e h more = let m = more (omega arith) in record { front = x ∷ m.front; back = m.back; is = ap (λ (ys : List ArrivalKey). x ∷ ys) m.is }

pub same_length : (xs ys : List ArrivalKey) → ((k : ArrivalKey) → often k xs ≡ often k ys) → length xs ≡ length ys
same_length [] [] h = refl
same_length [] (y ∷ ys) h =
    let own : cond (same_key y y) 1 0 ≡ 1 = ap (λ (b : Bool). cond {A = ℕ} b 1 0) (key_self y) in absurd (omega (arith, h y, own))
same_length (x ∷ xs) ys h =
    let own : cond (same_key x x) 1 0 ≡ 1 = ap (λ (b : Bool). cond {A = ℕ} b 1 0) (key_self x) in
    let at = hit x ys (omega (arith, h x, own)) in
    let rest = same_length xs (at.front ++ at.back) (λ k.
    let e = ap (often k) at.is in
    omega (arith, h k, e, tally-append (λ (z : ArrivalKey). same_key z k) at.front (x ∷ at.back), tally-append (λ (z : ArrivalKey). same_key z k) at.front at.back)) in
    omega (arith, rest, ap (λ (zs : List ArrivalKey). length zs) at.is, length-append at.front (x ∷ at.back), length-append at.front at.back)
