-- What a lane serves, from its last connection back to its first.
-- For the clause `served` of `serve_all`.
use Rattle.std.proofs.Common.{◌≡◌, ℕ, ◌-◌, ◌^◌, Bool, true, false, List, [], ◌∷◌, Option, Some, None, inl, inr, MatchBool, refl, sym, subst}
use Rattle.http_lane.specs.declared.answer.ServeEnd.{ServeEnd}
use Rattle.lane_worker.specs.Serving.{Connection, LaneAt, ServedOne, ServesAll, HasServed, is_overflow}

module _ {F X : Type 0} (gives : F → Option X → F → Type 0) (known : X → Connection) (capacity : ℕ) where
  pub served_none : (old new : F) (lane : LaneAt) → gives old None new → HasServed gives known capacity old lane new lane false
  served_none old new lane h = ([], (inl h, refl, refl))

  pub served_most : (old : F) (lane : LaneAt) → lane.lane.connected ≡ 2 ^ 64 - 1 → HasServed gives known capacity old lane old lane false
  served_most old lane h = ([], (inr (h, refl), refl, refl))

  pub served_full : (old new : F) (before after : LaneAt) (x : X) (end : ServeEnd) → gives old (Some x) new → ServedOne capacity (known x) before after end → is_overflow end ≡ true
      → HasServed gives known capacity old before new after true
  served_full old new before after x end h one full =
      let last : MatchBool (is_overflow end) (([] ≡ []) × (new ≡ new) × (after ≡ after) × (true ≡ true)) (ServesAll gives known capacity [] new after new after true) = rw full (refl, refl, refl, refl) in
      (x ∷ [], (new, after, end, h, one, last))

  pub served_more : (old mid new : F) (before between after : LaneAt) (is_full : Bool) (x : X) (end : ServeEnd) → gives old (Some x) mid → ServedOne capacity (known x) before between end → is_overflow end ≡ false
      → HasServed gives known capacity mid between new after is_full → HasServed gives known capacity old before new after is_full
  served_more old mid new before between after is_full x end h one goes_on rest =
      let last : MatchBool (is_overflow end) ((rest.0 ≡ []) × (new ≡ mid) × (after ≡ between) × (is_full ≡ true)) (ServesAll gives known capacity rest.0 mid between new after is_full) = rw goes_on rest.1 in
      (x ∷ rest.0, (mid, between, end, h, one, last))
