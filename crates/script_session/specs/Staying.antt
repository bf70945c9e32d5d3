-- Where no span is pulled and none is counted, an exporter and its report stay as they were: a law of `Output`.
use Rattle.std.proofs.Common.{◌≡◌, ℕ, ◌+◌, List, [], Option, Some, None, refl, sym, arith, append-nil}
use Rattle.std.specs.Prelude.{slice_index}
use Rattle.span_ids.specs.declared.outcome.Reason.{Reason}
use Rattle.drop_ledger.specs.Places.{place_of}
use Rattle.drop_ledger.specs.declared.count.Count.{Count}
use Rattle.drop_ledger.specs.declared.count.Count.TheVariants.{Received, Handed, Dropped}
use Rattle.script_session.specs.Adding.{Adds, at_reasons}
use Rattle.script_session.specs.Pulling.{Export, PullsAll, GoesOn}

plus-zero : (n f : ℕ) → f ≡ 0 → n ≡ n + f
plus-zero n f e = omega arith

-- what stays of the exporter stays where nothing is done
pub goes-on : (e : Export) → GoesOn e e
goes-on e = (refl, λ down. down)

pub Adds-none : (r : Option (List ℕ)) (f : Count → ℕ) → ((k : Count) → f k ≡ 0) → Adds r f r
Adds-none None f z = refl
Adds-none (Some r) f z = (refl, λ k. (plus-zero (slice_index r (place_of k)) (f k) (z k), λ l. l))

pub PullsAll-none : (e : Export) (f : Reason → ℕ) → ((k : Count) → at_reasons f k ≡ 0) → PullsAll e [] f e
PullsAll-none e f none = record {
  batches = [];
  full = tt;
  are_all = sym (append-nil e.0.batch);
  sends = refl;
  adds = Adds-none e.1 _ (λ k. let z = none k in omega (arith, z));
  size = refl;
  ends = refl;
}

none-counted : (dropped : Reason → ℕ) → ((reason : Reason) → dropped reason ≡ 0) → (k : Count) → at_reasons dropped k ≡ 0
none-counted dropped none Received = refl
none-counted dropped none Handed = refl
none-counted dropped none (Dropped reason) = none reason

pub pulls-none : (e : Export) (dropped : Reason → ℕ) → ((reason : Reason) → dropped reason ≡ 0) → PullsAll e [] dropped e
pulls-none e dropped none = PullsAll-none e dropped (none-counted dropped none)
