-- Connections of some runs stay apart.
-- For the law `pending_stay_apart`.
use Rattle.std.proofs.Common.{◌≡◌, ◌+◌, ◌*◌, ◌%◌, ◌/◌, ℕ, ap, sym, ◌∙◌}
use Rattle.std.proofs.lemmas.Nat.{div-mul-add, mod-mul-add}
use Rattle.span_ids.specs.declared.keys.ConnKey.{ConnKey}
use Rattle.script_line.specs.Connections.{ConnectionsStayApart}
use Rattle.ledger_text.specs.Connections.{PendingStayApart, among_runs}

abbrev key : ℕ → ℕ → ConnKey
key lane ordinal = record { lane = lane; ordinal = ordinal }

same-key : (a b : ConnKey) → a.lane ≡ b.lane → a.ordinal ≡ b.ordinal → a ≡ b
same-key a b lane ordinal = ap (λ (l : ℕ). key l a.ordinal) lane ∙ ap (λ (o : ℕ). key b.lane o) ordinal

pub apart : ConnectionsStayApart → PendingStayApart
apart connections runs lanes r s a b i j p q e =
    let one : among_runs runs r a ≡ among_runs runs s b = connections lanes (among_runs runs r a) (among_runs runs s b) p q e in
    let ordinals : a.ordinal * runs + r ≡ b.ordinal * runs + s = ap (λ (k : ConnKey). k.ordinal) one in (
      sym (mod-mul-add a.ordinal runs r i) ∙ ap (λ (n : ℕ). n % runs) ordinals ∙ mod-mul-add b.ordinal runs s j,
      same-key a b (ap (λ (k : ConnKey). k.lane) one)
          (sym (div-mul-add a.ordinal runs r i) ∙ ap (λ (n : ℕ). n / runs) ordinals ∙ div-mul-add b.ordinal runs s j),
    )
