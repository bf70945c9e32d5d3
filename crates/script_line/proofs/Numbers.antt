-- Connections stay apart.
-- For the law `connections_stay_apart`, and the clause `lane` of `connection_number`.
use Rattle.std.proofs.Common.{◌≡◌, ◌<◌, ◌%◌, ◌/◌, ℕ, Option, Some, None, IfSome, ap, sym, ◌∙◌}
use Rattle.std.proofs.lemmas.Nat.{div-mul-add, mod-mul-add}
use Rattle.span_ids.specs.declared.keys.ConnKey.{ConnKey}
use Rattle.script_line.specs.Connections.{ConnectionsStayApart, number_of}

abbrev key : ℕ → ℕ → ConnKey
key lane ordinal = record { lane = lane; ordinal = ordinal }

same-key : (a b : ConnKey) → a.lane ≡ b.lane → a.ordinal ≡ b.ordinal → a ≡ b
same-key a b lane ordinal = ap (λ (l : ℕ). key l a.ordinal) lane ∙ ap (λ (o : ℕ). key b.lane o) ordinal

-- the number's lane
pub lane-is : (lanes : ℕ) (of : ConnKey) (r : Option ℕ) → IfSome r (λ number. number ≡ number_of lanes of) → of.lane < lanes → IfSome r (λ number. number % lanes ≡ of.lane)
lane-is lanes of None h below = tt
lane-is lanes of (Some number) h below = ap (λ (n : ℕ). n % lanes) h ∙ mod-mul-add of.ordinal lanes of.lane below

pub apart : ConnectionsStayApart
apart lanes a b i j e =
    same-key a b
    (sym (mod-mul-add a.ordinal lanes a.lane i) ∙ ap (λ (n : ℕ). n % lanes) e ∙ mod-mul-add b.ordinal lanes b.lane j)
    (sym (div-mul-add a.ordinal lanes a.lane i) ∙ ap (λ (n : ℕ). n / lanes) e ∙ div-mul-add b.ordinal lanes b.lane j)
