-- Turns, one after the other, by induction over them.
-- For the contract of `turns_write_all`.
use Rattle.std.proofs.Common.{◌≡◌, ℕ, List, [], ◌∷◌, ◌++◌, Option, sym, ap, subst, ◌∙◌, append-nil, arith}
use Rattle.std.specs.List.{flat_map}
use Rattle.std.specs.Io.KnownBytes.{Appends}
use Rattle.std.proofs.KnownBytes.{Appends-nil, Appends-trans}
use Rattle.std.proofs.lemmas.Grind.{flat_map-append, common_steps}
use Rattle.line_writing.specs.Filling.{TakenEntry, lines_put}
use Rattle.line_writing.specs.Turns.{TurnsWriteAll}

joined : (before first between rest after written more : List ℕ) → before ++ first ≡ written ++ between → between ++ rest ≡ more ++ after → before ++ (first ++ rest) ≡ (written ++ more) ++ after
joined before first between rest after written more one all = grind (arith, common_steps, one, all)

pub turns_write_all : {S T : Type 0} (gives : S → Option T → S → Type 0) (is_line : T → List ℕ → Type 0) → TurnsWriteAll gives is_line
turns_write_all gives is_line old new [] same =
    ([], subst (λ s. Appends old.output s.output []) (sym same) (Appends-nil old.output), append-nil old.left ∙ ap (λ s. s.left) (sym same))
turns_write_all {T} gives is_line old new (entries ∷ turns) all =
    let turn = all.1.2 in
    let first : old.left ++ lines_put entries ≡ turn.written ++ all.0.left = subst (λ (es : List (TakenEntry T)). old.left ++ lines_put es ≡ turn.written ++ all.0.left) all.1.3 turn.split in
    let rest = turns_write_all gives is_line all.0 new turns all.2 in (
      turn.written ++ rest.0,
      Appends-trans old.output all.0.output new.output turn.written rest.0 turn.takes rest.1,
      rw flat_map-append (joined old.left (lines_put entries) all.0.left (lines_put (flat_map (λ turn. turn) turns)) new.left turn.written rest.0 first rest.2),
    )
