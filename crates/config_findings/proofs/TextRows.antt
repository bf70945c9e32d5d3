-- Worked rows: places in a text. No clause needs them: they show what `Texts` says, which code and contracts follow.
use Rattle.std.proofs.Common.{◌≡◌, [], ◌∷◌, map, codes, refl}
use Rattle.config_faults.specs.declared.keys.TableKind.TheVariants as table_is
use Rattle.config_findings.specs.Texts.{no_key_text, place_from}

-- at the start, behind three letters, behind a line feed, two, and a letter of two bytes
places : map (place_from 1 1) ([] ∷ codes "abc" ∷ codes "abc\n" ∷ codes "a\n\nbc" ∷ (195 ∷ 164 ∷ 98 ∷ []) ∷ []) ≡ (1, 1) ∷ (1, 4) ∷ (2, 1) ∷ (3, 3) ∷ (1, 3) ∷ []
places = refl

no_key : no_key_text (codes "decision_wait") table_is.Config (codes "decision_wait") ≡ codes "decision_wait: no such key; `decision_wait_ms` is"
no_key = refl
