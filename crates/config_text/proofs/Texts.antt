-- What is known of a text once its table was read, completed and written.
-- For the clauses of `settings_in_force`.
use Rattle.std.proofs.Common.{◌≡◌, ℕ, List, Some, sym, ap, ◌∙◌}
use Rattle.toml.specs.Data.{Members}
use Rattle.toml.specs.Parse.{parse_document}
use Rattle.tsc_config.specs.Reading.{reading, reading_of}
use Rattle.config_text.specs.Whole.{TellsEach, with_defaults}
use Rattle.config_text.proofs.SameReading.{same_reading}
use Rattle.config_text.proofs.Standing.{is_whole}

pub reads_the_same : (text written : List ℕ) (m : Members) → parse_document text ≡ Some m → parse_document written ≡ Some (with_defaults m) → reading written ≡ reading text
reads_the_same text written m e f = ap reading_of f ∙ same_reading m ∙ sym (ap reading_of e)

some_same : {A : Type 0} (a b : A) → Some a ≡ Some b → a ≡ b
some_same a b e = cc

pub tells_each : (text written : List ℕ) (m : Members) → parse_document text ≡ Some m → parse_document written ≡ Some (with_defaults m) → TellsEach text written
tells_each text written m e f other g w = (with_defaults m, f, is_whole m)
