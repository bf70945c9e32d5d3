-- From a compiled regular expression to what its text means.
use Rattle.std.proofs.Common.{◌≡◌, ◌≢◌, ℕ, ◌<◌, ◌≤◌, true, false, List, chars, Option, None, Some, IsSomeAnd, IfSome, is_some, refl, inl, inr, arith, get_or, le-leb, length, ap}
use Rattle.std.proofs.lemmas.Bool.Decides.{nat_tests}
use Rattle.regex_hir.specs.Meaning.{meaning}
use Rattle.regex_hir.specs.declared.hir.Hir.{Hir}
use Rattle.regex_syntax.specs.Brackets.{Nested}
use Rattle.regex_syntax.specs.Grammar.{Names, group_count, read}
use Rattle.regex_syntax.specs.declared.error.ErrorKind.{ErrorKind}
use Rattle.regex_syntax.specs.declared.error.ErrorKind.TheVariants.{OutOfMemory}
use Rattle.regex.specs.Patterns.{Re, SameCaptures, find_str, default_config, Reads, Refuses}
use Rattle.regex.specs.Strings.{regex_pattern, regex_source, regex_config, IsReadFromSource}
use Rattle.regex.specs.declared.string.regex.Regex.{Regex}
use Rattle.regex.proofs.OnLiterals.{IsReadAs, same_refl, is_match_as_written}
use Rattle.expression.specs.Expressions.{is_read, has_match, is_expression, is_match, MatchesAs}

-- what the grammar reads is an expression
pub expression-of-reads : (text : List ℕ) (hir : Hir) (names : Names) → Reads default_config text hir names → is_expression text ≡ true
unfolding Reads is_expression
expression-of-reads text hir names = by_depth (read default_config (chars text))
  where
    by_depth : (o : Option (Nested Re × Names)) → IsSomeAnd o (λ (re, found). (re.depth ≤ 250) × SameCaptures (meaning hir) re.value × (names ≡ found) × (group_count (meaning hir) ≤ length names)) → is_read o ≡ true
    by_depth None reads = absurd reads
    by_depth (Some (re, found)) reads = le-leb _ _ reads.0

module _ (r : Regex) (text : List ℕ) (is_source : regex_source r ≡ text) (is_config : regex_config r ≡ default_config) (is_read_so : IsReadFromSource r) where
  by_read : (value : List ℕ) → ((k : ℕ) → get_or value k 0 < 256) → (o : Option (Nested Re × Names)) → read default_config (chars text) ≡ o →
      is_some (find_str (regex_pattern r) value 0) ≡ has_match o value
  unfolding Reads
  by_read value bytes None e = absurd (rw e at (rw (is_source, is_config) at is_read_so))
  by_read value bytes (Some (re, names)) e =
      let written : IsReadAs default_config text re.value = rw e (same_refl re.value) in
      is_match_as_written r _ _ is_source is_config is_read_so written value bytes 0

  -- its matches are those of its text
  pub matches-as : MatchesAs text (regex_pattern r)
  unfolding MatchesAs is_match
  matches-as value bytes = by_read value bytes _ refl

  -- its text is an expression
  pub is-expression : is_expression text ≡ true
  is-expression = expression-of-reads text _ _ (rw (is_source, is_config) at is_read_so)

-- what the grammar refuses, but for want of memory, is no expression
pub refused : (text : List ℕ) (kind : ErrorKind) → Refuses default_config text kind → kind ≢ OutOfMemory → is_expression text ≡ false
unfolding is_expression Refuses
refused text kind (inl none) not_memory = absurd (not_memory none)
refused text kind (inr (inl unread)) not_memory = ap is_read unread
refused text kind (inr (inr (_, deep))) not_memory = too_deep (read default_config (chars text)) deep
  where
    too_deep : (o : Option (Nested Re × Names)) → IfSome o (λ (re, _). 250 < re.depth) → is_read o ≡ false
    too_deep None d = refl
    too_deep (Some (re, names)) d = grind (arith, nat_tests, d)
