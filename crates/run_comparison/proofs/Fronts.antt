-- Services that get places stand behind those that have one.
-- For the clauses `front` of `place` and `place_all`, and `same` of `make_room`, and for `truncate`.
use Rattle.std.proofs.Common.{◌≡◌, ◌∙◌, ℕ, Global, List, String, length, map, string_bytes, take, sym, ap, arith}
use Rattle.std.proofs.lemmas.List.{take-map, take-take}
use Rattle.run_comparison.specs.Services.{Services, KeepsFront}

-- what two in a row keep
pub front_goes_on : (first second third : Services) → KeepsFront first second → KeepsFront second third → KeepsFront first third
front_goes_on first second third h k = record {
  front = sym (take-take (length first.names) (length second.names) third.names h.grows) ∙ ap (take (length first.names)) k.front ∙ h.front;
  grows = omega (arith, h.grows, k.grows);
  spans = k.spans ∙ h.spans;
  beyond = k.beyond ∙ h.beyond;
}

-- without those that came behind, all is as it was
pub front_back : (old new : Services) → KeepsFront old new → ◌≡◌ {A = Services} (record { names = take (length old.names) new.names; spans = new.spans; beyond = new.beyond }) old
front_back old new h = λ i. record { names = h.front i; spans = h.spans i; beyond = h.beyond i }

-- the names of those that are kept
pub names_taken : (n : ℕ) (names : List (String Global)) → map string_bytes (take n names) ≡ take n (map string_bytes names)
names_taken n names = sym (take-map string_bytes n names)
