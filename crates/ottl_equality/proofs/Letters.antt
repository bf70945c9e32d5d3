-- The first byte of letters that two letters begin.
-- For encoded::decoded.
use Rattle.std.proofs.Common.{◌≡◌, ℕ, List, ◌∷◌, Some, ap}
use Rattle.ottl_equality.specs.declared.encoded.Part.TheVariants.{First, Second, Third}
use Rattle.ottl_equality.specs.Encoded.{sextet, byte_in, before, bytes_from, parted}

module _ (s behind rest : List ℕ) (c d b : ℕ) (e : s ≡ c ∷ behind) (f : behind ≡ d ∷ rest) where
  pub first : Some b ≡ byte_in First (sextet c) (sextet d) → Some (b, bytes_from Second behind) ≡ parted (bytes_from First s)
  first g = rw (e, f) (ap (λ o. parted (before o (bytes_from Second (d ∷ rest)))) g)

  pub second : Some b ≡ byte_in Second (sextet c) (sextet d) → Some (b, bytes_from Third behind) ≡ parted (bytes_from Second s)
  second g = rw (e, f) (ap (λ o. parted (before o (bytes_from Third (d ∷ rest)))) g)

  pub third : Some b ≡ byte_in Third (sextet c) (sextet d) → Some (b, bytes_from First rest) ≡ parted (bytes_from Third s)
  third g = rw (e, f) (ap (λ o. parted (before o (bytes_from First rest))) g)
