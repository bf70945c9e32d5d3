-- Rows of the format by computation. The bytes come from a program of some lines that shares nothing with this crate.
use Rattle.std.proofs.Common.{◌≡◌, ℕ, List, [], ◌∷◌, ◌++◌, take, replicate, set, refl}
use Rattle.ledger_file.specs.Checksum.{after_byte, checksum}
use Rattle.ledger_file.specs.Format.{claimed, payload, is_whole, records_past, front, parameters_of, is_ledger, records_of}

-- the check value of CRC-32C: "123456789"
crc_check : checksum 0xFFFFFFFF (49 ∷ 50 ∷ 51 ∷ 52 ∷ 53 ∷ 54 ∷ 55 ∷ 56 ∷ 57 ∷ []) ≡ 0xE3069283
unfolding checksum after_byte
crc_check = refl

-- RFC 3720, appendix B.4: 32 bytes of zeros
crc_zeros : checksum 0xFFFFFFFF (replicate 32 0) ≡ 0x8A9136AA
unfolding checksum after_byte
crc_zeros = refl

-- parameters 7, records "AB" and none, and a shut gate
sample : List ℕ
sample = 116 ∷ 115 ∷ 99 ∷ 108 ∷ 101 ∷ 100 ∷ 103 ∷ 1 ∷ 1 ∷ 0 ∷ 0 ∷ 0 ∷ 7 ∷ 1 ∷ 2 ∷ 0 ∷ 0 ∷ 0 ∷ 19 ∷ 85 ∷ 68 ∷ 31 ∷ 65 ∷ 66 ∷ 1 ∷ 0 ∷ 0 ∷ 0 ∷ 0 ∷ 233 ∷ 118 ∷ 44 ∷ 38 ∷ 0 ∷ []

sample_front : front (7 ∷ []) ((65 ∷ 66 ∷ []) ∷ [] ∷ []) ++ 0 ∷ [] ≡ sample
unfolding sample after_byte checksum
sample_front = refl

sample_found : records_of sample ≡ (65 ∷ 66 ∷ []) ∷ [] ∷ []
unfolding sample after_byte checksum claimed payload is_whole records_past parameters_of is_ledger records_of
sample_found = refl

sample_parameters : parameters_of sample ≡ 7 ∷ []
unfolding sample parameters_of
sample_parameters = refl

-- cut within the second record, at the end of the first, and within it
cut_second : records_of (take 32 sample) ≡ (65 ∷ 66 ∷ []) ∷ []
unfolding sample after_byte checksum claimed payload is_whole records_past parameters_of is_ledger records_of
cut_second = refl

cut_between : records_of (take 24 sample) ≡ (65 ∷ 66 ∷ []) ∷ []
unfolding sample after_byte checksum claimed payload is_whole records_past parameters_of is_ledger records_of
cut_between = refl

cut_first : records_of (take 23 sample) ≡ []
unfolding sample after_byte checksum claimed payload is_whole records_past parameters_of is_ledger records_of
cut_first = refl

-- a byte of the first record turned, its gate shut, its length longer, a byte of the parameters turned: nothing is found behind
turned : records_of (set sample 22 64) ≡ []
unfolding sample after_byte checksum claimed payload is_whole records_past parameters_of is_ledger records_of
turned = refl

shut : records_of (set sample 13 0) ≡ []
unfolding sample after_byte checksum claimed payload is_whole records_past parameters_of is_ledger records_of
shut = refl

longer : records_of (set sample 14 3) ≡ []
unfolding sample after_byte checksum claimed payload is_whole records_past parameters_of is_ledger records_of
longer = refl

other_file : records_of (set sample 12 8) ≡ []
unfolding sample after_byte checksum claimed payload is_whole records_past parameters_of is_ledger records_of
other_file = refl

other_magic : records_of (set sample 7 2) ≡ []
unfolding sample after_byte checksum claimed payload is_whole records_past parameters_of is_ledger records_of
other_magic = refl
