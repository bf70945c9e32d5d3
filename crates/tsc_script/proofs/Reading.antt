-- Laws of lines and of what is left to read.
-- For the contracts of `length_of_line`, `play_script` and `read_line`.
use Rattle.memchr.specs.Find.{Nowhere, Passes, is_byte}
use Rattle.std.proofs.Common.{◌≡◌, ℕ, List, [], ◌∷◌, ◌++◌, sym, ap, ◌∙◌, append_assoc, take, zero, suc, arith}
use Rattle.tsc_script.specs.Lines.{HasNoLineFeed}

pub HasNoLineFeed-append : (xs ys : List ℕ) → HasNoLineFeed xs → HasNoLineFeed ys → HasNoLineFeed (xs ++ ys)
HasNoLineFeed-append [] ys p q = q
HasNoLineFeed-append (x ∷ xs) ys p q = (p.0, HasNoLineFeed-append xs ys p.1 q)

-- bytes before the first line feed
pub no-line-feed : (bytes : List ℕ) (n : ℕ) → Nowhere (Passes (is_byte 10) bytes) 0 n → HasNoLineFeed (take n bytes)
no-line-feed [] zero h = tt
no-line-feed [] (suc n) h = tt
no-line-feed (b ∷ bytes) zero h = tt
no-line-feed (b ∷ bytes) (suc n) h = (λ is. h 0 (omega arith) (omega arith) (rw is), no-line-feed bytes n (λ k low high passes. h (suc k) (omega arith) (omega arith) passes))

-- the buffer's part goes to the line, and a refill fills the buffer again
pub refilled : (start given line bytes part more : List ℕ) → start ++ given ≡ line ++ bytes → bytes ≡ part → start ++ (given ++ more) ≡ (line ++ part) ++ more
refilled start given line bytes part more e p =
    sym (append_assoc start given more) ∙ ap (λ (l : List ℕ). l ++ more) (e ∙ ap (λ (l : List ℕ). line ++ l) p)
