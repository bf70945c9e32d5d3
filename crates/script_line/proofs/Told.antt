-- The line of a request in its pieces, and its length.
-- For the contract of `append_receive`.
use Rattle.std.proofs.Common.{◌≡◌, ◌≤◌, ◌+◌, ◌-◌, ◌∷◌, ◌++◌, [], ℕ, List, ap, append_assoc, arith, codes, length, length-append, map, sym, ◌∙◌}
use Rattle.std.proofs.lemmas.List.{length-map}
use Rattle.std.specs.Prelude.{decimal, ◌==◌, ◌||◌, if◌then◌else◌}
use Rattle.script_line.specs.Line.{on_one_line, receive_line}
use Rattle.script_line.proofs.Appended.{one-behind}

-- a line with its line feed, by its words and by its pieces
same : (connection moment body : List ℕ) → (codes "recv " ++ connection) ++ ((codes " " ++ moment) ++ (codes " " ++ (body ++ codes "\n")))
    ≡ (codes "recv " ++ (connection ++ 32 ∷ (moment ++ 32 ∷ body))) ++ 10 ∷ []
same connection moment body =
    sym (ap (λ (l : List ℕ). codes "recv " ++ l)
    (append_assoc connection (32 ∷ (moment ++ 32 ∷ body)) (10 ∷ []) ∙ ap (λ (l : List ℕ). connection ++ 32 ∷ l) (append_assoc moment (32 ∷ body) (10 ∷ []))))

-- the pieces, one behind the other, are the line and its line feed
pub line-of-pieces : (old a b c d new : List ℕ) (connection moment : ℕ) (body : List ℕ) → a ≡ old ++ (codes "recv " ++ decimal connection) → b ≡ a ++ (codes " " ++ decimal moment)
    → c ≡ b ++ codes " " → d ≡ c ++ on_one_line body → new ≡ d ++ codes "\n" → new ≡ old ++ (receive_line connection moment body ++ 10 ∷ [])
line-of-pieces old a b c d new connection moment body first second third fourth fifth =
    one-behind old a new (codes "recv " ++ decimal connection) _ first
    (one-behind a b new (codes " " ++ decimal moment) _ second
    (one-behind b c new (codes " ") _ third
    (one-behind c d new (on_one_line body) (codes "\n") fourth fifth)))
    ∙ ap (λ (l : List ℕ). old ++ l) (same (decimal connection) (decimal moment) (on_one_line body))

-- the pieces before the body
pub head-of-pieces : (old a b c : List ℕ) (connection moment : ℕ) → a ≡ old ++ (codes "recv " ++ decimal connection) → b ≡ a ++ (codes " " ++ decimal moment) → c ≡ b ++ codes " "
    → c ≡ old ++ ((codes "recv " ++ decimal connection) ++ ((codes " " ++ decimal moment) ++ codes " "))
head-of-pieces old a b c connection moment first second third = one-behind old a c _ _ first (one-behind a b c _ _ second third)

-- the line is as long as the pieces before the body, and the body
sized : (old c connection moment body : List ℕ) → c ≡ old ++ ((codes "recv " ++ connection) ++ ((codes " " ++ moment) ++ codes " "))
    → length (codes "recv " ++ (connection ++ 32 ∷ (moment ++ 32 ∷ body))) ≡ (length c - length old) + length body
sized old c connection moment body e =
    omega (
      arith,
      ap length e,
      length-append old ((codes "recv " ++ connection) ++ ((codes " " ++ moment) ++ codes " ")),
      length-append (codes "recv " ++ connection) ((codes " " ++ moment) ++ codes " "),
      length-append (codes " " ++ moment) (codes " "),
      length-append connection (32 ∷ (moment ++ 32 ∷ body)),
      length-append moment (32 ∷ body),
    )

pub line-length : (old a b c : List ℕ) (connection moment : ℕ) (body : List ℕ) → a ≡ old ++ (codes "recv " ++ decimal connection) → b ≡ a ++ (codes " " ++ decimal moment) → c ≡ b ++ codes " "
    → length (receive_line connection moment body) ≡ (length c - length old) + length body
line-length old a b c connection moment body first second third =
    sized old c (decimal connection) (decimal moment) (on_one_line body) (head-of-pieces old a b c connection moment first second third)
    ∙ ap (λ (n : ℕ). (length c - length old) + n) (length-map body (λ byte. if byte == 10 || byte == 13 then 32 else byte))
