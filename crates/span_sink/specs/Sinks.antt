-- A sink over a writer.
use Rattle.std.specs.Prelude.{ℕ, Option, List}

-- the bytes that the writer took, where they are known, and how many writes have failed
pub record SinkState : Type 0 where
  pub taken : Option (List ℕ)
  pub failures : ℕ
