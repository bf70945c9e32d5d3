use Rattle.std.proofs.Common.{Bool, T, sym, subst}
use Rattle.std.specs.Float.{binary64}
use lib.Ieee.Bits.{of_bits-to_bits}
use Rattle.span_block.proofs.value.double_bits.Goals as goal

pub returns-clause-back : goal.returns-clause-back
returns-clause-back c = of_bits-to_bits binary64 c.args.double (subst (λ (b : Bool). T b) (sym c.well_formed.0.1) tt)
