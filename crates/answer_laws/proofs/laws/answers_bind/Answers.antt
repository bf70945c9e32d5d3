use Rattle.answer_laws.proofs.Binding.{answers_bind}
use Rattle.answer_laws.proofs.laws.answers_bind.Goals as goal

pub returns : goal.returns
returns g c = answers_bind (λ s. s.allowed) (λ s. s.driver) g.D.Driver.asks g.D.Driver.hears
