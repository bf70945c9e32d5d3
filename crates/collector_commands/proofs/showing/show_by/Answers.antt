use Rattle.collector_commands.specs.Showing.{body_of}
use Rattle.collector_commands.proofs.Bodies.{is_read}
use Rattle.collector_commands.proofs.showing.show_by.Goals as goal

pub returns : goal.returns
returns g c = (
  body_of (λ v. v.items) c.read_body.result,
  is_read (λ v. v.items) (g.I.Read.remaining c.args.around.input) c.read_body.result c.read_body.ensures.whole c.read_body.ensures.too_long,
  c.shown_of-outcome.ensures,
)
