use Rattle.std.proofs.Common.{string_bytes}
use Rattle.config_text.proofs.Texts.{reads_the_same, tells_each}
use Rattle.config_text.proofs.writing.settings_in_force.Goals as goal

pub returns-in-Some-clause-reads : goal.returns-in-Some-clause-reads
returns-in-Some-clause-reads c =
    let back = rw c.in-Some.is at c.in_ok-whole-in-Ok.ensures.back in
    reads_the_same c.args.text.now (string_bytes c.in-Some.whole) _ c.in-Ok.ensures.ok back

pub returns-in-Some-clause-whole : goal.returns-in-Some-clause-whole
returns-in-Some-clause-whole c =
    let back = rw c.in-Some.is at c.in_ok-whole-in-Ok.ensures.back in
    tells_each c.args.text.now (string_bytes c.in-Some.whole) _ c.in-Ok.ensures.ok back
