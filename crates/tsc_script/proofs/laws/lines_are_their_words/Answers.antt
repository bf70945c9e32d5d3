use Rattle.tsc_script.proofs.Words.{their_words}
use Rattle.tsc_script.proofs.laws.lines_are_their_words.Goals as goal

pub returns : goal.returns
returns c = their_words
