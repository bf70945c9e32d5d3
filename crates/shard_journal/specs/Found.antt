-- What a span finds, as the definitions say it.
use Rattle.journal_theory.specs.Journal.{Finding as FindingData, joins, meets, opens}
use Rattle.shard_journal.specs.declared.asked.Finding.{Finding}
use Rattle.shard_journal.specs.declared.asked.Finding.TheVariants.{Joins as AsJoins, Meets as AsMeets, Opens as AsOpens}
use Rattle.shard_journal.specs.declared.finding.FoundTrace.{FoundTrace}
use Rattle.shard_journal.specs.declared.finding.FoundTrace.TheVariants.{Joins, Meets, Opens}

-- the finding that the program's one stands for
abbrev pub the_finding : FoundTrace → FindingData
the_finding (Joins o) = joins o
the_finding (Meets o v) = meets o v
the_finding Opens = opens

-- what a caller is told of a finding
abbrev pub kind_of : FindingData → Finding
kind_of (joins o) = AsJoins
kind_of (meets o v) = AsMeets v
kind_of opens = AsOpens
