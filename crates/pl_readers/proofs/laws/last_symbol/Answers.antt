use Rattle.pl_readers.proofs.Probe.{goes-on, is-whole, goes-deeper, goes-nowhere}
use Rattle.pl_readers.proofs.laws.last_symbol.Goals as goal

pub returns-clause-wants_more : goal.returns-clause-wants_more
returns-clause-wants_more g c goes reads n xs s e z = goes-on g.P.LeveledFormat.texts goes g.P.LeveledFormat.reader reads n xs s e z

pub returns-clause-is_whole : goal.returns-clause-is_whole
returns-clause-is_whole g c goes reads n xs a e = is-whole g.P.LeveledFormat.texts goes g.P.LeveledFormat.reader reads n xs a e

pub returns-clause-is_deep : goal.returns-clause-is_deep
returns-clause-is_deep g c goes reads n xs s e d z = goes-deeper g.P.LeveledFormat.texts goes g.P.LeveledFormat.reader reads n xs s e d z

pub returns-clause-is_refused : goal.returns-clause-is_refused
returns-clause-is_refused g c goes reads agrees n m xs s e d z some v = goes-nowhere g.P.LeveledFormat.texts goes g.P.LeveledFormat.reader reads agrees n m xs s e d z some v
