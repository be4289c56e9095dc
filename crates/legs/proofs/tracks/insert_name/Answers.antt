use Rattle.legs.proofs.CountLemmas.{names_with-there, names_inserted}
use Rattle.legs.proofs.tracks.insert_name.Goals as goal

pub returns-then-contains-clause-names : goal.returns-then-contains-clause-names
returns-then-contains-clause-names c = names_with-there c.args.names.now.keys c.args.name.now c.contains.result c.contains.ensures c.if-contains.true

pub returns-clause-names : goal.returns-clause-names
returns-clause-names c = (names_inserted c.args.names.now.keys c.insert.new.self.keys c.in_ok-name.name c.args.name.now c.contains.result c.contains.ensures c.if-contains.false c.in_ok-name.ensures.ok c.in_ok-insert.ensures.keys).0

pub returns-clause-count : goal.returns-clause-count
returns-clause-count c = (names_inserted c.args.names.now.keys c.insert.new.self.keys c.in_ok-name.name c.args.name.now c.contains.result c.contains.ensures c.if-contains.false c.in_ok-name.ensures.ok c.in_ok-insert.ensures.keys).1
