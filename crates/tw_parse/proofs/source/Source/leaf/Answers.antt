use Rattle.tw_parse.specs.Sources.{lexemes_from}
use Rattle.tw_parse.proofs.Leaves.{name_leaf, hole_leaf, star_leaf}
use Rattle.tw_parse.proofs.source.Source.leaf.Goals as goal

pub returns-in_ok-name-in-Name-clause-leaf : goal.returns-in_ok-name-in-Name-clause-leaf
returns-in_ok-name-in-Name-clause-leaf c =
    name_leaf c.args.self.now.end (lexemes_from c.args.self.now c.args.number) c.in_ok-name-in-Name.name c.place.result c.in-Name.ensures.word c.in_ok-name-in-Name.ensures c.place.ensures

pub returns-in-Underscore-clause-leaf : goal.returns-in-Underscore-clause-leaf
returns-in-Underscore-clause-leaf c = hole_leaf c.args.self.now.end (lexemes_from c.args.self.now c.args.number) c.place-in-Underscore.result c.in-Underscore.ensures.word c.place-in-Underscore.ensures

pub returns-in-Star-clause-leaf : goal.returns-in-Star-clause-leaf
returns-in-Star-clause-leaf c = star_leaf c.args.self.now.end (lexemes_from c.args.self.now c.args.number) c.in-Star.ensures.word
