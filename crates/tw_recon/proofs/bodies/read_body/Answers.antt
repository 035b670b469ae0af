use Rattle.tw_recon.proofs.bodies.read_body.Goals as goal

pub read_type-requires-clause-quantifiers : goal.read_type-requires-clause-quantifiers
read_type-requires-clause-quantifiers c = c.requires.quantifiers

pub read_term-requires-clause-quantifiers : goal.read_term-requires-clause-quantifiers
read_term-requires-clause-quantifiers c = c.requires.quantifiers

pub read_type-requires-in-Definition-clause-quantifiers : goal.read_type-requires-in-Definition-clause-quantifiers
read_type-requires-in-Definition-clause-quantifiers c = c.requires.quantifiers
