use Rattle.tests_texts.proofs.tokens.+push_declarations.Given as goal

abbrev pub decreases-push_declarations : goal.decreases-push_declarations
decreases-push_declarations l = l.most
