use Rattle.tw_search.proofs.engine.forget.Goals as goal

pub returns-then-not-is_at : goal.returns-then-not-is_at
returns-then-not-is_at c = λ y e. c.forget.ensures y.now
