use Rattle.tw_abstract.proofs.Reordered.{term_reordered, type_reordered}
use Rattle.tw_abstract.proofs.generalizing_laws.another_order_renames.Goals as goal

pub returns : goal.returns
returns c = λ index index' ρ t k. (term_reordered index index' ρ t k _ (λ i h. h), type_reordered index index' ρ t k _ (λ i h. h))
