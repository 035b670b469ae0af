-- Worked examples of heads over the signature with entries, and of a new instance.
use Rattle.std.specs.Prelude.{◌+◌, List, [], ◌∷◌, Some}
use Rattle.lf.specs.Syntax.{constant, variable, metavariable, Term, root, nil, app}
use Rattle.lf.specs.Substitution.{keep}
use Rattle.lf_unification.specs.Putting.{PutsSome}
use Rattle.lf_totality.specs.Examples.{Copying, copy_block, nat, z}
use Rattle.lf_totality.specs.ExamplesBlocks.{numbered_block}
use Rattle.lf_numbered.specs.ExamplesEntries.{copy_entry_case, entry_on}
use Rattle.lf_numbered.specs.NewBlock.{with_new_block}
use Rattle.lf_numbered.specs.NewInstance.{AreApart, with_instance}
use Rattle.lf_numbered.specs.NumberedHeads.{IsNumberedHead}
use Rattle.lf_numbered.specs.OwnTerms.{BlockVariable, own_terms, OnOwnTerms}

-- In the context {x:exp} {u:cp x x}, where the block variable b of cp b.x _ stands for this instance, x is a head for exp: its constant is read as x.
-- lam is one, and cp-lam isn't.
abbrev pub EntryIsHead : Type 0
EntryIsHead = IsNumberedHead Copying 4 copy_entry_case (λ k. keep) 0 0 (variable 1) × IsNumberedHead Copying 4 copy_entry_case (λ k. keep) 0 0 (constant 0) × (IsNumberedHead Copying 4 copy_entry_case (λ k. keep) 0 0 (constant 1) → ⊥)

-- A second block variable that stands for another instance is apart from it; one that stands for the same isn't.
abbrev pub SecondIsApart : Type 0
SecondIsApart = AreApart (with_new_block copy_block copy_entry_case) (with_instance 1 (λ i. keep (i + 2)) (λ k. keep)) × (AreApart (with_new_block copy_block copy_entry_case) (with_instance 1 keep (λ k. keep)) → ⊥)

-- b is a block variable of some {n:nat} block {x:t n} {u:a n} on a metavariable X. Where X is bound to z, and this is put into b.x X, its entry stands on
-- own terms no more: those of b are then to be put in too.
abbrev pub unknown : Term
unknown = root (metavariable 0) nil

abbrev pub on_unknown : List BlockVariable
on_unknown = record { block = numbered_block; terms = app unknown nil } ∷ []

abbrev pub BindingMovesOwnTerms : Type 0
BindingMovesOwnTerms = PutsSome (λ m. Some nat) (record { of = 0; value = z } ∷ []) 0 (entry_on unknown) (entry_on z) × OnOwnTerms (own_terms 4 on_unknown) (entry_on unknown) × (OnOwnTerms (own_terms 4 on_unknown) (entry_on z) → ⊥)
