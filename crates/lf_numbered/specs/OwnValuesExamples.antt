-- Worked examples of values on own terms.
use Rattle.std.specs.Prelude.{◌≡◌, ℕ, zero, suc, List, [], ◌∷◌, Option, Some, None}
use Rattle.lf.specs.Syntax.{metavariable, Term, Spine, lambda, root, nil, app, LfType, pi}
use Rattle.lf.specs.Substitution.{keep}
use Rattle.lf.specs.Typing.{Signature, HasType}
use Rattle.lf_totality.specs.Examples.{nat, var}
use Rattle.lf_totality.specs.ExamplesGroups.{on_one}
use Rattle.lf_totality.specs.ExamplesBlocks.{Numbered, numbered_block}
use Rattle.lf_unification.specs.OpenTyping.{set_at}
use Rattle.lf_unification.specs.Steps.{Step}
use Rattle.lf_unification.specs.Unifiers.{ExtendsFilling, Solution, Store}
use Rattle.lf_numbered.specs.EntryConstants.{with_entries}
use Rattle.lf_numbered.specs.OwnTerms.{own_terms, OnOwnTerms}
use Rattle.lf_numbered.specs.ExamplesEntries.{entry_on, on_variable}
use Rattle.lf_numbered.specs.OwnValues.{ValuesOnOwnTerms}
use Rattle.lf_numbered.specs.OwnValuesReading.{ReadsBack, AreReadAs}
use Rattle.lf_numbered.specs.Reading.{read, entry_reading}

-- A block variable b of some {n:nat} block {x:t n} {u:a n} gives b.x : {n:nat} t n, the constant 4.
abbrev pub Entries : Signature
Entries = with_entries Numbered 4 (numbered_block ∷ [])

-- The metavariables N : nat, X : t N and M : {y:nat} t N, with the numbers 0 to 2
abbrev pub given_number : Term
given_number = root (metavariable 0) nil

abbrev pub three_types : ℕ → Option LfType
three_types zero = Some nat
three_types (suc zero) = Some (on_one 1 given_number)
three_types (suc (suc zero)) = Some (pi nat (on_one 1 given_number))
three_types (suc (suc (suc m))) = None

-- and the equation [y:nat] X = M y.
abbrev pub unpruned : Store
unpruned = record {
  metavariables = three_types;
  bindings = [];
  equations = record { local = nat ∷ []; left = root (metavariable 1) nil; right = root (metavariable 2) (app (var 0) nil); of_type = on_one 1 given_number } ∷ [];
}

-- M loses y: it is [y] M' with M' : t N, the number 3.
abbrev pub four_types : ℕ → Option LfType
four_types = set_at 3 (Some (on_one 1 given_number)) three_types

abbrev pub once_pruned : Store
once_pruned = record { metavariables = four_types; bindings = record { of = 2; value = lambda (root (metavariable 3) nil) } ∷ []; equations = unpruned.equations }

-- In the context {k:nat}: N is k, X is b.x k, and M is [y] b.x k.
abbrev pub entry_filling : ℕ → Option Term
entry_filling zero = Some (var 0)
entry_filling (suc zero) = Some (entry_on (var 0))
entry_filling (suc (suc zero)) = Some (lambda (entry_on (var 1)))
entry_filling (suc (suc (suc m))) = None

-- b stands on k.
abbrev pub on_k : ℕ → Option Spine
on_k = own_terms 4 on_variable

-- The values stand on own terms; those of each typed unifier of the pruned store that has them do too, and there is one. The value [y] b.x y, of type
-- {y:nat} t y, isn't on own terms.
abbrev pub PrunedStaysOnOwnTerms : Type 0
PrunedStaysOnOwnTerms = Step Entries unpruned once_pruned × Solution Entries [] unpruned (nat ∷ []) entry_filling × ValuesOnOwnTerms on_k three_types entry_filling × ((β : ℕ → Option Term) → ExtendsFilling three_types entry_filling β → Solution Entries [] once_pruned (nat ∷ []) β → (β 3 ≡ Some (entry_on (var 0))) × ValuesOnOwnTerms on_k four_types β) × ((β : ℕ → Option Term) × ExtendsFilling three_types entry_filling β × Solution Entries [] once_pruned (nat ∷ []) β) × (OnOwnTerms on_k (lambda (entry_on (var 0))) → ⊥)

-- In the context {k:nat} {x:t k} {u:a k}, where b is the instance x, u and so stands on k, the term [y] b.x k of type {y:nat} t k is read back as [y] x.
abbrev pub with_instance : List LfType
with_instance = on_one 2 (var 1) ∷ on_one 1 (var 0) ∷ nat ∷ []

abbrev pub on_outer : ℕ → Option Spine
on_outer = own_terms 4 (record { block = numbered_block; terms = app (var 2) nil } ∷ [])

abbrev pub as_instance : ℕ → Option (ℕ × ℕ)
as_instance = entry_reading 4 (numbered_block ∷ []) (λ k i. keep i) 0

abbrev pub EntryIsReadBack : Type 0
EntryIsReadBack = ReadsBack Numbered Numbered 4 (numbered_block ∷ []) with_instance with_instance as_instance on_outer (λ i. i) × AreReadAs 4 (numbered_block ∷ []) as_instance (λ i. i) (λ k i. keep i) × OnOwnTerms on_outer (lambda (entry_on (var 3))) × HasType Entries with_instance (lambda (entry_on (var 3))) (pi nat (on_one 1 (var 3))) × (read as_instance (lambda (entry_on (var 3))) ≡ lambda (var 2)) × HasType Numbered with_instance (lambda (var 2)) (pi nat (on_one 1 (var 3)))
