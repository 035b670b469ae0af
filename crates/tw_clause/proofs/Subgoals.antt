-- The subgoals among the parts are those of the clause, and there are no others.
use Rattle.std.proofs.Common.{◌≡◌, ℕ, zero, suc, List, [], ◌∷◌, refl, sym, ap, ◌∙◌, subst}
use Rattle.std.specs.Prelude.{Some, ◌↔◌}
use Rattle.lf.specs.Syntax.{LfType, rename_type}
use Rattle.lf.specs.Typing.{TypeAt}
use Rattle.lf_checks.specs.Clause.{Clause, scope, IsSubgoal}
use Rattle.lf_checks.specs.Parts.{numbered, parts, subgoal_at, subgoals, types_at, variable_number, with_subgoal}
use Rattle.lf_checks.proofs.Numbered.{number_of, part_found, type_found}

one_further : (j : ℕ) (is : List ℕ) (l n : ℕ) → numbered is l ≡ Some n → numbered (j ∷ is) (suc l) ≡ Some n
one_further j [] zero n q = absurd cc
one_further j (i ∷ is) zero n q = absurd cc
one_further j is (suc l) n q = q

-- where there is a type of this number, there is an index of this number
index_found : (ρ : ℕ → ℕ) (G : List LfType) (is : List ℕ) → ((l i : ℕ) → numbered is l ≡ Some i → (A : LfType) × TypeAt G i A) → (k : ℕ) (B : LfType) → numbered (types_at ρ G is) k ≡ Some B → (i : ℕ) × (numbered is k ≡ Some i)
index_found ρ G [] all k B e = absurd cc
index_found ρ G (j ∷ is) all k B e =
    let (X, x) = all 1 j refl in
    by X k (subst (λ o. numbered (with_subgoal ρ o (types_at ρ G is)) k ≡ Some B) (type_found G j X x) e) (index_found ρ G is (λ l n q. all (suc l) n (one_further j is l n q)))
  where
    by : (X : LfType) (k : ℕ) → numbered (rename_type ρ X ∷ types_at ρ G is) k ≡ Some B → ((k : ℕ) (B : LfType) → numbered (types_at ρ G is) k ≡ Some B → (i : ℕ) × (numbered is k ≡ Some i)) → (i : ℕ) × (numbered (j ∷ is) k ≡ Some i)
    by X zero h f = absurd cc
    by X (suc zero) h f = (j, refl)
    by X (suc (suc k)) h f = f (suc k) B h

some_equal : {A B : LfType} → Some A ≡ Some B → A ≡ B
some_equal e = cc

pub subgoals_read : (c : Clause) (k : ℕ) (B : LfType) → (numbered (parts c).subgoals k ≡ Some B) ↔ ((i : ℕ) × (A : LfType) × IsSubgoal c i A × (subgoal_at c k ≡ Some i) × (B ≡ rename_type (variable_number c) A))
subgoals_read c k B = (there, λ (i, A, s, e, q). part_found c k i A e s.1 ∙ ap Some (sym q))
  where
    there : numbered (parts c).subgoals k ≡ Some B → (i : ℕ) × (A : LfType) × IsSubgoal c i A × (subgoal_at c k ≡ Some i) × (B ≡ rename_type (variable_number c) A)
    there h =
        let (i, e) = index_found (variable_number c) (scope c) (subgoals c) (λ l n q. let (p, (X, s)) = number_of c l n q in (X, s.1)) k B h in
        let (p, (A, s)) = number_of c k i e in
        (i, A, s, e, some_equal (sym h ∙ part_found c k i A e s.1))
