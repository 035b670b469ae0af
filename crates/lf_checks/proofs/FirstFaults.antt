-- There is at most one first fault, and none where all pass.
use Rattle.std.proofs.Common.{◌≡◌, ℕ, ◌<◌, List, [], ◌∷◌, sym, ◌∙◌, subst, inl, inr}
use Rattle.std.specs.Prelude.{Some, ◌⊎◌}
use Rattle.lf.specs.Syntax.{LfType}
use Rattle.lf_checks.specs.Clause.{Clause}
use Rattle.lf_checks.specs.Clauses.{ClauseName, NamedClause}
use Rattle.lf_checks.specs.Faults.{AllPass, FirstFault, here, later, EachPasses, FirstSubgoal}
use Rattle.lf_checks.specs.Parts.{subgoal_at}
use Rattle.lf_checks.proofs.Numbered.{one_number, three_ways}

module _ {Place : Type 0} (Passes : Clause → Type 0) (Fails : Clause → Place → Type 0) (apart : (c : Clause) (at : Place) → Fails c at → Passes c → ⊥) where
  pub excludes : (clauses : List NamedClause) (name : ClauseName) (at : Place) → FirstFault Passes Fails clauses name at → AllPass Passes clauses → ⊥
  excludes [] name at f p = elim f [ ]
  excludes (n ∷ clauses) name at (here e f) p = apart n.clause at f p.0
  excludes (n ∷ clauses) name at (later q f) p = excludes clauses name at f p.1

  pub one_fault : ((c : Clause) (at at' : Place) → Fails c at → Fails c at' → at ≡ at') → (clauses : List NamedClause) (name name' : ClauseName) (at at' : Place) → FirstFault Passes Fails clauses name at → FirstFault Passes Fails clauses name' at' → (name ≡ name') × (at ≡ at')
  one_fault one [] name name' at at' f g = elim f [ ]
  one_fault one (n ∷ clauses) name name' at at' (here e f) (here e' f') = (sym e ∙ e', one n.clause at at' f f')
  one_fault one (n ∷ clauses) name name' at at' (here e f) (later q g) = absurd (apart n.clause at f q)
  one_fault one (n ∷ clauses) name name' at at' (later q g) (here e f) = absurd (apart n.clause at' f q)
  one_fault one (n ∷ clauses) name name' at at' (later q g) (later q' g') = one_fault one clauses name name' at at' g g'

module _ (P : LfType → Type 0) (c : Clause) where
  pub subgoal_refutes : (k : ℕ) → FirstSubgoal P c k → EachPasses P c → ⊥
  subgoal_refutes k f h = f.fails (h f.index f.subgoal f.is_subgoal)

  pub one_subgoal : (k l : ℕ) → FirstSubgoal P c k → FirstSubgoal P c l → k ≡ l
  one_subgoal k l f g = by (three_ways f.index g.index)
    where
      by : (f.index < g.index) ⊎ (f.index ≡ g.index) ⊎ (g.index < f.index) → k ≡ l
      by (inl u) = absurd (f.fails (g.before f.index f.subgoal u f.is_subgoal))
      by (inr (inl e)) = one_number c k l f.index f.stands (subst (λ i. subgoal_at c l ≡ Some i) (sym e) g.stands)
      by (inr (inr u)) = absurd (g.fails (f.before g.index g.subgoal u g.is_subgoal))
