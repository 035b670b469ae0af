-- The blocks of several families, each once; checks of the listed clauses are checks of all clauses of the group.
use Rattle.std.proofs.Common.{◌≡◌, ℕ, List, [], ◌∷◌, refl, sym, ap, ◌∙◌, subst, inl, inr}
use Rattle.std.specs.Prelude.{Option, Some, None, ◌⊎◌, ◌↔◌}
use Rattle.lf.specs.Entries.{Entry, signature_of}
use Rattle.lf.specs.Variables.{target}
use Rattle.lf.specs.Subordination.{Block, Member}
use Rattle.lf_checks.specs.Clause.{Clause, IsClause}
use Rattle.lf_checks.specs.Clauses.{NamedClause, group_clauses}
use Rattle.lf_checks.specs.Faults.{AllPass}
use Rattle.lf_checks.specs.OrderFaults.{or_no_blocks, blocks_of, EachOnce, no_more, again, for_the_first_time, AreJoined}
use Rattle.lf_checks.specs.WorldFaults.{WorldRow, worlds_of}
use Rattle.lf_checks.proofs.Listed.{listed, member_left, member_right, member_either}

-- Joined blocks.

once_listed : (seen xs W : List Block) → EachOnce seen xs W → (B : Block) → Member B W → Member B xs
once_listed seen [] W no_more B m = m
once_listed seen (D ∷ xs) W (again s h) B m = inr (once_listed seen xs W h B m)
once_listed seen (D ∷ xs) (X ∷ W) (for_the_first_time n h) B (inl e) = inl e
once_listed seen (D ∷ xs) (X ∷ W) (for_the_first_time n h) B (inr m) = inr (once_listed (D ∷ seen) xs W h B m)

listed_once : (seen xs W : List Block) → EachOnce seen xs W → (B : Block) → Member B xs → Member B W ⊎ Member B seen
listed_once seen [] W no_more B m = absurd m
listed_once seen (D ∷ xs) W (again s h) B (inl e) = inr (subst (λ X. Member X seen) (sym e) s)
listed_once seen (D ∷ xs) W (again s h) B (inr m) = listed_once seen xs W h B m
listed_once seen (D ∷ xs) (X ∷ W) (for_the_first_time n h) B (inl e) = inl (inl e)
listed_once seen (D ∷ xs) (X ∷ W) (for_the_first_time n h) B (inr m) = by (listed_once (D ∷ seen) xs W h B m)
  where
    by : Member B W ⊎ Member B (D ∷ seen) → Member B (D ∷ W) ⊎ Member B seen
    by (inl k) = inl (inr k)
    by (inr (inl e)) = inl (inl e)
    by (inr (inr k)) = inr k

pub one_join : (seen xs W V : List Block) → EachOnce seen xs W → EachOnce seen xs V → W ≡ V
one_join seen [] W V no_more no_more = refl
one_join seen (D ∷ xs) W V (again s h) (again t k) = one_join seen xs W V h k
one_join seen (D ∷ xs) W (Y ∷ V) (again s h) (for_the_first_time n k) = absurd (n s)
one_join seen (D ∷ xs) (X ∷ W) V (for_the_first_time n h) (again s k) = absurd (n s)
one_join seen (D ∷ xs) (X ∷ W) (Y ∷ V) (for_the_first_time n h) (for_the_first_time n' k) = ap (λ Z. D ∷ Z) (one_join (D ∷ seen) xs W V h k)

abbrev IsOfFamilies : List WorldRow → List ℕ → Block → Type 0
IsOfFamilies rows families B = (f : ℕ) × Member f families × (V : List Block) × (worlds_of rows f ≡ Some V) × Member B V

module _ (rows : List WorldRow) where
  of_family : (families : List ℕ) (B : Block) → Member B (blocks_of rows families) → IsOfFamilies rows families B
  of_family [] B m = absurd m
  of_family (f ∷ families) B m = by (member_either B (or_no_blocks (worlds_of rows f)) (blocks_of rows families) m) (of_family families B)
    where
      here : (o : Option (List Block)) → worlds_of rows f ≡ o → Member B (or_no_blocks o) → IsOfFamilies rows (f ∷ families) B
      here (Some V) e m = (f, inl refl, V, e, m)
      here None e m = absurd m

      by : Member B (or_no_blocks (worlds_of rows f)) ⊎ Member B (blocks_of rows families) → (Member B (blocks_of rows families) → IsOfFamilies rows families B) → IsOfFamilies rows (f ∷ families) B
      by (inl m) g = here (worlds_of rows f) refl m
      by (inr m) g = let (h, i, V, e, k) = g m in (h, inr i, V, e, k)

  family_of : (families : List ℕ) (B : Block) → IsOfFamilies rows families B → Member B (blocks_of rows families)
  family_of [] B (f, i, V, e, m) = absurd i
  family_of (g ∷ families) B (f, inl q, V, e, m) = member_left B (or_no_blocks (worlds_of rows g)) (blocks_of rows families) (subst (λ o. Member B (or_no_blocks o)) (sym (ap (worlds_of rows) (sym q) ∙ e)) m)
  family_of (g ∷ families) B (f, inr i, V, e, m) = member_right B (or_no_blocks (worlds_of rows g)) (blocks_of rows families) (family_of families B (f, i, V, e, m))

  pub joined_blocks : (families : List ℕ) (W : List Block) → AreJoined rows families W → (B : Block) → Member B W ↔ ((f : ℕ) × Member f families × (V : List Block) × (worlds_of rows f ≡ Some V) × Member B V)
  joined_blocks families W h B = ((λ m. of_family families B (once_listed [] (blocks_of rows families) W h B m)), (λ i. elim (listed_once [] (blocks_of rows families) W h B (family_of families B i)) [ inl m ↦ m | inr m ↦ absurd m ]))

-- Listed clauses.

module _ (P : Clause → Type 0) where
  each_passes : (clauses : List NamedClause) → AllPass P clauses → (n : NamedClause) → Member n clauses → P n.clause
  each_passes [] h n m = absurd m
  each_passes (x ∷ clauses) h n (inl e) = subst (λ y. P y.clause) (sym e) h.0
  each_passes (x ∷ clauses) h n (inr m) = each_passes clauses h.1 n m

  passes_each : (clauses : List NamedClause) → ((n : NamedClause) → Member n clauses → P n.clause) → AllPass P clauses
  passes_each [] f = tt
  passes_each (x ∷ clauses) f = (f x (inl refl), passes_each clauses (λ n m. f n (inr m)))

  pub group_passes : (es : List Entry) (W : List Block) (group : List ℕ) → AllPass P (group_clauses es W group) ↔ ((c : Clause) → IsClause (signature_of es) W c → Member (target c.type) group → P c)
  group_passes es W group = (there, back)
    where
      there : AllPass P (group_clauses es W group) → (c : Clause) → IsClause (signature_of es) W c → Member (target c.type) group → P c
      there h c i m = let (n, k, e) = (listed es W group c).0 (i, m) in subst P e (each_passes (group_clauses es W group) h n k)

      back : ((c : Clause) → IsClause (signature_of es) W c → Member (target c.type) group → P c) → AllPass P (group_clauses es W group)
      back f = passes_each (group_clauses es W group) (λ n m. let (i, k) = (listed es W group n.clause).1 (n, m, refl) in f n.clause i k)
