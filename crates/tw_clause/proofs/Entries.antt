-- The parts of a clause are those of its type; the clause of an entry by its number.
use Rattle.std.proofs.Common.{◌≡◌, ℕ, zero, suc, ◌+◌, ◌<◌, List, [], ◌∷◌, ◌++◌, length, refl, sym, ap, ap₂, ◌∙◌, subst, arith, inl, inr, true≢false}
use Rattle.std.specs.Prelude.{Bool, true, false, cond, Some, option_map, slice_get}
use Rattle.lf.specs.Syntax.{LfType}
use Rattle.lf.specs.Subordination.{Block, Member}
use Rattle.lf.specs.Variables.{same_number, target, target_arguments, everything}
use Rattle.lf.specs.Syntax.{rename_spine}
use Rattle.lf_checks.specs.Clause.{Clause, entry_clause, is_variable}
use Rattle.lf_checks.specs.Clauses.{of_entry, NamedClause, named_entry, entry_clauses, block_clauses}
use Rattle.lf_checks.specs.Parts.{Parts, parts, shape, count_below}
use Rattle.lf_checks.proofs.Listed.{member_left, member_right, same_self}
use Rattle.lf_checks.proofs.Reach.{number_equal}
use Rattle.tw_clause.specs.Entries.{entry_clause_at}
use Rattle.tw_clause.specs.View.{type_parts}
use Rattle.tw_clause.proofs.Walks.{variables_taken, subgoals_taken}

-- the parts of a type, with these variables and subgoals
abbrev pub parts_with : LfType → List LfType → List LfType → Parts
parts_with A vs gs = record { variables = vs; shape = shape A; family = target A; head = rename_spine (count_below (is_variable everything A)) (target_arguments A); subgoals = gs }

pub parts_of_type : (c : Clause) → parts c ≡ type_parts c.type
parts_of_type c = ap₂ (parts_with c.type) (sym (variables_taken c.type c.outer) ∙ variables_taken c.type []) (sym (subgoals_taken c.type c.outer) ∙ subgoals_taken c.type [])

-- Entry k is the one with as many newer ones as its place says.

other_number : (m k i : ℕ) → suc i + k ≡ suc m → same_number (suc m) k ≡ false
other_number m k i e = by (same_number (suc m) k) refl
  where
    by : (b : Bool) → same_number (suc m) k ≡ b → b ≡ false
    by true q = let n = number_equal (suc m) k q in absurd (omega (arith, n, e))
    by false q = refl

pub entry_found : (B : Block) (es : List LfType) (k i : ℕ) (E : LfType) → 0 < k → i + k ≡ length es → slice_get es i ≡ Some E → option_map parts (entry_clause_at B k es) ≡ Some (type_parts E)
entry_found B [] k i E z l e = absurd (omega (arith, z, l))
entry_found B (X ∷ es) k zero E z l e =
    let n : suc (length es) ≡ k = omega (arith, l) in
    let same : X ≡ E = cc in
    ap (λ b. option_map parts (cond b (Some (entry_clause B es X)) (entry_clause_at B k es))) (ap (same_number (suc (length es))) (sym n) ∙ same_self (suc (length es)))
    ∙ ap Some (parts_of_type (entry_clause B es X) ∙ ap type_parts same)
entry_found B (X ∷ es) k (suc i) E z l e =
    ap (λ b. option_map parts (cond b (Some (entry_clause B es X)) (entry_clause_at B k es))) (other_number (length es) k i l)
    ∙ entry_found B es k i E z (omega (arith, l)) e

-- An entry is listed.
abbrev named : Block → ℕ → Clause → NamedClause
named B k c = record { name = of_entry B.label k; clause = c }

in_entries : (B : Block) (k : ℕ) (c : Clause) (es : List LfType) → entry_clause_at B k es ≡ Some c → Member (named B k c) (entry_clauses B (target c.type) es)
in_entries B k c [] e = absurd cc
in_entries B k c (E ∷ es) e = by (same_number (suc (length es)) k) refl (same_number (target E) (target c.type)) refl (in_entries B k c es) e
  where
    by : (b : Bool) → same_number (suc (length es)) k ≡ b → (t : Bool) → same_number (target E) (target c.type) ≡ t → (entry_clause_at B k es ≡ Some c → Member (named B k c) (entry_clauses B (target c.type) es)) → cond b (Some (entry_clause B es E)) (entry_clause_at B k es) ≡ Some c → Member (named B k c) (cond t (entry_clauses B (target c.type) es ++ named_entry B es E ∷ []) (entry_clauses B (target c.type) es))
    by true q true r h f =
        let g : entry_clause B es E ≡ c = cc in
        member_right (named B k c) (entry_clauses B (target c.type) es) (named_entry B es E ∷ []) (inl (ap₂ (λ n d. record { name = of_entry B.label n; clause = d }) (sym (number_equal (suc (length es)) k q)) (sym g)))
    by true q false r h f =
        let g : entry_clause B es E ≡ c = cc in
        let yes : same_number (target E) (target c.type) ≡ true = ap (λ d. same_number (target d.type) (target c.type)) g ∙ same_self (target c.type) in
        absurd (true≢false (sym yes ∙ r))
    by false q true r h f = member_left (named B k c) (entry_clauses B (target c.type) es) (named_entry B es E ∷ []) (h f)
    by false q false r h f = h f

pub entry_listed : (B : Block) (W : List Block) (k : ℕ) (c : Clause) → Member B W → entry_clause_at B k B.entries ≡ Some c → Member (record { name = of_entry B.label k; clause = c }) (block_clauses W (target c.type))
entry_listed B [] k c m e = absurd m
entry_listed B (X ∷ W) k c (inl q) e = member_left (named B k c) (entry_clauses X (target c.type) X.entries) (block_clauses W (target c.type)) (subst (λ Y. Member (named B k c) (entry_clauses Y (target c.type) Y.entries)) q (in_entries B k c B.entries e))
entry_listed B (X ∷ W) k c (inr m) e = member_right (named B k c) (entry_clauses X (target c.type) X.entries) (block_clauses W (target c.type)) (entry_listed B W k c m e)
