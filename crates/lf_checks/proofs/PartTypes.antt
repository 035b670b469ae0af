-- The variables of a clause among its parts, and the number of a subgoal by a count.
use Rattle.std.proofs.Common.{◌≡◌, ℕ, zero, suc, ◌+◌, ◌<◌, ◌≤◌, List, [], ◌∷◌, refl, sym, ap, ◌∙◌, subst, arith, true≢false}
use Rattle.std.specs.Prelude.{Bool, true, false, not, cond, Some}
use Rattle.lf.specs.Syntax.{LfType, pi, atom, weaken, rename_type}
use Rattle.lf.specs.Typing.{TypeAt}
use Rattle.lf.specs.Entries.{quantifiers}
use Rattle.lf.specs.Variables.{binders, onto, everything}
use Rattle.lf.specs.Substitution.{reduce}
use Rattle.lf.proofs.TypeLaws.{renamings_compose_type, substitute_identity_type, substitution_as_renaming_type}
use Rattle.lf_checks.specs.Clause.{Clause, scope, variables, IsSubgoal}
use Rattle.lf_checks.specs.Parts.{count_below, past_first, kept_types, numbered, parts, subgoal_at, subgoals_among, variable_number}
use Rattle.lf_checks.proofs.Numbered.{all_outside, subgoal_inside}
use mathlib.Core.Path.{fun_ext}

two_counted : (a b : Bool) (n : ℕ) → cond b (suc (cond a (suc n) n)) (cond a (suc n) n) ≡ cond a (suc (cond b (suc n) n)) (cond b (suc n) n)
two_counted true true n = refl
two_counted true false n = refl
two_counted false true n = refl
two_counted false false n = refl

-- the first number counted on its own
count_first : (W : ℕ → Bool) (d : ℕ) → count_below W (suc d) ≡ cond (W zero) (suc (count_below (past_first W) d)) (count_below (past_first W) d)
count_first W zero = refl
count_first W (suc d) = ap (λ n. cond (W (suc d)) (suc n) n) (count_first W d) ∙ two_counted (W zero) (W (suc d)) (count_below (past_first W) d)

-- The number of a subgoal is one more than the number of subgoals before it.
number_counted : (V : ℕ → Bool) (n i : ℕ) (W : ℕ → Bool) → ((j k : ℕ) → k ≡ i + j → W j ≡ not (V k)) → (d x : ℕ) → x ≡ i + d → d < n → V x ≡ false → numbered (subgoals_among V n i) (suc (count_below W d)) ≡ Some x
number_counted V zero i W w d x e l v = absurd (omega arith)
number_counted V (suc n) i W w zero x e l v = by (V i) refl
  where
    by : (b : Bool) → V i ≡ b → numbered (cond b (subgoals_among V n (suc i)) (i ∷ subgoals_among V n (suc i))) 1 ≡ Some x
    by true q = let r : x ≡ i = omega arith in absurd (true≢false (sym q ∙ ap V (sym r) ∙ v))
    by false q = let r : i ≡ x = omega arith in ap Some r
number_counted V (suc n) i W w (suc d) x e l v = subst (λ k. numbered (subgoals_among V (suc n) i) (suc k) ≡ Some x) (sym (count_first W d)) (by (V i) (W zero) (w zero i (omega arith)) (number_counted V n (suc i) (past_first W) (λ j k q. w (suc j) k (omega arith)) d x (omega arith) (omega arith) v))
  where
    by : (b t : Bool) → t ≡ not b → numbered (subgoals_among V n (suc i)) (suc (count_below (past_first W) d)) ≡ Some x → numbered (cond b (subgoals_among V n (suc i)) (i ∷ subgoals_among V n (suc i))) (suc (cond t (suc (count_below (past_first W) d)) (count_below (past_first W) d))) ≡ Some x
    by true true q h = absurd cc
    by true false q h = h
    by false true q h = h
    by false false q h = absurd cc

pub counted_number : (c : Clause) (i : ℕ) (A : LfType) → IsSubgoal c i A → subgoal_at c (suc (count_below (λ j. not (variables c j)) i)) ≡ Some i
counted_number c i A s = number_counted (variables c) (quantifiers c.type) zero (λ j. not (variables c j)) (λ j k e. ap (λ n. not (variables c n)) (let q : j ≡ k = omega arith in q)) i i (omega arith) (subgoal_inside c i s.0) s.0

-- The variables.
abbrev past : ℕ → List LfType → List LfType
past zero G = G
past (suc n) [] = []
past (suc n) (A ∷ G) = past n G

past_of : (U : LfType) (X : List LfType) (n : ℕ) → past (quantifiers U + n) (binders X U) ≡ past n X
past_of (pi A B) X n = ap (λ k. past k (binders (A ∷ X) B)) (let e : suc (quantifiers B) + n ≡ quantifiers B + suc n = omega arith in e) ∙ past_of B (A ∷ X) (suc n)
past_of (atom a S) X n = ap (λ k. past k X) (let e : zero + n ≡ n = omega arith in e)

all_counted : (V : ℕ → Bool) → ((j : ℕ) → V j ≡ true) → (i : ℕ) → count_below V i ≡ i
all_counted V h zero = refl
all_counted V h (suc i) = ap (λ b. cond b (suc (count_below V i)) (count_below V i)) (h i) ∙ ap suc (all_counted V h i)

same_type : (A : LfType) → rename_type (λ i. i) A ≡ A
same_type A = sym (substitution_as_renaming_type reduce (λ i. i) A) ∙ substitute_identity_type reduce A

moved_in : (V : ℕ → Bool) (B : LfType) → V zero ≡ true → rename_type (count_below V) (weaken B) ≡ weaken (rename_type (count_below (past_first V)) B)
moved_in V B e = renamings_compose_type (count_below V) suc B ∙ ap (λ ρ. rename_type ρ B) (fun_ext (λ i. count_first V i ∙ ap (λ b. cond b (suc (count_below (past_first V) i)) (count_below (past_first V) i)) e)) ∙ sym (renamings_compose_type suc (count_below (past_first V)) B)

moved_out : (V : ℕ → Bool) (B : LfType) → V zero ≡ false → rename_type (count_below V) (weaken B) ≡ rename_type (count_below (past_first V)) B
moved_out V B e = renamings_compose_type (count_below V) suc B ∙ ap (λ ρ. rename_type ρ B) (fun_ext (λ i. count_first V i ∙ ap (λ b. cond b (suc (count_below (past_first V) i)) (count_below (past_first V) i)) e))

kept : (n : ℕ) (V : ℕ → Bool) (G : List LfType) → ((j : ℕ) → n ≤ j → V j ≡ true) → (i : ℕ) (A : LfType) → V i ≡ true → TypeAt G i A → TypeAt (onto (kept_types V n G) (past n G)) (count_below V i) (rename_type (count_below V) A)
kept zero V G h i A v t = subst (λ ρ. TypeAt G (ρ i) (rename_type ρ A)) (sym (fun_ext (all_counted V (λ j. h j (omega arith))))) (subst (TypeAt G i) (sym (same_type A)) t)
kept (suc n) V [] h i A v t = absurd t
kept (suc n) V (B ∷ G) h zero A v t = by (V zero) v
  where
    by : (b : Bool) → b ≡ true → TypeAt (onto (cond b (rename_type (count_below (past_first V)) B ∷ kept_types (past_first V) n G) (kept_types (past_first V) n G)) (past n G)) zero (rename_type (count_below V) A)
    by true e = ap (rename_type (count_below V)) t ∙ moved_in V B v
    by false e = absurd cc
kept (suc n) V (B ∷ G) h (suc i) A v (C, t, q) = by (V zero) refl (kept n (past_first V) G (λ j l. h (suc j) (omega arith)) i C v t)
  where
    by : (b : Bool) → V zero ≡ b → TypeAt (onto (kept_types (past_first V) n G) (past n G)) (count_below (past_first V) i) (rename_type (count_below (past_first V)) C) → TypeAt (onto (cond b (rename_type (count_below (past_first V)) B ∷ kept_types (past_first V) n G) (kept_types (past_first V) n G)) (past n G)) (count_below V (suc i)) (rename_type (count_below V) A)
    by true e k = subst (λ m. TypeAt (rename_type (count_below (past_first V)) B ∷ onto (kept_types (past_first V) n G) (past n G)) m (rename_type (count_below V) A)) (sym (count_first V i ∙ ap (λ b. cond b (suc (count_below (past_first V) i)) (count_below (past_first V) i)) e)) (rename_type (count_below (past_first V)) C, k, ap (rename_type (count_below V)) q ∙ moved_in V C e)
    by false e k = subst (λ m. TypeAt (onto (kept_types (past_first V) n G) (past n G)) m (rename_type (count_below V) A)) (sym (count_first V i ∙ ap (λ b. cond b (suc (count_below (past_first V) i)) (count_below (past_first V) i)) e)) (subst (TypeAt (onto (kept_types (past_first V) n G) (past n G)) (count_below (past_first V) i)) (sym (ap (rename_type (count_below V)) q ∙ moved_out V C e)) k)

pub kept_variable : (c : Clause) (i : ℕ) (A : LfType) → variables c i ≡ true → TypeAt (scope c) i A → TypeAt (onto (parts c).variables c.outer) (variable_number c i) (rename_type (variable_number c) A)
kept_variable c i A v t = subst (λ O. TypeAt (onto (parts c).variables O) (variable_number c i) (rename_type (variable_number c) A)) (ap (λ n. past n (scope c)) (let e : quantifiers c.type ≡ quantifiers c.type + zero = omega arith in e) ∙ past_of c.type c.outer zero) (kept (quantifiers c.type) (variables c) (scope c) (λ j l. all_outside c.type everything zero (λ k u. refl) j (omega arith)) i A v t)
