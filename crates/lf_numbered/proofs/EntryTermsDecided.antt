-- Whether a case by number matches a pattern by terms is decided: its block variables are finitely many. So it is whether a case of inputs is an instance
-- of the head of a clause, and a goal of outputs one of its subgoal.
use Rattle.std.proofs.Common.{◌≡◌, ℕ, zero, suc, List, [], ◌∷◌, length, refl, sym, ap, ap₂, ◌∙◌, subst}
use Rattle.std.specs.Prelude.{Bool, true, false, Some, ◌↔◌}
use Rattle.lf.specs.Syntax.{Spine}
use Rattle.lf.specs.Substitution.{Image, keep, substitute_type, reduce}
use Rattle.lf.specs.Variables.{target_arguments, binders, everything}
use Rattle.lf.specs.Subordination.{Block}
use Rattle.lf_checks.specs.Clause.{Clause, scope, outside}
use Rattle.lf_checks.specs.Worlded.{IsTerm}
use Rattle.lf_checks.proofs.SmallerDecided.{is_true, same_type}
use Rattle.lf_cases.specs.Case.{covered_places}
use Rattle.lf_cases.specs.Cover.{before, AreTerms}
use Rattle.lf_cases.specs.Pattern.{Origin, of_constant, of_entry, Pattern, head_pattern, ground_in, is_given, origin}
use Rattle.lf_cases.proofs.OutputItems.{length_instance}
use Rattle.lf_coverage.proofs.Leaves.{head_is_typed}
use Rattle.lf_coverage.proofs.Matched.{own_type}
use Rattle.lf_coverage.proofs.MatchInstance.{all_decided, goal_decided, implied, same_decided, term_decided}
use Rattle.lf_numbered.specs.EntryPatterns.{variable_images}
use Rattle.lf_numbered.specs.EntryPatternsMatching.{placed_type}
use Rattle.lf_numbered.specs.EntryTerms.{IsTried, own_values, beside_values, MatchesWith, MatchesByNumber}
use Rattle.lf_numbered.specs.EntryTermsLaws.{NumberedHeadIsDecided, NumberedGoalIsDecided, NumberedHeadMatchIsLeaf, NumberedGoalMatchIsLeaf}
use Rattle.lf_numbered.specs.NumberedCase.{NumberedCase}
use Rattle.lf_numbered.specs.NumberedInstance.{block_at}
use Rattle.lf_numbered.specs.OwnTerms.{BlockVariable}
use Rattle.lf_numbered.proofs.EntryTermsComplete.{numbered_instance_matches_any}
use Rattle.lf_numbered.proofs.EntryTermsGoals.{goal_match_is_numbered_instance}
use Rattle.lf_numbered.proofs.EntryTermsHeads.{head_match_is_numbered_instance}
use native.Mathlib.Decide.{ℕ_discrete}

-- Blocks are the same or not.
same_list : {A : Type 0} → ((x y : A) → Dec (x ≡ y)) → (xs ys : List A) → Dec (xs ≡ ys)
same_list d [] [] = yes refl
same_list d [] (y ∷ ys) = no (λ e. cc)
same_list d (x ∷ xs) [] = no (λ e. cc)
same_list d (x ∷ xs) (y ∷ ys) = by (d x y) (same_list d xs ys)
  where
    by : Dec (x ≡ y) → Dec (xs ≡ ys) → Dec (x ∷ xs ≡ y ∷ ys)
    by (yes e) (yes q) = yes (ap₂ (λ z zs. z ∷ zs) e q)
    by (yes e) (no n) = no (λ q. n cc)
    by (no n) q = no (λ q. n cc)

pub same_block : (B D : Block) → Dec (B ≡ D)
same_block B D = by (same_list ℕ_discrete B.label D.label) (same_list same_type B.some D.some) (same_list same_type B.entries D.entries)
  where
    by : Dec (B.label ≡ D.label) → Dec (B.some ≡ D.some) → Dec (B.entries ≡ D.entries) → Dec (B ≡ D)
    by (yes l) (yes s) (yes e) = yes (ap (λ k. record { label = k; some = B.some; entries = B.entries }) l ∙ ap (λ k. record { label = D.label; some = k; entries = B.entries }) s ∙ ap (λ k. record { label = D.label; some = D.some; entries = k }) e)
    by (no n) s e = no (λ q. n (ap (λ (C : Block). C.label) q))
    by (yes l) (no n) e = no (λ q. n (ap (λ (C : Block). C.some) q))
    by (yes l) (yes s) (no n) = no (λ q. n (ap (λ (C : Block). C.entries) q))

-- one of the block variables
some_variable : (bs : List BlockVariable) (P : ℕ → BlockVariable → Type 0) → ((k : ℕ) (b : BlockVariable) → Dec (P k b)) → Dec ((k : ℕ) × (b : BlockVariable) × (block_at bs k ≡ Some b) × P k b)
some_variable [] P d = no (λ (k, b, e, q). cc)
some_variable (c ∷ bs) P d = by (d zero c) (some_variable bs (λ k. P (suc k)) (λ k b. d (suc k) b))
  where
    same : {b : BlockVariable} → Some c ≡ Some b → c ≡ b
    same e = cc

    first_or : (P zero c → ⊥) → (((k : ℕ) × (b : BlockVariable) × (block_at bs k ≡ Some b) × P (suc k) b) → ⊥) → (k : ℕ) (b : BlockVariable) → block_at (c ∷ bs) k ≡ Some b → P k b → ⊥
    first_or n m zero b e q = n (subst (P zero) (sym (same e)) q)
    first_or n m (suc k) b e q = m (k, b, e, q)

    by : Dec (P zero c) → Dec ((k : ℕ) × (b : BlockVariable) × (block_at bs k ≡ Some b) × P (suc k) b) → Dec ((k : ℕ) × (b : BlockVariable) × (block_at (c ∷ bs) k ≡ Some b) × P k b)
    by (yes q) r = yes (zero, c, refl, q)
    by (no n) (yes (k, b, e, q)) = yes (suc k, b, e, q)
    by (no n) (no m) = no (λ (k, b, e, q). first_or n m k b e q)

pub three_decided : {A B C : Type 0} → Dec A → Dec B → Dec C → Dec (A × B × C)
three_decided (yes a) (yes b) (yes c) = yes (a, b, c)
three_decided (no n) b c = no (λ h. n h.0)
three_decided (yes a) (no n) c = no (λ h. n h.1)
three_decided (yes a) (yes b) (no n) = no (λ h. n h.2)

-- something that is tried
tried_decided : (first : ℕ) (C : NumberedCase) {c : Clause} (o : Origin c) (b : Bool) (P : (ℕ → Image) → Type 0) → ((φ : ℕ → Image) → Dec (P φ)) → Dec ((φ : ℕ → Image) × IsTried first C o b φ × P φ)
tried_decided first C (of_constant U) b P d = by (d keep)
  where
    by : Dec (P keep) → Dec ((φ : ℕ → Image) × (φ ≡ keep) × P φ)
    by (yes q) = yes (keep, refl, q)
    by (no n) = no (λ (φ, e, q). n (subst P e q))
tried_decided first C (of_entry B later E es e) b P d = by (some_variable C.blocks Q (λ k v. three_decided (same_block v.block B) (implied (is_true b) (ℕ_discrete k zero)) (d (gives k v.terms))))
  where
    gives : ℕ → Spine → ℕ → Image
    gives k U = before later (variable_images first C.blocks k B U)

    Q : ℕ → BlockVariable → Type 0
    Q k v = (v.block ≡ B) × (b ≡ true → k ≡ zero) × P (gives k v.terms)

    by : Dec ((k : ℕ) × (v : BlockVariable) × (block_at C.blocks k ≡ Some v) × Q k v) → Dec ((φ : ℕ → Image) × IsTried first C (of_entry B later E es e) b φ × P φ)
    by (yes (k, v, r, (s, z, q))) = yes (gives k v.terms, (k, v.terms, r ∙ ap (λ D. Some (record { block = D; terms = v.terms })) s, z, refl), q)
    by (no n) = no (λ (φ, (k, U, r, z, s), q). n (k, record { block = B; terms = U }, r, (refl, z, subst P s q)))

is_false : (b : Bool) → Dec (b ≡ false)
is_false true = no (λ e. cc)
is_false false = yes refl

terms_decided : (c : Clause) (V : ℕ → Bool) (σ : ℕ → Image) → Dec (AreTerms c V σ)
terms_decided c V σ = elim (all_decided (scope c) (λ i A. outside c.type everything i ≡ false → V i ≡ true → IsTerm (σ i)) (λ i A g. implied (is_false (outside c.type everything i)) (implied (is_true (V i)) (term_decided (σ i))))) [ yes h ↦ yes (λ i o v. let (A, g) = own_type c i o in h i A g o v) | no n ↦ no (λ h. n (λ i A g o v. h i o v)) ]

matches_decided : (C : NumberedCase) (p : Pattern) (φ : ℕ → Image) → Dec (MatchesWith C p φ)
matches_decided C p φ = three_decided (goal_decided (ground_in p (covered_places C.arguments) C.given) (covered_places C.arguments) p.type) (terms_decided p.clause (ground_in p (covered_places C.arguments) C.given) (own_values C p φ)) (same_decided C.arguments (target_arguments (substitute_type reduce (own_values C p φ) (placed_type p φ))))

pub by_number_decided : (first : ℕ) (C : NumberedCase) (p : Pattern) → Dec (MatchesByNumber first C p)
by_number_decided first C p = tried_decided first C p.origin p.at_first (MatchesWith C p) (matches_decided C p)

pub decided_with : {A B : Type 0} → A ↔ B → Dec B → (A ↔ B) × Dec A
decided_with h (yes b) = (h, yes (h.1 b))
decided_with h (no n) = (h, no (λ a. n (h.0 a)))

pub numbered_head_is_decided : NumberedHeadIsDecided
numbered_head_is_decided Σ ok W typed first free C tc c i none_given no_local K kd mention T hT pT = decided_with (
  (λ h. numbered_instance_matches_any Σ ok W typed first free C tc (head_pattern c (origin i)) (head_is_typed Σ ok W typed c i) h),
  (λ (φ, t, m). (head_match_is_numbered_instance Σ ok W typed first free C tc c i none_given no_local K kd mention T hT pT φ t m).0),
) (by_number_decided first C (head_pattern c (origin i)))

pub numbered_goal_is_decided : NumberedGoalIsDecided
numbered_goal_is_decided Σ ok W typed first free C tc p tp own others beside = decided_with (
  (λ h. numbered_instance_matches_any Σ ok W typed first free C tc p tp h),
  (λ (φ, t, m). (goal_match_is_numbered_instance Σ ok W typed first free C tc p tp own others φ t (beside φ t) m).0),
) (by_number_decided first C p)

pub numbered_head_match_is_leaf : NumberedHeadMatchIsLeaf
numbered_head_match_is_leaf Σ ok W typed first free ps C tc c i l none_given no_local K kd mention T hT pT m = record {
  typed = tc;
  pattern = head_pattern c (origin i);
  listed = l;
  pattern_typed = head_is_typed Σ ok W typed c i;
  same_length = ap length no_local;
  given_own = λ j u. absurd (no (subst (λ Ms. is_given Ms j ≡ true) none_given u));
  is_instance = (numbered_head_is_decided Σ ok W typed first free C tc c i none_given no_local K kd mention T hT pT).0.1 m;
}
  where
    no : false ≡ true → ⊥
    no e = cc

pub numbered_goal_match_is_leaf : NumberedGoalMatchIsLeaf
numbered_goal_match_is_leaf Σ ok W typed first free ps C tc p tp l own others beside (φ, t, m) = record {
  typed = tc;
  pattern = p;
  listed = l;
  pattern_typed = tp;
  same_length = ap length (beside φ t).local ∙ length_instance (binders [] p.type) (beside_values C p φ);
  given_own = own;
  is_instance = (numbered_goal_is_decided Σ ok W typed first free C tc p tp own others beside).0.1 (φ, t, m);
}
