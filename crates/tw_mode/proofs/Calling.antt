-- The first family without a mode, one quantifier after the other.
use Rattle.std.proofs.Common.{◌≡◌, ℕ, zero, List, [], ◌∷◌, ◌++◌, Bool, true, false, refl, sym, ap, ◌∙◌}
use Rattle.std.specs.Prelude.{Option, Some, None, cond, is_some, option_map}
use Rattle.lf.specs.Syntax.{LfType, pi}
use Rattle.lf.specs.Variables.{target}
use Rattle.lf_unification.specs.Search.{occurs_type}
use Rattle.lf_checks.specs.ModeRows.{called, called_by_hypotheses, first_unmoded}
use Rattle.tw_terms.specs.declared.canonical.ConstId.{ConstId}

module _ (moded : ℕ → Bool) where
  pub unmoded_first : (xs ys : List ℕ) (f : ℕ) → first_unmoded moded xs ≡ Some f → first_unmoded moded (xs ++ ys) ≡ Some f
  unmoded_first [] ys f e = absurd cc
  unmoded_first (x ∷ xs) ys f e = by (moded x) (unmoded_first xs ys f) e
    where
      by : (b : Bool) → (first_unmoded moded xs ≡ Some f → first_unmoded moded (xs ++ ys) ≡ Some f) → cond b (first_unmoded moded xs) (Some x) ≡ Some f → cond b (first_unmoded moded (xs ++ ys)) (Some x) ≡ Some f
      by true g q = g q
      by false g q = q

  pub unmoded_behind : (xs ys : List ℕ) → first_unmoded moded xs ≡ None → first_unmoded moded (xs ++ ys) ≡ first_unmoded moded ys
  unmoded_behind [] ys e = refl
  unmoded_behind (x ∷ xs) ys e = by (moded x) (unmoded_behind xs ys) e
    where
      by : (b : Bool) → (first_unmoded moded xs ≡ None → first_unmoded moded (xs ++ ys) ≡ first_unmoded moded ys) → cond b (first_unmoded moded xs) (Some x) ≡ None → cond b (first_unmoded moded (xs ++ ys)) (Some x) ≡ first_unmoded moded ys
      by true g q = g q
      by false g q = absurd cc

  -- the subgoals of a clause
  abbrev pub Calls : LfType → Option ℕ
  Calls A = first_unmoded moded (called moded A)

  abbrev pub HypothesisCalls : LfType → Option ℕ
  HypothesisCalls A = first_unmoded moded (called_by_hypotheses moded A)

  pub called_before : (T A B : LfType) (f : ℕ) → T ≡ pi A B → Some f ≡ Calls B → Some f ≡ Calls T
  called_before T A B f e h = sym (ap Calls e ∙ unmoded_first (called moded B) (cond (occurs_type zero B) [] (target A ∷ called_by_hypotheses moded A)) f (sym h))

  -- what was found first, as an option
  pub hypothesis_first : (T A B : LfType) (o : Option ConstId) → T ≡ pi A B → is_some o ≡ true → option_map (λ c. c.0) o ≡ first_unmoded moded (cond (moded (target A)) (called moded A) []) → option_map (λ c. c.0) o ≡ HypothesisCalls T
  hypothesis_first T A B None e s h = absurd cc
  hypothesis_first T A B (Some f) e s h = sym (ap HypothesisCalls e ∙ unmoded_first (cond (moded (target A)) (called moded A) []) (called_by_hypotheses moded B) f.0 (sym h))

  pub hypothesis_rest : (T A B : LfType) (o : Option ConstId) (r : Option ℕ) → T ≡ pi A B → is_some o ≡ false → option_map (λ c. c.0) o ≡ first_unmoded moded (cond (moded (target A)) (called moded A) []) → r ≡ HypothesisCalls B → r ≡ HypothesisCalls T
  hypothesis_rest T A B (Some f) r e s h q = absurd cc
  hypothesis_rest T A B None r e s h q = q ∙ sym (ap HypothesisCalls e ∙ unmoded_behind (cond (moded (target A)) (called moded A) []) (called_by_hypotheses moded B) (sym h))

  pub called_first : (T A B : LfType) (o : Option ConstId) → T ≡ pi A B → is_some o ≡ true → option_map (λ c. c.0) o ≡ Calls B → option_map (λ c. c.0) o ≡ Calls T
  called_first T A B None e s h = absurd cc
  called_first T A B (Some f) e s h = called_before T A B f.0 e h

  pub called_rest : (T A B : LfType) (o : Option ConstId) (b : Bool) (r : Option ℕ) → T ≡ pi A B → is_some o ≡ false → option_map (λ c. c.0) o ≡ Calls B → b ≡ occurs_type zero B → r ≡ first_unmoded moded (cond b [] (target A ∷ called_by_hypotheses moded A)) → r ≡ Calls T
  called_rest T A B (Some f) b r e s h v q = absurd cc
  called_rest T A B None b r e s h v q = q ∙ sym (ap Calls e ∙ unmoded_behind (called moded B) (cond (occurs_type zero B) [] (target A ∷ called_by_hypotheses moded A)) (sym h) ∙ ap (λ t. first_unmoded moded (cond t [] (target A ∷ called_by_hypotheses moded A))) (sym v))
