-- Solving keeps what the existential variables in types are applied to.
use Rattle.std.proofs.Common.{◌≡◌, ℕ, zero, suc, ◌⊎◌, List, [], ◌∷◌, inl, inr, length, refl, sym, ap, ap₂, ◌∙◌, subst, arith}
use Rattle.std.specs.Prelude.{Bool, true, false, Option, Some}
use Rattle.lf.specs.Rules.{Reduces}
use Rattle.lf.specs.SkeletonTyping.{RenamingBySkeletons}
use Rattle.lf.specs.Subordination.{Member}
use Rattle.lf.specs.Substitution.{reduce}
use Rattle.lf.specs.Syntax.{constant, variable, metavariable, Term, Spine, root, LfType, pi, atom, Skeleton, base, arrow, skeleton, rename, rename_type, weaken}
use Rattle.lf.specs.Typing.{Signature, TypeAt}
use Rattle.lf.specs.Variables.{hide, nothing, onto, under}
use Rattle.lf.proofs.Checker.{both_of}
use Rattle.lf.proofs.Rules.{rules_agree_reduction}
use Rattle.lf_checks.specs.Strict.{pattern_arguments}
use Rattle.lf_checks.proofs.EtaTest.{both_l, both_r}
use Rattle.lf_unification.specs.Offering.{pi_over}
use Rattle.lf_unification.specs.OpenTyping.{set_at, skeletons_of}
use Rattle.lf_unification.specs.Patterns.{lambdas_of, pattern, pattern_renaming, skeleton_target}
use Rattle.lf_unification.specs.Pruning.{PrunedType, kept_renaming, pruned_type}
use Rattle.lf_unification.specs.Putting.{PutsInType, put_in_atom, put_in_pi, PutsSome, PutsSomeSpine, put_nothing, some_under_lambda, some_in_arguments, some_at_bound, some_nowhere, some_in_argument}
use Rattle.lf_unification.specs.Rigid.{past_binders}
use Rattle.lf_unification.specs.Skeletons.{skeleton_or_default, total_skeletons}
use Rattle.lf_unification.specs.Steps.{Step, next_equation, put_bindings, drop_equal, open_lambdas, equal_heads, bind, prune_inside, prune_both, renew, Run, no_step, then_run}
use Rattle.lf_unification.specs.Unifiers.{Binding, Store}
use Rattle.lf_unification.proofs.Agree.{set_here, set_cases}
use Rattle.lf_unification.proofs.Patterns.{apply_pattern, body}
use Rattle.lf_unification.proofs.Putting.{put_some_spine}
use Rattle.lf_coverage.specs.Indices.{head_has_patterns, item_has_patterns, spine_has_patterns, takes, term_has_patterns, universal}
use Rattle.lf_coverage.specs.PatternStores.{ArePatternArguments, BindingsArePatterns, IsPatternStore, IsPatternTerm, IsPatternType, TypesArePatterns}
use Rattle.lf_coverage.specs.TermMatching.{over}
use Rattle.lf_coverage.proofs.IndicesCore.{body_has, passes_plain}
use Rattle.lf_coverage.proofs.IndicesRenamed.{Renames, Returns, choice, chosen, head_renames, head_returns, item_returns, passed_over}
use Rattle.lf_coverage.proofs.IndicesTests.{passes_from}
use Rattle.lf_coverage.proofs.PatternMoves.{past_is}
use Rattle.lf_coverage.proofs.PatternSides.{at_bound, plain_same_spine, under as under_lambdas, value_at}
use Rattle.lf_coverage.proofs.PatternSteps.{step_keeps, step_keeps_types}
use Rattle.lf_coverage.proofs.PatternTerms.{term_has}
use mathlib.Core.Path.{fun_ext}

-- what stands outside is universal
abbrev pub NoneOutside : List Skeleton → (ℕ → Bool) → Type 0
NoneOutside Γ E = (j : ℕ) → E (over (length Γ) j) ≡ false

some_one : {A B : LfType} → Some A ≡ Some B → A ≡ B
some_one e = cc

-- the types that are declared
abbrev pub TypesHave : (ℕ → Option LfType) → Type 0
TypesHave Ψ = (m : ℕ) (A : LfType) → Ψ m ≡ Some A → item_has_patterns nothing A ≡ true

module _ (Σ : Signature) (Ψ : ℕ → Option LfType) (bs : List Binding) (h : BindingsArePatterns Σ Ψ bs) where
  -- a value, on its arguments
  bound_has : (k : ℕ) (Γ : List Skeleton) (E : ℕ → Bool) → NoneOutside Γ E → (c : ℕ) (b : Binding) (S S' : Spine) (R : Term) → length Γ ≡ k → Member b bs → PutsSomeSpine Ψ bs k S S' → Reduces (skeletons_of Ψ b.of) (rename (past_binders k) b.value) S' R → IsPatternTerm Σ Ψ Γ (root (metavariable b.of) S) (base c) → pattern_arguments (universal E) [] S ≡ true → term_has_patterns E R ≡ true
  bound_has k Γ E o c b S S' R l m s r (A, e, q, d) p =
      let (B, f, v) = value_at Σ Ψ bs h b m in
      let t : Skeleton = skeleton A in
      let v' : IsPatternTerm Σ Ψ [] b.value t = subst (λ X. IsPatternTerm Σ Ψ [] b.value (skeleton X)) (some_one (sym f ∙ e)) v in
      let same : S' ≡ pattern t d.variables = plain_same_spine Σ Ψ s (passes_plain (universal E) [] S (passes_from (universal E) [] S p)) ∙ d.same in
      let renames : past_binders k ≡ over (length Γ) = fun_ext (λ i. past_is k i ∙ ap (λ n. over n i) (sym l)) in
      let (W, w) = body (total_skeletons Σ (skeletons_of Ψ)) [] t b.value (term_has Σ Ψ [] b.value t v') in
      let v'' : IsPatternTerm Σ Ψ [] (lambdas_of t W) t = subst (λ X. IsPatternTerm Σ Ψ [] X t) w v' in
      let none : RenamingBySkeletons [] Γ (over (length Γ)) = λ i u g. absurd g in
      let is : R ≡ rename (pattern_renaming t d.variables (over (length Γ))) W =
      rules_agree_reduction r ∙ ap (λ u. reduce u (rename (past_binders k) b.value) S') (ap skeleton_or_default e) ∙ ap₂ (λ ρ T. reduce t (rename ρ b.value) T) renames same
      ∙ ap (λ X. reduce t (rename (over (length Γ)) X) (pattern t d.variables)) w
      ∙ apply_pattern (total_skeletons Σ (skeletons_of Ψ)) t [] Γ (over (length Γ)) d.variables W none d.places (term_has Σ Ψ [] (lambdas_of t W) t v'') in
      subst (λ X. term_has_patterns E X ≡ true) (sym is) (body_has Σ Ψ Γ E o t S d p W (skeleton_target t) (under_lambdas Σ Ψ t [] W v''))

  variable_put : (E : ℕ → Bool) (i : ℕ) {k : ℕ} {S S' : Spine} → PutsSomeSpine Ψ bs k S S' → (spine_has_patterns E S ≡ true → spine_has_patterns E S' ≡ true) → ((E i ≡ true) × (pattern_arguments (takes E i) [] S ≡ true)) ⊎ ((E i ≡ false) × (spine_has_patterns E S ≡ true)) → term_has_patterns E (root (variable i) S') ≡ true
  variable_put E i {S = S} {S' = S'} s g (inl (t, e)) = chosen (E i) (pattern_arguments (takes E i) [] S') (spine_has_patterns E S') t (subst (λ T. pattern_arguments (takes E i) [] T ≡ true) (sym (plain_same_spine Σ Ψ s (passes_plain (takes E i) [] S (passes_from (takes E i) [] S e)))) e)
  variable_put E i {S' = S'} s g (inr (f, e)) = passed_over (E i) (pattern_arguments (takes E i) [] S') (spine_has_patterns E S') f (g e)

  mutual
    puts_have : {k : ℕ} {M M' : Term} → PutsSome Ψ bs k M M' → (Γ : List Skeleton) (t : Skeleton) → length Γ ≡ k → IsPatternTerm Σ Ψ Γ M t → (E : ℕ → Bool) → NoneOutside Γ E → term_has_patterns E M ≡ true → term_has_patterns E M' ≡ true
    puts_have put_nothing Γ t l p E o e = e
    puts_have (some_under_lambda q) Γ (arrow a b) l p E o e = puts_have q (a ∷ Γ) b (ap suc l) p (hide E) o e
    puts_have (some_under_lambda q) Γ (base c) l p E o e = absurd p
    puts_have (some_in_arguments (constant d) s) Γ (arrow a b) l p E o e = absurd p
    puts_have (some_in_arguments (variable d) s) Γ (arrow a b) l p E o e = absurd p
    puts_have (some_in_arguments (metavariable d) s) Γ (arrow a b) l p E o e = absurd p
    puts_have (some_in_arguments (constant d) s) Γ (base c) l (t, g, r) E o e = puts_have_spine s Γ t (base c) l r E o e
    puts_have (some_in_arguments {S = S} (variable d) s) Γ (base c) l (t, g, r) E o e = variable_put E d s (puts_have_spine s Γ t (base c) l r E o) (choice (E d) (pattern_arguments (takes E d) [] S) (spine_has_patterns E S) e)
    puts_have (some_in_arguments {S = S} (metavariable d) s) Γ (base c) l p E o e = subst (λ T. pattern_arguments (universal E) [] T ≡ true) (sym (plain_same_spine Σ Ψ s (passes_plain (universal E) [] S (passes_from (universal E) [] S e)))) e
    puts_have (some_at_bound b m s r q) Γ (arrow x y) l p E o e = absurd p
    puts_have (some_at_bound {k = k} {S = S} {S' = S'} {R = R} b m s r q) Γ (base c) l p E o e = puts_have q Γ (base c) l (at_bound Σ Ψ bs h k Γ c b S S' R l m s r p) E o (bound_has k Γ E o c b S S' R l m s r p e)

    puts_have_spine : {k : ℕ} {S S' : Spine} → PutsSomeSpine Ψ bs k S S' → (Γ : List Skeleton) (t u : Skeleton) → length Γ ≡ k → ArePatternArguments Σ Ψ Γ S t u → (E : ℕ → Bool) → NoneOutside Γ E → spine_has_patterns E S ≡ true → spine_has_patterns E S' ≡ true
    puts_have_spine some_nowhere Γ t u l p E o e = refl
    puts_have_spine (some_in_argument {M = M} {M' = M'} {S = S} {S' = S'} q s) Γ (arrow a b) u l (p, r) E o e = both_of (term_has_patterns E M') (spine_has_patterns E S') (puts_have q Γ a l p E o (both_l (term_has_patterns E M) (spine_has_patterns E S) e)) (puts_have_spine s Γ b u l r E o (both_r (term_has_patterns E M) (spine_has_patterns E S) e))
    puts_have_spine (some_in_argument q s) Γ (base c) u l p E o e = absurd p

  mutual
    pub item_put : {k : ℕ} {A A' : LfType} → PutsInType Ψ bs k A A' → (Γ : List Skeleton) → length Γ ≡ k → IsPatternType Σ Ψ Γ A → (E : ℕ → Bool) → NoneOutside Γ E → item_has_patterns E A ≡ true → item_has_patterns E A' ≡ true
    item_put (put_in_atom {a = a} s) Γ l (t, g, r) E o e = puts_have_spine (put_some_spine s) Γ t (base a) l r E o e
    item_put (put_in_pi {A = A} {A' = A'} {B = B} {B' = B'} a b) Γ l (p, q) E o e = both_of (head_has_patterns E A') (item_has_patterns (hide E) B') (head_put a Γ l p E o (both_l (head_has_patterns E A) (item_has_patterns (hide E) B) e)) (item_put b (skeleton A ∷ Γ) (ap suc l) q (hide E) o (both_r (head_has_patterns E A) (item_has_patterns (hide E) B) e))

    pub head_put : {k : ℕ} {A A' : LfType} → PutsInType Ψ bs k A A' → (Γ : List Skeleton) → length Γ ≡ k → IsPatternType Σ Ψ Γ A → (E : ℕ → Bool) → NoneOutside Γ E → head_has_patterns E A ≡ true → head_has_patterns E A' ≡ true
    head_put (put_in_atom {a = a} s) Γ l (t, g, r) E o e = puts_have_spine (put_some_spine s) Γ t (base a) l r E o e
    head_put (put_in_pi {A = A} {A' = A'} {B = B} {B' = B'} a b) Γ l (p, q) E o e = both_of (item_has_patterns E A') (head_has_patterns (under E) B') (item_put a Γ l p E o (both_l (item_has_patterns E A) (head_has_patterns (under E) B) e)) (head_put b (skeleton A ∷ Γ) (ap suc l) q (under E) o (both_r (item_has_patterns E A) (head_has_patterns (under E) B) e))

-- what is pruned
hidden_none : hide nothing ≡ nothing
hidden_none = fun_ext same
  where
    same : (i : ℕ) → hide nothing i ≡ nothing i
    same zero = refl
    same (suc i) = refl

renames_none : (ρ : ℕ → ℕ) → ((i j : ℕ) → ρ i ≡ ρ j → i ≡ j) → Renames nothing nothing ρ
renames_none ρ d = record { kind = λ i. refl; apart = λ i j e f q. d i j q; order = λ i j e f n. absurd (no e) }
  where
    no : false ≡ true → ⊥
    no e = cc

returns_none : (ρ : ℕ → ℕ) → ((i j : ℕ) → ρ i ≡ ρ j → i ≡ j) → Returns nothing nothing ρ
returns_none ρ d = record { kind = λ i. refl; distinct = d; order = λ i j e f n. absurd (no e) }
  where
    no : false ≡ true → ⊥
    no e = cc

abbrev HeadsHave : List LfType → Type 0
HeadsHave [] = Unit {0}
HeadsHave (A ∷ L) = (head_has_patterns nothing A ≡ true) × HeadsHave L

over_of : (L : List LfType) (P : LfType) → item_has_patterns nothing (pi_over L P) ≡ true → HeadsHave L × (item_has_patterns nothing P ≡ true)
over_of [] P e = (tt, e)
over_of (A ∷ L) P e =
    let (l, p) = over_of L (pi A P) e in
    ((both_l (head_has_patterns nothing A) (item_has_patterns (hide nothing) P) p, l), subst (λ E. item_has_patterns E P ≡ true) hidden_none (both_r (head_has_patterns nothing A) (item_has_patterns (hide nothing) P) p))

over_from : (L : List LfType) (P : LfType) → HeadsHave L → item_has_patterns nothing P ≡ true → item_has_patterns nothing (pi_over L P) ≡ true
over_from [] P l p = p
over_from (A ∷ L) P (a, l) p = over_from L (pi A P) l (both_of (head_has_patterns nothing A) (item_has_patterns (hide nothing) P) a (subst (λ E. item_has_patterns E P ≡ true) (sym hidden_none) p))

one_less : (i j : ℕ) → suc i ≡ suc j → i ≡ j
one_less i j e = omega (arith, e)

each_at : (L : List LfType) → HeadsHave L → (i : ℕ) (Y : LfType) → TypeAt (onto L []) i Y → head_has_patterns nothing Y ≡ true
each_at [] l i Y g = absurd g
each_at (A ∷ L) (a, l) zero Y e = subst (λ Z. head_has_patterns nothing Z ≡ true) (sym e) (head_renames nothing nothing suc (renames_none suc one_less) A a)
each_at (A ∷ L) (a, l) (suc i) Y (B, g, e) = subst (λ Z. head_has_patterns nothing Z ≡ true) (sym e) (head_renames nothing nothing suc (renames_none suc one_less) B (each_at L l i B g))

each_from : (L : List LfType) → ((i : ℕ) (Y : LfType) → TypeAt (onto L []) i Y → head_has_patterns nothing Y ≡ true) → HeadsHave L
each_from [] h = tt
each_from (A ∷ L) h = (head_returns nothing nothing suc (returns_none suc one_less) A (h zero (weaken A) refl), each_from L (λ i B g. head_returns nothing nothing suc (returns_none suc one_less) B (h (suc i) (weaken B) (B, g, refl))))

pruned_has : (Ψ : ℕ → Option LfType) (n dropped : ℕ) (p : PrunedType Ψ n dropped) → item_has_patterns nothing (pi_over p.local (atom p.family p.indices)) ≡ true → item_has_patterns nothing (pruned_type p) ≡ true
pruned_has Ψ n dropped p e =
    let ρ : ℕ → ℕ = kept_renaming (pi_over p.local (atom p.family p.indices)) (pi_over p.kept_local (atom p.family p.kept_indices)) p.kept in
    let (l, a) = over_of p.local (atom p.family p.indices) e in
    over_from p.kept_local (atom p.family p.kept_indices) (each_from p.kept_local (λ i Y g. head_returns nothing nothing ρ (returns_none ρ p.distinct) Y (each_at p.local l (ρ i) (rename_type ρ Y) (p.part.types i Y g)))) (item_returns nothing nothing ρ (returns_none ρ p.distinct) (atom p.family p.kept_indices) (subst (λ Z. item_has_patterns nothing Z ≡ true) p.same_target a))

types_grow : (Ψ : ℕ → Option LfType) (n : ℕ) (X : LfType) → TypesHave Ψ → item_has_patterns nothing X ≡ true → TypesHave (set_at n (Some X) Ψ)
types_grow Ψ n X h x m A e = by (set_cases n (Some X) Ψ m)
  where
    one : {P Q : LfType} → Some P ≡ Some Q → P ≡ Q
    one q = cc

    by : (m ≡ n) ⊎ (set_at n (Some X) Ψ m ≡ Ψ m) → item_has_patterns nothing A ≡ true
    by (inl q) = subst (λ Z. item_has_patterns nothing Z ≡ true) (one (sym (set_here n (Some X) Ψ) ∙ ap (set_at n (Some X) Ψ) (sym q) ∙ e)) x
    by (inr q) = h m A (sym q ∙ e)

module _ (Σ : Signature) where
  step_has : {s s' : Store} → Step Σ s s' → IsPatternStore Σ s → TypesArePatterns Σ s.metavariables → TypesHave s.metavariables → TypesHave s'.metavariables
  step_has (next_equation es e fs) h t x = x
  step_has (put_bindings p q) h t x = x
  step_has drop_equal h t x = x
  step_has open_lambdas h t x = x
  step_has (equal_heads g A r k) h t x = x
  step_has (bind side D m xs N C e u p b) h t x = x
  step_has (prune_inside {Ψ = Ψ} side D m xs N C e i p u n sc) h t x = types_grow Ψ n (pruned_type p.pruned) x (pruned_has Ψ p.drop.m p.dropped p.pruned (x p.drop.m _ p.pruned.declared))
  step_has (prune_both {Ψ = Ψ} side D m xs N C e i p u n sc) h t x = types_grow Ψ n (pruned_type p.pruned) x (pruned_has Ψ m p.dropped p.pruned (x m _ p.pruned.declared))
  step_has (renew {Ψ = Ψ} {bs = bs} m A A' e u o p n sc) h t x = types_grow Ψ n A' x (item_put Σ Ψ bs h.bindings p [] refl (t m A e) nothing (λ j. refl) (x m A e))

  pub run_has : {s s' : Store} → Run Σ s s' → IsPatternStore Σ s → TypesArePatterns Σ s.metavariables → TypesHave s.metavariables → TypesHave s'.metavariables
  run_has no_step h t x = x
  run_has (then_run p r) h t x = run_has r (step_keeps Σ p h) (step_keeps_types Σ p h t) (step_has p h t x)
