-- Where a case is an instance of a pattern, matching finds the values.
use Rattle.std.proofs.Common.{◌≡◌, ℕ, zero, suc, List, [], ◌∷◌, refl, sym, ap, ◌∙◌, subst}
use Rattle.std.specs.Prelude.{Bool, true, false, Option, Some, None}
use Rattle.lf.specs.Syntax.{Term, Spine, nil, app, LfType, pi, atom, Skeleton, skeleton}
use Rattle.lf.specs.Substitution.{Image, keep, put, lift, substitute_spine, substitute_type, reduce}
use Rattle.lf.specs.SkeletonTyping.{SubstitutionBySkeletons}
use Rattle.lf.specs.Skeletons.{constant_skeletons, context_skeletons}
use Rattle.lf.specs.Typing.{Signature, TypeAt, ImageHasType, IsSignature}
use Rattle.lf.specs.Variables.{target_arguments, binders, onto, Values, SameOn, under, hide, everything, nothing}
use Rattle.lf.specs.Subordination.{Block, AreTypedBlocks}
use Rattle.lf.specs.Worlds.{lift_over}
use Rattle.lf.proofs.Agreement.{SameOn-under, agree_on}
use Rattle.lf.proofs.Partial.{skeletons_beside, PartialSubstitution, uses_all}
use Rattle.lf.proofs.Patch.{beyond, pick, patch, patch_same, patched}
use Rattle.lf.proofs.ToSkeletons.{variable_has_skeleton}
use Rattle.lf.proofs.TypeLaws.{skeleton_substituted}
use Rattle.lf_checks.specs.Clause.{Clause, scope, variables, outside, among, entry_clause}
use Rattle.lf_checks.specs.Ground.{UsesGoal}
use Rattle.lf_checks.specs.Marks.{SamePlaces, UsesPlaces}
use Rattle.lf_checks.specs.Parts.{type_at}
use Rattle.lf_checks.specs.Strict.{strict_goal}
use Rattle.lf_checks.specs.Worlded.{IsTerm}
use Rattle.lf_checks.proofs.Determined.{KeptAlike}
use Rattle.lf_checks.proofs.EtaTest.{both_r}
use Rattle.lf_checks.proofs.Numbered.{type_found}
use Rattle.lf_cases.specs.Cover.{AgreesOutside, before}
use Rattle.lf_cases.specs.Case.{Item, Case, items_context, HasArguments, covered_places}
use Rattle.lf_cases.specs.Pattern.{Origin, of_constant, of_entry, Pattern, is_there, is_given, given_at, ground_in}
use Rattle.lf_cases.specs.Missing.{BlockAmong, IsTypedInstance, StandsAmong, CommonInstance}
use Rattle.lf_cases.specs.Reached.{LeavesAll}
use Rattle.lf_cases.proofs.Raised.{rename_identity}
use Rattle.lf_cases.proofs.BlockEntries.{among_type}
use Rattle.lf_totality.proofs.Core.{outer_at}
use Rattle.lf_totality.proofs.Theorem.{outside_from}
use Rattle.lf_coverage.specs.Heads.{HaveSkeletons, IsTypedCase}
use Rattle.lf_coverage.specs.Leaf.{IsTypedPattern}
use Rattle.lf_coverage.specs.OrElse.{or_else}
use Rattle.lf_coverage.specs.Matching.{ArePlaces, as_image, found_goal, found_term, found_values}
use Rattle.lf_coverage.specs.MatchingLaws.{InstanceIsFound, ValuesAreDetermined}
use Rattle.lf_coverage.specs.MeetStore.{IsConstants}
use Rattle.lf_coverage.proofs.Carried.{beside_nothing}
use Rattle.lf_coverage.proofs.Choices.{decided, second_of}
use Rattle.lf_coverage.proofs.FirstStands.{among_keep, first_among}
use Rattle.lf_coverage.proofs.ItemsContext.{items_are_context}
use Rattle.lf_coverage.proofs.Leaf.{leaves_terms, leaves_deep}
use Rattle.lf_coverage.proofs.Leaves.{given_skeleton}
use Rattle.lf_coverage.proofs.ReadOff.{goal_read}
use Rattle.lf_coverage.proofs.Transfer.{instance_fits}

-- nothing stands outside a constant's clause
out_of_nothing : (A : LfType) (V : ℕ → Bool) → ((k : ℕ) → V k ≡ true → ⊥) → (i : ℕ) → outside A V i ≡ true → ⊥
out_of_nothing (pi A B) V h i e = out_of_nothing B (hide V) hidden i e
  where
    hidden : (k : ℕ) → hide V k ≡ true → ⊥
    hidden zero q = absurd cc
    hidden (suc k) q = h k q
out_of_nothing (atom a S) V h i e = h i e

pub none_fixed : {c : Clause} (o : Origin c) → IsConstants o → (i : ℕ) → outside c.type c.fixed i ≡ true → ⊥
none_fixed (of_constant U) k i e = out_of_nothing U nothing (λ j q. cc) i e
none_fixed (of_entry B later E es q) k i e = absurd k

-- What stands for the entries before an entry are variables.
before_keep : (later : List LfType) (E : LfType) (es : List LfType) (θ : ℕ → Image) → ((k : ℕ) → among (onto later (E ∷ es)) k ≡ true → (j : ℕ) × (θ k ≡ keep j)) → (k : ℕ) → among es k ≡ true → (j : ℕ) × (before later θ k ≡ keep j)
before_keep [] E es θ h k a = h (suc k) a
before_keep (D ∷ ds) E es θ h k a = before_keep ds E es (λ i. θ (suc i)) (λ i b. h (suc i) b) k a

entry_kept : (B : Block) (later : List LfType) (E : LfType) (es : List LfType) → onto later (E ∷ es) ≡ B.entries → (J : List Item) (θ : ℕ → Image) → BlockAmong J B θ → (τ : ℕ → Image) → AgreesOutside (entry_clause B es E) τ (before later θ) → (j : ℕ) → outside E (among es) j ≡ true → (i : ℕ) × (τ j ≡ keep i)
entry_kept B later E es q J θ m τ agrees j e =
    let (k, r, a) = outside_from E (among es) j e in
    let (X, x) = among_type es B.some k a in
    let (i, y) = before_keep later E es θ (λ l b. among_keep J B θ m l (subst (λ ds. among ds l ≡ true) q b)) k a in
    (i, ap τ r ∙ sym (outer_at E τ k) ∙ agrees k X x ∙ y)

outside_kept : (Σ : Signature) {c : Clause} (o : Origin c) (b : Bool) (J I : List Item) (σ : ℕ → Image) (g : IsTypedInstance Σ J I σ) (τ : ℕ → Image) → StandsAmong Σ o b J I σ g τ → (j : ℕ) → outside c.type c.fixed j ≡ true → (i : ℕ) × (τ j ≡ keep i)
outside_kept Σ (of_constant U) b J I σ g τ s j e = absurd (none_fixed (of_constant U) tt j e)
outside_kept Σ (of_entry B later E es q) false J I σ g τ (θ, m, agrees) j e = entry_kept B later E es q J θ m τ agrees j e
outside_kept Σ (of_entry B later E es q) true J I σ g τ (θ, m, agrees) j e = entry_kept B later E es q J θ (first_among Σ J I σ g B θ m) τ agrees j e

-- of a constant's clause each variable in its scope is its own
pub own_in_scope : (A : LfType) (O : List LfType) (V : ℕ → Bool) → ((i : ℕ) (X : LfType) → TypeAt O i X → V i ≡ false) → (i : ℕ) (X : LfType) → TypeAt (binders O A) i X → outside A V i ≡ false
own_in_scope (pi A B) O V h i X g = own_in_scope B (A ∷ O) (hide V) hidden i X g
  where
    hidden : (k : ℕ) (Y : LfType) → TypeAt (A ∷ O) k Y → hide V k ≡ false
    hidden zero Y q = refl
    hidden (suc k) Y (Z, q, e) = h k Z q
own_in_scope (atom a S) O V h i X g = h i X g

pub is_own : {c : Clause} (o : Origin c) → IsConstants o → (i : ℕ) (X : LfType) → TypeAt (scope c) i X → outside c.type everything i ≡ false
is_own (of_constant U) k i X g = own_in_scope U [] everything (λ j Y q. absurd q) i X g
is_own (of_entry B later E es q) k i X g = absurd k

-- The values agree where a pattern uses them.
pub places_agree : (U : ℕ → Bool) (σ τ : ℕ → Image) → SameOn U σ τ → (Ms : List (Option Term)) (S : Spine) → UsesPlaces U (covered_places Ms) S → ArePlaces Ms (substitute_spine reduce σ S) → ArePlaces Ms (substitute_spine reduce τ S)
places_agree U σ τ h [] nil u e = e
places_agree U σ τ h [] (app Q S) u e = e
places_agree U σ τ h (Some M ∷ Ms) nil u e = e
places_agree U σ τ h (None ∷ Ms) nil u e = e
places_agree U σ τ h (Some M ∷ Ms) (app Q S) (u, v) (e, r) = (e ∙ agree_on reduce U σ τ Q h u, places_agree U σ τ h Ms S v r)
places_agree U σ τ h (None ∷ Ms) (app Q S) u e = places_agree U σ τ h Ms S u e

pub goal_agrees : (U : ℕ → Bool) (σ τ : ℕ → Image) → SameOn U σ τ → (Ms : List (Option Term)) (A : LfType) → UsesGoal U (covered_places Ms) A → ArePlaces Ms (target_arguments (substitute_type reduce σ A)) → ArePlaces Ms (target_arguments (substitute_type reduce τ A))
goal_agrees U σ τ h Ms (pi A B) u e = goal_agrees (under U) (lift σ) (lift τ) (SameOn-under U σ τ h) Ms B u.1 e
goal_agrees U σ τ h Ms (atom a S) u e = places_agree U σ τ h Ms S u e

pub term_of : (y : Image) → IsTerm y → (a : Skeleton) × (N : Term) × (y ≡ put a N)
term_of (keep i) t = absurd t
term_of (put a N) t = (a, N, refl)

pub not_given : (Ms : List (Option Term)) (i : ℕ) → given_at Ms i ≡ None → is_given Ms i ≡ false
not_given [] i e = refl
not_given (N ∷ Ms) zero e = ap is_there e
not_given (N ∷ Ms) (suc i) e = not_given Ms i e

-- what is ground, own and not given is strict in the covered places
pub ground_is_strict : (p : Pattern) (m : List Bool) (Ms : List (Option Term)) (i : ℕ) → is_given Ms i ≡ false → outside p.clause.type everything i ≡ false → ground_in p m Ms i ≡ true → strict_goal m nothing (outside p.clause.type p.clause.fixed) i p.type ≡ true
ground_is_strict p m Ms i n o z = both_r (variables p.clause i) _ (second_of (outside p.clause.type everything i) _ (second_of (is_given Ms i) _ z n) o)

-- what is found, as an image
pub found_is : (i : ℕ) (O : List LfType) (A : LfType) (x : Option Term) (N : Term) → TypeAt O i A → x ≡ Some N → as_image i (type_at O i) x ≡ put (skeleton A) N
found_is i O A x N g e = ap (λ t. as_image i t x) (type_found O i A g) ∙ ap (as_image i (Some A)) e

module _ (Σ : Signature) (ok : IsSignature Σ) (W : List Block) (typed : AreTypedBlocks Σ W) (C : Case) (tc : IsTypedCase Σ W C) (p : Pattern) (tp : IsTypedPattern Σ p) (s : CommonInstance Σ W C p) (e : s.items ≡ C.items) (l : LeavesAll C.items s.case_values) where
  abbrev O : List LfType
  O = scope p.clause

  pub values : Values Σ s.used (scope p.clause) (items_context C.items) s.clause_values
  values = subst (λ J. Values Σ s.used (scope p.clause) (items_context J) s.clause_values) e s.typed_values

  fits : SubstitutionBySkeletons (constant_skeletons Σ) (context_skeletons (items_context C.items)) (context_skeletons (items_context C.items)) s.case_values
  fits = instance_fits Σ ok W C.items tc.items C.items s.case_values (subst (λ J. IsTypedInstance Σ J C.items s.case_values) e s.is_instance)

  -- the arguments of the case are the pattern's under these values
  held : (Ms : List (Option Term)) (T R : Spine) → HaveSkeletons (constant_skeletons Σ) (context_skeletons (onto C.local (items_context C.items))) Ms → HasArguments (lift_over C.local s.case_values) Ms T → SamePlaces (covered_places Ms) T R → ArePlaces Ms R
  held [] nil nil hm h r = tt
  held [] nil (app N R) hm h r = absurd r
  held [] (app N T) R hm h r = absurd h
  held (Some M ∷ Ms) nil R hm h r = absurd h
  held (None ∷ Ms) nil R hm h r = absurd h
  held (Some M ∷ Ms) (app N T) nil hm h r = absurd r
  held (None ∷ Ms) (app N T) nil hm h r = absurd r
  held (Some M ∷ Ms) (app N T) (app Q R) ((t, m), hm) (h, hs) (r, rs) = (sym (leaves_deep Σ C.items s.case_values fits l C.local M t m) ∙ sym h ∙ r, held Ms T R hm hs rs)
  held (None ∷ Ms) (app N T) (app Q R) hm h r = held Ms T R hm h r

  pub arguments_are : ArePlaces C.arguments (target_arguments (substitute_type reduce s.clause_values p.type))
  arguments_are = held C.arguments s.tuple (target_arguments (substitute_type reduce s.clause_values p.type)) tc.arguments s.of_case s.of_clause

  whole : PartialSubstitution Σ ok [] (skeletons_beside [] (scope p.clause)) s.used (scope p.clause) (items_context C.items) (patch s.used (items_context C.items) s.clause_values)
  whole = patched Σ ok s.used (scope p.clause) (items_context C.items) s.clause_values tp.clause_typed (items_are_context Σ ok W typed C.items tc.items) values

  whole_fits : SubstitutionBySkeletons (constant_skeletons Σ) (context_skeletons (scope p.clause)) (skeletons_beside (skeletons_beside [] (scope p.clause)) (items_context C.items)) (patch s.used (items_context C.items) s.clause_values)
  whole_fits = subst (λ Γ. SubstitutionBySkeletons (constant_skeletons Σ) Γ (skeletons_beside (skeletons_beside [] (scope p.clause)) (items_context C.items)) (patch s.used (items_context C.items) s.clause_values)) (beside_nothing (scope p.clause)) whole.sk

  -- the skeleton of a value is that of the variable's type
  value_skeleton : (i : ℕ) (A : LfType) (a : Skeleton) (N : Term) → TypeAt (scope p.clause) i A → s.used i ≡ true → s.clause_values i ≡ put a N → skeleton A ≡ a
  value_skeleton i A a N g u q = sym (skeleton_substituted reduce s.clause_values A) ∙ (subst (λ y. ImageHasType Σ (items_context C.items) y (substitute_type reduce s.clause_values A)) q (values.typed i A g u)).0

  -- entries stay variables
  fixed_kept : KeptAlike (outside p.clause.type p.clause.fixed) (patch s.used (items_context C.items) s.clause_values) (patch s.used (items_context C.items) s.clause_values)
  fixed_kept j b =
      let (i, q) = outside_kept Σ p.origin p.at_first s.items C.items s.case_values s.is_instance s.clause_values s.stands j b in
      decided (s.used j)
      (λ u. let r : patch s.used (items_context C.items) s.clause_values j ≡ keep i = sym (patch_same s.used (items_context C.items) s.clause_values j u) ∙ q in (i, r, r))
      (λ n. let r : patch s.used (items_context C.items) s.clause_values j ≡ keep (beyond (items_context C.items) j) = ap (λ b. pick b (s.clause_values j) (keep (beyond (items_context C.items) j))) n in (beyond (items_context C.items) j, r, r))

  -- what is read off
  read : (i : ℕ) (A : LfType) (N : Term) → TypeAt (scope p.clause) i A → s.used i ≡ true → s.clause_values i ≡ put (skeleton A) N → strict_goal (covered_places C.arguments) nothing (outside p.clause.type p.clause.fixed) i p.type ≡ true → found_goal nothing (outside p.clause.type p.clause.fixed) zero i p.type C.arguments ≡ Some N
  read i A N g u q z =
      goal_read Σ ok nothing (outside p.clause.type p.clause.fixed) everything zero (scope p.clause) (skeletons_beside (skeletons_beside [] (scope p.clause)) (items_context C.items)) (patch s.used (items_context C.items) s.clause_values) i (skeleton A) N p.type C.arguments tp.clause_typed tp.type_typed whole_fits (λ j b. absurd cc) fixed_kept (λ j v b. cc) (λ j b. cc) (sym (patch_same s.used (items_context C.items) s.clause_values i u) ∙ q) (uses_all everything N (λ j. refl)) (variable_has_skeleton (scope p.clause) i A g) z (goal_agrees s.used s.clause_values (patch s.used (items_context C.items) s.clause_values) (patch_same s.used (items_context C.items) s.clause_values) C.arguments p.type s.uses arguments_are)
      ∙ ap Some (rename_identity N)

  -- The lemma
  pub value_found : (i : ℕ) (A : LfType) → TypeAt (scope p.clause) i A → outside p.clause.type everything i ≡ false → s.used i ≡ true → ground_in p (covered_places C.arguments) C.given i ≡ true → s.clause_values i ≡ found_values C p i
  value_found i A g o u z =
      let (a, N, q) = term_of (s.clause_values i) (s.terms i o u) in
      let sa : skeleton A ≡ a = value_skeleton i A a N g u q in
      let q' : s.clause_values i ≡ put (skeleton A) N = q ∙ ap (λ b. put b N) (sym sa) in
      q' ∙ sym (found_is i (scope p.clause) A (found_term C p i) N g (by N q' (given_at C.given i) refl o))
    where
      term_is : {a b : Skeleton} {M N : Term} → put a M ≡ put b N → M ≡ N
      term_is e = cc

      by : (N : Term) → s.clause_values i ≡ put (skeleton A) N → (m : Option Term) → given_at C.given i ≡ m → outside p.clause.type everything i ≡ false → found_term C p i ≡ Some N
      by N q (Some M) r o =
          let (b, h) = s.given i M r in
          let (t, n) = given_skeleton (constant_skeletons Σ) (context_skeletons (items_context C.items)) C.given i M tc.given r in
          ap (λ x. or_else x (found_goal nothing (outside p.clause.type p.clause.fixed) zero i p.type C.arguments)) r ∙ ap Some (sym (leaves_terms Σ C.items s.case_values fits l M t n) ∙ sym (term_is (sym q ∙ h)))
      by N q None r o = ap (λ x. or_else x (found_goal nothing (outside p.clause.type p.clause.fixed) zero i p.type C.arguments)) r ∙ read i A N g u q (ground_is_strict p (covered_places C.arguments) C.given i (not_given C.given i r) o z)

pub instance_is_found : InstanceIsFound
instance_is_found Σ ok W typed C tc p tp s e l i A g o u z = value_found Σ ok W typed C tc p tp s e l i A g o u z

pub values_are_determined : ValuesAreDetermined
values_are_determined Σ ok W typed C tc p tp s t e f l m i A g o u v z = value_found Σ ok W typed C tc p tp s e l i A g o u z ∙ sym (value_found Σ ok W typed C tc p tp t f m i A g o v z)
