-- A case of a subgoal's outputs that the clause covers gives values for each tuple that it holds.
use Rattle.std.proofs.Common.{◌≡◌, ℕ, zero, suc, List, [], ◌∷◌, refl, sym, ap, ap₂, ◌∙◌, subst, inl, inr, true≢false}
use Rattle.std.specs.Prelude.{Bool, true, false, Some, None, ◌⊎◌}
use Rattle.lf.specs.Syntax.{constant, variable, metavariable, Term, Spine, lambda, root, nil, app, LfType, pi, atom, Skeleton, skeleton}
use Rattle.lf.specs.Substitution.{Image, put, lift, substitute_spine, substitute_type, reduce}
use Rattle.lf.specs.Typing.{Signature, TypeAt, ImageHasType, IsType, IsContext, IsSignature}
use Rattle.lf.specs.Variables.{target, target_arguments, with_arguments, binders, under, SameOn, Values, everything, nothing, Uses, UsesSpine, UsesType, Within}
use Rattle.lf.specs.Subordination.{Block}
use Rattle.lf.specs.Worlds.{World}
use Rattle.lf.specs.Extension.{Extends}
use Rattle.lf.proofs.Agreement.{agree_on, agree_on_type, SameOn-under, uses_within, uses_type_within}
use Rattle.lf.proofs.Kept.{Covers, typed_uses_type}
use Rattle.lf.proofs.Patch.{pick}
use Rattle.lf.proofs.TypeLaws.{skeleton_substituted}
use Rattle.lf.proofs.Weakening.{declared_is_type}
use Rattle.lf_checks.specs.Clause.{Clause, scope, variables, outside, IsSubgoal}
use Rattle.lf_checks.specs.Marks.{Mark, input, output, free, input_places, output_places, NoneFree, SamePlaces, UsesPlaces}
use Rattle.lf_checks.specs.Ground.{UsesGoal, ground_after}
use Rattle.lf_checks.specs.Worlded.{IsTerm}
use Rattle.lf_cases.specs.Cover.{before, AgreesOutside, AreTerms, OutputsCovered}
use Rattle.lf_cases.specs.Case.{Case, covered_places}
use Rattle.lf_cases.specs.Pattern.{Origin, of_constant, of_entry, subgoal_pattern, ground_in, is_given, Known, StandsOutside, TellsOutside, IsGivenFor, Holds, CoversTuple, OneCovers, IsCoveredCase}
use Rattle.lf_totality.proofs.Core.{out_index, outer_at, SamePlaces-agree, UsesPlaces-within}
use Rattle.lf_cases.proofs.GroundTypes.{grows, after_closed}
use Rattle.lf_cases.proofs.StrictUsed.{goal_used}
use Rattle.lf_checks.proofs.StrictTypes.{either_cases}
use Rattle.lf_checks.proofs.EtaTest.{both_l, both_r}
use Rattle.lf_checks.specs.Tests.{both, either}
use Rattle.lf_checks.specs.Strict.{strict_goal}
use Rattle.lf_totality.proofs.Theorem.{outside_from}

-- the indices of a context
abbrev pub in_context : List LfType → ℕ → Bool
in_context [] i = false
in_context (A ∷ G) zero = true
in_context (A ∷ G) (suc i) = in_context G i

pub in_covers : (G : List LfType) → Covers G (in_context G)
in_covers [] i A g = absurd g
in_covers (B ∷ G) zero A g = refl
in_covers (B ∷ G) (suc i) A (C, g, e) = in_covers G i C g

pub in_type : (G : List LfType) (i : ℕ) → in_context G i ≡ true → (A : LfType) × TypeAt G i A
in_type [] i e = absurd cc
in_type (B ∷ G) zero e = (Rattle.lf.specs.Syntax.weaken B, refl)
in_type (B ∷ G) (suc i) e = let (A, g) = in_type G i e in (Rattle.lf.specs.Syntax.weaken A, (A, g, refl))

out_in : (A : LfType) (O : List LfType) (k : ℕ) → in_context (binders O A) (out_index A k) ≡ in_context O k
out_in (pi A B) O k = out_in B (A ∷ O) (suc k)
out_in (atom a S) O k = refl

-- two tuples are the same where they are so at the inputs and at the outputs
same_places_all : (U : ℕ → Bool) (σ τ : ℕ → Image) (m : List Mark) (S T : Spine) → NoneFree m → SameOn U σ τ → UsesPlaces U (input_places m) S → SamePlaces (input_places m) (substitute_spine reduce σ S) T → SamePlaces (output_places m) T (substitute_spine reduce τ S) → substitute_spine reduce τ S ≡ T
same_places_all U σ τ [] nil nil n h u p q = refl
same_places_all U σ τ [] nil (app N T) n h u p q = absurd p
same_places_all U σ τ [] (app M S) T n h u p q = absurd p
same_places_all U σ τ (b ∷ m) nil T n h u p q = absurd p
same_places_all U σ τ (b ∷ m) (app M S) nil n h u p q = absurd p
same_places_all U σ τ (input ∷ m) (app M S) (app N T) n h (u, v) (e, p) q = ap₂ app (sym (agree_on reduce U σ τ M h u) ∙ e) (same_places_all U σ τ m S T n h v p q)
same_places_all U σ τ (output ∷ m) (app M S) (app N T) n h u p (e, q) = ap₂ app (sym e) (same_places_all U σ τ m S T n h u p q)
same_places_all U σ τ (free ∷ m) (app M S) (app N T) n h u p q = absurd n

-- a subgoal is the same but for its outputs, where the values are the same on what it needs
same_goal : (U : ℕ → Bool) (σ τ : ℕ → Image) (m : List Mark) (A : LfType) (T : Spine) → NoneFree m → SameOn U σ τ → UsesGoal U (input_places m) A → SamePlaces (input_places m) (target_arguments (substitute_type reduce σ A)) T → SamePlaces (output_places m) T (target_arguments (substitute_type reduce τ A)) → substitute_type reduce τ A ≡ with_arguments (substitute_type reduce σ A) T
same_goal U σ τ m (pi A B) T n h (u, v) p q = ap₂ pi (sym (agree_on_type reduce U σ τ A h u)) (same_goal (under U) (lift σ) (lift τ) m B T n (SameOn-under U σ τ h) v p q)
same_goal U σ τ m (atom a S) T n h u p q = ap (atom a) (same_places_all U σ τ m S T n h u p q)

chosen : (b : Bool) (x y : Image) → (b ≡ true → x ≡ y) → y ≡ pick b x y
chosen true x y h = sym (h refl)
chosen false x y h = refl

one : (P : Image → LfType → Type 0) (b : Bool) (x y : Image) (X : LfType) → (b ≡ true → P x X) → (b ≡ false → P y X) → P (pick b x y) X
one P true x y X f g = f refl
one P false x y X f g = g refl

one_term : (b : Bool) (x y : Image) → (b ≡ true → IsTerm x) → (b ≡ false → IsTerm y) → IsTerm (pick b x y)
one_term true x y f g = f refl
one_term false x y f g = g refl

skeleton_of_value : (Σ : Signature) (G : List LfType) (x : Image) (a : Skeleton) (N : Term) (X : LfType) → x ≡ put a N → ImageHasType Σ G x X → skeleton X ≡ a
skeleton_of_value Σ G x a N X e t = (subst (λ y. ImageHasType Σ G y X) e t).0

same_block : {P Q : Block × (ℕ → Image)} → Some P ≡ Some Q → P.1 ≡ Q.1
same_block e = ap (λ P. P.1) (inside e)
  where
    inside : {P Q : Block × (ℕ → Image)} → Some P ≡ Some Q → P ≡ Q
    inside e = cc

-- what is known to stand outside the clause does
told : {c : Clause} (o : Origin c) {Σ : Signature} {W : List Block} {S : ℕ → Bool} {G : List LfType} (w : World Σ W S G) (F : Known) (θ θ' : ℕ → Image) → TellsOutside o F θ → StandsOutside o true w F θ' → (τ : ℕ → Image) → AgreesOutside c τ θ' → AgreesOutside c τ θ
told (of_constant V) w F θ θ' t s τ a = λ k X g. absurd g
told (of_entry B later E es e) w None θ θ' (φ, q, r) s τ a = absurd cc
told (of_entry B later E es e) w (Some (C, ψ)) θ θ' (φ, q, r) (χ, (p, y), z) τ a = λ k X g. a k X g ∙ ap (λ f. f k) (z ∙ ap (before later) (sym y ∙ same_block q) ∙ sym r)

under_within : (U V : ℕ → Bool) → Within U V → Within (under U) (under V)
under_within U V h zero e = refl
under_within U V h (suc i) e = h i e

-- a spine whose inputs and outputs use variables of V uses these alone
uses_places : (U V : ℕ → Bool) (m : List Mark) (S T : Spine) → NoneFree m → Within U V → UsesPlaces U (input_places m) S → UsesPlaces V (output_places m) S → SamePlaces (input_places m) S T → UsesSpine V S
uses_places U V [] nil T n h u v p = tt
uses_places U V [] (app M S) T n h u v p = absurd p
uses_places U V (b ∷ m) nil T n h u v p = absurd p
uses_places U V (b ∷ m) (app M S) nil n h u v p = absurd p
uses_places U V (input ∷ m) (app M S) (app N T) n h (x, u) v (e, p) = (uses_within U V M h x, uses_places U V m S T n h u v p)
uses_places U V (output ∷ m) (app M S) (app N T) n h u (y, v) p = (y, uses_places U V m S T n h u v p)
uses_places U V (free ∷ m) (app M S) (app N T) n h u v p = absurd n

-- as many places as its instance has
same_count : (σ : ℕ → Image) (m : List Bool) (S T : Spine) → SamePlaces m (substitute_spine reduce σ S) T → SamePlaces m S S
same_count σ [] nil T p = tt
same_count σ [] (app M S) nil p = absurd p
same_count σ [] (app M S) (app N T) p = absurd p
same_count σ (b ∷ m) nil T p = absurd p
same_count σ (b ∷ m) (app M S) nil p = absurd p
same_count σ (true ∷ m) (app M S) (app N T) (e, p) = (refl, same_count σ m S T p)
same_count σ (false ∷ m) (app M S) (app N T) p = same_count σ m S T p

uses_goal : (U V : ℕ → Bool) (σ : ℕ → Image) (m : List Mark) (A : LfType) (T : Spine) → NoneFree m → Within U V → UsesGoal U (input_places m) A → UsesGoal V (output_places m) A → SamePlaces (input_places m) (target_arguments (substitute_type reduce σ A)) T → UsesType V A
uses_goal U V σ m (pi B A) T n h (x, u) (y, v) p = (y, uses_goal (under U) (under V) (lift σ) m A T n (under_within U V h) u v p)
uses_goal U V σ m (atom a S) T n h u v p = uses_places U V m S S n h u v (same_count σ (input_places m) S T p)

-- the outputs of a subgoal depend on the variables that occur there
same_outputs : (U : ℕ → Bool) (σ τ : ℕ → Image) (m : List Bool) (A : LfType) (T : Spine) → SameOn U σ τ → UsesGoal U m A → SamePlaces m T (target_arguments (substitute_type reduce σ A)) → SamePlaces m T (target_arguments (substitute_type reduce τ A))
same_outputs U σ τ m (pi A B) T h (u, v) p = same_outputs (under U) (lift σ) (lift τ) m B T (SameOn-under U σ τ h) v p
same_outputs U σ τ m (atom a S) T h u p = SamePlaces-agree reduce U σ τ m T S h u p

pub goal_within : (U V : ℕ → Bool) (m : List Bool) (A : LfType) → Within U V → UsesGoal U m A → UsesGoal V m A
goal_within U V m (pi A B) h (u, v) = (uses_type_within U V A h u, goal_within (under U) (under V) m B (under_within U V h) v)
goal_within U V m (atom a S) h u = UsesPlaces-within U V m S h u

-- What uses variables of two sets uses those in both.
abbrev Meet : (ℕ → Bool) → (ℕ → Bool) → (ℕ → Bool) → Type 0
Meet U V W = (i : ℕ) → U i ≡ true → V i ≡ true → W i ≡ true

meet_under : (U V W : ℕ → Bool) → Meet U V W → Meet (under U) (under V) (under W)
meet_under U V W h zero e f = refl
meet_under U V W h (suc i) e f = h i e f

mutual
  meet_term : (U V W : ℕ → Bool) (M : Term) → Meet U V W → Uses U M → Uses V M → Uses W M
  meet_term U V W (lambda M) h u v = meet_term (under U) (under V) (under W) M (meet_under U V W h) u v
  meet_term U V W (root (constant k) S) h u v = meet_spine U V W S h u v
  meet_term U V W (root (metavariable k) S) h u v = meet_spine U V W S h u v
  meet_term U V W (root (variable i) S) h (a, u) (b, v) = (h i a b, meet_spine U V W S h u v)

  meet_spine : (U V W : ℕ → Bool) (S : Spine) → Meet U V W → UsesSpine U S → UsesSpine V S → UsesSpine W S
  meet_spine U V W nil h u v = tt
  meet_spine U V W (app M S) h (a, u) (b, v) = (meet_term U V W M h a b, meet_spine U V W S h u v)

meet_type : (U V W : ℕ → Bool) (A : LfType) → Meet U V W → UsesType U A → UsesType V A → UsesType W A
meet_type U V W (pi A B) h (a, u) (b, v) = (meet_type U V W A h a b, meet_type (under U) (under V) (under W) B (meet_under U V W h) u v)
meet_type U V W (atom a S) h u v = meet_spine U V W S h u v

meet_places : (U V W : ℕ → Bool) (m : List Bool) (S : Spine) → Meet U V W → UsesSpine U S → UsesPlaces V m S → UsesPlaces W m S
meet_places U V W [] S h u v = tt
meet_places U V W (b ∷ m) nil h u v = tt
meet_places U V W (true ∷ m) (app M S) h (a, u) (b, v) = (meet_term U V W M h a b, meet_places U V W m S h u v)
meet_places U V W (false ∷ m) (app M S) h (a, u) v = meet_places U V W m S h u v

meet_goal : (U V W : ℕ → Bool) (m : List Bool) (A : LfType) → Meet U V W → UsesType U A → UsesGoal V m A → UsesGoal W m A
meet_goal U V W m (pi A B) h (a, u) (b, v) = (meet_type U V W A h a b, meet_goal (under U) (under V) (under W) m B (meet_under U V W h) u v)
meet_goal U V W m (atom a S) h u v = meet_places U V W m S h u v

both_in : {a b : Bool} → a ≡ true → b ≡ true → both a b ≡ true
both_in {a = true} e f = f
both_in {a = false} e f = absurd cc

pub either_in : {b : Bool} (a : Bool) → b ≡ true → either a b ≡ true
either_in true e = refl
either_in false e = e

-- The theorem
pub held_is_covered : (Σ : Signature) → IsSignature Σ → (W : List Block) (m : ℕ → List Mark) (S : ℕ → Bool) (c : Clause) (o : Origin c) (U : ℕ → Bool) (n : ℕ) (A : LfType) → Within (outside c.type everything) U → IsContext Σ (scope c) → IsSubgoal c n A → NoneFree (m (target A)) → UsesGoal U (input_places (m (target A))) A → (C : Case) → IsGivenFor c U C.given → IsCoveredCase Σ W S (subgoal_pattern c o A ∷ []) C → (Σ' : Signature) → Extends S Σ Σ' → (G : List LfType) (w : World Σ' W S G) (F : Known) (θ σ : ℕ → Image) → TellsOutside o F θ → Values Σ' U (scope c) G σ → AgreesOutside c σ θ → AreTerms c U σ → (T : Spine) → covered_places C.arguments ≡ output_places (m (target A)) → SamePlaces (input_places (m (target A))) (target_arguments (substitute_type reduce σ A)) T → Holds w C F σ T → OutputsCovered Σ' m c U A G σ T
held_is_covered Σ ok W m S c o U n A all_out ct (nv, at) none needs C (every, only) cover Σ' x G w F θ σ tells v out ts T places inputs holds =
    let b : List Bool = output_places (m (target A)) in
    let R : CoversTuple w (subgoal_pattern c o A) b F C.given σ T = subst (λ b. CoversTuple w (subgoal_pattern c o A) b F C.given σ T) places (the_one (cover Σ' x G w F σ T holds)) in
    let agrees : AgreesOutside c R.values θ = told o w F θ R.outer tells R.stands R.values R.agrees in
    let V : ℕ → Bool = ground_after m c A U in
    let τ : ℕ → Image = λ i. pick (U i) (σ i) (R.values i) in
    let kept : SameOn U σ τ = λ i u. ap (λ b. pick b (σ i) (R.values i)) (sym u) in
    let ta : IsType Σ (scope c) A = declared_is_type Σ ok (scope c) n A ct at in
    let here : ℕ → Bool = in_context (scope c) in
    let both_here : ℕ → Bool = λ i. both (here i) (R.used i) in
    let meets : Meet here R.used both_here = λ i e f. both_in e f in
    let used_here : (X : LfType) → IsType Σ (scope c) X → UsesType here X = λ X t. typed_uses_type Σ (scope c) here X (in_covers (scope c)) t in
    let like : SameOn both_here R.values τ = λ i e. chosen (U i) (σ i) (R.values i) (λ u. by R agrees i (both_l (here i) (R.used i) e) (both_r (here i) (R.used i) e) u (outside c.type everything i) refl) in
    let uses : UsesType V A = uses_goal U V σ (m (target A)) A T none (grows m c A U) needs (goal_within (ground_in (subgoal_pattern c o A) b C.given) V b A within R.strict) inputs in
    let typed_at : (i : ℕ) (X : LfType) → TypeAt (scope c) i X → R.used i ≡ true → ImageHasType Σ' G (R.values i) (substitute_type reduce τ X) = λ i X g e. subst (ImageHasType Σ' G (R.values i)) (agree_on_type reduce both_here R.values τ X like (meet_type here R.used both_here X meets (used_here X (declared_is_type Σ ok (scope c) i X ct g)) (R.typed.closed i X g e))) (R.typed.typed i X g e) in
    record {
      values = τ;
      typed = record {
        typed = λ i X g r. one (ImageHasType Σ' G) (U i) (σ i) (R.values i) (substitute_type reduce τ X) (λ u. subst (ImageHasType Σ' G (σ i)) (agree_on_type reduce U σ τ X kept (v.closed i X g u)) (v.typed i X g u)) (λ u. typed_at i X g (newly R i r u));
        closed = after_closed Σ ok m c U A ct ta all_out v.closed uses;
      };
      same = kept;
      terms = λ i q r. one_term (U i) (σ i) (R.values i) (ts i q) (λ u. R.terms i q (newly R i r u));
      uses = uses;
      is_instance = same_goal U σ τ (m (target A)) A T none kept needs inputs (same_outputs both_here R.values τ b A T like (meet_goal here R.used both_here b A meets (used_here A ta) R.uses) R.same);
    }
  where
    the_one : {b : List Bool} → OneCovers w (subgoal_pattern c o A ∷ []) b F C.given σ T → CoversTuple w (subgoal_pattern c o A) b F C.given σ T
    the_one {b} (p, inl e, h) = subst (λ q. CoversTuple w q b F C.given σ T) e h
    the_one (p, inr e, h) = absurd e

    -- what the outputs make ground is used
    newly : (R : CoversTuple w (subgoal_pattern c o A) (output_places (m (target A))) F C.given σ T) (i : ℕ) → ground_after m c A U i ≡ true → U i ≡ false → R.used i ≡ true
    newly R i r u = here (either_cases (U i) (both (variables c i) (strict_goal (output_places (m (target A))) nothing (outside c.type c.fixed) i A)) r)
      where
        here : (U i ≡ true) ⊎ (both (variables c i) (strict_goal (output_places (m (target A))) nothing (outside c.type c.fixed) i A) ≡ true) → R.used i ≡ true
        here (inl q) = absurd (true≢false (sym q ∙ u))
        here (inr q) = goal_used R.used (output_places (m (target A))) nothing (outside c.type c.fixed) i A R.uses (both_r (variables c i) _ q)

    -- what is ground by the case and the outputs is so by what is ground before
    within : Within (ground_in (subgoal_pattern c o A) (output_places (m (target A))) C.given) (ground_after m c A U)
    within i e = given (either_cases (is_given C.given i) (either (outside c.type everything i) (both (variables c i) (strict_goal (output_places (m (target A))) nothing (outside c.type c.fixed) i A))) e)
      where
        rest : (outside c.type everything i ≡ true) ⊎ (both (variables c i) (strict_goal (output_places (m (target A))) nothing (outside c.type c.fixed) i A) ≡ true) → ground_after m c A U i ≡ true
        rest (inl q) = grows m c A U i (all_out i q)
        rest (inr q) = either_in (U i) q

        given : (is_given C.given i ≡ true) ⊎ (either (outside c.type everything i) (both (variables c i) (strict_goal (output_places (m (target A))) nothing (outside c.type c.fixed) i A)) ≡ true) → ground_after m c A U i ≡ true
        given (inl q) = grows m c A U i (only i q)
        given (inr q) = rest (either_cases (outside c.type everything i) (both (variables c i) (strict_goal (output_places (m (target A))) nothing (outside c.type c.fixed) i A)) q)

    by : (R : CoversTuple w (subgoal_pattern c o A) (output_places (m (target A))) F C.given σ T) → AgreesOutside c R.values θ → (i : ℕ) → in_context (scope c) i ≡ true → R.used i ≡ true → U i ≡ true → (t : Bool) → outside c.type everything i ≡ t → σ i ≡ R.values i
    by R agrees i e used u true q =
        let (k, p, _) = outside_from c.type everything i q in
        let (X, g) = in_type c.outer k (sym (out_in c.type c.outer k) ∙ ap (in_context (scope c)) (sym p) ∙ e) in
        ap σ p ∙ sym (outer_at c.type σ k) ∙ out k X g ∙ sym (agrees k X g) ∙ outer_at c.type R.values k ∙ ap R.values (sym p)
    by R agrees i e used u false q =
        let (M, at') = every i u q in
        let (b, a, N, r, p) = R.given i M used at' in
        let (X, g) = in_type (scope c) i e in
        let a' : skeleton X ≡ a = sym (skeleton_substituted reduce σ X) ∙ skeleton_of_value Σ' G (σ i) a N (substitute_type reduce σ X) p (v.typed i X g u) in
        let b' : skeleton X ≡ b = sym (skeleton_substituted reduce R.values X) ∙ skeleton_of_value Σ' G (R.values i) b N (substitute_type reduce R.values X) r (R.typed.typed i X g used) in
        p ∙ ap (λ s. put s N) (sym a' ∙ b') ∙ sym r
