-- A case that matches a pattern is an instance of it, and both are decided.
use Rattle.std.proofs.Common.{◌≡◌, ℕ, zero, suc, List, [], ◌∷◌, refl, sym, ap, ◌∙◌, subst}
use Rattle.std.specs.Prelude.{Bool, true, false, Option, Some, None, ◌↔◌}
use Rattle.lf.specs.Syntax.{constant, variable, metavariable, Term, Spine, lambda, root, nil, app, LfType, pi, atom, skeleton, weaken, Skeleton-discrete}
use Rattle.lf.specs.Substitution.{Image, keep, put, substitute_type, reduce}
use Rattle.lf.specs.SkeletonTyping.{SubstitutionBySkeletons}
use Rattle.lf.specs.Skeletons.{constant_skeletons, context_skeletons}
use Rattle.lf.specs.Typing.{Signature, TypeAt, ImageHasType}
use Rattle.lf.specs.Variables.{target_arguments, onto, Uses, UsesSpine, UsesType, under}
use Rattle.lf.specs.Subordination.{Block}
use Rattle.lf.specs.Worlds.{lift_over}
use Rattle.lf.proofs.Decidability.{typing_decidable}
use Rattle.lf_checks.specs.Clause.{Clause, scope}
use Rattle.lf_checks.specs.Ground.{UsesGoal}
use Rattle.lf_checks.specs.Marks.{SamePlaces, UsesPlaces}
use Rattle.lf_checks.specs.Parts.{type_at}
use Rattle.lf_checks.specs.Worlded.{IsTerm}
use Rattle.lf_checks.proofs.Numbered.{type_both}
use Rattle.lf_checks.proofs.SmallerDecided.{is_true, same_term, same_type}
use Rattle.lf_cases.specs.Cover.{AreTerms}
use Rattle.lf_cases.specs.Case.{Item, Case, items_context, HasArguments, covered_places}
use Rattle.lf_cases.specs.Pattern.{Origin, of_constant, of_entry, Pattern, ground_in}
use Rattle.lf_cases.specs.Missing.{AreTypedItems, CommonInstance, blocks_with}
use Rattle.lf_cases.specs.Reached.{IsInstanceOf, LeavesAll}
use Rattle.lf_coverage.specs.Heads.{HaveSkeletons}
use Rattle.lf_coverage.specs.Matching.{ArePlaces, HoldsTypes, Matches, found_values}
use Rattle.lf_coverage.specs.MatchingLaws.{MatchIsInstance, InstanceIsDecided}
use Rattle.lf_coverage.specs.MeetStore.{IsConstants}
use Rattle.lf_coverage.proofs.Leaf.{leaves_deep, leaves_terms}
use Rattle.lf_coverage.proofs.Leaves.{given_skeleton, given_is}
use Rattle.lf_coverage.proofs.Matched.{given_found, instance_matches, own_type}
use Rattle.lf_coverage.proofs.Matching.{is_own}
use Rattle.lf_coverage.proofs.InstanceOfItself.{items_stay}
use Rattle.lf_coverage.proofs.SolvedMeets.{nothing_outside}
use Rattle.lf_coverage.proofs.Transfer.{instance_fits}
use native.Mathlib.Decide.{ℕ_discrete}

same_blocks : (Σ : Signature) {c : Clause} (o : Origin c) → IsConstants o → (W : List Block) (I : List Item) → AreTypedItems Σ W I → AreTypedItems Σ (blocks_with o W) I
same_blocks Σ (of_constant U) k W I a = a
same_blocks Σ (of_entry B later E es e) k W I a = absurd k

pub same_self : (Ms : List (Option Term)) (T : Spine) → ArePlaces Ms T → SamePlaces (covered_places Ms) T T
same_self [] nil h = tt
same_self [] (app N T) h = h
same_self (Some M ∷ Ms) nil h = h
same_self (None ∷ Ms) nil h = h
same_self (Some M ∷ Ms) (app N T) (e, h) = (refl, same_self Ms T h)
same_self (None ∷ Ms) (app N T) h = same_self Ms T h

-- the case's own arguments are these
own_arguments : (Σ : Signature) (I : List Item) (σ : ℕ → Image) → SubstitutionBySkeletons (constant_skeletons Σ) (context_skeletons (items_context I)) (context_skeletons (items_context I)) σ → LeavesAll I σ → (L : List LfType) (Ms : List (Option Term)) (T : Spine) → HaveSkeletons (constant_skeletons Σ) (context_skeletons (onto L (items_context I))) Ms → ArePlaces Ms T → HasArguments (lift_over L σ) Ms T
own_arguments Σ I σ f l L [] nil hm h = tt
own_arguments Σ I σ f l L [] (app N T) hm h = h
own_arguments Σ I σ f l L (Some M ∷ Ms) nil hm h = h
own_arguments Σ I σ f l L (None ∷ Ms) nil hm h = h
own_arguments Σ I σ f l L (Some M ∷ Ms) (app N T) ((t, m), hm) (e, h) = (sym e ∙ sym (leaves_deep Σ I σ f l L M t m), own_arguments Σ I σ f l L Ms T hm h)
own_arguments Σ I σ f l L (None ∷ Ms) (app N T) hm h = own_arguments Σ I σ f l L Ms T hm h

pub match_is_instance : MatchIsInstance
match_is_instance Σ ok W typed C tc p k own m =
    let (σ, i, l) = items_stay Σ ok W typed C.items tc.items in
    let f = instance_fits Σ ok W C.items tc.items C.items σ i in
    let T : Spine = target_arguments (substitute_type reduce (found_values C p) p.type) in
    let s : CommonInstance Σ W C p = record {
      items = C.items;
      typed_items = same_blocks Σ p.origin k W C.items tc.items;
      case_values = σ;
      is_instance = i;
      used = ground_in p (covered_places C.arguments) C.given;
      clause_values = found_values C p;
      typed_values = m.typed;
      uses = m.strict;
      terms = m.found;
      given = λ j M q.
          let (A, g) = own_type p.clause j (own j (given_is C.given j M q)) in
          let (t, n) = given_skeleton (constant_skeletons Σ) (context_skeletons (items_context C.items)) C.given j M tc.given q in
          (skeleton A, given_found C p j A M g q ∙ ap (put (skeleton A)) (sym (leaves_terms Σ C.items σ f l M t n)));
      stands = nothing_outside Σ p.origin k p.at_first C.items C.items σ i (found_values C p);
      tuple = target_arguments (substitute_type reduce (found_values C p) p.type);
      of_case = own_arguments Σ C.items σ f l C.local C.arguments T tc.arguments m.same;
      of_clause = same_self C.arguments T m.same;
    } in
    (s, refl, l, m.strict)

-- What matching tests is decided.
pub both_decided : {A B : Type 0} → Dec A → Dec B → Dec (A × B)
both_decided (yes a) (yes b) = yes (a, b)
both_decided (yes a) (no n) = no (λ h. n h.1)
both_decided (no n) d = no (λ h. n h.0)

pub implied : {A B : Type 0} → Dec A → Dec B → Dec (A → B)
implied (yes a) (yes b) = yes (λ x. b)
implied (yes a) (no n) = no (λ f. n (f a))
implied (no n) d = yes (λ a. absurd (n a))

mutual
  uses_decided : (U : ℕ → Bool) (M : Term) → Dec (Uses U M)
  uses_decided U (lambda M) = uses_decided (under U) M
  uses_decided U (root (constant c) S) = spine_decided U S
  uses_decided U (root (metavariable m) S) = spine_decided U S
  uses_decided U (root (variable i) S) = both_decided (is_true (U i)) (spine_decided U S)

  spine_decided : (U : ℕ → Bool) (S : Spine) → Dec (UsesSpine U S)
  spine_decided U nil = yes tt
  spine_decided U (app M S) = both_decided (uses_decided U M) (spine_decided U S)

type_uses_decided : (U : ℕ → Bool) (A : LfType) → Dec (UsesType U A)
type_uses_decided U (pi A B) = both_decided (type_uses_decided U A) (type_uses_decided (under U) B)
type_uses_decided U (atom a S) = spine_decided U S

places_decided : (U : ℕ → Bool) (m : List Bool) (S : Spine) → Dec (UsesPlaces U m S)
places_decided U [] S = yes tt
places_decided U (b ∷ m) nil = yes tt
places_decided U (true ∷ m) (app M S) = both_decided (uses_decided U M) (places_decided U m S)
places_decided U (false ∷ m) (app M S) = places_decided U m S

pub goal_decided : (U : ℕ → Bool) (m : List Bool) (A : LfType) → Dec (UsesGoal U m A)
goal_decided U m (pi A B) = both_decided (type_uses_decided U A) (goal_decided (under U) m B)
goal_decided U m (atom a S) = places_decided U m S

pub same_decided : (Ms : List (Option Term)) (T : Spine) → Dec (ArePlaces Ms T)
same_decided [] nil = yes tt
same_decided [] (app N T) = no (λ h. h)
same_decided (Some M ∷ Ms) nil = no (λ h. h)
same_decided (None ∷ Ms) nil = no (λ h. h)
same_decided (Some M ∷ Ms) (app N T) = both_decided (same_term M N) (same_decided Ms T)
same_decided (None ∷ Ms) (app N T) = same_decided Ms T

pub all_decided : (G : List LfType) (P : ℕ → LfType → Type 0) → ((i : ℕ) (A : LfType) → TypeAt G i A → Dec (P i A)) → Dec ((i : ℕ) (A : LfType) → TypeAt G i A → P i A)
all_decided [] P h = yes (λ i A g. absurd g)
all_decided (B ∷ G) P h = by (h zero (weaken B) refl) (all_decided G (λ i A. P (suc i) (weaken A)) (λ i A g. h (suc i) (weaken A) (A, g, refl)))
  where
    all : P zero (weaken B) → ((i : ℕ) (A : LfType) → TypeAt G i A → P (suc i) (weaken A)) → (i : ℕ) (A : LfType) → TypeAt (B ∷ G) i A → P i A
    all a r zero A e = subst (P zero) (sym e) a
    all a r (suc i) A (X, g, e) = subst (P (suc i)) (sym e) (r i X g)

    by : Dec (P zero (weaken B)) → Dec ((i : ℕ) (A : LfType) → TypeAt G i A → P (suc i) (weaken A)) → Dec ((i : ℕ) (A : LfType) → TypeAt (B ∷ G) i A → P i A)
    by (yes a) (yes r) = yes (all a r)
    by (yes a) (no n) = no (λ f. n (λ i A g. f (suc i) (weaken A) (A, g, refl)))
    by (no n) r = no (λ f. n (f zero (weaken B) refl))

pub term_decided : (y : Image) → Dec (IsTerm y)
term_decided (keep i) = no (λ h. h)
term_decided (put a N) = yes tt

variable_decided : (G : List LfType) (y : ℕ) (A : LfType) → Dec (TypeAt G y A)
variable_decided G y A = by (type_at G y) refl
  where
    by : (o : Option LfType) → type_at G y ≡ o → Dec (TypeAt G y A)
    by None e = no (λ t. let q : type_at G y ≡ Some A = (type_both G y A).0 t in absurd cc)
    by (Some X) e = elim (same_type X A) [ yes q ↦ yes ((type_both G y A).1 (e ∙ ap Some q)) | no n ↦ no (λ t. n (let q : type_at G y ≡ Some A = (type_both G y A).0 t in cc)) ]

image_decided : (Σ : Signature) (G : List LfType) (y : Image) (A : LfType) → Dec (ImageHasType Σ G y A)
image_decided Σ G (keep j) A = variable_decided G j A
image_decided Σ G (put a N) A = both_decided (Skeleton-discrete ℕ_discrete (skeleton A) a) (typing_decidable Σ G N A)

module _ (Σ : Signature) (C : Case) (p : Pattern) (k : IsConstants p.origin) (cl : UsesGoal (ground_in p (covered_places C.arguments) C.given) (covered_places C.arguments) p.type → HoldsTypes (ground_in p (covered_places C.arguments) C.given) (scope p.clause)) where
  abbrev V : ℕ → Bool
  V = ground_in p (covered_places C.arguments) C.given

  pub terms_decided : Dec (AreTerms p.clause (ground_in p (covered_places C.arguments) C.given) (found_values C p))
  terms_decided = elim (all_decided (scope p.clause) (λ i A. V i ≡ true → IsTerm (found_values C p i)) (λ i A g. implied (is_true (V i)) (term_decided (found_values C p i)))) [ yes h ↦ yes (λ i o v. let (A, g) = own_type p.clause i o in h i A g v) | no n ↦ no (λ h. n (λ i A g v. h i (is_own p.origin k i A g) v)) ]

  typed_decided : Dec ((i : ℕ) (A : LfType) → TypeAt (scope p.clause) i A → ground_in p (covered_places C.arguments) C.given i ≡ true → ImageHasType Σ (items_context C.items) (found_values C p i) (substitute_type reduce (found_values C p) A))
  typed_decided = all_decided (scope p.clause) (λ i A. V i ≡ true → ImageHasType Σ (items_context C.items) (found_values C p i) (substitute_type reduce (found_values C p) A)) (λ i A g. implied (is_true (V i)) (image_decided Σ (items_context C.items) (found_values C p i) (substitute_type reduce (found_values C p) A)))

  pub matches_decided : Dec (Matches Σ C p)
  matches_decided = by (goal_decided V (covered_places C.arguments) p.type) terms_decided typed_decided (same_decided C.arguments (target_arguments (substitute_type reduce (found_values C p) p.type)))
    where
      by : Dec (UsesGoal V (covered_places C.arguments) p.type) → Dec (AreTerms p.clause V (found_values C p)) → Dec ((i : ℕ) (A : LfType) → TypeAt (scope p.clause) i A → V i ≡ true → ImageHasType Σ (items_context C.items) (found_values C p i) (substitute_type reduce (found_values C p) A)) → Dec (ArePlaces C.arguments (target_arguments (substitute_type reduce (found_values C p) p.type))) → Dec (Matches Σ C p)
      by (yes g) (yes t) (yes v) (yes s) = yes (record { strict = g; found = t; typed = record { typed = v; closed = cl g }; same = s })
      by (no n) t v s = no (λ m. n m.strict)
      by (yes g) (no n) v s = no (λ m. n m.found)
      by (yes g) (yes t) (no n) s = no (λ m. n m.typed.typed)
      by (yes g) (yes t) (yes v) (no n) = no (λ m. n m.same)

pub instance_is_decided : InstanceIsDecided
instance_is_decided Σ ok W typed C p tp k tb own cl =
    let d : IsInstanceOf Σ W C p ↔ Matches Σ C p = (λ i. instance_matches Σ ok W typed C p tp k tb cl i, λ m. match_is_instance Σ ok W typed C tb.by_skeletons p k own m) in
    elim (matches_decided Σ C p k cl) [ yes m ↦ yes (d.1 m) | no n ↦ no (λ i. n (d.0 i)) ]
