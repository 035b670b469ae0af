-- The cases of copying are instances of its clauses, and its goal of none.
use Rattle.std.proofs.Common.{◌≡◌, ℕ, zero, suc, List, [], ◌∷◌, refl, sym, ap, ◌∙◌, subst, inl, inr}
use Rattle.std.specs.Prelude.{Bool, true, false}
use Rattle.lf.specs.Syntax.{Term, Spine, lambda, nil, app, LfType, base, arrow, skeleton}
use Rattle.lf.specs.AtOnce.{in_front}
use Rattle.lf.specs.Substitution.{Image, keep, put, apply_image, substitute, substitute_type, reduce}
use Rattle.lf.specs.Typing.{TypeAt, ImageHasType}
use Rattle.lf.specs.Variables.{Values, UsesType}
use Rattle.lf.specs.Subordination.{Member}
use Rattle.lf.proofs.Decidability.{variable_type_unique}
use Rattle.lf.proofs.Eta.{reduce_nil}
use Rattle.lf_checks.specs.Clause.{scope}
use Rattle.lf_checks.specs.Marks.{SamePlaces}
use Rattle.lf_cases.specs.Case.{Item, as_term, covered_places, HasArguments}
use Rattle.lf_cases.specs.Cover.{AreTerms}
use Rattle.lf_cases.specs.Missing.{BlockAmong, CommonInstance, IsTypedInstance}
use Rattle.lf_cases.specs.Pattern.{Pattern}
use Rattle.lf_cases.specs.Reached.{IsInstanceOf, LeavesAll}
use Rattle.lf_totality.specs.Examples.{Copying, applied_to, application, copy_block, copy_heads, cp_app, cp_lam, exp, function, lam, var}
use Rattle.lf_totality.specs.ExamplesReached.{cp_lam_case}
use Rattle.lf_totality.proofs.ExamplesSplits.{entry_instance as entry_stands}
use Rattle.lf_coverage.specs.ExamplesCopying.{copy_worlds, copy_goal, copy_app_case, copy_lam_head, copy_app_head, copy_entry_head, CopyCasesAreInstances}
use Rattle.lf_coverage.proofs.ExamplesCopying.{lam_typed, lam_items_typed, app_items_typed}

-- cp (lam E) _ and cp-lam, in which E alone is looked at
abbrev only_E : ℕ → Bool
only_E zero = false
only_E (suc zero) = false
only_E (suc (suc zero)) = true
only_E (suc (suc (suc i))) = false

abbrev E_images : ℕ → Image
E_images = in_front (keep 0) (in_front (keep 0) (in_front (put (arrow (base 0) (base 0)) (lambda (applied_to 1 0))) keep))

E_at : (A : LfType) → TypeAt (scope cp_lam) 2 A → A ≡ function
E_at A g = variable_type_unique (scope cp_lam) 2 A function g (function, (function, refl, refl), refl)

E_values : Values Copying only_E (scope cp_lam) (function ∷ []) E_images
E_values = record { typed = typed; closed = closed }
  where
    typed : (i : ℕ) (A : LfType) → TypeAt (scope cp_lam) i A → only_E i ≡ true → ImageHasType Copying (function ∷ []) (E_images i) (substitute_type reduce E_images A)
    typed zero A g u = absurd cc
    typed (suc zero) A g u = absurd cc
    typed (suc (suc zero)) A g u = subst (λ X. ImageHasType Copying (function ∷ []) (E_images 2) (substitute_type reduce E_images X)) (sym (E_at A g)) (refl, (function, (function, refl, refl), ((exp, refl, refl), refl)))
    typed (suc (suc (suc i))) A g u = absurd cc

    closed : (i : ℕ) (A : LfType) → TypeAt (scope cp_lam) i A → only_E i ≡ true → UsesType only_E A
    closed zero A g u = absurd cc
    closed (suc zero) A g u = absurd cc
    closed (suc (suc zero)) A g u = subst (UsesType only_E) (sym (E_at A g)) (tt, tt)
    closed (suc (suc (suc i))) A g u = absurd cc

E_terms : AreTerms cp_lam only_E E_images
E_terms zero o u = absurd cc
E_terms (suc zero) o u = absurd cc
E_terms (suc (suc zero)) o u = tt
E_terms (suc (suc (suc i))) o u = absurd cc

-- the goal shares it with cp-lam too
pub goal_shares : CommonInstance Copying copy_worlds copy_goal copy_lam_head
goal_shares = record {
  items = cp_lam_case.items;
  typed_items = lam_items_typed;
  case_values = in_front (put (base 0) (lam (applied_to 1 0))) keep;
  is_instance = (lam (applied_to 1 0), keep, tt, lam_typed, refl);
  used = only_E;
  clause_values = E_images;
  typed_values = E_values;
  uses = (((refl, ((refl, tt), tt)), tt), tt);
  terms = E_terms;
  given = λ i M e. absurd cc;
  stands = tt;
  tuple = app (lam (applied_to 1 0)) (app (lam (applied_to 1 0)) nil);
  of_case = (refl, tt);
  of_clause = (refl, tt);
}

pub lam_is_instance : IsInstanceOf Copying copy_worlds cp_lam_case copy_lam_head
lam_is_instance = (
  record {
    items = cp_lam_case.items;
    typed_items = lam_items_typed;
    case_values = in_front (put (arrow (base 0) (base 0)) (lambda (applied_to 1 0))) keep;
    is_instance = (lambda (applied_to 1 0), keep, tt, (function, (function, refl, refl), ((exp, refl, refl), refl)), refl);
    used = only_E;
    clause_values = E_images;
    typed_values = E_values;
    uses = (((refl, ((refl, tt), tt)), tt), tt);
    terms = E_terms;
    given = λ i M e. absurd cc;
    stands = tt;
    tuple = app (lam (applied_to 1 0)) (app (lam (applied_to 1 0)) nil);
    of_case = (refl, tt);
    of_clause = (refl, tt);
  },
  refl,
  all,
  (((refl, ((refl, tt), tt)), tt), tt),
)
  where
    all : LeavesAll cp_lam_case.items (in_front (put (arrow (base 0) (base 0)) (lambda (applied_to 1 0))) keep)
    all zero A q = subst (λ X. lambda (applied_to 1 0) ≡ as_term (skeleton X) (keep 0)) (sym q) refl
    all (suc i) A (B, g, r) = absurd g

-- cp (app M N) _ and cp-app, in which M and N are looked at
abbrev only_MN : ℕ → Bool
only_MN zero = false
only_MN (suc zero) = false
only_MN (suc (suc zero)) = false
only_MN (suc (suc (suc zero))) = false
only_MN (suc (suc (suc (suc zero)))) = true
only_MN (suc (suc (suc (suc (suc zero))))) = true
only_MN (suc (suc (suc (suc (suc (suc i)))))) = false

abbrev MN_images : ℕ → Image
MN_images zero = keep 0
MN_images (suc zero) = keep 0
MN_images (suc (suc zero)) = keep 0
MN_images (suc (suc (suc zero))) = keep 0
MN_images (suc (suc (suc (suc zero)))) = put (base 0) (var 0)
MN_images (suc (suc (suc (suc (suc zero))))) = put (base 0) (var 1)
MN_images (suc (suc (suc (suc (suc (suc i)))))) = keep i

N_at : (A : LfType) → TypeAt (scope cp_app) 4 A → A ≡ exp
N_at A g = variable_type_unique (scope cp_app) 4 A exp g (exp, (exp, (exp, (exp, refl, refl), refl), refl), refl)

M_at : (A : LfType) → TypeAt (scope cp_app) 5 A → A ≡ exp
M_at A g = variable_type_unique (scope cp_app) 5 A exp g (exp, (exp, (exp, (exp, (exp, refl, refl), refl), refl), refl), refl)

MN_values : Values Copying only_MN (scope cp_app) (exp ∷ exp ∷ []) MN_images
MN_values = record { typed = typed; closed = closed }
  where
    typed : (i : ℕ) (A : LfType) → TypeAt (scope cp_app) i A → only_MN i ≡ true → ImageHasType Copying (exp ∷ exp ∷ []) (MN_images i) (substitute_type reduce MN_images A)
    typed zero A g u = absurd cc
    typed (suc zero) A g u = absurd cc
    typed (suc (suc zero)) A g u = absurd cc
    typed (suc (suc (suc zero))) A g u = absurd cc
    typed (suc (suc (suc (suc zero)))) A g u = subst (λ X. ImageHasType Copying (exp ∷ exp ∷ []) (MN_images 4) (substitute_type reduce MN_images X)) (sym (N_at A g)) (refl, (exp, refl, refl))
    typed (suc (suc (suc (suc (suc zero))))) A g u = subst (λ X. ImageHasType Copying (exp ∷ exp ∷ []) (MN_images 5) (substitute_type reduce MN_images X)) (sym (M_at A g)) (refl, (exp, (exp, refl, refl), refl))
    typed (suc (suc (suc (suc (suc (suc i)))))) A g u = absurd cc

    closed : (i : ℕ) (A : LfType) → TypeAt (scope cp_app) i A → only_MN i ≡ true → UsesType only_MN A
    closed zero A g u = absurd cc
    closed (suc zero) A g u = absurd cc
    closed (suc (suc zero)) A g u = absurd cc
    closed (suc (suc (suc zero))) A g u = absurd cc
    closed (suc (suc (suc (suc zero)))) A g u = subst (UsesType only_MN) (sym (N_at A g)) tt
    closed (suc (suc (suc (suc (suc zero))))) A g u = subst (UsesType only_MN) (sym (M_at A g)) tt
    closed (suc (suc (suc (suc (suc (suc i)))))) A g u = absurd cc

MN_terms : AreTerms cp_app only_MN MN_images
MN_terms zero o u = absurd cc
MN_terms (suc zero) o u = absurd cc
MN_terms (suc (suc zero)) o u = absurd cc
MN_terms (suc (suc (suc zero))) o u = absurd cc
MN_terms (suc (suc (suc (suc zero)))) o u = tt
MN_terms (suc (suc (suc (suc (suc zero))))) o u = tt
MN_terms (suc (suc (suc (suc (suc (suc i)))))) o u = absurd cc

pub app_is_instance : IsInstanceOf Copying copy_worlds copy_app_case copy_app_head
app_is_instance = (
  record {
    items = copy_app_case.items;
    typed_items = app_items_typed;
    case_values = in_front (put (base 0) (var 0)) (in_front (put (base 0) (var 1)) keep);
    is_instance = (var 0, in_front (put (base 0) (var 1)) keep, (var 1, keep, tt, (exp, (exp, refl, refl), refl), refl), (exp, refl, refl), refl);
    used = only_MN;
    clause_values = MN_images;
    typed_values = MN_values;
    uses = (((refl, tt), ((refl, tt), tt)), tt);
    terms = MN_terms;
    given = λ i M e. absurd cc;
    stands = tt;
    tuple = app (application (var 1) (var 0)) (app (var 0) nil);
    of_case = (refl, tt);
    of_clause = (refl, tt);
  },
  refl,
  all,
  (((refl, tt), ((refl, tt), tt)), tt),
)
  where
    all : LeavesAll copy_app_case.items (in_front (put (base 0) (var 0)) (in_front (put (base 0) (var 1)) keep))
    all zero A q = subst (λ X. var 0 ≡ as_term (skeleton X) (keep 0)) (sym q) refl
    all (suc zero) A g = subst (λ X. var 1 ≡ as_term (skeleton X) (keep 1)) (variable_type_unique (exp ∷ exp ∷ []) 1 exp A (exp, refl, refl) g) refl
    all (suc (suc i)) A (B, (C, g, r), r') = absurd g

-- the goal is an instance of no clause: X stays as it is
still : (J : List Item) (σ : ℕ → Image) → IsTypedInstance Copying J copy_goal.items σ → LeavesAll copy_goal.items σ → substitute reduce σ (var 0) ≡ var 0
still J σ (N, τ, g, n, e) v =
    let p : σ 0 ≡ put (base 0) N = ap (λ f. f 0) e in
    ap (λ y. apply_image reduce y nil) p ∙ reduce_nil (base 0) N ∙ sym (ap (as_term (base 0)) p) ∙ v 0 exp refl

apart_from : (p : Pattern) (N : Spine) (T : Spine) (σ : ℕ → Image) (M : Term) → (var 0 ≡ M → ⊥) → substitute reduce σ (var 0) ≡ var 0 → HasArguments σ copy_goal.arguments T → SamePlaces (covered_places copy_goal.arguments) T (app M N) → ⊥
apart_from p N nil σ M differ k a b = a
apart_from p N (app P T) σ M differ k (e, a) (f, b) = differ (sym (e ∙ k) ∙ f)

goal_no_lam : IsInstanceOf Copying copy_worlds copy_goal copy_lam_head → ⊥
goal_no_lam (s, i, v, st) = apart_from copy_lam_head _ s.tuple s.case_values _ (λ q. absurd cc) (still s.items s.case_values s.is_instance v) s.of_case s.of_clause

goal_no_app : IsInstanceOf Copying copy_worlds copy_goal copy_app_head → ⊥
goal_no_app (s, i, v, st) = apart_from copy_app_head _ s.tuple s.case_values _ (λ q. absurd cc) (still s.items s.case_values s.is_instance v) s.of_case s.of_clause

goal_no_entry : IsInstanceOf Copying copy_worlds copy_goal copy_entry_head → ⊥
goal_no_entry (s, i, v, st) = let (θ, b, a) = s.stands in no θ (subst (λ J. BlockAmong J copy_block θ) i b)
  where
    no : (θ : ℕ → Image) → BlockAmong copy_goal.items copy_block θ → ⊥
    no θ (τ, b, e) = b

pub goal_none : (p : Pattern) → Member p copy_heads → IsInstanceOf Copying copy_worlds copy_goal p → ⊥
goal_none p (inl e) h = goal_no_lam (subst (IsInstanceOf Copying copy_worlds copy_goal) e h)
goal_none p (inr (inl e)) h = goal_no_app (subst (IsInstanceOf Copying copy_worlds copy_goal) e h)
goal_none p (inr (inr (inl e))) h = goal_no_entry (subst (IsInstanceOf Copying copy_worlds copy_goal) e h)
goal_none p (inr (inr (inr e))) h = absurd e

pub copy_instances : CopyCasesAreInstances
copy_instances = (lam_is_instance, app_is_instance, entry_stands (inl refl), goal_none)
