-- The theorem at work with hypotheses: copying of lambda terms lasts in the worlds of its block.
use Rattle.lf_checks.specs.Ground.{Subgoals, UsesGoal, ground_after, ground_first}
use Rattle.lf_checks.specs.Worlded.{IsSequence, IsTerm, WellWorlded, next_instance, no_instance}
use Rattle.lf_checks.specs.Order.{IsAtPlaces, equal, first_argument, later_argument, place, smaller, under_constant, under_lambda}
use Rattle.lf_totality.specs.Total.{HasTotalMarks, Total}
use Rattle.lf_checks.specs.Marks.{HasSoundMarks, SamePlaces, TypedPlaces, free_places, input_places}
use Rattle.lf_totality.specs.Group.{GroupChecked, IsCallee}
use Rattle.lf_totality.specs.Examples.{Copying, CopyingLasts, application, applied_to, copy_block, copying_kinds, copying_marks, copying_record, copying_types, cp, cp_app, cp_kind, cp_lam, exp, first_below_second, first_place, function, lam, var, TermsHaveCopies, z, block_case, copy_entry, copy_heads, BlockCaseIsCovered}
use Rattle.lf_cases.specs.Case.{HasArguments, IsGroundInstance, covered_places}
use Rattle.lf_checks.specs.Clause.{Clause, IsClause, IsSubgoal, among, constant_clause, entry_clause, from_constant, from_entry, outside, scope, variables}
use Rattle.lf_checks.specs.Descent.{CallDescends}
use Rattle.lf_cases.specs.Pattern.{of_entry, head_pattern, OneCovers}
use Rattle.lf_cases.specs.Cover.{AreTerms, CoveredBy, CoveredInputs, CoveredOutputs, InstanceIn, OutputsCovered, by_constant, by_entry}
use Rattle.lf_checks.specs.Modes.{AllGround, EachHypothesis, InFreePlace, WellModed, WellModedTo, occurs_at}
use Rattle.std.proofs.Common.{◌≡◌, ℕ, zero, suc, List, [], ◌∷◌, ◌<◌, refl, sym, ap, ap₂, ◌∙◌, subst, arith, inl, inr, true≢false}
use Rattle.std.specs.Prelude.{Bool, true, false, ◌⊎◌, Some}
use Rattle.lf.specs.Syntax.{constant, variable, metavariable, Term, Spine, lambda, root, nil, app, LfType, Kind, pi, atom, star, Skeleton, base, arrow, lift_renaming, rename, rename_spine, rename_type, weaken}
use Rattle.lf.specs.Substitution.{Image, keep, put, rename_image, lift, single, apply_image, substitute, substitute_spine, substitute_type, reduce}
use Rattle.lf.specs.Typing.{Signature, TypeAt, HasType, SpineType, SpineFitsKind, IsType, IsKind, IsContext, IsSignature, instantiate_type, ImageHasType}
use Rattle.lf.specs.Variables.{target, target_arguments, binders, onto, under, Uses, Values, SameOn, UsesType, FamiliesIn, KindFamiliesIn, everything, nothing, same_number, IsTypedRenamingOn}
use Rattle.lf.specs.Subordination.{Block, Member, IsDeclared, SelfContained}
use Rattle.lf.specs.Worlds.{World}
use Rattle.lf.specs.Extension.{Extends}
use Rattle.lf.proofs.Renaming.{renamings_compose, substitute_renamed, substitute_identity, up_up}
use Rattle.lf.proofs.TypeLaws.{renamings_compose_type, substitution_as_renaming, substitute_identity_type, substitution_as_renaming_type}
use Rattle.lf.proofs.Agreement.{agree_on}
use Rattle.lf.proofs.Decidability.{variable_type_unique}
use Rattle.lf.proofs.Target.{target_of, target_renamed}
use Rattle.lf.proofs.Patch.{pick}
use Rattle.lf.proofs.Strength.{uses_only, strengthening_keeps_typing, Rich}
use Rattle.lf_totality.proofs.After.{record_made, lasting_total}
use Rattle.lf_cases.proofs.GroundTypes.{grows, outside_ground}
use Rattle.lf_totality.proofs.ExampleLemmas.{step, below_itself, same_below, in_group}
use Rattle.lf_cases.proofs.Instances.{entry_of, EntryAt, Begun, instance_typed}
use mathlib.Core.Path.{fun_ext}

abbrev goal1 : LfType
goal1 = cp (var 5) (var 3)

abbrev goal2 : LfType
goal2 = cp (var 4) (var 2)

abbrev goal : LfType
goal = pi exp (pi (cp (var 0) (var 0)) (cp (applied_to 4 1) (applied_to 3 1)))

some_type : {A B : LfType} → Some A ≡ Some B → A ≡ B
some_type e = cc

some_kind : {A B : Kind} → Some A ≡ Some B → A ≡ B
some_kind e = cc

one_zero : {n : ℕ} → suc n ≡ zero → ⊥
one_zero e = omega arith

exp_ok : (G : List LfType) → IsType Copying G exp
exp_ok G = (star, refl, tt)

fn_ok : (G : List LfType) → IsType Copying G function
fn_ok G = (exp_ok G, exp_ok (exp ∷ G))

cp_ok : (G : List LfType) (M N : Term) → HasType Copying G M exp → HasType Copying G N exp → IsType Copying G (cp M N)
cp_ok G M N m n = (cp_kind, refl, (m, (n, tt)))

v_ok : (G : List LfType) (i : ℕ) → TypeAt G i exp → HasType Copying G (var i) exp
v_ok G i g = (exp, g, refl)

applied_ok : (G : List LfType) (i j : ℕ) → TypeAt G i function → TypeAt G j exp → HasType Copying G (applied_to i j) exp
applied_ok G i j f g = (function, f, (v_ok G j g, refl))

lam_ok : (G : List LfType) (M : Term) → HasType Copying (exp ∷ G) M exp → HasType Copying G (lam M) exp
lam_ok G M m = (pi function exp, refl, (m, refl))

lam_type_ok : IsType Copying [] cp_lam.type
lam_type_ok =
    let g2 : List LfType = function ∷ function ∷ [] in
    let g3 : List LfType = exp ∷ g2 in
    let g4 : List LfType = cp (var 0) (var 0) ∷ g3 in
    let gl : LfType = pi exp (pi (cp (var 0) (var 0)) (cp (applied_to 3 1) (applied_to 2 1))) in
    let h3 : List LfType = gl ∷ g2 in
    let h4 : List LfType = exp ∷ h3 in (
      fn_ok [],
      (
        fn_ok (function ∷ []),
        (
          (exp_ok g2, (cp_ok g3 (var 0) (var 0) (v_ok g3 0 refl) (v_ok g3 0 refl), cp_ok g4 (applied_to 3 1) (applied_to 2 1) (applied_ok g4 3 1 (function, (function, (function, refl, refl), refl), refl) (exp, refl, refl)) (applied_ok g4 2 1 (function, (function, refl, refl), refl) (exp, refl, refl)))),
          cp_ok h3 (lam (applied_to 3 0)) (lam (applied_to 2 0)) (lam_ok h3 (applied_to 3 0) (applied_ok h4 3 0 (function, (function, (function, refl, refl), refl), refl) refl)) (lam_ok h3 (applied_to 2 0) (applied_ok h4 2 0 (function, (function, refl, refl), refl) refl)),
        ),
      ),
    )

application_ok : (G : List LfType) (i j : ℕ) → TypeAt G i exp → TypeAt G j exp → HasType Copying G (application (var i) (var j)) exp
application_ok G i j g h = (pi exp (pi exp exp), refl, (v_ok G i g, (v_ok G j h, refl)))

app_type_ok : IsType Copying [] cp_app.type
app_type_ok =
    let g4 : List LfType = exp ∷ exp ∷ exp ∷ exp ∷ [] in
    let g5 : List LfType = cp (var 2) (var 0) ∷ g4 in
    let g6 : List LfType = cp (var 4) (var 2) ∷ g5 in (
      exp_ok [],
      (
        exp_ok (exp ∷ []),
        (
          exp_ok (exp ∷ exp ∷ []),
          (
            exp_ok (exp ∷ exp ∷ exp ∷ []),
            (
              cp_ok g4 (var 2) (var 0) (v_ok g4 2 (exp, (exp, refl, refl), refl)) (v_ok g4 0 refl),
              (
                cp_ok g5 (var 4) (var 2) (v_ok g5 4 (exp, (exp, (exp, (exp, refl, refl), refl), refl), refl)) (v_ok g5 2 (exp, (exp, refl, refl), refl)),
                cp_ok g6 (application (var 5) (var 4)) (application (var 3) (var 2)) (application_ok g6 5 4 (exp, (exp, (exp, (exp, (exp, refl, refl), refl), refl), refl), refl) (exp, (exp, (exp, (exp, refl, refl), refl), refl), refl)) (application_ok g6 3 2 (exp, (exp, (exp, refl, refl), refl), refl) (exp, (exp, refl, refl), refl)),
              ),
            ),
          ),
        ),
      ),
    )

types_ok : (c : ℕ) (A : LfType) → copying_types c ≡ Some A → IsType Copying [] A
types_ok zero A e = subst (IsType Copying []) (some_type e) (fn_ok [], exp_ok (function ∷ []))
types_ok (suc zero) A e = subst (IsType Copying []) (some_type e) lam_type_ok
types_ok (suc (suc zero)) A e = subst (IsType Copying []) (some_type e) (exp_ok [], (exp_ok (exp ∷ []), exp_ok (exp ∷ exp ∷ [])))
types_ok (suc (suc (suc zero))) A e = subst (IsType Copying []) (some_type e) app_type_ok
types_ok (suc (suc (suc (suc n)))) A e = absurd cc

kinds_ok : (a : ℕ) (K : Kind) → copying_kinds a ≡ Some K → IsKind Copying [] K
kinds_ok zero K e = subst (IsKind Copying []) (some_kind e) tt
kinds_ok (suc zero) K e = subst (IsKind Copying []) (some_kind e) (exp_ok [], (exp_ok (exp ∷ []), tt))
kinds_ok (suc (suc n)) K e = absurd cc

pub copying_ok : IsSignature Copying
copying_ok = record { types_ok = types_ok; kinds_ok = kinds_ok }

block_ok : IsContext Copying (onto copy_block.entries copy_block.some)
block_ok = ((tt, exp_ok []), cp_ok (exp ∷ []) (var 0) (var 0) (v_ok (exp ∷ []) 0 refl) (v_ok (exp ∷ []) 0 refl))

abbrev S : ℕ → Bool
S b = first_below_second 1 b

-- a substitution of variables of base families for variables is a renaming
abbrev BaseRen : List LfType → (ℕ → ℕ) → (ℕ → Image) → Type 0
BaseRen C ρ σ = (i : ℕ) (A : LfType) → TypeAt C i A → (σ i ≡ keep (ρ i)) ⊎ ((a : ℕ) × (T : Spine) × (σ i ≡ put (base a) (var (ρ i))) × (A ≡ atom a T))

base_lift : (C : List LfType) (ρ : ℕ → ℕ) (σ : ℕ → Image) (B : LfType) → BaseRen C ρ σ → BaseRen (B ∷ C) (lift_renaming ρ) (lift σ)
base_lift C ρ σ B h zero A e = inl refl
base_lift C ρ σ B h (suc i) A (D, g, e) = go (h i D g)
  where
    go : (σ i ≡ keep (ρ i)) ⊎ ((a : ℕ) × (T : Spine) × (σ i ≡ put (base a) (var (ρ i))) × (D ≡ atom a T)) → (lift σ (suc i) ≡ keep (suc (ρ i))) ⊎ ((a : ℕ) × (T : Spine) × (lift σ (suc i) ≡ put (base a) (var (suc (ρ i)))) × (A ≡ atom a T))
    go (inl q) = inl (ap (rename_image suc) q)
    go (inr (a, T, q, f)) = inr (a, _, ap (rename_image suc) q, e ∙ ap weaken f)

module _ (Σ : Signature) (r : Skeleton → Term → Spine → Term) (rb : (a : ℕ) (N : Term) → r (base a) N nil ≡ N) where
  var_case : (G : List LfType) (k : ℕ) (A : LfType) (x : Image) (T X Y : Spine) (b : ℕ) (V : Spine) → SpineType Σ G T A (atom b V) → X ≡ Y → (T ≡ nil → X ≡ nil) → (x ≡ keep k) ⊎ ((a : ℕ) × (U : Spine) × (x ≡ put (base a) (var k)) × (A ≡ atom a U)) → apply_image r x X ≡ root (variable k) Y
  var_case G k A x T X Y b V s e n (inl q) = ap (λ y. apply_image r y X) q ∙ ap (root (variable k)) e
  var_case G k A x T X Y b V s e n (inr (a, U, q, f)) = let t : X ≡ nil = n (none_left T (subst (λ Z. SpineType Σ G T Z (atom b V)) f s)) in ap (λ y. apply_image r y X) q ∙ ap (r (base a) (var k)) t ∙ rb a (var k) ∙ ap (root (variable k)) (sym t ∙ e)
    where
      none_left : (T : Spine) → SpineType Σ G T (atom a U) (atom b V) → T ≡ nil
      none_left nil h = refl
      none_left (app M T) h = absurd h

  mutual
    base_renamed : (G : List LfType) (ρ : ℕ → ℕ) (σ : ℕ → Image) (M : Term) (A : LfType) → BaseRen G ρ σ → HasType Σ G M A → substitute r σ M ≡ rename ρ M
    base_renamed G ρ σ (lambda M) (pi A B) h m = ap lambda (base_renamed (A ∷ G) (lift_renaming ρ) (lift σ) M B (base_lift G ρ σ A h) m)
    base_renamed G ρ σ (lambda M) (atom a T) h m = absurd m
    base_renamed G ρ σ (root k T) (pi A B) h m = absurd m
    base_renamed G ρ σ (root (constant c) T) (atom a V) h (A, e, s) = ap (root (constant c)) (base_rename_spine G ρ σ T A (atom a V) h s)
    base_renamed G ρ σ (root (metavariable c) T) (atom a V) h (A, e, s) = ap (root (metavariable c)) (base_rename_spine G ρ σ T A (atom a V) h s)
    base_renamed G ρ σ (root (variable i) T) (atom a V) h (A, g, s) = var_case G (ρ i) A (σ i) T (substitute_spine r σ T) (rename_spine ρ T) a V s (base_rename_spine G ρ σ T A (atom a V) h s) (λ q. ap (substitute_spine r σ) q) (h i A g)

    base_rename_spine : (G : List LfType) (ρ : ℕ → ℕ) (σ : ℕ → Image) (T : Spine) (A C : LfType) → BaseRen G ρ σ → SpineType Σ G T A C → substitute_spine r σ T ≡ rename_spine ρ T
    base_rename_spine G ρ σ nil A C h s = refl
    base_rename_spine G ρ σ (app M T) (pi A B) C h (m, s) = ap₂ app (base_renamed G ρ σ M A h m) (base_rename_spine G ρ σ T (instantiate_type A M B) C h s)
    base_rename_spine G ρ σ (app M T) (atom a V) C h s = absurd s

-- x for the newest variable, of type exp, in M under k more variables
back_in : (Σ : Signature) (r : Skeleton → Term → Spine → Term) → ((a : ℕ) (N : Term) → r (base a) N nil ≡ N) → (G : List LfType) (y : ℕ) (τ : ℕ → ℕ) (ρ : ℕ → ℕ) (M : Term) → HasType Σ (exp ∷ G) M exp → ((i : ℕ) → ρ (suc i) ≡ τ i) → ρ 0 ≡ y → substitute r (single (base 0) (var y)) (rename (lift_renaming (λ i. τ i)) M) ≡ rename ρ M
back_in Σ r rb G y τ ρ M m e f = substitute_renamed r (single (base 0) (var y)) (lift_renaming (λ i. τ i)) M ∙ base_renamed Σ r rb (exp ∷ G) ρ (λ i. single (base 0) (var y) (lift_renaming τ i)) M exp by m
  where
    by : BaseRen (exp ∷ G) ρ (λ i. single (base 0) (var y) (lift_renaming τ i))
    by zero A g = inr (0, nil, ap (λ k. put (base 0) (var k)) (sym f), g)
    by (suc i) A g = inl (ap keep (sym (e i)))

spine_target : (Σ : Signature) (G : List LfType) (T : Spine) (A C : LfType) → SpineType Σ G T A C → target A ≡ target C
spine_target Σ G nil A C e = ap target e
spine_target Σ G (app M T) (pi A B) C (m, r) = sym (target_of reduce _ B) ∙ spine_target Σ G T (instantiate_type A M B) C r
spine_target Σ G (app M T) (atom a U) C r = absurd r

module _ (Σ : Signature) (x : Extends S Copying Σ) (G : List LfType) (w : World Σ (copy_block ∷ []) S G) where
  -- a variable of type exp, with the hypothesis of its instance
  abbrev VarForm : ℕ → Type 0
  VarForm i = (θ : ℕ → Image) × InstanceIn w copy_block θ × (θ 1 ≡ keep i)

  abbrev ExpForm : Term → Type 0
  ExpForm M = ((N : Term) × (M ≡ lam N) × HasType Σ (exp ∷ G) N exp) ⊎ ((i : ℕ) × (M ≡ var i) × VarForm i) ⊎ ((N : Term) × (P : Term) × (M ≡ application N P) × HasType Σ G N exp × HasType Σ G P exp)

  constant_form : (c : ℕ) (A : LfType) (T : Spine) → copying_types c ≡ Some A → target A ≡ 0 → SpineType Σ G T A exp → ExpForm (root (constant c) T)
  constant_form zero A T e t r = one_argument T (subst (λ X. SpineType Σ G T X exp) (sym (some_type e)) r)
    where
      one_argument : (T : Spine) → SpineType Σ G T (pi function exp) exp → ExpForm (root (constant 0) T)
      one_argument nil r = absurd cc
      one_argument (app (lambda N) nil) (m, r) = inl (N, refl, m)
      one_argument (app (root h V) nil) (m, r) = absurd m
      one_argument (app M (app N T)) (m, r) = absurd r
  constant_form (suc zero) A T e t r = absurd (one_zero (ap target (some_type e) ∙ t))
  constant_form (suc (suc zero)) A T e t r = two_arguments T (subst (λ X. SpineType Σ G T X exp) (sym (some_type e)) r)
    where
      two_arguments : (T : Spine) → SpineType Σ G T (pi exp (pi exp exp)) exp → ExpForm (root (constant 2) T)
      two_arguments nil r = absurd cc
      two_arguments (app M nil) (m, r) = absurd cc
      two_arguments (app M (app N nil)) (m, (n, r)) = inr (inr (M, N, refl, m, n))
      two_arguments (app M (app N (app P T))) (m, (n, r)) = absurd r
  constant_form (suc (suc (suc zero))) A T e t r = absurd (one_zero (ap target (some_type e) ∙ t))
  constant_form (suc (suc (suc (suc n)))) A T e t r = absurd cc

  -- the variables whose family is exp
  exp_variable : (i : ℕ) (A : LfType) → TypeAt G i A → target A ≡ 0 → VarForm i × (A ≡ exp)
  exp_variable i A g t = go (entry_of Σ x.ok w i A g (ap S t))
    where
      go : EntryAt Σ x.ok w i → VarForm i × (A ≡ exp)
      go (B, inr m, θ, b, k, a, q) = absurd m
      go (B, inl e, θ, b, k, a, q) = at k (subst (λ D. among D.entries k ≡ true) e a) q
        where
          b' : InstanceIn w copy_block θ
          b' = subst (λ D. InstanceIn w D θ) e b

          typed : Values Σ everything (onto copy_block.entries copy_block.some) G θ
          typed = (instance_typed Σ x.ok w copy_block θ b').typed

          at : (k : ℕ) → among copy_block.entries k ≡ true → θ k ≡ keep i → VarForm i × (A ≡ exp)
          at zero a q =
              let h : TypeAt G i (substitute_type reduce θ (cp (var 1) (var 1))) = subst (λ y. ImageHasType Σ G y (substitute_type reduce θ (cp (var 1) (var 1)))) q (typed.typed 0 (cp (var 1) (var 1)) refl refl) in
              absurd (one_zero (ap target (variable_type_unique G i (substitute_type reduce θ (cp (var 1) (var 1))) A h g) ∙ t))
          at (suc zero) a q =
              let h : TypeAt G i exp = subst (λ y. ImageHasType Σ G y exp) q (typed.typed 1 exp (exp, refl, refl) refl) in
              ((θ, b', q), variable_type_unique G i A exp g h)
          at (suc (suc k)) a q = absurd cc

  exp_form : (M : Term) → HasType Σ G M exp → ExpForm M
  exp_form (lambda M) m = absurd m
  exp_form (root (constant c) T) (A, e, r) =
      let t : target A ≡ 0 = spine_target Σ G T A exp r in
      constant_form c A T (x.no_new c A e (ap S t)) t r
  exp_form (root (metavariable c) T) (A, e, r) = absurd e
  exp_form (root (variable i) T) (A, g, r) =
      let (vf, e) = exp_variable i A g (spine_target Σ G T A exp r) in
      no_arguments T (subst (λ X. SpineType Σ G T X exp) e r) vf
    where
      no_arguments : (T : Spine) → SpineType Σ G T exp exp → VarForm i → ExpForm (root (variable i) T)
      no_arguments nil r f = inr (inl (i, refl, f))
      no_arguments (app M T) r f = absurd r

abbrev but_first : ℕ → Bool
but_first zero = false
but_first (suc i) = true

abbrev IsExp : ℕ → Bool
IsExp b = same_number 0 b

is_zero : (n : ℕ) → same_number 0 n ≡ true → n ≡ 0
is_zero zero e = refl
is_zero (suc n) e = absurd cc

-- moved out of the second hypothesis
abbrev out_of : ℕ → ℕ
out_of zero = zero
out_of (suc i) = i

-- and back
abbrev into : ℕ → ℕ
into zero = suc zero
into (suc i) = suc (suc i)

id_image : (i : ℕ) → but_first i ≡ true → keep (into (out_of i)) ≡ keep i
id_image zero e = absurd cc
id_image (suc zero) e = refl
id_image (suc (suc i)) e = refl

rename_id : (M : Term) → substitute reduce keep M ≡ M
rename_id M = substitute_identity reduce M

round : (M : Term) → Uses but_first M → rename into (rename out_of M) ≡ M
round M u = renamings_compose into out_of M ∙ sym (substitution_as_renaming reduce (λ i. into (out_of i)) M) ∙ agree_on reduce but_first (λ i. keep (into (out_of i))) keep M id_image u ∙ rename_id M

rename_id_type : (A : LfType) → rename_type (λ i. i) A ≡ A
rename_id_type A = sym (substitution_as_renaming_type reduce (λ i. i) A) ∙ substitute_identity_type reduce A

exp_rich : (Σ : Signature) (x : Extends S Copying Σ) (G : List LfType) (w : World Σ (copy_block ∷ []) S G) (X : LfType) → target X ≡ 1 → Rich IsExp but_first (X ∷ exp ∷ G)
exp_rich Σ x G w X t zero A e s = absurd (one_zero (sym t ∙ sym (ap target e ∙ target_renamed suc X) ∙ is_zero (target A) s))
exp_rich Σ x G w X t (suc zero) A (C, g, e) s = (refl, subst (FamiliesIn IsExp) (sym (e ∙ ap weaken g)) refl)
exp_rich Σ x G w X t (suc (suc i)) A (C, (D, g, e), f) s =
    let q : target D ≡ 0 = sym (ap target f ∙ target_renamed suc C ∙ ap target e ∙ target_renamed suc D) ∙ is_zero (target A) s in
    let (v, r) = exp_variable Σ x G w i D g q in
    (refl, subst (FamiliesIn IsExp) (sym (f ∙ ap weaken (e ∙ ap weaken r))) refl)

exp_types : (Σ : Signature) → Extends S Copying Σ → (c : ℕ) (A : LfType) → Σ.types c ≡ Some A → IsExp (target A) ≡ true → FamiliesIn IsExp A
exp_types Σ x c A e t = by c A (x.no_new c A e (ap S (is_zero (target A) t))) (is_zero (target A) t)
  where
    by : (c : ℕ) (A : LfType) → copying_types c ≡ Some A → target A ≡ 0 → FamiliesIn IsExp A
    by zero A e t = subst (FamiliesIn IsExp) (some_type e) ((refl, refl), refl)
    by (suc zero) A e t = absurd (one_zero (ap target (some_type e) ∙ t))
    by (suc (suc zero)) A e t = subst (FamiliesIn IsExp) (some_type e) (refl, (refl, refl))
    by (suc (suc (suc zero))) A e t = absurd (one_zero (ap target (some_type e) ∙ t))
    by (suc (suc (suc (suc n)))) A e t = absurd cc

out_renames : (X : LfType) (G : List LfType) → IsTypedRenamingOn but_first (X ∷ G) G out_of
out_renames X G zero A g u = absurd cc
out_renames X G (suc i) A (C, g, e) u = subst (TypeAt G i) (sym (ap (rename_type out_of) e ∙ renamings_compose_type out_of suc C ∙ rename_id_type C)) g

-- strengthening at work
strengthened : (Σ : Signature) (x : Extends S Copying Σ) (G : List LfType) (w : World Σ (copy_block ∷ []) S G) (X : LfType) → target X ≡ 1 → (N : Term) → HasType Σ (X ∷ exp ∷ G) N exp → Uses but_first N × HasType Σ (exp ∷ G) (rename out_of N) exp
strengthened Σ x G w X t N n =
    let u : Uses but_first N = uses_only Σ IsExp (exp_types Σ x) but_first (X ∷ exp ∷ G) N exp (exp_rich Σ x G w X t) refl n in
    (u, strengthening_keeps_typing Σ x.ok but_first (X ∷ exp ∷ G) (exp ∷ G) out_of N exp (out_renames X (exp ∷ G)) u n)

abbrev function_skeleton : Skeleton
function_skeleton = arrow (base 0) (base 0)

-- inputs
abbrev lam_images : Term → ℕ → Image
lam_images M zero = keep 0
lam_images M (suc zero) = keep 0
lam_images M (suc (suc zero)) = put function_skeleton (lambda M)
lam_images M (suc (suc (suc i))) = keep i

abbrev first : ℕ → Bool
first = ground_first copying_marks cp_lam

fn_at : (i : ℕ) (A : LfType) → TypeAt (scope cp_lam) (suc i) A → i < 2 → A ≡ function
fn_at zero A g q = variable_type_unique (scope cp_lam) 1 A function g (function, refl, refl)
fn_at (suc zero) A g q = variable_type_unique (scope cp_lam) 2 A function g (function, (function, refl, refl), refl)
fn_at (suc (suc i)) A g q = absurd (omega arith)

is_fn : (Σ : Signature) (G : List LfType) (M : Term) (A : LfType) (σ : ℕ → Image) → A ≡ function → HasType Σ (exp ∷ G) M exp → ImageHasType Σ G (put function_skeleton (lambda M)) (substitute_type reduce σ A)
is_fn Σ G M A σ e m = subst (λ X. ImageHasType Σ G (put function_skeleton (lambda M)) (substitute_type reduce σ X)) (sym e) (refl, m)

lam_values : (Σ : Signature) (G : List LfType) (M : Term) → HasType Σ (exp ∷ G) M exp → Values Σ first (scope cp_lam) G (lam_images M)
lam_values Σ G M m = record { typed = typed; closed = closed }
  where
    typed : (i : ℕ) (A : LfType) → TypeAt (scope cp_lam) i A → first i ≡ true → ImageHasType Σ G (lam_images M i) (substitute_type reduce (lam_images M) A)
    typed zero A g u = absurd cc
    typed (suc zero) A g u = absurd cc
    typed (suc (suc zero)) A g u = is_fn Σ G M A (lam_images M) (fn_at 1 A g (omega arith)) m
    typed (suc (suc (suc i))) A (C, (D, (E, g, e), f), h) u = absurd g

    closed : (i : ℕ) (A : LfType) → TypeAt (scope cp_lam) i A → first i ≡ true → UsesType first A
    closed zero A g u = absurd cc
    closed (suc zero) A g u = absurd cc
    closed (suc (suc zero)) A g u = subst (UsesType first) (sym (fn_at 1 A g (omega arith))) (tt, tt)
    closed (suc (suc (suc i))) A (C, (D, (E, g, e), f), h) u = absurd g

lam_terms : (M : Term) → AreTerms cp_lam first (lam_images M)
lam_terms M zero o u = absurd cc
lam_terms M (suc zero) o u = absurd cc
lam_terms M (suc (suc zero)) o u = tt
lam_terms M (suc (suc (suc i))) o u = absurd cc

abbrev u_clause : Clause
u_clause = entry_clause copy_block (exp ∷ []) (cp (var 0) (var 0))

u_values : (Σ : Signature) (G : List LfType) (θ : ℕ → Image) → Values Σ everything (onto copy_block.entries copy_block.some) G θ → Values Σ (ground_first copying_marks u_clause) (scope u_clause) G (λ i. θ (suc i))
u_values Σ G θ b = record { typed = typed; closed = closed }
  where
    typed : (i : ℕ) (A : LfType) → TypeAt (exp ∷ []) i A → ground_first copying_marks u_clause i ≡ true → ImageHasType Σ G (θ (suc i)) (substitute_type reduce (λ j. θ (suc j)) A)
    typed zero A g u = subst (λ X. ImageHasType Σ G (θ 1) (substitute_type reduce (λ j. θ (suc j)) X)) (sym g) (b.typed 1 exp (exp, refl, refl) refl)
    typed (suc i) A (C, g, e) u = absurd g

    closed : (i : ℕ) (A : LfType) → TypeAt (exp ∷ []) i A → ground_first copying_marks u_clause i ≡ true → UsesType (ground_first copying_marks u_clause) A
    closed zero A g u = subst (UsesType (ground_first copying_marks u_clause)) (sym g) tt
    closed (suc i) A (C, g, e) u = absurd g

-- the head's lambda, with its value
head_lam : (Σ : Signature) (G : List LfType) (N : Term) → HasType Σ (exp ∷ G) N exp → lam N ≡ substitute reduce (lam_images N) (lam (applied_to 3 0))
head_lam Σ G N n = ap lam (sym (back_in Σ (λ c. reduce (base 0)) (λ a M. refl) G 0 suc (λ i. i) N n (λ i. refl) refl ∙ (sym (substitution_as_renaming reduce (λ i. i) N) ∙ rename_id N)))

-- cp-app
abbrev app_images : Term → Term → ℕ → Image
app_images M N zero = keep 0
app_images M N (suc zero) = keep 0
app_images M N (suc (suc zero)) = keep 0
app_images M N (suc (suc (suc zero))) = keep 0
app_images M N (suc (suc (suc (suc zero)))) = put (base 0) N
app_images M N (suc (suc (suc (suc (suc zero))))) = put (base 0) M
app_images M N (suc (suc (suc (suc (suc (suc i)))))) = keep i

abbrev first1 : ℕ → Bool
first1 = ground_first copying_marks cp_app

abbrev first2 : ℕ → Bool
first2 = ground_after copying_marks cp_app goal1 first1

abbrev first3 : ℕ → Bool
first3 = ground_after copying_marks cp_app goal2 first2

app_exp : (i : ℕ) (A : LfType) → TypeAt (scope cp_app) i A → first3 i ≡ true → A ≡ exp
app_exp zero A g u = absurd cc
app_exp (suc zero) A g u = absurd cc
app_exp (suc (suc zero)) A g u = variable_type_unique (scope cp_app) 2 A exp g (exp, (exp, refl, refl), refl)
app_exp (suc (suc (suc zero))) A g u = variable_type_unique (scope cp_app) 3 A exp g (exp, (exp, (exp, refl, refl), refl), refl)
app_exp (suc (suc (suc (suc zero)))) A g u = variable_type_unique (scope cp_app) 4 A exp g (exp, (exp, (exp, (exp, refl, refl), refl), refl), refl)
app_exp (suc (suc (suc (suc (suc zero))))) A g u = variable_type_unique (scope cp_app) 5 A exp g (exp, (exp, (exp, (exp, (exp, refl, refl), refl), refl), refl), refl)
app_exp (suc (suc (suc (suc (suc (suc i)))))) A (C, (D, (E, (F, (G, (H, g, h), e), d), c), b), a) u = absurd g

is_exp : (Σ : Signature) (G : List LfType) (y : Image) (A : LfType) (σ : ℕ → Image) → A ≡ exp → ImageHasType Σ G y exp → ImageHasType Σ G y (substitute_type reduce σ A)
is_exp Σ G y A σ e m = subst (λ X. ImageHasType Σ G y (substitute_type reduce σ X)) (sym e) m

into3 : (i : ℕ) → first1 i ≡ true → first3 i ≡ true
into3 zero u = absurd cc
into3 (suc zero) u = absurd cc
into3 (suc (suc zero)) u = absurd cc
into3 (suc (suc (suc zero))) u = absurd cc
into3 (suc (suc (suc (suc i)))) u = grows copying_marks cp_app goal2 first2 (suc (suc (suc (suc i)))) (grows copying_marks cp_app goal1 first1 (suc (suc (suc (suc i)))) u)

app_values : (Σ : Signature) (G : List LfType) (M N : Term) → HasType Σ G M exp → HasType Σ G N exp → Values Σ first1 (scope cp_app) G (app_images M N)
app_values Σ G M N m n = record { typed = typed; closed = λ i A g u. subst (UsesType first1) (sym (app_exp i A g (into3 i u))) tt }
  where
    typed : (i : ℕ) (A : LfType) → TypeAt (scope cp_app) i A → first1 i ≡ true → ImageHasType Σ G (app_images M N i) (substitute_type reduce (app_images M N) A)
    typed zero A g u = absurd cc
    typed (suc zero) A g u = absurd cc
    typed (suc (suc zero)) A g u = absurd cc
    typed (suc (suc (suc zero))) A g u = absurd cc
    typed (suc (suc (suc (suc zero)))) A g u = is_exp Σ G (put (base 0) N) A (app_images M N) (app_exp 4 A g refl) (refl, n)
    typed (suc (suc (suc (suc (suc zero))))) A g u = is_exp Σ G (put (base 0) M) A (app_images M N) (app_exp 5 A g refl) (refl, m)
    typed (suc (suc (suc (suc (suc (suc i)))))) A (C, (D, (E, (F, (G', (H, g, h), e), d), c), b), a) u = absurd g

app_terms : (M N : Term) → AreTerms cp_app first1 (app_images M N)
app_terms M N zero o u = absurd cc
app_terms M N (suc zero) o u = absurd cc
app_terms M N (suc (suc zero)) o u = absurd cc
app_terms M N (suc (suc (suc zero))) o u = absurd cc
app_terms M N (suc (suc (suc (suc zero)))) o u = tt
app_terms M N (suc (suc (suc (suc (suc zero))))) o u = tt
app_terms M N (suc (suc (suc (suc (suc (suc i)))))) o u = absurd cc

copy_case : (Σ : Signature) (x : Extends S Copying Σ) (G : List LfType) (w : World Σ (copy_block ∷ []) S G) (T : Spine) → TypedPlaces Σ (input_places (copying_marks 1)) G T cp_kind → CoveredBy w (input_places (copying_marks 1)) 1 T
copy_case Σ x G w (app M (app P nil)) (m, i) = by (exp_form Σ x G w M m)
  where
    by : ExpForm Σ x G w M → CoveredBy w (input_places (copying_marks 1)) 1 (app M (app P nil))
    by (inl (N, e, n)) = record { head = constant 1; clause = cp_lam; outer = keep; values = lam_images N; offered = by_constant 1 cp_lam.type (x.types_stay 1 cp_lam.type refl); family = refl; typed = lam_values Σ G N n; agrees = λ k X g. absurd g; terms = lam_terms N; same = (e ∙ head_lam Σ G N n, tt); uses = (((refl, ((refl, tt), tt)), tt), tt) }
    by (inr (inr (N, P, e, n, k))) = record { head = constant 3; clause = cp_app; outer = keep; values = app_images N P; offered = by_constant 3 cp_app.type (x.types_stay 3 cp_app.type refl); family = refl; typed = app_values Σ G N P n k; agrees = λ k X g. absurd g; terms = app_terms N P; same = (e, tt); uses = (((refl, tt), ((refl, tt), tt)), tt) }
    by (inr (inl (i, e, (θ, b, q)))) =
        let t : Begun Σ x.ok G copy_block copy_block.entries θ = instance_typed Σ x.ok w copy_block θ b in
        let (j, k) = t.kept 0 refl in
        record { head = variable j; clause = u_clause; outer = λ n. θ (suc n); values = λ n. θ (suc n); offered = by_entry copy_block [] (cp (var 0) (var 0)) (exp ∷ []) θ j (inl refl) refl b k; family = refl; typed = u_values Σ G θ t.typed; agrees = λ n X g. refl; terms = λ n o u. absurd cc; same = (e ∙ sym (ap (λ y. apply_image reduce y nil) q), tt); uses = ((refl, tt), tt) }
copy_case Σ x G w nil i = absurd i
copy_case Σ x G w (app M nil) i = absurd i.1
copy_case Σ x G w (app M (app P (app Q T))) i = absurd i.1

same_kind : (Σ : Signature) → Extends S Copying Σ → (K : Kind) → Σ.kinds 1 ≡ Some K → cp_kind ≡ K
same_kind Σ x K e = some_kind (sym (x.kinds_stay 1 cp_kind refl) ∙ e)

copy_inputs : CoveredInputs Copying copying_marks (copy_block ∷ []) S 1
copy_inputs Σ x G w T K e i = copy_case Σ x G w T (subst (TypedPlaces Σ (input_places (copying_marks 1)) G T) (sym (same_kind Σ x K e)) i)

-- outputs
abbrev next : ℕ → Bool
next = ground_after copying_marks cp_lam goal first

abbrev with_output : Term → (ℕ → Image) → ℕ → Image
with_output N σ zero = σ zero
with_output N σ (suc zero) = put function_skeleton (lambda N)
with_output N σ (suc (suc i)) = σ (suc (suc i))

out_values : (Σ : Signature) (G : List LfType) (N : Term) (σ : ℕ → Image) → HasType Σ (exp ∷ G) N exp → Values Σ first (scope cp_lam) G σ → Values Σ next (scope cp_lam) G (with_output N σ)
out_values Σ G N σ n v = record { typed = typed; closed = closed }
  where
    typed : (i : ℕ) (A : LfType) → TypeAt (scope cp_lam) i A → next i ≡ true → ImageHasType Σ G (with_output N σ i) (substitute_type reduce (with_output N σ) A)
    typed zero A g u = absurd cc
    typed (suc zero) A g u = is_fn Σ G N A (with_output N σ) (fn_at 0 A g (omega arith)) n
    typed (suc (suc zero)) A g u = subst (λ X. ImageHasType Σ G (σ 2) (substitute_type reduce (with_output N σ) X)) (sym (fn_at 1 A g (omega arith))) (subst (λ X. ImageHasType Σ G (σ 2) (substitute_type reduce σ X)) (fn_at 1 A g (omega arith)) (v.typed 2 A g refl))
    typed (suc (suc (suc i))) A (C, (D, (E, g, e), f), h) u = absurd g

    closed : (i : ℕ) (A : LfType) → TypeAt (scope cp_lam) i A → next i ≡ true → UsesType next A
    closed zero A g u = absurd cc
    closed (suc zero) A g u = subst (UsesType next) (sym (fn_at 0 A g (omega arith))) (tt, tt)
    closed (suc (suc zero)) A g u = subst (UsesType next) (sym (fn_at 1 A g (omega arith))) (tt, tt)
    closed (suc (suc (suc i))) A (C, (D, (E, g, e), f), h) u = absurd g

out_same : (N : Term) (σ : ℕ → Image) → SameOn first σ (with_output N σ)
out_same N σ zero u = refl
out_same N σ (suc zero) u = absurd cc
out_same N σ (suc (suc i)) u = refl

out_terms : (N : Term) (σ : ℕ → Image) → AreTerms cp_lam first σ → AreTerms cp_lam next (with_output N σ)
out_terms N σ t zero o u = absurd cc
out_terms N σ t (suc zero) o u = tt
out_terms N σ t (suc (suc zero)) o u = t 2 refl refl
out_terms N σ t (suc (suc (suc i))) o u = absurd cc

-- the output, moved out of the hypotheses and applied again, is itself
applied : (Σ : Signature) (G : List LfType) (N : Term) → Uses but_first N → HasType Σ (exp ∷ G) (rename out_of N) exp → reduce function_skeleton (lambda (rename (lift_renaming suc) (rename (lift_renaming suc) (rename out_of N)))) (app (var 1) nil) ≡ N
applied Σ G N u n = ap (substitute (λ c. reduce (base 0)) (single (base 0) (var 1))) (renamings_compose (lift_renaming suc) (lift_renaming suc) (rename out_of N) ∙ ap (λ f. rename f (rename out_of N)) (fun_ext (up_up suc suc))) ∙ back_in Σ (λ c. reduce (base 0)) (λ a M. refl) G 1 (λ i. suc (suc i)) into (rename out_of N) n (λ i. refl) refl ∙ round N u

copy_outputs : CoveredOutputs Copying copying_marks (copy_block ∷ []) S cp_lam first goal
copy_outputs Σ x G w h θ off σ v o ts T K e p k = go T p (subst (SpineFitsKind Σ (cp (var 0) (var 0) ∷ exp ∷ G) T) (sym (same_kind Σ x K e)) k)
  where
    go : (T : Spine) → SamePlaces (input_places (copying_marks 1)) (target_arguments (substitute_type reduce σ goal)) T → SpineFitsKind Σ (cp (var 0) (var 0) ∷ exp ∷ G) T cp_kind → OutputsCovered Σ copying_marks cp_lam first goal G σ T
    go nil p k = absurd p
    go (app M nil) p k = absurd p.1
    go (app M (app N nil)) (q, p) (m, (n, k)) =
        let (u, n') = strengthened Σ x G w (cp (var 0) (var 0)) refl N n in
        record {
          values = with_output (rename out_of N) σ;
          typed = out_values Σ G (rename out_of N) σ n' v;
          same = out_same (rename out_of N) σ;
          terms = out_terms (rename out_of N) σ ts;
          uses = (tt, (((refl, tt), ((refl, tt), tt)), ((refl, ((refl, tt), tt)), ((refl, ((refl, tt), tt)), tt))));
          is_instance = ap₂ (λ X Y. pi exp (pi (cp (var 0) (var 0)) (cp X Y))) q (applied Σ G N u n');
        }
    go (app M (app N (app P T))) p k = absurd p.1

-- the outputs of cp-app's subgoals
abbrev set_at : ℕ → Term → (ℕ → Image) → ℕ → Image
set_at p N σ i = pick (same_number p i) (put (base 0) N) (σ i)

set_values : (Σ : Signature) (G : List LfType) (U V : ℕ → Bool) (p : ℕ) (N : Term) (σ : ℕ → Image) → HasType Σ G N exp → ((i : ℕ) (A : LfType) → TypeAt (scope cp_app) i A → V i ≡ true → A ≡ exp) → ((i : ℕ) → V i ≡ true → same_number p i ≡ false → U i ≡ true) → Values Σ U (scope cp_app) G σ → Values Σ V (scope cp_app) G (set_at p N σ)
set_values Σ G U V p N σ n ex wi v = record { typed = λ i A g u. typed i A g u (same_number p i) refl; closed = λ i A g u. subst (UsesType V) (sym (ex i A g u)) tt }
  where
    typed : (i : ℕ) (A : LfType) → TypeAt (scope cp_app) i A → V i ≡ true → (b : Bool) → same_number p i ≡ b → ImageHasType Σ G (pick b (put (base 0) N) (σ i)) (substitute_type reduce (set_at p N σ) A)
    typed i A g u true q = is_exp Σ G (put (base 0) N) A (set_at p N σ) (ex i A g u) (refl, n)
    typed i A g u false q = is_exp Σ G (σ i) A (set_at p N σ) (ex i A g u) (subst (λ X. ImageHasType Σ G (σ i) (substitute_type reduce σ X)) (ex i A g u) (v.typed i A g (wi i u q)))

set_terms : (U V : ℕ → Bool) (p : ℕ) (N : Term) (σ : ℕ → Image) → ((i : ℕ) → V i ≡ true → same_number p i ≡ false → U i ≡ true) → AreTerms cp_app U σ → AreTerms cp_app V (set_at p N σ)
set_terms U V p N σ wi t i o u = by (same_number p i) refl
  where
    by : (b : Bool) → same_number p i ≡ b → IsTerm (pick b (put (base 0) N) (σ i))
    by true q = tt
    by false q = t i o (wi i u q)

only1 : (i : ℕ) → first2 i ≡ true → same_number 3 i ≡ false → first1 i ≡ true
only1 zero u q = absurd cc
only1 (suc zero) u q = absurd cc
only1 (suc (suc zero)) u q = absurd cc
only1 (suc (suc (suc zero))) u q = absurd cc
only1 (suc (suc (suc (suc zero)))) u q = refl
only1 (suc (suc (suc (suc (suc zero))))) u q = refl
only1 (suc (suc (suc (suc (suc (suc i)))))) u q = refl

only2 : (i : ℕ) → first3 i ≡ true → same_number 2 i ≡ false → first2 i ≡ true
only2 zero u q = absurd cc
only2 (suc zero) u q = absurd cc
only2 (suc (suc zero)) u q = absurd cc
only2 (suc (suc (suc zero))) u q = refl
only2 (suc (suc (suc (suc zero)))) u q = refl
only2 (suc (suc (suc (suc (suc zero))))) u q = refl
only2 (suc (suc (suc (suc (suc (suc i)))))) u q = refl

same1 : (N : Term) (σ : ℕ → Image) → SameOn first1 σ (set_at 3 N σ)
same1 N σ zero u = refl
same1 N σ (suc zero) u = refl
same1 N σ (suc (suc zero)) u = refl
same1 N σ (suc (suc (suc zero))) u = absurd cc
same1 N σ (suc (suc (suc (suc i)))) u = refl

same2 : (N : Term) (σ : ℕ → Image) → SameOn first2 σ (set_at 2 N σ)
same2 N σ zero u = refl
same2 N σ (suc zero) u = refl
same2 N σ (suc (suc zero)) u = absurd cc
same2 N σ (suc (suc (suc i))) u = refl

app_outputs1 : CoveredOutputs Copying copying_marks (copy_block ∷ []) S cp_app first1 goal1
app_outputs1 Σ x G w h θ off σ v o ts T K e p k = go T p (subst (SpineFitsKind Σ G T) (sym (same_kind Σ x K e)) k)
  where
    go : (T : Spine) → SamePlaces (input_places (copying_marks 1)) (target_arguments (substitute_type reduce σ goal1)) T → SpineFitsKind Σ G T cp_kind → OutputsCovered Σ copying_marks cp_app first1 goal1 G σ T
    go nil p k = absurd p
    go (app M nil) p k = absurd p.1
    go (app M (app N nil)) (q, p) (m, (n, k)) = record { values = set_at 3 N σ; typed = set_values Σ G first1 first2 3 N σ n (λ i A g u. app_exp i A g (grows copying_marks cp_app goal2 first2 i u)) only1 v; same = same1 N σ; terms = set_terms first1 first2 3 N σ only1 ts; uses = ((refl, tt), ((refl, tt), tt)); is_instance = ap (λ X. cp X N) q }
    go (app M (app N (app P T))) p k = absurd p.1

app_outputs2 : CoveredOutputs Copying copying_marks (copy_block ∷ []) S cp_app first2 goal2
app_outputs2 Σ x G w h θ off σ v o ts T K e p k = go T p (subst (SpineFitsKind Σ G T) (sym (same_kind Σ x K e)) k)
  where
    go : (T : Spine) → SamePlaces (input_places (copying_marks 1)) (target_arguments (substitute_type reduce σ goal2)) T → SpineFitsKind Σ G T cp_kind → OutputsCovered Σ copying_marks cp_app first2 goal2 G σ T
    go nil p k = absurd p
    go (app M nil) p k = absurd p.1
    go (app M (app N nil)) (q, p) (m, (n, k)) = record { values = set_at 2 N σ; typed = set_values Σ G first2 first3 2 N σ n app_exp only2 v; same = same2 N σ; terms = set_terms first2 first3 2 N σ only2 ts; uses = ((refl, tt), ((refl, tt), tt)); is_instance = ap (λ X. cp X N) q }
    go (app M (app N (app P T))) p k = absurd p.1

sound : HasSoundMarks Copying 1 (copying_marks 1)
sound = (cp_kind, refl, (tt, tt))

abbrev goal2' : LfType
goal2' = cp (var 3) (var 1)

-- subgoals
lam_subgoal : (i : ℕ) (A : LfType) → IsSubgoal cp_lam i A → A ≡ goal
lam_subgoal zero A (v, g) = g
lam_subgoal (suc zero) A (v, g) = absurd cc
lam_subgoal (suc (suc zero)) A (v, g) = absurd cc
lam_subgoal (suc (suc (suc i))) A (v, (C, (D, (E, g, e), f), h)) = absurd g

app_subgoal : (i : ℕ) (A : LfType) → IsSubgoal cp_app i A → (A ≡ goal1) ⊎ (A ≡ goal2)
app_subgoal zero A (v, g) = inl g
app_subgoal (suc zero) A (v, g) = inr (variable_type_unique (scope cp_app) 1 A goal2 g (goal2', refl, refl))
app_subgoal (suc (suc zero)) A (v, g) = absurd cc
app_subgoal (suc (suc (suc zero))) A (v, g) = absurd cc
app_subgoal (suc (suc (suc (suc zero)))) A (v, g) = absurd cc
app_subgoal (suc (suc (suc (suc (suc zero))))) A (v, g) = absurd cc
app_subgoal (suc (suc (suc (suc (suc (suc i)))))) A (v, (C, (D, (E, (F, (G', (H, g, h), e), d), c), b), a)) = absurd g

u_subgoal : (i : ℕ) (A : LfType) → IsSubgoal u_clause i A → ⊥
u_subgoal zero A (v, g) = absurd cc
u_subgoal (suc i) A (v, (C, g, e)) = g

abbrev Moded : ℕ → Clause → (ℕ → Bool) → LfType → Type 0
Moded n c U A = HasSoundMarks Copying (target A) (copying_marks (target A)) × UsesGoal U (input_places (copying_marks (target A))) A × EachHypothesis (WellModedTo n Copying copying_marks in_group) in_group (scope c) (outside c.type c.fixed) U A

abbrev Own : Clause → (ℕ → Bool) → Type 0
Own c U = (x : ℕ) → variables c x ≡ true → outside c.type everything x ≡ false → (U x ≡ true) ⊎ (occurs_at (free_places (copying_marks 1)) x (target_arguments c.type) ≡ true) ⊎ InFreePlace copying_marks c x

-- the hypothesis cp x x, as a clause: it has no variables of its own
hypothesis_moded : (n : ℕ) → WellModedTo n Copying copying_marks in_group (under first) (record { outer = exp ∷ scope cp_lam; fixed = under (outside cp_lam.type nothing); type = cp (var 0) (var 0) })
hypothesis_moded zero = tt
hypothesis_moded (suc n) = (sound, (((refl, tt), tt), λ x v o. absurd (true≢false o)))

lam_own : Own cp_lam next
lam_own zero e o = absurd cc
lam_own (suc zero) e o = inl refl
lam_own (suc (suc zero)) e o = inl refl
lam_own (suc (suc (suc x))) e o = absurd cc

lam_moded : (n : ℕ) → WellModedTo n Copying copying_marks in_group everything cp_lam
lam_moded zero = tt
lam_moded (suc n) = (sound, step copying_marks cp_lam (Moded n cp_lam) (λ U. AllGround copying_marks cp_lam U) 2 0 first goal refl ((sound, (tt, (((refl, tt), ((refl, tt), tt)), ((refl, ((refl, tt), tt)), tt))), (tt, (hypothesis_moded n, tt))), (((((refl, ((refl, tt), tt)), tt), tt), lam_own))))

app_own : Own cp_app first3
app_own zero e o = absurd cc
app_own (suc zero) e o = absurd cc
app_own (suc (suc zero)) e o = inl refl
app_own (suc (suc (suc zero))) e o = inl refl
app_own (suc (suc (suc (suc zero)))) e o = inl refl
app_own (suc (suc (suc (suc (suc zero))))) e o = inl refl
app_own (suc (suc (suc (suc (suc (suc x)))))) e o = absurd cc

app_moded : (n : ℕ) → WellModedTo n Copying copying_marks in_group everything cp_app
app_moded zero = tt
app_moded (suc n) = (sound, step copying_marks cp_app (Moded n cp_app) (λ U. AllGround copying_marks cp_app U) 5 0 first1 goal1 refl ((sound, ((refl, tt), tt), tt), step copying_marks cp_app (Moded n cp_app) (λ U. AllGround copying_marks cp_app U) 4 1 first2 goal2 (goal2', refl, refl) ((sound, ((refl, tt), tt), tt), ((((refl, tt), ((refl, tt), tt)), tt), app_own))))

u_moded : (n : ℕ) → WellModedTo n Copying copying_marks in_group everything u_clause
u_moded zero = tt
u_moded (suc n) = (sound, (((refl, tt), tt), λ x v o. absurd (true≢false o)))

-- local contexts
goal_local : IsSequence Copying (copy_block ∷ []) (scope cp_lam) (binders [] goal)
goal_local = next_instance copy_block keep no_instance (inl refl) (λ x A g. absurd g) (record { typed = λ i A g u. absurd g; closed = λ i A g u. absurd g }) (λ i A g. absurd g)

-- descent
abbrev Descends : Clause → LfType → Type 0
Descends c A = CallDescends Copying (copy_block ∷ []) first_place (1 ∷ []) c A

goal_descends : Descends cp_lam goal
goal_descends = (tt, inl (applied_to 4 1, lam (applied_to 5 0), refl, refl, cp_kind, refl, exp, refl, under_constant refl (first_argument (smaller (under_lambda 1 refl (exp, refl, refl) equal)))))

goal1_descends : Descends cp_app goal1
goal1_descends = (tt, inl (var 5, application (var 5) (var 4), refl, refl, cp_kind, refl, exp, refl, under_constant refl (first_argument equal)))

goal2_descends : Descends cp_app goal2
goal2_descends = (tt, inl (var 4, application (var 5) (var 4), refl, refl, cp_kind, refl, exp, refl, under_constant refl (later_argument (first_argument equal))))

-- for each clause of cp
clauses_of : (P : Clause → Type 0) → P cp_lam → P cp_app → P u_clause → (c : Clause) → IsClause Copying (copy_block ∷ []) c → Member (target c.type) (1 ∷ []) → P c
clauses_of P a b u c k (inr m) = absurd m
clauses_of P a b u c (from_constant k U e) (inl g) = by k U e g
  where
    by : (k : ℕ) (U : LfType) → copying_types k ≡ Some U → target U ≡ 1 → P (constant_clause U)
    by zero U e g = absurd (one_zero (sym g ∙ sym (ap target (some_type e))))
    by (suc zero) U e g = subst (λ X. P (constant_clause X)) (some_type e) a
    by (suc (suc zero)) U e g = absurd (one_zero (sym g ∙ sym (ap target (some_type e))))
    by (suc (suc (suc zero))) U e g = subst (λ X. P (constant_clause X)) (some_type e) b
    by (suc (suc (suc (suc n)))) U e g = absurd cc
clauses_of P a b u c (from_entry B later E es (inr i) q) (inl g) = absurd i
clauses_of P a b u c (from_entry B later E es (inl b') q) (inl g) = by later E es (q ∙ ap (λ D. D.entries) b') g
  where
    by : (later : List LfType) (E : LfType) (es : List LfType) → onto later (E ∷ es) ≡ copy_block.entries → target E ≡ 1 → P (entry_clause B es E)
    by [] E es q g =
        let e : E ≡ cp (var 0) (var 0) = cc in
        let f : es ≡ exp ∷ [] = cc in
        subst (λ D. P (entry_clause D es E)) (sym b') (subst (λ X. P (entry_clause copy_block es X)) (sym e) (subst (λ X. P (entry_clause copy_block X (cp (var 0) (var 0)))) (sym f) u))
    by (D ∷ []) E es q g = let e : E ≡ exp = cc in absurd (one_zero (sym g ∙ ap target e))
    by (D ∷ (D' ∷ [])) E es q g = absurd cc
    by (D ∷ (D' ∷ (D'' ∷ ds))) E es q g = absurd cc

-- the families below the second are self-contained
entries_within : (S : ℕ → Bool) → (S 1 ≡ true → S 0 ≡ true) → (B : Block) (E : LfType) → Member B (copy_block ∷ []) → Member E B.entries → S (target E) ≡ true → FamiliesIn S E
entries_within S z B E (inr m) i s = absurd m
entries_within S z B E (inl e) i s = by (subst (λ D. Member E D.entries) e i)
  where
    by : Member E copy_block.entries → FamiliesIn S E
    by (inl q) = subst (FamiliesIn S) (sym q) (sym (ap (λ X. S (target X)) q) ∙ s)
    by (inr (inl q)) = subst (FamiliesIn S) (sym q) (sym (ap (λ X. S (target X)) q) ∙ s)
    by (inr (inr m)) = absurd m

self_contained : SelfContained Copying (copy_block ∷ []) (first_below_second 1)
self_contained = record { declared = declared; kinds_in = kinds_in; types_in = types_in; entries_in = entries_within (first_below_second 1) (λ e. refl) }
  where
    declared : (a : ℕ) → first_below_second 1 a ≡ true → IsDeclared Copying a
    declared zero e = (star, refl)
    declared (suc zero) e = (cp_kind, refl)
    declared (suc (suc a)) e = absurd cc

    kinds_in : (a : ℕ) (K : Kind) → copying_kinds a ≡ Some K → first_below_second 1 a ≡ true → KindFamiliesIn (first_below_second 1) K
    kinds_in zero K e s = subst (KindFamiliesIn (first_below_second 1)) (some_kind e) tt
    kinds_in (suc zero) K e s = subst (KindFamiliesIn (first_below_second 1)) (some_kind e) (refl, (refl, tt))
    kinds_in (suc (suc a)) K e s = absurd cc

    types_in : (c : ℕ) (A : LfType) → copying_types c ≡ Some A → first_below_second 1 (target A) ≡ true → FamiliesIn (first_below_second 1) A
    types_in zero A e s = subst (FamiliesIn (first_below_second 1)) (some_type e) ((refl, refl), refl)
    types_in (suc zero) A e s = subst (FamiliesIn (first_below_second 1)) (some_type e) ((refl, refl), ((refl, refl), ((refl, (refl, refl)), refl)))
    types_in (suc (suc zero)) A e s = subst (FamiliesIn (first_below_second 1)) (some_type e) (refl, (refl, refl))
    types_in (suc (suc (suc zero))) A e s = subst (FamiliesIn (first_below_second 1)) (some_type e) (refl, (refl, (refl, (refl, (refl, (refl, refl))))))
    types_in (suc (suc (suc (suc n)))) A e s = absurd cc

group_is_one : {f : ℕ} → Member f (1 ∷ []) → f ≡ 1
group_is_one (inl e) = e
group_is_one (inr m) = absurd m

to_group : {f : ℕ} → f ≡ 1 → IsCallee copying_record [] 1 f
to_group e = ((λ i. same_below e, λ Q q. absurd q), inl (inl e))

marked : HasTotalMarks Copying 1 (copying_marks 1)
marked = (sound, tt)

-- what holds of the subgoals of cp-app, at both
at_app : (P : LfType → Type 0) → P goal1 → P goal2 → (i : ℕ) (A : LfType) → IsSubgoal cp_app i A → P A
at_app P a b i A h = by (app_subgoal i A h)
  where
    by : (A ≡ goal1) ⊎ (A ≡ goal2) → P A
    by (inl e) = subst P (sym e) a
    by (inr e) = subst P (sym e) b

copying_checked : GroupChecked Copying copying_record first_place []
copying_checked = record {
  marked = λ f i. subst (λ a. HasTotalMarks Copying a (copying_marks a)) (sym (group_is_one i)) marked;
  blocks_typed = blocks;
  same_before = λ Q q. absurd q;
  itself_below = λ f i. below_itself f;
  self_contained = λ f i. subst (λ a. SelfContained Copying (copy_block ∷ []) (first_below_second a)) (sym (group_is_one i)) self_contained;
  frozen = record {
    families_frozen = λ f i. ap (first_below_second 1) (group_is_one i);
    targets_frozen = targets;
    below_frozen = λ f i b e. ap (λ a. first_below_second a b) (sym (group_is_one i)) ∙ e;
    self_contained = self_contained;
  };
  orders_at_inputs = λ f i. subst (λ a. IsAtPlaces (input_places (copying_marks a)) (place 1)) (sym (group_is_one i)) refl;
  well_moded = clauses_of (λ c. WellModed Copying copying_marks in_group c) lam_moded app_moded u_moded;
  well_worlded = clauses_of (λ c. WellWorlded Copying (copy_block ∷ []) c) (λ i A h. subst (λ X. IsSequence Copying (copy_block ∷ []) (scope cp_lam) (binders [] X)) (sym (lam_subgoal i A h)) goal_local) (at_app (λ X. IsSequence Copying (copy_block ∷ []) (scope cp_app) (binders [] X)) no_instance no_instance) (λ i A h. absurd (u_subgoal i A h));
  callees = clauses_of (λ c. (i : ℕ) (A : LfType) → IsSubgoal c i A → IsCallee copying_record [] (target c.type) (target A)) (λ i A h. to_group (ap target (lam_subgoal i A h))) (at_app (λ X. IsCallee copying_record [] 1 (target X)) (to_group refl) (to_group refl)) (λ i A h. absurd (u_subgoal i A h));
  descending = clauses_of (λ c. (i : ℕ) (A : LfType) → IsSubgoal c i A → Member (target A) (1 ∷ []) → Descends c A) (λ i A h m. subst (Descends cp_lam) (sym (lam_subgoal i A h)) goal_descends) (λ i A h m. at_app (Descends cp_app) goal1_descends goal2_descends i A h) (λ i A h m. absurd (u_subgoal i A h));
  covered_inputs = λ f i. subst (λ a. CoveredInputs Copying copying_marks (copy_block ∷ []) (first_below_second a) a) (sym (group_is_one i)) copy_inputs;
  covered_outputs = clauses_of (λ c. Subgoals copying_marks c (λ U A. CoveredOutputs Copying copying_marks (copy_block ∷ []) (first_below_second (target c.type)) c U A) (λ U. Unit {0})) (step copying_marks cp_lam (λ U A. CoveredOutputs Copying copying_marks (copy_block ∷ []) S cp_lam U A) (λ U. Unit {0}) 2 0 first goal refl (copy_outputs, tt)) (step copying_marks cp_app Outputs (λ U. Unit {0}) 5 0 first1 goal1 refl (app_outputs1, step copying_marks cp_app Outputs (λ U. Unit {0}) 4 1 first2 goal2 (goal2', refl, refl) (app_outputs2, tt))) tt;
}
  where
    Outputs : (ℕ → Bool) → LfType → Type 0
    Outputs U A = CoveredOutputs Copying copying_marks (copy_block ∷ []) S cp_app U A

    blocks : (B : Block) → Member B (copy_block ∷ []) → IsContext Copying (onto B.entries B.some)
    blocks B (inl e) = subst (λ D. IsContext Copying (onto D.entries D.some)) (sym e) block_ok
    blocks B (inr i) = absurd i

    targets : (B : Block) (E : LfType) → Member B (copy_block ∷ []) → Member E B.entries → first_below_second 1 (target E) ≡ true
    targets B E (inr m) i = absurd m
    targets B E (inl e) i = by (subst (λ D. Member E D.entries) e i)
      where
        by : Member E copy_block.entries → first_below_second 1 (target E) ≡ true
        by (inl q) = ap (λ X. first_below_second 1 (target X)) q
        by (inr (inl q)) = ap (λ X. first_below_second 1 (target X)) q
        by (inr (inr m)) = absurd m

pub copying_lasts : CopyingLasts
copying_lasts = record_made Copying copying_ok copying_record first_place [] copying_checked (λ Q i. absurd i)

pub copies : TermsHaveCopies
copies G w M m = by (total.1 G w cp_kind (app M (app (var 0) nil)) refl (m, tt))
  where
    total : Total Copying 1 (copying_marks 1) (copy_block ∷ [])
    total = lasting_total Copying 1 (copying_marks 1) (copy_block ∷ []) (first_below_second 1) copying_ok (copying_lasts.lasts 1 (inl refl))

    by : (T : Spine) × (D : Term) × SamePlaces (input_places (copying_marks 1)) (app M (app (var 0) nil)) T × SpineFitsKind Copying G T cp_kind × HasType Copying G D (atom 1 T) → (N : Term) × (D : Term) × HasType Copying G D (cp M N)
    by (nil, D, s, f, d) = absurd s
    by (app M' nil, D, s, f, d) = absurd s.1
    by (app M' (app N nil), D, (e, s), f, d) = (N, D, subst (λ X. HasType Copying G D (cp X N)) (sym e) d)
    by (app M' (app N (app P T)), D, s, f, d) = absurd s.1

-- an instance of the block covers its variable
covered_by_block : (Σ : Signature) (x : Extends S Copying Σ) (G : List LfType) (w : World Σ (copy_block ∷ []) S G) (θ : ℕ → Image) → InstanceIn w copy_block θ → (M P : Term) → M ≡ apply_image reduce (θ 1) nil → CoveredBy w (input_places (copying_marks 1)) 1 (app M (app P nil))
covered_by_block Σ x G w θ b M P e =
    let t : Begun Σ x.ok G copy_block copy_block.entries θ = instance_typed Σ x.ok w copy_block θ b in
    let (j, k) = t.kept 0 refl in
    record { head = variable j; clause = u_clause; outer = λ n. θ (suc n); values = λ n. θ (suc n); offered = by_entry copy_block [] (cp (var 0) (var 0)) (exp ∷ []) θ j (inl refl) refl b k; family = refl; typed = u_values Σ G θ t.typed; agrees = λ n X g. refl; terms = λ n o u. absurd cc; same = (e, tt); uses = ((refl, tt), tt) }

pub block_case_covered : BlockCaseIsCovered
block_case_covered Σ x G w F σ T h = by T h.values h.is_ground h.has_arguments
  where
    by : (T : Spine) (τ : ℕ → Image) → IsGroundInstance w block_case.items τ → HasArguments τ block_case.arguments T → OneCovers w copy_heads (covered_places block_case.arguments) F [] σ T
    by nil τ i h = absurd h
    by (app M nil) τ i h = absurd h.1
    by (app M (app P (app Q T))) τ i h = absurd h.1
    by (app M (app P nil)) τ (θ, υ, g, b, s, e) (h, k) =
        let t : Begun Σ x.ok G copy_block copy_block.entries θ = instance_typed Σ x.ok w copy_block θ b in
        (head_pattern copy_entry (of_entry copy_block [] (cp (var 0) (var 0)) (exp ∷ []) refl), inr (inr (inl refl)), record { outer = λ n. θ (suc n); stands = (θ, b, refl); used = ground_first copying_marks u_clause; outside_used = outside_ground (input_places (copying_marks 1)) u_clause; uses = ((refl, tt), tt); strict = ((refl, tt), tt); values = λ n. θ (suc n); typed = u_values Σ G θ t.typed; agrees = λ n X g. refl; given = λ n N u g. absurd cc; terms = λ n o u. absurd cc; same = (h ∙ ap (λ f. apply_image reduce (f 1) nil) e, tt) })
