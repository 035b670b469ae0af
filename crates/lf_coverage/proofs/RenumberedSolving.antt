-- What solving comes to, it comes to under other numbers; and the case that is read off is the same.
use Rattle.std.proofs.Common.{◌≡◌, ℕ, zero, suc, ◌+◌, ◌⊎◌, List, [], ◌∷◌, inl, inr, refl, sym, ap, ap₂, ◌∙◌, subst}
use Rattle.std.specs.Prelude.{Option, Some, None}
use Rattle.std.specs.Option.{option_map}
use Rattle.lf.specs.Substitution.{Image}
use Rattle.lf.specs.Syntax.{Term, LfType, variable, nil, skeleton}
use Rattle.lf.specs.Typing.{Signature, IsSignature, IsContext, HasType}
use Rattle.lf.specs.Worlds.{instance, lift_over}
use Rattle.lf_unification.specs.Dependency.{ListedMetavariable, add_free, add_value, free_context, values}
use Rattle.lf_unification.specs.Filling.{fill_type, moved}
use Rattle.lf_unification.specs.OpenTyping.{ValueHasType, set_at, skeletons_of}
use Rattle.lf_unification.specs.Patterns.{eta_variable}
use Rattle.lf_unification.specs.Solving.{IsWellFormed, Solved}
use Rattle.lf_unification.specs.Unifiers.{Equation, Solution, Store}
use Rattle.lf_unification.proofs.Agree.{set_here}
use Rattle.lf_unification.proofs.Offer.{decide, set_other}
use Rattle.lf_unification.proofs.Runs.{run_left, run_solved}
use Rattle.lf_unification.proofs.Scope.{in_typed, in_typed_type}
use Rattle.lf_unification.proofs.Solving.{well_formed_answer}
use Rattle.lf_cases.specs.Case.{Case}
use Rattle.lf_cases.specs.Missing.{put_in}
use Rattle.lf_cases.specs.OutputGoal.{free_variables}
use Rattle.lf_coverage.specs.Renumbering.{Renumbering, renumbered, renumbered_type, renumbered_locals, renumbered_equations, renumbered_order, renumbered_types, renumbered_store}
use Rattle.lf_coverage.specs.RenumberingLaws.{LeftUnderNumbers, SolvedUnderNumbers}
use Rattle.lf_coverage.specs.SplitStore.{answer_image, answer_values, solved_case, solved_case_at}
use Rattle.lf_coverage.proofs.RenumberedBack.{declared_at, skeleton_at}
use Rattle.lf_coverage.proofs.RenumberedLeft.{all_left_over}
use Rattle.lf_coverage.proofs.RenumberedRuns.{run_under}
use Rattle.lf_coverage.proofs.RenumberedStores.{injective, order_same, well_formed}
use Rattle.lf_coverage.proofs.RenumberedSyntax.{Follows, eta_expanded, filled, filled_type, follows_moved, identical, identical_type, skeleton_renumbered}
use Rattle.lf_coverage.proofs.RenumberedTyping.{agreeing, agreeing_type}
use mathlib.Core.Path.{fun_ext}

pub solved_under_numbers : SolvedUnderNumbers
solved_under_numbers Σ ok π before after w s =
    let (ρ, a, r) = run_under Σ ok π s.run in
    let t : Solved Σ (renumbered_store π before) (renumbered_store ρ after) = run_solved Σ ok (well_formed Σ ok π before w) r (ap (renumbered_equations ρ.to) s.none_left) in
    (ρ, a, record { run = r; keeps = t.keeps; well_formed = well_formed Σ ok ρ after s.well_formed; none_left = t.none_left }, order_same Σ ok ρ after s.well_formed)

none_was : (f : ℕ → ℕ) (es : List Equation) → renumbered_equations f es ≡ [] → es ≡ []
none_was f [] e = refl
none_was f (e ∷ es) q = absurd cc

pub left_under_numbers : LeftUnderNumbers
left_under_numbers Σ ok π before after w l =
    let (ρ, a, r) = run_under Σ ok π l.run in
    (ρ, a, run_left Σ ok (well_formed Σ ok π before w) r (λ e. l.some_left (none_was ρ.to after.equations e)) (all_left_over ρ before.metavariables (renumbered_types π before.metavariables) (λ m (A, e). (renumbered_type π.to A, subst (λ k. renumbered_types π before.metavariables k ≡ Some (renumbered_type π.to A)) (sym (a m A e)) (declared_at π before.metavariables m A e))) after after.equations l.all_left_over))

-- the values that are read off
module _ (π : Renumbering) (Ψ : ℕ → Option LfType) where
  set_follows : (n : ℕ) (x y : Option Term) (β γ : ℕ → Option Term) → y ≡ option_map (renumbered π.to) x → Follows π.to β γ → Follows π.to (set_at n x β) (set_at (π.to n) y γ)
  set_follows n x y β γ q h m = by (decide m n)
    where
      by : (m ≡ n) ⊎ (m ≡ n → ⊥) → set_at (π.to n) y γ (π.to m) ≡ option_map (renumbered π.to) (set_at n x β m)
      by (inl e) = ap (λ k. set_at (π.to n) y γ (π.to k)) e ∙ set_here (π.to n) y γ ∙ q ∙ sym (ap (option_map (renumbered π.to)) (ap (set_at n x β) e ∙ set_here n x β))
      by (inr d) = set_other (π.to n) y γ (π.to m) (λ e. d (injective π m n e)) ∙ h m ∙ sym (ap (option_map (renumbered π.to)) (set_other n x β m d))

  values_follow : (is : List ListedMetavariable) → Follows π.to (values (skeletons_of Ψ) is) (values (skeletons_of (renumbered_types π Ψ)) (renumbered_order π.to is))
  values_follow [] = λ m. refl
  values_follow (it ∷ is) = by it.value (values_follow is)
    where
      by : (x : Option Term) → Follows π.to (values (skeletons_of Ψ) is) (values (skeletons_of (renumbered_types π Ψ)) (renumbered_order π.to is)) → Follows π.to (add_value (skeletons_of Ψ) it.of it.of_type x (values (skeletons_of Ψ) is)) (add_value (skeletons_of (renumbered_types π Ψ)) (π.to it.of) (renumbered_type π.to it.of_type) (option_map (renumbered π.to) x) (values (skeletons_of (renumbered_types π Ψ)) (renumbered_order π.to is)))
      by None h = set_follows it.of (Some (eta_variable (skeleton it.of_type) zero)) (Some (eta_variable (skeleton (renumbered_type π.to it.of_type)) zero)) (moved suc (values (skeletons_of Ψ) is)) (moved suc (values (skeletons_of (renumbered_types π Ψ)) (renumbered_order π.to is))) (ap Some (ap (λ a. eta_variable a zero) (skeleton_renumbered π.to it.of_type) ∙ sym (eta_expanded π.to (skeleton it.of_type) (variable zero) nil))) (follows_moved π.to (values (skeletons_of Ψ) is) (values (skeletons_of (renumbered_types π Ψ)) (renumbered_order π.to is)) h)
      by (Some N) h = set_follows it.of _ _ (values (skeletons_of Ψ) is) (values (skeletons_of (renumbered_types π Ψ)) (renumbered_order π.to is)) (ap Some (sym (filled π.to (skeletons_of Ψ) (skeletons_of (renumbered_types π Ψ)) (skeleton_at π Ψ) (values (skeletons_of Ψ) is) (values (skeletons_of (renumbered_types π Ψ)) (renumbered_order π.to is)) h N))) h

  free_same : (is : List ListedMetavariable) → renumbered_locals π.to (free_context (skeletons_of Ψ) is) ≡ free_context (skeletons_of (renumbered_types π Ψ)) (renumbered_order π.to is)
  free_same [] = refl
  free_same (it ∷ is) = by it.value (free_same is)
    where
      by : (x : Option Term) → renumbered_locals π.to (free_context (skeletons_of Ψ) is) ≡ free_context (skeletons_of (renumbered_types π Ψ)) (renumbered_order π.to is) → renumbered_locals π.to (add_free x (fill_type (skeletons_of Ψ) (values (skeletons_of Ψ) is) it.of_type) (free_context (skeletons_of Ψ) is)) ≡ add_free (option_map (renumbered π.to) x) (fill_type (skeletons_of (renumbered_types π Ψ)) (values (skeletons_of (renumbered_types π Ψ)) (renumbered_order π.to is)) (renumbered_type π.to it.of_type)) (free_context (skeletons_of (renumbered_types π Ψ)) (renumbered_order π.to is))
      by None e = ap₂ (λ A F. A ∷ F) (filled_type π.to (skeletons_of Ψ) (skeletons_of (renumbered_types π Ψ)) (skeleton_at π Ψ) (values (skeletons_of Ψ) is) (values (skeletons_of (renumbered_types π Ψ)) (renumbered_order π.to is)) (values_follow is) it.of_type) e
      by (Some N) e = e

-- they mention no metavariable
plain : (Σ : Signature) (f : ℕ → ℕ) (F : List LfType) (N : Term) (A : LfType) → HasType Σ F N A → renumbered f N ≡ N
plain Σ f F N A t = agreeing f (λ m. m) N (in_typed (λ m. f m ≡ m) Σ F N A t) ∙ identical N

plain_context : (Σ : Signature) (f : ℕ → ℕ) (F : List LfType) → IsContext Σ F → renumbered_locals f F ≡ F
plain_context Σ f [] c = refl
plain_context Σ f (A ∷ F) (c, t) = ap₂ (λ B G. B ∷ G) (agreeing_type f (λ m. m) A (in_typed_type (λ m. f m ≡ m) Σ F A t) ∙ identical_type A) (plain_context Σ f F c)

module _ (Σ : Signature) (ok : IsSignature Σ) (π : Renumbering) (s : Store) (w : IsWellFormed Σ s) (none : s.equations ≡ []) where
  answered : Solution Σ [] s (free_context (skeletons_of s.metavariables) w.order) (values (skeletons_of s.metavariables) w.order)
  answered = well_formed_answer Σ ok s w none

  value_plain : (m : ℕ) → option_map (renumbered π.to) (values (skeletons_of s.metavariables) w.order m) ≡ values (skeletons_of s.metavariables) w.order m
  value_plain m = by (s.metavariables m) (values (skeletons_of s.metavariables) w.order m) (answered.0.typed m)
    where
      by : (x : Option LfType) (y : Option Term) → ValueHasType Σ (free_context (skeletons_of s.metavariables) w.order) (skeletons_of s.metavariables) (values (skeletons_of s.metavariables) w.order) x y → option_map (renumbered π.to) y ≡ y
      by x None v = refl
      by None (Some N) v = absurd v
      by (Some A) (Some N) v = ap Some (plain Σ π.to (free_context (skeletons_of s.metavariables) w.order) N (fill_type (skeletons_of s.metavariables) (values (skeletons_of s.metavariables) w.order) A) v)

  pub same_answer : (i : ℕ) → answer_values (renumbered_store π s) (renumbered_order π.to w.order) i ≡ answer_values s w.order (π.back i)
  same_answer i = ap (λ k. answer_values (renumbered_store π s) (renumbered_order π.to w.order) k) (sym (π.to_back i)) ∙ ap₂ answer_image (skeleton_at π s.metavariables (π.back i)) (values_follow π s.metavariables w.order (π.back i) ∙ value_plain (π.back i))

  pub same_items : free_context (skeletons_of (renumbered_types π s.metavariables)) (renumbered_order π.to w.order) ≡ free_context (skeletons_of s.metavariables) w.order
  same_items = sym (free_same π s.metavariables w.order) ∙ plain_context Σ π.to (free_context (skeletons_of s.metavariables) w.order) answered.0.context

  -- so the case is the same, where variable i is metavariable f i
  pub same_read : (C : Case) (f : ℕ → ℕ) → solved_case_at C f (renumbered_store π s) (renumbered_order π.to w.order) ≡ solved_case_at C (λ i. π.back (f i)) s w.order
  same_read C f = ap₂ (λ O σ. case O σ) same_items (fun_ext (λ i. same_answer (f i)))
    where
      case : List LfType → (ℕ → Image) → Case
      case O σ = record { items = free_variables O; given = put_in σ C.given; local = instance C.local σ; family = C.family; arguments = put_in (lift_over C.local σ) C.arguments }

  pub same_case : (C : Case) (k : ℕ) → solved_case C k (renumbered_store π s) (renumbered_order π.to w.order) ≡ solved_case_at C (λ i. π.back (i + k)) s w.order
  same_case C k = same_read C (λ i. i + k)
