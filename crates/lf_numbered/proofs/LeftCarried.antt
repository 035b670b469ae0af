-- A typed unifier over the signature with entries, whose values are read in a context, is a typed unifier there of the
-- store that is read.
use Rattle.std.proofs.Common.{◌≡◌, ℕ, suc, List, [], ◌∷◌, length, Option, Some, None, refl, sym, ap, ◌∙◌, subst}
use Rattle.lf.specs.Syntax.{Term, Spine, LfType, Skeleton, skeleton, lift_renaming}
use Rattle.lf.specs.SkeletonTyping.{HeadSkeletons, TermSkeleton}
use Rattle.lf.specs.Skeletons.{family_skeletons}
use Rattle.lf.specs.Subordination.{Block}
use Rattle.lf.specs.Substitution.{Image}
use Rattle.lf.specs.Typing.{Signature, TypeAt, HasType, IsType, IsContext, IsSignature}
use Rattle.lf.proofs.Weakening.{declared_is_type}
use Rattle.lf_unification.specs.Filling.{fill, fill_type, moved}
use Rattle.lf_unification.specs.OpenTyping.{OpenHasType, OpenIsType, ValueHasType, skeletons_of, under_locals}
use Rattle.lf_unification.specs.PartialInstance.{EquationsAreTyped, IsFilling}
use Rattle.lf_unification.specs.Patterns.{local_skeletons}
use Rattle.lf_unification.specs.Skeletons.{as_head_skeletons, skeleton_or_default, total_skeletons}
use Rattle.lf_unification.specs.Solving.{IsWellFormed}
use Rattle.lf_unification.specs.Unifiers.{BindingsAreTyped, Binding, Equation, Respects, Solution, Solves, SolvesAll, Store}
use Rattle.lf_unification.proofs.Fillings.{solution_fills}
use Rattle.lf_unification.proofs.Generic.{open_skeletons, open_skeletons_type}
use Rattle.lf_unification.proofs.OpenSound.{PartialInstance-of, fill_typed_type}
use Rattle.lf_unification.proofs.OpenTypes.{OpenIsType-sound}
use Rattle.lf_unification.proofs.Scope.{in_all_type}
use Rattle.lf_numbered.specs.LeftUnifiers.{read_bindings, read_declared, read_equation, read_equations, read_locals, read_store}
use Rattle.lf_numbered.specs.NumberedArguments.{read_over}
use Rattle.lf_numbered.specs.OwnTerms.{OnOwnTerms, TypeOnOwnTerms}
use Rattle.lf_numbered.specs.OwnValues.{ValuesOnOwnTerms}
use Rattle.lf_numbered.specs.Reading.{entry_reading, read, read_type}
use Rattle.lf_numbered.proofs.LeftReading.{Reads, Stay, carried, carried_type, carried_under, carried_value, fill_read, fill_type_read, reads_under, stay_under}
use Rattle.lf_numbered.proofs.NumberedArguments.{constant_is_old}
use Rattle.lf_numbered.proofs.ReadValues.{reading_next}
use Rattle.lf_numbered.proofs.Reading.{rename_read, skeleton_read, weakened_read}
use mathlib.Core.Path.{fun_ext}

-- local types that are read, and what is declared
locals_under : (first : ℕ) (Bs : List Block) (θ : ℕ → ℕ → Image) (D : List LfType) (γ : ℕ → Option Term) → under_locals (read_locals first Bs θ D) γ ≡ under_locals D γ
locals_under first Bs θ [] γ = refl
locals_under first Bs θ (A ∷ D) γ = ap (moved suc) (locals_under first Bs θ D γ)

declared_skeleton : (f : ℕ → Option (ℕ × ℕ)) (y : Option LfType) → skeleton_or_default (read_declared f y) ≡ skeleton_or_default y
declared_skeleton f None = refl
declared_skeleton f (Some A) = skeleton_read f A

-- a renaming under a local context
abbrev pub over_locals : List LfType → (ℕ → ℕ) → ℕ → ℕ
over_locals [] ν = ν
over_locals (A ∷ D) ν = lift_renaming (over_locals D ν)

module _ (Σ : Signature) (first : ℕ) (Bs : List Block) (θ : ℕ → ℕ → Image) (δ ν : ℕ → ℕ) (f : ℕ → Option (ℕ × ℕ)) (reads : (c : ℕ) (A : LfType) → Σ.types c ≡ Some A → (entry_reading first Bs θ 0 c ≡ rename_read ν (f c)) × (f c ≡ None → δ c ≡ c)) (μ : ℕ → Skeleton) where
  abbrev κ : HeadSkeletons
  κ = as_head_skeletons (total_skeletons Σ μ)

  reads_over : (D : List LfType) → Reads δ κ μ (read_over D f) (entry_reading first Bs θ (length D)) (over_locals D ν)
  reads_over [] c t e = let (A, q) = constant_is_old Σ c t (Σ.types c) refl e in reads c A q
  reads_over (A ∷ D) c t e = subst (λ g. Reads δ κ μ (read_over (A ∷ D) f) g (over_locals (A ∷ D) ν)) (fun_ext (λ c. weakened_read (entry_reading first Bs θ (length D) c) ∙ sym (reading_next first Bs θ (length D) c))) (reads_under δ κ μ (read_over D f) (entry_reading first Bs θ (length D)) (over_locals D ν) (reads_over D)) c t e

  stay_over : (D : List LfType) → Stay δ κ μ (local_skeletons D []) (over_locals D ν)
  stay_over [] i t e = absurd e
  stay_over (A ∷ D) i t e = stay_under δ κ μ (local_skeletons D []) (skeleton A) (over_locals D ν) (stay_over D) i t e

  module _ (β : ℕ → Option Term) where
    abbrev pub values_read : ℕ → Option Term
    values_read m = carried_value δ f ν (β m)

    values_over : (D : List LfType) (m : ℕ) → under_locals D values_read m ≡ carried_value δ (read_over D f) (over_locals D ν) (under_locals D β m)
    values_over [] m = refl
    values_over (A ∷ D) m = carried_under δ (read_over D f) (over_locals D ν) (under_locals D β m) (under_locals D values_read m) (values_over D m)

    pub term_carried : (D : List LfType) (M : Term) (t : Skeleton) → TermSkeleton κ (local_skeletons D []) M t → carried δ (read_over D f) (over_locals D ν) (fill μ (under_locals D β) M) ≡ fill μ (under_locals D values_read) (read (entry_reading first Bs θ (length D)) M)
    term_carried D M t m = fill_read δ κ μ (local_skeletons D []) (read_over D f) (entry_reading first Bs θ (length D)) (over_locals D ν) (under_locals D β) (under_locals D values_read) (reads_over D) (stay_over D) (values_over D) M t m

    -- an equation whose sides have skeletons
    pub solves_read : (e : Equation) (t u : Skeleton) → TermSkeleton κ (local_skeletons e.local []) e.left t → TermSkeleton κ (local_skeletons e.local []) e.right u → Solves μ β e → Solves μ (λ m. carried_value δ f ν (β m)) (read_equation first Bs θ e)
    solves_read e t u l r s =
        ap (λ γ. fill μ γ (read (entry_reading first Bs θ (length e.local)) e.left)) (locals_under first Bs θ e.local values_read)
        ∙ sym (term_carried e.local e.left t l)
        ∙ ap (carried δ (read_over e.local f) (over_locals e.local ν)) s
        ∙ term_carried e.local e.right u r
        ∙ sym (ap (λ γ. fill μ γ (read (entry_reading first Bs θ (length e.local)) e.right)) (locals_under first Bs θ e.local values_read))

module _ (Σ₁ Σ Σ' : Signature) (ok₁ : IsSignature Σ₁) (ok : IsSignature Σ) (ok' : IsSignature Σ') (first : ℕ) (Bs : List Block) (θ : ℕ → ℕ → Image) (δ ν : ℕ → ℕ) (f : ℕ → Option (ℕ × ℕ)) (reads : (c : ℕ) (A : LfType) → Σ₁.types c ≡ Some A → (entry_reading first Bs θ 0 c ≡ rename_read ν (f c)) × (f c ≡ None → δ c ≡ c)) (F G : List LfType) (context : IsContext Σ' G) (o : ℕ → Option Spine) (keeps : (N : Term) (A : LfType) → IsType Σ F A → TypeOnOwnTerms o A → HasType Σ F N A → OnOwnTerms o N → HasType Σ' G (carried δ f ν N) (carried_type δ f ν A)) (s : Store) (start : IsWellFormed Σ₁ s) (form : IsWellFormed Σ s) (β : ℕ → Option Term) (u : Solution Σ [] s F β) (own : ValuesOnOwnTerms o s.metavariables β) (own_types : (m : ℕ) (A : LfType) → s.metavariables m ≡ Some A → TypeOnOwnTerms o (fill_type (skeletons_of s.metavariables) β A)) where
  abbrev Ψ : ℕ → Option LfType
  Ψ = s.metavariables

  abbrev μ : ℕ → Skeleton
  μ = skeletons_of s.metavariables

  abbrev U : (ℕ → Option Term) → Type 0
  U = IsFilling Σ [] s

  abbrev U₁ : (ℕ → Option Term) → Type 0
  U₁ = IsFilling Σ₁ [] s

  abbrev γ : ℕ → Option Term
  γ m = carried_value δ f ν (β m)

  same_skeletons : skeletons_of (read_store first Bs θ s).metavariables ≡ μ
  same_skeletons = fun_ext (λ m. declared_skeleton (entry_reading first Bs θ 0) (Ψ m))

  sides : (D : List LfType) (M : Term) (A : LfType) → OpenHasType Σ₁ [] Ψ U₁ D M A → TermSkeleton (as_head_skeletons (total_skeletons Σ₁ μ)) (local_skeletons D []) M (skeleton A)
  sides D M A m = open_skeletons Σ₁ μ ok₁ Ψ U₁ D [] M A m

  bindings : (bs : List Binding) → BindingsAreTyped Σ₁ [] Ψ U₁ bs → Respects μ β bs → Respects μ γ (read_bindings first Bs θ bs)
  bindings [] t r = tt
  bindings (b ∷ bs) ((A, e, m), t) (q, r) = (ap (carried_value δ f ν) q ∙ ap Some (term_carried Σ₁ first Bs θ δ ν f reads μ β [] b.value (skeleton A) (sides [] b.value A m)), bindings bs t r)

  equations : (es : List Equation) → EquationsAreTyped Σ₁ [] Ψ U₁ es → SolvesAll μ β es → SolvesAll μ γ (read_equations first Bs θ es)
  equations [] t q = tt
  equations (e ∷ es) (m, t) (q, r) = (solves_read Σ₁ first Bs θ δ ν f reads μ β e (skeleton e.of_type) (skeleton e.of_type) (sides e.local e.left e.of_type m.left_typed) (sides e.local e.right e.of_type m.right_typed) q, equations es t r)

  type_filled : (A : LfType) → OpenIsType Σ [] Ψ U [] A → IsType Σ F (fill_type μ β A)
  type_filled A t = OpenIsType-sound Σ ok [] Ψ U (λ m. Unit {0}) F β (PartialInstance-of Σ ok [] Ψ (λ m. Unit {0}) F β u.0) form.typed.declarations_typed (solution_fills Σ ok [] s F β u) [] A tt (in_all_type (λ m. Unit {0}) (λ j. tt) A) t

  type_read : (A : LfType) → OpenIsType Σ₁ [] Ψ U₁ [] A → carried_type δ f ν (fill_type μ β A) ≡ fill_type μ γ (read_type (entry_reading first Bs θ 0) A)
  type_read A t = fill_type_read δ (as_head_skeletons (total_skeletons Σ₁ μ)) μ (family_skeletons Σ₁) [] f (entry_reading first Bs θ 0) ν β γ (reads_over Σ₁ first Bs θ δ ν f reads μ []) (stay_over Σ₁ first Bs θ δ ν f reads μ []) (λ m. refl) A (open_skeletons_type Σ₁ μ ok₁ Ψ U₁ [] [] A t)

  value_typed : (m : ℕ) (y : Option LfType) (z : Option Term) → Ψ m ≡ y → β m ≡ z → ValueHasType Σ F μ β y z → ValueHasType Σ' G μ γ (read_declared (entry_reading first Bs θ 0) y) (carried_value δ f ν z)
  value_typed m None None e q v = tt
  value_typed m None (Some N) e q v = absurd v
  value_typed m (Some A) None e q v = absurd v
  value_typed m (Some A) (Some N) e q v =
      let t : OpenIsType Σ [] Ψ U [] A = form.typed.declarations_typed.metavariables_typed m A e in
      subst (HasType Σ' G (carried δ f ν N)) (type_read A (start.typed.declarations_typed.metavariables_typed m A e)) (keeps N (fill_type μ β A) (type_filled A t) (own_types m A e) v (own m A N e q))

  -- The lemma
  pub solution_read : Solution Σ' G (read_store first Bs θ s) G (λ m. carried_value δ f ν (β m))
  solution_read = (
    record {
      context = context;
      outer = λ i A k. subst (TypeAt G i) (sym (fill_typed_type Σ' (skeletons_of (read_store first Bs θ s).metavariables) G γ A (declared_is_type Σ' ok' G i A context k))) k;
      typed = λ m. subst (λ r. ValueHasType Σ' G r γ (read_declared (entry_reading first Bs θ 0) (Ψ m)) (carried_value δ f ν (β m))) (sym same_skeletons) (value_typed m (Ψ m) (β m) refl refl (u.0.typed m));
    },
    (
      subst (λ r. Respects r γ (read_bindings first Bs θ s.bindings)) (sym same_skeletons) (bindings s.bindings start.typed.bindings_typed u.1.0),
      subst (λ r. SolvesAll r γ (read_equations first Bs θ s.equations)) (sym same_skeletons) (equations s.equations start.typed.equations_typed u.1.1),
    ),
  )
