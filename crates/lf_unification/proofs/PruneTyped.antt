-- A pruning keeps stores typed and well formed.
use Rattle.std.proofs.Common.{◌≡◌, ℕ, zero, suc, List, [], ◌∷◌, Option, Some, None, ◌⊎◌, inl, inr, refl, sym, ap, ap₂, ◌∙◌, subst, arith}
use mathlib.Core.Path.{fun_ext}
use Rattle.std.specs.Prelude.{Bool, true, false}
use Rattle.lf.specs.SkeletonTyping.{TermSkeleton}
use Rattle.lf.specs.Skeletons.{context_skeletons, family_skeletons, type_skeleton}
use Rattle.lf.specs.Subordination.{Member}
use Rattle.lf.specs.Syntax.{Kind, Skeleton, Spine, Term, LfType, app, atom, kind_pi, metavariable, nil, pi, rename_spine, rename_type, root, skeleton, star, weaken, lift_renaming}
use Rattle.lf.specs.Typing.{IsSignature, Signature, TypeAt, instantiate_kind}
use Rattle.lf.specs.Variables.{onto, same_number}
use Rattle.lf.proofs.Decidability.{variable_type_unique}
use Rattle.lf.proofs.TypeLaws.{renamings_compose_type}
use Rattle.lf.proofs.Checker.{number_is, number_itself}
use Rattle.lf_unification.specs.Dependency.{IsDependencyOrder, IsListed, ListedMetavariable, ValueIsOrdered}
use Rattle.lf_unification.specs.Filling.{fill_type}
use Rattle.lf_unification.specs.Offering.{MetavariablesInLocals, pi_over}
use Rattle.lf_unification.specs.OpenTyping.{DeclarationsAreTyped, Declares, MetavariablesIn, MetavariablesInType, OpenHasType, OpenIsContext, OpenIsType, OpenSpineFitsKind, TypesAgree, set_at, skeletons_of, under_locals}
use Rattle.lf_unification.specs.PartialInstance.{EquationsAreTyped, IsFilling, IsTypedStore, LocalBySkeletonsUpTo, PartialInstance, TypeBySkeletonsUpTo, ValueBySkeletons, ValueIsPlain}
use Rattle.lf_unification.specs.Patterns.{Injective, PatternFits, beyond, lambdas_of, local_skeletons, past, pattern, pattern_renaming}
use Rattle.lf_unification.specs.Pruning.{IsPartOf, PrunedType, kept_renaming, pruned_store}
use Rattle.lf_unification.specs.Scope.{IsScoped, MetavariablesInEquationTypes}
use Rattle.lf_unification.specs.Skeletons.{as_head_skeletons, skeleton_or_default, total_skeletons}
use Rattle.lf_unification.specs.Solving.{BindingsAreListed, IsWellFormed, ValuesAreBindings}
use Rattle.lf_unification.specs.Putting.{Unbound}
use Rattle.lf_unification.specs.Unifiers.{Binding, BindingsAreTyped, Equation, Store}
use Rattle.lf_unification.proofs.Agree.{TermSkeleton-agree, TypeBySkeletons-agree, set_here}
use Rattle.lf_unification.proofs.BindTyped.{at_or_outer, at_outer, in_pattern, local_skeleton_arguments}
use Rattle.lf_unification.proofs.BindingKeeps.{in_lambdas}
use Rattle.lf_unification.proofs.EquationLemmas.{respects_agree, solves_agree}
use Rattle.lf_unification.proofs.EtaInversion.{arguments_over, goal_of}
use Rattle.lf_unification.proofs.Fillings.{TypeBySkeletonsUpTo-of, fillings_half}
use Rattle.lf_unification.proofs.Generic.{open_skeletons_type, ordered_at}
use Rattle.lf_unification.proofs.Grow.{OpenHasType-grow, OpenIsType-grow}
use Rattle.lf_unification.proofs.Indices.{metavariables_skeletons, skeletons_U}
use Rattle.lf_unification.proofs.Offer.{decide, set_other}
use Rattle.lf_unification.proofs.OpenEta.{context_types, pruned_typed}
use Rattle.lf_unification.proofs.OpenRenamingBack.{AllSkeletonsUpTo, Known, OpenIsType-unrename, SkeletonsUpTo}
use Rattle.lf_unification.proofs.Place.{Behind, TypeBehind, bound, bound_listed, bound_ordered, insert, insert_listed, insert_ordered, put_behind}
use Rattle.lf_unification.proofs.Sound.{only_if, restrict, restrict_same}
use Rattle.lf_unification.proofs.StepTyping.{bound_here, closed_term, lifted, member_bound, values_of_bound}
use Rattle.lf_unification.proofs.Steps.{in_pruned}

-- The new type is a type: it is a part of the old one.
module _ (Σ : Signature) (ok : IsSignature Σ) (Ψ : ℕ → Option LfType) (U : (ℕ → Option Term) → Type 0) (declarations_typed : DeclarationsAreTyped Σ [] Ψ U) (half : (β : ℕ → Option Term) → U β → (F : List LfType) × PartialInstance Σ [] Ψ (λ m. ⊥) F β) where
  abbrev SU : (β : ℕ → Option Term) → U β → SkeletonsUpTo Σ ok [] Ψ U β
  SU = skeletons_U Σ ok [] Ψ U declarations_typed half [] tt

  pub all_of : (D : List LfType) (X : LfType) → OpenIsType Σ [] Ψ U D X → AllSkeletonsUpTo Σ ok [] Ψ U SU D X
  all_of D X t β u = TypeBySkeletonsUpTo-of Σ ok [] Ψ U D X t (half β u).0 β (half β u).1 u

  pub types_in : (E : List LfType) → OpenIsContext Σ [] Ψ U E → (i : ℕ) (X : LfType) → TypeAt (onto E []) i X → OpenIsType Σ [] Ψ U E X
  types_in E l = context_types Σ ok [] Ψ U E l (λ i X g. absurd g)

  known_part : (D E : List LfType) (ρ : ℕ → ℕ) → IsPartOf D E ρ → Injective ρ → OpenIsContext Σ [] Ψ U E → Known Σ ok [] Ψ U SU D E ρ
  known_part D E ρ p inj l = record {
    moves = record { distinct = inj; outer = p.outer; types = types };
    here = λ i X g. all_of E X (types_in E l i X g);
    there = λ i Y h. all_of E (rename_type ρ Y) (types_in E l (ρ i) (rename_type ρ Y) (p.types i Y h));
  }
    where
      types : (i : ℕ) (X : LfType) → TypeAt (onto E []) (ρ i) X → (Y : LfType) × TypeAt (onto D []) i Y × TypesAgree Σ [] Ψ U E (rename_type ρ Y) X
      types i X g = go (at_or_outer D [] i)
        where
          go : ((Y : LfType) × TypeAt (onto D []) i Y) ⊎ ((j : ℕ) × (i ≡ beyond D j)) → (Y : LfType) × TypeAt (onto D []) i Y × TypesAgree Σ [] Ψ U E (rename_type ρ Y) X
          go (inl (Y, h)) =
              let q : rename_type ρ Y ≡ X = variable_type_unique (onto E []) (ρ i) (rename_type ρ Y) X (p.types i Y h) g in
              (Y, h, (ap skeleton q, λ β u. ap (fill_type (skeletons_of Ψ) (under_locals E β)) q))
          go (inr (j, e)) = absurd (at_outer E [] j X (subst (λ k. TypeAt (onto E []) k X) (ap ρ e ∙ p.outer j) g)).1

  part_context : (D E : List LfType) (ρ : ℕ → ℕ) → IsPartOf D E ρ → Injective ρ → OpenIsContext Σ [] Ψ U E → OpenIsContext Σ [] Ψ U D
  part_context [] E ρ p inj l = tt
  part_context (A ∷ D) E ρ p inj l =
      let ρ' : ℕ → ℕ = λ i. ρ (suc i) in
      let p' : IsPartOf D E ρ' = record { outer = p.outer; types = λ i Y g. subst (TypeAt (onto E []) (ρ (suc i))) (renamings_compose_type ρ suc Y) (p.types (suc i) (weaken Y) (Y, g, refl)) } in
      let inj' : Injective ρ' = λ i j e. (let q : suc i ≡ suc j = inj (suc i) (suc j) e in cc) in
      let t : OpenIsType Σ [] Ψ U E (rename_type ρ' A) = subst (OpenIsType Σ [] Ψ U E) (renamings_compose_type ρ suc A) (types_in E l (ρ zero) (rename_type ρ (weaken A)) (p.types zero (weaken A) refl)) in
      (part_context D E ρ' p' inj' l, OpenIsType-unrename Σ ok [] Ψ U SU (λ D m B e. metavariables_skeletons Σ ok [] Ψ U declarations_typed half [] tt D m B e) D E ρ' A (known_part D E ρ' p' inj' l) (all_of E (rename_type ρ' A) t) t)

  pub open_pi : (E : List LfType) (P : LfType) → OpenIsType Σ [] Ψ U [] (pi_over E P) → OpenIsContext Σ [] Ψ U E × OpenIsType Σ [] Ψ U E P
  open_pi [] P t = (tt, t)
  open_pi (A ∷ E) P t = let (l, q) = open_pi E (pi A P) t in ((l, q.0), q.1)

  pub close_pi : (E : List LfType) (P : LfType) → OpenIsContext Σ [] Ψ U E → OpenIsType Σ [] Ψ U E P → OpenIsType Σ [] Ψ U [] (pi_over E P)
  close_pi [] P l t = t
  close_pi (A ∷ E) P (l, a) t = close_pi E (pi A P) l (a, t)

  pub new_type_typed : (n d : ℕ) (p : PrunedType Ψ n d) → OpenIsType Σ [] Ψ U [] (pi_over p.kept_local (atom p.family p.kept_indices))
  new_type_typed n d p =
      let ρ : ℕ → ℕ = kept_renaming (pi_over p.local (atom p.family p.indices)) (pi_over p.kept_local (atom p.family p.kept_indices)) p.kept in
      let (l, t) = open_pi p.local (atom p.family p.indices) (declarations_typed.metavariables_typed n (pi_over p.local (atom p.family p.indices)) p.declared) in
      let t' : OpenIsType Σ [] Ψ U p.local (rename_type ρ (atom p.family p.kept_indices)) = subst (OpenIsType Σ [] Ψ U p.local) p.same_target t in
      close_pi p.kept_local (atom p.family p.kept_indices) (part_context p.kept_local p.local ρ p.part p.distinct l)
      (OpenIsType-unrename Σ ok [] Ψ U SU (λ D m B e. metavariables_skeletons Σ ok [] Ψ U declarations_typed half [] tt D m B e) p.kept_local p.local ρ (atom p.family p.kept_indices) (known_part p.kept_local p.local ρ p.part p.distinct l) (all_of p.local (rename_type ρ (atom p.family p.kept_indices)) t') t')

-- a type of the empty context is closed
module _ (Σ : Signature) (Ψ : ℕ → Option LfType) (U : (ℕ → Option Term) → Type 0) where
  closed_kind_spine : (D : List LfType) (ρ : ℕ → ℕ) → ((i : ℕ) (X : LfType) → TypeAt (onto D []) i X → ρ i ≡ i) → (S : Spine) (K : Kind) → OpenSpineFitsKind Σ [] Ψ U D S K → rename_spine ρ S ≡ S
  closed_kind_spine D ρ h nil K s = refl
  closed_kind_spine D ρ h (app M S) (kind_pi A K) (m, s) = ap₂ app (closed_term Σ Ψ U D ρ h M A m) (closed_kind_spine D ρ h S (instantiate_kind A M K) s)
  closed_kind_spine D ρ h (app M S) star s = absurd s

  pub closed_type : (D : List LfType) (ρ : ℕ → ℕ) → ((i : ℕ) (X : LfType) → TypeAt (onto D []) i X → ρ i ≡ i) → (A : LfType) → OpenIsType Σ [] Ψ U D A → rename_type ρ A ≡ A
  closed_type D ρ h (pi A B) (a, b) = ap₂ pi (closed_type D ρ h A a) (closed_type (A ∷ D) (lift_renaming ρ) (lifted Σ Ψ U D ρ A h) B b)
  closed_type D ρ h (atom a S) (K, e, s) = ap (atom a) (closed_kind_spine D ρ h S K s)

-- quantifiers of a closed type
arguments_of_pi : (D E : List LfType) (P : LfType) → arguments_over D (pi_over E P) ≡ arguments_over (onto E D) P
arguments_of_pi D [] P = refl
arguments_of_pi D (A ∷ E) P = arguments_of_pi D E (pi A P)

onto_empty : (E : List LfType) → onto E [] ≡ E
onto_empty [] = refl
onto_empty (A ∷ E) = ap (λ X. A ∷ X) (onto_empty E)

goal_of_pi : (E : List LfType) (P : LfType) → goal_of (pi_over E P) ≡ goal_of P
goal_of_pi [] P = refl
goal_of_pi (A ∷ E) P = goal_of_pi E (pi A P)

past_is : (A : LfType) (D : List LfType) (i : ℕ) → past (skeleton A) (beyond D i) ≡ beyond (arguments_over D A) i
past_is (pi A B) D i = past_is B (A ∷ D) i
past_is (atom a T) D i = refl

module _ (Σ : Signature) (ok : IsSignature Σ) (s : Store) (n d n' : ℕ) (p : PrunedType s.metavariables n d) (scoped : IsScoped s.metavariables n' s.bindings s.equations) (w : IsTypedStore Σ [] s) where
  abbrev Ψ : ℕ → Option LfType
  Ψ = s.metavariables

  abbrev A : LfType
  A = pi_over p.local (atom p.family p.indices)

  abbrev X : LfType
  X = pi_over p.kept_local (atom p.family p.kept_indices)

  abbrev Ψ' : ℕ → Option LfType
  Ψ' = set_at n' (Some X) Ψ

  abbrev s' : Store
  s' = pruned_store s n d p n'

  abbrev μ : ℕ → Skeleton
  μ = skeletons_of Ψ

  abbrev μ' : ℕ → Skeleton
  μ' = skeletons_of Ψ'

  abbrev U : (ℕ → Option Term) → Type 0
  U = IsFilling Σ [] s

  abbrev U' : (ℕ → Option Term) → Type 0
  U' = IsFilling Σ [] s'

  new : Ψ n' ≡ None
  new = scoped.fresh n' (omega arith)

  not_new : (m : ℕ) (B : LfType) → Ψ m ≡ Some B → m ≡ n' → ⊥
  not_new m B e q = (let z : Some B ≡ None = sym e ∙ ap Ψ q ∙ new in cc)

  grows : (m : ℕ) (B : LfType) → Ψ m ≡ Some B → Ψ' m ≡ Some B
  grows m B e = set_other n' (Some X) Ψ m (not_new m B e) ∙ e

  same : (m : ℕ) → Declares Ψ m → μ' m ≡ μ m
  same m (B, e) = ap skeleton_or_default (grows m B e ∙ sym e)

  -- a filling of the new store, without the new metavariable, is one of the old store
  old_values : (F : List LfType) (β : ℕ → Option Term) → ((m : ℕ) → ValueBySkeletons Σ F μ' (Ψ' m) (β m)) → ((m : ℕ) → ValueIsPlain (β m)) → (m : ℕ) → ValueBySkeletons Σ F μ (Ψ m) (restrict Ψ β m)
  old_values F β h k m = go (Ψ m) refl
    where
      at : (B : LfType) (t : Option LfType) (y : Option Term) → t ≡ Some B → ValueIsPlain y → ValueBySkeletons Σ F μ' t y → ValueBySkeletons Σ F μ (Some B) y
      at B None y e q v = cc
      at B (Some C) None e q v = absurd v
      at B (Some C) (Some N) e q v = let z : C ≡ B = cc in TermSkeleton-agree (λ k. ⊥) μ' μ (λ k x. absurd x) (λ c. type_skeleton (Σ.types c)) (context_skeletons F) N (skeleton B) q (subst (λ Z. TermSkeleton (as_head_skeletons (total_skeletons Σ μ')) (context_skeletons F) N (skeleton Z)) z v)

      go : (x : Option LfType) → Ψ m ≡ x → ValueBySkeletons Σ F μ x (only_if x (β m))
      go None e = tt
      go (Some B) e = at B (Ψ' m) (β m) (grows m B e) (k m) (h m)

  restricted : (F : List LfType) (β : ℕ → Option Term) → PartialInstance Σ [] Ψ' (λ m. ⊥) F β → PartialInstance Σ [] Ψ (λ m. ⊥) F (restrict Ψ β)
  restricted F β v = record {
    context = λ i B g. TypeBySkeletons-agree (λ k. ⊥) μ' μ (λ k x. absurd x) (λ c. type_skeleton (Σ.types c)) (family_skeletons Σ) (context_skeletons F) B (v.plain_context i B g) (v.context i B g);
    outer = λ i B g. absurd g;
    by_skeletons = old_values F β v.by_skeletons v.plain_values;
    typed = λ m x. absurd x;
    plain_context = v.plain_context;
    plain_values = λ m. only (Ψ m) (β m) (v.plain_values m);
  }
    where
      only : (x : Option LfType) (y : Option Term) → ValueIsPlain y → ValueIsPlain (only_if x y)
      only None y q = tt
      only (Some B) y q = q

  kept_values : (β : ℕ → Option Term) (m : ℕ) → Declares Ψ m → β m ≡ restrict Ψ β m
  kept_values β m (B, e) = restrict_same Ψ β m B e

  pub pruned_fewer : (β : ℕ → Option Term) → U' β → U (restrict Ψ β)
  pruned_fewer β (F, v, (r, q)) = (
    F,
    restricted F β v,
    (
      respects_agree (Declares Ψ) μ' μ same β (restrict Ψ β) (kept_values β) s.bindings scoped.bindings r.1,
      solves_agree (Declares Ψ) μ' μ same β (restrict Ψ β) (kept_values β) s.equations scoped.equations q,
    ),
  )

  part : (β' : ℕ → Option Term) → U' β' → (β : ℕ → Option Term) × U β × ((m : ℕ) → Declares Ψ m → β m ≡ β' m)
  part β' u = (restrict Ψ β', pruned_fewer β' u, λ m e. sym (kept_values β' m e))

  term_grows : (D : List LfType) (M : Term) (B : LfType) → MetavariablesInLocals (Declares Ψ) D → MetavariablesInType (Declares Ψ) B → OpenHasType Σ [] Ψ U D M B → OpenHasType Σ [] Ψ' U' D M B
  term_grows = OpenHasType-grow Σ ok [] Ψ Ψ' U U' grows part (λ i B g. absurd g) scoped.types

  type_grows : (D : List LfType) (B : LfType) → MetavariablesInLocals (Declares Ψ) D → MetavariablesInType (Declares Ψ) B → OpenIsType Σ [] Ψ U D B → OpenIsType Σ [] Ψ' U' D B
  type_grows = OpenIsType-grow Σ ok [] Ψ Ψ' U U' grows part (λ i B g. absurd g) scoped.types

  -- the new type
  new_in : MetavariablesInType (Declares Ψ) X
  new_in = in_pruned (Declares Ψ) Ψ n d p (scoped.types n A p.declared)

  pub new_typed : OpenIsType Σ [] Ψ' U' [] X
  new_typed = type_grows [] X tt new_in (new_type_typed Σ ok Ψ U w.declarations_typed (fillings_half Σ [] s) n d p)

  -- the new binding
  abbrev pub V : Term
  V = lambdas_of (skeleton A) (root (metavariable n') (pattern (skeleton X) p.kept))

  at_new : Ψ' n' ≡ Some X
  at_new = set_here n' (Some X) Ψ

  pub value_typed : OpenHasType Σ [] Ψ' U' [] V A
  value_typed = pruned_typed Σ ok [] Ψ' U' A X n' p.kept [] at_new (open_skeletons_type Σ μ' ok Ψ' U' [] [] X new_typed)
      (subst (λ Γ. PatternFits Γ (skeleton X) p.kept) (sym (local_skeleton_arguments [] A [])) (p.places []))
      (λ i Y g. subst (λ ρ. TypeAt (onto (arguments_over [] A) []) (ρ i) (rename_type ρ Y)) same_renaming (subst (λ D. TypeAt (onto D []) (kept_renaming A X p.kept i) (rename_type (kept_renaming A X p.kept) Y)) (sym local_is) (p.part.types i Y (subst (λ D. TypeAt (onto D []) i Y) kept_is g))))
      (subst (λ ρ. rename_type ρ (goal_of X) ≡ goal_of A) same_renaming (ap (rename_type (kept_renaming A X p.kept)) (goal_of_pi p.kept_local (atom p.family p.kept_indices)) ∙ sym p.same_target ∙ sym (goal_of_pi p.local (atom p.family p.indices))))
    where
      same_renaming : kept_renaming A X p.kept ≡ pattern_renaming (skeleton X) p.kept (beyond (arguments_over [] A))
      same_renaming = ap (pattern_renaming (skeleton X) p.kept) (fun_ext (past_is A []))

      local_is : arguments_over [] A ≡ p.local
      local_is = arguments_of_pi [] p.local (atom p.family p.indices) ∙ onto_empty p.local

      kept_is : arguments_over [] X ≡ p.kept_local
      kept_is = arguments_of_pi [] p.kept_local (atom p.family p.kept_indices) ∙ onto_empty p.kept_local

  bindings_grow : (bs : List Binding) → BindingsAreTyped Σ [] Ψ U bs → BindingsAreTyped Σ [] Ψ' U' bs
  bindings_grow [] v = tt
  bindings_grow (b ∷ bs) ((B, e, t), v) = ((B, grows b.of B e, term_grows [] b.value B tt (scoped.types b.of B e) t), bindings_grow bs v)

  old_type_skeletons : (D : List LfType) (B : LfType) → MetavariablesInType (Declares Ψ) B → TypeBySkeletonsUpTo Σ [] Ψ U D B → TypeBySkeletonsUpTo Σ [] Ψ' U' D B
  old_type_skeletons D B i t F β v u = TypeBySkeletons-agree (Declares Ψ) μ μ' (λ m e. sym (same m e)) (λ c. type_skeleton (Σ.types c)) (family_skeletons Σ) (local_skeletons D (context_skeletons F)) B i (t F (restrict Ψ β) (restricted F β v) (pruned_fewer β u))

  old_locals : (D : List LfType) → MetavariablesInLocals (Declares Ψ) D → LocalBySkeletonsUpTo Σ [] Ψ U D → LocalBySkeletonsUpTo Σ [] Ψ' U' D
  old_locals [] i l = tt
  old_locals (B ∷ D) (i, j) (l, t) = (old_locals D i l, old_type_skeletons D B j t)

  equations_grow : (es : List Equation) → MetavariablesInEquationTypes (Declares Ψ) es → EquationsAreTyped Σ [] Ψ U es → EquationsAreTyped Σ [] Ψ' U' es
  equations_grow [] i v = tt
  equations_grow (e ∷ es) (i, j, k) (v, vs) = (
    record {
      local_typed = old_locals e.local i v.local_typed;
      type_typed = old_type_skeletons e.local e.of_type j v.type_typed;
      left_typed = term_grows e.local e.left e.of_type i j v.left_typed;
      right_typed = term_grows e.local e.right e.of_type i j v.right_typed;
    },
    equations_grow es k vs,
  )

  declared_grows : (m : ℕ) (B : LfType) → Ψ' m ≡ Some B → OpenIsType Σ [] Ψ' U' [] B
  declared_grows m B e = go (decide m n')
    where
      go : (m ≡ n') ⊎ (m ≡ n' → ⊥) → OpenIsType Σ [] Ψ' U' [] B
      go (inl q) = (let z : Some B ≡ Some X = sym e ∙ ap Ψ' q ∙ at_new in let y : X ≡ B = cc in subst (OpenIsType Σ [] Ψ' U' []) y new_typed)
      go (inr q) = let f : Ψ m ≡ Some B = sym (set_other n' (Some X) Ψ m q) ∙ e in type_grows [] B tt (scoped.types m B f) (w.declarations_typed.metavariables_typed m B f)

  -- THE theorem on the typing of a pruning
  pub prune_keeps_typing : IsTypedStore Σ [] s'
  prune_keeps_typing = record {
    declarations_typed = record { outer_typed = λ i B g. absurd g; metavariables_typed = declared_grows };
    bindings_typed = ((A, grows n A p.declared, value_typed), bindings_grow s.bindings w.bindings_typed);
    equations_typed = equations_grow s.equations scoped.equation_types w.equations_typed;
  }

  -- the order of dependency
  order_grows : (is : List ListedMetavariable) → IsDependencyOrder Σ Ψ U is → IsDependencyOrder Σ Ψ' U' is
  order_grows [] o = tt
  order_grows (it ∷ is) (o, e, out, i, t, c, v) = (order_grows is o, grows it.of it.of_type e, out, i, type_grows [] it.of_type tt (scoped.types it.of it.of_type e) t, c, value it.value v)
    where
      value : (x : Option Term) → ValueIsOrdered Σ Ψ U is it.of_type x → ValueIsOrdered Σ Ψ' U' is it.of_type x
      value None v = tt
      value (Some N) (j, u, k) = (j, term_grows [] N it.of_type tt (scoped.types it.of it.of_type e) u, k)

-- where items stand after the insertion
pub member_insert : (n : ℕ) (new : ListedMetavariable) (is : List ListedMetavariable) (it : ListedMetavariable) → Member it is → Member it (insert n new is)
member_insert n new [] it i = i
member_insert n new (x ∷ is) it i = go (same_number n x.of) i (member_insert n new is it)
  where
    go : (b : Bool) → Member it (x ∷ is) → (Member it is → Member it (insert n new is)) → Member it (put_behind b new x is (insert n new is))
    go true (inl e) h = inl e
    go true (inr j) h = inr (inr j)
    go false (inl e) h = inl e
    go false (inr j) h = inr (h j)

pub insert_new : (n : ℕ) (new : ListedMetavariable) (is : List ListedMetavariable) → IsListed is n → IsListed (insert n new is) new.of
insert_new n new [] l = absurd l
insert_new n new (x ∷ is) l = go (same_number n x.of) refl l (insert_new n new is)
  where
    go : (b : Bool) → same_number n x.of ≡ b → IsListed (x ∷ is) n → (IsListed is n → IsListed (insert n new is) new.of) → IsListed (put_behind b new x is (insert n new is)) new.of
    go true q l h = inr (inl refl)
    go false q (inl e) h = (let p : true ≡ false = sym (number_itself n) ∙ ap (same_number n) e ∙ q in cc)
    go false q (inr l) h = inr (h l)

pub values_insert : (bs : List Binding) (n n' : ℕ) (X : LfType) (is : List ListedMetavariable) → ValuesAreBindings bs is → ValuesAreBindings bs (insert n (record { of = n'; of_type = X; value = None }) is)
values_insert bs n n' X [] v = tt
values_insert bs n n' X (x ∷ is) (u, v) = go (same_number n x.of) (values_insert bs n n' X is v)
  where
    none : (N : Term) → None ≡ Some N → Member (record { of = n'; value = N }) bs
    none N e = cc

    go : (b : Bool) → ValuesAreBindings bs (insert n (record { of = n'; of_type = X; value = None }) is) → ValuesAreBindings bs (put_behind b (record { of = n'; of_type = X; value = None }) x is (insert n (record { of = n'; of_type = X; value = None }) is))
    go true h = (u, (none, v))
    go false h = (u, h)

module _ (Σ : Signature) (ok : IsSignature Σ) (s : Store) (n d n' : ℕ) (p : PrunedType s.metavariables n d) (scoped : IsScoped s.metavariables n' s.bindings s.equations) (w : IsWellFormed Σ s) (free : Unbound s.bindings n) where
  abbrev Ψ₀ : ℕ → Option LfType
  Ψ₀ = s.metavariables

  abbrev A₀ : LfType
  A₀ = pi_over p.local (atom p.family p.indices)

  abbrev X₀ : LfType
  X₀ = pi_over p.kept_local (atom p.family p.kept_indices)

  abbrev V₀ : Term
  V₀ = V Σ ok s n d n' p scoped w.typed

  abbrev new_item : ListedMetavariable
  new_item = record { of = n'; of_type = pi_over p.kept_local (atom p.family p.kept_indices); value = None }

  abbrev U₁ : (ℕ → Option Term) → Type 0
  U₁ = IsFilling Σ [] (pruned_store s n d p n')

  abbrev Ψ₁ : ℕ → Option LfType
  Ψ₁ = set_at n' (Some (pi_over p.kept_local (atom p.family p.kept_indices))) s.metavariables

  is_new : Ψ₀ n' ≡ None
  is_new = scoped.fresh n' (omega arith)

  apart : n ≡ n' → ⊥
  apart e = (let q : Some A₀ ≡ None = sym p.declared ∙ ap Ψ₀ e ∙ is_new in cc)

  mentions_new : (W : ℕ → Type 0) → W n' → MetavariablesIn W V₀
  mentions_new W v = in_lambdas W (skeleton A₀) (root (metavariable n') (pattern (skeleton X₀) p.kept)) (v, in_pattern W (skeleton X₀) p.kept)

  type_behind : (is : List ListedMetavariable) → IsDependencyOrder Σ Ψ₀ (IsFilling Σ [] s) is → TypeBehind n X₀ is
  type_behind [] o = tt
  type_behind (it ∷ is) o = (
    (λ e. in_pruned (IsListed is) Ψ₀ n d p (subst (MetavariablesInType (IsListed is)) (let q : Some it.of_type ≡ Some A₀ = sym o.1 ∙ ap Ψ₀ (sym e) ∙ p.declared in let r : it.of_type ≡ A₀ = cc in r) o.3)),
    type_behind is o.0,
  )

  none_behind : (is : List ListedMetavariable) → (IsListed is n → ⊥) → Behind n V₀ is
  none_behind [] h = tt
  none_behind (it ∷ is) h = ((λ e. absurd (h (inl e))), none_behind is (λ l. h (inr l)))

  value_behind : (is : List ListedMetavariable) → IsDependencyOrder Σ Ψ₀ (IsFilling Σ [] s) is → Behind n V₀ (insert n new_item is)
  value_behind [] o = tt
  value_behind (it ∷ is) o = go (same_number n it.of) refl (value_behind is o.0)
    where
      go : (b : Bool) → same_number n it.of ≡ b → Behind n V₀ (insert n new_item is) → Behind n V₀ (put_behind b new_item it is (insert n new_item is))
      go true q h = ((λ e. mentions_new (IsListed (new_item ∷ is)) (inl refl)), ((λ e. absurd (apart e)), none_behind is (λ l. o.2 (subst (IsListed is) (number_is n it.of q) l))))
      go false q h = ((λ e. (let r : true ≡ false = sym (number_itself n) ∙ ap (same_number n) e ∙ q in cc)), h)

  inserted : IsDependencyOrder Σ Ψ₁ U₁ (insert n new_item w.order)
  inserted = insert_ordered Σ Ψ₁ U₁ n n' X₀ (set_here n' (Some X₀) Ψ₀) (new_typed Σ ok s n d n' p scoped w.typed)
      (λ ρ. closed_type Σ Ψ₁ U₁ [] ρ (λ i X g. absurd g) X₀ (new_typed Σ ok s n d n' p scoped w.typed)) w.order
      (λ l. let r = ordered_at Σ (skeletons_of Ψ₀) ok Ψ₀ (IsFilling Σ [] s) w.order w.is_order n' l in (let q : Some r.0 ≡ None = sym r.1 ∙ is_new in cc))
      (order_grows Σ ok s n d n' p scoped w.typed w.order w.is_order) (type_behind w.order w.is_order)

  moved_bindings : (bs : List Binding) → Unbound bs n → BindingsAreListed w.order bs → BindingsAreListed (bound n V₀ (insert n new_item w.order)) bs
  moved_bindings [] u l = tt
  moved_bindings (b ∷ bs) (h, u) ((B, i), l) = (
    (B, member_bound n V₀ (insert n new_item w.order) (record { of = b.of; of_type = B; value = Some b.value }) (member_insert n new_item w.order (record { of = b.of; of_type = B; value = Some b.value }) i) h),
    moved_bindings bs u l,
  )

  -- THE theorem: a pruning keeps a store well formed
  pub prune_keeps_form : IsWellFormed Σ (pruned_store s n d p n')
  prune_keeps_form = record {
    order = bound n V₀ (insert n new_item w.order);
    is_order = bound_ordered Σ Ψ₁ U₁ n A₀ V₀ (grown n A₀ p.declared) typed (λ ρ. closed_term Σ Ψ₁ U₁ [] ρ (λ i X g. absurd g) V₀ A₀ typed) (insert n new_item w.order) inserted (value_behind w.order w.is_order);
    all_listed = λ m B e. bound_listed n V₀ (insert n new_item w.order) m (listed m B e (decide m n'));
    bindings_listed = (bound_here n V₀ (insert n new_item w.order) (insert_listed n new_item w.order n (w.all_listed n A₀ p.declared)), moved_bindings s.bindings free w.bindings_listed);
    values_bound = values_of_bound s.bindings n V₀ (insert n new_item w.order) (values_insert s.bindings n n' X₀ w.order w.values_bound);
    typed = prune_keeps_typing Σ ok s n d n' p scoped w.typed;
  }
    where
      grown : (m : ℕ) (B : LfType) → Ψ₀ m ≡ Some B → Ψ₁ m ≡ Some B
      grown m B e = set_other n' (Some X₀) Ψ₀ m (λ q. (let z : Some B ≡ None = sym e ∙ ap Ψ₀ q ∙ is_new in cc)) ∙ e

      typed : OpenHasType Σ [] Ψ₁ U₁ [] V₀ A₀
      typed = value_typed Σ ok s n d n' p scoped w.typed

      listed : (m : ℕ) (B : LfType) → Ψ₁ m ≡ Some B → (m ≡ n') ⊎ (m ≡ n' → ⊥) → IsListed (insert n new_item w.order) m
      listed m B e (inl q) = subst (IsListed (insert n new_item w.order)) (sym q) (insert_new n new_item w.order (w.all_listed n A₀ p.declared))
      listed m B e (inr q) = insert_listed n new_item w.order m (w.all_listed m B (sym (set_other n' (Some X₀) Ψ₀ m q) ∙ e))
