-- Typing up to the fillings of a store whose metavariables are the variables of a context.
use Rattle.std.proofs.Common.{◌≡◌, ℕ, zero, suc, ◌+◌, List, [], ◌∷◌, length, refl, sym, ap, ap₂, ◌∙◌, subst}
use Rattle.std.specs.Prelude.{Option, Some, None}
use Rattle.lf.specs.Syntax.{Term, Spine, nil, app, LfType, Kind, kind_pi, star, Skeleton, base, arrow, skeleton, kind_skeleton, rename_type, lift_renaming}
use Rattle.lf.specs.Substitution.{Image, single, substitute, substitute_spine, substitute_type, substitute_kind, after, lift, reduce}
use Rattle.lf.specs.SkeletonTyping.{TermSkeleton, SpineSkeleton, TypeBySkeletons, KindBySkeletons, SubstitutionBySkeletons}
use Rattle.lf.specs.Skeletons.{constant_skeletons, family_skeletons, context_skeletons}
use Rattle.lf.specs.AtOnce.{shift_by, lift_renaming_by}
use Rattle.lf.specs.Typing.{Signature, HasType, SpineFitsKind, IsContext, IsSignature, IsTypedRenaming, instantiate_kind}
use Rattle.lf.specs.Variables.{onto}
use Rattle.lf.specs.Worlds.{lift_over, instance}
use Rattle.lf.proofs.SkeletonTypes.{substitute_single_kind, single_kind_by_skeletons, substitution_keeps_types_by_skeletons}
use Rattle.lf.proofs.ToSkeletons.{typed_has_skeleton, type_by_skeletons, kind_skeleton_substituted}
use Rattle.lf.proofs.TypeLaws.{skeleton_renamed, skeleton_substituted}
use Rattle.lf.proofs.Weakening.{renaming_keeps_types}
use Rattle.lf_unification.specs.Filling.{fill, fill_type}
use Rattle.lf_unification.specs.OpenTyping.{OpenHasType, OpenIsContext, TypesAgree, skeletons_of}
use Rattle.lf_unification.specs.PartialInstance.{EquationsAreTyped, LocalBySkeletonsUpTo, PartialInstance}
use Rattle.lf_unification.specs.Patterns.{local_skeletons}
use Rattle.lf_unification.specs.Skeletons.{as_head_skeletons, total_skeletons}
use Rattle.lf_unification.specs.Unifiers.{SolvesAll}
use Rattle.lf_unification.proofs.Decompose.{known_id}
use Rattle.lf_unification.proofs.Eta.{rename_id, rename_id_type}
use Rattle.lf_unification.proofs.Fillings.{LocalBySkeletonsUpTo-of}
use Rattle.lf_unification.proofs.Indices.{skeletons_U, metavariables_skeletons}
use Rattle.lf_unification.proofs.OpenRenamingBack.{SkeletonsUpTo, AllSkeletonsUpTo, Known, Known-lift_renaming, OpenHasType-unrename}
use Rattle.lf_checks.proofs.Determined.{app_first, app_rest}
use Rattle.lf_cases.specs.OutputGoal.{renumber}
use Rattle.lf_cases.proofs.OutputItems.{lifted, length_renumber, length_instance, lift_renumber}
use Rattle.lf_coverage.specs.TypedCase.{TypedArguments}
use Rattle.lf_coverage.specs.MeetStore.{open_arguments, place_equations}
use Rattle.lf_coverage.specs.SplitStore.{open_term, open_spine, open_type, open_locals, context_metavariables}
use Rattle.lf_coverage.proofs.ContextStore.{context_declared}
use Rattle.lf_coverage.proofs.GivenValues.{local_renames, local_context, type_put}
use Rattle.lf_coverage.proofs.Meeting.{open_length, under_same}
use Rattle.lf_coverage.proofs.OpenSkeletons.{filled_values, filled_fits, filled_term, filled_type, fits_under, type_by_opened}
use Rattle.lf_coverage.proofs.OpenTyped.{open_kind, open_instance_kind, term_opened, type_opened}
use Rattle.lf_coverage.proofs.Parts.{first_same, second_same}
use Rattle.lf_coverage.proofs.StoreSolution.{skeleton_open}
use Rattle.lf_coverage.proofs.Transfer.{lift_instance}
use mathlib.Core.Path.{fun_ext}

-- parts of what is equal
first_kind : {A B : LfType} {K L : Kind} → kind_pi A K ≡ kind_pi B L → A ≡ B
first_kind e = cc

second_kind : {A B : LfType} {K L : Kind} → kind_pi A K ≡ kind_pi B L → K ≡ L
second_kind e = cc

-- Typing up to the fillings of a store whose metavariables are the variables of a context.
module _ (Σ : Signature) (ok : IsSignature Σ) (X : List LfType) (cx : IsContext Σ X) (U : (ℕ → Option Term) → Type 0) (half : (β : ℕ → Option Term) → U β → (F : List LfType) × PartialInstance Σ [] (context_metavariables X) (λ m. ⊥) F β) where
  abbrev pub Ψ : ℕ → Option LfType
  Ψ = context_metavariables X

  abbrev pub skU : (β : ℕ → Option Term) → U β → SkeletonsUpTo Σ ok [] (context_metavariables X) U β
  skU = skeletons_U Σ ok [] (context_metavariables X) U (context_declared Σ ok X cx U) half [] tt

  abbrev pub MS : (D : List LfType) (m : ℕ) (B : LfType) → context_metavariables X m ≡ Some B → AllSkeletonsUpTo Σ ok [] (context_metavariables X) U skU D (Rattle.lf_unification.specs.OpenTyping.weaken_past D B)
  MS = metavariables_skeletons Σ ok [] (context_metavariables X) U (context_declared Σ ok X cx U) half [] tt

  abbrev pub values : (β : ℕ → Option Term) → U β → ℕ → Image
  values β u = filled_values Σ X (half β u).0 β (half β u).1

  pub ok_opened : (L : List LfType) (A : LfType) → TypeBySkeletons (family_skeletons Σ) (constant_skeletons Σ) (context_skeletons (onto L X)) A → AllSkeletonsUpTo Σ ok [] Ψ U skU (open_locals L) (open_type (length L) A)
  ok_opened L A k β u = type_by_opened Σ X L (context_skeletons (half β u).0) A k

  -- the same values put in make the same fillings
  pub same_opened : (L M N : List LfType) → length L ≡ length M → length N ≡ length M → (A B : LfType) → TypeBySkeletons (family_skeletons Σ) (constant_skeletons Σ) (context_skeletons (onto L X)) A → TypeBySkeletons (family_skeletons Σ) (constant_skeletons Σ) (context_skeletons (onto M X)) B → skeleton A ≡ skeleton B → ((β : ℕ → Option Term) (u : U β) → substitute_type reduce (lift_over L (values β u)) A ≡ substitute_type reduce (lift_over M (values β u)) B) → TypesAgree Σ [] Ψ U N (open_type (length L) A) (open_type (length M) B)
  same_opened L M N l n A B a b s h = (
    skeleton_open (length L) A ∙ s ∙ sym (skeleton_open (length M) B),
    λ β u.
        ap (λ f. fill_type (skeletons_of Ψ) f (open_type (length L) A)) (under_same β N L (n ∙ sym l))
        ∙ filled_type Σ X (half β u).0 β (half β u).1 L A a
        ∙ h β u
        ∙ sym (filled_type Σ X (half β u).0 β (half β u).1 M B b)
        ∙ ap (λ f. fill_type (skeletons_of Ψ) f (open_type (length M) B)) (under_same β M N (sym n)),
  )

  -- Local contexts: that of a pattern, moved past the items, and the same with values put in.
  module _ (Q : List LfType) (n : ℕ) (g : ℕ → Image) (fg : SubstitutionBySkeletons (constant_skeletons Σ) (context_skeletons Q) (context_skeletons X) g) (far : IsTypedRenaming Q X (shift_by n)) (same : (β : ℕ → Option Term) (u : U β) (i : ℕ) → after (values β u) g i ≡ values β u (i + n)) where
    lengths : (D : List LfType) → length (renumber (shift_by n) D) ≡ length (instance D g)
    lengths D = length_renumber (shift_by n) D ∙ sym (length_instance D g)

    locals_alike : (D : List LfType) (Δ : List Skeleton) → local_skeletons (open_locals (renumber (shift_by n) D)) Δ ≡ local_skeletons (open_locals (instance D g)) Δ
    locals_alike [] Δ = refl
    locals_alike (A ∷ D) Δ = ap₂ ◌∷◌ (skeleton_open (length (renumber (shift_by n) D)) (rename_type (lift_renaming_by (length D) (shift_by n)) A) ∙ skeleton_renamed (lift_renaming_by (length D) (shift_by n)) A ∙ sym (skeleton_substituted reduce (lift_over D g) A) ∙ sym (skeleton_open (length (instance D g)) (substitute_type reduce (lift_over D g) A))) (locals_alike D Δ)

    values_put : (D : List LfType) (A : LfType) → TypeBySkeletons (family_skeletons Σ) (constant_skeletons Σ) (context_skeletons (onto D Q)) A → (β : ℕ → Option Term) (u : U β) → substitute_type reduce (lift_over (renumber (shift_by n) D) (values β u)) (rename_type (lift_renaming_by (length D) (shift_by n)) A) ≡ substitute_type reduce (lift_over (instance D g) (values β u)) (substitute_type reduce (lift_over D g) A)
    values_put D A k β u =
        ap (λ f. substitute_type reduce f (rename_type (lift_renaming_by (length D) (shift_by n)) A)) (lift_renumber (shift_by n) D (values β u))
        ∙ sym (type_put Σ X Q (half β u).0 g (values β u) n fg (filled_fits Σ X (half β u).0 β (half β u).1) (same β u) D A k)
        ∙ ap (λ f. substitute_type reduce f (substitute_type reduce (lift_over D g) A)) (sym (lift_instance D g (values β u)))

    locals_known : (D : List LfType) → IsContext Σ (onto D Q) → Known Σ ok [] Ψ U skU (open_locals (renumber (shift_by n) D)) (open_locals (instance D g)) (λ i. i)
    locals_known [] c = known_id Σ ok [] Ψ U skU MS [] (λ i Y h. absurd h)
    locals_known (A ∷ D) (c, t) =
        let ρ : ℕ → ℕ = shift_by n in
        let L1 : List LfType = renumber ρ D in
        let L2 : List LfType = instance D g in
        let A1 : LfType = rename_type (lift_renaming_by (length D) ρ) A in
        let A2 : LfType = substitute_type reduce (lift_over D g) A in
        let k : TypeBySkeletons (family_skeletons Σ) (constant_skeletons Σ) (context_skeletons (onto D Q)) A = type_by_skeletons Σ (onto D Q) A t in
        let k1 : TypeBySkeletons (family_skeletons Σ) (constant_skeletons Σ) (context_skeletons (onto L1 X)) A1 = type_by_skeletons Σ (onto L1 X) A1 (renaming_keeps_types Σ ok (onto D Q) (onto L1 X) (lift_renaming_by (length D) ρ) A (local_renames Σ ok D Q X ρ far) t) in
        let k2 : TypeBySkeletons (family_skeletons Σ) (constant_skeletons Σ) (context_skeletons (onto L2 X)) A2 = substitution_keeps_types_by_skeletons (family_skeletons Σ) (constant_skeletons Σ) (context_skeletons (onto D Q)) (context_skeletons (onto L2 X)) (lift_over D g) A (lifted Σ D Q X g fg) k in
        let s : TypesAgree Σ [] Ψ U (open_locals L2) (open_type (length L1) A1) (open_type (length L2) A2) = same_opened L1 L2 (open_locals L2) (lengths D) (open_length L2) A1 A2 k1 k2 (skeleton_renamed (lift_renaming_by (length D) ρ) A ∙ sym (skeleton_substituted reduce (lift_over D g) A)) (values_put D A k) in
        let a1 : AllSkeletonsUpTo Σ ok [] Ψ U skU (open_locals L2) (open_type (length L1) A1) = λ β u. subst (λ Γ. TypeBySkeletons (family_skeletons Σ) (as_head_skeletons (total_skeletons Σ (skeletons_of Ψ))) Γ (open_type (length L1) A1)) (locals_alike D (context_skeletons (half β u).0)) (ok_opened L1 A1 k1 β u) in
        let i : rename_type (λ j. j) (open_type (length L1) A1) ≡ open_type (length L1) A1 = rename_id_type (open_type (length L1) A1) in
        subst (Known Σ ok [] Ψ U skU (open_locals (renumber ρ (A ∷ D))) (open_locals (instance (A ∷ D) g))) (fun_ext up) (Known-lift_renaming Σ ok [] Ψ U skU (open_locals L1) (open_locals L2) (λ j. j) (open_type (length L1) A1) (open_type (length L2) A2) (locals_known D c) (subst (λ Z. TypesAgree Σ [] Ψ U (open_locals L2) Z (open_type (length L2) A2)) (sym i) s) (subst (AllSkeletonsUpTo Σ ok [] Ψ U skU (open_locals L2)) (sym i) a1) (ok_opened L2 A2 k2))
      where
        up : (j : ℕ) → lift_renaming (λ k. k) j ≡ j
        up zero = refl
        up (suc j) = refl

    -- A term under the local context with values put in, of a type that agrees with one under the pattern's.
    module _ (D : List LfType) (c : IsContext Σ (onto D Q)) where
      abbrev L1 : List LfType
      L1 = renumber (shift_by n) D

      abbrev L2 : List LfType
      L2 = instance D g

      abbrev Γ1 : List Skeleton
      Γ1 = context_skeletons (onto (renumber (shift_by n) D) X)

      abbrev Γ2 : List Skeleton
      Γ2 = context_skeletons (onto (instance D g) X)

      abbrev σ1 : (β : ℕ → Option Term) → U β → ℕ → Image
      σ1 β u = lift_over (renumber (shift_by n) D) (values β u)

      abbrev σ2 : (β : ℕ → Option Term) → U β → ℕ → Image
      σ2 β u = lift_over (instance D g) (values β u)

      moved_typed : (M : Term) (A B : LfType) → HasType Σ (onto L2 X) M A → TypeBySkeletons (family_skeletons Σ) (constant_skeletons Σ) Γ2 A → TypeBySkeletons (family_skeletons Σ) (constant_skeletons Σ) Γ1 B → skeleton B ≡ skeleton A → ((β : ℕ → Option Term) (u : U β) → substitute_type reduce (σ1 β u) B ≡ substitute_type reduce (σ2 β u) A) → OpenHasType Σ [] Ψ U (open_locals L1) (open_term (length L1) M) (open_type (length L1) B)
      moved_typed M A B m a b s h =
          let E1 : List LfType = open_locals L1 in
          let E2 : List LfType = open_locals L2 in
          let B' : LfType = open_type (length L1) B in
          let A' : LfType = open_type (length L2) A in
          let b' : AllSkeletonsUpTo Σ ok [] Ψ U skU E2 B' = λ β u. subst (λ Γ. TypeBySkeletons (family_skeletons Σ) (as_head_skeletons (total_skeletons Σ (skeletons_of Ψ))) Γ B') (locals_alike D (context_skeletons (half β u).0)) (ok_opened L1 B b β u) in
          let t : TypesAgree Σ [] Ψ U E2 B' A' = same_opened L1 L2 E2 (lengths D) (open_length L2) B A b a s h in
          let m' : OpenHasType Σ [] Ψ U E2 (open_term (length L1) M) A' = subst (λ k. OpenHasType Σ [] Ψ U E2 (open_term k M) A') (sym (lengths D)) (term_opened Σ ok X U L2 M A m) in
          OpenHasType-unrename Σ ok [] Ψ U skU MS E1 E2 (λ i. i) (open_term (length L1) M) B' A' (locals_known D c) (subst (AllSkeletonsUpTo Σ ok [] Ψ U skU E2) (sym (rename_id_type B')) b') (ok_opened L2 A a) (subst (λ Z. TypesAgree Σ [] Ψ U E2 Z A') (sym (rename_id_type B')) t) (subst (λ N. OpenHasType Σ [] Ψ U E2 N A') (sym (rename_id (open_term (length L1) M))) m')

      local_ok : LocalBySkeletonsUpTo Σ [] Ψ U (open_locals L1)
      local_ok = LocalBySkeletonsUpTo-of Σ ok [] Ψ U (open_locals L1) (opened (renumber (shift_by n) D) (local_context Σ ok D Q X (shift_by n) far c cx))
        where
          opened : (L : List LfType) → IsContext Σ (onto L X) → OpenIsContext Σ [] Ψ U (open_locals L)
          opened [] d = tt
          opened (A ∷ L) (d, t) = (opened L d, type_opened Σ ok X U L A t)

      next_skeletons : (AL AP : LfType) (M R : Term) (KL KP : Kind) → arrow (skeleton AL) (kind_skeleton 0 KL) ≡ arrow (skeleton AP) (kind_skeleton 0 KP) → kind_skeleton 0 (instantiate_kind AL M KL) ≡ kind_skeleton 0 (instantiate_kind AP R KP)
      next_skeletons AL AP M R KL KP e = kind_skeleton_substituted 0 reduce (single (skeleton AL) M) KL ∙ second_same e ∙ sym (kind_skeleton_substituted 0 reduce (single (skeleton AP) R) KP)

      next_agree : (AL AP : LfType) (M R : Term) (KL KP : Kind) → KindBySkeletons (family_skeletons Σ) (constant_skeletons Σ) (skeleton AL ∷ Γ2) KL → KindBySkeletons (family_skeletons Σ) (constant_skeletons Σ) (skeleton AP ∷ Γ1) KP → TermSkeleton (constant_skeletons Σ) Γ2 M (skeleton AL) → TermSkeleton (constant_skeletons Σ) Γ1 R (skeleton AP) → skeleton AL ≡ skeleton AP → ((β : ℕ → Option Term) (u : U β) → substitute_kind reduce (σ2 β u) (kind_pi AL KL) ≡ substitute_kind reduce (σ1 β u) (kind_pi AP KP)) → ((β : ℕ → Option Term) (u : U β) → substitute reduce (σ2 β u) M ≡ substitute reduce (σ1 β u) R) → (β : ℕ → Option Term) (u : U β) → substitute_kind reduce (σ2 β u) (instantiate_kind AL M KL) ≡ substitute_kind reduce (σ1 β u) (instantiate_kind AP R KP)
      next_agree AL AP M R KL KP kl kp mk rk s ag terms β u =
          substitute_single_kind (family_skeletons Σ) (constant_skeletons Σ) Γ2 (context_skeletons (onto (instance L2 (values β u)) (half β u).0)) (σ2 β u) (skeleton AL) M KL (fits_under Σ X (half β u).0 β (half β u).1 L2) mk kl
          ∙ ap₂ (λ N K. substitute_kind reduce (single (skeleton AL) N) K) (terms β u) (second_kind (ag β u))
          ∙ ap (λ t. substitute_kind reduce (single t (substitute reduce (σ1 β u) R)) (substitute_kind reduce (lift (σ1 β u)) KP)) s
          ∙ sym (substitute_single_kind (family_skeletons Σ) (constant_skeletons Σ) Γ1 (context_skeletons (onto (instance L1 (values β u)) (half β u).0)) (σ1 β u) (skeleton AP) R KP (fits_under Σ X (half β u).0 β (half β u).1 L1) rk kp)

      -- the places, where KL has the arguments of the case put in, and KP those of the pattern
      pub places : (Ms : List (Option Term)) (Ts Ss : Spine) (KL KP : Kind) → KindBySkeletons (family_skeletons Σ) (constant_skeletons Σ) Γ2 KL → KindBySkeletons (family_skeletons Σ) (constant_skeletons Σ) Γ1 KP → kind_skeleton 0 KL ≡ kind_skeleton 0 KP → ((β : ℕ → Option Term) (u : U β) → substitute_kind reduce (σ2 β u) KL ≡ substitute_kind reduce (σ1 β u) KP) → SpineSkeleton (constant_skeletons Σ) Γ2 Ts (kind_skeleton 0 KL) (base 0) → ((β : ℕ → Option Term) (u : U β) → substitute_spine reduce (σ2 β u) Ts ≡ substitute_spine reduce (σ1 β u) Ss) → TypedArguments Σ (onto L2 X) Ms Ts KL → SpineFitsKind Σ (onto L1 X) Ss KP → ((β : ℕ → Option Term) → U β → SolvesAll (skeletons_of Ψ) β (place_equations (open_locals L1) (open_arguments (length L1) Ms) (open_spine (length L1) Ss) (open_kind (length L1) KP))) → EquationsAreTyped Σ [] Ψ U (place_equations (open_locals L1) (open_arguments (length L1) Ms) (open_spine (length L1) Ss) (open_kind (length L1) KP))
      places [] Ts Ss KL KP kl kp ks ag ts st a f h = tt
      places (Some M ∷ Ms) nil Ss KL KP kl kp ks ag ts st a f h = absurd a
      places (None ∷ Ms) nil Ss KL KP kl kp ks ag ts st a f h = absurd a
      places (Some M ∷ Ms) (app N Ts) Ss star KP kl kp ks ag ts st a f h = absurd a
      places (None ∷ Ms) (app N Ts) Ss star KP kl kp ks ag ts st a f h = absurd a
      places (Some M ∷ Ms) (app N Ts) nil (kind_pi AL KL) KP kl kp ks ag ts st a f h = tt
      places (None ∷ Ms) (app N Ts) nil (kind_pi AL KL) KP kl kp ks ag ts st a f h = tt
      places (Some M ∷ Ms) (app N Ts) (app R Ss) (kind_pi AL KL) star kl kp ks ag ts st a f h = tt
      places (None ∷ Ms) (app N Ts) (app R Ss) (kind_pi AL KL) star kl kp ks ag ts st a f h = tt
      places (Some M ∷ Ms) (app N Ts) (app R Ss) (kind_pi AL KL) (kind_pi AP KP) (al, kl) (ap', kp) ks ag (tn, ts) st (m, a) (r, f) h =
          let s : skeleton AL ≡ skeleton AP = first_same ks in
          let types : (β : ℕ → Option Term) (u : U β) → substitute_type reduce (σ1 β u) AP ≡ substitute_type reduce (σ2 β u) AL = λ β u. sym (first_kind (ag β u)) in
          let mk : TermSkeleton (constant_skeletons Σ) Γ2 M (skeleton AL) = typed_has_skeleton Σ (onto L2 X) M AL m in
          let rk : TermSkeleton (constant_skeletons Σ) Γ1 R (skeleton AP) = typed_has_skeleton Σ (onto L1 X) R AP r in
          let terms : (β : ℕ → Option Term) (u : U β) → substitute reduce (σ2 β u) M ≡ substitute reduce (σ1 β u) R = λ β u.
          sym (filled_term Σ X (half β u).0 β (half β u).1 L2 M (skeleton AL) mk)
          ∙ ap₂ (λ f k. fill (skeletons_of Ψ) f (open_term k M)) (under_same β L2 (open_locals L1) (sym (lengths D) ∙ sym (open_length L1))) (sym (lengths D))
          ∙ (h β u).0
          ∙ ap (λ f. fill (skeletons_of Ψ) f (open_term (length L1) R)) (under_same β (open_locals L1) L1 (open_length L1))
          ∙ filled_term Σ X (half β u).0 β (half β u).1 L1 R (skeleton AP) rk in (
            record { local_typed = local_ok; type_typed = λ F β w u. type_by_opened Σ X L1 (context_skeletons F) AP ap'; left_typed = moved_typed M AL AP m al ap' (sym s) types; right_typed = term_opened Σ ok X U L1 R AP r },
            subst (λ Z. EquationsAreTyped Σ [] Ψ U (place_equations (open_locals L1) (open_arguments (length L1) Ms) (open_spine (length L1) Ss) Z)) (open_instance_kind (length L1) AP R KP)
                (places Ms Ts Ss (instantiate_kind AL M KL) (instantiate_kind AP R KP) (single_kind_by_skeletons (family_skeletons Σ) (constant_skeletons Σ) (skeleton AL) Γ2 M KL mk kl) (single_kind_by_skeletons (family_skeletons Σ) (constant_skeletons Σ) (skeleton AP) Γ1 R KP rk kp) (next_skeletons AL AP M R KL KP ks) (next_agree AL AP M R KL KP kl kp mk rk s ag terms)
                (subst (λ t. SpineSkeleton (constant_skeletons Σ) Γ2 Ts t (base 0)) (sym (kind_skeleton_substituted 0 reduce (single (skeleton AL) M) KL)) ts) (λ β u. app_rest (st β u)) a f
                (λ β u. subst (λ Z. SolvesAll (skeletons_of Ψ) β (place_equations (open_locals L1) (open_arguments (length L1) Ms) (open_spine (length L1) Ss) Z)) (sym (open_instance_kind (length L1) AP R KP)) (h β u).1)),
          )
      places (None ∷ Ms) (app N Ts) (app R Ss) (kind_pi AL KL) (kind_pi AP KP) (al, kl) (ap', kp) ks ag (tn, ts) st a (r, f) h =
          let s : skeleton AL ≡ skeleton AP = first_same ks in
          let rk : TermSkeleton (constant_skeletons Σ) Γ1 R (skeleton AP) = typed_has_skeleton Σ (onto L1 X) R AP r in
          subst (λ Z. EquationsAreTyped Σ [] Ψ U (place_equations (open_locals L1) (open_arguments (length L1) Ms) (open_spine (length L1) Ss) Z)) (open_instance_kind (length L1) AP R KP)
          (places Ms Ts Ss (instantiate_kind AL N KL) (instantiate_kind AP R KP) (single_kind_by_skeletons (family_skeletons Σ) (constant_skeletons Σ) (skeleton AL) Γ2 N KL tn kl) (single_kind_by_skeletons (family_skeletons Σ) (constant_skeletons Σ) (skeleton AP) Γ1 R KP rk kp) (next_skeletons AL AP N R KL KP ks) (next_agree AL AP N R KL KP kl kp tn rk s ag (λ β u. app_first (st β u)))
          (subst (λ t. SpineSkeleton (constant_skeletons Σ) Γ2 Ts t (base 0)) (sym (kind_skeleton_substituted 0 reduce (single (skeleton AL) N) KL)) ts) (λ β u. app_rest (st β u)) a f
          (λ β u. subst (λ Z. SolvesAll (skeletons_of Ψ) β (place_equations (open_locals L1) (open_arguments (length L1) Ms) (open_spine (length L1) Ss) Z)) (sym (open_instance_kind (length L1) AP R KP)) (h β u)))
