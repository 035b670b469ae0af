-- A local context that is a sequence of instances of strict blocks is `Local`: what its types mention determines the `some` terms.
use Rattle.lf_checks.specs.Ground.{UsesGoal}
use Rattle.lf_checks.specs.Worlded.{IsSequence, IsStrictBlock, IsTerm, next_instance, no_instance, past_types}
use Rattle.lf.specs.SkeletonTyping.{HeadSkeletons, SkeletonAt, TermSkeleton, SubstitutionBySkeletons}
use Rattle.std.proofs.Common.{◌≡◌, ℕ, suc, List, [], ◌∷◌, refl, sym, ap, ◌∙◌, subst}
use Rattle.std.specs.Prelude.{Bool}
use Rattle.lf.specs.Syntax.{Term, LfType, pi, atom, Skeleton, skeleton}
use Rattle.lf.specs.Substitution.{Image, keep, put, substitute_type, reduce}
use Rattle.lf.specs.Typing.{Signature, TypeAt, IsContext, IsSignature, ImageHasType}
use Rattle.lf.specs.Variables.{onto, binders, under, UsesType, Values, everything, ImageUses}
use Rattle.lf.specs.Subordination.{Block, Member}
use Rattle.lf.specs.Worlds.{lift_over, instance, under_all}
use Rattle.lf.proofs.TypeLaws.{skeleton_substituted}
use Rattle.lf.specs.Skeletons.{constant_skeletons, context_skeletons}
use Rattle.lf.proofs.ToSkeletons.{variable_has_skeleton, typed_has_skeleton}
use Rattle.lf.proofs.SkeletonTyping.{renaming_keeps_skeletons, lift_by_skeletons}
use Rattle.lf_cases.proofs.BlockEntries.{onto_onto, drop_typed}
use Rattle.lf_checks.proofs.GroundLocal.{GroundSequence, no_block, next_block}
use Rattle.lf_cases.proofs.SomeTerms.{moved_over, moved_none, moved_one, some_term}
use Rattle.lf.proofs.Substitution.{typed_substitution_by_skeletons}

-- the types of the local hypotheses, each over those before it, use U
abbrev pub UsesContext : (ℕ → Bool) → List LfType → Type 0
UsesContext U [] = Unit {0}
UsesContext U (A ∷ D) = UsesType (under_all D U) A × UsesContext U D

pub goal_context : (U : ℕ → Bool) (m : List Bool) (D : List LfType) (A : LfType) → UsesContext U D → UsesGoal (under_all D U) m A → UsesContext U (binders D A)
goal_context U m D (pi B A) d (b, a) = goal_context U m (B ∷ D) A (b, d) a
goal_context U m D (atom a S) d u = d

under_onto : (X D : List LfType) (U : ℕ → Bool) → under_all (onto X D) U ≡ under_all X (under_all D U)
under_onto [] D U = refl
under_onto (A ∷ X) D U = ap under (under_onto X D U)

under_instance : (es : List LfType) (θ : ℕ → Image) (V : ℕ → Bool) → under_all (instance es θ) V ≡ under_all es V
under_instance [] θ V = refl
under_instance (E ∷ es) θ V = ap under (under_instance es θ V)

uses_tail : (U : ℕ → Bool) (X D : List LfType) → UsesContext U (onto X D) → UsesContext U D
uses_tail U [] D u = u
uses_tail U (A ∷ X) D u = uses_tail U X D u.1

-- the entry E after es, in the instance
uses_entry : (U : ℕ → Bool) (later : List LfType) (E : LfType) (es : List LfType) (θ : ℕ → Image) (D : List LfType) → UsesContext U (onto (instance (onto later (E ∷ es)) θ) D) → UsesType (under_all es (under_all D U)) (substitute_type reduce (lift_over es θ) E)
uses_entry U [] E es θ D u = subst (λ V. UsesType V (substitute_type reduce (lift_over es θ) E)) (under_onto (instance es θ) D U ∙ under_instance es θ (under_all D U)) u.0
uses_entry U (L ∷ later) E es θ D u = uses_entry U later E es θ D u.1

skeletons_list : List LfType → List Skeleton → List Skeleton
skeletons_list [] Δ = Δ
skeletons_list (E ∷ es) Δ = skeleton E ∷ skeletons_list es Δ

skeletons_over : (κ : HeadSkeletons) (es O : List LfType) (Δ : List Skeleton) (θ : ℕ → Image) → SubstitutionBySkeletons κ (context_skeletons O) Δ θ → SubstitutionBySkeletons κ (context_skeletons (onto es O)) (skeletons_list es Δ) (lift_over es θ)
unfolding skeletons_list
skeletons_over κ [] O Δ θ w = w
skeletons_over κ (E ∷ es) O Δ θ w = lift_by_skeletons κ (skeleton E) (context_skeletons (onto es O)) (skeletons_list es Δ) (lift_over es θ) (skeletons_over κ es O Δ θ w)

skeletons_moved : (κ : HeadSkeletons) (es : List LfType) (Δ : List Skeleton) (N : Term) (a : Skeleton) → TermSkeleton κ Δ N a → TermSkeleton κ (skeletons_list es Δ) (moved_over es N) a
unfolding skeletons_list
skeletons_moved κ [] Δ N a n = subst (λ M. TermSkeleton κ Δ M a) (sym (moved_none N)) n
skeletons_moved κ (E ∷ es) Δ N a n = subst (λ M. TermSkeleton κ (skeleton E ∷ skeletons_list es Δ) M a) (sym (moved_one E es N)) (renaming_keeps_skeletons κ (skeletons_list es Δ) (skeleton E ∷ skeletons_list es Δ) suc (moved_over es N) a (λ i t g. g) (skeletons_moved κ es Δ N a n))

skeletons_past : (es O : List LfType) (x : ℕ) (a : Skeleton) → SkeletonAt (context_skeletons O) x a → SkeletonAt (context_skeletons (onto es O)) (past_types es x) a
skeletons_past [] O x a g = g
skeletons_past (E ∷ es) O x a g = skeletons_past es O x a g

module _ (Σ : Signature) (ok : IsSignature Σ) (W : List Block) (C : List LfType) (typed : (B : Block) → Member B W → IsContext Σ (onto B.entries B.some)) where
  some_used : (B : Block) (D : List LfType) (U : ℕ → Bool) (θ : ℕ → Image) → Member B W → IsStrictBlock B → SubstitutionBySkeletons (constant_skeletons Σ) (context_skeletons B.some) (context_skeletons (onto D C)) θ → Values Σ everything B.some (onto D C) θ → UsesContext U (onto (instance B.entries θ) D) → (i : ℕ) (A : LfType) → TypeAt B.some i A → (x : Image) → θ i ≡ x → IsTerm x → ImageUses (under_all D U) x
  some_used B D U θ m st w v u i A g (keep j) e p = absurd p
  some_used B D U θ m st w v u i A g (put a N) e p =
      let (later, E, es, q, s) = st i A g in
      let (c, t) = drop_typed Σ later E (onto es B.some) (subst (IsContext Σ) (onto_onto later (E ∷ es) B.some) (subst (λ X. IsContext Σ (onto X B.some)) (sym q) (typed B m))) in
      let (f, n) = subst (λ x. ImageHasType Σ (onto D C) x (substitute_type reduce θ A)) e (v.typed i A g refl) in
      let sa : skeleton A ≡ a = sym (skeleton_substituted reduce θ A) ∙ f in
      some_term Σ ok B.some es E (skeletons_list es (context_skeletons (onto D C))) θ (under_all D U) i a N c t (skeletons_over (constant_skeletons Σ) es B.some (context_skeletons (onto D C)) θ w) e (skeletons_moved (constant_skeletons Σ) es (context_skeletons (onto D C)) N a (subst (TermSkeleton (constant_skeletons Σ) (context_skeletons (onto D C)) N) f (typed_has_skeleton Σ (onto D C) N (substitute_type reduce θ A) n))) (skeletons_past es B.some i a (subst (SkeletonAt (context_skeletons B.some) i) sa (variable_has_skeleton B.some i A g))) s (uses_entry U later E es θ D (subst (λ X. UsesContext U (onto (instance X θ) D)) (sym q) u))

  -- The lemma
  pub sequence_local : (U : ℕ → Bool) (D : List LfType) → IsSequence Σ W C D → UsesContext U D → GroundSequence Σ W C U D (under_all D U)
  sequence_local U D no_instance u = no_block
  sequence_local U D (next_instance {D = D'} B θ l m st v p) u =
      let r : GroundSequence Σ W C U D' (under_all D' U) = sequence_local U D' l (uses_tail U (instance B.entries θ) D' u) in
      subst (GroundSequence Σ W C U (onto (instance B.entries θ) D')) (sym (under_onto (instance B.entries θ) D' U ∙ under_instance B.entries θ (under_all D' U))) (next_block B θ r m v (λ i A g. some_used B D' U θ m st (typed_substitution_by_skeletons Σ ok B.some (onto D' C) θ (λ i A g. v.typed i A g refl)) v u i A g (θ i) refl (p i A g)))
