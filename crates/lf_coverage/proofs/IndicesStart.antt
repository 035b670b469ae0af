-- The store of a split, over families that are indexed by families of L: each equation but the first is of a family of L.
use Rattle.std.proofs.Common.{◌≡◌, ℕ, zero, suc, List, [], ◌∷◌, length, inl, inr, refl, sym, ap, ◌∙◌, subst, arith}
use Rattle.std.specs.Prelude.{◌+◌, ◌<◌, Bool, true, false, Some}
use Rattle.lf.specs.AtOnce.{lift_renaming_by, shift_by}
use Rattle.lf.specs.Eta.{arity, eta_arguments, eta_long, lambdas}
use Rattle.lf.specs.Skeletons.{context_skeletons}
use Rattle.lf.specs.Subordination.{Block, AreTypedBlocks, IsBelowTest, SelfContained, below_in_constant}
use Rattle.lf.specs.Substitution.{Image, lift, substitute_kind, reduce}
use Rattle.lf.specs.Syntax.{Head, constant, variable, metavariable, Term, Spine, root, nil, app, LfType, Kind, kind_pi, star, Skeleton, skeleton, rename_head, rename_type}
use Rattle.lf.specs.Typing.{Signature, TypeAt, IsSignature, instantiate_kind}
use Rattle.lf.specs.Variables.{KindFamiliesIn, target}
use Rattle.lf.proofs.AtOnce.{eta_at_once}
use Rattle.lf.proofs.TypeLaws.{skeleton_renamed, skeleton_substituted}
use Rattle.lf_unification.specs.Offering.{spine_equations}
use Rattle.lf_unification.specs.Patterns.{local_skeletons, skeleton_target}
use Rattle.lf_unification.specs.Putting.{IsRigidHead}
use Rattle.lf_cases.specs.Case.{Case, Item, items_context}
use Rattle.lf_cases.specs.Reached.{SplitHead, constant_head, bound_head, entry_head, new_entry_head, arguments_count, head_masks, head_spine, head_term, taken}
use Rattle.lf_cases.specs.Split.{HasNoBlockVariable}
use Rattle.lf_coverage.specs.IndicesLayers.{AreLayers}
use Rattle.lf_coverage.specs.SplitStore.{AllFamiliesIn, open_locals, open_term, open_variable, split_store}
use Rattle.lf_coverage.specs.Subordinate.{AllQuantifiersAreBelow}
use Rattle.lf_coverage.proofs.Forms.{no_shift_type}
use Rattle.lf_coverage.proofs.IndicesLow.{AllLayered, Layered, Low, below_layered, families_low}
use Rattle.lf_coverage.proofs.IndicesOnAll.{IsRigidTerm, OnAll}
use Rattle.lf_coverage.proofs.IndicesState.{AllLow, Holds}
use Rattle.lf_coverage.proofs.PatternHeadTerm.{lift_low, target_is}
use Rattle.lf_coverage.proofs.PatternSplits.{locals_open}
use Rattle.lf_coverage.proofs.PatternValues.{open_expand}
use Rattle.lf_coverage.proofs.SolvedCase.{all_free}
use Rattle.lf_coverage.proofs.StoreSolution.{skeleton_open}
use Rattle.lf_coverage.proofs.Subordinate.{below_at, below_binders, below_renamed, quantified}

-- the variable of a split is on all its local variables
on_all_lambdas : (j n m : ℕ) (M : Term) → n + j ≡ m → OnAll m M → OnAll n (lambdas j M)
on_all_lambdas zero n m M e o = subst (λ k. OnAll k M) (sym e ∙ none n) o
  where
    none : (n : ℕ) → n + zero ≡ n
    none n = omega arith
on_all_lambdas (suc j) n m M e o = on_all_lambdas j (suc n) m M (next n j ∙ e) o
  where
    next : (n j : ℕ) → suc n + j ≡ n + suc j
    next n j = omega arith

variable_on_all : (t : Skeleton) (x : ℕ) → OnAll zero (open_term zero (eta_long t (variable x)))
variable_on_all t x = subst (OnAll zero) (sym (open_expand zero t x nil ∙ eta_at_once t (metavariable x))) (on_all_lambdas (arity t) zero (arity t) (root (metavariable x) (eta_arguments t)) (none (arity t)) (t, refl, refl))
  where
    none : (n : ℕ) → zero + n ≡ n
    none n = omega arith

-- and its head is no metavariable
abbrev RigidAt : ℕ → Head → Type 0
RigidAt m (constant c) = Unit {0}
RigidAt m (variable i) = IsRigidHead (open_variable m i)
RigidAt m (metavariable k) = ⊥

rigid_root : (g : Head) (S : Spine) → IsRigidHead g → IsRigidTerm (root g S)
rigid_root (constant c) S r = tt
rigid_root (variable i) S r = tt
rigid_root (metavariable k) S r = r

rigid_lambdas : (n k m : ℕ) (g : Head) (S : Spine) → n + k ≡ m → RigidAt m g → IsRigidTerm (open_term k (lambdas n (root g S)))
rigid_lambdas zero k m (constant c) S e r = tt
rigid_lambdas zero k m (variable i) S e r = rigid_root (open_variable k i) _ (subst (λ j. IsRigidHead (open_variable j i)) (sym e ∙ none k) r)
  where
    none : (n : ℕ) → zero + n ≡ n
    none n = omega arith
rigid_lambdas zero k m (metavariable i) S e r = absurd r
rigid_lambdas (suc n) k m g S e r = rigid_lambdas n (suc k) m g S (next n k ∙ e) r
  where
    next : (n k : ℕ) → n + suc k ≡ suc n + k
    next n k = omega arith

low_is_rigid : (n j : ℕ) → j < n → IsRigidHead (open_variable n j)
low_is_rigid zero j l = absurd (omega (arith, l))
low_is_rigid (suc n) zero l = tt
low_is_rigid (suc n) (suc j) l = up (open_variable n j) (low_is_rigid n j (omega (arith, l)))
  where
    up : (g : Head) → IsRigidHead g → IsRigidHead (rename_head suc g)
    up (constant c) r = tt
    up (variable i) r = tt
    up (metavariable m) r = r

head_is_rigid : (Σ : Signature) (W : List Block) (below : ℕ → ℕ → Bool) (I J : List Item) (X : LfType) (n : ℕ) (h : Head) (A : LfType) → SplitHead Σ W I X J n h A → HasNoBlockVariable J → IsRigidTerm (open_term zero (head_term below (taken (rename_type (shift_by n) X)) h A))
head_is_rigid Σ W below I J X n h A sh b =
    let D : List LfType = taken (rename_type (shift_by n) X) in
    rigid_lambdas (length D) zero (length D) (rename_head (lift_renaming_by (length D) (shift_by (arguments_count A))) h) (head_spine (head_masks below D (arguments_count A) A) D A) (none (length D)) (by sh b)
  where
    none : (n : ℕ) → n + zero ≡ n
    none n = omega arith

    no : true ≡ false → ⊥
    no e = cc

    by : {J : List Item} {n : ℕ} {h : Head} {A : LfType} → SplitHead Σ W I X J n h A → HasNoBlockVariable J → RigidAt (length (taken (rename_type (shift_by n) X))) (rename_head (lift_renaming_by (length (taken (rename_type (shift_by n) X))) (shift_by (arguments_count A))) h)
    by (constant_head k U e q) b = tt
    by (bound_head j A l g q) b =
        let m : ℕ = length (taken (rename_type (shift_by zero) X)) in
        let k : j < m = subst (λ i. j < i) (sym (ap (λ Y. length (taken Y)) (no_shift_type X))) l in
        subst (λ i. IsRigidHead (open_variable m i)) (sym (lift_low m (shift_by (arguments_count A)) j k)) (low_is_rigid m j k)
    by (entry_head j A g f q) b = absurd (no (sym (all_free I b j A g) ∙ f))
    by (new_entry_head B j A m l g q) b = absurd b

module _ (L : ℕ → Bool) where
  abbrev KindLow : Kind → Type 0
  KindLow (kind_pi A K) = Low L (skeleton A) × KindLow K
  KindLow star = Unit {0}

  kind_low : (K : Kind) → KindFamiliesIn L K → KindLow K
  kind_low (kind_pi A K) (f, k) = (families_low L A f, kind_low K k)
  kind_low star k = tt

  kind_substituted : (σ : ℕ → Image) (K : Kind) → KindLow K → KindLow (substitute_kind reduce σ K)
  kind_substituted σ (kind_pi A K) (a, k) = (subst (Low L) (sym (skeleton_substituted reduce σ A)) a, kind_substituted (lift σ) K k)
  kind_substituted σ star k = tt

  all_layered : (below : ℕ → ℕ → Bool) → ((f b : ℕ) → L f ≡ true → below f b ≡ true → L b ≡ true) → (D : List LfType) → AllQuantifiersAreBelow below D → AllLayered L (context_skeletons D)
  all_layered below down [] d = tt
  all_layered below down (A ∷ D) (a, d) = (below_layered L below down A a, all_layered below down D d)

module _ (Σ : Signature) (L : ℕ → Bool) (constants : (c : ℕ) (U : LfType) → Σ.types c ≡ Some U → Layered L (skeleton U)) where
  spines_low : (D : List LfType) (K : Kind) (S T : Spine) → AllLayered L (local_skeletons D []) → KindLow L K → AllLow Σ L constants (spine_equations D K S T)
  spines_low D (kind_pi A K) (app M S) (app N T) g (a, k) = ((g, a), spines_low D (instantiate_kind A M K) S T g (kind_substituted L (Rattle.lf.specs.Substitution.single (skeleton A) M) K k))
  spines_low D (kind_pi A K) (app M S) nil g k = tt
  spines_low D (kind_pi A K) nil T g k = tt
  spines_low D star S T g k = tt

module _ (Σ : Signature) (ok : IsSignature Σ) (W : List Block) (typed : AreTypedBlocks Σ W) (below : ℕ → ℕ → Bool) (test : (f : ℕ) → IsBelowTest Σ W (below f) f) (T : ℕ → Bool) (sc : SelfContained Σ W T) where
  module _ (L : ℕ → Bool) (layers : AreLayers Σ below L T) where
    pub constants_layered : (c : ℕ) (U : LfType) → Σ.types c ≡ Some U → Layered L (skeleton U)
    constants_layered c U e = below_layered L below layers.downward U (quantified below U (λ a b q. (test b a).1 (below_in_constant c U e q)))

    -- the store of a split
    pub split_holds : (C : Case) → AllQuantifiersAreBelow below (items_context C.items) → AllFamiliesIn T (items_context C.items) → (x : ℕ) (X : LfType) → TypeAt (items_context C.items) x X → (J : List Item) (n : ℕ) (h : Head) (A : LfType) → SplitHead Σ W C.items X J n h A → HasNoBlockVariable J → (K : Kind) → Σ.kinds (target X) ≡ Some K → T (target X) ≡ true → Holds Σ L constants_layered (split_store below x X J n h A K)
    split_holds C qc fc x X at J n h A sh nb K e ft = by (L (target X)) refl
      where
        spines : (S U : Spine) → AllLow Σ L constants_layered (spine_equations (open_locals (taken (rename_type (shift_by (n + arguments_count A)) X))) K S U)
        spines S U = spines_low Σ L constants_layered (open_locals (taken (rename_type (shift_by (n + arguments_count A)) X))) K S U (subst (AllLayered L) (sym (locals_open (taken (rename_type (shift_by (n + arguments_count A)) X)))) (all_layered L below layers.downward (taken (rename_type (shift_by (n + arguments_count A)) X)) (below_binders below [] (rename_type (shift_by (n + arguments_count A)) X) tt (below_renamed below (shift_by (n + arguments_count A)) X (below_at below (items_context C.items) qc x X at))))) (kind_low L K (layers.indices (target X) K ft e))

        by : (b : Bool) → L (target X) ≡ b → Holds Σ L constants_layered (split_store below x X J n h A K)
        by true l = inl ((tt, subst (Low L) (sym (skeleton_open zero (rename_type (shift_by (n + arguments_count A)) X) ∙ skeleton_renamed (shift_by (n + arguments_count A)) X)) (below_layered L below layers.downward X (below_at below (items_context C.items) qc x X at), subst (λ z. L z ≡ true) (sym (target_is X)) l)), spines _ _)
        by false l = inr (inl ((variable_on_all (skeleton X) (x + (n + arguments_count A)), head_is_rigid Σ W below C.items J X n h A sh nb, subst (λ z. L z ≡ false) (sym (ap skeleton_target (skeleton_open zero (rename_type (shift_by (n + arguments_count A)) X) ∙ skeleton_renamed (shift_by (n + arguments_count A)) X) ∙ target_is X)) l), spines _ _), λ b k. absurd k)
