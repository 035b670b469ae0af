-- Where the goals of output coverage of a clause, one for each constant and each block entry that it comes from, are covered, so are
-- its outputs.
use Rattle.std.proofs.Common.{◌≡◌, ℕ, zero, suc, List, [], ◌∷◌, ◌+◌, length, refl, sym, ap, ◌∙◌, subst, arith, true≢false}
use Rattle.std.specs.Prelude.{Bool, true, false, Some, None}
use Rattle.lf.specs.Syntax.{Head, Spine, Term, LfType, Kind, pi, atom, Skeleton, skeleton, weaken}
use Rattle.lf.specs.Substitution.{Image, keep, put, substitute_type, reduce, after}
use Rattle.lf.specs.SkeletonTyping.{SkeletonAt, SubstitutionBySkeletons}
use Rattle.lf.specs.Skeletons.{constant_skeletons, family_skeletons, context_skeletons}
use Rattle.lf.specs.Typing.{Signature, TypeAt, HasType, ImageHasType, IsType, IsContext, IsSignature, SpineFitsKind}
use Rattle.lf.specs.AtOnce.{in_front}
use Rattle.lf.specs.Entries.{quantifiers}
use Rattle.lf.specs.Variables.{target, target_arguments, binders, onto, everything, SameOn, Values, Within}
use Rattle.lf.specs.Subordination.{Block, Member, AreTypedBlocks}
use Rattle.lf.specs.Worlds.{World, lift_over, instance}
use Rattle.lf.specs.Extension.{Extends}
use Rattle.lf.proofs.Agreement.{agree_on_type}
use Rattle.lf.proofs.ExtensionTyping.{extension_keeps_contexts, extension_keeps_types}
use Rattle.lf.proofs.Kept.{typed_uses_type}
use Rattle.lf.proofs.Substitution.{typed_substitution_by_skeletons}
use Rattle.lf.proofs.ToSkeletons.{type_by_skeletons}
use Rattle.lf.proofs.TypeLaws.{skeleton_renamed, skeleton_substituted, substitute_renamed_type}
use Rattle.lf.proofs.Weakening.{declared_is_type}
use Rattle.lf.proofs.Worlds.{world_is_context}
use Rattle.lf_checks.specs.Tests.{choose}
use Rattle.lf_checks.specs.Clause.{Clause, scope, outside, among, IsSubgoal, IsClause, from_constant, from_entry, constant_clause, entry_clause}
use Rattle.lf_checks.specs.Marks.{Mark, input_places, output_places, NoneFree, SamePlaces}
use Rattle.lf_checks.specs.Ground.{UsesGoal}
use Rattle.lf_checks.specs.Worlded.{IsSequence, IsTerm}
use Rattle.lf_checks.specs.Below.{IsSubordination}
use Rattle.lf_cases.specs.Cover.{InstanceIn, Offered, by_constant, by_entry, before, outer_images, AgreesOutside, AreTerms, CoveredOutputs, OutputsCovered}
use Rattle.lf_cases.specs.Case.{Case, items_context, entries_in_front, behind_entries, as_term, IsGroundInstance, chosen_count}
use Rattle.lf_cases.specs.Raised.{PlacesBelow, CoveredLowOutputs, LowPlaces}
use Rattle.lf_cases.specs.Pattern.{Origin, of_constant, of_entry, origin, subgoal_pattern, given_at, has_block_variable, FirstInstance, Holds, IsCoveredCase}
use Rattle.lf_cases.specs.OutputGoal.{free_variables, kept_terms, goal_number, goal_masks, closed_over, output_goal}
use Rattle.lf_cases.proofs.Assemble.{binders_typed}
use Rattle.lf_cases.proofs.GroundTypes.{clause_typed}
use Rattle.lf_cases.proofs.BlockEntries.{onto_onto, drop_typed}
use Rattle.lf_totality.proofs.Core.{out_index, outer_at}
use Rattle.lf_totality.proofs.GoalHolds.{goal_gives, goal_holds, places_of_goal, HoldsOutside, same_inputs, own_among}
use Rattle.lf_cases.proofs.Instances.{instance_typed}
use Rattle.lf_cases.proofs.KeptItems.{behind}
use Rattle.lf_cases.proofs.LongValues.{long_at, long_past, long_fits, long_same, term_typed, long_values, whole, whole_same, whole_long_same, whole_type}
use Rattle.lf_totality.proofs.OutputCases.{held_is_covered, in_context, in_covers, in_type}
use Rattle.lf_totality.proofs.OutputGoals.{nothing_outside}
use Rattle.lf_totality.proofs.RaisedOutputs.{low_cover, binders_over, hypotheses_agree}
use mathlib.Core.Path.{fun_ext}

some_same : {K L : Kind} → Some K ≡ Some L → K ≡ L
some_same e = cc

-- Positions
next_place : (i n : ℕ) → suc (i + n) ≡ i + suc n
next_place i n = omega arith

past : List LfType → ℕ → ℕ
past [] k = k
past (A ∷ X) k = suc (past X k)

behind_past : (X : List LfType) (σ : ℕ → Image) (k : ℕ) → behind X σ k ≡ σ (past X k)
unfolding past
behind_past [] σ k = refl
behind_past (A ∷ X) σ k = behind_past X (λ i. σ (suc i)) k

behind_out : (A : LfType) (X : List LfType) (σ : ℕ → Image) (k : ℕ) → behind (binders X A) σ k ≡ σ (out_index A (past X k))
unfolding past
behind_out (pi A B) X σ k = behind_out B (A ∷ X) σ k
behind_out (atom a S) X σ k = behind_past X σ k

-- what stands outside a clause is what is behind its quantifiers
behind_outer : (A : LfType) (σ : ℕ → Image) (k : ℕ) → behind (binders [] A) σ k ≡ outer_images (quantifiers A) σ k
unfolding past
behind_outer A σ k = behind_out A [] σ k ∙ sym (outer_at A σ k)

behind_long : (D es O : List LfType) (σ : ℕ → Image) (i : ℕ) → behind D (long_past (onto D es) O σ) i ≡ long_past es O (behind D σ) i
behind_long [] es O σ i = refl
behind_long (A ∷ D) es O σ i = behind_long D es O (λ j. σ (suc j)) i

-- the clause's own variables keep their values
own_long : (D es O : List LfType) (σ : ℕ → Image) (i : ℕ) → among D i ≡ true → long_past (onto D es) O σ i ≡ σ i
own_long [] es O σ i e = absurd cc
own_long (A ∷ D) es O σ zero e = refl
own_long (A ∷ D) es O σ (suc i) e = own_long D es O (λ j. σ (suc j)) i e

given_among : (D : List LfType) (U : ℕ → Bool) (r : ℕ → ℕ) (i : ℕ) (M : Term) → given_at (kept_terms U D r) i ≡ Some M → among D i ≡ true
given_among [] U r i M e = absurd cc
given_among (A ∷ D) U r zero M e = refl
given_among (A ∷ D) U r (suc i) M e = given_among D (λ j. U (suc j)) (λ j. r (suc j)) i M e

-- Entries in front.
front_later : (later : List LfType) (E : LfType) (es : List LfType) (θ τ : ℕ → Image) (i : ℕ) → entries_in_front (onto later (E ∷ es)) θ τ (i + suc (length later)) ≡ entries_in_front es (before later θ) τ i
front_later [] E es θ τ i = ap (entries_in_front (E ∷ es) θ τ) (sym (next_place i 0) ∙ ap suc (none i))
  where
    none : (k : ℕ) → k + 0 ≡ k
    none k = omega arith
front_later (L ∷ later) E es θ τ i = ap (entries_in_front (L ∷ onto later (E ∷ es)) θ τ) (sym (next_place i (suc (length later)))) ∙ front_later later E es (λ j. θ (suc j)) τ i

front_long : (es O : List LfType) (θ o : ℕ → Image) → ((k : ℕ) (X : LfType) → TypeAt (onto es O) k X → o k ≡ θ k) → (i : ℕ) → entries_in_front es θ (long_at O (behind es o)) i ≡ long_past es O o i
front_long [] O θ o h i = refl
front_long (E ∷ es) O θ o h zero = sym (h zero (weaken E) refl)
front_long (E ∷ es) O θ o h (suc i) = front_long es O (λ j. θ (suc j)) (λ j. o (suc j)) (λ k X g. h (suc k) (weaken X) (X, g, refl)) i

later_skeletons : (later : List LfType) (E : LfType) (C : List LfType) (i : ℕ) (t : Skeleton) → SkeletonAt (context_skeletons C) i t → SkeletonAt (context_skeletons (onto later (E ∷ C))) (i + suc (length later)) t
later_skeletons [] E C i t g = subst (λ k. SkeletonAt (context_skeletons (E ∷ C)) k t) (next_place i 0) (subst (λ k. SkeletonAt (context_skeletons C) k t) (sym (none i)) g)
  where
    none : (k : ℕ) → k + 0 ≡ k
    none k = omega arith
later_skeletons (L ∷ later) E C i t g = subst (λ k. SkeletonAt (context_skeletons (onto (L ∷ later) (E ∷ C))) k t) (next_place i (suc (length later))) (later_skeletons later E C i t g)

instance_skeletons : (ds O J : List LfType) (σ : ℕ → Image) → context_skeletons J ≡ context_skeletons O → context_skeletons (onto (instance ds σ) J) ≡ context_skeletons (onto ds O)
instance_skeletons [] O J σ e = e
instance_skeletons (D ∷ ds) O J σ e = ap (λ a. a ∷ context_skeletons (onto (instance ds σ) J)) (skeleton_substituted reduce (lift_over ds σ) D) ∙ ap (λ Γ. skeleton D ∷ Γ) (instance_skeletons ds O J σ e)

free_context : (O : List LfType) → items_context (free_variables O) ≡ O
free_context [] = refl
free_context (A ∷ O) = ap (λ X. A ∷ X) (free_context O)

none_block : (O : List LfType) → has_block_variable (free_variables O) ≡ false
none_block [] = refl
none_block (A ∷ O) = none_block O

some_behind : (ds : List LfType) (θ : ℕ → Image) (i : ℕ) → behind_entries ds θ i ≡ θ (past ds i)
unfolding past
some_behind [] θ i = refl
some_behind (D ∷ ds) θ i = some_behind ds (λ j. θ (suc j)) i

some_before : (later : List LfType) (E : LfType) (es : List LfType) (θ : ℕ → Image) (i : ℕ) → behind es (before later θ) i ≡ behind_entries (onto later (E ∷ es)) θ i
some_before [] E es θ i = behind_past es (λ j. θ (suc j)) i ∙ sym (some_behind es (λ j. θ (suc j)) i)
some_before (L ∷ later) E es θ i = some_before later E es (λ j. θ (suc j)) i

past_type : (es O : List LfType) (i : ℕ) (X : LfType) → TypeAt O i X → (Y : LfType) × TypeAt (onto es O) (past es i) Y
unfolding past
past_type [] O i X g = (X, g)
past_type (E ∷ es) O i X g = let (Y, h) = past_type es O i X g in (weaken Y, (Y, h, refl))

-- the value of a `some` variable, as a term
long_term : (O : List LfType) (s : ℕ → Image) (i : ℕ) (A : LfType) → TypeAt O i A → as_term (skeleton A) (long_at O s i) ≡ as_term (skeleton A) (s i)
long_term [] s i A g = absurd g
long_term (B ∷ O) s zero A g = ap (λ a. as_term a (s zero)) (sym (ap skeleton g ∙ skeleton_renamed suc B))
long_term (B ∷ O) s (suc i) A (C, g, e) = ap (λ a. as_term a (long_at O (λ j. s (suc j)) i)) (ap skeleton e ∙ skeleton_renamed suc C) ∙ long_term O (λ j. s (suc j)) i C g ∙ ap (λ a. as_term a (s (suc i))) (sym (ap skeleton e ∙ skeleton_renamed suc C))

module _ (Σ : Signature) (ok : IsSignature Σ) where
  -- what stands for the `some` variables is typed
  some_typed : (G ds O : List LfType) (θ : ℕ → Image) → ((i : ℕ) (A : LfType) → TypeAt (onto ds O) i A → ImageHasType Σ G (θ i) (substitute_type reduce θ A)) → (i : ℕ) (A : LfType) → TypeAt O i A → ImageHasType Σ G (behind_entries ds θ i) (substitute_type reduce (behind_entries ds θ) A)
  some_typed G [] O θ h i A g = h i A g
  some_typed G (D ∷ ds) O θ h i A g = some_typed G ds O (λ j. θ (suc j)) (λ j X k. subst (ImageHasType Σ G (θ (suc j))) (substitute_renamed_type reduce θ suc X) (h (suc j) (weaken X) (X, k, refl))) i A g

  some_context : (ds O : List LfType) → IsContext Σ (onto ds O) → IsContext Σ O
  some_context [] O c = c
  some_context (D ∷ ds) O c = some_context ds O c.0

  -- free variables for the `some` variables stand for their values as terms
  some_ground : {W : List Block} {S : ℕ → Bool} {G : List LfType} (w : World Σ W S G) (O : List LfType) (s : ℕ → Image) → IsContext Σ O → ((i : ℕ) (A : LfType) → TypeAt O i A → ImageHasType Σ G (s i) (substitute_type reduce s A)) → IsGroundInstance w (free_variables O) (long_at O s)
  some_ground w [] s c h = tt
  some_ground {G = G} w (A ∷ O) s (c, t) h =
      let r : ℕ → Image = λ i. s (suc i) in
      let h' : (i : ℕ) (B : LfType) → TypeAt O i B → ImageHasType Σ G (r i) (substitute_type reduce r B) = λ i B g. subst (ImageHasType Σ G (r i)) (substitute_renamed_type reduce s suc B) (h (suc i) (weaken B) (B, g, refl)) in
      let q : substitute_type reduce (long_at O r) A ≡ substitute_type reduce r A = long_same (constant_skeletons Σ) (family_skeletons Σ) [] O (context_skeletons G) r A (typed_substitution_by_skeletons Σ ok O G r h') (type_by_skeletons Σ O A t) in
      let n : HasType Σ G (as_term (skeleton A) (s zero)) (substitute_type reduce r A) = term_typed Σ ok G (world_is_context w) (skeleton A) (s zero) (substitute_type reduce r A) (skeleton_substituted reduce r A) (subst (ImageHasType Σ G (s zero)) (substitute_renamed_type reduce s suc A) (h zero (weaken A) refl)) in
      (as_term (skeleton A) (s zero), long_at O r, some_ground w O r c h', subst (HasType Σ G (as_term (skeleton A) (s zero))) (sym q) n, fun_ext front)
    where
      front : (i : ℕ) → long_at (A ∷ O) s i ≡ in_front (put (skeleton A) (as_term (skeleton A) (s zero))) (long_at O (λ j. s (suc j))) i
      front zero = refl
      front (suc i) = refl

  -- values of entries and of what is behind them have the skeletons of these
  front_fits : (ds O : List LfType) (G : List LfType) (θ τ : ℕ → Image) → SubstitutionBySkeletons (constant_skeletons Σ) (context_skeletons (onto ds O)) (context_skeletons G) θ → SubstitutionBySkeletons (constant_skeletons Σ) (context_skeletons O) (context_skeletons G) τ → SubstitutionBySkeletons (constant_skeletons Σ) (context_skeletons (onto ds O)) (context_skeletons G) (entries_in_front ds θ τ)
  front_fits [] O G θ τ k s i t g = s i t g
  front_fits (D ∷ ds) O G θ τ k s zero t g = k zero t g
  front_fits (D ∷ ds) O G θ τ k s (suc i) t g = front_fits ds O G (λ j. θ (suc j)) τ (λ j. k (suc j)) s i t g

  -- What is outside an entry is held: the block variable stands for the instance, and free variables for its `some` terms.
  entry_outside : {W : List Block} {S : ℕ → Bool} {G : List LfType} (w : World Σ W S G) (B : Block) (later : List LfType) (E : LfType) (es : List LfType) (e : onto later (E ∷ es) ≡ B.entries) (U : ℕ → Bool) (θ σ : ℕ → Image) → IsContext Σ (onto B.entries B.some) → InstanceIn w B θ → AgreesOutside (entry_clause B es E) σ (before later θ) → HoldsOutside (of_entry B later E es e) U w (Some (B, θ)) (long_past (onto (binders [] E) es) B.some σ)
  entry_outside {G = G} w B later E es e U θ σ c i out =
      let O : List LfType = B.some in
      let D : List LfType = binders [] E in
      let o : ℕ → Image = behind D σ in
      let s : ℕ → Image = behind es o in
      let υ : ℕ → Image = behind_entries B.entries θ in
      let same_outer : (k : ℕ) (X : LfType) → TypeAt (onto es O) k X → o k ≡ before later θ k = λ k X g. behind_outer E σ k ∙ out k X g in
      let same_some : (k : ℕ) (X : LfType) → TypeAt O k X → s k ≡ υ k = λ k X g. let (Y, h) = past_type es O k X g in behind_past es o k ∙ same_outer (past es k) Y h ∙ sym (behind_past es (before later θ) k) ∙ some_before later E es θ k ∙ ap (λ ds. behind_entries ds θ k) e in
      let co : IsContext Σ O = some_context B.entries O c in
      let types : (k : ℕ) (X : LfType) → TypeAt O k X → substitute_type reduce υ X ≡ substitute_type reduce s X = λ k X g. sym (agree_on_type reduce (in_context O) s υ X (λ j u. let (Y, h) = in_type O j u in same_some j Y h) (typed_uses_type Σ O (in_context O) X (in_covers O) (declared_is_type Σ ok O k X co g))) in
      let begun = instance_typed Σ ok w B θ i in
      let whole_typed : (k : ℕ) (X : LfType) → TypeAt (onto B.entries O) k X → ImageHasType Σ G (θ k) (substitute_type reduce θ X) = λ k X g. begun.typed.typed k X g refl in
      let st : (k : ℕ) (X : LfType) → TypeAt O k X → ImageHasType Σ G (s k) (substitute_type reduce s X) = λ k X g. subst (ImageHasType Σ G (s k)) (types k X g) (subst (λ x. ImageHasType Σ G x (substitute_type reduce υ X)) (sym (same_some k X g)) (some_typed G B.entries O θ whole_typed k X g)) in
      let τ : ℕ → Image = long_at O s in
      let ψ : ℕ → Image = entries_in_front B.entries θ τ in
      let some : (k : ℕ) (X : LfType) → TypeAt O k X → as_term (skeleton X) (υ k) ≡ as_term (skeleton X) (after τ keep k) = λ k X g. ap (as_term (skeleton X)) (sym (same_some k X g)) ∙ sym (long_term O s k X g) in
      let J : List LfType = items_context (free_variables O) in
      let shape : context_skeletons (onto (instance B.entries keep) J) ≡ context_skeletons (onto B.entries O) = instance_skeletons B.entries O J keep (ap context_skeletons (free_context O)) in
      let τfits : SubstitutionBySkeletons (constant_skeletons Σ) (context_skeletons O) (context_skeletons G) τ = long_fits (constant_skeletons Σ) [] O (context_skeletons G) s (typed_substitution_by_skeletons Σ ok O G s st) in
      let number : (k : ℕ) → ψ (k + suc (length later)) ≡ long_past es O o k = λ k. ap (λ ds. entries_in_front ds θ τ (k + suc (length later))) (sym e) ∙ front_later later E es θ τ k ∙ front_long es O (before later θ) o same_outer k in
      record {
        values = ψ;
        is_ground = (θ, τ, some_ground w O s co st, i, some, refl);
        first = subst (λ b. choose b (FirstInstance w (free_variables O) τ (some_ground w O s co st) B θ) ((B ≡ B) × (θ ≡ θ))) (sym (none_block O)) (refl, refl);
        gives = record {
          fits = subst (λ Γ. SubstitutionBySkeletons (constant_skeletons Σ) Γ (context_skeletons G) ψ) (sym shape) (front_fits B.entries O G θ τ (typed_substitution_by_skeletons Σ ok (onto B.entries O) G θ whole_typed) τfits);
          same = λ k u. number k ∙ sym (behind_long D es O σ k);
          skeletons = λ k t g u. subst (λ Γ. SkeletonAt Γ (k + suc (length later)) t) (sym (shape ∙ ap (λ ds. context_skeletons (onto ds O)) (sym e) ∙ ap context_skeletons (onto_onto later (E ∷ es) O))) (later_skeletons later E (onto es O) k t g);
        };
      }

module _ (Σ : Signature) (ok : IsSignature Σ) (W : List Block) (typed : AreTypedBlocks Σ W) (below : ℕ → ℕ → Bool) (m : ℕ → List Mark) (f : ℕ) where
  -- what is asked of a goal
  abbrev Goal : (c : Clause) → (ℕ → Bool) → LfType → Kind → IsClause Σ W c → Type 0
  Goal c U A K d = IsCoveredCase Σ W (below f) (subgoal_pattern c (origin d) A ∷ []) (output_goal below m (origin d) U A K)

  module _ (Σ' : Signature) (x : Extends (below f) Σ Σ') (G : List LfType) (w : World Σ' W (below f) G) where
    -- the goal of an entry holds each raised tuple, where the entry is offered
    entry_covers : (B : Block) (later : List LfType) (E : LfType) (es : List LfType) (mb : Member B W) (q : onto later (E ∷ es) ≡ B.entries) (U : ℕ → Bool) → Within (outside E everything) U → (i : ℕ) (A : LfType) → IsSubgoal (entry_clause B es E) i A → NoneFree (m (target A)) → UsesGoal U (input_places (m (target A))) A → (K : Kind) → Σ.kinds (target A) ≡ Some K → Goal (entry_clause B es E) U A K (from_entry B later E es mb q) → (θ σ : ℕ → Image) → InstanceIn w B θ → Values Σ' U (scope (entry_clause B es E)) G σ → AgreesOutside (entry_clause B es E) σ (before later θ) → AreTerms (entry_clause B es E) U σ → (T : Spine) → SamePlaces (input_places (m (target A))) (target_arguments (substitute_type reduce σ A)) T → SpineFitsKind Σ' (binders G (substitute_type reduce σ A)) T K → IsContext Σ' (binders G (substitute_type reduce σ A)) → LowPlaces below (binders [] (substitute_type reduce σ A)) (output_places (m (target A))) T K → OutputsCovered Σ' m (entry_clause B es E) U A G σ T
    entry_covers B later E es mb q U all_out i A sub none needs K ek cover θ σ ins v out ts T p fit lc r =
        let c : Clause = entry_clause B es E in
        let o : Origin c = of_entry B later E es q in
        let O : List LfType = B.some in
        let D : List LfType = binders [] E in
        let X : List LfType = onto D es in
        let ms : List Mark = m (target A) in
        let ty = clause_typed Σ ok W typed c (from_entry B later E es mb q) in
        let ct : IsContext Σ (scope c) = binders_typed Σ ok E (onto es O) ty.0 ty.1 in
        let same : scope c ≡ onto X O = binders_over [] E (onto es O) ∙ sym (onto_onto D es O) in
        let ct' : IsContext Σ' (onto X O) = subst (IsContext Σ') same (extension_keeps_contexts (below f) Σ Σ' x (scope c) ct) in
        let cg : IsContext Σ' G = world_is_context w in
        let v' : Values Σ' U (onto X O) G σ = subst (λ C. Values Σ' U C G σ) same v in
        let l : ℕ → Image = long_past X O σ in
        let lv : Values Σ' U (scope c) G l = subst (λ C. Values Σ' U C G l) (sym same) (long_values Σ' x.ok X O G U σ ct' cg v' (λ j Y g. declared_is_type Σ' x.ok (onto X O) j Y ct' g)) in
        let h : ℕ → Image = whole Σ' x.ok X O G U σ ct' cg v' in
        let lh : ℕ → Image = long_past X O h in
        let on_h : SameOn U σ h = whole_same Σ' x.ok X O G U σ ct' cg v' in
        let on_l : SameOn U l lh = whole_long_same Σ' x.ok X O G U σ ct' cg v' in
        let ta : IsType Σ' (onto X O) A = subst (λ C. IsType Σ' C A) same (extension_keeps_types (below f) Σ Σ' x (scope c) A (declared_is_type Σ ok (scope c) i A ct sub.1)) in
        let eq : substitute_type reduce lh A ≡ substitute_type reduce h A = whole_type Σ' x.ok X O G U σ ct' cg v' A ta in
        let local : (Y : List LfType) → binders Y (substitute_type reduce σ A) ≡ binders Y (substitute_type reduce l A) = λ Y. hypotheses_agree U (input_places ms) σ h A Y on_h needs ∙ ap (binders Y) (sym eq) ∙ sym (hypotheses_agree U (input_places ms) l lh A Y on_l needs) in
        let p' : SamePlaces (input_places ms) (target_arguments (substitute_type reduce l A)) T = same_inputs U lh l (input_places ms) A T (λ j u. sym (on_l j u)) needs (subst (λ Z. SamePlaces (input_places ms) (target_arguments Z) T) (sym eq) (same_inputs U σ h (input_places ms) A T on_h needs p)) in
        let own : (j : ℕ) → outside c.type everything j ≡ false → l j ≡ σ j = λ j z. own_long D es O σ j (own_among E [] everything (λ k y. absurd (true≢false y)) j z) in
        let lt : AreTerms c U l = λ j z u. subst IsTerm (sym (own j z)) (ts j z u) in
        let goal : Case = output_goal below m o U A K in
        let held : Holds w goal (Some (B, θ)) l T = goal_holds Σ ok W below m (below f) c o U i A ct sub none needs K ek Σ' x G w (Some (B, θ)) l lv lt (entry_outside Σ' x.ok w B later E es q U θ σ (extension_keeps_contexts (below f) Σ Σ' x (onto B.entries B.some) (typed B mb)) ins out) T p' (subst (λ Y. SpineFitsKind Σ' Y T K) (local G) fit) (subst (IsContext Σ') (local G) lc) (subst (λ Y. LowPlaces below Y (output_places ms) T K) (local []) r) in
        let r' : ℕ → ℕ = λ j. goal_number o (closed_over (binders [] c.type) U) j + chosen_count (output_places ms) K in
        let held' : Holds w goal (Some (B, θ)) σ T = record {
          values = held.values;
          is_ground = held.is_ground;
          first = held.first;
          given = λ j M z. let (a, y) = held.given j M z in (a, sym (own_long D es O σ j (given_among D U r' j M z)) ∙ y);
          has_arguments = held.has_arguments;
        } in
        held_is_covered Σ ok W m (below f) c o U i A all_out ct sub none needs goal (goal_gives below m o U A K) cover Σ' x G w (Some (B, θ)) (before later θ) σ (θ, refl, refl) v out ts T (places_of_goal Σ' _ (goal_masks below m o (closed_over (binders [] c.type) U) A K) (binders [] A) ms _ T K p fit) p held'

    constant_covers : (V : LfType) (d : IsClause Σ W (constant_clause V)) (U : ℕ → Bool) → Within (outside V everything) U → (i : ℕ) (A : LfType) → IsSubgoal (constant_clause V) i A → NoneFree (m (target A)) → UsesGoal U (input_places (m (target A))) A → (K : Kind) → Σ.kinds (target A) ≡ Some K → IsCoveredCase Σ W (below f) (subgoal_pattern (constant_clause V) (of_constant V) A ∷ []) (output_goal below m (of_constant V) U A K) → (θ σ : ℕ → Image) → Values Σ' U (scope (constant_clause V)) G σ → AgreesOutside (constant_clause V) σ θ → AreTerms (constant_clause V) U σ → (T : Spine) → SamePlaces (input_places (m (target A))) (target_arguments (substitute_type reduce σ A)) T → SpineFitsKind Σ' (binders G (substitute_type reduce σ A)) T K → IsContext Σ' (binders G (substitute_type reduce σ A)) → LowPlaces below (binders [] (substitute_type reduce σ A)) (output_places (m (target A))) T K → OutputsCovered Σ' m (constant_clause V) U A G σ T
    constant_covers V d U all_out i A sub none needs K ek cover θ σ v out ts T p fit cg r =
        let c : Clause = constant_clause V in
        let ty = clause_typed Σ ok W typed c d in
        let ct : IsContext Σ (scope c) = binders_typed Σ ok V [] ty.0 ty.1 in
        let o : Origin c = of_constant V in
        held_is_covered Σ ok W m (below f) c o U i A all_out ct sub none needs (output_goal below m o U A K) (goal_gives below m o U A K) cover Σ' x G w None θ σ tt v out ts T (places_of_goal Σ' _ (goal_masks below m o (closed_over (binders [] c.type) U) A K) (binders [] A) (m (target A)) _ T K p fit) p (goal_holds Σ ok W below m (below f) c o U i A ct sub none needs K ek Σ' x G w None σ v ts (nothing_outside V U w σ) T p fit cg r)

    -- by the way in which the clause is offered
    offered_covers : (h : Head) (c : Clause) (θ : ℕ → Image) → Offered w h c θ → below f (target c.type) ≡ true → (U : ℕ → Bool) → Within (outside c.type everything) U → (i : ℕ) (A : LfType) → IsSubgoal c i A → NoneFree (m (target A)) → UsesGoal U (input_places (m (target A))) A → (K : Kind) → Σ.kinds (target A) ≡ Some K → ((d : IsClause Σ W c) → Goal c U A K d) → (σ : ℕ → Image) → Values Σ' U (scope c) G σ → AgreesOutside c σ θ → AreTerms c U σ → (T : Spine) → SamePlaces (input_places (m (target A))) (target_arguments (substitute_type reduce σ A)) T → SpineFitsKind Σ' (binders G (substitute_type reduce σ A)) T K → IsContext Σ' (binders G (substitute_type reduce σ A)) → LowPlaces below (binders [] (substitute_type reduce σ A)) (output_places (m (target A))) T K → OutputsCovered Σ' m c U A G σ T
    offered_covers h c θ (by_constant k V e) b U all_out i A sub none needs K ek goals σ v out ts T p fit cg r =
        let d : IsClause Σ W (constant_clause V) = from_constant k V (x.no_new k V e b) in
        constant_covers V d U all_out i A sub none needs K ek (goals d) keep σ v out ts T p fit cg r
    offered_covers h c θ (by_entry B later E es φ j mb q ins e) b U all_out i A sub none needs K ek goals σ v out ts T p fit cg r = entry_covers B later E es mb q U all_out i A sub none needs K ek (goals (from_entry B later E es mb q)) φ σ ins v out ts T p fit cg r

-- The theorem
pub goals_cover : (Σ : Signature) → IsSignature Σ → (W : List Block) → AreTypedBlocks Σ W → (below : ℕ → ℕ → Bool) → IsSubordination Σ W below → (m : ℕ → List Mark) (f : ℕ) (c : Clause) → IsClause Σ W c → below f (target c.type) ≡ true → (U : ℕ → Bool) → Within (outside c.type everything) U → (i : ℕ) (A : LfType) → IsSubgoal c i A → IsSequence Σ W (scope c) (binders [] A) → NoneFree (m (target A)) → UsesGoal U (input_places (m (target A))) A → (K : Kind) → Σ.kinds (target A) ≡ Some K → PlacesBelow Σ below f K → ((d : IsClause Σ W c) → IsCoveredCase Σ W (below f) (subgoal_pattern c (origin d) A ∷ []) (output_goal below m (origin d) U A K)) → CoveredOutputs Σ m W (below f) c U A
goals_cover Σ ok W typed below s m f c d b U all_out i A sub seq none needs K ek low goals =
    let ty = clause_typed Σ ok W typed c d in
    let ct : IsContext Σ (scope c) = binders_typed Σ ok c.type c.outer ty.0 ty.1 in
    let raised : CoveredLowOutputs Σ below m W (below f) c U A = λ Σ' x G w h θ off σ v out ts T K' e' p fit cg r.
    let q : K' ≡ K = some_same (sym e' ∙ x.kinds_stay (target A) K ek) in
    offered_covers Σ ok W typed below m f Σ' x G w h c θ off b U all_out i A sub none needs K ek goals σ v out ts T p (subst (SpineFitsKind Σ' (binders G (substitute_type reduce σ A)) T) q fit) cg (subst (LowPlaces below (binders [] (substitute_type reduce σ A)) (output_places (m (target A))) T) q r) in
    low_cover Σ ok W below s m f typed c U i A ct sub seq needs (λ L l. subst (PlacesBelow Σ below f) (some_same (sym ek ∙ l)) low) raised
