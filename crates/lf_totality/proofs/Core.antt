-- The totality induction, over given contexts and a given offer of clauses.
use Rattle.lf.specs.Entries.{quantifiers}
use Rattle.lf_checks.specs.Tests.{both, choose, either}
use Rattle.lf_totality.specs.Total.{TotalAt}
use Rattle.lf_totality.specs.Facts.{AreSolved}
use Rattle.lf_checks.specs.Marks.{Mark, SamePlaces, TypedPlaces, UsesPlaces, input_places}
use Rattle.lf_checks.specs.Worlded.{IsTerm}
use Rattle.lf_checks.specs.Ground.{EachSubgoal, Subgoals, UsesGoal, ground_after, ground_first}
use Rattle.lf_checks.specs.Clause.{Clause, IsSubgoal, is_variable, outside, scope, variables, with_newest}
use Rattle.lf_unification.specs.Search.{occurs_type}
use Rattle.lf_cases.specs.Cover.{AgreesOutside, AreTerms, outer_images, OutputsCovered}
use Rattle.std.proofs.Common.{◌≡◌, ℕ, zero, suc, List, [], ◌∷◌, ◌<◌, ◌≤◌, ◌+◌, length, refl, sym, ap, ◌∙◌, subst, arith, inl, inr}
use Rattle.std.specs.Prelude.{Bool, true, false, Some, ◌⊎◌}
use Rattle.lf_checks.specs.Marks.{MentionChosenOnly}
use Rattle.lf.specs.Syntax.{Head, variable, Term, Spine, root, nil, app, LfType, Kind, pi, atom, Skeleton, base, skeleton, weaken}
use Rattle.lf.specs.Substitution.{Image, put, lift, substitute_spine, substitute_type, substitute_kind, reduce}
use Rattle.lf.specs.Typing.{Signature, TypeAt, HeadHasType, HasType, SpineType, SpineFitsKind, IsType, IsContext, IsSignature, ImageHasType}
use Rattle.lf.specs.Variables.{target, target_arguments, binders, under, with_arguments, UsesSpine, UsesType, Values, Within, SameOn, everything, nothing, same_number, hide}
use Rattle.lf.proofs.TypeLaws.{skeleton_renamed, skeleton_substituted}
use Rattle.lf.proofs.Closed.{agree_type, closed_kind_substituted}
use Rattle.lf.proofs.Weakening.{declared_is_type}
use Rattle.lf.proofs.Agreement.{agree_on, agree_on_spine, agree_on_type, uses_within, uses_type_within}
use Rattle.lf.proofs.Partial.{skeletons_beside, PartialSubstitution, partial_lift, skeleton_context_of_beside, type_by_skeletons_beside, kind_by_skeletons_beside, partial_substitution_keeps_kind_spines, uses_spine_all}
use Rattle.lf.proofs.Substitution.{family_kind}
use Rattle.lf.proofs.Patch.{pick, patch, patch_same, patched, patch_values}
use Rattle.lf_cases.proofs.GroundTypes.{either_left, grows}
use Rattle.lf_cases.proofs.Assemble.{value_spine, AllPut, AllTyped, AllTyped-has_skeleton, assemble, end_typed, binders_typed, lams, lams_typed}
use Rattle.lf_cases.proofs.Calls.{inputs_part}
use Rattle.lf_checks.proofs.Measure.{LexLt, Acc, acc, well_founded}

-- numbers and lists of variables
pub target_substituted : (r : Skeleton → Term → Spine → Term) (σ : ℕ → Image) (A : LfType) → target (substitute_type r σ A) ≡ target A
target_substituted r σ (pi A B) = target_substituted r (lift σ) B
target_substituted r σ (atom a S) = refl

abbrev pub out_index : LfType → ℕ → ℕ
out_index (pi A B) k = out_index B (suc k)
out_index (atom a S) k = k

pub outer_at : (A : LfType) (σ : ℕ → Image) (k : ℕ) → outer_images (quantifiers A) σ k ≡ σ (out_index A k)
outer_at (pi A B) σ k = outer_at B σ (suc k)
outer_at (atom a S) σ k = refl

pub outside_at : (A : LfType) (V : ℕ → Bool) (k : ℕ) → outside A V (out_index A k) ≡ V k
outside_at (pi A B) V k = outside_at B (hide V) (suc k)
outside_at (atom a S) V k = refl

pub all_put : (A : LfType) (V : ℕ → Bool) (σ : ℕ → Image) → ((i : ℕ) → outside A V i ≡ false → IsTerm (σ i)) → AllPut A σ
all_put (pi A B) V σ h = (subst IsTerm (sym (outer_at B σ zero)) (h (out_index B zero) (outside_at B (hide V) zero)), all_put B (hide V) σ h)
all_put (atom a S) V σ h = tt

at_length : (C : List LfType) (i : ℕ) → i < length C → (A : LfType) × TypeAt C i A
at_length [] i l = absurd (omega arith)
at_length (B ∷ C) zero l = (weaken B, refl)
at_length (B ∷ C) (suc i) l = let (A, g) = at_length C i (omega arith) in (weaken A, (A, g, refl))

binders_length : (A : LfType) (O : List LfType) → length (binders O A) ≡ quantifiers A + length O
binders_length (pi A B) O = binders_length B (A ∷ O) ∙ omega arith
binders_length (atom a S) O = omega arith

variable_beyond : (A : LfType) (V : ℕ → Bool) (n : ℕ) → ((j : ℕ) → n ≤ j → V j ≡ true) → (j : ℕ) → quantifiers A + n ≤ j → is_variable V A j ≡ true
variable_beyond (pi A B) V n h j l = variable_beyond B (with_newest (occurs_type zero B) V) (suc n) (newest (occurs_type zero B) V n h) j (omega arith)
  where
    newest : (b : Bool) (V : ℕ → Bool) (n : ℕ) → ((j : ℕ) → n ≤ j → V j ≡ true) → (j : ℕ) → suc n ≤ j → with_newest b V j ≡ true
    newest b V n h zero l = absurd (omega arith)
    newest b V n h (suc j) l = h j (omega arith)
variable_beyond (atom a S) V n h j l = h j (omega arith)

same_number_equal : (i j : ℕ) → same_number i j ≡ true → i ≡ j
same_number_equal zero zero e = refl
same_number_equal zero (suc j) e = absurd cc
same_number_equal (suc i) zero e = absurd cc
same_number_equal (suc i) (suc j) e = ap suc (same_number_equal i j e)

same_number_self : (i : ℕ) → same_number i i ≡ true
same_number_self zero = refl
same_number_self (suc i) = same_number_self i

pub SamePlaces-agree : (r : Skeleton → Term → Spine → Term) (U : ℕ → Bool) (σ τ : ℕ → Image) (m : List Bool) (S H : Spine) → SameOn U σ τ → UsesPlaces U m H → SamePlaces m S (substitute_spine r σ H) → SamePlaces m S (substitute_spine r τ H)
SamePlaces-agree r U σ τ [] nil nil h u p = p
SamePlaces-agree r U σ τ [] nil (app N H) h u p = p
SamePlaces-agree r U σ τ [] (app M S) H h u p = absurd p
SamePlaces-agree r U σ τ (b ∷ m) nil H h u p = absurd p
SamePlaces-agree r U σ τ (b ∷ m) (app M S) nil h u p = absurd p
SamePlaces-agree r U σ τ (true ∷ m) (app M S) (app N H) h u (e, p) = (e ∙ agree_on r U σ τ N h u.0, SamePlaces-agree r U σ τ m S H h u.1 p)
SamePlaces-agree r U σ τ (false ∷ m) (app M S) (app N H) h u p = SamePlaces-agree r U σ τ m S H h u p

pub UsesPlaces-within : (U V : ℕ → Bool) (m : List Bool) (S : Spine) → Within U V → UsesPlaces U m S → UsesPlaces V m S
UsesPlaces-within U V [] S h u = u
UsesPlaces-within U V (b ∷ m) nil h u = u
UsesPlaces-within U V (true ∷ m) (app M S) h u = (uses_within U V M h u.0, UsesPlaces-within U V m S h u.1)
UsesPlaces-within U V (false ∷ m) (app M S) h u = UsesPlaces-within U V m S h u

-- what stands outside counts as a variable
outside_variable : (A : LfType) (V W : ℕ → Bool) → Within V W → (j : ℕ) → outside A V j ≡ true → is_variable W A j ≡ true
outside_variable (pi A B) V W h j e = outside_variable B (hide V) (with_newest (occurs_type zero B) W) (newest (occurs_type zero B) V W h) j e
  where
    newest : (b : Bool) (V W : ℕ → Bool) → Within V W → Within (hide V) (with_newest b W)
    newest b V W h zero e = absurd cc
    newest b V W h (suc i) e = h i e
outside_variable (atom a S) V W h j e = h j e

pub some_inj : {K L : Kind} → Some K ≡ Some L → K ≡ L
some_inj e = cc

-- The skeleton of a variable of a context
skel_of : List LfType → ℕ → Skeleton
skel_of [] i = base 0
skel_of (A ∷ G) zero = skeleton A
skel_of (A ∷ G) (suc i) = skel_of G i

skel_of_at : (G : List LfType) (i : ℕ) (A : LfType) → TypeAt G i A → skel_of G i ≡ skeleton A
unfolding skel_of
skel_of_at [] i A g = absurd g
skel_of_at (B ∷ G) zero A e = sym (ap skeleton e ∙ skeleton_renamed suc B)
skel_of_at (B ∷ G) (suc i) A (C, g, e) = skel_of_at G i C g ∙ sym (ap skeleton e ∙ skeleton_renamed suc C)

module _ (Σ : Signature) (ok : IsSignature Σ) where
  -- the inputs of a subgoal under values of what it needs
  call_inputs : (m : List Bool) (K : Kind) (A : LfType) (P : List Skeleton) (U : ℕ → Bool) (C G : List LfType) (σ : ℕ → Image) → PartialSubstitution Σ ok [] P U C G σ → IsType Σ C A → UsesGoal U m A → MentionChosenOnly nothing m K → Σ.kinds (target A) ≡ Some K → TypedPlaces Σ m (binders G (substitute_type reduce σ A)) (target_arguments (substitute_type reduce σ A)) K
  call_inputs m K (pi B A) P U C G σ w (b, t) u f e = call_inputs m K A P (under U) (B ∷ C) (substitute_type reduce σ B ∷ G) (lift σ) (partial_lift Σ ok [] P U C G σ B w (type_by_skeletons_beside Σ [] C B b)) t u.1 f e
  call_inputs m K (atom a S) P U C G σ w (L, k, s) u f e = inputs_part Σ ok P U C G σ m S K w (ok.kinds_ok a K e) f u (subst (SpineFitsKind Σ C S) (some_inj (sym k ∙ e)) s)

-- The setting: marks, the states of the induction with their families and contexts, and the measure of a state's inputs.
module _ (Σ : Signature) (ok : IsSignature Σ) (m : ℕ → List Mark) (I : Type 0) (family : I → ℕ) (Ctx : I → List LfType → Type 0) (mu : I → Spine → List ℕ) where
  -- a call in G is total already, or that of a state smaller than the head's arguments H
  abbrev pub CallOk : I → List LfType → LfType → Spine → Type 0
  CallOk a G P H = TotalAt Σ (m (target P)) (target P) (binders G P) ⊎ ((b : I) × (family b ≡ target P) × Ctx b (binders G P) × LexLt (mu b (target_arguments P)) (mu a H))

  pub record SubgoalOk (a : I) (G : List LfType) (c : Clause) (θ : ℕ → Image) (U : ℕ → Bool) (A : LfType) : Type 0 where
    pub needs : UsesGoal U (input_places (m (target A))) A
    pub kind : (K : Kind) × (Σ.kinds (target A) ≡ Some K) × MentionChosenOnly nothing (input_places (m (target A))) K
    pub call : (i : ℕ) → IsSubgoal c i A → (σ : ℕ → Image) → Values Σ U (scope c) G σ → PartialSubstitution Σ ok [] (skeletons_beside [] (scope c)) U (scope c) G σ → AgreesOutside c σ θ → AreSolved Σ G c i σ → CallOk a G (substitute_type reduce σ A) (substitute_spine reduce σ (target_arguments c.type))
    pub outputs : (σ : ℕ → Image) → Values Σ U (scope c) G σ → AgreesOutside c σ θ → AreTerms c U σ → (T : Spine) (K : Kind) → Σ.kinds (target A) ≡ Some K → SamePlaces (input_places (m (target A))) (target_arguments (substitute_type reduce σ A)) T → SpineFitsKind Σ (binders G (substitute_type reduce σ A)) T K → OutputsCovered Σ m c U A G σ T

  pub record ClauseOk (a : I) (G : List LfType) (h : Head) (c : Clause) (θ : ℕ → Image) : Type 0 where
    pub head : HeadHasType Σ G h (substitute_type reduce θ c.type)
    pub family_is : target c.type ≡ family a
    pub type_ok : IsType Σ c.outer c.type
    pub outer_ok : IsContext Σ c.outer
    pub shape : (i : ℕ) (A : LfType) → TypeAt (scope c) i A → UsesType (variables c) A
    pub shape_head : UsesSpine (variables c) (target_arguments c.type)
    pub subgoals : Subgoals m c (SubgoalOk a G c θ) (λ U. Within (variables c) U)

  abbrev pub Covered : I → List LfType → Spine → Type 0
  Covered a G S = (h : Head) × (c : Clause) × (θ : ℕ → Image) × (σ : ℕ → Image) × ClauseOk a G h c θ × Values Σ (ground_first m c) (scope c) G σ × AgreesOutside c σ θ × AreTerms c (ground_first m c) σ × SamePlaces (input_places (m (family a))) S (substitute_spine reduce σ (target_arguments c.type)) × UsesPlaces (ground_first m c) (input_places (m (family a))) (target_arguments c.type)

  -- what is known before index i: the values of what is ground, and an inhabitant of each subgoal that is solved
  record State (a : I) (G : List LfType) (c : Clause) (θ : ℕ → Image) (S : Spine) (i : ℕ) (U : ℕ → Bool) (σ : ℕ → Image) : Type 0 where
    values : Values Σ U (scope c) G σ
    over : AgreesOutside c σ θ
    terms : AreTerms c U σ
    plus : SamePlaces (input_places (m (family a))) S (substitute_spine reduce σ (target_arguments c.type))
    uses : UsesPlaces U (input_places (m (family a))) (target_arguments c.type)
    outer_in : Within (outside c.type everything) U
    proofs : ℕ → Term
    proved : (j : ℕ) (A : LfType) → j < i → IsSubgoal c j A → UsesType U A × HasType Σ G (proofs j) (substitute_type reduce σ A)

  -- the inhabitants, under values that are the same where it is ground
  solved_same : (a : I) (G : List LfType) (c : Clause) (θ : ℕ → Image) (S : Spine) (i : ℕ) (U : ℕ → Bool) (σ τ : ℕ → Image) → SameOn U σ τ → State a G c θ S i U σ → AreSolved Σ G c i τ
  solved_same a G c θ S i U σ τ same st j A l v = let (u, t) = st.proved j A l v in (st.proofs j, subst (HasType Σ G (st.proofs j)) (agree_on_type reduce U σ τ A same u) t)

  over_same : (c : Clause) (θ : ℕ → Image) (U : ℕ → Bool) (σ τ : ℕ → Image) → Within (outside c.type everything) U → SameOn U σ τ → AgreesOutside c σ θ → AgreesOutside c τ θ
  over_same c θ U σ τ w s o k X g = outer_at c.type τ k ∙ sym (s (out_index c.type k) (w (out_index c.type k) (outside_at c.type everything k))) ∙ sym (outer_at c.type σ k) ∙ o k X g

  abbrev Found : ℕ → List LfType → Spine → Kind → Type 0
  Found f G S K = (T : Spine) × (M : Term) × SamePlaces (input_places (m f)) S T × SpineFitsKind Σ G T K × HasType Σ G M (atom f T)

  abbrev Hyp : List ℕ → Type 0
  Hyp x = (b : I) (G : List LfType) → Ctx b G → (T : Spine) → LexLt (mu b T) x → (K : Kind) → Σ.kinds (family b) ≡ Some K → TypedPlaces Σ (input_places (m (family b))) G T K → Found (family b) G T K

  -- the call of a subgoal, made
  called : (a : I) (G : List LfType) (P : LfType) (H : Spine) (x : List ℕ) (K : Kind) → mu a H ≡ x → Hyp x → CallOk a G P H → Σ.kinds (target P) ≡ Some K → TypedPlaces Σ (input_places (m (target P))) (binders G P) (target_arguments P) K → Found (target P) (binders G P) (target_arguments P) K
  called a G P H x K q ih (inl t) k i = t K (target_arguments P) k i
  called a G P H x K q ih (inr (b, e, w, l)) k i = subst (λ f. Found f (binders G P) (target_arguments P) K) e (ih b (binders G P) w (target_arguments P) (subst (LexLt (mu b (target_arguments P))) q l) K (ap Σ.kinds e ∙ k) (subst (λ f. TypedPlaces Σ (input_places (m f)) (binders G P) (target_arguments P) K) (sym e) i))

  TypeAt-same : (C : List LfType) (j : ℕ) (A B : LfType) → TypeAt C j A → TypeAt C j B → A ≡ B
  TypeAt-same [] j A B g h = absurd g
  TypeAt-same (X ∷ C) zero A B g h = g ∙ sym h
  TypeAt-same (X ∷ C) (suc j) A B (A', g, e) (B', h, f) = e ∙ ap weaken (TypeAt-same C j A' B' g h) ∙ sym f

  true≢false : true ≡ false → ⊥
  true≢false e = cc

  -- an index before the next one is before this one, or this one
  before_next : (i j : ℕ) → j < suc i → same_number i j ≡ false → j < i
  before_next i j l q = apart i j l (λ w. true≢false (sym (same_number_self i) ∙ ap (same_number i) w ∙ q))
    where
      apart : (i j : ℕ) → j < suc i → (i ≡ j → ⊥) → j < i
      apart i j l w = omega arith

  -- one subgoal
  abbrev Solved1 : I → List LfType → Clause → (ℕ → Image) → Spine → ℕ → (ℕ → Bool) → LfType → Type 0
  Solved1 a G c θ S i U A = (σ' : ℕ → Image) × State a G c θ S (suc i) (ground_after m c A U) σ'

  solve1 : (a : I) (mu_plus : (S T : Spine) → SamePlaces (input_places (m (family a))) S T → mu a S ≡ mu a T) (G : List LfType) (c : Clause) (θ : ℕ → Image) (S : Spine) (i : ℕ) (U : ℕ → Bool) (σ : ℕ → Image) (A : LfType) → IsContext Σ G → IsContext Σ (scope c) → Hyp (mu a S) → State a G c θ S i U σ → IsSubgoal c i A → SubgoalOk a G c θ U A → Solved1 a G c θ S i U A
  solve1 a mu_plus G c θ S i U σ A g cc' ih st (none, at) sg =
      let τ : ℕ → Image = patch U G σ in
      let st_same : SameOn U σ τ = patch_same U G σ in
      let v : Values Σ U (scope c) G τ = patch_values Σ ok U (scope c) G σ st.values in
      let o : AgreesOutside c τ θ = over_same c θ U σ τ st.outer_in st_same st.over in
      let plus : SamePlaces (input_places (m (family a))) S (substitute_spine reduce τ (target_arguments c.type)) = SamePlaces-agree reduce U σ τ (input_places (m (family a))) S (target_arguments c.type) st_same st.uses st.plus in
      let P : LfType = substitute_type reduce τ A in
      let p : target P ≡ target A = target_substituted reduce τ A in
      let K : Kind = (sg.kind).0 in
      let k : Σ.kinds (target P) ≡ Some K = ap Σ.kinds p ∙ (sg.kind).1 in
      let i0 : TypedPlaces Σ (input_places (m (target A))) (binders G P) (target_arguments P) K = call_inputs Σ ok (input_places (m (target A))) K A (skeletons_beside [] (scope c)) U (scope c) G τ (patched Σ ok U (scope c) G σ cc' g st.values) (declared_is_type Σ ok (scope c) i A cc' at) sg.needs (sg.kind).2 (sg.kind).1 in
      let i1 : TypedPlaces Σ (input_places (m (target P))) (binders G P) (target_arguments P) K = subst (λ b. TypedPlaces Σ (input_places (m b)) (binders G P) (target_arguments P) K) (sym p) i0 in
      let (T, M, e, s, n) = called a G P (substitute_spine reduce τ (target_arguments c.type)) (mu a S) K (sym (mu_plus S (substitute_spine reduce τ (target_arguments c.type)) plus)) ih (sg.call i (none, at) τ v (patched Σ ok U (scope c) G σ cc' g st.values) o (solved_same a G c θ S i U σ τ st_same st)) k i1 in
      let e' : SamePlaces (input_places (m (target A))) (target_arguments P) T = subst (λ b. SamePlaces (input_places (m b)) (target_arguments P) T) p e in
      after τ st_same T (sg.outputs τ v o (λ j u w. subst IsTerm (st_same j w) (st.terms j u w)) T K (sg.kind).1 e' s) (lams P M) (lams_typed Σ P G M T n)
    where
      -- it is proved now, and what was proved before stays so
      proved_on : (σ' : ℕ → Image) → SameOn U σ σ' → (N : Term) → UsesType (ground_after m c A U) A → HasType Σ G N (substitute_type reduce σ' A) → (j : ℕ) (B : LfType) → j < suc i → IsSubgoal c j B → (b : Bool) → same_number i j ≡ b → UsesType (ground_after m c A U) B × HasType Σ G (pick b N (st.proofs j)) (substitute_type reduce σ' B)
      proved_on σ' same N us n j B l (w, h) true q =
          let e : A ≡ B = TypeAt-same (scope c) j A B (subst (λ k. TypeAt (scope c) k A) (same_number_equal i j q) at) h in
          (subst (UsesType (ground_after m c A U)) e us, subst (λ X. HasType Σ G N (substitute_type reduce σ' X)) e n)
      proved_on σ' same N us n j B l w false q =
          let (u, t) = st.proved j B (before_next i j l q) w in
          (uses_type_within U (ground_after m c A U) B (grows m c A U) u, subst (HasType Σ G (st.proofs j)) (agree_on_type reduce U σ σ' B same u) t)

      -- the values that the outputs give
      after : (τ : ℕ → Image) → SameOn U σ τ → (T : Spine) → OutputsCovered Σ m c U A G τ T → (N : Term) → HasType Σ G N (with_arguments (substitute_type reduce τ A) T) → Solved1 a G c θ S i U A
      after τ st_same T out N n =
          let same : SameOn U σ out.values = λ j w. st_same j w ∙ out.same j w in (
            out.values,
            record {
              values = out.typed;
              over = over_same c θ U σ out.values st.outer_in same st.over;
              terms = out.terms;
              plus = SamePlaces-agree reduce U σ out.values (input_places (m (family a))) S (target_arguments c.type) same st.uses st.plus;
              uses = UsesPlaces-within U (ground_after m c A U) (input_places (m (family a))) (target_arguments c.type) (grows m c A U) st.uses;
              outer_in = λ j w. grows m c A U j (st.outer_in j w);
              proofs = λ j. pick (same_number i j) N (st.proofs j);
              proved = λ j B l w. proved_on out.values same N out.uses (subst (HasType Σ G N) (sym out.is_instance) n) j B l w (same_number i j) refl;
            },
          )

  -- all subgoals
  record Solved (a : I) (G : List LfType) (c : Clause) (θ : ℕ → Image) (S : Spine) : Type 0 where
    set : ℕ → Bool
    all_values : ℕ → Image
    state : State a G c θ S (quantifiers c.type) set all_values
    full : Within (variables c) set

  -- past a quantifier that is a variable of the clause
  skip : (a : I) (G : List LfType) (c : Clause) (θ : ℕ → Image) (S : Spine) (i : ℕ) (U : ℕ → Bool) (σ : ℕ → Image) → variables c i ≡ true → State a G c θ S i U σ → State a G c θ S (suc i) U σ
  skip a G c θ S i U σ e st = record {
    values = st.values;
    over = st.over;
    terms = st.terms;
    plus = st.plus;
    uses = st.uses;
    outer_in = st.outer_in;
    proofs = st.proofs;
    proved = λ j A l v. st.proved j A (earlier j l v.0 (same_number i j) refl) v;
  }
    where
      earlier : (j : ℕ) → j < suc i → variables c j ≡ false → (b : Bool) → same_number i j ≡ b → j < i
      earlier j l v true q = absurd (true≢false (sym e ∙ ap (variables c) (same_number_equal i j q) ∙ v))
      earlier j l v false q = before_next i j l q

  one_on : (i n k : ℕ) → i + suc n ≡ k → suc i + n ≡ k
  one_on i n k q = omega arith

  abbrev Rest : I → List LfType → Clause → (ℕ → Image) → ℕ → ℕ → (ℕ → Bool) → Type 0
  Rest a G c θ n i U = EachSubgoal m c (SubgoalOk a G c θ) (λ V. Within (variables c) V) n i U

  either_way : (a : I) (mu_plus : (S T : Spine) → SamePlaces (input_places (m (family a))) S T → mu a S ≡ mu a T) (G : List LfType) (c : Clause) (θ : ℕ → Image) (S : Spine) → IsContext Σ G → IsContext Σ (scope c) → Hyp (mu a S) → (n i : ℕ) → i + suc n ≡ quantifiers c.type → (U : ℕ → Bool) (σ : ℕ → Image) → State a G c θ S i U σ → ((V : ℕ → Bool) (τ : ℕ → Image) → State a G c θ S (suc i) V τ → Rest a G c θ n (suc i) V → Solved a G c θ S) → (b : Bool) → variables c i ≡ b → choose b (Rest a G c θ n (suc i) U) ((A : LfType) → TypeAt (scope c) i A → SubgoalOk a G c θ U A × Rest a G c θ n (suc i) (ground_after m c A U)) → Solved a G c θ S
  either_way a mu_plus G c θ S g cc' ih n i q U σ st rec true e f = rec U σ (skip a G c θ S i U σ e st) f
  either_way a mu_plus G c θ S g cc' ih n i q U σ st rec false e f =
      let (A, at) = at_length (scope c) i (room i n (quantifiers c.type) (length c.outer) (length (scope c)) q (binders_length c.type c.outer)) in
      let (sg, rest) = f A at in
      let (σ', st') = solve1 a mu_plus G c θ S i U σ A g cc' ih st (e, at) sg in
      rec (ground_after m c A U) σ' st' rest
    where
      room : (i n k o l : ℕ) → i + suc n ≡ k → l ≡ k + o → i < l
      room i n k o l q e = omega arith

  solve : (a : I) (mu_plus : (S T : Spine) → SamePlaces (input_places (m (family a))) S T → mu a S ≡ mu a T) (G : List LfType) (c : Clause) (θ : ℕ → Image) (S : Spine) → IsContext Σ G → IsContext Σ (scope c) → Hyp (mu a S) → (n i : ℕ) → i + n ≡ quantifiers c.type → (U : ℕ → Bool) (σ : ℕ → Image) → State a G c θ S i U σ → EachSubgoal m c (SubgoalOk a G c θ) (λ V. Within (variables c) V) n i U → Solved a G c θ S
  solve a mu_plus G c θ S g cc' ih zero i q U σ st f = record { set = U; all_values = σ; state = subst (λ k. State a G c θ S k U σ) (at_end i (quantifiers c.type) q) st; full = f }
    where
      at_end : (i n : ℕ) → i + zero ≡ n → i ≡ n
      at_end i n q = omega arith
  solve a mu_plus G c θ S g cc' ih (suc n) i q U σ st f = either_way a mu_plus G c θ S g cc' ih n i q U σ st (λ V τ. solve a mu_plus G c θ S g cc' ih n (suc i) (one_on i n (quantifiers c.type) q) V τ) (variables c i) refl f

  -- what is no variable of the clause is one of its quantifiers
  within_clause : (c : Clause) (j : ℕ) → variables c j ≡ false → j < quantifiers c.type
  within_clause c j v = go (either_side j (quantifiers c.type))
    where
      either_side : (j n : ℕ) → (j < n) ⊎ (n ≤ j)
      either_side j zero = inr (omega arith)
      either_side zero (suc n) = inl (omega arith)
      either_side (suc j) (suc n) = more (either_side j n)
        where
          more : (j < n) ⊎ (n ≤ j) → (suc j < suc n) ⊎ (suc n ≤ suc j)
          more (inl l) = inl (omega arith)
          more (inr l) = inr (omega arith)

      beyond : (j n : ℕ) → n ≤ j → n + zero ≤ j
      beyond j n l = omega arith

      go : (j < quantifiers c.type) ⊎ (quantifiers c.type ≤ j) → j < quantifiers c.type
      go (inl l) = l
      go (inr l) = absurd (true≢false (sym (variable_beyond c.type everything zero (λ k l. refl) j (beyond j (quantifiers c.type) l)) ∙ v))

  -- the values, with the proofs of the subgoals
  abbrev filled : Clause → (ℕ → Image) → (ℕ → Term) → ℕ → Image
  filled c ρ π j = pick (variables c j) (ρ j) (put (skel_of (scope c) j) (π j))

  filled_same : (c : Clause) (ρ : ℕ → Image) (π : ℕ → Term) → SameOn (variables c) ρ (filled c ρ π)
  filled_same c ρ π j w = sym (ap (λ b. pick b (ρ j) (put (skel_of (scope c) j) (π j))) w)

  typed_at : (a : I) (G : List LfType) (h : Head) (c : Clause) (θ : ℕ → Image) (S : Spine) → ClauseOk a G h c θ → (r : Solved a G c θ S) → (j : ℕ) (A : LfType) → TypeAt (scope c) j A → (b : Bool) → variables c j ≡ b → ImageHasType Σ G (pick b (r.all_values j) (put (skel_of (scope c) j) (r.state.proofs j))) (substitute_type reduce (filled c r.all_values r.state.proofs) A)
  typed_at a G h c θ S ck r j A at true w = subst (ImageHasType Σ G (r.all_values j)) (agree_on_type reduce (variables c) r.all_values (filled c r.all_values r.state.proofs) A (filled_same c r.all_values r.state.proofs) (ck.shape j A at)) (r.state.values.typed j A at (r.full j w))
  typed_at a G h c θ S ck r j A at false w = (skeleton_substituted reduce (filled c r.all_values r.state.proofs) A ∙ sym (skel_of_at (scope c) j A at), subst (HasType Σ G (r.state.proofs j)) (agree_on_type reduce (variables c) r.all_values (filled c r.all_values r.state.proofs) A (filled_same c r.all_values r.state.proofs) (ck.shape j A at)) (r.state.proved j A (within_clause c j w) (w, at)).1)

  put_at : (a : I) (G : List LfType) (c : Clause) (θ : ℕ → Image) (S : Spine) (r : Solved a G c θ S) (j : ℕ) → outside c.type everything j ≡ false → (b : Bool) → variables c j ≡ b → IsTerm (pick b (r.all_values j) (put (skel_of (scope c) j) (r.state.proofs j)))
  put_at a G c θ S r j o true w = r.state.terms j o (r.full j w)
  put_at a G c θ S r j o false w = tt

  -- the head applied to all values
  finish : (a : I) (G : List LfType) (h : Head) (c : Clause) (θ : ℕ → Image) (S : Spine) (K : Kind) → IsContext Σ G → Σ.kinds (family a) ≡ Some K → ClauseOk a G h c θ → Solved a G c θ S → (T : Spine) × (M : Term) × SamePlaces (input_places (m (family a))) S T × SpineFitsKind Σ G T K × HasType Σ G M (atom (family a) T)
  finish a G h c θ S K g k ck r =
      let C : List LfType = scope c in
      let H : Spine = target_arguments c.type in
      let ρ : ℕ → Image = r.all_values in
      let τ : ℕ → Image = filled c ρ r.state.proofs in
      let same : SameOn (variables c) ρ τ = filled_same c ρ r.state.proofs in
      let typed : AllTyped Σ ok C G τ = λ j A at. typed_at a G h c θ S ck r j A at (variables c j) refl in
      let put_all : AllPut c.type τ = all_put c.type everything τ (λ j o. put_at a G c θ S r j o (variables c j) refl) in
      let over : AgreesOutside c τ θ = over_same c θ (outside c.type everything) ρ τ (λ j w. w) (λ j w. same j (outside_variable c.type everything everything (λ k v. v) j w)) r.state.over in
      let sp : SpineType Σ G (value_spine c.type τ) (substitute_type reduce (outer_images (quantifiers c.type) τ) c.type) (atom (target c.type) (substitute_spine reduce τ H)) = assemble Σ ok c.type c.outer G τ ck.type_ok typed put_all in
      let e : substitute_type reduce (outer_images (quantifiers c.type) τ) c.type ≡ substitute_type reduce θ c.type = agree_type Σ reduce c.outer (outer_images (quantifiers c.type) τ) θ c.type over ck.type_ok in
      let M : HasType Σ G (root h (value_spine c.type τ)) (atom (target c.type) (substitute_spine reduce τ H)) = (substitute_type reduce θ c.type, ck.head, subst (λ X. SpineType Σ G (value_spine c.type τ) X (atom (target c.type) (substitute_spine reduce τ H))) e sp) in
      let (L, l, s) = end_typed Σ ok c.type c.outer ck.type_ok in
      let q : L ≡ K = some_inj (sym l ∙ ap Σ.kinds ck.family_is ∙ k) in
      let part : PartialSubstitution Σ ok [] [] everything C G τ = record { typed = λ j A at u. typed j A at; sk = AllTyped-has_skeleton Σ ok [] C G τ typed; source_skeletons = skeleton_context_of_beside Σ ok [] C (binders_typed Σ ok c.type c.outer ck.outer_ok ck.type_ok); target_skeletons = skeleton_context_of_beside Σ ok [] G g } in
      let ks : SpineFitsKind Σ G (substitute_spine reduce τ H) (substitute_kind reduce τ L) = partial_substitution_keeps_kind_spines Σ ok [] [] everything C G τ H L part (kind_by_skeletons_beside Σ [] C L (family_kind Σ ok C (target c.type) L l)) (uses_spine_all everything H (λ i. refl)) s in (
        substitute_spine reduce τ H,
        root h (value_spine c.type τ),
        subst (SamePlaces (input_places (m (family a))) S) (agree_on_spine reduce (variables c) ρ τ H same ck.shape_head) r.state.plus,
        subst (SpineFitsKind Σ G (substitute_spine reduce τ H)) (closed_kind_substituted Σ reduce τ L (ok.kinds_ok (target c.type) L l) ∙ q) ks,
        subst (λ b. HasType Σ G (root h (value_spine c.type τ)) (atom b (substitute_spine reduce τ H))) ck.family_is M,
      )

  -- The induction: where each tuple of inputs is an instance of a clause that is right, the family of each state is total.
  module _ (mu_same : (b : I) (S T : Spine) → SamePlaces (input_places (m (family b))) S T → mu b S ≡ mu b T) (ctx_ok : (b : I) (G : List LfType) → Ctx b G → IsContext Σ G) (covered : (b : I) (G : List LfType) → Ctx b G → (S : Spine) (K : Kind) → Σ.kinds (family b) ≡ Some K → TypedPlaces Σ (input_places (m (family b))) G S K → Covered b G S) where
    total_by : (x : List ℕ) → Acc x → (b : I) (G : List LfType) → Ctx b G → (S : Spine) → mu b S ≡ x → (K : Kind) → Σ.kinds (family b) ≡ Some K → TypedPlaces Σ (input_places (m (family b))) G S K → Found (family b) G S K
    total_by x (acc r) b G w S e K k i =
        let (h, c, θ, σ, ck, v, o, ts, p, us) = covered b G w S K k i in
        let g : IsContext Σ G = ctx_ok b G w in
        let cc' : IsContext Σ (scope c) = binders_typed Σ ok c.type c.outer ck.outer_ok ck.type_ok in
        let ih : Hyp (mu b S) = λ b' G' w' T l K' k' i'. total_by (mu b' T) (r (mu b' T) (subst (LexLt (mu b' T)) e l)) b' G' w' T refl K' k' i' in
        let st : State b G c θ S zero (ground_first m c) σ = record { values = v; over = o; terms = ts; plus = p; uses = us; outer_in = λ j u. either_left (both (variables c j) _) u; proofs = λ j. root (variable zero) nil; proved = λ j A l v. absurd (none j l) } in
        finish b G h c θ S K g k ck (solve b (mu_same b) G c θ S g cc' ih (quantifiers c.type) zero (omega arith) (ground_first m c) σ st ck.subgoals)
      where
        none : (j : ℕ) → j < zero → ⊥
        none j l = omega arith

    pub total : (b : I) (G : List LfType) → Ctx b G → TotalAt Σ (m (family b)) (family b) G
    total b G w K S k i = total_by (mu b S) (well_founded (length (mu b S)) (mu b S) refl) b G w S refl K k i
