-- By number a goal of inputs is typed beside the head of a closed type, and what is typed beside one has the types of its places.
use Rattle.std.proofs.Common.{◌≡◌, ℕ, zero, suc, List, [], ◌∷◌, length, refl, sym, ap, ap₂, ◌∙◌, subst}
use Rattle.std.specs.Prelude.{Bool, true, false, Option, Some, None}
use Rattle.lf.specs.Syntax.{Term, Spine, nil, app, LfType, Kind, kind_pi, star, atom, Skeleton, base, kind_skeleton}
use Rattle.lf.specs.Substitution.{Image, keep, substitute_spine, lift, reduce}
use Rattle.lf.specs.SkeletonTyping.{HeadSkeletons, SpineSkeleton, SubstitutionBySkeletons}
use Rattle.lf.specs.Skeletons.{constant_skeletons, context_skeletons}
use Rattle.lf.specs.Typing.{Signature, IsType, IsContext, IsSignature, instantiate_kind}
use Rattle.lf.specs.Variables.{target, target_arguments, binders, onto, nothing}
use Rattle.lf.specs.Subordination.{Block, AreTypedBlocks}
use Rattle.lf.specs.Worlds.{instance, lift_over}
use Rattle.lf.proofs.Growth.{growth_keeps_typing, growth_keeps_types}
use Rattle.lf.proofs.Renaming.{substitute_identity}
use Rattle.lf.proofs.SkeletonTyping.{substitution_keeps_spine_skeletons}
use Rattle.lf.proofs.ToSkeletons.{kind_by_skeletons, kind_spine_has_skeleton}
use Rattle.lf.proofs.TypeLaws.{substitute_identity_kind, substitute_identity_type}
use Rattle.lf_checks.specs.Clause.{scope, constant_clause}
use Rattle.lf_checks.specs.Marks.{MentionChosenOnly, TypedPlaces}
use Rattle.lf_cases.specs.Candidates.{given_images}
use Rattle.lf_cases.specs.Case.{Item, free_variable, block_variable, Case, items_context, input_goal, goal_items, covered_places}
use Rattle.lf_cases.specs.Missing.{put_in}
use Rattle.lf_cases.specs.OutputGoal.{free_variables}
use Rattle.lf_cases.specs.Pattern.{Pattern, of_constant, given_at, is_given}
use Rattle.lf_cases.specs.Split.{HasNoBlockVariable}
use Rattle.lf_cases.proofs.Assemble.{binders_typed, end_typed}
use Rattle.lf_cases.proofs.GroundTypes.{clause_typed}
use Rattle.lf_cases.proofs.Split.{goal_without}
use Rattle.lf_unification.specs.Offering.{pi_over}
use Rattle.lf_coverage.specs.Heads.{HaveSkeletons}
use Rattle.lf_coverage.specs.Leaf.{IsTypedPattern}
use Rattle.lf_coverage.specs.TypedCase.{IsTypedBeside, TypedArguments}
use Rattle.lf_coverage.proofs.GivenValues.{given_fits}
use Rattle.lf_coverage.proofs.HeadMatching.{typed_places}
use Rattle.lf_coverage.proofs.InputTyped.{input_goal_typed}
use Rattle.lf_coverage.proofs.ItemsContext.{items_are_context}
use Rattle.lf_coverage.proofs.KeptTyped.{entries_same}
use Rattle.lf_coverage.proofs.MeetReady.{arguments_fit, given_near}
use Rattle.lf_coverage.proofs.Parts.{some_same}
use Rattle.lf_coverage.proofs.SolvedCase.{free_context_is, free_typed}
use Rattle.lf_numbered.specs.EntryConstants.{with_entries, IsFreeFrom}
use Rattle.lf_numbered.specs.EntryTermsInputs.{closed_head, ClauseIsClosed, InputGoalIsBesideByNumber, BesideHasTypedPlaces}
use Rattle.lf_numbered.specs.NeededForms.{FreeCaseIsNumbered, InputGoalIsNumbered}
use Rattle.lf_numbered.specs.NumberedBesideGiven.{IsTypedBesideByNumber, given_over, with_outside}
use Rattle.lf_numbered.specs.NumberedCase.{NumberedCase}
use Rattle.lf_numbered.specs.Numbering.{Numbering, add_variable, numbering, numbered}
use Rattle.lf_numbered.specs.OwnTerms.{blocks_of}
use Rattle.lf_numbered.specs.TypedNumbered.{IsTypedNumberedCase}
use Rattle.lf_numbered.proofs.EntryPatternsMatching.{entries_signature}
use Rattle.lf_numbered.proofs.EntrySignature.{closed_over, entries_kept, grown_contexts}
use Rattle.lf_numbered.proofs.EntryTermsBesideGiven.{images_same}
use Rattle.lf_numbered.proofs.EntryTermsConstants.{lift_keep}
use Rattle.lf_numbered.proofs.NumberedHeads.{target_over}
use Rattle.lf_numbered.proofs.TypedNumbered.{numbered_case_is_typed}
use mathlib.Core.Path.{fun_ext}

pub clause_is_closed : ClauseIsClosed
clause_is_closed Σ ok W typed c i = let (o, t) = clause_typed Σ ok W typed c i in (pi_over c.outer c.type, closed_over Σ c.outer c.type o t, target_over c.outer c.type)

-- a head of a closed type is typed
pub closed_is_typed : (Σ : Signature) (ok : IsSignature Σ) (U : LfType) → IsType Σ [] U → IsTypedPattern Σ (closed_head U)
closed_is_typed Σ ok U t = record { outer_typed = tt; clause_typed = binders_typed Σ ok U [] tt t; type_typed = end_typed Σ ok U [] t }

-- Free variables alone keep their numbers.
one_lifted : lift keep ≡ keep
one_lifted = lift_keep (atom zero nil ∷ [])

pub numbering_is : (first : ℕ) (I : List Item) → HasNoBlockVariable I → numbering first I ≡ record { blocks = []; variables = items_context I; images = keep }
numbering_is first [] h = refl
numbering_is first (free_variable A ∷ I) h = ap (add_variable A) (numbering_is first I h) ∙ ap₂ (λ (B : LfType) (s : ℕ → Image). record { blocks = []; variables = B ∷ items_context I; images = s }) (substitute_identity_type reduce A) one_lifted
numbering_is first (block_variable B υ ∷ I) h = absurd h

pub put_keep : (Ms : List (Option Term)) → put_in keep Ms ≡ Ms
put_keep [] = refl
put_keep (Some M ∷ Ms) = ap₂ (λ N Ns. Some N ∷ Ns) (substitute_identity reduce M) (put_keep Ms)
put_keep (None ∷ Ms) = ap (λ Ns. None ∷ Ns) (put_keep Ms)

pub free_case_is_numbered : FreeCaseIsNumbered
free_case_is_numbered first C n =
    ap (λ (n : Numbering). record { blocks = n.blocks; variables = n.variables; given = put_in n.images C.given; local = instance C.local n.images; family = C.family; arguments = put_in (lift_over C.local n.images) C.arguments }) (numbering_is first C.items n)
    ∙ ap₂ (λ Ms D. record { blocks = []; variables = items_context C.items; given = Ms; local = D; family = C.family; arguments = put_in (lift_over C.local keep) C.arguments }) (put_keep C.given) (entries_same C.local)
    ∙ ap (λ Ns. record { blocks = []; variables = items_context C.items; given = C.given; local = C.local; family = C.family; arguments = Ns }) (ap (λ σ. put_in σ C.arguments) (lift_keep C.local) ∙ put_keep C.arguments)

pub input_goal_is_numbered : InputGoalIsNumbered
input_goal_is_numbered first a m K = free_case_is_numbered first (input_goal a m K) (goal_without m K (λ i. i) [] tt)

-- nothing is given
none_at : (D : List LfType) (i : ℕ) → given_at (given_over D [] []) i ≡ None
none_at [] i = refl
none_at (A ∷ D) zero = refl
none_at (A ∷ D) (suc i) = none_at D i

pub none_given : (D : List LfType) (i : ℕ) → is_given (given_over D [] []) i ≡ false
none_given [] i = refl
none_given (A ∷ D) zero = refl
none_given (A ∷ D) (suc i) = none_given D i

pub none_fit : (κ : HeadSkeletons) (Γ : List Skeleton) (D : List LfType) → HaveSkeletons κ Γ (given_over D [] [])
none_fit κ Γ [] = tt
none_fit κ Γ (A ∷ D) = none_fit κ Γ D

module _ (Σ : Signature) (ok : IsSignature Σ) (W : List Block) (typed : AreTypedBlocks Σ W) (first : ℕ) (free : IsFreeFrom Σ first) where
  arguments_more : (Bs : List Block) (G : List LfType) (Ms : List (Option Term)) (T : Spine) (K : Kind) → TypedArguments Σ G Ms T K → TypedArguments (with_entries Σ first Bs) G Ms T K
  arguments_more Bs G [] nil star h = h
  arguments_more Bs G [] nil (kind_pi A K) h = absurd h
  arguments_more Bs G [] (app N T) K h = absurd h
  arguments_more Bs G (M ∷ Ms) nil K h = absurd h
  arguments_more Bs G (M ∷ Ms) (app N T) star h = absurd h
  arguments_more Bs G (Some M ∷ Ms) (app N T) (kind_pi A K) (m, h) = (growth_keeps_typing Σ (with_entries Σ first Bs) (entries_kept Σ first Bs) (λ b K q. q) G M A m, arguments_more Bs G Ms T (instantiate_kind A M K) h)
  arguments_more Bs G (None ∷ Ms) (app N T) (kind_pi A K) h = arguments_more Bs G Ms T (instantiate_kind A N K) h

  module _ (a : ℕ) (m : List Bool) (K : Kind) (kd : Σ.kinds a ≡ Some K) (mention : MentionChosenOnly nothing m K) (U : LfType) (t : IsType Σ [] U) (ta : target U ≡ a) where
    abbrev I : List Item
    I = goal_items m K (λ i. i) []

    abbrev X : List LfType
    X = items_context I

    abbrev Ms : List (Option Term)
    Ms = (input_goal a m K).arguments

    abbrev p : Pattern
    p = closed_head U

    abbrev O : List LfType
    O = scope (constant_clause U)

    abbrev Σ₁ : Signature
    Σ₁ = with_entries Σ first []

    abbrev Gs : List (Option Term)
    Gs = given_over (binders [] U) [] []

    b : IsTypedBeside Σ W (input_goal a m K) p
    b = input_goal_typed Σ ok W typed a m K kd mention (constant_clause U) (of_constant U) (closed_is_typed Σ ok U t) ta

    abbrev G : NumberedCase
    G = record { blocks = []; variables = X; given = []; local = []; family = a; arguments = Ms }

    goal_is : numbered first (input_goal a m K) ≡ G
    goal_is = input_goal_is_numbered first a m K

    tc : IsTypedNumberedCase Σ first W G
    tc = subst (IsTypedNumberedCase Σ first W) goal_is (numbered_case_is_typed Σ ok W typed first free (input_goal a m K) b.by_skeletons b.local_typed)

    context₁ : IsContext Σ₁ X
    context₁ = grown_contexts Σ (with_entries Σ first []) (entries_kept Σ first []) (λ b K q. q) X (items_are_context Σ ok W typed I b.by_skeletons.items)

    same_kind : b.kind ≡ K
    same_kind = some_same (sym b.of_family ∙ kd)

    arguments₁ : TypedArguments Σ₁ (onto (items_context (free_variables X)) O) Ms (substitute_spine reduce (given_images O Gs (length (items_context (free_variables X)))) (target_arguments U)) K
    arguments₁ = subst (λ Y. TypedArguments Σ₁ (onto Y O) Ms (substitute_spine reduce (given_images O Gs (length Y)) (target_arguments U)) K) (sym (free_context_is X)) (subst (λ s. TypedArguments Σ₁ (onto X O) Ms (substitute_spine reduce s (target_arguments U)) K) (fun_ext (λ i. images_same O [] Gs (length X) i (sym (none_at (binders [] U) i)))) (arguments_more [] (onto X O) Ms _ K (subst (TypedArguments Σ (onto X O) Ms _) same_kind b.arguments)))

    pub goal_beside : IsTypedBesideByNumber Σ first W (numbered first (input_goal a m K)) (closed_head U)
    goal_beside = subst (λ D. IsTypedBesideByNumber Σ first W D p) (sym goal_is) (record {
      typed = tc;
      outer = keep;
      stands = tt;
      beside = record {
        by_skeletons = record {
          items = free_typed Σ₁ [] X context₁;
          given = none_fit (constant_skeletons Σ₁) _ (binders [] U);
          arguments = subst (λ Y. HaveSkeletons (constant_skeletons Σ₁) (context_skeletons Y) Ms) (sym (free_context_is X)) tc.arguments;
        };
        local_typed = subst (IsContext Σ₁) (sym (free_context_is X)) context₁;
        same_family = ta;
        kind = K;
        of_family = kd;
        given = record { typed = λ i A g u. absurd (no (sym (none_given (binders [] U) i) ∙ u)); closed = λ i A g u. absurd (no (sym (none_given (binders [] U) i) ∙ u)) };
        local = refl;
        arguments = arguments₁;
      };
    })
      where
        no : false ≡ true → ⊥
        no e = cc

pub input_goal_is_beside_by_number : InputGoalIsBesideByNumber
input_goal_is_beside_by_number Σ ok W typed first free a m K kd mention U t ta = goal_beside Σ ok W typed first free a m K kd mention U t ta

pub beside_has_typed_places : BesideHasTypedPlaces
beside_has_typed_places Σ ok W typed first free C U t b K kd =
    let Σ₁ : Signature = with_entries Σ first (blocks_of C.blocks) in
    let ok₁ : IsSignature Σ₁ = entries_signature Σ ok W typed first free C b.typed in
    let p : Pattern = closed_head U in
    let D : Case = with_outside C p b.outer in
    let Y : List LfType = items_context (free_variables C.variables) in
    let O : List LfType = scope (constant_clause U) in
    let tp : IsTypedPattern Σ₁ p = closed_is_typed Σ₁ ok₁ U (growth_keeps_types Σ Σ₁ (entries_kept Σ first (blocks_of C.blocks)) (λ b K q. q) [] U t) in
    let no_blocks : AreTypedBlocks Σ₁ [] = λ B m. absurd m in
    let kk : b.beside.kind ≡ K = some_same (sym b.beside.of_family ∙ ap Σ.kinds (sym b.beside.same_family) ∙ kd) in
    let fits : SubstitutionBySkeletons (constant_skeletons Σ₁) (context_skeletons O) (context_skeletons (onto Y O)) (given_images O D.given (length Y)) = given_fits Σ₁ Y O D.given (given_near Σ₁ ok₁ [] no_blocks D p tp b.beside) in
    let S : Spine = substitute_spine reduce (given_images O D.given (length Y)) (target_arguments U) in
    let st : SpineSkeleton (constant_skeletons Σ₁) (context_skeletons (onto Y O)) S (kind_skeleton 0 b.beside.kind) (base 0) = substitution_keeps_spine_skeletons (constant_skeletons Σ₁) (context_skeletons O) (context_skeletons (onto Y O)) (given_images O D.given (length Y)) (target_arguments U) (kind_skeleton 0 b.beside.kind) (base 0) fits (kind_spine_has_skeleton Σ₁ 0 O (target_arguments U) b.beside.kind (arguments_fit Σ₁ ok₁ [] no_blocks D p tp b.beside)) in
    let (T, hT, pT) = typed_places Σ₁ ok₁ Y O C.arguments S K [] keep (kind_by_skeletons Σ₁ [] K (ok₁.kinds_ok (target U) K kd)) (λ j s g. absurd g) (subst (λ L. HaveSkeletons (constant_skeletons Σ₁) (context_skeletons (onto L Y)) C.arguments) b.beside.local b.beside.by_skeletons.arguments) (subst (λ L. SpineSkeleton (constant_skeletons Σ₁) (context_skeletons (onto Y O)) S (kind_skeleton 0 L) (base 0)) kk st) (subst (TypedArguments Σ₁ (onto Y O) C.arguments S) (kk ∙ sym (substitute_identity_kind reduce K)) (subst (λ L. TypedArguments Σ₁ (onto L (onto Y O)) C.arguments S b.beside.kind) b.beside.local b.beside.arguments)) in
    (T, hT, subst (λ G. TypedPlaces Σ₁ (covered_places C.arguments) G T K) (free_context_is C.variables) pT)
