-- What is known of each candidate of a case by number, by a fact of skeletons.
use Rattle.std.proofs.Common.{◌≡◌, ℕ, zero, List, [], ◌∷◌, length, refl, sym, ap, ◌∙◌, subst, Option, Some, None}
use Rattle.std.specs.Prelude.{Bool, true, false}
use Rattle.lf.specs.Syntax.{Term, Spine, nil, app, LfType, Kind, Skeleton, arrow, kind_pi, star, skeleton}
use Rattle.lf.specs.Substitution.{Image, keep, lift, single, substitute_kind, substitute_type, reduce}
use Rattle.lf.specs.SkeletonTyping.{HeadSkeletons}
use Rattle.lf.specs.Skeletons.{constant_skeletons, context_skeletons, type_skeleton}
use Rattle.lf.specs.Typing.{Signature, TypeAt, instantiate_kind}
use Rattle.lf.specs.Variables.{target_arguments, binders, nothing, onto}
use Rattle.lf.specs.Subordination.{Block, Member}
use Rattle.lf.specs.Worlds.{under_all}
use Rattle.lf.proofs.ToSkeletons.{typed_has_skeleton}
use Rattle.lf.proofs.TypeLaws.{skeleton_substituted}
use Rattle.lf_unification.specs.Offering.{pi_over, local_arguments}
use Rattle.lf_checks.specs.Clause.{scope}
use Rattle.lf_cases.specs.Candidates.{beside_set, candidates, candidates_at, flexible, free_among, hide_all, with_given}
use Rattle.lf_cases.specs.Case.{Item, covered_places, items_context}
use Rattle.lf_cases.specs.OutputGoal.{free_variables}
use Rattle.lf_cases.specs.Pattern.{Pattern}
use Rattle.lf_cases.specs.Reached.{items_onto}
use Rattle.lf_coverage.specs.OrElse.{or_else}
use Rattle.lf_coverage.specs.Heads.{HaveSkeletons}
use Rattle.lf_coverage.specs.TypedCase.{TypedArguments}
use Rattle.lf_coverage.proofs.EachCandidate.{Each, each_none, each_then, of_each_once}
use Rattle.lf_coverage.proofs.Parts.{some_same}
use Rattle.lf_coverage.proofs.PatternPruned.{over_target}
use Rattle.lf_coverage.proofs.SolvedCase.{free_context_is}
use Rattle.lf_numbered.specs.EntryConstants.{IsFreeFrom, entry_constant, entry_images, entry_type, with_entries}
use Rattle.lf_numbered.specs.NumberedArguments.{read_all}
use Rattle.lf_numbered.specs.NumberedBesideGiven.{IsTypedBesideByNumber, with_outside}
use Rattle.lf_numbered.specs.NumberedCallsReached.{block_items, numbered_candidates, with_entry_variables}
use Rattle.lf_numbered.specs.NumberedCase.{NumberedCase}
use Rattle.lf_numbered.specs.OwnTerms.{blocks_of, own_terms}
use Rattle.lf_numbered.specs.Reading.{read}
use Rattle.lf_numbered.proofs.EntrySignature.{else_none, else_second}
use Rattle.lf_numbered.proofs.NumberedCandidatesPlaces.{LocalHave, behind_some, bound_apart, entries_not_bound, entries_not_free, entries_read, entry_of_worlds, free_are_good, no_entry, others_have, read_as}
use Rattle.lf_numbered.proofs.NumberedCandidatesWalk.{ConstantsIn, InBehind, Takes, Way, from_term}
use Rattle.lf_numbered.proofs.OwnTerms.{entry_from}
use Rattle.lf_numbered.proofs.WritingLow.{skeleton_target}

module _ (Own : ℕ → Bool) (In : Skeleton → Type 0) (parts : (a b : Skeleton) → In (arrow a b) → In a × In b) (own : (t : Skeleton) → In t → Own (skeleton_target t) ≡ true) where
  -- the types of these places have the fact
  abbrev pub PlacesHave : List Bool → Kind → Type 0
  PlacesHave [] K = Unit {0}
  PlacesHave (b ∷ bs) star = Unit {0}
  PlacesHave (true ∷ bs) (kind_pi A K) = In (skeleton A) × PlacesHave bs K
  PlacesHave (false ∷ bs) (kind_pi A K) = PlacesHave bs K

  places_put : (bs : List Bool) (σ : ℕ → Image) (K : Kind) → PlacesHave bs K → PlacesHave bs (substitute_kind reduce σ K)
  places_put [] σ K p = tt
  places_put (b ∷ bs) σ star p = tt
  places_put (true ∷ bs) σ (kind_pi A K) (a, p) = (subst In (sym (skeleton_substituted reduce σ A)) a, places_put bs (lift σ) K p)
  places_put (false ∷ bs) σ (kind_pi A K) p = places_put bs (lift σ) K p

  -- The arguments of a case
  from_arguments : (Σ : Signature) (P : ℕ → Type 0) (B F Q : ℕ → Bool) (n : ℕ) (G : List LfType) (Δ : List Skeleton) (f : ℕ → Option (ℕ × ℕ)) → Way (constant_skeletons Σ) Own In parts own P B F n (context_skeletons G) Δ f → (Ms : List (Option Term)) (T U : Spine) (K : Kind) → PlacesHave (covered_places Ms) K → TypedArguments Σ G Ms T K → HaveSkeletons (constant_skeletons Σ) Δ Ms → Each P (candidates_at B F Q n (read_all f Ms) U)
  from_arguments Σ P B F Q n G Δ f w [] T U K p t h = each_none P
  from_arguments Σ P B F Q n G Δ f w (Some M ∷ Ms) T nil K p t h = each_none P
  from_arguments Σ P B F Q n G Δ f w (None ∷ Ms) T nil K p t h = each_none P
  from_arguments Σ P B F Q n G Δ f w (M ∷ Ms) nil (app N U) K p t h = absurd t
  from_arguments Σ P B F Q n G Δ f w (M ∷ Ms) (app N T) (app N' U) star p t h = absurd t
  from_arguments Σ P B F Q n G Δ f w (Some M ∷ Ms) (app N T) (app N' U) (kind_pi A K) (a, p) (m, t) ((u, s), h) =
      each_then P (candidates B F Q n (read f M) N') (candidates_at B F Q n (read_all f Ms) U)
      (from_term (constant_skeletons Σ) Own In parts own P B F Q n (context_skeletons G) Δ f w M N' (skeleton A) u a (typed_has_skeleton Σ G M A m) s)
      (from_arguments Σ P B F Q n G Δ f w Ms T U (instantiate_kind A M K) (places_put (covered_places Ms) (single (skeleton A) M) K p) t h)
  from_arguments Σ P B F Q n G Δ f w (None ∷ Ms) (app N T) (app N' U) (kind_pi A K) p t h = from_arguments Σ P B F Q n G Δ f w Ms T U (instantiate_kind A N K) (places_put (covered_places Ms) (single (skeleton A) N) K p) t h

  module _ (Σ : Signature) (W : List Block) (first : ℕ) (free : IsFreeFrom Σ first) (declared : (c : ℕ) (Y : LfType) → Σ.types c ≡ Some Y → Own (skeleton_target (skeleton Y)) ≡ true → In (skeleton Y)) (entries : (B : Block) (E : LfType) → Member B W → Member E B.entries → Own (skeleton_target (skeleton E)) ≡ true → In (skeleton E)) (C : NumberedCase) (q p : Pattern) (tb : IsTypedBesideByNumber Σ first W C q) (same : length C.local ≡ length (binders [] p.type)) where
    abbrev Σ₁ : Signature
    Σ₁ = with_entries Σ first (blocks_of C.blocks)

    abbrev D : List LfType
    D = binders [] p.type

    abbrev f : ℕ → Option (ℕ × ℕ)
    f = entries_read first C.blocks C.variables C.local (binders [] p.type) same

    type_of : (c : ℕ) (t : Skeleton) (x : Option LfType) → type_skeleton x ≡ Some t → (Y : LfType) × (x ≡ Some Y) × (t ≡ skeleton Y)
    type_of c t None e = absurd cc
    type_of c t (Some Y) e = (Y, refl, sym (some_same e))

    constants_in : ConstantsIn (constant_skeletons Σ₁) Own In parts own f
    constants_in c t e o = ((λ z. whole z), λ m v z. left m v z)
      where
        whole : entries_read first C.blocks C.variables C.local (binders [] p.type) same c ≡ None → In t
        whole z =
            let k : entry_constant zero first (blocks_of C.blocks) c ≡ None = no_entry first C.blocks C.variables C.local D same c z in
            let (Y, y, s) = type_of c t (Σ₁.types c) e in
            let there : Σ.types c ≡ Some Y = sym (else_none (Σ.types c)) ∙ ap (λ x. or_else (Σ.types c) (entry_type x)) (sym k) ∙ y in
            subst In (sym s) (declared c Y there (ap (λ z. Own (skeleton_target z)) (sym s) ∙ o))

        left : (m v : ℕ) → entries_read first C.blocks C.variables C.local (binders [] p.type) same c ≡ Some (m, v) → InBehind (constant_skeletons Σ₁) Own In parts own m t
        left m v z =
            let (w, ec, k, l, i) = read_as first C.blocks C.variables C.local D same c m v z in
            let (mw, me) = entry_of_worlds Σ₁ W C.variables first (own_terms first C.blocks) C.blocks tb.typed.variables.blocks c ec k in
            let (Y, y, s) = type_of c t (Σ₁.types c) e in
            let P : LfType = substitute_type reduce (entry_images ec.from (local_arguments ec.block.some) ec.before keep) ec.entry in
            let there : Y ≡ pi_over ec.block.some P = some_same (sym y ∙ else_second (Σ.types c) (entry_type (entry_constant zero first (blocks_of C.blocks) c)) (entry_type (Some ec)) (free.types_free c (entry_from zero first (blocks_of C.blocks) c ec k)) (ap entry_type k)) in
            let r : skeleton P ≡ skeleton ec.entry = skeleton_substituted reduce (entry_images ec.from (local_arguments ec.block.some) ec.before keep) ec.entry in
            let st : t ≡ skeleton (pi_over ec.block.some P) = s ∙ ap skeleton there in
            let oe : Own (skeleton_target (skeleton ec.entry)) ≡ true = ap (λ z. Own (skeleton_target z)) (sym r) ∙ ap Own (sym (over_target ec.block.some P)) ∙ ap (λ z. Own (skeleton_target z)) (sym st) ∙ o in
            subst (λ n. InBehind (constant_skeletons Σ₁) Own In parts own n t) (sym l) (subst (InBehind (constant_skeletons Σ₁) Own In parts own (length ec.block.some)) (sym st) (behind_some (constant_skeletons Σ₁) Own In parts own ec.block.some P (subst In (sym r) (entries ec.block ec.entry mw me oe))))

    -- Each candidate
    pub each_candidate : LocalHave (constant_skeletons (with_entries Σ first (blocks_of C.blocks))) Own In parts own C.local → PlacesHave (covered_places C.arguments) tb.beside.kind → Each (λ x. (X : LfType) → TypeAt C.variables x X → Takes (constant_skeletons (with_entries Σ first (blocks_of C.blocks))) Own In parts own (skeleton X)) (numbered_candidates first C p)
    each_candidate local places =
        let κ : HeadSkeletons = constant_skeletons Σ₁ in
        let P : ℕ → Type 0 = λ x. (X : LfType) → TypeAt C.variables x X → Takes (constant_skeletons (with_entries Σ first (blocks_of C.blocks))) Own In parts own (skeleton X) in
        let Z : List LfType = scope q.clause in
        let G : List LfType = onto C.local (onto C.variables Z) in
        let J : List Item = block_items C.blocks in
        let F : ℕ → Bool = hide_all D (free_among (items_onto (free_variables C.variables) J)) in
        let w : Way κ Own In parts own P (under_all D nothing) F (length D) (context_skeletons G) (context_skeletons (onto C.local C.variables)) f = record {
          good = free_are_good κ Own In parts own C.variables Z J C.local D same;
          other = others_have κ Own In parts own C.variables Z J C.local D same local;
          apart = bound_apart D (free_among (items_onto (free_variables C.variables) J));
          far = entries_not_bound first C.blocks C.variables C.local D same;
          not_free = entries_not_free first C.blocks C.variables C.local D same;
          constants = constants_in;
        } in
        let T : Spine = with_given (with_outside C q tb.outer) q.clause (binders [] q.type) (target_arguments q.type) in
        let t : TypedArguments Σ₁ G C.arguments T tb.beside.kind = subst (λ V. TypedArguments Σ₁ (onto C.local (onto V Z)) C.arguments T tb.beside.kind) (free_context_is C.variables) tb.beside.arguments in
        let U : Spine = with_given (with_entry_variables first C) p.clause D (target_arguments p.type) in
        let Q : ℕ → Bool = hide_all D (beside_set (length (items_context (with_entry_variables first C).items)) (free_among (items_onto (free_variables C.variables) J)) (flexible p.clause)) in
        of_each_once P [] (candidates_at (under_all D nothing) F Q (length D) (read_all f C.arguments) U) (from_arguments Σ₁ P (under_all D nothing) F Q (length D) G (context_skeletons (onto C.local C.variables)) f w C.arguments T U tb.beside.kind places t tb.typed.arguments)
