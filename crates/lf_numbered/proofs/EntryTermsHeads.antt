-- What is read off a case of inputs by number for the typed head of a clause, whatever worlds it comes from, is typed, where the case's arguments have the
-- types of their places. So the case is an instance of the head.
use Rattle.std.proofs.Common.{◌≡◌, ℕ, zero, List, [], ◌∷◌, length, refl, sym, ap, ◌∙◌, subst, true≢false}
use Rattle.std.specs.Prelude.{Bool, true, false, Some, None}
use Rattle.lf.specs.Syntax.{Term, Spine, LfType, pi, atom, Kind, skeleton}
use Rattle.lf.specs.Substitution.{Image, keep, substitute_spine, substitute_type, reduce}
use Rattle.lf.specs.SkeletonTyping.{SkeletonAt, TermSkeleton}
use Rattle.lf.specs.Skeletons.{constant_skeletons, family_skeletons, context_skeletons}
use Rattle.lf.specs.Typing.{Signature, TypeAt, HasType, IsContext, IsType, SpineFitsKind, IsSignature}
use Rattle.lf.specs.Variables.{target, target_arguments, binders, nothing, everything}
use Rattle.lf.specs.Subordination.{Block, AreTypedBlocks}
use Rattle.lf.proofs.Patch.{patch, patch_same}
use Rattle.lf.proofs.Substitution.{family_kind}
use Rattle.lf.proofs.ToSkeletons.{type_by_skeletons, variable_has_skeleton}
use Rattle.lf.proofs.TypeLaws.{skeleton_substituted, substitute_identity_kind}
use Rattle.lf_checks.specs.Clause.{Clause, scope, outside}
use Rattle.lf_checks.specs.Ground.{UsesGoal}
use Rattle.lf_checks.specs.Marks.{MentionChosenOnly, TypedPlaces}
use Rattle.lf_checks.specs.Strict.{strict_at}
use Rattle.lf_cases.specs.Case.{covered_places}
use Rattle.lf_cases.specs.Cover.{AreTerms}
use Rattle.lf_cases.specs.Pattern.{Origin, Pattern, origin, head_pattern, given_at, is_given, ground_in}
use Rattle.lf_coverage.specs.OrElse.{or_else}
use Rattle.lf_coverage.specs.Leaf.{IsTypedPattern}
use Rattle.lf_coverage.specs.Matching.{ArePlaces, HoldsTypes, found_at}
use Rattle.lf_coverage.proofs.FoundSkeletons.{found_at_skeleton}
use Rattle.lf_coverage.proofs.FoundTyped.{at_typed, same_places}
use Rattle.lf_coverage.proofs.GroundHolds.{typed_ground_holds}
use Rattle.lf_coverage.proofs.Leaves.{head_is_typed}
use Rattle.lf_coverage.proofs.Matching.{found_is, ground_is_strict}
use Rattle.lf_coverage.proofs.Parts.{some_same}
use Rattle.lf_numbered.specs.EntryConstants.{with_entries, IsFreeFrom}
use Rattle.lf_numbered.specs.EntryPatterns.{IsInstanceOfPattern}
use Rattle.lf_numbered.specs.EntryPatternsMatching.{placed_type, found_placed, placed_values}
use Rattle.lf_numbered.specs.EntryTerms.{IsTried, own_values}
use Rattle.lf_numbered.specs.EntryTermsLaws.{HeadMatchIsNumberedInstance}
use Rattle.lf_numbered.specs.NumberedCase.{NumberedCase}
use Rattle.lf_numbered.specs.OwnTerms.{blocks_of}
use Rattle.lf_numbered.specs.TypedNumbered.{IsTypedNumberedCase}
use Rattle.lf_numbered.proofs.EntryPatternsMatching.{entries_signature}
use Rattle.lf_numbered.proofs.EntryPatternsStrict.{strict_goal_put}
use Rattle.lf_numbered.proofs.EntryTermsInstance.{matched_found}
use Rattle.lf_numbered.proofs.EntryTermsPlaced.{K, O, R, σ, context₁, own_is, own_placed, placed₁, places, type₁, ν_fits, ν_places}
use Rattle.lf_numbered.proofs.EntryTermsTried.{OuterFacts, tried_facts}

-- the type of a clause whose head is typed over its scope
context_below : (Σ : Signature) (A : LfType) (G : List LfType) → IsContext Σ (binders G A) → IsContext Σ G
context_below Σ (pi B A) G k = (context_below Σ A (B ∷ G) k).0
context_below Σ (atom a S) G k = k

pub type_of_head : (Σ : Signature) (A : LfType) (G : List LfType) → IsContext Σ (binders G A) → IsType Σ (binders G A) (atom (target A) (target_arguments A)) → IsType Σ G A
type_of_head Σ (pi B A) G k t = ((context_below Σ A (B ∷ G) k).1, type_of_head Σ A (B ∷ G) k t)
type_of_head Σ (atom a S) G k t = t

module _ (Σ : Signature) (ok : IsSignature Σ) (W : List Block) (typed : AreTypedBlocks Σ W) (first : ℕ) (free : IsFreeFrom Σ first) (C : NumberedCase) (tc : IsTypedNumberedCase Σ first W C) (c : Clause) (o : Origin c) (tp : IsTypedPattern Σ (head_pattern c o)) (none_given : C.given ≡ []) (no_local : C.local ≡ []) (L : Kind) (kd : Σ.kinds (target c.type) ≡ Some L) (mention : MentionChosenOnly nothing (covered_places C.arguments) L) (T : Spine) (hT : ArePlaces C.arguments T) (pT : TypedPlaces (with_entries Σ first (blocks_of C.blocks)) (covered_places C.arguments) C.variables T L) (φ : ℕ → Image) (tried : IsTried first C o false φ) (g : UsesGoal (ground_in (head_pattern c o) (covered_places C.arguments) C.given) (covered_places C.arguments) (head_pattern c o).type) (ft : AreTerms c (ground_in (head_pattern c o) (covered_places C.arguments) C.given) (own_values C (head_pattern c o) φ)) (same : ArePlaces C.arguments (target_arguments (substitute_type reduce (own_values C (head_pattern c o) φ) (placed_type (head_pattern c o) φ)))) where
  abbrev p : Pattern
  p = head_pattern c o

  abbrev Σ₁ : Signature
  Σ₁ = with_entries Σ first (blocks_of C.blocks)

  ok₁ : IsSignature Σ₁
  ok₁ = entries_signature Σ ok W typed first free C tc

  f : OuterFacts Σ ok W typed first free C tc c φ
  f = tried_facts Σ ok W typed first free C tc o false φ tried

  abbrev m : List Bool
  m = covered_places C.arguments

  abbrev V : ℕ → Bool
  V = ground_in p m C.given

  abbrev ρ : ℕ → Image
  ρ = σ Σ ok W typed first free C tc p tp φ f.outer_typed f.fixed

  -- the clause's own variables over the case's, and the head's arguments there
  abbrev D : List LfType
  D = K Σ ok W typed first free C tc p tp φ f.outer_typed f.fixed

  abbrev S : Spine
  S = substitute_spine reduce ρ (target_arguments c.type)

  not_given : (j : ℕ) → is_given C.given j ≡ false
  not_given j = subst (λ Ns. is_given Ns j ≡ false) (sym none_given) refl

  strictly : (j : ℕ) → outside c.type everything j ≡ false → V j ≡ true → strict_at m nothing nothing j S ≡ true
  strictly j o u = strict_goal_put (constant_skeletons Σ₁) (family_skeletons Σ₁) m nothing (outside c.type c.fixed) nothing j (context_skeletons (O Σ ok W typed first free C tc p tp φ f.outer_typed f.fixed)) (context_skeletons D) ρ p.type (places Σ ok W typed first free C tc p tp φ f.outer_typed f.fixed j o) (type_by_skeletons Σ₁ (O Σ ok W typed first free C tc p tp φ f.outer_typed f.fixed) p.type (type₁ Σ ok W typed first free C tc p tp φ f.outer_typed f.fixed)) (ground_is_strict p m C.given j (not_given j) o u)

  read : (j : ℕ) (N : Term) → found_placed C p φ j ≡ Some N → found_at nothing nothing zero j S C.arguments ≡ Some N
  read j N q = sym (ap (λ x. or_else x (found_at nothing nothing zero j S C.arguments)) (subst (λ Ns. given_at Ns j ≡ None) (sym none_given) refl)) ∙ q

  fits : SpineFitsKind Σ₁ D S L
  fits = let (J, l, s) = placed₁ Σ ok W typed first free C tc p tp φ f.outer_typed f.fixed in subst (SpineFitsKind Σ₁ D S) (some_same (sym l ∙ kd)) s

  skel : (j : ℕ) (A : LfType) (N : Term) → TypeAt (scope c) j A → outside c.type everything j ≡ false → V j ≡ true → found_placed C p φ j ≡ Some N → TermSkeleton (constant_skeletons Σ₁) (context_skeletons C.variables) N (skeleton A)
  skel j A N h o u q = found_at_skeleton Σ₁ ok₁ nothing D C.variables (own_values C p φ) keep j (skeleton A) N S L C.arguments T L (context₁ Σ ok W typed first free C tc p tp φ f.outer_typed f.fixed) (family_kind Σ₁ ok₁ D (target c.type) L kd) (λ y b. absurd cc) (subst (SkeletonAt (context_skeletons D) j) (skeleton_substituted reduce ρ A) (variable_has_skeleton D j (substitute_type reduce ρ A) (own_placed Σ ok W typed first free C tc p tp φ f.outer_typed f.fixed j A h o))) fits refl pT hT same (strictly j o u) (read j N q)

  abbrev ν : ℕ → Image
  ν = patch V C.variables (own_values C p φ)

  val : (j : ℕ) (A : LfType) (N : Term) → TypeAt (scope c) j A → outside c.type everything j ≡ false → V j ≡ true → found_placed C p φ j ≡ Some N → HasType Σ₁ C.variables N (substitute_type reduce ν (substitute_type reduce ρ A))
  val j A N h o u q = at_typed Σ₁ ok₁ (R Σ ok W typed first free C tc p tp φ f.outer_typed f.fixed g ft same skel) nothing D C.variables ν j (substitute_type reduce ρ A) (skeleton A) N m S L [] keep keep nothing T (context₁ Σ ok W typed first free C tc p tp φ f.outer_typed f.fixed) (ν_fits Σ ok W typed first free C tc p tp φ f.outer_typed f.fixed g ft same skel) (λ y b. absurd cc) (sym (patch_same V C.variables (own_values C p φ) j u) ∙ own_is Σ ok W typed first free C tc p tp φ f.outer_typed f.fixed j o ∙ found_is j (scope c) A (found_placed C p φ j) N h q) (own_placed Σ ok W typed first free C tc p tp φ f.outer_typed f.fixed j A h o) tt (λ y X k. absurd k) (ok₁.kinds_ok (target c.type) L kd) mention (λ y k. absurd cc) (subst (SpineFitsKind Σ₁ D S) (sym (substitute_identity_kind reduce L)) fits) pT (same_places C.arguments T (substitute_spine reduce ν S) hT (ν_places Σ ok W typed first free C tc p tp φ f.outer_typed f.fixed g ft same skel)) (strictly j o u)

  closed : HoldsTypes V (scope c)
  closed = subst (λ Ms. UsesGoal (ground_in p m Ms) m p.type → HoldsTypes (ground_in p m Ms) (scope c)) (sym none_given) (λ u. typed_ground_holds Σ ok c tp.outer_typed (type_of_head Σ c.type c.outer tp.clause_typed tp.type_typed) L kd m mention u) g

  pub head_found : (h : IsInstanceOfPattern Σ first C (head_pattern c o)) × (h.values ≡ placed_values C (head_pattern c o) φ)
  head_found = matched_found Σ ok W typed first free C tc p tp φ tried own (ap length no_local) g ft same skel closed val
    where
      own : (j : ℕ) → is_given C.given j ≡ true → outside c.type everything j ≡ false
      own j u = absurd (true≢false (sym u ∙ not_given j))

pub head_match_is_numbered_instance : HeadMatchIsNumberedInstance
head_match_is_numbered_instance Σ ok W typed first free C tc c d none_given no_local L kd mention T hT pT φ tried (g, ft, same) = head_found Σ ok W typed first free C tc c (origin d) (head_is_typed Σ ok W typed c d) none_given no_local L kd mention T hT pT φ tried g ft same
