-- Tuples, values and arguments of patterns whose constants move to where there is room for entries.
use Rattle.std.proofs.Common.{◌≡◌, ℕ, suc, List, [], ◌∷◌, inl, inr, sym, ap, ◌∙◌, subst}
use Rattle.std.specs.Prelude.{Bool, true, false, Option, Some, None}
use Rattle.lf.specs.Syntax.{Term, Spine, lambda, nil, app, LfType, Skeleton}
use Rattle.lf.specs.Substitution.{Image, substitute, reduce}
use Rattle.lf.specs.SkeletonTyping.{HeadSkeletons, TermSkeleton}
use Rattle.lf.specs.Typing.{Signature}
use Rattle.lf.specs.Subordination.{Block, Member}
use Rattle.lf.specs.Worlds.{World, OpenInstance, no_variables, single_variable, whole_instance, begin_instance, next_entry, single_beside, lift_over}
use Rattle.lf_checks.specs.Marks.{SamePlaces}
use Rattle.lf_cases.specs.Case.{HasArguments}
use Rattle.lf_cases.specs.Cover.{InstanceIn, InstanceBefore}
use Rattle.lf_coverage.specs.Heads.{HaveSkeletons}
use Rattle.lf_coverage.proofs.Parts.{lambda_same}
use Rattle.lf_numbered.specs.NumberedArguments.{read_over, read_all}
use Rattle.lf_numbered.specs.NumberedCase.{AreTypedBlockVariables, AreInstances}
use Rattle.lf_numbered.specs.NumberedInstance.{move, move_spine}
use Rattle.lf_numbered.specs.OwnTerms.{BlockVariable}
use Rattle.lf_numbered.specs.Reading.{read}
use Rattle.lf_numbered.specs.WritingRoom.{move_image}
use Rattle.lf_numbered.proofs.MovedConstants.{lifts_moved}
use Rattle.lf_numbered.proofs.Reading.{OnlyConstants}
use Rattle.lf_numbered.proofs.WritingMove.{move_substituted, same_moved}

-- An instance in a context is of one of its worlds' blocks.
mutual
  pub in_worlds : {Σ : Signature} {V : List Block} {S : ℕ → Bool} {G : List LfType} (w : World Σ V S G) (B : Block) (φ : ℕ → Image) → InstanceIn w B φ → Member B V
  in_worlds no_variables B φ i = absurd i
  in_worlds (single_variable w t n) B φ (τ, i, e) = in_worlds w B τ i
  in_worlds {V = V} (whole_instance C m q o) B φ (inl (e, z)) = subst (λ D. Member D V) (sym e) m
  in_worlds (whole_instance C m q o) B φ (inr i) = in_open o B φ i

  in_open : {Σ : Signature} {V : List Block} {S : ℕ → Bool} {C : Block} {G es : List LfType} {τ : ℕ → Image} (o : OpenInstance Σ V S C G es τ) (B : Block) (φ : ℕ → Image) → InstanceBefore o B φ → Member B V
  in_open (begin_instance w v) B φ i = in_worlds w B φ i
  in_open (next_entry E o t) B φ (τ, i, e) = in_open o B τ i
  in_open (single_beside o t n) B φ (τ, i, e) = in_open o B τ i

-- So the block variables of a case with a ground instance there are typed in these worlds.
pub blocks_here : {Σ' : Signature} {V : List Block} {S : ℕ → Bool} {G : List LfType} (w : World Σ' V S G) (Σ : Signature) (W : List Block) (X : List LfType) (o : ℕ → Option Spine) (f : ℕ → Option (ℕ × ℕ)) (σ : ℕ → Image) (θ : ℕ → ℕ → Image) (k : ℕ) (bs : List BlockVariable) → AreTypedBlockVariables Σ W X o bs → AreInstances w f σ θ k bs → AreTypedBlockVariables Σ V X o bs
blocks_here w Σ W X o f σ θ k [] t i = tt
blocks_here w Σ W X o f σ θ k (b ∷ bs) (m, s, p, t) (i, e, is) = (in_worlds w b.block (θ k) i, s, p, blocks_here w Σ W X o f σ θ (suc k) bs t is)

pub places_turned : (γ : ℕ → ℕ) (b : List Bool) (T S : Spine) → SamePlaces b T S → SamePlaces b (move_spine γ T) (move_spine γ S)
places_turned γ [] nil nil s = tt
places_turned γ [] nil (app N S) s = absurd s
places_turned γ [] (app M T) S s = absurd s
places_turned γ (x ∷ b) nil S s = absurd s
places_turned γ (x ∷ b) (app M T) nil s = absurd s
places_turned γ (true ∷ b) (app M T) (app N S) (e, s) = (ap (move γ) e, places_turned γ b T S s)
places_turned γ (false ∷ b) (app M T) (app N S) s = places_turned γ b T S s

-- The terms and the tuple of a case
module _ (γ : ℕ → ℕ) (P : ℕ → Type 0) (f : ℕ → Option (ℕ × ℕ)) (stays : (c : ℕ) → P c → f c ≡ None → γ c ≡ c) where
  read_over_stays : (L : List LfType) (M : Term) → OnlyConstants P M → move γ (read (read_over L f) M) ≡ read (read_over L f) M
  read_over_stays [] M m = same_moved γ P f M stays m
  read_over_stays (A ∷ L) M m = lambda_same (read_over_stays L (lambda M) m)

  pub term_turned : (L : List LfType) (σ : ℕ → Image) (M : Term) → OnlyConstants P M → move γ (substitute reduce (lift_over L σ) (read (read_over L f) M)) ≡ substitute reduce (lift_over L (λ i. move_image γ (σ i))) (read (read_over L f) M)
  term_turned L σ M m = move_substituted γ (lift_over L σ) (read (read_over L f) M) ∙ ap (λ k. substitute reduce k (move γ (read (read_over L f) M))) (lifts_moved γ L σ) ∙ ap (substitute reduce (lift_over L (λ i. move_image γ (σ i)))) (read_over_stays L M m)

  pub tuple_turned : (L : List LfType) (σ : ℕ → Image) (Ms : List (Option Term)) (T : Spine) (κ : HeadSkeletons) (Δ : List Skeleton) → ((M : Term) (t : Skeleton) → TermSkeleton κ Δ M t → OnlyConstants P M) → HaveSkeletons κ Δ Ms → HasArguments (lift_over L σ) (read_all (read_over L f) Ms) T → HasArguments (lift_over L (λ i. move_image γ (σ i))) (read_all (read_over L f) Ms) (move_spine γ T)
  tuple_turned L σ [] nil κ Δ only s a = tt
  tuple_turned L σ [] (app N T) κ Δ only s a = absurd a
  tuple_turned L σ (Some M ∷ Ms) nil κ Δ only s a = absurd a
  tuple_turned L σ (None ∷ Ms) nil κ Δ only s a = absurd a
  tuple_turned L σ (Some M ∷ Ms) (app N T) κ Δ only ((t, m), s) (e, a) = (ap (move γ) e ∙ term_turned L σ M (only M t m), tuple_turned L σ Ms T κ Δ only s a)
  tuple_turned L σ (None ∷ Ms) (app N T) κ Δ only s a = tuple_turned L σ Ms T κ Δ only s a
