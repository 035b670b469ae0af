-- Where a case by number has a pattern's arguments, the pattern has each tuple that the case holds. It is what an
-- instance covers, but for strict occurrences.
use Rattle.std.proofs.Common.{◌≡◌, ℕ, zero, suc, List, [], ◌∷◌, length, refl, sym, ap, ◌∙◌, subst, inl, inr}
use Rattle.std.specs.Prelude.{Bool, true, false, Option, Some, None, ◌⊎◌}
use Rattle.lf.specs.Syntax.{Term, Spine, lambda, nil, app, LfType, Skeleton, base, arrow, skeleton, kind_skeleton}
use Rattle.lf.specs.Substitution.{Image, keep, put, substitute, substitute_spine, substitute_image, reduce}
use Rattle.lf.specs.SkeletonTyping.{HeadSkeletons, TermSkeleton, SpineSkeleton}
use Rattle.lf.specs.Skeletons.{constant_skeletons, context_skeletons}
use Rattle.lf.specs.Typing.{Signature, TypeAt, IsContext, IsSignature}
use Rattle.lf.specs.Entries.{quantifiers}
use Rattle.lf.specs.Eta.{lambdas}
use Rattle.lf.specs.Variables.{target, target_arguments, binders, onto, Uses, UsesType, Within, everything}
use Rattle.lf.specs.Subordination.{Block, AreTypedBlocks}
use Rattle.lf.specs.Worlds.{World, lift_over, under_all}
use Rattle.lf.specs.Extension.{Extends}
use Rattle.lf.proofs.Agreement.{uses_type_within}
use Rattle.lf.proofs.ExtensionTyping.{extension_keeps_contexts}
use Rattle.lf.proofs.Partial.{kind_spine_has_skeleton_beside, uses_type_all}
use Rattle.lf_checks.specs.Tests.{either}
use Rattle.lf_checks.specs.Clause.{Clause, scope, outside, entry_clause}
use Rattle.lf_checks.specs.Marks.{SamePlaces, UsesPlaces}
use Rattle.lf_checks.specs.Worlded.{IsTerm}
use Rattle.lf_checks.proofs.StrictTypes.{either_cases}
use Rattle.lf_cases.specs.Case.{as_term, HasArguments, covered_places}
use Rattle.lf_cases.specs.Cover.{InstanceIn, before, outer_images, AgreesOutside}
use Rattle.lf_cases.specs.Pattern.{HasGiven, Origin, of_constant, of_entry, Pattern, Known, StandsOutside, is_given, given_at}
use Rattle.lf_cases.proofs.Assemble.{end_typed}
use Rattle.lf_cases.proofs.GroundTypes.{either_left, outside_types}
use Rattle.lf_totality.proofs.Core.{out_index, outer_at}
use Rattle.lf_totality.proofs.GoalHolds.{arguments_under}
use Rattle.lf_totality.proofs.OutputCases.{either_in, goal_within}
use Rattle.lf_totality.proofs.RaisedOutputs.{binders_over}
use Rattle.lf_coverage.specs.Matching.{ArePlaces}
use Rattle.lf_coverage.specs.Leaf.{IsTypedPattern}
use Rattle.lf_coverage.proofs.Carried.{beside_nothing}
use Rattle.lf_coverage.proofs.Choices.{second_of}
use Rattle.lf_coverage.proofs.ClauseValues.{whole_values, own_value, outer_value, whole_typed, whole_terms, whole_same}
use Rattle.lf_coverage.proofs.Forms.{lambdas_substituted}
use Rattle.lf_coverage.proofs.Leaf.{lambdas_inside, same_under, arrows, lambdas_skeleton, lambdas_use, term_after}
use Rattle.lf_coverage.proofs.Leaves.{goal_places, given_is}
use Rattle.lf_coverage.proofs.MoreConstants.{term_more}
use Rattle.lf_coverage.proofs.Parts.{some_same}
use Rattle.lf_coverage.proofs.Standing.{Outer, entry_outer}
use Rattle.lf_numbered.specs.EntryConstants.{IsFreeFrom}
use Rattle.lf_numbered.specs.EntryPatterns.{variable_images, StandsByNumber}
use Rattle.lf_numbered.specs.EntryPatternsRuns.{ZerothIs}
use Rattle.lf_numbered.specs.NumberedArguments.{HasNumberedArguments, read_over, read_all}
use Rattle.lf_numbered.specs.NumberedCallsMeeting.{HasPattern, HasTuple}
use Rattle.lf_numbered.specs.NumberedCase.{NumberedCase, AreTypedVariables, IsNumberedInstance}
use Rattle.lf_numbered.specs.NumberedInstance.{block_at}
use Rattle.lf_numbered.specs.OwnTerms.{BlockVariable, blocks_of}
use Rattle.lf_numbered.specs.Reading.{read, weaken_read, entry_reading}
use Rattle.lf_numbered.proofs.EntryPatternsOutside.{known, variable_is_instance}
use Rattle.lf_numbered.proofs.EntryPatternsValues.{carried, carried_is, carried_fits, carried_term, carried_typed, typed_inside}
use Rattle.lf_numbered.proofs.Reading.{read_image}

-- reading under lambdas
lambdas_read : (D : List LfType) (f : ℕ → Option (ℕ × ℕ)) (M : Term) → read f (lambdas (length D) M) ≡ lambdas (length D) (read (read_over D f) M)
lambdas_read [] f M = refl
lambdas_read (A ∷ D) f M = ap (read f) (sym (lambdas_inside (length D) M)) ∙ lambdas_read D f (lambda M) ∙ lambdas_inside (length D) (read (λ c. weaken_read (read_over D f c)) M)

-- Where values make of each term of a clause what is read of it in a case, they do so under local variables, and in
-- the places.
module _ (κ : HeadSkeletons) (O : List LfType) (U : ℕ → Bool) (f : ℕ → Option (ℕ × ℕ)) (σ v τ : ℕ → Image) (same_term : (Q : Term) (t : Skeleton) → TermSkeleton κ (context_skeletons O) Q t → Uses U Q → substitute reduce σ (read f (substitute reduce τ Q)) ≡ substitute reduce v Q) (D L : List LfType) (l : length L ≡ length D) where
  deep_same : (Q : Term) (t : Skeleton) → TermSkeleton κ (context_skeletons (onto D O)) Q t → Uses (under_all D U) Q → (M : Term) → M ≡ substitute reduce (lift_over D τ) Q → substitute reduce (lift_over L σ) (read (read_over L f) M) ≡ substitute reduce (lift_over D v) Q
  deep_same Q t q u M e =
      same_under (length D) (
      ap (λ n. lambdas n (substitute reduce (lift_over L σ) (read (read_over L f) M))) (sym l)
      ∙ sym (lambdas_substituted L σ (read (read_over L f) M))
      ∙ ap (substitute reduce σ) (sym (lambdas_read L f M) ∙ ap (read f) (ap (λ n. lambdas n M) l ∙ ap (lambdas (length D)) e ∙ sym (lambdas_substituted D τ Q)))
      ∙ same_term (lambdas (length D) Q) (arrows D t) (lambdas_skeleton κ D O Q t q) (lambdas_use D U Q u)
      ∙ lambdas_substituted D v Q
      )

  same_places : (Ms : List (Option Term)) (T S : Spine) (a b : Skeleton) → SpineSkeleton κ (context_skeletons (onto D O)) S a b → HasArguments (lift_over L σ) (read_all (read_over L f) Ms) T → ArePlaces Ms (substitute_spine reduce (lift_over D τ) S) → UsesPlaces (under_all D U) (covered_places Ms) S → SamePlaces (covered_places Ms) T (substitute_spine reduce (lift_over D v) S)
  same_places [] nil nil a b s h k u = tt
  same_places [] nil (app Q S) a b s h k u = absurd k
  same_places [] (app N T) S a b s h k u = absurd h
  same_places (Some M ∷ Ms) nil S a b s h k u = absurd h
  same_places (None ∷ Ms) nil S a b s h k u = absurd h
  same_places (Some M ∷ Ms) (app N T) nil a b s h k u = absurd k
  same_places (None ∷ Ms) (app N T) nil a b s h k u = absurd k
  same_places (Some M ∷ Ms) (app N T) (app Q S) (base z) b s h k u = absurd s
  same_places (None ∷ Ms) (app N T) (app Q S) (base z) b s h k u = absurd s
  same_places (Some M ∷ Ms) (app N T) (app Q S) (arrow a a') b (q, s) (e, h) (f, k) (u, us) = (e ∙ deep_same Q a q u M f, same_places Ms T S a' b s h k us)
  same_places (None ∷ Ms) (app N T) (app Q S) (arrow a a') b (q, s) h k us = same_places Ms T S a' b s h k us

-- images of what stands outside
outer_mapped : (g : Image → Image) (n : ℕ) (τ : ℕ → Image) (k : ℕ) → outer_images n (λ i. g (τ i)) k ≡ g (outer_images n τ k)
outer_mapped g zero τ k = refl
outer_mapped g (suc n) τ k = outer_mapped g n τ (suc k)

before_mapped : (g : Image → Image) (later : List LfType) (θ : ℕ → Image) (k : ℕ) → before later (λ i. g (θ i)) k ≡ g (before later θ k)
before_mapped g [] θ k = refl
before_mapped g (D ∷ ds) θ k = before_mapped g ds (λ i. θ (suc i)) k

pub given_read : (f : ℕ → Option (ℕ × ℕ)) (Ms : List (Option Term)) (i : ℕ) (M : Term) → given_at Ms i ≡ Some M → given_at (read_all f Ms) i ≡ Some (read f M)
given_read f [] i M e = absurd cc
given_read f (Some N ∷ Ms) zero M e = ap (λ P. Some (read f P)) (some_same e)
given_read f (None ∷ Ms) zero M e = absurd cc
given_read f (Some N ∷ Ms) (suc i) M e = given_read f Ms i M e
given_read f (None ∷ Ms) (suc i) M e = given_read f Ms i M e

module _ (Σ Σ' : Signature) (ok : IsSignature Σ) (S : ℕ → Bool) (x : Extends S Σ Σ') (W : List Block) (typed : AreTypedBlocks Σ W) (first : ℕ) (free : IsFreeFrom Σ first) (C : NumberedCase) (tv : AreTypedVariables Σ first W C) {G : List LfType} (w : World Σ' W S G) (θ : ℕ → ℕ → Image) (σ : ℕ → Image) (inst : IsNumberedInstance w first C θ σ) where
  abbrev f : ℕ → Option (ℕ × ℕ)
  f = entry_reading first (blocks_of C.blocks) θ (length C.variables)

  abbrev Stands : {c : Clause} → Origin c → Bool → (ℕ → Image) → Known → Type 0
  Stands {c = c} o b τ F = (outer : ℕ → Image) × StandsOutside o b w F outer × Outer Σ' G c σ (λ i. read_image f (τ i)) outer

  -- What stands outside the clause stands so in the ground instance.
  stands_by_number : (c : Clause) (o : Origin c) (b : Bool) (τ : ℕ → Image) → StandsByNumber first C o b τ → (F : Known) → ZerothIs C θ F → Stands o b τ F
  stands_by_number c (of_constant V) b τ s F z = (keep, tt, record { typed = λ i A h. absurd h; same = λ i X h. absurd h })
  stands_by_number c (of_entry B later E es e) b τ (k, U, p, n, agrees) F z = by b F n z
    where
      i : InstanceIn w B (θ k)
      i = (known Σ Σ' ok S x W typed first free C tv w θ σ inst k (record { block = B; terms = U }) p).3

      agrees_read : AgreesOutside (entry_clause B es E) (λ i. read_image f (τ i)) (before later (λ j. read_image f (variable_images first C.blocks k B U j)))
      agrees_read j X t = outer_mapped (read_image f) (quantifiers E) τ j ∙ ap (read_image f) (agrees j X t) ∙ sym (before_mapped (read_image f) later (variable_images first C.blocks k B U) j)

      out : Outer Σ' G (entry_clause B es E) σ (λ i. read_image f (τ i)) (before later (θ k))
      out = entry_outer Σ' x.ok w B later E es e σ (λ i. read_image f (τ i)) (λ j. read_image f (variable_images first C.blocks k B U j)) (θ k) i (variable_is_instance Σ Σ' ok S x W typed first free C tv w θ σ inst k B U p) agrees_read

      by : (b : Bool) (F : Known) → (b ≡ true → k ≡ zero) → ZerothIs C θ F → Stands (of_entry B later E es e) b τ F
      by false F n z = (before later (θ k), (θ k, i, refl), out)
      by true None n z = (before later (θ k), (θ k, i, refl), out)
      by true (Some (Z, ψ)) n (d, q, r, t) =
          let same : d ≡ record { block = B; terms = U } = some_same (sym q ∙ ap (block_at C.blocks) (sym (n refl)) ∙ p) in
          (before later (θ k), (θ k, (sym r ∙ ap (λ (v : BlockVariable). v.block) same, sym t ∙ ap θ (sym (n refl))), refl), out)

  -- The lemma: the values that it has so are given for what stands outside the clause too.
  pub pattern_at : (p : Pattern) → IsTypedPattern Σ p → HasPattern Σ first C p → length C.local ≡ length (binders [] p.type) → ((i : ℕ) → is_given C.given i ≡ true → outside p.clause.type everything i ≡ false) → (F : Known) → ZerothIs C θ F → (σ0 : ℕ → Image) → HasGiven σ (read_all f C.given) σ0 → (T : Spine) → HasNumberedArguments first C θ σ T → (t : HasTuple w p (covered_places C.arguments) F C.given σ0 T) × Within (outside p.clause.type everything) t.used
  pattern_at p tp s l given_own F z σ0 gs T held =
      let c : Clause = p.clause in
      let A : LfType = p.type in
      let O : List LfType = scope c in
      let ct : IsContext Σ O = tp.clause_typed in
      let ct' : IsContext Σ' O = extension_keeps_contexts S Σ Σ' x O ct in
      let D : List LfType = binders [] A in
      let (outer, stands, out) = stands_by_number c p.origin p.at_first s.values s.stands F z in
      let ω : ℕ → Image = carried Σ Σ' ok S x W typed first free C tv w θ σ inst O ct s.used s.values s.typed s.on_own_terms in
      let ω_is : (i : ℕ) → s.used i ≡ true → ω i ≡ substitute_image σ (read_image f (s.values i)) = carried_is Σ Σ' ok S x W typed first free C tv w θ σ inst O ct s.used s.values s.typed s.on_own_terms in
      let ω_fits = carried_fits Σ Σ' ok S x W typed first free C tv w θ σ inst O ct s.used s.values s.typed s.on_own_terms in
      let ω_typed = carried_typed Σ Σ' ok S x W typed first free C tv w θ σ inst O ct s.used s.values s.typed s.on_own_terms in
      let outer_same : (k : ℕ) (X : LfType) → TypeAt c.outer k X → s.used (out_index c.type k) ≡ true → as_term (skeleton X) (ω (out_index c.type k)) ≡ as_term (skeleton X) (outer k) = λ k X y u. ap (as_term (skeleton X)) (ω_is (out_index c.type k) u) ∙ out.same k X y in
      let Δ : List Skeleton = context_skeletons (onto G O) in
      let fit = typed_inside Σ' G O in
      let v : ℕ → Image = whole_values Σ' x.ok G Δ fit c ct' s.used s.typed.closed ω ω_fits ω_typed outer out.typed outer_same in
      let V : ℕ → Bool = λ i. either (outside c.type everything i) (s.used i) in
      let within : (i : ℕ) → outside c.type everything i ≡ false → V i ≡ true → s.used i ≡ true = λ i o q. second_of (outside c.type everything i) (s.used i) q o in
      let closed : (i : ℕ) (X : LfType) → TypeAt O i X → V i ≡ true → UsesType V X = λ i X y q. or (outside c.type everything i) (s.used i) (UsesType V X) (either_cases (outside c.type everything i) (s.used i) q) (λ o. uses_type_within (outside c.type everything) V X (λ j z. either_left (s.used j) z) (outside_types c.type c.outer everything (λ j Y h z. uses_type_all everything Y (λ l. refl)) i X y o)) (λ u. uses_type_within s.used V X (λ j z. either_in (outside c.type everything j) z) (s.typed.closed i X y u)) in
      let (L, el, k) = end_typed Σ ok A O tp.type_typed in
      let sp : SpineSkeleton (constant_skeletons Σ) (context_skeletons (onto D O)) (target_arguments A) (kind_skeleton (target A) L) (base (target A)) = subst (λ Q. SpineSkeleton (constant_skeletons Σ) (context_skeletons Q) (target_arguments A) (kind_skeleton (target A) L) (base (target A))) (binders_over [] A O) (subst (λ Γ. SpineSkeleton (constant_skeletons Σ) Γ (target_arguments A) (kind_skeleton (target A) L) (base (target A))) (beside_nothing (binders O A)) (kind_spine_has_skeleton_beside Σ [] (target A) (binders O A) (target_arguments A) L k)) in
      let same_term : (Q : Term) (t : Skeleton) → TermSkeleton (constant_skeletons Σ) (context_skeletons O) Q t → Uses s.used Q → substitute reduce σ (read f (substitute reduce s.values Q)) ≡ substitute reduce v Q = λ Q t q u.
      let q' = term_more Σ Σ' x.types_stay (context_skeletons O) Q t q in
      carried_term Σ Σ' ok S x W typed first free C tv w θ σ inst O ct s.used s.values s.typed s.on_own_terms Q t q q' u ∙ whole_same Σ' x.ok G Δ fit c ct' s.used s.typed.closed ω ω_fits ω_typed outer out.typed outer_same Q t q' u in
      let same : SamePlaces (covered_places C.arguments) T (substitute_spine reduce (lift_over D v) (target_arguments A)) = same_places (constant_skeletons Σ) O s.used f σ v s.values same_term D C.local l C.arguments T (target_arguments A) (kind_skeleton (target A) L) (base (target A)) sp held (subst (ArePlaces C.arguments) (arguments_under [] A s.values) s.same) (goal_places [] s.used (covered_places C.arguments) A s.uses) in (
        record {
          outer = outer;
          stands = stands;
          used = V;
          uses = goal_within s.used V (covered_places C.arguments) A (λ j z. either_in (outside c.type everything j) z) s.uses;
          values = v;
          typed = whole_typed Σ' x.ok G Δ fit c ct' s.used s.typed.closed ω ω_fits ω_typed outer out.typed outer_same V within closed;
          agrees = λ k X y. outer_at c.type v k ∙ outer_value Σ' x.ok G Δ fit c ct' s.used s.typed.closed ω ω_fits ω_typed outer out.typed outer_same k;
          given = λ i M k q. let o = given_own i (given_is C.given i M q) in
              let u = within i o k in
              let (a, r) = s.given i M u q in
              let (b, n) = gs i (read f M) (given_read f C.given i M q) in
              (a, b, substitute reduce σ (read f M), own_value Σ' x.ok G Δ fit c ct' s.used s.typed.closed ω ω_fits ω_typed outer out.typed outer_same i o ∙ ω_is i u ∙ ap (λ y. substitute_image σ (read_image f y)) r, n);
          terms = whole_terms Σ' x.ok G Δ fit c ct' s.used s.typed.closed ω ω_fits ω_typed outer out.typed outer_same V within (λ i o u. subst IsTerm (sym (ω_is i u)) (term_after σ (read_image f (s.values i)) (read_term (s.values i) (s.terms i o u))));
          same = subst (SamePlaces (covered_places C.arguments) T) (sym (arguments_under [] A v)) same;
        },
        λ i o. either_left (s.used i) o,
      )
    where
      or : (a b : Bool) (X : Type 0) → (a ≡ true) ⊎ (b ≡ true) → (a ≡ true → X) → (b ≡ true → X) → X
      or a b X (inl q) f g = f q
      or a b X (inr q) f g = g q

      read_term : (y : Image) → IsTerm y → IsTerm (read_image f y)
      read_term (keep j) t = absurd t
      read_term (put a N) t = tt

  pub pattern_has_tuple : (p : Pattern) → IsTypedPattern Σ p → HasPattern Σ first C p → length C.local ≡ length (binders [] p.type) → ((i : ℕ) → is_given C.given i ≡ true → outside p.clause.type everything i ≡ false) → (F : Known) → ZerothIs C θ F → (σ0 : ℕ → Image) → HasGiven σ (read_all f C.given) σ0 → (T : Spine) → HasNumberedArguments first C θ σ T → HasTuple w p (covered_places C.arguments) F C.given σ0 T
  pattern_has_tuple p tp s l given_own F z σ0 gs T held = (pattern_at p tp s l given_own F z σ0 gs T held).0
