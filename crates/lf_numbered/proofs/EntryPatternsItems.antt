-- A case that is an instance of a head by items is one by number.
use Rattle.std.proofs.Common.{◌≡◌, ℕ, zero, suc, List, [], ◌∷◌, length, refl, sym, ap, ◌∙◌, subst, inl, inr}
use Rattle.std.specs.Prelude.{Bool, true, false, Option, Some, None, ◌⊎◌}
use Rattle.lf.specs.Syntax.{constant, root, Term, Spine, nil, app, LfType, base, skeleton, kind_skeleton}
use Rattle.lf.specs.Substitution.{Image, keep, put, substitute, substitute_spine, substitute_image, substitute_type, reduce}
use Rattle.lf.specs.SkeletonTyping.{HeadSkeletons, SpineSkeleton, SubstitutionBySkeletons}
use Rattle.lf.specs.Skeletons.{constant_skeletons, context_skeletons}
use Rattle.lf.specs.Typing.{Signature, TypeAt, ImageHasType, IsType, IsContext, IsSignature}
use Rattle.lf.specs.Entries.{quantifiers}
use Rattle.lf.specs.Variables.{target, target_arguments, binders, onto, UsesType, Values, everything, nothing}
use Rattle.lf.specs.Subordination.{Block, AreTypedBlocks}
use Rattle.lf.specs.Worlds.{lift_over, under_all, instance}
use Rattle.lf.specs.Extension.{Extends}
use Rattle.lf.proofs.Agreement.{uses_type_within}
use Rattle.lf.proofs.ExtensionTyping.{extension_keeps_contexts, extension_keeps_types, extension_keeps_values}
use Rattle.lf.proofs.Partial.{kind_spine_has_skeleton_beside, uses_type_all}
use Rattle.lf.proofs.ToSkeletons.{typed_has_skeleton, skeleton_has_variable}
use Rattle.lf_checks.specs.Tests.{both, either}
use Rattle.lf_checks.specs.Clause.{Clause, scope, variables, outside}
use Rattle.lf_checks.specs.Ground.{UsesGoal}
use Rattle.lf_checks.specs.Marks.{SamePlaces, UsesPlaces}
use Rattle.lf_checks.specs.Strict.{strict_goal}
use Rattle.lf_checks.proofs.StrictTypes.{either_cases}
use Rattle.lf_cases.specs.Case.{Item, Case, items_context, HasArguments, covered_places}
use Rattle.lf_cases.specs.Cover.{before, outer_images}
use Rattle.lf_cases.specs.Missing.{IsTypedInstance, StandsAmong, put_in}
use Rattle.lf_cases.specs.Pattern.{Origin, of_constant, of_entry, Pattern, given_at, ground_in}
use Rattle.lf_cases.proofs.Assemble.{end_typed}
use Rattle.lf_cases.proofs.GroundTypes.{either_left, outside_types}
use Rattle.lf_cases.proofs.Split.{given_same as given_alike}
use Rattle.lf_totality.proofs.Core.{out_index, outer_at}
use Rattle.lf_totality.proofs.GoalHolds.{arguments_under}
use Rattle.lf_totality.proofs.OutputCases.{either_in, goal_within}
use Rattle.lf_totality.proofs.RaisedOutputs.{binders_over}
use Rattle.lf_totality.proofs.Theorem.{outside_from}
use Rattle.lf_coverage.specs.Heads.{HaveSkeletons}
use Rattle.lf_coverage.specs.Leaf.{IsInstanceLeaf}
use Rattle.lf_coverage.specs.Matching.{ArePlaces}
use Rattle.lf_coverage.specs.TypedLocal.{HasTypedLocal}
use Rattle.lf_coverage.proofs.Carried.{beside_nothing}
use Rattle.lf_coverage.proofs.Choices.{second_of}
use Rattle.lf_coverage.proofs.HeadSplit.{places_put_in as places_put}
use Rattle.lf_coverage.proofs.ItemsContext.{items_are_context}
use Rattle.lf_coverage.proofs.Leaf.{v, v_out, v_typed, v_terms, v_given, v_places, value_is, leaves_terms, leaves_deep}
use Rattle.lf_coverage.proofs.Leaves.{goal_places, given_is, given_skeleton}
use Rattle.lf_coverage.proofs.Matched.{own_type}
use Rattle.lf_coverage.proofs.Parts.{some_same}
use Rattle.lf_coverage.proofs.Standing.{Outer, entry_outer_of}
use Rattle.lf_coverage.proofs.Transfer.{instance_fits, fits_more, have_more}
use Rattle.lf_numbered.specs.EntryConstants.{with_entries, IsFreeFrom}
use Rattle.lf_numbered.specs.EntryPatterns.{variable_images, StandsByNumber, IsInstanceOfPattern}
use Rattle.lf_numbered.specs.EntryPatternsLaws.{LeafIsNumberedLeaf}
use Rattle.lf_numbered.specs.Numbering.{numbering, numbered}
use Rattle.lf_numbered.specs.OwnTerms.{blocks_of, own_terms, ImageOnOwnTerms}
use Rattle.lf_numbered.specs.TypedNumbered.{IsTypedNumberedCase}
use Rattle.lf_numbered.proofs.EntryPatternsAmong.{StandsAs, stands_as}
use Rattle.lf_numbered.proofs.EntryPatternsMatching.{entries_signature}
use Rattle.lf_numbered.proofs.EntryPatternsTyped.{variable_is_typed}
use Rattle.lf_numbered.proofs.NumberedTyped.{typed_numbering}
use Rattle.lf_numbered.proofs.NumberedTypedFree.{old_own}
use Rattle.lf_numbered.proofs.TypedNumbered.{numbered_case_is_typed, put_known, extends}
use mathlib.Core.Path.{fun_ext}

-- the arguments that there are, and anything at the other places
filled : (ℕ → Image) → List (Option Term) → Spine
filled σ [] = nil
filled σ (Some M ∷ Ms) = app (substitute reduce σ M) (filled σ Ms)
filled σ (None ∷ Ms) = app (root (constant 0) nil) (filled σ Ms)

filled_has : (σ : ℕ → Image) (Ms : List (Option Term)) → HasArguments σ Ms (filled σ Ms)
unfolding filled
filled_has σ [] = tt
filled_has σ (Some M ∷ Ms) = (refl, filled_has σ Ms)
filled_has σ (None ∷ Ms) = filled_has σ Ms

filled_places : (σ : ℕ → Image) (Ms : List (Option Term)) (R : Spine) → SamePlaces (covered_places Ms) (filled σ Ms) R → ArePlaces (put_in σ Ms) R
unfolding filled
filled_places σ [] nil h = tt
filled_places σ [] (app N R) h = h
filled_places σ (Some M ∷ Ms) nil h = h
filled_places σ (None ∷ Ms) nil h = h
filled_places σ (Some M ∷ Ms) (app N R) (e, h) = (e, filled_places σ Ms R h)
filled_places σ (None ∷ Ms) (app N R) h = filled_places σ Ms R h

given_back : (σ : ℕ → Image) (Ms : List (Option Term)) (i : ℕ) (M : Term) → given_at (put_in σ Ms) i ≡ Some M → (N : Term) × (given_at Ms i ≡ Some N) × (M ≡ substitute reduce σ N)
given_back σ [] i M e = absurd cc
given_back σ (Some N ∷ Ms) zero M e = (N, refl, sym (some_same e))
given_back σ (None ∷ Ms) zero M e = absurd cc
given_back σ (Some N ∷ Ms) (suc i) M e = given_back σ Ms i M e
given_back σ (None ∷ Ms) (suc i) M e = given_back σ Ms i M e

pub before_own : (P : Image → Type 0) (later : List LfType) (θ : ℕ → Image) → ((i : ℕ) → P (θ i)) → (k : ℕ) → P (before later θ k)
before_own P [] θ h k = h (suc k)
before_own P (D ∷ ds) θ h k = before_own P ds (λ i. θ (suc i)) (λ i. h (suc i)) k

module _ (Σ : Signature) (ok : IsSignature Σ) (W : List Block) (typed : AreTypedBlocks Σ W) (first : ℕ) (free : IsFreeFrom Σ first) (ps : List Pattern) (C : Case) (leaf : IsInstanceLeaf Σ W ps C) (tl : HasTypedLocal Σ C) where
  abbrev I : List Item
  I = C.items

  abbrev X : List LfType
  X = (numbering first C.items).variables

  abbrev δ : ℕ → Image
  δ = (numbering first C.items).images

  abbrev Σ₁ : Signature
  Σ₁ = with_entries Σ first (blocks_of (numbering first C.items).blocks)

  abbrev o : ℕ → Option Spine
  o = own_terms first (numbering first C.items).blocks

  abbrev κ : HeadSkeletons
  κ = constant_skeletons Σ₁

  number_typed : IsTypedNumberedCase Σ first W (numbered first C)
  number_typed = numbered_case_is_typed Σ ok W typed first free C leaf.typed tl

  ok₁ : IsSignature Σ₁
  ok₁ = entries_signature Σ ok W typed first free (numbered first C) number_typed

  x : Extends nothing Σ Σ₁
  x = extends Σ ok W typed first free C leaf.typed tl

  -- What stands outside the clause, over the numbered form.
  record Outside (c : Clause) (p : Origin c) (b : Bool) (τ : ℕ → Image) : Type 0 where
    pub outer : ℕ → Image
    pub out : Outer Σ₁ X c δ τ outer
    pub own : (k : ℕ) → ImageOnOwnTerms o (outer k)
    pub stands : (v : ℕ → Image) → ((k : ℕ) (Z : LfType) → TypeAt c.outer k Z → outer_images (quantifiers c.type) v k ≡ outer k) → StandsByNumber first (numbered first C) p b v

  outside_of : (c : Clause) (p : Origin c) (b : Bool) → b ≡ false → (ρ : ℕ → Image) (it : IsTypedInstance Σ I I ρ) (τ : ℕ → Image) → StandsAmong Σ p b I I ρ it τ → Outside c p b τ
  outside_of c (of_constant U) b e ρ it τ s = record { outer = keep; out = record { typed = λ i A h. absurd h; same = λ i Z h. absurd h }; own = λ k. tt; stands = λ v h. tt }
  outside_of c (of_entry B later E es q) true e ρ it τ s = absurd cc
  outside_of c (of_entry B later E es q) false e ρ it τ (θ, among, agrees) =
      let s : StandsAs first I B θ = stands_as first I B θ among in
      let (t, w) = variable_is_typed Σ ok W typed first free (numbered first C) number_typed.variables s.number B s.terms s.at in
      let φ : ℕ → Image = variable_images first (numbering first C.items).blocks s.number B s.terms in
      record {
        outer = before later φ;
        out = entry_outer_of Σ₁ X B later E es q δ τ θ φ t (λ k Z y. sym (s.same k Z y)) agrees;
        own = before_own (ImageOnOwnTerms o) later φ w;
        stands = λ v h. (s.number, s.terms, s.at, (λ f. absurd cc), h);
      }

  numbered_instance : leaf.pattern.at_first ≡ false → IsInstanceOfPattern Σ first (numbered first C) leaf.pattern
  numbered_instance head =
      let p : Pattern = leaf.pattern in
      let c : Clause = p.clause in
      let A : LfType = p.type in
      let s = leaf.is_instance.0 in
      let e = leaf.is_instance.1 in
      let l = leaf.is_instance.2 in
      let r = typed_numbering Σ ok W typed first free I leaf.typed.items in
      let D : List LfType = binders [] A in
      let places : List Bool = covered_places C.arguments in
      let tv : Values Σ s.used (scope c) (items_context I) s.clause_values = subst (λ J. Values Σ s.used (scope c) (items_context J) s.clause_values) e s.typed_values in
      let (it, sf) = here p s.items I e s.case_values s.is_instance s.clause_values s.stands in
      let w = outside_of c p.origin p.at_first head s.case_values it s.clause_values sf in
      let ic : IsContext Σ₁ (items_context I) = extension_keeps_contexts nothing Σ Σ₁ x (items_context I) (items_are_context Σ ok W typed I leaf.typed.items) in
      let ct : IsContext Σ₁ (scope c) = extension_keeps_contexts nothing Σ Σ₁ x (scope c) leaf.pattern_typed.clause_typed in
      let tv₁ : Values Σ₁ s.used (scope c) (items_context I) s.clause_values = extension_keeps_values nothing Σ Σ₁ x s.used (scope c) (items_context I) s.clause_values tv in
      let Γ = context_skeletons (items_context I) in
      let fr : SubstitutionBySkeletons κ Γ Γ s.case_values = fits_more nothing Σ Σ₁ x Γ Γ s.case_values (instance_fits Σ ok W I leaf.typed.items I s.case_values it) in
      let hm : HaveSkeletons κ (context_skeletons (onto C.local (items_context I))) C.arguments = have_more nothing Σ Σ₁ x (context_skeletons (onto C.local (items_context I))) C.arguments leaf.typed.arguments in
      let hg : HaveSkeletons κ Γ C.given = have_more nothing Σ Σ₁ x Γ C.given leaf.typed.given in
      let V : ℕ → Bool = λ i. either (outside c.type everything i) (s.used i) in
      let within : (i : ℕ) → outside c.type everything i ≡ false → V i ≡ true → s.used i ≡ true = λ i o q. second_of (outside c.type everything i) (s.used i) q o in
      let closed : (i : ℕ) (Z : LfType) → TypeAt (scope c) i Z → V i ≡ true → UsesType V Z = λ i Z g q. or (outside c.type everything i) (s.used i) (UsesType V Z) (either_cases (outside c.type everything i) (s.used i) q) (λ o. uses_type_within (outside c.type everything) V Z (λ j z. either_left (s.used j) z) (outside_types c.type c.outer everything (λ j Y h z. uses_type_all everything Y (λ l. refl)) i Z g o)) (λ u. uses_type_within s.used V Z (λ j z. either_in (outside c.type everything j) z) (tv.closed i Z g u)) in
      let t' : IsType Σ₁ (scope c) A = extension_keeps_types nothing Σ Σ₁ x (scope c) A leaf.pattern_typed.type_typed in
      let (L, el, fit) = end_typed Σ₁ ok₁ A (scope c) t' in
      let sp : SpineSkeleton κ (context_skeletons (onto D (scope c))) (target_arguments A) (kind_skeleton (target A) L) (base (target A)) = subst (λ O. SpineSkeleton κ (context_skeletons O) (target_arguments A) (kind_skeleton (target A) L) (base (target A))) (binders_over [] A (scope c)) (subst (λ Δ. SpineSkeleton κ Δ (target_arguments A) (kind_skeleton (target A) L) (base (target A))) (beside_nothing (binders (scope c) A)) (kind_spine_has_skeleton_beside Σ₁ [] (target A) (binders (scope c) A) (target_arguments A) L fit)) in
      let u : ℕ → Image = v Σ₁ ok₁ X r.context (items_context I) ic δ r.images c ct s.used s.clause_values tv₁ w.outer w.out in
      let clause_same : SamePlaces places s.tuple (substitute_spine reduce (lift_over D s.clause_values) (target_arguments A)) = subst (SamePlaces places s.tuple) (arguments_under [] A s.clause_values) s.of_clause in
      let used : UsesPlaces (under_all D s.used) places (target_arguments A) = goal_places [] s.used places A s.uses in
      let same : SamePlaces places (filled (lift_over C.local δ) C.arguments) (substitute_spine reduce (lift_over D u) (target_arguments A)) = v_places Σ₁ ok₁ X r.context (items_context I) ic δ r.images c ct s.used s.clause_values tv₁ w.outer w.out D C.local leaf.same_length s.case_values (leaves_deep Σ₁ I s.case_values fr l C.local) C.arguments (filled (lift_over C.local δ) C.arguments) s.tuple (target_arguments A) (kind_skeleton (target A) L) (base (target A)) hm sp (filled_has (lift_over C.local δ) C.arguments) s.of_case clause_same used in
      let pl : covered_places (put_in (lift_over C.local δ) C.arguments) ≡ places = places_put (lift_over C.local δ) C.arguments in
      record {
        used = V;
        values = u;
        typed = v_typed Σ₁ ok₁ X r.context (items_context I) ic δ r.images c ct s.used s.clause_values tv₁ w.outer w.out V within closed;
        on_own_terms = λ i q. own_all c s.used s.clause_values tv w i q (outside c.type everything i) refl u (λ k. v_out Σ₁ ok₁ X r.context (items_context I) ic δ r.images c ct s.used s.clause_values tv₁ w.outer w.out k) (λ o. let (Z, h) = own_type c i o in
            subst (ImageOnOwnTerms (own_terms first (numbering first C.items).blocks)) (sym (value_is Σ₁ ok₁ X r.context (items_context I) ic δ r.images c ct s.used s.clause_values tv₁ w.outer w.out i Z h o (within i o q))) (carried_own (s.clause_values i) (substitute_type reduce s.clause_values Z) (tv.typed i Z h (within i o q))));
        uses = subst (λ b. UsesGoal V b A) (sym pl) (goal_within s.used V places A (λ j z. either_in (outside c.type everything j) z) s.uses);
        strict = subst (λ b. UsesGoal (ground_in p b (put_in δ C.given)) b A) (sym pl) (subst (λ g. UsesGoal (λ i. either (g i) (either (outside c.type everything i) (both (variables c i) (strict_goal places nothing (outside c.type c.fixed) i A)))) places A) (sym (fun_ext (given_alike (put_in δ C.given) C.given (places_put δ C.given)))) leaf.is_instance.3);
        terms = v_terms Σ₁ ok₁ X r.context (items_context I) ic δ r.images c ct s.used s.clause_values tv₁ w.outer w.out V within s.terms;
        given = λ i M k q. let (N, g, m) = given_back δ C.given i M q in
            let o = leaf.given_own i (given_is C.given i N g) in
            let (a, y) = s.given i N g in
            let (t, n) = given_skeleton κ Γ C.given i N hg g in
            (a, v_given Σ₁ ok₁ X r.context (items_context I) ic δ r.images c ct s.used s.clause_values tv₁ w.outer w.out i a N t o (within i o k) n (y ∙ ap (put a) (leaves_terms Σ₁ I s.case_values fr l N t n)) ∙ ap (put a) (sym m));
        stands = w.stands u (λ k Z y. outer_at c.type u k ∙ v_out Σ₁ ok₁ X r.context (items_context I) ic δ r.images c ct s.used s.clause_values tv₁ w.outer w.out k);
        same = subst (ArePlaces (put_in (lift_over C.local δ) C.arguments)) (sym (arguments_under [] A u)) (filled_places (lift_over C.local δ) C.arguments (substitute_spine reduce (lift_over D u) (target_arguments A)) same);
      }
    where
      or : (a b : Bool) (Z : Type 0) → (a ≡ true) ⊎ (b ≡ true) → (a ≡ true → Z) → (b ≡ true → Z) → Z
      or a b Z (inl q) f g = f q
      or a b Z (inr q) f g = g q

      here : (p : Pattern) (H K : List Item) (e : H ≡ K) (ρ : ℕ → Image) (it : IsTypedInstance Σ H C.items ρ) (τ : ℕ → Image) → StandsAmong Σ p.origin p.at_first H C.items ρ it τ → (i : IsTypedInstance Σ K C.items ρ) × StandsAmong Σ p.origin p.at_first K C.items ρ i τ
      here p H K e ρ it τ st = subst (λ K. (i : IsTypedInstance Σ K C.items ρ) × StandsAmong Σ p.origin p.at_first K C.items ρ i τ) e (it, st)

      carried_own : (y : Image) (Z : LfType) → ImageHasType Σ (items_context C.items) y Z → ImageOnOwnTerms (own_terms first (numbering first C.items).blocks) (substitute_image (numbering first C.items).images y)
      carried_own (keep j) Z h = (typed_numbering Σ ok W typed first free C.items leaf.typed.items).own_images j Z h
      carried_own (put a N) Z (e, n) = put_known Σ (context_skeletons (items_context C.items)) (own_terms first (numbering first C.items).blocks) (numbering first C.items).images N (skeleton Z) (old_own Σ ok W typed first free (numbering first C.items).blocks) (λ i t g. let (B, h, q) = skeleton_has_variable (items_context C.items) i t g in (typed_numbering Σ ok W typed first free C.items leaf.typed.items).own_images i B h) (typed_has_skeleton Σ (items_context C.items) N Z n)

      own_all : (c : Clause) (used : ℕ → Bool) (τ : ℕ → Image) → Values Σ used (scope c) (items_context C.items) τ → {p : Origin c} {b : Bool} (w : Outside c p b τ) (i : ℕ) → either (outside c.type everything i) (used i) ≡ true → (d : Bool) → outside c.type everything i ≡ d → (u : ℕ → Image) → ((k : ℕ) → u (out_index c.type k) ≡ w.outer k) → (outside c.type everything i ≡ false → ImageOnOwnTerms (own_terms first (numbering first C.items).blocks) (u i)) → ImageOnOwnTerms (own_terms first (numbering first C.items).blocks) (u i)
      own_all c used τ tv w i q true e u h f = let (k, y, z) = outside_from c.type everything i e in subst (ImageOnOwnTerms (own_terms first (numbering first C.items).blocks)) (sym (ap u y ∙ h k)) (w.own k)
      own_all c used τ tv w i q false e u h f = f e

pub leaf_is_numbered_leaf : LeafIsNumberedLeaf
leaf_is_numbered_leaf Σ ok W typed first free ps C leaf tl head = record {
  typed = number_typed Σ ok W typed first free ps C leaf tl;
  pattern = leaf.pattern;
  listed = leaf.listed;
  pattern_typed = leaf.pattern_typed;
  same_length = instance_length C.local (numbering first C.items).images ∙ leaf.same_length;
  given_own = λ i e. leaf.given_own i (sym (given_alike (put_in (numbering first C.items).images C.given) C.given (places_put (numbering first C.items).images C.given) i) ∙ e);
  is_instance = numbered_instance Σ ok W typed first free ps C leaf tl head;
}
  where
    instance_length : (D : List LfType) (σ : ℕ → Image) → length (instance D σ) ≡ length D
    instance_length [] σ = refl
    instance_length (A ∷ D) σ = ap suc (instance_length D σ)
