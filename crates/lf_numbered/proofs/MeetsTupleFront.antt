-- What is known of a clause's variables beside a case: the given terms, and what stands outside the clause. A tuple that both have is so a unifier.
use Rattle.std.proofs.Common.{◌≡◌, ◌<◌, ℕ, ◌+◌, ◌-◌, List, [], length, refl, sym, ap, ◌∙◌, subst}
use Rattle.std.specs.Prelude.{Bool, true, false, cond, Option, Some}
use Rattle.lf.specs.Syntax.{Term, Spine, LfType, Kind, Skeleton, skeleton}
use Rattle.lf.specs.Substitution.{Image, put, substitute_type, reduce}
use Rattle.lf.specs.Entries.{quantifiers}
use Rattle.lf.specs.Typing.{Signature, TypeAt, ImageHasType, IsTypedSubstitution, IsType, IsContext, IsSignature}
use Rattle.lf.specs.Variables.{target_arguments, everything, nothing, onto, binders, Values}
use Rattle.lf.specs.Subordination.{Block, AreTypedBlocks}
use Rattle.lf.specs.Worlds.{World, lift_over}
use Rattle.lf.specs.Extension.{Extends}
use Rattle.lf.proofs.Agreement.{uses_type_within}
use Rattle.lf.proofs.Partial.{uses_type_all}
use Rattle.lf_unification.specs.Unifiers.{Solution}
use Rattle.lf_checks.specs.Clause.{scope, outside}
use Rattle.lf_checks.specs.Ground.{UsesGoal}
use Rattle.lf_checks.specs.Marks.{SamePlaces}
use Rattle.lf_checks.specs.Tests.{either}
use Rattle.lf_cases.specs.Candidates.{given_images}
use Rattle.lf_cases.specs.Case.{as_term, covered_places}
use Rattle.lf_cases.specs.Pattern.{Pattern, given_at, is_given}
use Rattle.lf_cases.proofs.GroundTypes.{outside_types}
use Rattle.lf_totality.proofs.Core.{out_index, outside_at}
use Rattle.lf_totality.proofs.RaisedOutputs.{binders_over}
use Rattle.lf_totality.proofs.Theorem.{outside_from}
use Rattle.lf_coverage.specs.Leaf.{IsTypedPattern}
use Rattle.lf_coverage.proofs.Choices.{decided}
use Rattle.lf_coverage.proofs.ClauseValues.{out_back, out_type}
use Rattle.lf_coverage.proofs.Forms.{local_has_type}
use Rattle.lf_coverage.proofs.Leaves.{given_is}
use Rattle.lf_coverage.proofs.Matched.{given_there}
use Rattle.lf_numbered.specs.EntryConstants.{with_entries, IsFreeFrom}
use Rattle.lf_numbered.specs.EntryTerms.{beside_values, known_in}
use Rattle.lf_numbered.specs.MetEquations.{IsWrittenFrom}
use Rattle.lf_numbered.specs.NumberedArguments.{HasNumberedArguments}
use Rattle.lf_numbered.specs.NumberedCallsStores.{identified}
use Rattle.lf_numbered.specs.NumberedCase.{NumberedCase, IsNumberedInstance, value_in}
use Rattle.lf_numbered.specs.NumberedInstance.{moved_constant}
use Rattle.lf_numbered.specs.OwnTerms.{blocks_of, own_terms, OnOwnTerms}
use Rattle.lf_numbered.specs.TypedNumbered.{IsTypedNumberedCase}
use Rattle.lf_numbered.specs.WritingRoom.{move_image}
use Rattle.lf_numbered.proofs.EntryPatternsNear.{out_far, own_near}
use Rattle.lf_numbered.proofs.EntryTermsBesideGiven.{image_given}
use Rattle.lf_numbered.proofs.EntryPatternsMoved.{own_given as terms_own}
use Rattle.lf_numbered.proofs.EntryPatternsNear.{binders_count}
use Rattle.lf_numbered.proofs.MeetsTupleCore.{met}
use Rattle.lf_numbered.proofs.MeetsTupleForms.{store_form}
use Rattle.lf_numbered.proofs.MeetsTupleWriting.{AreOne}
use mathlib.Core.Path.{fun_ext}

put_same : {a b : Skeleton} {M N : Term} → put a M ≡ put b N → M ≡ N
put_same e = cc

either_right : (a b : Bool) → b ≡ true → either a b ≡ true
either_right true b e = refl
either_right false b e = e

either_first : (a b : Bool) → a ≡ true → either a b ≡ true
either_first true b e = refl
either_first false b e = absurd cc

first_of : (a b : Bool) → either a b ≡ true → b ≡ false → a ≡ true
first_of true b e f = refl
first_of false b e f = absurd (no (sym f ∙ e))
  where
    no : false ≡ true → ⊥
    no e = cc

-- Where nothing is given, what stands outside the clause has its types.
pub outer_values : (Σ : Signature) (C : NumberedCase) (p : Pattern) (X : List LfType) → C.given ≡ [] → (φ : ℕ → Image) → IsTypedSubstitution Σ p.clause.outer X φ → Values Σ (known_in C p) (scope p.clause) X (beside_values C p φ)
outer_values Σ C p X none φ t = record {
  typed = λ i A h z.
      let o : outside p.clause.type everything i ≡ true = only i z in
      let (k, e, y) = outside_from p.clause.type everything i o in
      let (B, g, s, f) = out_type p.clause.type p.clause.outer k A (subst (λ j. TypeAt (scope p.clause) j A) e h) in
      subst (λ j. ImageHasType Σ X (beside_values C p φ j) (substitute_type reduce (beside_values C p φ) A)) (sym e) (subst (λ x. ImageHasType Σ X x (substitute_type reduce (beside_values C p φ) A)) (sym (at k)) (subst (ImageHasType Σ X (φ k)) (sym (f (beside_values C p φ) ∙ ap (λ σ. substitute_type reduce σ B) (fun_ext at))) (t k B g)));
  closed = λ i A h z. uses_type_within (outside p.clause.type everything) (known_in C p) A (λ j u. either_right (is_given C.given j) (outside p.clause.type everything j) u) (outside_types p.clause.type p.clause.outer everything (λ j B g u. uses_type_all everything B (λ l. refl)) i A h (only i z));
}
  where
    only : (i : ℕ) → known_in C p i ≡ true → outside p.clause.type everything i ≡ true
    only i z = subst (λ Ms. either (is_given Ms i) (outside p.clause.type everything i) ≡ true) none z

    at : (k : ℕ) → beside_values C p φ (out_index p.clause.type k) ≡ φ k
    at k = ap (λ c. cond c (φ (out_index p.clause.type k - quantifiers p.clause.type)) (given_images (scope p.clause) C.given (length C.variables) (out_index p.clause.type k))) (outside_at p.clause.type everything k) ∙ ap φ (out_back p.clause.type k)

module _ (Σ Σ' : Signature) (ok : IsSignature Σ) (V : List Block) (typed : AreTypedBlocks Σ V) (first : ℕ) (free : IsFreeFrom Σ first) (C : NumberedCase) (tc : IsTypedNumberedCase Σ first V C) (S : ℕ → Bool) (x : Extends S Σ Σ') {G : List LfType} (w : World Σ' V S G) (θ : ℕ → ℕ → Image) (σ : ℕ → Image) (inst : IsNumberedInstance w first C θ σ) (π : ℕ → ℕ) (one : AreOne C θ π) (K : Kind) (T : Spine) (held : HasNumberedArguments first C θ σ T) (p : Pattern) (tp : IsTypedPattern Σ p) (l : length C.local ≡ length (binders [] p.type)) (used : ℕ → Bool) (τ : ℕ → Image) (v : Values Σ' used (scope p.clause) G τ) (uses : UsesGoal used (covered_places C.arguments) p.type) (same : SamePlaces (covered_places C.arguments) T (target_arguments (substitute_type reduce τ p.type))) (φ : ℕ → Image) (tφ : IsTypedSubstitution (with_entries Σ first (blocks_of C.blocks)) p.clause.outer C.variables φ) (tg : Values (with_entries Σ first (blocks_of C.blocks)) (known_in C p) (scope p.clause) C.variables (beside_values C p φ)) (outer_terms : (k : ℕ) (X : LfType) → TypeAt p.clause.outer k X → (N : Term) × (φ k ≡ put (skeleton X) N) × OnOwnTerms (own_terms first C.blocks) N × (as_term (skeleton X) (τ (out_index p.clause.type k)) ≡ value_in first C θ σ N)) (own_given : (i : ℕ) → is_given C.given i ≡ true → outside p.clause.type everything i ≡ false) (given_same : (i : ℕ) (M : Term) → used i ≡ true → given_at C.given i ≡ Some M → (a : Skeleton) × (τ i ≡ put a (value_in first C θ σ M))) where
  abbrev U : LfType
  U = p.clause.type

  abbrev D : List LfType
  D = binders [] p.clause.type

  abbrev O : List LfType
  O = p.clause.outer

  abbrev Σ₁ : Signature
  Σ₁ = with_entries Σ first (blocks_of C.blocks)

  abbrev g : ℕ → Image
  g = beside_values C p φ

  scope_is : scope p.clause ≡ onto (binders [] p.clause.type) p.clause.outer
  scope_is = binders_over [] p.clause.type p.clause.outer

  at : (k : ℕ) → g (out_index p.clause.type k) ≡ φ k
  at k = ap (λ c. cond c (φ (out_index p.clause.type k - quantifiers p.clause.type)) (given_images (scope p.clause) C.given (length C.variables) (out_index p.clause.type k))) (outside_at p.clause.type everything k) ∙ ap φ (out_back p.clause.type k)

  own_at : (i : ℕ) → outside p.clause.type everything i ≡ false → g i ≡ given_images (scope p.clause) C.given (length C.variables) i
  own_at i o = ap (λ c. cond c (φ (i - quantifiers p.clause.type)) (given_images (scope p.clause) C.given (length C.variables) i)) o

  no : true ≡ false → ⊥
  no e = cc

  terms : (i : ℕ) (X : LfType) → TypeAt (scope p.clause) i X → known_in C p i ≡ true → (N : Term) × (g i ≡ put (skeleton X) N) × OnOwnTerms (own_terms first C.blocks) N × (used i ≡ true → as_term (skeleton X) (τ i) ≡ value_in first C θ σ N)
  terms i X h z = decided (outside p.clause.type everything i) outer own
    where
      outer : outside p.clause.type everything i ≡ true → (N : Term) × (g i ≡ put (skeleton X) N) × OnOwnTerms (own_terms first C.blocks) N × (used i ≡ true → as_term (skeleton X) (τ i) ≡ value_in first C θ σ N)
      outer o =
          let (k, e, y) = outside_from p.clause.type everything i o in
          let (B, b, s, f) = out_type p.clause.type p.clause.outer k X (subst (λ j. TypeAt (scope p.clause) j X) e h) in
          let (N, q, m, r) = outer_terms k B b in
          (N, ap g e ∙ at k ∙ q ∙ ap (λ a. put a N) (sym s), m, λ u. ap (λ j. as_term (skeleton X) (τ j)) e ∙ ap (λ a. as_term a (τ (out_index p.clause.type k))) s ∙ r)

      own : outside p.clause.type everything i ≡ false → (N : Term) × (g i ≡ put (skeleton X) N) × OnOwnTerms (own_terms first C.blocks) N × (used i ≡ true → as_term (skeleton X) (τ i) ≡ value_in first C θ σ N)
      own o =
          let (M, e) = given_there C.given i (first_of (is_given C.given i) (outside p.clause.type everything i) z o) in
          (M, own_at i o ∙ image_given (scope p.clause) C.given (length C.variables) i X M h e, terms_own (own_terms first C.blocks) C.given i M tc.given_on_own e, λ u. let (a, q) = given_same i M u e in ap (as_term (skeleton X)) q)

  given : (i : ℕ) (M : Term) → given_at C.given i ≡ Some M → (i < length (binders [] p.clause.type)) × (known_in C p i ≡ true) × (a : Skeleton) × (g i ≡ put a M)
  given i M e =
      let o : outside p.clause.type everything i ≡ false = own_given i (given_is C.given i M e) in
      let l : i < length (binders [] p.clause.type) = own_near p.clause.type i o in
      let (X, h) = local_has_type (binders [] p.clause.type) p.clause.outer i l in
      (l, either_first (is_given C.given i) (outside p.clause.type everything i) (given_is C.given i M e), skeleton X, own_at i o ∙ image_given (scope p.clause) C.given (length C.variables) i X M (subst (λ Z. TypeAt Z i X) (sym scope_is) h) e)

  abbrev δ : ℕ → ℕ
  δ = moved_constant first (blocks_of C.blocks) (blocks_of C.blocks) π

  pub placed : (Σf : Signature) × Extends nothing (with_entries Σ first (blocks_of C.blocks)) Σf × (H : List LfType) × (β : ℕ → Option Term) × Solution Σf [] (store_form π (identified first π C) K (binders (identified first π C).variables (substitute_type reduce (λ k. move_image δ (φ k)) U)) (quantifiers U) (length (binders [] (substitute_type reduce (lift_over (binders [] U) (λ k. move_image δ (φ k))) p.type))) (length (identified first π C).local) (substitute_type reduce (lift_over (binders [] U) (λ k. move_image δ (φ k))) p.type)) H β × IsWrittenFrom Σf H β G C.variables σ (quantifiers p.clause.type) used (scope p.clause) τ (quantifiers p.clause.type)
  placed =
      let (Σf, y, H, β, u, made) = met Σ Σ' ok V typed first free C tc S x w θ σ inst π one K T held U p.type O
      (subst (IsContext Σ) scope_is tp.clause_typed)
      (subst (λ Z. IsType Σ Z p.type) scope_is tp.type_typed)
      l
      used
      τ
      (subst (λ Z. Values Σ' used Z G τ) scope_is v)
      uses
      same
      (known_in C p)
      g
      (subst (λ Z. Values Σ₁ (known_in C p) Z C.variables g) scope_is tg)
      (λ k. either_right (is_given C.given (k + length D)) (outside p.clause.type everything (k + length D)) (ap (outside p.clause.type everything) (sym (out_far p.clause.type k)) ∙ outside_at p.clause.type everything k))
      φ
      (λ k. ap g (sym (out_far p.clause.type k)) ∙ at k)
      tφ
      (λ i X h z. let (N, q, m, r) = terms i X (subst (λ Z. TypeAt Z i X) (sym scope_is) h) z in (N, q, m))
      (λ i X N h u z q. let (M, q', m, r) = terms i X (subst (λ Z. TypeAt Z i X) (sym scope_is) h) z in r u ∙ ap (value_in first C θ σ) (put_same (sym q' ∙ q)))
      given in
      (Σf, y, H, β, u, record { moves = made.moves; writes = made.writes; typed = made.typed; same = made.same; own = λ i A t less z. made.own i A (subst (λ Z. TypeAt Z i A) scope_is t) (subst (λ n. i < n) (sym (binders_count U)) less) z })
