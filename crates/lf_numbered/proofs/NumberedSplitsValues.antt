-- A written instance that gives a variable a head gives the new variables of the head values on own terms.
use Rattle.std.proofs.Common.{◌≡◌, ℕ, zero, suc, List, [], ◌∷◌, ◌+◌, ◌<◌, ◌⊎◌, inl, inr, length, Option, Some, None, refl, sym, ap, ◌∙◌, subst, arith}
use Rattle.std.specs.Prelude.{Bool}
use Rattle.lf.specs.Syntax.{Head, constant, variable, metavariable, Term, Spine, nil, app, root, LfType, pi, atom, Kind, skeleton, rename_type}
use Rattle.lf.specs.Substitution.{Image, put, substitute, substitute_spine, reduce, after}
use Rattle.lf.specs.AtOnce.{shift_by}
use Rattle.lf.specs.Eta.{append, lambdas}
use Rattle.lf.specs.Typing.{Signature, TypeAt, IsSignature}
use Rattle.lf.specs.Variables.{target, onto}
use Rattle.lf.specs.Subordination.{Block, SelfContained}
use Rattle.lf.specs.Worlds.{World, lift_over}
use Rattle.lf.proofs.Substitution.{typed_substitution_by_skeletons}
use Rattle.lf_checks.specs.Below.{IsSubordination}
use Rattle.lf_cases.specs.Case.{Item, free_variable, items_context}
use Rattle.lf_cases.specs.OutputGoal.{free_variables, renumber}
use Rattle.lf_cases.specs.Raised.{raise_by, first_mask, other_masks}
use Rattle.lf_cases.specs.Reached.{arguments_count, head_items, head_masks, taken, split_items}
use Rattle.lf_coverage.specs.Heads.{ArgumentsAreBelow}
use Rattle.lf_coverage.specs.SplitStore.{context_metavariables, open_some, type_in as type_at}
use Rattle.lf_coverage.proofs.Forms.{local_has_type, lambdas_substituted}
use Rattle.lf_coverage.proofs.Parts.{none_some, some_same, suc_same}
use Rattle.lf_coverage.proofs.ResultType.{next_type, next_count}
use Rattle.lf_coverage.proofs.SolvedCase.{free_context_is}
use Rattle.lf_coverage.proofs.StoreSolution.{found_type}
use Rattle.lf_coverage.proofs.NearOrFar.{near_or_far}
use Rattle.lf_numbered.specs.EntryConstants.{with_entries}
use Rattle.lf_numbered.specs.NumberedBeside.{TakesIn}
use Rattle.lf_numbered.specs.NumberedCase.{NumberedCase, type_in}
use Rattle.lf_numbered.specs.OwnStores.{IsNumberedOffer}
use Rattle.lf_numbered.specs.OwnTerms.{blocks_of, own_terms, put_in_blocks, weaken_own, OnOwnTerms, SpineOnOwnTerms, ImageOnOwnTerms}
use Rattle.lf_numbered.specs.OwnValues.{ValuesOnOwnTerms}
use Rattle.lf_numbered.specs.TypedNumbered.{own_over}
use Rattle.lf_numbered.specs.Writing.{IsWriting}
use Rattle.lf_numbered.specs.WritingLaws.{IsInstanceWithRoom}
use Rattle.lf_numbered.proofs.NumberedSplitsHeads.{MakesWritten, taken_zero}
use Rattle.lf_numbered.proofs.NumberedSplitsOwn.{new_values_own}
use Rattle.lf_numbered.proofs.NumberedSplitsSolution.{context_filling, filling_is}
use Rattle.lf_numbered.proofs.WritingBack.{within}
use Rattle.lf_numbered.proofs.WritingInstance.{written_signature}
use Rattle.lf_numbered.proofs.WritingHead.{value_type}
use Rattle.lf_numbered.proofs.WritingOwn.{term_own, image_value_own}
use Rattle.lf_numbered.proofs.NumberedSplitsReady.{split_context, typed, terms}

-- own terms under lambdas
own_under_more : (D : List LfType) (o : ℕ → Option Spine) → own_over D (λ c. weaken_own (o c)) ≡ (λ c. weaken_own (own_over D o c))
own_under_more [] o = refl
own_under_more (A ∷ D) o = ap (λ p c. weaken_own (p c)) (own_under_more D o)

own_inside : (D : List LfType) (o : ℕ → Option Spine) (M : Term) → OnOwnTerms o (lambdas (length D) M) → OnOwnTerms (own_over D o) M
own_inside [] o M h = h
own_inside (A ∷ D) o M h = subst (λ p. OnOwnTerms p M) (own_under_more D o) (own_inside D (λ c. weaken_own (o c)) M h)

own_arguments : (o : ℕ → Option Spine) (h : Head) (U S : Spine) → OnOwnTerms o (root h (append U S)) → SpineOnOwnTerms o S
own_arguments o h U S m = behind U (all h m)
  where
    all : (h : Head) → OnOwnTerms o (root h (append U S)) → SpineOnOwnTerms o (append U S)
    all (constant c) (b, s) = s
    all (variable i) s = s
    all (metavariable m) s = s

    behind : (U : Spine) → SpineOnOwnTerms o (append U S) → SpineOnOwnTerms o S
    behind nil s = s
    behind (app M U) (m, s) = behind U s

-- how many variables there are after a split
split_length : (ks : List (List Bool)) (D : List LfType) (n : ℕ) (A : LfType) (I : List Item) → arguments_count A ≡ n → length (items_context (head_items ks D n A I)) ≡ length (items_context I) + n
split_length ks D zero A I e = none (length (items_context I))
  where
    none : (n : ℕ) → n ≡ n + 0
    none n = omega arith
split_length ks D (suc n) (atom a S) I e = absurd (no e)
  where
    no : zero ≡ suc n → ⊥
    no e = omega arith
split_length ks D (suc n) (pi A B) I e = split_length (other_masks ks) (renumber suc D) n (next_type ks D A B) (free_variable (raise_by (first_mask ks) D A) ∷ I) (next_count ks D A B ∙ suc_same e) ∙ next (length (items_context I)) n
  where
    next : (m n : ℕ) → suc m + n ≡ m + suc n
    next m n = omega arith

module _ (Σ Σ' : Signature) {W : List Block} {S : ℕ → Bool} {G : List LfType} (w : World Σ' W S G) (first : ℕ) (C : NumberedCase) (θ : ℕ → ℕ → Image) (σ : ℕ → Image) (r : IsInstanceWithRoom Σ w first C θ σ) (F : List LfType) (ρ : ℕ → Image) (back : ℕ → ℕ) (hw : IsWriting Σ' first (blocks_of C.blocks) θ G F ρ back) (sc : SelfContained Σ W S) (below : ℕ → ℕ → Bool) (s : IsSubordination Σ W below) (x : ℕ) (X : LfType) (at : TypeAt C.variables x X) (fams : TakesIn S X) (args : ArgumentsAreBelow below X) (h0 : Head) (T : Spine) (e : σ x ≡ put (skeleton X) (lambdas (length (taken X)) (root h0 T))) (h : Head) (U : Spine) (A : LfType) (offer : IsNumberedOffer Σ first C X h U A) (K : Kind) (of_family : Σ.kinds (target X) ≡ Some K) (φ : ℕ → Image) (m : MakesWritten Σ Σ' w first C θ σ r F ρ back hw sc below s x X at fams args h0 T e h U A φ) where
  abbrev Σe : Signature
  Σe = with_entries Σ' first (blocks_of C.blocks)

  abbrev ok : IsSignature Σe
  ok = written_signature Σ Σ' w first C θ σ r

  abbrev V : List LfType
  V = C.variables

  abbrev I : List Item
  I = free_variables C.variables

  abbrev D0 : List LfType
  D0 = taken (rename_type (shift_by 0) X)

  abbrev PS : List Item
  PS = split_items below X (free_variables C.variables) zero A

  -- its values are on own (terms Σ Σ' w first C θ σ r F ρ back hw sc below s x X at fams args h0 T e h U A offer K of_family φ m)
  module _ (h1 : Head) (U1 : Spine) (written : substitute reduce (lift_over (taken X) ρ) (root h0 T) ≡ root h1 (append U1 (substitute_spine reduce (lift_over (taken X) ρ) T))) where
    arguments_own : SpineOnOwnTerms (own_over D0 (own_terms first (put_in_blocks (after ρ σ) C.blocks))) (substitute_spine reduce (lift_over (taken X) ρ) T)
    arguments_own =
        let o : ℕ → Option Spine = own_terms first (put_in_blocks (after ρ σ) C.blocks) in
        let whole : OnOwnTerms o (lambdas (length (taken X)) (root h1 (append U1 (substitute_spine reduce (lift_over (taken X) ρ) T)))) = subst (OnOwnTerms o) (lambdas_substituted (taken X) ρ (root h0 T) ∙ ap (lambdas (length (taken X))) written) (term_own Σ Σ' w first C θ σ r F ρ back hw (lambdas (length (taken X)) (root h0 T)) (type_in first C θ σ X) (value_type Σ Σ' w first C θ σ r F ρ back hw sc below s x X at fams args h0 T e)) in
        subst (λ D. SpineOnOwnTerms (own_over D o) (substitute_spine reduce (lift_over (taken X) ρ) T)) (sym (taken_zero Σ Σ' w first C θ σ r F ρ back hw sc below s x X at fams args h0 T e)) (own_arguments (own_over (taken X) o) h1 U1 (substitute_spine reduce (lift_over (taken X) ρ) T) (own_inside (taken X) o (root h1 (append U1 (substitute_spine reduce (lift_over (taken X) ρ) T))) whole))

    image_own : (i : ℕ) (B : LfType) → TypeAt (items_context PS) i B → ImageOnOwnTerms (own_terms first (put_in_blocks (after ρ σ) C.blocks)) (φ i)
    image_own i B k = by (near_or_far (arguments_count A) i)
      where
        by : (i < arguments_count A) ⊎ ((j : ℕ) × (i ≡ j + arguments_count A)) → ImageOnOwnTerms (own_terms first (put_in_blocks (after ρ σ) C.blocks)) (φ i)
        by (inl l) = new_values_own Σe (own_terms first (put_in_blocks (after ρ σ) C.blocks)) (head_masks below D0 (arguments_count A) A) (arguments_count A) D0 A I F refl φ (typed_substitution_by_skeletons Σe ok (items_context PS) F φ (typed Σ Σ' w first C θ σ r F ρ back hw sc below s x X at fams args h0 T e h U A offer K of_family φ m)) (subst (SpineOnOwnTerms (own_over D0 (own_terms first (put_in_blocks (after ρ σ) C.blocks)))) m.arguments arguments_own) i l
        by (inr (j, q)) =
            let n : ℕ = arguments_count A in
            let l0 : i < length V + n = subst (λ z. i < z) (split_length (head_masks below D0 n A) D0 n A I refl ∙ ap (λ L. length L + n) (free_context_is V)) (within (items_context PS) i B k) in
            let l : j < length V = omega (arith, l0, q) in
            let (Y, g) = local_has_type V [] j l in
            subst (ImageOnOwnTerms (own_terms first (put_in_blocks (after ρ σ) C.blocks))) (sym (ap φ (q ∙ zeros j n) ∙ m.keeps j)) (image_value_own Σ Σ' w first C θ σ r F ρ back hw j Y (subst (λ L. TypeAt L j Y) (onto_none V) g))
          where
            zeros : (j n : ℕ) → j + n ≡ j + (0 + n)
            zeros j n = omega arith

            onto_none : (V : List LfType) → onto V [] ≡ V
            onto_none [] = refl
            onto_none (A ∷ V) = ap (λ L. A ∷ L) (onto_none V)

    pub written_values_own : ValuesOnOwnTerms (own_terms first (put_in_blocks (after ρ σ) C.blocks)) (context_metavariables (items_context (split_items below X (free_variables C.variables) zero A))) (context_filling (items_context (split_items below X (free_variables C.variables) zero A)) φ)
    written_values_own i B N q z = by (type_at (items_context PS) i) refl q
      where
        by : (y : Option LfType) → type_at (items_context PS) i ≡ y → open_some y ≡ Some B → OnOwnTerms (own_terms first (put_in_blocks (after ρ σ) C.blocks)) N
        by None l q = absurd (none_some q)
        by (Some Y) l q =
            let k : TypeAt (items_context PS) i Y = found_type (items_context PS) i Y l in
            let (M, p) = terms Σ Σ' w first C θ σ r F ρ back hw sc below s x X at fams args h0 T e h U A offer K of_family φ m i Y k in
            let same : M ≡ N = some_same (sym (filling_is Σe ok (items_context PS) F (split_context Σ Σ' w first C θ σ r F ρ back hw sc below s x X at fams args h0 T e h U A offer K of_family φ m) hw.context φ (typed Σ Σ' w first C θ σ r F ρ back hw sc below s x X at fams args h0 T e h U A offer K of_family φ m) (terms Σ Σ' w first C θ σ r F ρ back hw sc below s x X at fams args h0 T e h U A offer K of_family φ m) i Y M k p) ∙ z) in
            subst (OnOwnTerms (own_terms first (put_in_blocks (after ρ σ) C.blocks))) same (subst (ImageOnOwnTerms (own_terms first (put_in_blocks (after ρ σ) C.blocks))) p (image_own i Y k))
