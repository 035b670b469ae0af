-- A head that is offered to a variable of a typed case by number is typed on its terms, and on own terms.
use Rattle.std.proofs.Common.{◌≡◌, ℕ, zero, suc, List, [], ◌∷◌, length, ◌+◌, ◌<◌, Option, Some, None, ◌⊎◌, inl, inr, refl, sym, ap, ◌∙◌, subst, arith}
use Rattle.lf.specs.Syntax.{Head, constant, variable, metavariable, Spine, nil, app, LfType, pi, atom, rename_spine, rename_type}
use Rattle.lf.specs.Substitution.{keep, substitute_type, reduce}
use Rattle.lf.specs.AtOnce.{shift_by}
use Rattle.lf.specs.Eta.{append}
use Rattle.lf.specs.Typing.{Signature, TypeAt, SpineType, IsType, IsSignature, IsTypedRenaming, instantiate_type}
use Rattle.lf.specs.Variables.{target, target_arguments, binders, onto}
use Rattle.lf.specs.Subordination.{Block, AreTypedBlocks}
use Rattle.lf.proofs.Closed.{closed_type_renamed}
use Rattle.lf.proofs.Substitution.{skeleton_context_of, substitution_keeps_types}
use Rattle.lf.proofs.Target.{target_of, target_renamed}
use Rattle.lf.proofs.TypeLaws.{substitute_identity_type}
use Rattle.lf.proofs.Weakening.{renaming_keeps_spine_typing, renaming_keeps_types}
use Rattle.lf_unification.specs.Offering.{pi_over}
use Rattle.lf_cases.specs.Case.{Item, items_context}
use Rattle.lf_cases.specs.OutputGoal.{free_variables}
use Rattle.lf_cases.specs.Missing.{AreTypedItems}
use Rattle.lf_cases.specs.Reached.{taken, SplitHead, constant_head, bound_head}
use Rattle.lf_totality.proofs.RaisedOutputs.{binders_over}
use Rattle.lf_coverage.proofs.Forms.{far_type, no_shift_type}
use Rattle.lf_coverage.proofs.HeadTerm.{taken_length}
use Rattle.lf_coverage.proofs.AppliedHead.{AppliesTo}
use Rattle.lf_coverage.proofs.Parts.{some_same}
use Rattle.lf_coverage.proofs.SolvedCase.{free_context_is, free_typed, head_typed}
use Rattle.lf_numbered.specs.EntryConstants.{with_entries, IsFreeFrom}
use Rattle.lf_numbered.specs.NumberedCase.{NumberedCase, AreTypedVariables}
use Rattle.lf_numbered.specs.OwnStores.{left_type, IsNumberedOffer, offer_signature, offer_taken, offer_entry}
use Rattle.lf_numbered.specs.OwnTerms.{blocks_of, own_terms, weaken_own, SpineOnOwnTerms, TypeOnOwnTerms}
use Rattle.lf_numbered.specs.TypedNumbered.{own_over, LocalOnOwnTerms}
use Rattle.lf_numbered.proofs.EntrySignature.{entries_kept}
use Rattle.lf_numbered.proofs.NumberedHeads.{target_over}
use Rattle.lf_numbered.proofs.NumberedTyped.{put_old_type}
use Rattle.lf_numbered.proofs.NumberedTypedFree.{old_own}
use Rattle.lf_numbered.proofs.OwnStoresEntry.{OwnHead, left_is, ok₁, own_head}
use Rattle.lf_numbered.proofs.OwnStoresOpened.{own_over_shifts}
use Rattle.lf_numbered.proofs.OwnTerms.{own_as_renamed, rename_own, spine_renamed, type_renamed}
use Rattle.lf_numbered.proofs.Reading.{IsOld}

-- The head, on the terms U, begins with its own terms.
abbrev pub HeadOnOwn : (ℕ → Option Spine) → Head → Spine → Type 0
HeadOnOwn o (constant c) U = (o c ≡ None) ⊎ (o c ≡ Some U)
HeadOnOwn o (variable i) U = Unit {0}
HeadOnOwn o (metavariable m) U = ⊥

-- the variables that a type on own terms takes, and its indices
pub binders_own : (o : ℕ → Option Spine) (D : List LfType) (X : LfType) → LocalOnOwnTerms o D → TypeOnOwnTerms (own_over D o) X → LocalOnOwnTerms o (binders D X) × SpineOnOwnTerms (own_over (binders D X) o) (target_arguments X)
binders_own o D (pi A B) l (a, b) = binders_own o (A ∷ D) B (l, a) b
binders_own o D (atom a S) l s = (l, s)

pub at_own : (o : ℕ → Option Spine) (V D : List LfType) → ((i : ℕ) (Y : LfType) → TypeAt V i Y → TypeOnOwnTerms o Y) → LocalOnOwnTerms o D → (i : ℕ) (Y : LfType) → TypeAt (onto D V) i Y → TypeOnOwnTerms (own_over D o) Y
at_own o V [] v l i Y g = v i Y g
at_own o V (A ∷ D) v (l, a) zero Y e = subst (TypeOnOwnTerms (λ c. weaken_own (own_over D o c))) (sym e) (type_renamed (own_over D o) (λ c. weaken_own (own_over D o c)) suc A (λ c. own_as_renamed (own_over D o c)) a)
at_own o V (A ∷ D) v (l, a) (suc i) Y (B, g, e) = subst (TypeOnOwnTerms (λ c. weaken_own (own_over D o c))) (sym e) (type_renamed (own_over D o) (λ c. weaken_own (own_over D o c)) suc B (λ c. own_as_renamed (own_over D o c)) (at_own o V D v l i B g))

pub spine_then : (Σ : Signature) (G : List LfType) (U S : Spine) (A B C : LfType) → SpineType Σ G U A B → SpineType Σ G S B C → SpineType Σ G (append U S) A C
spine_then Σ G nil S A B C e s = subst (λ Z. SpineType Σ G S Z C) (sym e) s
spine_then Σ G (app M U) S (pi A A') B C (m, u) s = (m, spine_then Σ G U S (instantiate_type A M A') B C u s)
spine_then Σ G (app M U) S (atom a T) B C u s = absurd u

module _ (Σ : Signature) (ok : IsSignature Σ) (W : List Block) (typed : AreTypedBlocks Σ W) (first : ℕ) (free : IsFreeFrom Σ first) (C : NumberedCase) (tv : AreTypedVariables Σ first W C) (x : ℕ) (X : LfType) (at : TypeAt C.variables x X) where
  abbrev Σ₁ : Signature
  Σ₁ = with_entries Σ first (blocks_of C.blocks)

  abbrev V : List LfType
  V = C.variables

  abbrev I : List Item
  I = free_variables C.variables

  abbrev o : ℕ → Option Spine
  o = own_terms first C.blocks

  abbrev D0 : List LfType
  D0 = taken (rename_type (shift_by zero) X)

  abbrev G0 : List LfType
  G0 = onto D0 (items_context (free_variables C.variables))

  okE : IsSignature Σ₁
  okE = ok₁ Σ ok W typed first free C tv

  pub items_typed : AreTypedItems (with_entries Σ first (blocks_of C.blocks)) [] (free_variables C.variables)
  items_typed = free_typed Σ₁ [] V tv.variables

  same_items : items_context I ≡ V
  same_items = free_context_is V

  pub among : TypeAt (items_context (free_variables C.variables)) x X
  among = subst (λ L. TypeAt L x X) (sym same_items) at

  -- what is known of an offer
  pub record Offered (h : Head) (U : Spine) (A : LfType) : Type 0 where
    pub place : TypeAt (items_context (free_variables C.variables)) (x + zero) (rename_type (shift_by zero) X)
    pub type : IsType (with_entries Σ first (blocks_of C.blocks)) (onto (taken (rename_type (shift_by zero) X)) (items_context (free_variables C.variables))) A
    pub same_target : target A ≡ target X
    pub applied : AppliesTo (with_entries Σ first (blocks_of C.blocks)) (onto (taken (rename_type (shift_by zero) X)) (items_context (free_variables C.variables))) h U A
    pub head_own : HeadOnOwn (own_over (taken (rename_type (shift_by zero) X)) (own_terms first C.blocks)) h U
    pub terms_own : SpineOnOwnTerms (own_over (taken (rename_type (shift_by zero) X)) (own_terms first C.blocks)) U
    pub type_own : TypeOnOwnTerms (own_over (taken (rename_type (shift_by zero) X)) (own_terms first C.blocks)) A

  no_blocks : AreTypedBlocks Σ₁ []
  no_blocks B m = absurd m

  known : (h : Head) (A : LfType) → SplitHead Σ₁ [] I X I zero h A → TypeAt (items_context I) (x + zero) (rename_type (shift_by zero) X) × IsType Σ₁ G0 A
  known h A s = let t = head_typed Σ₁ okE [] no_blocks I items_typed x X among I zero h A s in (t.1, t.2)

  long : length D0 ≡ length (taken X)
  long = taken_length (shift_by zero) X [] [] refl

  old_over : (c : ℕ) → IsOld Σ c → own_over D0 o c ≡ None
  old_over c h = own_over_shifts D0 o c ∙ ap (rename_own (shift_by (length D0))) (old_own Σ ok W typed first free C.blocks c h)

  variables_own : (i : ℕ) (Y : LfType) → TypeAt (items_context I) i Y → TypeOnOwnTerms o Y
  variables_own i Y g = tv.on_own_terms i Y (subst (λ L. TypeAt L i Y) same_items g)

  taken_own : LocalOnOwnTerms o D0
  taken_own = subst (λ Z. LocalOnOwnTerms o (taken Z)) (sym (no_shift_type X)) (binders_own o [] X tt (tv.on_own_terms x X at)).0

  by_signature : (k : ℕ) (B : LfType) → Σ.types k ≡ Some B → target B ≡ target X → Offered (constant k) nil B
  by_signature k B e t =
      let e₁ : Σ₁.types k ≡ Some B = entries_kept Σ first (blocks_of C.blocks) k B e in
      let (p, y) = known (constant k) B (constant_head k B e₁ t) in
      record {
        place = p;
        type = y;
        same_target = t;
        applied = λ G l w S a T s. (B, e₁, subst (λ Z. SpineType Σ₁ G S Z (atom a T)) (closed_type_renamed Σ₁ l B (okE.types_ok k B e₁)) s);
        head_own = inl (old_over k (B, e));
        terms_own = tt;
        type_own = subst (TypeOnOwnTerms (own_over D0 o)) (substitute_identity_type reduce B) (put_old_type Σ [] (own_over D0 o) keep B old_over (λ i A g. tt) (ok.types_ok k B e));
      }

  by_taken : (j : ℕ) (B : LfType) → j < length (taken X) → TypeAt (binders C.variables X) j B → target B ≡ target X → Offered (variable j) nil B
  by_taken j B l g t =
      let (p, y) = known (variable j) B (bound_head j B l (subst (λ L. TypeAt (binders L X) j B) (sym same_items) g) t) in
      let g0 : TypeAt G0 j B = subst (λ Z. TypeAt (onto (taken Z) (items_context I)) j B) (sym (no_shift_type X)) (subst (λ L. TypeAt L j B) (binders_over [] X (items_context I)) (subst (λ L. TypeAt (binders L X) j B) (sym same_items) g)) in
      record {
        place = p;
        type = y;
        same_target = t;
        applied = λ G r w S a T s. (rename_type r B, w j B g0, s);
        head_own = tt;
        terms_own = tt;
        type_own = at_own o (items_context I) D0 variables_own taken_own j B g0;
      }

  by_entry : (c : ℕ) (U : Spine) (B : LfType) → own_terms first C.blocks c ≡ Some U → (with_entries Σ first (blocks_of C.blocks)).types c ≡ Some B → target B ≡ target X → Offered (constant c) (rename_spine (shift_by (length (taken X))) U) (rename_type (shift_by (length (taken X))) (left_type U B))
  by_entry c U B q e t =
      let w : OwnHead Σ ok W typed first free C tv c U = own_head Σ ok W typed first free C tv c U q in
      let b : pi_over w.some w.inner ≡ B = some_same (sym w.type ∙ e) in
      let left : LfType = substitute_type reduce w.values w.inner in
      let is : left_type U B ≡ left = ap (left_type U) (sym b) ∙ left_is Σ₁ V U (pi_over w.some w.inner) left w.spine_typed in
      let n : ℕ = length D0 in
      let ρ : ℕ → ℕ = shift_by n in
      let A : LfType = rename_type ρ left in
      let far : IsTypedRenaming (items_context I) G0 ρ = λ i Y g. far_type D0 (items_context I) i Y g in
      let p : TypeAt (items_context I) (x + zero) (rename_type (shift_by zero) X) = subst (λ j. TypeAt (items_context I) j (rename_type (shift_by zero) X)) (none x) (subst (TypeAt (items_context I) x) (sym (no_shift_type X)) among) in
      let tl : IsType Σ₁ V left = substitution_keeps_types Σ₁ okE w.some V w.values w.inner (record { typed = w.values_typed; source_skeletons = skeleton_context_of Σ₁ okE w.some w.some_context; target_skeletons = skeleton_context_of Σ₁ okE V tv.variables }) w.inner_type in
      let ta : IsType Σ₁ G0 A = renaming_keeps_types Σ₁ okE (items_context I) G0 ρ left far (subst (λ L. IsType Σ₁ L left) (sym same_items) tl) in
      let su : SpineType Σ₁ G0 (rename_spine ρ U) (rename_type ρ (pi_over w.some w.inner)) A = renaming_keeps_spine_typing Σ₁ okE (items_context I) G0 ρ U (pi_over w.some w.inner) left far (subst (λ L. SpineType Σ₁ L U (pi_over w.some w.inner) left) (sym same_items) w.spine_typed) in
      let closed : (f : ℕ → ℕ) → rename_type f (pi_over w.some w.inner) ≡ pi_over w.some w.inner = λ f. closed_type_renamed Σ₁ f (pi_over w.some w.inner) (okE.types_ok c (pi_over w.some w.inner) w.type) in
      let over : (d : ℕ) → own_over D0 o d ≡ rename_own ρ (o d) = own_over_shifts D0 o in
      subst (λ m. Offered (constant c) (rename_spine (shift_by m) U) (rename_type (shift_by m) (left_type U B))) long
      (subst (λ Z. Offered (constant c) (rename_spine ρ U) (rename_type ρ Z)) (sym is) (record {
        place = p;
        type = ta;
        same_target = target_renamed ρ left ∙ target_of reduce w.values w.inner ∙ sym (target_over w.some w.inner) ∙ ap target b ∙ t;
        applied = λ G l r S a T s. (pi_over w.some w.inner, w.type, spine_then Σ₁ G (rename_spine l (rename_spine ρ U)) S (pi_over w.some w.inner) (rename_type l A) (atom a T) (subst (λ Z. SpineType Σ₁ G (rename_spine l (rename_spine ρ U)) Z (rename_type l A)) (ap (rename_type l) (closed ρ) ∙ closed l) (renaming_keeps_spine_typing Σ₁ okE G0 G l (rename_spine ρ U) (rename_type ρ (pi_over w.some w.inner)) A r su)) s);
        head_own = inr (over c ∙ ap (rename_own ρ) q);
        terms_own = spine_renamed o (own_over D0 o) ρ U over w.terms_own;
        type_own = type_renamed o (own_over D0 o) ρ left over w.left_own;
      }))
    where
      none : (k : ℕ) → k ≡ k + 0
      none k = omega arith

  -- THE lemma
  pub offered : (h : Head) (U : Spine) (A : LfType) → IsNumberedOffer Σ first C X h U A → Offered h U A
  offered h U A (offer_signature k B e t) = by_signature k B e t
  offered h U A (offer_taken j B l g t) = by_taken j B l g t
  offered h U A (offer_entry c S B q e t) = by_entry c S B q e t
