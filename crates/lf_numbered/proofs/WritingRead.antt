-- A term of a case under its instance, and then written with constants moved, is the term with its constants moved and the written values put in.
use Rattle.std.proofs.Common.{◌≡◌, Bool, ℕ, zero, List, [], ◌∷◌, ◌+◌, length, Option, Some, None, refl, sym, ap, ◌∙◌, subst, arith, true≢false}
use Rattle.lf.specs.Syntax.{constant, lambda, Term, Spine, nil, app, LfType, atom, Skeleton, arrow, skeleton}
use Rattle.lf.specs.Substitution.{Image, keep, put, substitute, substitute_spine, substitute_image, reduce, after}
use Rattle.lf.specs.Eta.{eta_expand}
use Rattle.lf.specs.SkeletonTyping.{HeadSkeletons, SkeletonAt, SpineSkeleton, TermSkeleton, SubstitutionBySkeletons}
use Rattle.lf.specs.Skeletons.{constant_skeletons, context_skeletons, type_skeleton}
use Rattle.lf.specs.Typing.{Signature, IsTypedSubstitution, IsContext}
use Rattle.lf.specs.Variables.{onto, nothing}
use Rattle.lf.specs.Subordination.{Block}
use Rattle.lf.specs.Worlds.{World, lift_over}
use Rattle.lf.specs.Extension.{Extends}
use Rattle.lf.proofs.Composition.{substitutions_compose, substitutions_compose_spine}
use Rattle.lf.proofs.Substitution.{typed_substitution_by_skeletons}
use Rattle.lf_unification.specs.Offering.{pi_over}
use Rattle.lf_checks.specs.ModeForms.{argument_count}
use Rattle.lf_cases.specs.Case.{HasArguments, behind_entries}
use Rattle.lf_coverage.specs.Heads.{HaveSkeletons}
use Rattle.lf_coverage.proofs.Composing.{composed}
use Rattle.lf_coverage.proofs.Parts.{lambda_same, none_some}
use Rattle.lf_coverage.proofs.Transfer.{fits_more}
use Rattle.lf_numbered.specs.EntryConstants.{EntryConstant, entry_constant, with_entries}
use Rattle.lf_numbered.specs.NumberedArguments.{read_over, read_all}
use Rattle.lf_numbered.specs.NumberedCase.{NumberedCase, some_spine, value_in}
use Rattle.lf_numbered.specs.NumberedInstance.{block_at, move, move_all, move_spine}
use Rattle.lf_numbered.specs.OwnTerms.{BlockVariable, blocks_of, terms_at, terms_of_entry, own_terms, OnOwnTerms, AllOnOwnTerms}
use Rattle.lf_numbered.specs.Reading.{read, read_spine, read_entry, variable_past, entry_reading}
use Rattle.lf_numbered.specs.TypedNumbered.{own_over}
use Rattle.lf_numbered.specs.Writing.{IsWriting}
use Rattle.lf_numbered.specs.WritingLaws.{IsInstanceWithRoom}
use Rattle.lf_numbered.proofs.EntryPatternsTyped.{typed_at, terms_of_block}
use Rattle.lf_numbered.proofs.EntryPlaces.{entry_is}
use Rattle.lf_numbered.proofs.EntryValues.{count_some}
use Rattle.lf_numbered.proofs.ReadBlocks.{ok₁}
use Rattle.lf_numbered.proofs.ReadInstance.{heads}
use Rattle.lf_numbered.proofs.ReadSkeletons.{ReadsSkeleton, Reads, read_has_skeleton, read_spine_has_skeleton}
use Rattle.lf_numbered.proofs.ReadValues.{inside_onto, value_past, values_fit}
use Rattle.lf_numbered.proofs.WritingChoice.{from_is}
use Rattle.lf_numbered.proofs.WritingInstance.{instance_at, written_signature, own_types}
use Rattle.lf_numbered.proofs.WritingSame.{some_skeleton, WritesMoved, MovesAll, read_moved, read_moved_spine}

-- ρ writes terms of G over F: an entry of an instance is the constant that its own moves to by γ, on the instance's `some` terms.
pub record WritesAs (Σ : Signature) (first : ℕ) (Bs : List Block) (θ : ℕ → ℕ → Image) (γ : ℕ → ℕ) (G F : List LfType) (ρ : ℕ → Image) : Type 0 where
  pub context : IsContext (with_entries Σ first Bs) F
  pub typed : IsTypedSubstitution (with_entries Σ first Bs) G F ρ
  pub entries : (c : ℕ) (e : EntryConstant) → entry_constant zero first Bs c ≡ Some e → (v : ℕ) → θ e.number e.place ≡ keep v → ρ v ≡ put (skeleton e.entry) (eta_expand (skeleton e.entry) (constant (γ c)) (substitute_spine reduce ρ (some_spine e.block.some (behind_entries e.block.entries (θ e.number)))))
  pub others_stay : (c : ℕ) → entry_constant zero first Bs c ≡ None → γ c ≡ c

pub itself : {Σ : Signature} {first : ℕ} {Bs : List Block} {θ : ℕ → ℕ → Image} {G F : List LfType} {ρ : ℕ → Image} {back : ℕ → ℕ} → IsWriting Σ first Bs θ G F ρ back → WritesAs Σ first Bs θ (λ c. c) G F ρ
itself h = record { context = h.context; typed = h.typed; entries = h.entries; others_stay = λ c q. refl }

module _ (Σ Σ' : Signature) {W : List Block} {S : ℕ → Bool} {G : List LfType} (w : World Σ' W S G) (first : ℕ) (C : NumberedCase) (θ : ℕ → ℕ → Image) (σ : ℕ → Image) (r : IsInstanceWithRoom Σ w first C θ σ) {γ : ℕ → ℕ} (F : List LfType) (ρ : ℕ → Image) (h : WritesAs Σ' first (blocks_of C.blocks) θ γ G F ρ) where
  abbrev X : List LfType
  X = C.variables

  abbrev Bs : List Block
  Bs = blocks_of C.blocks

  abbrev Σ₁ : Signature
  Σ₁ = with_entries Σ first (blocks_of C.blocks)

  abbrev Σe : Signature
  Σe = with_entries Σ' first (blocks_of C.blocks)

  abbrev f : ℕ → Option (ℕ × ℕ)
  f = entry_reading first (blocks_of C.blocks) θ (length C.variables)

  abbrev o : ℕ → Option Spine
  o = own_terms first C.blocks

  abbrev κ : HeadSkeletons
  κ = constant_skeletons Σ₁

  abbrev κe : HeadSkeletons
  κe = constant_skeletons Σe

  abbrev Θ : List Skeleton
  Θ = context_skeletons (onto C.variables G)

  extends_own : Extends nothing Σ' (with_entries Σ' first (blocks_of C.blocks))
  extends_own = record { ok = written_signature Σ Σ' w first C θ σ r; types_stay = own_types Σ Σ' w first C θ σ r; kinds_stay = λ a K e. e; no_new = λ c A e n. absurd (true≢false (sym n)) }

  pub no : (m : ℕ) (t : Skeleton) → (constant_skeletons Σ₁).metavariable_skeleton m ≡ Some t → ⊥
  no m t q = none_some q

  -- the skeletons
  pub values_fit_more : SubstitutionBySkeletons (constant_skeletons (with_entries Σ' first (blocks_of C.blocks))) (context_skeletons (onto C.variables G)) (context_skeletons G) σ
  values_fit_more = fits_more nothing Σ' Σe extends_own Θ (context_skeletons G) σ (values_fit Σ' r.extends.ok G first Bs θ X σ r.is_instance.values)

  pub writing_fits : SubstitutionBySkeletons (constant_skeletons (with_entries Σ' first (blocks_of C.blocks))) (context_skeletons G) (context_skeletons F) ρ
  writing_fits = typed_substitution_by_skeletons Σe (written_signature Σ Σ' w first C θ σ r) G F ρ h.typed

  pub both_fit : SubstitutionBySkeletons (constant_skeletons (with_entries Σ' first (blocks_of C.blocks))) (context_skeletons (onto C.variables G)) (context_skeletons F) (after ρ σ)
  both_fit = composed κe Θ (context_skeletons G) (context_skeletons F) σ ρ values_fit_more writing_fits

  read_more : (c : ℕ) (t : Skeleton) (x : Option (ℕ × ℕ)) (u : Option Spine) → ReadsSkeleton (constant_skeletons Σ') Θ x u c t → ReadsSkeleton (constant_skeletons Σe) Θ x u c t
  read_more c t None u q = by (Σ'.types c) refl q
    where
      by : (y : Option LfType) → Σ'.types c ≡ y → type_skeleton y ≡ Some t → type_skeleton (Σe.types c) ≡ Some t
      by None e p = absurd (none_some p)
      by (Some A) e p = ap type_skeleton (own_types Σ Σ' w first C θ σ r c A e) ∙ p
  read_more c t (Some (n, v)) None q = absurd q
  read_more c t (Some (n, v)) (Some U) q = q

  pub reads : Reads (constant_skeletons Σ₁) (constant_skeletons Σe) no Θ f o
  reads c t q = read_more c t (f c) (o c) (heads Σ Σ' r.signature S r.extends W r.blocks first r.free C r.variables w θ σ r.is_instance c t q)

  pub inside : (i : ℕ) (t : Skeleton) → SkeletonAt (context_skeletons C.variables) i t → SkeletonAt (context_skeletons (onto C.variables G)) i t
  inside = inside_onto X G

  -- the terms of a block variable
  pub terms_fit : (j : ℕ) (b : BlockVariable) → block_at C.blocks j ≡ Some b → SpineSkeleton (constant_skeletons Σ₁) (context_skeletons C.variables) b.terms (skeleton (pi_over b.block.some (atom 0 nil))) (skeleton (atom 0 nil))
  terms_fit j b e =
      let (m, (υ, ut, ue), p) = typed_at Σ₁ W X o C.blocks r.variables.blocks j b e in
      let T : LfType = atom 0 nil in
      subst (λ V. SpineSkeleton κ (context_skeletons X) V (skeleton (pi_over b.block.some T)) (skeleton T)) (sym ue) (some_skeleton κ b.block.some (context_skeletons X) υ T (typed_substitution_by_skeletons Σ₁ (ok₁ Σ Σ' r.signature S r.extends W r.blocks first r.free C r.variables w θ σ r.is_instance) b.block.some X υ ut))

  own_written : (j : ℕ) (b : BlockVariable) → block_at C.blocks j ≡ Some b → substitute_spine reduce ρ (some_spine b.block.some (behind_entries b.block.entries (θ (zero + j)))) ≡ substitute_spine reduce (after ρ σ) (read_spine f b.terms)
  own_written j b e =
      let (m, u, p) = typed_at Σ₁ W X o C.blocks r.variables.blocks j b e in
      let T : LfType = atom 0 nil in
      ap (substitute_spine reduce ρ) (instance_at Σ Σ' w first C θ σ r j b e).1
      ∙ substitutions_compose_spine κe Θ (context_skeletons G) (context_skeletons F) σ ρ (read_spine f b.terms) (skeleton (pi_over b.block.some T)) (skeleton T) values_fit_more writing_fits (read_spine_has_skeleton κ κe no (context_skeletons X) Θ f o b.terms (skeleton (pi_over b.block.some T)) (skeleton T) inside reads (terms_fit j b e) p)

  entry_written : (c : ℕ) (x : Option EntryConstant) → entry_constant zero first Bs c ≡ x → WritesMoved γ f (after ρ σ) c (read_entry θ (length X) x) (terms_of_entry C.blocks x)
  entry_written c None q = h.others_stay c q
  entry_written c (Some e) q =
      let (j, b, at, num, blk, frm, cn, later, en, pl) = from_is zero first C.blocks c e q in
      let (m, (υ, ut, ue), p) = typed_at Σ₁ W X o C.blocks r.variables.blocks j b at in
      let (v, k) = (entry_is Σ' r.extends.ok w b.block (θ (zero + j)) (instance_at Σ Σ' w first C θ σ r j b at).0 later e.entry e.before en) in
      let k' : θ e.number e.place ≡ keep v = ap (λ i. θ i e.place) num ∙ ap (θ (zero + j)) pl ∙ k in
      let terms : terms_of_entry C.blocks (Some e) ≡ Some b.terms = ap (terms_at C.blocks) (num ∙ left j) ∙ terms_of_block C.blocks j b at in
      let own : substitute_spine reduce ρ (some_spine e.block.some (behind_entries e.block.entries (θ e.number))) ≡ substitute_spine reduce (after ρ σ) (read_spine f b.terms) =
      ap (λ (D : Block). substitute_spine reduce ρ (some_spine D.some (behind_entries D.entries (θ e.number)))) blk
      ∙ ap (λ i. substitute_spine reduce ρ (some_spine b.block.some (behind_entries b.block.entries (θ i)))) num
      ∙ own_written j b at in
      let value : after ρ σ (v + length X) ≡ put (skeleton e.entry) (eta_expand (skeleton e.entry) (constant (γ c)) (substitute_spine reduce (after ρ σ) (read_spine f b.terms))) =
      ap (substitute_image ρ) (value_past Σ' r.extends.ok G first Bs θ X σ r.is_instance.values v)
      ∙ h.entries c e q v k'
      ∙ ap (λ V. put (skeleton e.entry) (eta_expand (skeleton e.entry) (constant (γ c)) V)) own in
      let count : argument_count b.terms ≡ length e.block.some = ap argument_count ue ∙ count_some b.block.some υ ∙ ap (λ (D : Block). length D.some) (sym blk) in
      subst (λ y. WritesMoved γ f (after ρ σ) c (Some (length e.block.some, variable_past (length X) y)) (terms_of_entry C.blocks (Some e))) (sym k')
      (subst (WritesMoved γ f (after ρ σ) c (Some (length e.block.some, v + length X))) (sym terms) (count, skeleton e.entry, value))
    where
      left : (j : ℕ) → zero + j ≡ j
      left j = omega arith

  pub writes : MovesAll γ (constant_skeletons Σ₁) (constant_skeletons Σe) no f o (after ρ σ)
  writes c t q = entry_written c (entry_constant zero first Bs c) refl

  -- a term
  pub term_written : (M : Term) (t : Skeleton) → TermSkeleton (constant_skeletons (with_entries Σ first (blocks_of C.blocks))) (context_skeletons C.variables) M t → OnOwnTerms (own_terms first C.blocks) M → substitute reduce ρ (value_in first C θ σ M) ≡ substitute reduce (after ρ σ) (move γ M)
  term_written M t s p =
      substitutions_compose κe Θ (context_skeletons G) (context_skeletons F) σ ρ (read f M) t values_fit_more writing_fits (read_has_skeleton κ κe no (context_skeletons X) Θ f o M t inside reads s p)
      ∙ read_moved γ κ κe no (context_skeletons X) Θ (context_skeletons F) f o (after ρ σ) M t inside reads writes both_fit s p

  pub over_written : (L : List LfType) (M : Term) (t : Skeleton) → TermSkeleton κ (context_skeletons (onto L C.variables)) M t → OnOwnTerms (own_over L (own_terms first C.blocks)) M → substitute reduce (lift_over L ρ) (substitute reduce (lift_over L σ) (read (read_over L f) M)) ≡ substitute reduce (lift_over L (after ρ σ)) (move γ M)
  over_written [] M t s p = term_written M t s p
  over_written (A ∷ L) M t s p = lambda_same (over_written L (lambda M) (arrow (skeleton A) t) s p)

  -- the tuple
  pub arguments_written : (L : List LfType) (Ms : List (Option Term)) (T : Spine) → HaveSkeletons (constant_skeletons (with_entries Σ first (blocks_of C.blocks))) (context_skeletons (onto L C.variables)) Ms → AllOnOwnTerms (own_over L (own_terms first C.blocks)) Ms → HasArguments (lift_over L σ) (read_all (read_over L (entry_reading first (blocks_of C.blocks) θ (length C.variables))) Ms) T → HasArguments (lift_over L (after ρ σ)) (move_all γ Ms) (substitute_spine reduce (lift_over L ρ) T)
  arguments_written L [] nil s p a = tt
  arguments_written L [] (app N T) s p a = absurd a
  arguments_written L (Some M ∷ Ms) nil s p a = absurd a
  arguments_written L (None ∷ Ms) nil s p a = absurd a
  arguments_written L (Some M ∷ Ms) (app N T) ((t, m), s) (q, p) (e, a) = (ap (substitute reduce (lift_over L ρ)) e ∙ over_written L M t m q, arguments_written L Ms T s p a)
  arguments_written L (None ∷ Ms) (app N T) s p a = arguments_written L Ms T s p a

  -- the terms of a block variable, written
  pub block_written : (j : ℕ) (b : BlockVariable) → block_at C.blocks j ≡ Some b → substitute_spine reduce (after ρ σ) (move_spine γ b.terms) ≡ substitute_spine reduce ρ (some_spine b.block.some (behind_entries b.block.entries (θ (zero + j))))
  block_written j b at =
      let (m, u, p) = typed_at Σ₁ W X o C.blocks r.variables.blocks j b at in
      sym (own_written j b at ∙ read_moved_spine γ κ κe no (context_skeletons X) Θ (context_skeletons F) f o (after ρ σ) b.terms (skeleton (pi_over b.block.some (atom 0 nil))) (skeleton (atom 0 nil)) inside reads writes both_fit (terms_fit j b at) p)
