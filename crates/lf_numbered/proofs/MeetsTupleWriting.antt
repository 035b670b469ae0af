-- Each ground instance can be written, also where block variables stand for one instance: its entries are the constants of the one that stays itself.
use Rattle.std.proofs.Common.{◌≡◌, ℕ, zero, List, ◌+◌, length, Option, Some, refl, sym, ap, ◌∙◌, subst, arith}
use Rattle.std.specs.Prelude.{Bool, true, false}
use Rattle.lf.specs.Syntax.{constant, LfType, base, skeleton, root, nil}
use Rattle.lf.specs.Substitution.{Image, keep, put, substitute_spine, substitute_image, reduce, after}
use Rattle.lf.specs.Eta.{eta_expand}
use Rattle.lf.specs.SkeletonTyping.{SubstitutionBySkeletons}
use Rattle.lf.specs.Skeletons.{constant_skeletons, context_skeletons}
use Rattle.lf.specs.Typing.{Signature, IsTypedSubstitution}
use Rattle.lf.specs.Variables.{onto, same_number}
use Rattle.lf.specs.Subordination.{Block}
use Rattle.lf.specs.Worlds.{World}
use Rattle.lf.proofs.Checker.{number_is, number_itself}
use Rattle.lf.proofs.Substitution.{typed_substitution_by_skeletons}
use Rattle.lf_checks.specs.Clause.{among}
use Rattle.lf_cases.specs.Case.{behind_entries}
use Rattle.lf_cases.specs.Cover.{InstanceIn, place_of}
use Rattle.lf_cases.proofs.Instances.{instance_typed}
use Rattle.lf_coverage.proofs.BeforeEntry.{behind_after}
use Rattle.lf_coverage.proofs.SameInstance.{instance_unique}
use Rattle.lf_numbered.specs.EntryConstants.{EntryConstant, entry_constant, entry_constant_type, entry_images, with_entries}
use Rattle.lf_numbered.specs.NumberedCallsStores.{Identifies}
use Rattle.lf_numbered.specs.NumberedCase.{NumberedCase, some_spine}
use Rattle.lf_numbered.specs.NumberedInstance.{block_at, first_constant, moved_constant, moved_entry}
use Rattle.lf_numbered.specs.OwnTerms.{BlockVariable, blocks_of}
use Rattle.lf_numbered.specs.WritingLaws.{IsInstanceWithRoom}
use Rattle.lf_numbered.proofs.EntrySignature.{grown_image}
use Rattle.lf_numbered.proofs.EntryValues.{put_some}
use Rattle.lf_numbered.proofs.WritingBuild.{Result, build}
use Rattle.lf_numbered.proofs.WritingChoice.{choose, HasConstants, from_is, choice_sound, choice_complete}
use Rattle.lf_numbered.proofs.WritingInstance.{instance_at, entry_has_type, own_types, written_signature, blocks_more, some_among}
use Rattle.lf_numbered.proofs.WritingRead.{WritesAs}
use Rattle.lf_numbered.proofs.WritingTyped.{HaveTypes, behind_typed}
use Rattle.lf_numbered.proofs.WritingValues.{AreWritten, terms_behind, written_at}
use mathlib.Core.Path.{fun_ext}

-- Block variables are one by π where they stand for one instance: each stands for that of the one that it is, and those of one instance with an entry are one.
pub record AreOne (C : NumberedCase) (θ : ℕ → ℕ → Image) (π : ℕ → ℕ) : Type 0 where
  pub identifies : Identifies C π
  pub same : (k : ℕ) (b : BlockVariable) → block_at C.blocks k ≡ Some b → θ (π k) ≡ θ k
  pub only : (j k : ℕ) (b c : BlockVariable) → block_at C.blocks j ≡ Some b → block_at C.blocks k ≡ Some c → among b.block.entries zero ≡ true → c.block ≡ b.block → (v : ℕ) → θ j zero ≡ keep v → θ k zero ≡ keep v → π j ≡ π k

-- an instance, for a block variable that stays itself
abbrev only_if : Bool → (ℕ → Image) → ℕ → Image
only_if true φ i = φ i
only_if false φ i = put (base zero) (root (constant zero) nil)

is_kept : (b : Bool) (φ : ℕ → Image) (v : ℕ) → only_if b φ zero ≡ keep v → (b ≡ true) × (φ zero ≡ keep v)
is_kept true φ v e = (refl, e)
is_kept false φ v e = absurd (no e)
  where
    no : put (base zero) (root (constant zero) nil) ≡ keep v → ⊥
    no e = cc

left : (j : ℕ) → zero + j ≡ j
left j = omega arith

module _ (Σ Σ' : Signature) {W : List Block} {S : ℕ → Bool} {G : List LfType} (w : World Σ' W S G) (first : ℕ) (C : NumberedCase) (θ : ℕ → ℕ → Image) (σ : ℕ → Image) (r : IsInstanceWithRoom Σ w first C θ σ) (π : ℕ → ℕ) (one : AreOne C θ π) where
  abbrev Bs : List Block
  Bs = blocks_of C.blocks

  abbrev Σe : Signature
  Σe = with_entries Σ' first (blocks_of C.blocks)

  abbrev θ₁ : ℕ → ℕ → Image
  θ₁ k = only_if (same_number (π k) k) (θ k)

  abbrev choice : (ℕ → Image) → Option ℕ
  choice φ = choose (λ k. only_if (same_number (π k) k) (θ k)) zero first (blocks_of C.blocks) φ

  -- the block variable of what is chosen stands for the instance, and stays itself
  chosen_is : (B : Block) (φ : ℕ → Image) → InstanceIn w B φ → among B.entries zero ≡ true → (m : ℕ) → choice φ ≡ Some m → (j : ℕ) × (b : BlockVariable) × HasConstants zero first C.blocks j b m × (B ≡ b.block) × (φ ≡ θ (zero + j)) × (π j ≡ j)
  chosen_is B φ i a m q =
      let (j, b, h, a', v, s, t) = choice_sound θ₁ zero first C.blocks φ m q in
      let (z, s') = is_kept (same_number (π (zero + j)) (zero + j)) (θ (zero + j)) v s in
      let (x, y) = instance_unique Σ' w b.block B (θ (zero + j)) φ (instance_at Σ Σ' w first C θ σ r j b h.at).0 i zero zero v a' a s' t in
      (j, b, h, x, y, ap π (sym (left j)) ∙ number_is (π (zero + j)) (zero + j) z ∙ left j)

  have_types : (B : Block) (φ : ℕ → Image) → InstanceIn w B φ → (m : ℕ) → choice φ ≡ Some m → HaveTypes (with_entries Σ' first (blocks_of C.blocks)) m B.some B.entries
  have_types B φ i m q later E ds e =
      let (j, b, h, x, y, f) = chosen_is B φ i (subst (λ es. among es zero ≡ true) e (some_among later E ds)) m q in
      let p = h.constants later E ds (e ∙ ap (λ (D : Block). D.entries) x) in
      entry_has_type Σ Σ' w first C θ σ r (m + length ds) (record { number = zero + j; block = b.block; from = m; place = place_of later; entry = E; before = ds }) p ∙ ap (λ (D : Block). Some (entry_constant_type m D.some ds E)) (sym x)

  result : Result Σ' Σe r.extends.ok (written_signature Σ Σ' w first C θ σ r) (own_types Σ Σ' w first C θ σ r) (λ a K e. e) (blocks_more Σ Σ' w first C θ σ r) w choice
  result = build Σ' Σe r.extends.ok (written_signature Σ Σ' w first C θ σ r) (own_types Σ Σ' w first C θ σ r) (λ a K e. e) (blocks_more Σ Σ' w first C θ σ r) w choice have_types

  -- the `some` terms of an instance, written
  terms_written : (B : Block) (φ : ℕ → Image) → InstanceIn w B φ → terms_behind B.some B.entries (after result.written.values φ) ≡ substitute_spine reduce result.written.values (some_spine B.some (behind_entries B.entries φ))
  terms_written B φ i =
      let κ = constant_skeletons Σe in
      let ok = written_signature Σ Σ' w first C θ σ r in
      let t : IsTypedSubstitution Σe (onto B.entries B.some) G φ = λ j A g. grown_image Σ' Σe (own_types Σ Σ' w first C θ σ r) (λ a K e. e) G (φ j) (Rattle.lf.specs.Substitution.substitute_type reduce φ A) ((instance_typed Σ' r.extends.ok w B φ i).typed.typed j A g refl) in
      let k : SubstitutionBySkeletons κ (context_skeletons B.some) (context_skeletons G) (behind_entries B.entries φ) = typed_substitution_by_skeletons Σe ok B.some G (behind_entries B.entries φ) (behind_typed Σe ok B.entries B.some G φ t) in
      ap (some_spine B.some) (fun_ext (behind_after B.entries result.written.values φ)) ∙ sym (put_some κ B.some (context_skeletons G) (context_skeletons result.written.left) (behind_entries B.entries φ) result.written.values k (typed_substitution_by_skeletons Σe ok G result.written.left result.written.values result.written.typed))

  entries : (c : ℕ) (e : EntryConstant) → entry_constant zero first (blocks_of C.blocks) c ≡ Some e → (v : ℕ) → θ e.number e.place ≡ keep v → result.written.values v ≡ put (skeleton e.entry) (eta_expand (skeleton e.entry) (constant (moved_constant first (blocks_of C.blocks) (blocks_of C.blocks) π c)) (substitute_spine reduce result.written.values (some_spine e.block.some (behind_entries e.block.entries (θ e.number)))))
  entries c e q v p =
      let (j, b, at, num, blk, frm, cn, later, en, pl) = from_is zero first C.blocks c e q in
      let i : InstanceIn w b.block (θ (zero + j)) = (instance_at Σ Σ' w first C θ σ r j b at).0 in
      let a : among b.block.entries zero ≡ true = subst (λ es. among es zero ≡ true) en (some_among later e.entry e.before) in
      let (u, f) = (instance_typed Σ' r.extends.ok w b.block (θ (zero + j)) i).kept zero a in
      let (d, there, same, fixed) = one.identifies j b at in
      let itself : same_number (π (zero + π j)) (zero + π j) ≡ true = ap (λ k. same_number (π k) k) (left (π j)) ∙ ap (λ k. same_number k (π j)) fixed ∙ number_itself (π j) in
      let newest : θ₁ (zero + π j) zero ≡ keep u = ap (λ y. only_if y (θ (zero + π j)) zero) itself ∙ ap (λ φ. φ zero) (ap θ (left (π j)) ∙ one.same j b at ∙ ap θ (sym (left j))) ∙ f in
      let (m, z) = choice_complete θ₁ zero first C.blocks (θ (zero + j)) (π j) u d there (ap (λ (B : Block). among B.entries zero) same ∙ a) newest f in
      let (j', b', h, x, y, stays) = chosen_is b.block (θ (zero + j)) i a m z in
      let goes : j' ≡ π j = sym stays ∙ sym (one.only j j' b b' at h.at a (sym x) u (ap (λ k. θ k zero) (sym (left j)) ∙ f) (ap (λ k. θ k zero) (sym (left j')) ∙ ap (λ φ. φ zero) (sym y) ∙ f)) in
      let mf : m ≡ first_constant first (blocks_of C.blocks) (π e.number) = h.from ∙ ap (first_constant first (blocks_of C.blocks)) (goes ∙ ap π (sym (num ∙ left j))) in
      let moved : m + length e.before ≡ moved_constant first (blocks_of C.blocks) (blocks_of C.blocks) π c = ap (λ k. k + length e.before) mf ∙ ap (moved_entry first (blocks_of C.blocks) π c) (sym q) in
      let w0 : AreWritten m b.block.some b.block.entries (after result.written.values (θ (zero + j))) = result.chosen b.block (θ (zero + j)) i m z in
      let U = terms_behind b.block.some b.block.entries (after result.written.values (θ (zero + j))) in
      sym (ap (substitute_image result.written.values) (ap (λ k. θ k (place_of later)) (sym num) ∙ ap (θ e.number) (sym pl) ∙ p))
      ∙ w0 (place_of later)
      ∙ ap (λ es. entry_images m U es (behind_entries b.block.entries (after result.written.values (θ (zero + j)))) (place_of later)) (sym en)
      ∙ written_at m U later e.entry e.before (behind_entries b.block.entries (after result.written.values (θ (zero + j))))
      ∙ ap (λ k. put (skeleton e.entry) (eta_expand (skeleton e.entry) (constant k) U)) moved
      ∙ ap (λ V. put (skeleton e.entry) (eta_expand (skeleton e.entry) (constant (moved_constant first (blocks_of C.blocks) (blocks_of C.blocks) π c)) V)) (terms_written b.block (θ (zero + j)) i ∙ ap (λ k. substitute_spine reduce result.written.values (some_spine b.block.some (behind_entries b.block.entries (θ k)))) (sym num) ∙ ap (λ (D : Block). substitute_spine reduce result.written.values (some_spine D.some (behind_entries D.entries (θ e.number)))) (sym blk))

  pub written_as : (F : List LfType) × (ρ : ℕ → Image) × WritesAs Σ' first (blocks_of C.blocks) θ (moved_constant first (blocks_of C.blocks) (blocks_of C.blocks) π) G F ρ
  written_as = (result.written.left, result.written.values, record { context = result.written.context; typed = result.written.typed; entries = entries; others_stay = λ c q. ap (moved_entry first (blocks_of C.blocks) π c) q })
