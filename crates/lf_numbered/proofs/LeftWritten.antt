-- Each ground instance with block variables apart that gives a variable a head that is offered is a typed unifier of
-- this head's store, and of each store that a run of steps reaches: the instance is written over the signature with
-- entries, unified there, and read back.
use Rattle.std.proofs.Common.{◌≡◌, ℕ, zero, List, [], ◌∷◌, ◌+◌, length, Option, Some, None, refl, sym, ap, ap₂, ◌∙◌, subst, arith}
use Rattle.std.specs.Prelude.{Bool}
use Rattle.lf.specs.Syntax.{Head, constant, Term, Spine, root, LfType, Kind, kind_pi, star, pi, atom, skeleton, rename, rename_type}
use Rattle.lf.specs.Substitution.{Image, keep, put, after}
use Rattle.lf.specs.Eta.{lambdas}
use Rattle.lf.specs.Typing.{Signature, TypeAt, HasType, IsType, IsSignature}
use Rattle.lf.specs.Variables.{target}
use Rattle.lf.specs.Subordination.{Block, AreTypedBlocks, SelfContained}
use Rattle.lf.specs.Worlds.{World}
use Rattle.lf.specs.Extension.{Extends}
use Rattle.lf.proofs.Worlds.{world_is_context}
use Rattle.lf_checks.specs.Below.{IsSubordination}
use Rattle.lf_unification.specs.Filling.{fill_type}
use Rattle.lf_unification.specs.OpenTyping.{skeletons_of}
use Rattle.lf_unification.specs.Solving.{IsWellFormed}
use Rattle.lf_unification.specs.Steps.{Run}
use Rattle.lf_unification.specs.Unifiers.{Solution, Store}
use Rattle.lf_unification.proofs.Runs.{run_form}
use Rattle.lf_cases.specs.Case.{items_context}
use Rattle.lf_cases.specs.OutputGoal.{free_variables}
use Rattle.lf_cases.specs.Reached.{arguments_count, taken, split_items}
use Rattle.lf_coverage.specs.Heads.{ArgumentsAreBelow}
use Rattle.lf_coverage.proofs.Parts.{none_some}
use Rattle.lf_numbered.specs.EntryConstants.{EntryConstant, IsFreeFrom, entry_constant, with_entries}
use Rattle.lf_numbered.specs.LeftUnifiers.{HeadUnifier, head_in, read_head}
use Rattle.lf_numbered.specs.NewInstance.{AreApart}
use Rattle.lf_numbered.specs.NumberedCallsOutside.{over_head}
use Rattle.lf_numbered.specs.NumberedBeside.{TakesIn}
use Rattle.lf_numbered.specs.NumberedCase.{NumberedCase, IsNumberedInstance}
use Rattle.lf_numbered.specs.NumberedInstance.{move_type, move_types}
use Rattle.lf_numbered.specs.NumberedSplits.{NumberedOffer}
use Rattle.lf_numbered.specs.Numbering.{entries_of}
use Rattle.lf_numbered.specs.OwnStores.{IsNumberedOffer, numbered_store, offer_entry, offer_signature, offer_taken}
use Rattle.lf_numbered.specs.OwnTerms.{blocks_of, own_terms, OnOwnTerms, TypeOnOwnTerms, put_in_blocks, terms_of_entry}
use Rattle.lf_numbered.specs.OwnValues.{ValuesOnOwnTerms}
use Rattle.lf_numbered.specs.Reading.{entry_reading, read_entry, variable_past}
use Rattle.lf_numbered.specs.TypedNumbered.{IsTypedNumberedCase}
use Rattle.lf_numbered.specs.Writing.{IsWriting, back_over}
use Rattle.lf_numbered.specs.WritingRoom.{gap_back, leave_room, move_image, move_kind, past_gap}
use Rattle.lf_numbered.proofs.LeftCarried.{solution_read}
use Rattle.lf_numbered.proofs.LeftOffers.{HeadWritten, head_written}
use Rattle.lf_numbered.proofs.LeftReading.{carried, carried_type, carried_value}
use Rattle.lf_numbered.proofs.LeftGround.{ground_of}
use Rattle.lf_numbered.proofs.LeftSteps.{written_unifier}
use Rattle.lf_numbered.proofs.NumberedSplitsHeads.{MakesWritten}
use Rattle.lf_numbered.proofs.NumberedSplitsMoved.{e₂, move_head, room, stay_apart, stays, v, θ₂, σ₂, h₂, T₂}
use Rattle.lf_numbered.proofs.NumberedSplitsReady.{terms}
use Rattle.lf_numbered.proofs.OwnStoresEntry.{ok₁}
use Rattle.lf_numbered.proofs.OwnStoresStart.{numbered_ready}
use Rattle.lf_numbered.proofs.Reading.{rename_read}
use Rattle.lf_numbered.proofs.WritingBack.{back_far}
use Rattle.lf_numbered.proofs.WritingBackTyped.{back_typed}
use Rattle.lf_numbered.proofs.WritingGap.{past_back, twice_spine}
use Rattle.lf_numbered.proofs.WritingInstance.{instance_is_written, written_signature}
use Rattle.lf_numbered.proofs.WritingMove.{moved_typed}
use Rattle.lf_numbered.proofs.WritingMoved.{reading_moved}
use Rattle.lf_numbered.proofs.WritingRoom.{kind_from, old_stays, type_from}
use mathlib.Core.Path.{fun_ext}

-- Types that are moved and moved back
type_twice : (γ δ : ℕ → ℕ) (A : LfType) → ((c : ℕ) → δ (γ c) ≡ c) → move_type δ (move_type γ A) ≡ A
type_twice γ δ (pi A B) h = ap₂ pi (type_twice γ δ A h) (type_twice γ δ B h)
type_twice γ δ (atom a S) h = ap (atom a) (twice_spine γ δ S h)

kind_twice : (γ δ : ℕ → ℕ) (K : Kind) → ((c : ℕ) → δ (γ c) ≡ c) → move_kind δ (move_kind γ K) ≡ K
kind_twice γ δ (kind_pi A K) h = ap₂ kind_pi (type_twice γ δ A h) (kind_twice γ δ K h)
kind_twice γ δ star h = refl

types_twice : (γ δ : ℕ → ℕ) (G : List LfType) → ((c : ℕ) → δ (γ c) ≡ c) → move_types δ (move_types γ G) ≡ G
types_twice γ δ [] h = refl
types_twice γ δ (A ∷ G) h = ap₂ (λ B D. B ∷ D) (type_twice γ δ A h) (types_twice γ δ G h)

module _ (Σ Σ' : Signature) (ok : IsSignature Σ) (S : ℕ → Bool) (x : Extends S Σ Σ') (W : List Block) (typed : AreTypedBlocks Σ W) (below : ℕ → ℕ → Bool) (s : IsSubordination Σ W below) (sc : SelfContained Σ W S) (first : ℕ) (free : IsFreeFrom Σ first) (E : NumberedCase) (te : IsTypedNumberedCase Σ first W E) {G : List LfType} (w : World Σ' W S G) (θ : ℕ → ℕ → Image) (σ : ℕ → Image) (inst : IsNumberedInstance w first E θ σ) (apart : AreApart E θ) (y : ℕ) (X : LfType) (at : TypeAt E.variables y X) (fams : TakesIn S X) (args : ArgumentsAreBelow below X) (h : Head) (U : Spine) (A : LfType) (offer : IsNumberedOffer Σ first E X h U A) (T : Spine) (e : σ y ≡ put (skeleton X) (lambdas (length (taken X)) (root (head_in first (blocks_of E.blocks) θ (length (taken X)) h) T))) (K : Kind) (of_family : Σ.kinds (target X) ≡ Some K) where
  abbrev h0 : Head
  h0 = head_in first (blocks_of E.blocks) θ (length (taken X)) h

  abbrev γ : ℕ → ℕ
  γ = past_gap first (entries_of (blocks_of E.blocks))

  abbrev δ : ℕ → ℕ
  δ = gap_back first (entries_of (blocks_of E.blocks))

  abbrev k : ℕ
  k = arguments_count A

  abbrev V : List LfType
  V = E.variables

  abbrev Bs : List Block
  Bs = blocks_of E.blocks

  abbrev Σ₁ : Signature
  Σ₁ = with_entries Σ first (blocks_of E.blocks)

  abbrev Σr : Signature
  Σr = leave_room first (entries_of (blocks_of E.blocks)) Σ'

  abbrev Σe : Signature
  Σe = with_entries (leave_room first (entries_of (blocks_of E.blocks)) Σ') first (blocks_of E.blocks)

  abbrev Gr : List LfType
  Gr = move_types (past_gap first (entries_of (blocks_of E.blocks))) G

  abbrev Cc : List LfType
  Cc = items_context (split_items below X (free_variables E.variables) zero A)

  abbrev o : NumberedOffer
  o = record { case = E; variable = y; type = X; head = h; terms = U; left = A }

  abbrev over : NumberedCase
  over = over_head below (record { case = E; variable = y; type = X; head = h; terms = U; left = A })

  abbrev start : Store
  start = numbered_store below E y X h U A K

  okE : IsSignature Σ₁
  okE = ok₁ Σ ok W typed first free E te.variables

  back : (c : ℕ) → δ (γ c) ≡ c
  back c = past_back first (entries_of (blocks_of E.blocks)) c

  abbrev vr : World Σr W S Gr
  vr = v Σ Σ' ok S x W typed below s sc first free E te w θ σ inst apart y X at fams args h0 T e

  -- the head is the same where the constants are moved
  head_stays : h₂ Σ Σ' ok S x W typed below s sc first free E te w θ σ inst apart y X at fams args h0 T e ≡ head_in first (blocks_of E.blocks) (θ₂ Σ Σ' ok S x W typed below s sc first free E te w θ σ inst apart y X at fams args h0 T e) (length (taken X)) h
  head_stays = by offer
    where
      at_reading : (c : ℕ) (z : Option (ℕ × ℕ)) → entry_reading first Bs θ (length (taken X)) c ≡ z → (z ≡ None → γ c ≡ c) → move_head γ (read_head (entry_reading first Bs θ (length (taken X)) c) c) ≡ read_head (entry_reading first Bs (θ₂ Σ Σ' ok S x W typed below s sc first free E te w θ σ inst apart y X at fams args h0 T e) (length (taken X)) c) c
      at_reading c None q n = ap (λ u. move_head γ (read_head u c)) q ∙ ap constant (n refl) ∙ sym (ap (λ u. read_head u c) (reading_moved γ first Bs θ (length (taken X)) c ∙ q))
      at_reading c (Some (n, u)) q f = ap (λ z. move_head γ (read_head z c)) q ∙ sym (ap (λ z. read_head z c) (reading_moved γ first Bs θ (length (taken X)) c ∙ q))

      entry_read : (c : ℕ) (U0 : Spine) → own_terms first E.blocks c ≡ Some U0 → (z : Option EntryConstant) → entry_constant zero first Bs c ≡ z → read_entry θ (length (taken X)) z ≡ None → γ c ≡ c
      entry_read c U0 own None p q = absurd (none_some (sym (ap (terms_of_entry E.blocks) p) ∙ own))
      entry_read c U0 own (Some i) p q = absurd (none_some (sym q))

      by : {g : Head} {U' : Spine} {A' : LfType} → IsNumberedOffer Σ first E X g U' A' → move_head γ (head_in first Bs θ (length (taken X)) g) ≡ head_in first Bs (θ₂ Σ Σ' ok S x W typed below s sc first free E te w θ σ inst apart y X at fams args h0 T e) (length (taken X)) g
      by (offer_signature c B q t) = at_reading c (entry_reading first Bs θ (length (taken X)) c) refl (λ z. old_stays Σ Σ' ok S x W typed first (entries_of Bs) free c (B, q))
      by (offer_taken j B l g t) = refl
      by (offer_entry c U0 B own q t) = at_reading c (entry_reading first Bs θ (length (taken X)) c) refl (λ z. entry_read c U0 own (entry_constant zero first Bs c) refl z)

  -- what is typed over the extension with room is typed over the extension
  types_back : (c : ℕ) (B : LfType) → Σr.types c ≡ Some B → Σ'.types (δ c) ≡ Some (move_type δ B)
  types_back c B q =
      let (d, D, p, f, z) = type_from Σ Σ' ok S x W typed first (entries_of Bs) free c B (Rattle.lf_numbered.specs.WritingRoom.with_gap first (entries_of Bs) Σ'.types c) refl q in
      ap Σ'.types (ap δ p ∙ back d) ∙ f ∙ ap Some (sym (type_twice γ δ D back) ∙ ap (move_type δ) z)

  kinds_back : (a : ℕ) (L : Kind) → Σr.kinds a ≡ Some L → Σ'.kinds a ≡ Some (move_kind δ L)
  kinds_back a L q = let (M, p, z) = kind_from Σ Σ' ok S x W typed first (entries_of Bs) free L (Σ'.kinds a) q in p ∙ ap Some (sym (kind_twice γ δ M back) ∙ ap (move_kind δ) z)

  module _ (F : List LfType) (ρ : ℕ → Image) (back_to : ℕ → ℕ) (writing : IsWriting (leave_room first (entries_of (blocks_of E.blocks)) Σ') first (blocks_of E.blocks) (θ₂ Σ Σ' ok S x W typed below s sc first free E te w θ σ inst apart y X at fams args h0 T e) (move_types (past_gap first (entries_of (blocks_of E.blocks))) G) F ρ back_to) (hw : HeadWritten Σ Σr vr first E (θ₂ Σ Σ' ok S x W typed below s sc first free E te w θ σ inst apart y X at fams args h0 T e) (σ₂ Σ Σ' ok S x W typed below s sc first free E te w θ σ inst apart y X at fams args h0 T e) (room Σ Σ' ok S x W typed below s sc first free E te w θ σ inst apart y X at fams args h0 T e) F ρ back_to writing sc below s y X at fams args (h₂ Σ Σ' ok S x W typed below s sc first free E te w θ σ inst apart y X at fams args h0 T e) (T₂ Σ Σ' ok S x W typed below s sc first free E te w θ σ inst apart y X at fams args h0 T e) (e₂ Σ Σ' ok S x W typed below s sc first free E te w θ σ inst apart y X at fams args h0 T e) h U A) (φ : ℕ → Image) (m : MakesWritten Σ Σr vr first E (θ₂ Σ Σ' ok S x W typed below s sc first free E te w θ σ inst apart y X at fams args h0 T e) (σ₂ Σ Σ' ok S x W typed below s sc first free E te w θ σ inst apart y X at fams args h0 T e) (room Σ Σ' ok S x W typed below s sc first free E te w θ σ inst apart y X at fams args h0 T e) F ρ back_to writing sc below s y X at fams args (h₂ Σ Σ' ok S x W typed below s sc first free E te w θ σ inst apart y X at fams args h0 T e) (T₂ Σ Σ' ok S x W typed below s sc first free E te w θ σ inst apart y X at fams args h0 T e) (e₂ Σ Σ' ok S x W typed below s sc first free E te w θ σ inst apart y X at fams args h0 T e) h U A φ) (s' : Store) (run : Run (with_entries Σ first (blocks_of E.blocks)) (numbered_store below E y X h U A K) s') where
    abbrev θr : ℕ → ℕ → Image
    θr = θ₂ Σ Σ' ok S x W typed below s sc first free E te w θ σ inst apart y X at fams args h0 T e

    abbrev σr : ℕ → Image
    σr = σ₂ Σ Σ' ok S x W typed below s sc first free E te w θ σ inst apart y X at fams args h0 T e

    abbrev τ : ℕ → Image
    τ = after ρ σr

    abbrev f : ℕ → Option (ℕ × ℕ)
    f = entry_reading first (blocks_of E.blocks) (θ₂ Σ Σ' ok S x W typed below s sc first free E te w θ σ inst apart y X at fams args h0 T e) (length F)

    abbrev ν : ℕ → ℕ
    ν = back_over (length F) back_to

    abbrev oF : ℕ → Option Spine
    oF = own_terms first (put_in_blocks (after ρ (σ₂ Σ Σ' ok S x W typed below s sc first free E te w θ σ inst apart y X at fams args h0 T e)) E.blocks)

    oke : IsSignature Σe
    oke = written_signature Σ Σr vr first E (θ₂ Σ Σ' ok S x W typed below s sc first free E te w θ σ inst apart y X at fams args h0 T e) (σ₂ Σ Σ' ok S x W typed below s sc first free E te w θ σ inst apart y X at fams args h0 T e) (room Σ Σ' ok S x W typed below s sc first free E te w θ σ inst apart y X at fams args h0 T e)

    φ_terms : (i : ℕ) (B : LfType) → TypeAt Cc i B → (N : Term) × (φ i ≡ put (skeleton B) N)
    φ_terms = terms Σ Σr vr first E (θ₂ Σ Σ' ok S x W typed below s sc first free E te w θ σ inst apart y X at fams args h0 T e) (σ₂ Σ Σ' ok S x W typed below s sc first free E te w θ σ inst apart y X at fams args h0 T e) (room Σ Σ' ok S x W typed below s sc first free E te w θ σ inst apart y X at fams args h0 T e) F ρ back_to writing sc below s y X at fams args (h₂ Σ Σ' ok S x W typed below s sc first free E te w θ σ inst apart y X at fams args h0 T e) (T₂ Σ Σ' ok S x W typed below s sc first free E te w θ σ inst apart y X at fams args h0 T e) (e₂ Σ Σ' ok S x W typed below s sc first free E te w θ σ inst apart y X at fams args h0 T e) h U A offer K of_family φ m

    unified : (β : ℕ → Option Term) × ((i : ℕ) (B : LfType) (N : Term) → TypeAt Cc i B → φ i ≡ put (skeleton B) N → β i ≡ Some N) × Solution Σe [] s' F β × ValuesOnOwnTerms oF s'.metavariables β × ((i : ℕ) (B : LfType) → s'.metavariables i ≡ Some B → TypeOnOwnTerms oF (fill_type (skeletons_of s'.metavariables) β B)) × IsWellFormed Σe s'
    unified = written_unifier Σ Σ' ok S x W typed below s sc first free E te w θ σ inst apart y X at fams args h U A offer T e K of_family F ρ back_to writing hw φ m s' run

    abbrev β : ℕ → Option Term
    β = unified.0

    -- Reading back
    reads : (c : ℕ) (B : LfType) → Σ₁.types c ≡ Some B → (entry_reading first (blocks_of E.blocks) θ 0 c ≡ rename_read ν (f c)) × (f c ≡ None → δ c ≡ c)
    reads c B q = (ap (λ (g : ℕ → Option (ℕ × ℕ)). g c) (fun_ext (λ d. at_entry (entry_constant zero first Bs d))) ∙ ap (rename_read ν) (sym (reading_moved γ first Bs θ (length F) c)), λ z. stays Σ Σ' ok S x W typed below s sc first free E te w θ σ inst apart y X at fams args h0 T e (length F) c (B, q) (sym (reading_moved γ first Bs θ (length F) c) ∙ z))
      where
        none : (n : ℕ) → n + 0 ≡ n
        none n = omega arith

        left_none : (n : ℕ) → n ≡ 0 + n
        left_none n = omega arith

        at_image : (a : Image) → variable_past 0 a ≡ ν (variable_past (length F) a)
        at_image (keep u) = none u ∙ sym (back_far (length F) back_to u)
        at_image (put a N) = sym (back_far (length F) back_to 0) ∙ ap ν (sym (left_none (length F)))

        at_entry : (z : Option EntryConstant) → read_entry θ 0 z ≡ rename_read ν (read_entry θ (length F) z)
        at_entry None = refl
        at_entry (Some i) = ap (λ u. Some (length i.block.some, u)) (at_image (θ i.number i.place))

    keeps_typing : (N : Term) (B : LfType) → IsType Σe F B → TypeOnOwnTerms oF B → HasType Σe F N B → OnOwnTerms oF N → HasType Σ' G (carried δ f ν N) (carried_type δ f ν B)
    keeps_typing N B t own n on = subst (λ D. HasType Σ' D (carried δ f ν N) (carried_type δ f ν B)) (types_twice γ δ G back) (moved_typed δ Σr Σ' types_back kinds_back Gr (rename ν (Rattle.lf_numbered.specs.Reading.read f N)) (rename_type ν (Rattle.lf_numbered.specs.Reading.read_type f B)) (back_typed Σ Σr vr first E (θ₂ Σ Σ' ok S x W typed below s sc first free E te w θ σ inst apart y X at fams args h0 T e) (σ₂ Σ Σ' ok S x W typed below s sc first free E te w θ σ inst apart y X at fams args h0 T e) (room Σ Σ' ok S x W typed below s sc first free E te w θ σ inst apart y X at fams args h0 T e) F ρ back_to writing N B t own n on))

    unifier : Solution Σ' G (Rattle.lf_numbered.specs.LeftUnifiers.read_store first (blocks_of E.blocks) θ s') G (λ i. carried_value δ f ν (β i))
    unifier = solution_read Σ₁ Σe Σ' okE oke x.ok first Bs θ δ ν f reads F G (world_is_context w) oF keeps_typing s' (run_form Σ₁ okE (numbered_ready Σ ok W typed first free below E te.variables y X at h U A offer K of_family) run) unified.5 β unified.2 unified.3 unified.4

    unifier_of : HeadUnifier w first below (record { case = E; variable = y; type = X; head = h; terms = U; left = A }) θ σ s'
    unifier_of =
        let (χ, is_ground, keeps, holds, terms_are) = ground_of Σ Σ' ok S x W typed below s sc first free E te w θ σ inst apart y X at fams args h U A offer T e K of_family F ρ back_to writing hw φ m in
        record {
          values = χ;
          is_ground = is_ground;
          keeps = keeps;
          holds = holds;
          terms = λ i. carried_value δ f ν (β i);
          same = λ i B g. let (N, p) = φ_terms i B g in ap (carried_value δ f ν) (unified.1 i B N g p) ∙ ap Some (sym (terms_are i B N g p));
          unifier = unifier;
        }

  pub head_is_unifier_of : ArgumentsAreBelow below A → (s' : Store) → Run (with_entries Σ first (blocks_of E.blocks)) (numbered_store below E y X h U A K) s' → HeadUnifier w first below (record { case = E; variable = y; type = X; head = h; terms = U; left = A }) θ σ s'
  head_is_unifier_of b s' run =
      let (F, ρ, back_to, writing) = instance_is_written Σ Σr W S Gr vr first E (θ₂ Σ Σ' ok S x W typed below s sc first free E te w θ σ inst apart y X at fams args h0 T e) (σ₂ Σ Σ' ok S x W typed below s sc first free E te w θ σ inst apart y X at fams args h0 T e) (room Σ Σ' ok S x W typed below s sc first free E te w θ σ inst apart y X at fams args h0 T e) (stay_apart Σ Σ' ok S x W typed below s sc first free E te w θ σ inst apart y X at fams args h0 T e) in
      let hw : HeadWritten Σ Σr vr first E (θ₂ Σ Σ' ok S x W typed below s sc first free E te w θ σ inst apart y X at fams args h0 T e) (σ₂ Σ Σ' ok S x W typed below s sc first free E te w θ σ inst apart y X at fams args h0 T e) (room Σ Σ' ok S x W typed below s sc first free E te w θ σ inst apart y X at fams args h0 T e) F ρ back_to writing sc below s y X at fams args (h₂ Σ Σ' ok S x W typed below s sc first free E te w θ σ inst apart y X at fams args h0 T e) (T₂ Σ Σ' ok S x W typed below s sc first free E te w θ σ inst apart y X at fams args h0 T e) (e₂ Σ Σ' ok S x W typed below s sc first free E te w θ σ inst apart y X at fams args h0 T e) h U A = head_written Σ Σr vr first E (θ₂ Σ Σ' ok S x W typed below s sc first free E te w θ σ inst apart y X at fams args h0 T e) (σ₂ Σ Σ' ok S x W typed below s sc first free E te w θ σ inst apart y X at fams args h0 T e) (room Σ Σ' ok S x W typed below s sc first free E te w θ σ inst apart y X at fams args h0 T e) F ρ back_to writing sc below s y X at fams args (h₂ Σ Σ' ok S x W typed below s sc first free E te w θ σ inst apart y X at fams args h0 T e) (T₂ Σ Σ' ok S x W typed below s sc first free E te w θ σ inst apart y X at fams args h0 T e) (e₂ Σ Σ' ok S x W typed below s sc first free E te w θ σ inst apart y X at fams args h0 T e) h U A offer head_stays in
      let (φ, m) = hw.makes b in
      unifier_of F ρ back_to writing hw φ m s' run
