-- What is read off an open body is its filling, renamed.
use Rattle.std.proofs.Common.{◌≡◌, ℕ, List, [], ◌∷◌, Option, refl, sym, ap, ap₂, ◌∙◌}
use Rattle.lf.specs.AtOnce.{lift_renaming_by}
use Rattle.lf.specs.Entries.{Body, declare_constant, declare_definition, declare_family}
use Rattle.lf.specs.Substitution.{keep, reduce}
use Rattle.lf.specs.Syntax.{Kind, LfType, Skeleton, Term, kind_pi, rename_kind, star}
use Rattle.lf.specs.Typing.{IsSignature, Signature}
use Rattle.lf.proofs.TypeLaws.{substitution_as_renaming, substitution_as_renaming_kind, substitution_as_renaming_type}
use Rattle.lf_unification.specs.Dependency.{values}
use Rattle.lf_unification.specs.Filling.{fill, fill_type}
use Rattle.lf_unification.specs.OpenTyping.{OpenHasType, OpenIsType, skeletons_of, under_locals}
use Rattle.lf_unification.specs.PartialInstance.{IsFilling}
use Rattle.lf_unification.specs.Putting.{binders}
use Rattle.lf_unification.specs.Solving.{IsWellFormed}
use Rattle.lf_elaboration.specs.Kinds.{OpenIsKind, fill_kind}
use Rattle.lf_elaboration.specs.Principal.{substitute_body}
use Rattle.lf_elaboration.specs.PrincipalLaws.{fill_body}
use Rattle.tw_abstract.specs.Free.{free_metavariables}
use Rattle.tw_abstract.specs.Positions.{index}
use Rattle.tw_abstract.specs.Reordered.{TakesIndices}
use Rattle.tw_metas.specs.State as metas
use Rattle.tw_putting.specs.Stores.{types_of}
use Rattle.tw_abstract.specs.ReadingLaws.{ReadingIsFilling}
use Rattle.tw_putting.specs.Ready.{IsReady}
use Rattle.tw_putting.specs.Whole.{whole}
use Rattle.tw_recon.specs.Reading.{IsBodyReadAs, IsKindReadAs}

-- the body is typed up to the fillings of the store
abbrev pub BodyIsOpen : Signature → metas.State → Body → Type 0
BodyIsOpen Σ s (declare_family K) = OpenIsKind Σ (types_of s) (IsFilling Σ [] (whole [] s)) [] K
BodyIsOpen Σ s (declare_constant A) = OpenIsType Σ [] (types_of s) (IsFilling Σ [] (whole [] s)) [] A
BodyIsOpen Σ s (declare_definition R A c) = OpenHasType Σ [] (types_of s) (IsFilling Σ [] (whole [] s)) [] R A × OpenIsType Σ [] (types_of s) (IsFilling Σ [] (whole [] s)) [] A

module _ (filling : ReadingIsFilling) (Σ : Signature) (ok : IsSignature Σ) (s : metas.State) (r : IsReady Σ [] s) (w : IsWellFormed Σ (whole [] s)) (ms : List ℕ) (ρ : ℕ → ℕ) (t : TakesIndices (index (free_metavariables w.order)) (index ms) ρ) where
  abbrev μ : ℕ → Skeleton
  μ = skeletons_of (types_of s)

  abbrev β : ℕ → Option Term
  β = values (skeletons_of (types_of s)) w.order

  kind_is_filled : (D : List LfType) (K L : Kind) → OpenIsKind Σ (types_of s) (IsFilling Σ [] (whole [] s)) D K → IsKindReadAs s ms (binders D) K L → L ≡ rename_kind (lift_renaming_by (binders D) ρ) (fill_kind μ (under_locals D β) K)
  kind_is_filled D (kind_pi A K) (kind_pi B L) (a, k) (x, y) = ap₂ kind_pi ((filling Σ ok s r w ms ρ t D).1 A B a x) (kind_is_filled (A ∷ D) K L k y)
  kind_is_filled D star star k x = refl
  kind_is_filled D (kind_pi A K) star k x = absurd x
  kind_is_filled D star (kind_pi B L) k x = absurd x

  pub body_is_filled : (b c : Body) → BodyIsOpen Σ s b → IsBodyReadAs s ms b c → c ≡ substitute_body (λ i. keep (ρ i)) (fill_body μ β b)
  body_is_filled (declare_family K) (declare_family L) k x = ap declare_family (kind_is_filled [] K L k x ∙ sym (substitution_as_renaming_kind reduce ρ (fill_kind μ β K)))
  body_is_filled (declare_constant A) (declare_constant B) a x = ap declare_constant ((filling Σ ok s r w ms ρ t []).1 A B a x ∙ sym (substitution_as_renaming_type reduce ρ (fill_type μ β A)))
  body_is_filled (declare_definition M A d) (declare_definition N B e) (m, a) (p, x, y) =
      ap (declare_definition N B) (sym p)
      ∙ ap₂ (λ N B. declare_definition N B d) ((filling Σ ok s r w ms ρ t []).0 M N A m x ∙ sym (substitution_as_renaming reduce ρ (fill μ β M))) ((filling Σ ok s r w ms ρ t []).1 A B a y ∙ sym (substitution_as_renaming_type reduce ρ (fill_type μ β A)))
  body_is_filled (declare_family K) (declare_constant B) k x = absurd x
  body_is_filled (declare_family K) (declare_definition N B e) k x = absurd x
  body_is_filled (declare_constant A) (declare_family L) k x = absurd x
  body_is_filled (declare_constant A) (declare_definition N B e) k x = absurd x
  body_is_filled (declare_definition M A d) (declare_family L) k x = absurd x
  body_is_filled (declare_definition M A d) (declare_constant B) k x = absurd x
