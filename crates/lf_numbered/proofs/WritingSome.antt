-- The `some` terms of an instance, written, are read back as they were.
use Rattle.std.proofs.Common.{◌≡◌, ℕ, zero, suc, List, [], ◌∷◌, length, Option, refl, ap, ap₂, subst}
use Rattle.std.specs.Prelude.{Bool}
use Rattle.lf.specs.Syntax.{Term, Spine, nil, app, LfType, skeleton, weaken, rename, rename_spine}
use Rattle.lf.specs.Substitution.{Image, substitute, substitute_spine, substitute_type, reduce}
use Rattle.lf.specs.Eta.{add_last}
use Rattle.lf.specs.Typing.{Signature, TypeAt, IsTypedSubstitution}
use Rattle.lf.specs.Subordination.{Block}
use Rattle.lf.specs.Worlds.{World}
use Rattle.lf.proofs.TypeLaws.{skeleton_renamed, skeleton_substituted}
use Rattle.lf.proofs.Worlds.{world_is_context}
use Rattle.lf_cases.specs.Case.{as_term, behind_entries}
use Rattle.lf_cases.specs.Cover.{InstanceIn}
use Rattle.lf_cases.proofs.Instances.{instance_typed}
use Rattle.lf_cases.proofs.LongValues.{term_typed}
use Rattle.lf_numbered.specs.NumberedCase.{NumberedCase, some_spine}
use Rattle.lf_numbered.specs.OwnTerms.{blocks_of}
use Rattle.lf_numbered.specs.Reading.{read, read_spine, entry_reading}
use Rattle.lf_numbered.specs.Writing.{IsWriting, back_over}
use Rattle.lf_numbered.specs.WritingLaws.{IsInstanceWithRoom}
use Rattle.lf_numbered.proofs.WritingBack.{term_back}
use Rattle.lf_numbered.proofs.WritingTyped.{behind_typed}

module _ (Σ Σ' : Signature) {W : List Block} {S : ℕ → Bool} {G : List LfType} (w : World Σ' W S G) (first : ℕ) (C : NumberedCase) (θ : ℕ → ℕ → Image) (σ : ℕ → Image) (r : IsInstanceWithRoom Σ w first C θ σ) (F : List LfType) (ρ : ℕ → Image) (back : ℕ → ℕ) (h : IsWriting Σ' first (blocks_of C.blocks) θ G F ρ back) where
  abbrev fF : ℕ → Option (ℕ × ℕ)
  fF = entry_reading first (blocks_of C.blocks) θ (length F)

  abbrev β : ℕ → ℕ
  β = back_over (length F) back

  abbrev ComesBack : Term → Type 0
  ComesBack N = rename β (read fF (substitute reduce ρ N)) ≡ N

  abbrev AllComeBack : Spine → Type 0
  AllComeBack T = rename_spine β (read_spine fF (substitute_spine reduce ρ T)) ≡ T

  add_back : (T : Spine) (N : Term) → AllComeBack T → ComesBack N → AllComeBack (add_last T N)
  add_back nil N e n = ap (λ M. app M nil) n
  add_back (app M T) N e n = ap₂ app (first_back e) (add_back T N (rest_back e) n)
    where
      first_back : AllComeBack (app M T) → ComesBack M
      first_back q = cc

      rest_back : AllComeBack (app M T) → AllComeBack T
      rest_back q = cc

  some_back : (O : List LfType) (υ : ℕ → Image) → ((i : ℕ) (A : LfType) → TypeAt O i A → ComesBack (as_term (skeleton A) (υ i))) → AllComeBack (some_spine O υ)
  some_back [] υ k = refl
  some_back (A ∷ O) υ k = add_back (some_spine O (λ i. υ (suc i))) (as_term (skeleton A) (υ zero)) (some_back O (λ i. υ (suc i)) (λ i B g. subst (λ a. ComesBack (as_term a (υ (suc i)))) (skeleton_renamed suc B) (k (suc i) (weaken B) (B, g, refl)))) (subst (λ a. ComesBack (as_term a (υ zero))) (skeleton_renamed suc A) (k zero (weaken A) refl))

  pub instance_back : (B : Block) (φ : ℕ → Image) → InstanceIn w B φ → rename_spine (back_over (length F) back) (read_spine (entry_reading first (blocks_of C.blocks) θ (length F)) (substitute_spine reduce ρ (some_spine B.some (behind_entries B.entries φ)))) ≡ some_spine B.some (behind_entries B.entries φ)
  instance_back B φ i =
      let u : IsTypedSubstitution Σ' B.some G (behind_entries B.entries φ) = behind_typed Σ' r.extends.ok B.entries B.some G φ (λ j A g. (instance_typed Σ' r.extends.ok w B φ i).typed.typed j A g refl) in
      some_back B.some (behind_entries B.entries φ) (λ j A g. term_back Σ Σ' w first C θ σ r F ρ back h (as_term (skeleton A) (behind_entries B.entries φ j)) (substitute_type reduce (behind_entries B.entries φ) A) (term_typed Σ' r.extends.ok G (world_is_context w) (skeleton A) (behind_entries B.entries φ j) (substitute_type reduce (behind_entries B.entries φ) A) (skeleton_substituted reduce (behind_entries B.entries φ) A) (u j A g)))
