-- An instance of a case by number in which block variables are one is an instance of the case with these one.
use Rattle.std.proofs.Common.{◌≡◌, ℕ, zero, ◌+◌, List, [], ◌∷◌, length, refl, sym, ap, ap₂, ◌∙◌, subst, arith}
use Rattle.std.specs.Prelude.{Option, Some, None}
use Rattle.lf.specs.Syntax.{Term, Spine, LfType, constant, variable, metavariable, lambda, root, nil, app, pi, atom}
use Rattle.lf.specs.Substitution.{Image, put, lift, substitute_spine, substitute_type, reduce}
use Rattle.lf.specs.AtOnce.{in_front}
use Rattle.lf.specs.Typing.{Signature, HasType}
use Rattle.lf.specs.Subordination.{Block}
use Rattle.lf.specs.Worlds.{lift_over, instance}
use Rattle.lf_cases.specs.Cover.{place_of}
use Rattle.lf_cases.specs.Missing.{put_in}
use Rattle.lf_numbered.specs.EntryConstants.{EntryConstant, entry_constant, with_entries}
use Rattle.lf_numbered.specs.NumberedCallsStores.{Identifies, identified}
use Rattle.lf_numbered.specs.NumberedCase.{NumberedCase}
use Rattle.lf_numbered.specs.NumberedInstance.{AreTypedValues, IsNumberedInstanceOf, first_constant, moved_constant, moved_entry, move, move_all, move_spine, move_type, move_types}
use Rattle.lf_numbered.specs.NumberedMeets.{IdentifiedHasInstances}
use Rattle.lf_numbered.specs.OwnTerms.{BlockVariable, blocks_of, own_terms}
use Rattle.lf_numbered.proofs.EntryPatternsOutside.{found_at_number}
use Rattle.lf_numbered.proofs.MovedConstants.{blocks_stay, moved_at, moved_from}
use Rattle.lf_numbered.proofs.WritingChoice.{from_is}
use Rattle.lf_numbered.proofs.WritingMove.{skeleton_moved}
use mathlib.Core.Path.{fun_ext}

-- moved twice
mutual
  twice : (δ γ : ℕ → ℕ) (M : Term) → move δ (move γ M) ≡ move (λ c. δ (γ c)) M
  twice δ γ (lambda M) = ap lambda (twice δ γ M)
  twice δ γ (root (constant c) S) = ap (root (constant (δ (γ c)))) (twice_spine δ γ S)
  twice δ γ (root (variable i) S) = ap (root (variable i)) (twice_spine δ γ S)
  twice δ γ (root (metavariable m) S) = ap (root (metavariable m)) (twice_spine δ γ S)

  twice_spine : (δ γ : ℕ → ℕ) (S : Spine) → move_spine δ (move_spine γ S) ≡ move_spine (λ c. δ (γ c)) S
  twice_spine δ γ nil = refl
  twice_spine δ γ (app M S) = ap₂ app (twice δ γ M) (twice_spine δ γ S)

twice_type : (δ γ : ℕ → ℕ) (A : LfType) → move_type δ (move_type γ A) ≡ move_type (λ c. δ (γ c)) A
twice_type δ γ (pi A B) = ap₂ pi (twice_type δ γ A) (twice_type δ γ B)
twice_type δ γ (atom a S) = ap (atom a) (twice_spine δ γ S)

twice_types : (δ γ : ℕ → ℕ) (D : List LfType) → move_types δ (move_types γ D) ≡ move_types (λ c. δ (γ c)) D
twice_types δ γ [] = refl
twice_types δ γ (A ∷ D) = ap₂ (λ B E. B ∷ E) (twice_type δ γ A) (twice_types δ γ D)

twice_all : (δ γ : ℕ → ℕ) (Ms : List (Option Term)) → move_all δ (move_all γ Ms) ≡ move_all (λ c. δ (γ c)) Ms
twice_all δ γ [] = refl
twice_all δ γ (Some M ∷ Ms) = ap₂ (λ N Ns. Some N ∷ Ns) (twice δ γ M) (twice_all δ γ Ms)
twice_all δ γ (None ∷ Ms) = ap (λ Ns. None ∷ Ns) (twice_all δ γ Ms)

lift_stays : (γ : ℕ → ℕ) (L : List LfType) (σ : ℕ → Image) → lift_over (move_types γ L) σ ≡ lift_over L σ
lift_stays γ [] σ = refl
lift_stays γ (A ∷ L) σ = ap lift (lift_stays γ L σ)

values_stay : (Σ : Signature) (Y : List LfType) (o : ℕ → Option Spine) (δ γ : ℕ → ℕ) (X : List LfType) (σ : ℕ → Image) → AreTypedValues Σ Y o (λ c. δ (γ c)) X σ → AreTypedValues Σ Y o δ (move_types γ X) σ
values_stay Σ Y o δ γ [] σ e = e
values_stay Σ Y o δ γ (A ∷ X) σ (N, τ, v, t, w, e) = (
  N,
  τ,
  values_stay Σ Y o δ γ X τ v,
  subst (λ B. HasType Σ Y N (substitute_type reduce τ B)) (sym (twice_type δ γ A)) t,
  w,
  e ∙ ap (λ a. in_front (put a N) τ) (sym (skeleton_moved γ A)),
)

values_back : (Σ : Signature) (Y : List LfType) (o : ℕ → Option Spine) (δ γ : ℕ → ℕ) (X : List LfType) (σ : ℕ → Image) → AreTypedValues Σ Y o δ (move_types γ X) σ → AreTypedValues Σ Y o (λ c. δ (γ c)) X σ
values_back Σ Y o δ γ [] σ e = e
values_back Σ Y o δ γ (A ∷ X) σ (N, τ, v, t, w, e) = (
  N,
  τ,
  values_back Σ Y o δ γ X τ v,
  subst (λ B. HasType Σ Y N (substitute_type reduce τ B)) (twice_type δ γ A) t,
  w,
  e ∙ ap (λ a. in_front (put a N) τ) (skeleton_moved γ A),
)

-- a constant that is moved to the one, and then on
constants_same : (first : ℕ) (C : NumberedCase) (Cs : List Block) (ν π : ℕ → ℕ) → Identifies C π → ((k : ℕ) → ν (π k) ≡ ν k) → (c : ℕ) → moved_constant first (blocks_of C.blocks) Cs ν (moved_constant first (blocks_of C.blocks) (blocks_of C.blocks) π c) ≡ moved_constant first (blocks_of C.blocks) Cs ν c
constants_same first C Cs ν π i s c = by (entry_constant zero first (blocks_of C.blocks) c) refl
  where
    none : (j : ℕ) → zero + j ≡ j
    none j = omega arith

    by : (e : Option EntryConstant) → entry_constant zero first (blocks_of C.blocks) c ≡ e → moved_entry first Cs ν (moved_entry first (blocks_of C.blocks) π c e) (entry_constant zero first (blocks_of C.blocks) (moved_entry first (blocks_of C.blocks) π c e)) ≡ moved_entry first Cs ν c e
    by None q = ap (moved_entry first Cs ν c) q
    by (Some e) q =
        let (j, b, at, number, block, from, place, later, entries, rest) = from_is zero first C.blocks c e q in
        let (d, there, same, fixed) = i j b at in
        let here : entry_constant zero first (blocks_of C.blocks) (first_constant first (blocks_of C.blocks) (π e.number) + length e.before) ≡ Some (record { number = zero + π j; block = d.block; from = first_constant first (blocks_of C.blocks) (π j); place = place_of later; entry = e.entry; before = e.before }) =
        ap (λ k. entry_constant zero first (blocks_of C.blocks) (first_constant first (blocks_of C.blocks) (π k) + length e.before)) (number ∙ none j) ∙ found_at_number zero first C.blocks (π j) d there later e.entry e.before (entries ∙ ap (λ (B : Block). B.entries) (sym same)) in
        ap (moved_entry first Cs ν (first_constant first (blocks_of C.blocks) (π e.number) + length e.before)) here
        ∙ ap (λ k. first_constant first Cs k + length e.before) (ap ν (none (π j)) ∙ s j ∙ ap ν (sym (number ∙ none j)))

module _ (Σ : Signature) (first : ℕ) (J C : NumberedCase) (ν : ℕ → ℕ) (σ : ℕ → Image) (π : ℕ → ℕ) (i : Identifies C π) (s : (k : ℕ) → ν (π k) ≡ ν k) where
  abbrev Σ₁ : Signature
  Σ₁ = with_entries Σ first (blocks_of J.blocks)

  abbrev γ : ℕ → ℕ
  γ = moved_constant first (blocks_of C.blocks) (blocks_of C.blocks) π

  abbrev δ : ℕ → ℕ
  δ = moved_constant first (blocks_of (identified first π C).blocks) (blocks_of J.blocks) ν

  abbrev ε : ℕ → ℕ
  ε = moved_constant first (blocks_of C.blocks) (blocks_of J.blocks) ν

  both : (λ c. δ (γ c)) ≡ ε
  both = fun_ext (λ c. ap (λ Bs. moved_constant first Bs (blocks_of J.blocks) ν (γ c)) (blocks_stay γ C.blocks) ∙ constants_same first C (blocks_of J.blocks) ν π i s c)

  terms : (U : Spine) → move_spine ε U ≡ move_spine δ (move_spine γ U)
  terms U = ap (λ g. move_spine g U) (sym both) ∙ sym (twice_spine δ γ U)

  given_same : put_in σ (move_all ε C.given) ≡ put_in σ (move_all δ (move_all γ C.given))
  given_same = ap (λ g. put_in σ (move_all g C.given)) (sym both) ∙ ap (put_in σ) (sym (twice_all δ γ C.given))

  local_same : instance (move_types ε C.local) σ ≡ instance (move_types δ (move_types γ C.local)) σ
  local_same = ap (λ g. instance (move_types g C.local) σ) (sym both) ∙ ap (λ D. instance D σ) (sym (twice_types δ γ C.local))

  arguments_same : put_in (lift_over C.local σ) (move_all ε C.arguments) ≡ put_in (lift_over (move_types γ C.local) σ) (move_all δ (move_all γ C.arguments))
  arguments_same = ap (λ g. put_in (lift_over C.local σ) (move_all g C.arguments)) (sym both) ∙ ap (put_in (lift_over C.local σ)) (sym (twice_all δ γ C.arguments)) ∙ ap (λ f. put_in f (move_all δ (move_all γ C.arguments))) (sym (lift_stays γ C.local σ))

  -- The lemma
  pub identified_instance : IsNumberedInstanceOf Σ first J C ν σ → IsNumberedInstanceOf Σ first J (identified first π C) ν σ
  identified_instance h = record {
    is_instance = record {
      blocks = λ k d e.
          let (b, x, q) = moved_from γ C.blocks k d e in
          h.is_instance.blocks k b x
          ∙ ap (λ U. Some (record { block = b.block; terms = substitute_spine reduce σ U })) (terms b.terms)
          ∙ ap (λ (c : BlockVariable). Some (record { block = c.block; terms = substitute_spine reduce σ (move_spine δ c.terms) })) (sym q);
      values = values_stay Σ₁ J.variables (own_terms first J.blocks) δ γ C.variables σ (subst (λ g. AreTypedValues Σ₁ J.variables (own_terms first J.blocks) g C.variables σ) (sym both) h.is_instance.values);
    };
    family = h.family;
    given = h.given ∙ given_same;
    local = h.local ∙ local_same;
    arguments = h.arguments ∙ arguments_same;
  }

  -- and back
  pub instance_back : IsNumberedInstanceOf Σ first J (identified first π C) ν σ → IsNumberedInstanceOf Σ first J C ν σ
  instance_back h = record {
    is_instance = record {
      blocks = λ k b e. h.is_instance.blocks k (record { block = b.block; terms = move_spine γ b.terms }) (moved_at γ C.blocks k b e) ∙ ap (λ U. Some (record { block = b.block; terms = substitute_spine reduce σ U })) (sym (terms b.terms));
      values = subst (λ g. AreTypedValues Σ₁ J.variables (own_terms first J.blocks) g C.variables σ) both (values_back Σ₁ J.variables (own_terms first J.blocks) δ γ C.variables σ h.is_instance.values);
    };
    family = h.family;
    given = h.given ∙ sym given_same;
    local = h.local ∙ sym local_same;
    arguments = h.arguments ∙ sym arguments_same;
  }

pub identified_has_instances : IdentifiedHasInstances
identified_has_instances Σ first J C ν σ π i s = (identified_instance Σ first J C ν σ π i s, instance_back Σ first J C ν σ π i s)
