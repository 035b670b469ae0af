-- What the equations of block variables that are one say, and how many arguments they are about.
use Rattle.std.proofs.Common.{◌≡◌, ℕ, zero, suc, ◌+◌, ◌⊎◌, List, [], ◌∷◌, length, inl, inr, refl, sym, ap, ap₂, ◌∙◌, subst, arith}
use Rattle.std.specs.Prelude.{cond, Option, Some}
use Rattle.lf.specs.Syntax.{Term, Spine, nil, app, LfType, Kind, kind_pi, star, Skeleton, skeleton, rename_spine}
use Rattle.lf.specs.Entries.{kind_quantifiers}
use Rattle.lf.specs.Substitution.{Image, lift, single, substitute_kind, reduce}
use Rattle.lf.specs.Typing.{instantiate_kind}
use Rattle.lf.specs.Variables.{same_number}
use Rattle.lf.proofs.Checker.{number_is}
use Rattle.lf_unification.specs.Filling.{fill_spine}
use Rattle.lf_unification.specs.Offering.{spine_equations}
use Rattle.lf_unification.specs.Unifiers.{SolvesAll}
use Rattle.lf_unification.proofs.EquationLemmas.{solves_first}
use Rattle.lf_unification.proofs.RigidSteps.{solves_rest}
use Rattle.lf_checks.specs.ModeForms.{argument_count}
use Rattle.lf_coverage.specs.SplitStore.{open_spine}
use Rattle.lf_coverage.proofs.Choices.{decided}
use Rattle.lf_coverage.proofs.Parts.{none_some, some_same}
use Rattle.lf_numbered.specs.NumberedCallsStores.{identity_equations, move_blocks, some_kind, terms_equations}
use Rattle.lf_numbered.specs.NumberedInstance.{block_at, move_spine}
use Rattle.lf_numbered.specs.OwnTerms.{BlockVariable, rename_blocks, terms_at}

-- how many arguments there are
pub count_opened : (k : ℕ) (S : Spine) → argument_count (open_spine k S) ≡ argument_count S
count_opened k nil = refl
count_opened k (app M S) = ap suc (count_opened k S)

pub count_moved : (γ : ℕ → ℕ) (S : Spine) → argument_count (move_spine γ S) ≡ argument_count S
count_moved γ nil = refl
count_moved γ (app M S) = ap suc (count_moved γ S)

pub kind_put : (σ : ℕ → Image) (K : Kind) → kind_quantifiers (substitute_kind reduce σ K) ≡ kind_quantifiers K
kind_put σ (kind_pi A K) = ap suc (kind_put (lift σ) K)
kind_put σ star = refl

some_count : (O : List LfType) (K : Kind) → kind_quantifiers (some_kind O K) ≡ length O + kind_quantifiers K
some_count [] K = none (kind_quantifiers K)
  where
    none : (k : ℕ) → k ≡ 0 + k
    none k = omega arith
some_count (A ∷ O) K = some_count O (kind_pi A K) ∙ next (length O) (kind_quantifiers K)
  where
    next : (m k : ℕ) → m + suc k ≡ suc m + k
    next m k = omega arith

pub some_star : (O : List LfType) → kind_quantifiers (some_kind O star) ≡ length O
some_star O = some_count O star ∙ none (length O)
  where
    none : (m : ℕ) → m + 0 ≡ m
    none m = omega arith

suc_same : {m k : ℕ} → suc m ≡ suc k → m ≡ k
suc_same e = cc

no_suc : {m : ℕ} → zero ≡ suc m → ⊥
no_suc e = cc

-- what the equations of two spines say
pub spine_solved : (ν : ℕ → Skeleton) (β : ℕ → Option Term) (K : Kind) (S R : Spine) → SolvesAll ν β (spine_equations [] K S R) → argument_count S ≡ kind_quantifiers K → argument_count R ≡ kind_quantifiers K → fill_spine ν β S ≡ fill_spine ν β R
spine_solved ν β star nil nil h l r = refl
spine_solved ν β star nil (app N R) h l r = absurd (no_suc (sym r))
spine_solved ν β star (app M S) R h l r = absurd (no_suc (sym l))
spine_solved ν β (kind_pi A K) nil R h l r = absurd (no_suc l)
spine_solved ν β (kind_pi A K) (app M S) nil h l r = absurd (no_suc r)
spine_solved ν β (kind_pi A K) (app M S) (app N R) (e, h) l r = ap₂ app e (spine_solved ν β (instantiate_kind A M K) S R h (suc_same l ∙ sym (kind_put (single (skeleton A) M) K)) (suc_same r ∙ sym (kind_put (single (skeleton A) M) K)))

-- what the equations of block variables say
pub identity_read : (ν : ℕ → Skeleton) (β : ℕ → Option Term) (π : ℕ → ℕ) (all : List BlockVariable) (m : ℕ) (cs : List BlockVariable) → SolvesAll ν β (identity_equations π all m cs) → (k : ℕ) (b : BlockVariable) → block_at cs k ≡ Some b → (π (k + m) ≡ k + m) ⊎ SolvesAll ν β (terms_equations b (terms_at all (π (k + m))))
identity_read ν β π all m [] h k b e = absurd (none_some e)
identity_read ν β π all m (d ∷ cs) h zero b e = subst (λ j. (π j ≡ j) ⊎ SolvesAll ν β (terms_equations b (terms_at all (π j)))) (none m) (decided (same_number (π m) m) (λ q. inl (number_is (π m) m q)) (λ q. inr (subst (λ (c : BlockVariable). SolvesAll ν β (terms_equations c (terms_at all (π m)))) (some_same e) (subst (λ c. SolvesAll ν β (cond c [] (terms_equations d (terms_at all (π m))))) q (solves_first ν β (cond (same_number (π m) m) [] (terms_equations d (terms_at all (π m)))) _ h)))))
  where
    none : (m : ℕ) → m ≡ 0 + m
    none m = omega arith
identity_read ν β π all m (d ∷ cs) h (suc k) b e = subst (λ j. (π j ≡ j) ⊎ SolvesAll ν β (terms_equations b (terms_at all (π j)))) (next k m) (identity_read ν β π all (suc m) cs (solves_rest ν β (cond (same_number (π m) m) [] (terms_equations d (terms_at all (π m)))) (identity_equations π all (suc m) cs) h) k b e)
  where
    next : (k m : ℕ) → k + suc m ≡ suc k + m
    next k m = omega arith

-- a block variable, renamed and moved
pub made_at : (ρ γ : ℕ → ℕ) (bs : List BlockVariable) (k : ℕ) (b : BlockVariable) → block_at bs k ≡ Some b → (block_at (rename_blocks ρ (move_blocks γ bs)) k ≡ Some (record { block = b.block; terms = rename_spine ρ (move_spine γ b.terms) })) × (terms_at (rename_blocks ρ (move_blocks γ bs)) k ≡ Some (rename_spine ρ (move_spine γ b.terms)))
made_at ρ γ [] k b e = absurd (none_some e)
made_at ρ γ (d ∷ bs) zero b e = (ap (λ (c : BlockVariable). Some (record { block = c.block; terms = rename_spine ρ (move_spine γ c.terms) })) (some_same e), ap (λ (c : BlockVariable). Some (rename_spine ρ (move_spine γ c.terms))) (some_same e))
made_at ρ γ (d ∷ bs) (suc k) b e = made_at ρ γ bs k b e

pub moved_terms : (γ : ℕ → ℕ) (bs : List BlockVariable) (k : ℕ) (b : BlockVariable) → block_at bs k ≡ Some b → terms_at (move_blocks γ bs) k ≡ Some (move_spine γ b.terms)
moved_terms γ [] k b e = absurd (none_some e)
moved_terms γ (d ∷ bs) zero b e = ap (λ (c : BlockVariable). Some (move_spine γ c.terms)) (some_same e)
moved_terms γ (d ∷ bs) (suc k) b e = moved_terms γ bs k b e
