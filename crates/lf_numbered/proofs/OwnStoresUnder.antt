-- After a run from the store of a typed case by number typed unifiers that are on own terms where nothing is bound are so at all, with the types.
use Rattle.std.proofs.Common.{◌≡◌, ℕ, zero, List, [], Option, Some, None, refl, sym, subst}
use Rattle.std.specs.Prelude.{Bool}
use Rattle.lf.specs.Syntax.{Head, Spine, Term, LfType, Kind, Skeleton}
use Rattle.lf.specs.AtOnce.{shift_by}
use Rattle.lf.specs.Typing.{Signature, TypeAt, IsSignature}
use Rattle.lf.specs.Variables.{target}
use Rattle.lf.specs.Subordination.{Block, AreTypedBlocks}
use Rattle.lf_unification.specs.Filling.{fill_type}
use Rattle.lf_unification.specs.OpenTyping.{skeletons_of}
use Rattle.lf_unification.specs.Putting.{Unbound}
use Rattle.lf_unification.specs.Solving.{IsWellFormed}
use Rattle.lf_unification.specs.Steps.{Run}
use Rattle.lf_unification.specs.Unifiers.{Solution, Store}
use Rattle.lf_unification.proofs.Runs.{run_form}
use Rattle.lf_cases.specs.Reached.{arguments_count}
use Rattle.lf_numbered.specs.EntryConstants.{with_entries, IsFreeFrom}
use Rattle.lf_numbered.specs.NumberedCase.{NumberedCase, AreTypedVariables}
use Rattle.lf_numbered.specs.OwnStores.{filled_terms, numbered_store, IsNumberedOffer, FillingsStayOnOwnTerms}
use Rattle.lf_numbered.specs.OwnTerms.{blocks_of, own_terms, OnOwnTerms, TypeOnOwnTerms}
use Rattle.lf_numbered.proofs.OwnStoresEntry.{ok₁}
use Rattle.lf_numbered.proofs.OwnStoresFillings.{types_own, values_own}
use Rattle.lf_numbered.proofs.OwnStoresOpened.{filled_own}
use Rattle.lf_numbered.proofs.OwnStoresStart.{numbered_owned, numbered_ready}
use Rattle.lf_numbered.proofs.OwnStoresSteps.{StoreOwned}
use Rattle.lf_numbered.proofs.OwnStoresTerms.{ValueOnOwnTerms}
use Rattle.lf_numbered.proofs.OwnTerms.{rename_own}

same_terms : (μ : ℕ → Skeleton) (β : ℕ → Option Term) (k : ℕ) (u : Option Spine) → filled_terms μ β k u ≡ filled_own μ β zero (rename_own (shift_by k) u)
same_terms μ β k None = refl
same_terms μ β k (Some U) = refl

module _ (Σ : Signature) (ok : IsSignature Σ) (W : List Block) (typed : AreTypedBlocks Σ W) (first : ℕ) (free : IsFreeFrom Σ first) (below : ℕ → ℕ → Bool) (C : NumberedCase) (tv : AreTypedVariables Σ first W C) (x : ℕ) (X : LfType) (at : TypeAt C.variables x X) (h : Head) (U : Spine) (A : LfType) (offer : IsNumberedOffer Σ first C X h U A) (K : Kind) (of_family : Σ.kinds (target X) ≡ Some K) (finish : Store) (run : Run (with_entries Σ first (blocks_of C.blocks)) (numbered_store below C x X h U A K) finish) (F : List LfType) (β : ℕ → Option Term) (u : Solution (with_entries Σ first (blocks_of C.blocks)) [] finish F β) where
  abbrev Σ₁ : Signature
  Σ₁ = with_entries Σ first (blocks_of C.blocks)

  abbrev before : Store
  before = numbered_store below C x X h U A K

  abbrev μ : ℕ → Skeleton
  μ = skeletons_of finish.metavariables

  abbrev o : ℕ → Option Spine
  o c = filled_terms (skeletons_of finish.metavariables) β (arguments_count A) (own_terms first C.blocks c)

  okE : IsSignature Σ₁
  okE = ok₁ Σ ok W typed first free C tv

  form : IsWellFormed Σ₁ before
  form = numbered_ready Σ ok W typed first free below C tv x X at h U A offer K of_family

  start : StoreOwned μ o β before
  start = numbered_owned Σ ok W typed first free below C tv x X at h U A offer K of_family μ β o (λ c. same_terms μ β (arguments_count A) (own_terms first C.blocks c))

  module _ (unbound : (m : ℕ) (N : Term) → Unbound finish.bindings m → β m ≡ Some N → OnOwnTerms (λ c. filled_terms (skeletons_of finish.metavariables) β (arguments_count A) (own_terms first C.blocks c)) N) where
    given : (m : ℕ) → Unbound finish.bindings m → ValueOnOwnTerms o (β m)
    given m n = by (β m) refl
      where
        by : (y : Option Term) → β m ≡ y → ValueOnOwnTerms o (β m)
        by None e = subst (ValueOnOwnTerms o) (sym e) tt
        by (Some N) e = subst (ValueOnOwnTerms o) (sym e) (unbound m N n e)

    pub values : (m : ℕ) (N : Term) → β m ≡ Some N → OnOwnTerms o N
    values m N e = subst (ValueOnOwnTerms o) e (values_own Σ₁ okE before finish form run (run_form Σ₁ okE form run) F β u o start given m)

    pub types : (m : ℕ) (B : LfType) → finish.metavariables m ≡ Some B → TypeOnOwnTerms o (fill_type μ β B)
    types = types_own Σ₁ okE before finish form run (run_form Σ₁ okE form run) F β u o start given

pub fillings_stay_on_own_terms : FillingsStayOnOwnTerms
fillings_stay_on_own_terms Σ ok W typed first free below C tc x X at h U A offer K f finish run F β u k = (
  values Σ ok W typed first free below C tc.variables x X at h U A offer K f finish run F β u k,
  types Σ ok W typed first free below C tc.variables x X at h U A offer K f finish run F β u k,
)
