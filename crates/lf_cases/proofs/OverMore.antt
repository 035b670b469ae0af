-- Coverage beside a set of families is coverage beside each greater one, which has fewer extensions and contexts.
use Rattle.std.proofs.Common.{ℕ, List, inl, inr}
use Rattle.std.specs.Prelude.{Bool}
use Rattle.lf.specs.Syntax.{Head, LfType}
use Rattle.lf.specs.Substitution.{Image}
use Rattle.lf.specs.Typing.{Signature}
use Rattle.lf.specs.Variables.{Within}
use Rattle.lf.specs.Subordination.{Block}
use Rattle.lf.specs.Worlds.{World, OpenInstance, no_variables, single_variable, whole_instance, begin_instance, next_entry, single_beside}
use Rattle.lf.proofs.Worlds.{outside_within}
use Rattle.lf.proofs.ExtensionTyping.{extension_over_less}
use Rattle.lf_checks.specs.Clause.{Clause}
use Rattle.lf_checks.specs.Marks.{Mark}
use Rattle.lf_cases.specs.Cover.{InstanceIn, InstanceBefore, Offered, by_constant, by_entry, CoveredBy, CoveredInputs, CoveredOutputs}

-- a context of worlds beside T, seen beside the lesser set S, with the same instances
module _ (Σ : Signature) (W : List Block) (S T : ℕ → Bool) (less : Within S T) where
  mutual
    beside_less : {G : List LfType} → World Σ W T G → World Σ W S G
    beside_less no_variables = no_variables
    beside_less (single_variable w t n) = single_variable (beside_less w) t (outside_within T S _ less n)
    beside_less (whole_instance B i e o) = whole_instance B i e (open_beside_less o)

    open_beside_less : {B : Block} {G es : List LfType} {θ : ℕ → Image} → OpenInstance Σ W T B G es θ → OpenInstance Σ W S B G es θ
    open_beside_less (begin_instance w v) = begin_instance (beside_less w) v
    open_beside_less (next_entry E o t) = next_entry E (open_beside_less o) t
    open_beside_less (single_beside o t n) = single_beside (open_beside_less o) t (outside_within T S _ less n)

  mutual
    unfolding beside_less open_beside_less

    same_instance : {G : List LfType} (w : World Σ W T G) (B : Block) (θ : ℕ → Image) → InstanceIn w B θ → InstanceIn (beside_less w) B θ
    same_instance no_variables B θ h = h
    same_instance (single_variable w t n) B θ (τ, h, e) = (τ, same_instance w B τ h, e)
    same_instance (whole_instance C i e o) B θ (inl q) = inl q
    same_instance (whole_instance C i e o) B θ (inr h) = inr (same_before o B θ h)

    same_before : {C : Block} {G es : List LfType} {ρ : ℕ → Image} (o : OpenInstance Σ W T C G es ρ) (B : Block) (θ : ℕ → Image) → InstanceBefore o B θ → InstanceBefore (open_beside_less o) B θ
    same_before (begin_instance w v) B θ h = same_instance w B θ h
    same_before (next_entry E o t) B θ (τ, h, e) = (τ, same_before o B τ h, e)
    same_before (single_beside o t n) B θ (τ, h, e) = (τ, same_before o B τ h, e)

  mutual
    unfolding beside_less open_beside_less

    instance_back : {G : List LfType} (w : World Σ W T G) (B : Block) (θ : ℕ → Image) → InstanceIn (beside_less w) B θ → InstanceIn w B θ
    instance_back no_variables B θ h = h
    instance_back (single_variable w t n) B θ (τ, h, e) = (τ, instance_back w B τ h, e)
    instance_back (whole_instance C i e o) B θ (inl q) = inl q
    instance_back (whole_instance C i e o) B θ (inr h) = inr (before_back o B θ h)

    before_back : {C : Block} {G es : List LfType} {ρ : ℕ → Image} (o : OpenInstance Σ W T C G es ρ) (B : Block) (θ : ℕ → Image) → InstanceBefore (open_beside_less o) B θ → InstanceBefore o B θ
    before_back (begin_instance w v) B θ h = instance_back w B θ h
    before_back (next_entry E o t) B θ (τ, h, e) = (τ, before_back o B τ h, e)
    before_back (single_beside o t n) B θ (τ, h, e) = (τ, before_back o B τ h, e)

  offered_same : {G : List LfType} (w : World Σ W T G) (h : Head) (c : Clause) (θ : ℕ → Image) → Offered w h c θ → Offered (beside_less w) h c θ
  offered_same w h c θ (by_constant k U e) = by_constant k U e
  offered_same w h c θ (by_entry B later E es τ j i q v e) = by_entry B later E es τ j i q (same_instance w B τ v) e

  offered_back : {G : List LfType} (w : World Σ W T G) (h : Head) (c : Clause) (θ : ℕ → Image) → Offered (beside_less w) h c θ → Offered w h c θ
  offered_back w h c θ (by_constant k U e) = by_constant k U e
  offered_back w h c θ (by_entry B later E es τ j i q v e) = by_entry B later E es τ j i q (instance_back w B τ v) e

pub inputs_over_more : (Σ : Signature) (m : ℕ → List Mark) (W : List Block) (S T : ℕ → Bool) (a : ℕ) → Within S T → CoveredInputs Σ m W S a → CoveredInputs Σ m W T a
inputs_over_more Σ m W S T a less covered Σ' x G w U K e t =
    let r : CoveredBy (beside_less Σ' W S T less w) _ a U = covered Σ' (extension_over_less T S Σ Σ' less x) G (beside_less Σ' W S T less w) U K e t in
    record {
      head = r.head;
      clause = r.clause;
      outer = r.outer;
      values = r.values;
      offered = offered_back Σ' W S T less w r.head r.clause r.outer r.offered;
      family = r.family;
      typed = r.typed;
      agrees = r.agrees;
      terms = r.terms;
      same = r.same;
      uses = r.uses;
    }

pub outputs_over_more : (Σ : Signature) (m : ℕ → List Mark) (W : List Block) (S T : ℕ → Bool) (c : Clause) (U : ℕ → Bool) (A : LfType) → Within S T → CoveredOutputs Σ m W S c U A → CoveredOutputs Σ m W T c U A
outputs_over_more Σ m W S T c U A less covered Σ' x G w h θ o = covered Σ' (extension_over_less T S Σ Σ' less x) G (beside_less Σ' W S T less w) h θ (offered_same Σ' W S T less w h c θ o)
