-- The worked rows of ground instances that make a split, and of a case with one more block variable.
use Rattle.std.proofs.Common.{◌≡◌, ℕ, zero, suc, ◌+◌, List, [], ◌∷◌, inl, inr, refl, sym, ap, ◌∙◌, subst, arith}
use Rattle.std.specs.Prelude.{Bool, Some, None}
use Rattle.lf.specs.Syntax.{variable, Term, Spine, root, nil, app, LfType, base, kind_pi, star}
use Rattle.lf.specs.Substitution.{Image, keep, put, lift, substitute, reduce}
use Rattle.lf.specs.AtOnce.{in_front}
use Rattle.lf.specs.Typing.{Signature}
use Rattle.lf.specs.Variables.{Values, everything, nothing}
use Rattle.lf.specs.Subordination.{Member}
use Rattle.lf.specs.Worlds.{World, no_variables, whole_instance, begin_instance, next_entry}
use Rattle.lf.specs.Extension.{Extends}
use Rattle.lf_cases.specs.Cover.{InstanceIn}
use Rattle.lf_cases.specs.Pattern.{Known}
use Rattle.lf_totality.proofs.After.{Extends-self}
use Rattle.lf_coverage.proofs.Parts.{none_some}
use Rattle.lf_numbered.specs.EntryPatternsRuns.{HoldsApart, IsLikeByNumber, IsNumberedSplit, ZerothIs}
use Rattle.lf_numbered.specs.EntryPatternsSplits.{HoldsAs, OneHoldsAs}
use Rattle.lf_numbered.specs.NewInstance.{AreApart, with_instance}
use Rattle.lf_numbered.specs.NumberedArguments.{HasNumberedArguments}
use Rattle.lf_numbered.specs.NumberedBesideInstances.{spare_case, two_instances, older, newer, with_newer, SpareIsSplit, NewBlockHoldsSame}
use Rattle.lf_numbered.specs.NumberedCase.{NumberedCase, IsNumberedInstance}
use Rattle.lf_numbered.specs.NumberedSplitsExamples.{Bare, entry_case, exp, exp_block, has}
use Rattle.lf_numbered.specs.Reading.{variable_past}
use Rattle.lf_numbered.proofs.EntryPatternsSplits.{instances_make_split, new_block_holds_as}
use Rattle.lf_numbered.proofs.NumberedSplitsExamples.{bare_ok, free, blocks_typed}
use Rattle.lf_numbered.proofs.NumberedSplitsExamplesRun.{has_leaf}
use mathlib.Core.Path.{fun_ext}

-- the context of the two instances
pub no_values : (G : List LfType) → Values Bare everything [] G keep
no_values G = record { typed = λ i A g u. absurd g; closed = λ i A g u. absurd g }

abbrev pub one_world : World Bare (exp_block ∷ []) nothing (has (root (variable 0) nil) ∷ exp ∷ [])
one_world = whole_instance exp_block (inl refl) refl (next_entry (has (root (variable 0) nil)) (next_entry exp (begin_instance no_variables (no_values [])) (star, refl, tt)) (kind_pi exp star, refl, ((exp, refl, refl), tt)))

abbrev pub two_worlds : World Bare (exp_block ∷ []) nothing two_instances
two_worlds = whole_instance exp_block (inl refl) refl (next_entry (has (root (variable 0) nil)) (next_entry exp (begin_instance one_world (no_values _)) (star, refl, tt)) (kind_pi exp star, refl, ((exp, refl, refl), tt)))

itself : newer ≡ lift (lift keep)
itself = fun_ext at
  where
    at : (i : ℕ) → keep i ≡ lift (lift keep) i
    at zero = refl
    at (suc zero) = refl
    at (suc (suc i)) = refl

newer_in : InstanceIn two_worlds exp_block newer
newer_in = inl (refl, itself)

older_in : InstanceIn two_worlds exp_block older
older_in = inr ((λ i. keep (suc i)), (newer, inl (refl, itself), refl), refl)

pub older_is : IsNumberedInstance two_worlds 2 entry_case (λ k. older) keep
older_is = record { values = refl; instances = (older_in, refl, tt) }

both_are : IsNumberedInstance two_worlds 2 with_newer (with_instance 1 newer (λ k. older)) keep
both_are = record { values = refl; instances = (older_in, refl, (newer_in, refl, tt)) }

pub new_block_holds_same : NewBlockHoldsSame
new_block_holds_same = (
  two_worlds,
  newer_in,
  older_is,
  both_are,
  new_block_holds_as Bare Bare bare_ok nothing (Extends-self nothing Bare bare_ok) (exp_block ∷ []) blocks_typed 2 free entry_case has_leaf.typed exp_block (inl refl) two_instances two_worlds (λ k. older) keep older_is newer keep newer_in both_are (λ i. ap keep (none i)),
  (refl, tt),
  λ h. other h,
)
  where
    none : (i : ℕ) → i + 0 ≡ i
    none i = omega arith

    other : HasNumberedArguments 2 with_newer (with_instance 1 newer (λ k. older)) keep (app (root (variable 1) nil) nil) → ⊥
    other (e, t) = cc

-- The variable that occurs nowhere
module _ (S : ℕ → Bool) where
  abbrev values : Term → ℕ → Image
  values N = in_front (put (base 0) N) keep

  passes : (N : Term) (x : Image) → substitute reduce (values N) (root (variable (variable_past 1 x)) nil) ≡ substitute reduce keep (root (variable (variable_past 0 x)) nil)
  passes N (keep v) = ap (λ j. substitute reduce (values N) (root (variable j) nil)) (next v) ∙ ap (λ j. root (variable j) nil) (none v)
    where
      next : (v : ℕ) → v + 1 ≡ suc v
      next v = omega arith

      none : (v : ℕ) → v ≡ v + 0
      none v = omega arith
  passes N (put a M) = refl

  module _ (θ : ℕ → ℕ → Image) (N : Term) where
    arguments_same : (T : Spine) → HasNumberedArguments 2 spare_case θ (values N) T → HasNumberedArguments 2 entry_case θ keep T
    arguments_same nil h = h
    arguments_same (app M nil) (e, t) = (e ∙ passes N (θ 0 1), tt)
    arguments_same (app M (app P R)) (e, t) = absurd t

    zeroth_same : (F : Known) → ZerothIs spare_case θ F → ZerothIs entry_case θ F
    zeroth_same None z = tt
    zeroth_same (Some (B, φ)) z = z

    holds : HoldsAs 2 spare_case θ (values N) entry_case θ keep
    holds = record { arguments = arguments_same; given = λ τ g i M e. absurd (none_some e); zeroth = zeroth_same }

  like : (D : NumberedCase) → Member D (entry_case ∷ []) → IsLikeByNumber spare_case D
  like D (inl e) = subst (IsLikeByNumber spare_case) (sym e) (record { family = refl; places = refl; given = refl })
  like D (inr m) = absurd m

  held : (Σ' : Signature) → Extends S Bare Σ' → (G : List LfType) (w : World Σ' (exp_block ∷ []) S G) (θ : ℕ → ℕ → Image) (σ : ℕ → Image) → IsNumberedInstance w 2 spare_case θ σ → AreApart spare_case θ → OneHoldsAs w 2 spare_case θ σ (entry_case ∷ [])
  held Σ' x G w θ σ inst apart =
      let (N, τ, q, t, e) = inst.values in
      (entry_case, inl refl, θ, keep, record { values = refl; instances = (inst.instances.0, refl, tt) }, apart, subst (λ ρ. HoldsAs 2 spare_case θ ρ entry_case θ keep) (sym (e ∙ ap (in_front (put (base 0) N)) q)) (holds θ N))

  spare_split : IsNumberedSplit Bare 2 (exp_block ∷ []) S spare_case (entry_case ∷ [])
  spare_split = instances_make_split Bare 2 (exp_block ∷ []) S spare_case (entry_case ∷ []) like held

no_split : IsNumberedSplit Bare 2 (exp_block ∷ []) nothing entry_case [] → ⊥
no_split sp = sp.holds Bare (Extends-self nothing Bare bare_ok) two_instances two_worlds None keep (app (root (variable 3) nil) nil) held_apart
  where
    apart : AreApart entry_case (λ k. older)
    apart zero zero b c e f s t = refl
    apart zero (suc k) b c e f s t = absurd (none_some f)
    apart (suc j) k b c e f s t = absurd (none_some e)

    held_apart : HoldsApart two_worlds 2 entry_case None keep (app (root (variable 3) nil) nil)
    held_apart = record {
      holds = record { instances = λ k. older; values = keep; is_ground = older_is; zeroth = tt; given = λ i M e. absurd (none_some e); has_arguments = (refl, tt) };
      are_apart = apart;
    }

pub spare_is_split : SpareIsSplit
spare_is_split = (spare_split, no_split)
