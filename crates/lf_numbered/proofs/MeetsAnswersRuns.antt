-- Where unification answers at each place `instance_of` has an answer, and cases of runs by number fit their patterns.
use Rattle.std.proofs.Common.{◌≡◌, ℕ, suc, ◌+◌, List, [], ◌∷◌, length, refl, sym, ap, ◌∙◌, subst}
use Rattle.std.specs.Prelude.{Bool, true, false, Option, Some, None}
use Rattle.lf.specs.Syntax.{Term, Spine, nil, app, LfType, Kind, kind_pi, star, skeleton}
use Rattle.lf.specs.Entries.{kind_quantifiers}
use Rattle.lf.specs.AtOnce.{shift_by, in_front}
use Rattle.lf.specs.Substitution.{Image, keep, put, single}
use Rattle.lf.specs.Typing.{Signature, instantiate_kind}
use Rattle.lf.specs.Subordination.{Block}
use Rattle.lf.specs.Variables.{binders}
use Rattle.lf.specs.Worlds.{instance}
use Rattle.lf_checks.specs.Clause.{Clause, IsClause, from_constant, from_entry}
use Rattle.lf_checks.specs.Marks.{TypedPlacesFrom}
use Rattle.lf_cases.specs.Case.{covered_places, input_goal}
use Rattle.lf_cases.specs.Missing.{put_in}
use Rattle.lf_cases.specs.OutputGoal.{renumber}
use Rattle.lf_cases.specs.Pattern.{is_given, origin}
use Rattle.lf_cases.specs.Reached.{arguments_count}
use Rattle.lf_cases.proofs.OutputItems.{length_instance}
use Rattle.lf_coverage.specs.SplitStore.{answer_values}
use Rattle.lf_coverage.specs.TypedCase.{TypedArguments}
use Rattle.lf_coverage.proofs.Parts.{some_same}
use Rattle.lf_numbered.specs.MeetsAnswers.{IsOfWorlds}
use Rattle.lf_numbered.specs.MeetsAnswersRuns.{EachPlaceIsAnswered, InputRunFits, BesideFits}
use Rattle.lf_numbered.specs.NewBlock.{rename_all}
use Rattle.lf_numbered.specs.NumberedCase.{NumberedCase}
use Rattle.lf_numbered.specs.Numbering.{numbered}
use Rattle.lf_numbered.specs.OwnStores.{ComesByNumbers, no_split, then_block, then_split}
use Rattle.lf_numbered.proofs.EntryTermsInputs.{beside_has_typed_places, clause_is_closed, closed_is_typed, input_goal_is_beside_by_number}
use Rattle.lf_numbered.proofs.MeetsAnswersAnswer.{meeting_by_number_is_answered}
use Rattle.lf_numbered.proofs.MeetsAnswersEquations.{kind_put}
use Rattle.lf_numbered.proofs.MeetsAnswersSearch.{places_are_searched}
use Rattle.lf_numbered.proofs.NumberedBesideStays.{numbered_run_stays_beside}

pub each_place_is_answered : EachPlaceIsAnswered
each_place_is_answered Σ ok W typed first free C tc p tp K f ready d answers refuted = meeting_by_number_is_answered Σ ok W typed first free C tc p tp K f ready d (places_are_searched Σ first C p K answers) refuted

pub of_worlds : (Σ : Signature) (W : List Block) {c : Clause} (i : IsClause Σ W c) → IsOfWorlds (origin i) W
of_worlds Σ W (from_constant k U e) = tt
of_worlds Σ W (from_entry B later E es m e) = m

-- how many places there are
pub places_count : (Σ : Signature) (b : List Bool) (G : List LfType) (θ : ℕ → Image) (S : Spine) (K : Kind) → TypedPlacesFrom Σ b G θ S K → length b ≡ kind_quantifiers K
places_count Σ [] G θ nil star t = refl
places_count Σ [] G θ nil (kind_pi A K) t = absurd t
places_count Σ [] G θ (app M S) K t = absurd t
places_count Σ (b ∷ m) G θ nil K t = absurd t
places_count Σ (b ∷ m) G θ (app M S) star t = absurd t
places_count Σ (true ∷ m) G θ (app M S) (kind_pi A K) (n, t) = ap suc (places_count Σ m G (in_front (put (skeleton A) M) θ) S K t)
places_count Σ (false ∷ m) G θ (app M S) (kind_pi A K) t = ap suc (places_count Σ m G (in_front (put (skeleton A) M) θ) S K t)

pub covered_count : (Ms : List (Option Term)) → length (covered_places Ms) ≡ length Ms
covered_count [] = refl
covered_count (Some M ∷ Ms) = ap suc (covered_count Ms)
covered_count (None ∷ Ms) = ap suc (covered_count Ms)

arguments_count_is : (Σ : Signature) (G : List LfType) (Ms : List (Option Term)) (S : Spine) (K : Kind) → TypedArguments Σ G Ms S K → length Ms ≡ kind_quantifiers K
arguments_count_is Σ G [] nil star t = refl
arguments_count_is Σ G [] nil (kind_pi A K) t = absurd t
arguments_count_is Σ G [] (app N T) K t = absurd t
arguments_count_is Σ G (Some M ∷ Ms) nil K t = absurd t
arguments_count_is Σ G (None ∷ Ms) nil K t = absurd t
arguments_count_is Σ G (Some M ∷ Ms) (app N T) star t = absurd t
arguments_count_is Σ G (None ∷ Ms) (app N T) star t = absurd t
arguments_count_is Σ G (Some M ∷ Ms) (app N T) (kind_pi A K) (m, t) = ap suc (arguments_count_is Σ G Ms T (instantiate_kind A M K) t ∙ kind_put (single (skeleton A) M) K)
arguments_count_is Σ G (None ∷ Ms) (app N T) (kind_pi A K) t = ap suc (arguments_count_is Σ G Ms T (instantiate_kind A N K) t ∙ kind_put (single (skeleton A) N) K)

-- A case of a run from a goal of inputs has no given terms and no local context, and the goal's family.
record IsInput (a : ℕ) (C : NumberedCase) : Type 0 where
  given : C.given ≡ []
  local : C.local ≡ []
  family : C.family ≡ a

comes_as_input : (Σ : Signature) (W : List Block) (first : ℕ) (below : ℕ → ℕ → Bool) (a : ℕ) (G C : NumberedCase) → IsInput a G → ComesByNumbers Σ W first below G C → IsInput a C
comes_as_input Σ W first below a G C h no_split = h
comes_as_input Σ W first below a G C h (then_block {D = D} B r w) =
    let k = comes_as_input Σ W first below a G D h r in
    record { given = ap (rename_all (shift_by _)) k.given; local = ap (renumber (shift_by _)) k.local; family = k.family }
comes_as_input Σ W first below a G C h (then_split {D = D} x X j U A K after r g o e s) =
    let k = comes_as_input Σ W first below a G D h r in
    let υ : ℕ → Image = λ l. answer_values after s.well_formed.order (l + arguments_count A) in
    record { given = ap (put_in υ) k.given; local = ap (λ L. instance L υ) k.local; family = k.family }

pub input_run_fits : InputRunFits
input_run_fits Σ ok W typed first free below a m K kd v C r c i e =
    let (U, t, q) = clause_is_closed Σ ok W typed c i in
    let b = numbered_run_stays_beside Σ ok W typed first free below _ (closed_is_typed Σ ok U t) (numbered first (input_goal a m K)) (input_goal_is_beside_by_number Σ ok W typed first free a m K kd v U t (q ∙ e)) C r in
    let (T, hT, pT) = beside_has_typed_places Σ ok W typed first free C U t b K (ap Σ.kinds (q ∙ e) ∙ kd) in
    let h = comes_as_input Σ W first below a (numbered first (input_goal a m K)) C (record { given = refl; local = refl; family = refl }) r in
    record {
      of_worlds = of_worlds Σ W i;
      of_family = ap Σ.kinds h.family ∙ kd;
      same_family = e ∙ sym h.family;
      all_places = sym (covered_count C.arguments) ∙ places_count _ (covered_places C.arguments) C.variables keep T K pT;
      same_local = ap length h.local;
      given_own = λ j u. absurd (none (subst (λ Ms. is_given Ms j ≡ true) h.given u));
    }
  where
    none : false ≡ true → ⊥
    none x = cc

pub beside_fits : BesideFits
beside_fits Σ W first C p b w own K kd = record {
  of_worlds = w;
  of_family = kd;
  same_family = b.beside.same_family;
  all_places = arguments_count_is _ _ C.arguments _ b.beside.kind b.beside.arguments ∙ ap kind_quantifiers (some_same (sym b.beside.of_family ∙ kd));
  same_local = ap length b.beside.local ∙ length_instance (binders [] p.type) _;
  given_own = own;
}
