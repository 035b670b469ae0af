-- An equation that a split by number leaves is true of each ground instance with the head: the equation is taken first,
-- and the bindings are put in.
use Rattle.std.proofs.Common.{◌≡◌, ℕ, List, [], ◌∷◌, ◌+◌, length, inl, inr, refl, sym, ap, ◌∙◌, subst}
use Rattle.std.specs.Prelude.{Option}
use Rattle.lf.specs.Syntax.{Term, Skeleton, LfType}
use Rattle.lf.specs.Substitution.{Image, keep}
use Rattle.lf.specs.AtOnce.{shift_by}
use Rattle.lf.specs.Typing.{Signature}
use Rattle.lf.specs.Subordination.{Block, Member}
use Rattle.lf_unification.specs.Lists.{followed}
use Rattle.lf_unification.specs.OpenTyping.{skeletons_of}
use Rattle.lf_unification.specs.Solving.{LeftOver}
use Rattle.lf_unification.specs.Steps.{Run, Step, next_equation, no_step, put_bindings, then_run}
use Rattle.lf_unification.specs.Unifiers.{Equation, Solution, Solves, Store}
use Rattle.lf_unification.proofs.Putting.{put_some}
use Rattle.lf_cases.specs.Reached.{arguments_count}
use Rattle.lf_numbered.specs.LeftEquations.{HeadIsGiven, HoldsTrue, LeftHoldsTrue, LeftIsTrue, NewHeadIsGiven, RunLeftHoldsTrue, shown_store}
use Rattle.lf_numbered.specs.LeftUnifiers.{HeadUnifier, read_equation, read_store}
use Rattle.lf_numbered.specs.NewInstance.{with_instance}
use Rattle.lf_numbered.specs.OwnTerms.{BlockVariable, blocks_of, rename_blocks}
use Rattle.lf_numbered.proofs.EntryPatternsSplits.{new_block_holds_as}
use Rattle.lf_numbered.proofs.LeftTyped.{blocks_moved}
use Rattle.lf_numbered.proofs.LeftUnifiers.{head_is_unifier}
use Rattle.lf_numbered.proofs.NewInstance.{new_instance_is_of_new_block}
use Rattle.lf_numbered.proofs.NumberedCallsLaws.{reached_by_number_is_typed}
use Rattle.lf_numbered.proofs.NumberedReached.{reached_holds_back}
use Rattle.lf_numbered.proofs.OwnTerms.{put_in_keeps}
use Rattle.lf_numbered.proofs.StaysApart.{new_instance_stays_apart}

-- one step more
run_step : {Σ : Signature} {r s t : Store} → Run Σ r s → Step Σ s t → Run Σ r t
run_step no_step p = then_run p no_step
run_step (then_run q r) p = then_run q (run_step r p)

-- a member of a list, with what stands before it and behind
taken_out : (e : Equation) (es : List Equation) → Member e es → (fs : List Equation) × (gs : List Equation) × (es ≡ followed fs (e ∷ gs))
taken_out e [] m = absurd m
taken_out e (d ∷ es) (inl q) = ([], es, ap (λ c. c ∷ es) (sym q))
taken_out e (d ∷ es) (inr m) = let (fs, gs, q) = taken_out e es m in (d ∷ fs, gs, ap (λ c. d ∷ c) q)

-- A run that leaves an equation goes on to a store in which it stands first, with the bindings put in.
abbrev put_store : Store → Equation → Equation → List Equation → Store
put_store s e d es = record { metavariables = s.metavariables; bindings = s.bindings; equations = record { local = e.local; left = d.left; right = d.right; of_type = e.of_type } ∷ es }

shown_run : {Σ : Signature} {r s : Store} {Ψ : ℕ → Option LfType} → Run Σ r s → (e : Equation) → Member e s.equations → (l : LeftOver Ψ s e) → (es : List Equation) × Run Σ r (put_store s e l.shown es)
shown_run {Σ = Σ} {r = r} {s = s} run e m l =
    let (fs, gs, q) = taken_out e s.equations m in
    let first : Run Σ r (record { metavariables = s.metavariables; bindings = s.bindings; equations = e ∷ followed fs gs }) = run_step (subst (λ es. Run Σ r (record { metavariables = s.metavariables; bindings = s.bindings; equations = es })) q run) (next_equation fs e gs) in
    (followed fs gs, run_step first (put_bindings (put_some l.put_left) (put_some l.put_right)))

-- the equation that is shown has the same local context
shown_true : (μ : ℕ → Skeleton) (first : ℕ) (Bs : List Block) (θ : ℕ → ℕ → Image) (β : ℕ → Option Term) (e d : Equation) → d.local ≡ e.local → Solves μ β (read_equation first Bs θ (record { local = e.local; left = d.left; right = d.right; of_type = e.of_type })) → Solves μ β (read_equation first Bs θ d)
shown_true μ first Bs θ β e d q s = subst (λ D. Solves μ β (read_equation first Bs θ (record { local = D; left = d.left; right = d.right; of_type = e.of_type }))) (sym q) s

pub left_is_true : LeftIsTrue
left_is_true Σ ok W typed below s S sc first free C tc x over shown l fams args b Σ' ext G w θ σ inst apart h =
    let (es, run) = shown_run l.left.run l.equation l.listed l.left_over in
    let u : HeadUnifier w first below l.offer θ σ (put_store l.after l.equation l.left_over.shown es) = head_is_unifier Σ ok W typed below s S sc first free C tc x l.type l.at fams args l.offer l.is_offered b l.kind l.of_family (put_store l.after l.equation l.left_over.shown es) run Σ' ext G w θ σ inst apart h in
    subst (λ d. HeadUnifier w first below l.offer θ σ (shown_store l.after d)) (sym l.is_shown) (record {
      values = u.values;
      is_ground = u.is_ground;
      keeps = u.keeps;
      holds = u.holds;
      terms = u.terms;
      same = u.same;
      unifier = (u.unifier.0, (u.unifier.1.0, (shown_true (skeletons_of (read_store first (blocks_of l.offer.case.blocks) θ l.after).metavariables) first (blocks_of l.offer.case.blocks) θ u.terms l.equation l.left_over.shown l.left_over.same_local u.unifier.1.1.0, tt)));
    })

renamed_keeps : (k : ℕ) (bs : List BlockVariable) → blocks_of (rename_blocks (shift_by k) bs) ≡ blocks_of bs
renamed_keeps k bs = ap blocks_of (blocks_moved k bs) ∙ put_in_keeps (λ i. keep (i + k)) bs

pub left_holds_true : LeftHoldsTrue
left_holds_true Σ ok W typed below s S sc first free C tc x over shown l fams args b Σ' ext G w F υ T h g =
    let u : HeadUnifier w first below l.offer g.instances g.values (shown_store l.after shown) = left_is_true Σ ok W typed below s S sc first free C tc x over shown l fams args b Σ' ext G w g.instances g.values g.is_ground g.are_apart g.has_head in
    subst (λ D. HoldsTrue w first D l.after shown F υ T) (sym l.is_over) (record {
      holds = record { instances = g.instances; values = u.values; is_ground = u.is_ground; zeroth = u.holds.zeroth F (g.holds.zeroth F h.holds.zeroth); given = u.holds.given υ (g.holds.given υ h.holds.given); has_arguments = u.holds.arguments T (g.holds.arguments T h.holds.has_arguments) };
      terms = u.terms;
      same = u.same;
      unifier = subst (λ Bs. Solution Σ' G (read_store first Bs g.instances (shown_store l.after shown)) G u.terms) (sym (renamed_keeps (arguments_count l.offer.left) l.offer.case.blocks)) u.unifier;
    })

pub run_left_holds_true : RunLeftHoldsTrue
run_left_holds_true Σ ok W typed below s S sc first free ps goal tg C over shown r fams args b Σ' ext G w F υ T h g =
    ((reached_holds_back Σ Σ' ok S ext W typed first free below ps goal tg C r.reached).1 G w h.holds.instances h.holds.values h.holds.is_ground, left_holds_true Σ ok W typed below s S sc first free C (reached_by_number_is_typed Σ ok W typed first free below ps goal tg C r.reached) r.candidate over shown r.leaves fams args b Σ' ext G w F υ T h g)

pub head_is_given : HeadIsGiven
head_is_given Σ W S G w first o θ σ inst apart h = record { instances = θ; values = σ; is_ground = inst; are_apart = apart; holds = record { arguments = λ T a. a; given = λ τ g. g; zeroth = λ F z. z }; same = refl; has_head = h }

pub new_head_is_given : NewHeadIsGiven
new_head_is_given Σ Σ' ok S ext W typed first free C tc G w θ σ inst apart B m φ i none x X h U A T e =
    let (ρ, j, p) = new_instance_is_of_new_block Σ Σ' ok S ext W typed first free C tc.variables G w θ σ inst B m φ i in
    record { instances = with_instance (length C.blocks) φ θ; values = ρ; is_ground = j; are_apart = new_instance_stays_apart C θ apart B φ none; holds = new_block_holds_as Σ Σ' ok S ext W typed first free C tc B m G w θ σ inst φ ρ i j p; same = p x; has_head = (T, p x ∙ e) }
