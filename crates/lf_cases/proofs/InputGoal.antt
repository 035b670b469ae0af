-- Where the goal of input coverage is covered, the inputs of the family are.
use Rattle.lf_cases.specs.Case.{HasArguments, IsGroundInstance, Item, chosen_count, covered_places, free_variable, goal_arguments, goal_items, input_goal, past_place}
use Rattle.lf_cases.specs.Cover.{Offered, CoveredBy, CoveredInputs, by_constant, by_entry, before, place_of, AgreesOutside, AreTerms}
use Rattle.lf_cases.specs.Pattern.{Known, Pattern, head_pattern, origin, of_constant, of_entry, CoversTuple, OneCovers, AreHeadsOf, IsCoveredCase}
use Rattle.lf_cases.proofs.Instances.{instance_typed, place_among}
use Rattle.lf_cases.proofs.GroundTypes.{outside_ground, first_closed, clause_typed}
use Rattle.lf_cases.proofs.StrictUsed.{places_used}
use Rattle.lf_checks.proofs.StrictTypes.{either_cases}
use Rattle.lf_checks.proofs.EtaTest.{both_r}
use Rattle.lf_checks.specs.Tests.{both}
use Rattle.lf_checks.specs.Strict.{strict_at}
use Rattle.lf_checks.specs.Clause.{Clause, scope, outside, variables, among, IsClause, from_constant, from_entry, constant_clause, entry_clause}
use Rattle.lf.specs.Extension.{Extends}
use Rattle.lf_checks.specs.Marks.{Mark, MentionChosenOnly, SamePlaces, TypedPlaces, TypedPlacesFrom, UsesPlaces, input_places}
use Rattle.lf_checks.specs.Ground.{ground_by}
use Rattle.std.proofs.Common.{◌≡◌, ℕ, zero, suc, List, [], ◌∷◌, ◌+◌, refl, sym, ap, ◌∙◌, subst, arith, inl, inr, true≢false}
use Rattle.std.specs.Prelude.{Bool, true, false, Option, Some, None, ◌⊎◌}
use Rattle.lf.specs.Syntax.{Head, constant, variable, Term, Spine, nil, app, LfType, Kind, kind_pi, star, skeleton, rename_type, lift_renaming}
use Rattle.lf.specs.Substitution.{Image, keep, put, substitute, substitute_spine, substitute_type, reduce}
use Rattle.lf.specs.AtOnce.{in_front}
use Rattle.lf.specs.Eta.{eta_long}
use Rattle.lf.specs.Skeletons.{constant_skeletons, context_skeletons}
use Rattle.lf.specs.Typing.{Signature, HasType, IsType, IsContext, IsSignature}
use Rattle.lf.specs.Variables.{target, target_arguments, under, hide, everything, nothing, Values, Within}
use Rattle.lf.specs.Subordination.{Block, Member, AreTypedBlocks}
use Rattle.lf.specs.Worlds.{World}
use Rattle.lf.proofs.Agreement.{agree_on_type}
use Rattle.lf.proofs.Eta.{eta_both, reduce_nil}
use Rattle.lf.proofs.ToSkeletons.{typed_has_skeleton}
use Rattle.lf.specs.SkeletonTyping.{TermSkeleton}
use Rattle.lf.proofs.TypeLaws.{substitute_renamed_type, skeleton_renamed, skeleton_substituted}

-- σ gives the variables so far what θ gives the places before that are in V
abbrev Follows : (ℕ → Bool) → (ℕ → ℕ) → (ℕ → Image) → (ℕ → Image) → Type 0
Follows V ρ σ θ = (i : ℕ) → V i ≡ true → σ (ρ i) ≡ θ i

follows_chosen : (V : ℕ → Bool) (ρ : ℕ → ℕ) (σ θ : ℕ → Image) (x y : Image) → y ≡ x → Follows V ρ σ θ → Follows (under V) (lift_renaming ρ) (in_front y σ) (in_front x θ)
follows_chosen V ρ σ θ x y q h zero e = q
follows_chosen V ρ σ θ x y q h (suc i) e = h i e

follows_other : (V : ℕ → Bool) (ρ : ℕ → ℕ) (σ θ : ℕ → Image) (x : Image) → Follows V ρ σ θ → Follows (hide V) (past_place ρ) σ (in_front x θ)
follows_other V ρ σ θ x h zero e = absurd cc
follows_other V ρ σ θ x h (suc i) e = h i e

module _ (Σ : Signature) {W : List Block} {S : ℕ → Bool} {G : List LfType} (w : World Σ W S G) where
  -- the values found, with the arguments that they give and what the earlier variables have
  abbrev Found : List Bool → Kind → (ℕ → ℕ) → List Item → (ℕ → Image) → Spine → Type 0
  Found m K ρ I σ T = (τ : ℕ → Image) × IsGroundInstance w (goal_items m K ρ I) τ × HasArguments τ (goal_arguments m K) T × ((k : ℕ) → τ (k + chosen_count m K) ≡ σ k)

  found : (V : ℕ → Bool) (m : List Bool) (K : Kind) (ρ : ℕ → ℕ) (I : List Item) (σ θ : ℕ → Image) (T : Spine) → MentionChosenOnly V m K → IsGroundInstance w I σ → Follows V ρ σ θ → TypedPlacesFrom Σ m G θ T K → Found m K ρ I σ T
  found V [] star ρ I σ θ nil s g h t = (σ, g, tt, λ k. ap σ (no_more k))
    where
      no_more : (k : ℕ) → k + 0 ≡ k
      no_more k = omega arith
  found V [] star ρ I σ θ (app M T) s g h t = absurd t
  found V [] (kind_pi A K) ρ I σ θ T s g h t = absurd s
  found V (b ∷ m) star ρ I σ θ T s g h t = absurd s
  found V (b ∷ m) (kind_pi A K) ρ I σ θ nil s g h t = absurd t
  found V (false ∷ m) (kind_pi A K) ρ I σ θ (app M T) s g h t =
      let (τ, i, a, k) = found (hide V) m K (past_place ρ) I σ (in_front (put (skeleton A) M) θ) T s g (follows_other V ρ σ θ (put (skeleton A) M) h) t in (τ, i, a, k)
  found V (true ∷ m) (kind_pi A K) ρ I σ θ (app M T) (u, s) g h (n, t) =
      let A' : LfType = rename_type ρ A in
      let e : skeleton A' ≡ skeleton A = skeleton_renamed ρ A in
      let x : Image = put (skeleton A') M in
      let p : substitute_type reduce θ A ≡ substitute_type reduce σ A' = sym (agree_on_type reduce V (λ i. σ (ρ i)) θ A h u) ∙ sym (substitute_renamed_type reduce σ ρ A) in
      let n' : HasType Σ G M (substitute_type reduce σ A') = subst (HasType Σ G M) p n in
      let (τ, i, a, k) = found (under V) m K (lift_renaming ρ) (free_variable A' ∷ I) (in_front x σ) (in_front (put (skeleton A) M) θ) T s (M, σ, g, n', refl) (follows_chosen V ρ σ θ (put (skeleton A) M) x (ap (λ z. put z M) e) h) t in
      let here : τ (chosen_count m K) ≡ put (skeleton A) M = ap τ (at_front (chosen_count m K)) ∙ k zero ∙ ap (λ z. put z M) e in
      let sk : TermSkeleton (constant_skeletons Σ) (context_skeletons G) M (skeleton A) = subst (TermSkeleton (constant_skeletons Σ) (context_skeletons G) M) (skeleton_substituted reduce θ A) (typed_has_skeleton Σ G M (substitute_type reduce θ A) n) in
      let q : substitute reduce τ (eta_long (skeleton A) (variable (chosen_count m K))) ≡ M = (eta_both (constant_skeletons Σ) (skeleton A)).1 (context_skeletons G) τ (chosen_count m K) (skeleton A) M nil here sk refl ∙ reduce_nil (skeleton A) M in
      (τ, i, (sym q, a), λ j. ap τ (one_more j (chosen_count m K)) ∙ k (suc j))
    where
      at_front : (n : ℕ) → n ≡ zero + n
      at_front n = omega arith

      one_more : (j n : ℕ) → j + suc n ≡ suc j + n
      one_more j n = omega arith

places_of_goal : (V : ℕ → Bool) (m : List Bool) (K : Kind) → MentionChosenOnly V m K → covered_places (goal_arguments m K) ≡ m
places_of_goal V [] star s = refl
places_of_goal V [] (kind_pi A K) s = absurd s
places_of_goal V (b ∷ m) star s = absurd s
places_of_goal V (true ∷ m) (kind_pi A K) s = ap (λ x. true ∷ x) (places_of_goal (under V) m K s.1)
places_of_goal V (false ∷ m) (kind_pi A K) s = ap (λ x. false ∷ x) (places_of_goal (hide V) m K s)

some_kind : {K L : Kind} → Some K ≡ Some L → K ≡ L
some_kind e = cc

-- A head that covers a tuple at the inputs of its family is a clause that is offered and covers it: what is ground by the inputs is used, and it
-- is closed under types where the types of the inputs mention inputs only.
module _ (Σ Σ' : Signature) (ok : IsSignature Σ) (S : ℕ → Bool) (x : Extends S Σ Σ') (m : ℕ → List Mark) {W : List Block} (typed : AreTypedBlocks Σ W) {G : List LfType} (w : World Σ' W S G) (K : Kind) where
  ground_values : (c : Clause) (d : IsClause Σ W c) → Σ.kinds (target c.type) ≡ Some K → MentionChosenOnly nothing (input_places (m (target c.type))) K → (U : ℕ → Bool) (τ : ℕ → Image) → Values Σ' U (scope c) G τ → Within (outside c.type everything) U → UsesPlaces U (input_places (m (target c.type))) (target_arguments c.type) → UsesPlaces (ground_by everything (input_places (m (target c.type))) c) (input_places (m (target c.type))) (target_arguments c.type) → Values Σ' (ground_by everything (input_places (m (target c.type))) c) (scope c) G τ
  ground_values c d k sp U τ v o u st = record {
    typed = λ i A g e. v.typed i A g (within i e);
    closed = first_closed Σ ok m c K ty.0 ty.1 k sp st;
  }
    where
      ty : IsContext Σ c.outer × IsType Σ c.outer c.type
      ty = clause_typed Σ ok W typed c d

      within : Within (ground_by everything (input_places (m (target c.type))) c) U
      within i e = by (either_cases (outside c.type everything i) (both (variables c i) (strict_at (input_places (m (target c.type))) nothing (outside c.type c.fixed) i (target_arguments c.type))) e)
        where
          by : (outside c.type everything i ≡ true) ⊎ (both (variables c i) (strict_at (input_places (m (target c.type))) nothing (outside c.type c.fixed) i (target_arguments c.type)) ≡ true) → U i ≡ true
          by (inl q) = o i q
          by (inr q) = places_used U (input_places (m (target c.type))) nothing (outside c.type c.fixed) i (target_arguments c.type) u (both_r (variables c i) _ q)

  abbrev places : Clause → List Bool
  places c = input_places (m (target c.type))

  -- what is ground and stands in the clause itself is used
  own : (c : Clause) (U : ℕ → Bool) → UsesPlaces U (places c) (target_arguments c.type) → (i : ℕ) → outside c.type everything i ≡ false → ground_by everything (places c) c i ≡ true → U i ≡ true
  own c U u i o e = by (either_cases (outside c.type everything i) (both (variables c i) (strict_at (places c) nothing (outside c.type c.fixed) i (target_arguments c.type))) e)
    where
      by : (outside c.type everything i ≡ true) ⊎ (both (variables c i) (strict_at (places c) nothing (outside c.type c.fixed) i (target_arguments c.type)) ≡ true) → U i ≡ true
      by (inl q) = absurd (true≢false (sym q ∙ o))
      by (inr q) = places_used U (places c) nothing (outside c.type c.fixed) i (target_arguments c.type) u (both_r (variables c i) _ q)

  head_covers : (c : Clause) (d : IsClause Σ W c) → Σ.kinds (target c.type) ≡ Some K → MentionChosenOnly nothing (places c) K → (F : Known) (σ : ℕ → Image) (T : Spine) → CoversTuple w (head_pattern c (origin d)) (places c) F [] σ T → CoveredBy w (places c) (target c.type) T
  head_covers c (from_constant k U e) ek sp F σ T h = record {
    head = constant k;
    clause = constant_clause U;
    outer = keep;
    values = h.values;
    offered = by_constant k U (x.types_stay k U e);
    family = refl;
    typed = ground_values (constant_clause U) (from_constant k U e) ek sp h.used h.values h.typed h.outside_used h.uses h.strict;
    agrees = λ i X g. absurd g;
    terms = λ i o u. h.terms i o (own (constant_clause U) h.used h.uses i o u);
    same = h.same;
    uses = h.strict;
  }
  head_covers c (from_entry B later E es n q) ek sp F σ T h =
      let (φ, i, r) = h.stands in
      let (j, e) = (instance_typed Σ' x.ok w B φ i).kept (place_of later) (ap (λ D. among D (place_of later)) (sym q) ∙ place_among later E es) in
      record {
        head = variable j;
        clause = entry_clause B es E;
        outer = before later φ;
        values = h.values;
        offered = by_entry B later E es φ j n q i e;
        family = refl;
        typed = ground_values (entry_clause B es E) (from_entry B later E es n q) ek sp h.used h.values h.typed h.outside_used h.uses h.strict;
        agrees = λ k X g. h.agrees k X g ∙ ap (λ f. f k) r;
        terms = λ k o u. h.terms k o (own (entry_clause B es E) h.used h.uses k o u);
        same = h.same;
        uses = h.strict;
      }

-- And what a clause that is offered covers, its head covers as a pattern.
pub clause_covers : (Σ Σ' : Signature) (S : ℕ → Bool) → Extends S Σ Σ' → {W : List Block} {G : List LfType} (w : World Σ' W S G) (a : ℕ) → S a ≡ true → (ps : List Pattern) → ((c : Clause) (i : IsClause Σ W c) → target c.type ≡ a → Member (head_pattern c (origin i)) ps) → (b : List Bool) (F : Known) (σ : ℕ → Image) (T : Spine) → CoveredBy w b a T → OneCovers w ps b F [] σ T
clause_covers Σ Σ' S x {W} {G} w a sa ps every b F σ T h = by h.clause h.outer h.offered h.family h.values h.typed h.agrees h.terms h.same h.uses
  where
    by : {h : Head} (c : Clause) (θ : ℕ → Image) → Offered w h c θ → target c.type ≡ a → (τ : ℕ → Image) → Values Σ' (ground_by everything b c) (scope c) G τ → AgreesOutside c τ θ → AreTerms c (ground_by everything b c) τ → SamePlaces b T (substitute_spine reduce τ (target_arguments c.type)) → UsesPlaces (ground_by everything b c) b (target_arguments c.type) → OneCovers w ps b F [] σ T
    by c θ (by_constant k U e) f τ v g t s u =
        let i : IsClause Σ W (constant_clause U) = from_constant k U (x.no_new k U e (ap S f ∙ sa)) in
        (head_pattern (constant_clause U) (of_constant U), every (constant_clause U) i f, record { outer = keep; stands = tt; used = ground_by everything b (constant_clause U); outside_used = outside_ground b (constant_clause U); uses = u; strict = u; values = τ; typed = v; agrees = λ n X y. absurd y; given = λ n M z y. absurd cc; terms = t; same = s })
    by c θ (by_entry B later E es φ j m q i e) f τ v g t s u = (head_pattern (entry_clause B es E) (of_entry B later E es q), every (entry_clause B es E) (from_entry B later E es m q) f, record { outer = before later φ; stands = (φ, i, refl); used = ground_by everything b (entry_clause B es E); outside_used = outside_ground b (entry_clause B es E); uses = u; strict = u; values = τ; typed = v; agrees = g; given = λ n M z y. absurd cc; terms = t; same = s })

-- The theorem
pub goal_covers : (Σ : Signature) → IsSignature Σ → (m : ℕ → List Mark) (W : List Block) → AreTypedBlocks Σ W → (S : ℕ → Bool) (a : ℕ) (K : Kind) → Σ.kinds a ≡ Some K → MentionChosenOnly nothing (input_places (m a)) K → (ps : List Pattern) → AreHeadsOf Σ W a ps → IsCoveredCase Σ W S ps (input_goal a (input_places (m a)) K) → CoveredInputs Σ m W S a
goal_covers Σ ok m W typed S a K k sp ps heads cover Σ' x G w T L e t =
    let b : List Bool = input_places (m a) in
    let q : L ≡ K = some_kind (sym e ∙ x.kinds_stay a K k) in
    let (τ, i, h, j) = found Σ' w nothing b K (λ i. i) [] keep keep T sp tt (λ i e. absurd cc) (subst (TypedPlaces Σ' b G T) q t) in
    let (p, n, covers) = cover Σ' x G w None keep T (record { values = τ; is_ground = i; first = tt; given = λ i M e. absurd cc; has_arguments = h }) in
    let (c, d, f, r) = heads p n in
    let at : CoversTuple w (head_pattern c (origin d)) b None [] keep T = subst (λ o. CoversTuple w (head_pattern c (origin d)) o None [] keep T) (places_of_goal nothing b K sp) (subst (λ p. CoversTuple w p (covered_places (goal_arguments b K)) None [] keep T) r covers) in
    by c d f at
  where
    by : (c : Clause) (d : IsClause Σ W c) → target c.type ≡ a → CoversTuple w (head_pattern c (origin d)) (input_places (m a)) None [] keep T → CoveredBy w (input_places (m a)) a T
    by c d f h = subst (λ o. CoveredBy w (input_places (m o)) o T) f (head_covers Σ Σ' ok S x m typed w K c d (ap Σ.kinds f ∙ k) (subst (λ o. MentionChosenOnly nothing (input_places (m o)) K) (sym f) sp) None keep T (subst (λ o. CoversTuple w (head_pattern c (origin d)) (input_places (m o)) None [] keep T) (sym f) h))
