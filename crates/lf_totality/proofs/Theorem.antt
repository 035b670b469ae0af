-- Totality: what is checked of a group gives that each of its families lasts.
use Rattle.std.proofs.Common.{◌≡◌, ℕ, zero, suc, List, [], ◌∷◌, ◌<◌, ◌≤◌, ◌+◌, length, refl, sym, ap, ◌∙◌, subst, inl, inr, arith}
use Rattle.std.specs.Prelude.{Bool, true, false, Some, ◌⊎◌}
use Rattle.lf.specs.Syntax.{Head, Spine, nil, app, LfType, Kind, pi, atom}
use Rattle.lf.specs.Substitution.{Image, keep, substitute_spine, substitute_type, reduce}
use Rattle.lf.specs.Typing.{Signature, TypeAt, HeadHasType, IsType, IsContext, IsSignature, ImageHasType, SpineFitsKind}
use Rattle.lf.specs.Variables.{target, target_arguments, binders, onto, Within, Values, everything, nothing, hide}
use Rattle.lf.specs.Subordination.{Block, Member}
use Rattle.lf.specs.Worlds.{World}
use Rattle.lf.specs.Extension.{Extends}
use Rattle.lf.specs.Entries.{quantifiers}
use Rattle.lf_checks.specs.Tests.{both, choose, is_in}
use Rattle.lf_checks.specs.Clause.{Clause, scope, variables, outside, among, IsSubgoal, IsClause, from_constant, from_entry}
use Rattle.lf_checks.specs.Marks.{Mark, input, output, free, input_places, free_places, HasSoundMarks, NoneFree, TypedPlaces, SamePlaces, UsesPlaces}
use Rattle.lf_checks.specs.Ground.{UsesGoal, EachSubgoal, ground_by, ground_first, ground_after}
use Rattle.lf_checks.specs.Modes.{AllGround, InFreePlace, occurs_at, occurs_goal, EachHypothesis, WellModedTo}
use Rattle.lf_checks.specs.Order.{Order, KeepsVariables}
use Rattle.lf_cases.specs.Cover.{place_of, Offered, by_constant, by_entry, AgreesOutside, CoveredBy, CoveredOutputs, OutputsCovered, AreTerms}
use Rattle.lf_totality.specs.Total.{TotalAt, Lasting, HasTotalMarks}
use Rattle.lf_totality.specs.Group.{Checked, IsRight, IsCallee, GroupCheckedBy}
use Rattle.lf_totality.specs.Sizes.{SizesDropBy}
use Rattle.lf_totality.specs.Facts.{AreSolved, IsCalled}
use Rattle.lf_totality.proofs.Drops.{less_before, same_before}
use Rattle.lf.proofs.TypeLaws.{substitute_identity_type}
use Rattle.lf.proofs.Partial.{skeletons_beside, PartialSubstitution, uses_type_all}
use Rattle.lf.proofs.Target.{target_of}
use Rattle.lf.proofs.Worlds.{world_is_context, world_for_callee}
use Rattle.lf.proofs.ExtensionTyping.{extension_keeps_types, extension_keeps_contexts, extension_over_less}
use Rattle.lf_cases.proofs.Assemble.{end_typed}
use Rattle.lf_cases.proofs.BlockEntries.{at_place, onto_onto, index_of, before_at, among_at, among_type, drop_typed}
use Rattle.lf_totality.proofs.Core.{out_index, outer_at, ClauseOk, SubgoalOk, Covered, total}
use Rattle.lf_cases.proofs.GroundTypes.{either_left, grows}
use Rattle.lf_checks.proofs.GroundLocal.{IsGroundLocal}
use Rattle.lf_cases.proofs.Instances.{instance_typed}
use Rattle.lf_cases.proofs.Local.{local_world, ground_sequence_grows, binders_substituted}
use Rattle.lf_checks.proofs.Marks.{sound_inputs}
use Rattle.lf_checks.proofs.Measure.{LexLt}
use Rattle.lf_checks.proofs.Pigeonhole.{Distinct, no_more_than}
use Rattle.lf_checks.proofs.Shape.{shape, shape_head}
use Rattle.lf_checks.proofs.Sizes.{sizes, sizes_same}
use Rattle.lf_cases.proofs.WellWorlded.{worlded}

-- Two walks over the subgoals, joined. Each is at a subgoal; the ground sets hold what stands outside.
abbrev Rest : (ℕ → List Mark) → Clause → ((ℕ → Bool) → LfType → Type 0) → ((ℕ → Bool) → Type 0) → ℕ → ℕ → (ℕ → Bool) → Bool → Type 0
Rest m c P Q n i U t = choose t (EachSubgoal m c P Q n (suc i) U) ((A : LfType) → TypeAt (scope c) i A → P U A × EachSubgoal m c P Q n (suc i) (ground_after m c A U))

walk : (m : ℕ → List Mark) (c : Clause) (P1 P2 P : (ℕ → Bool) → LfType → Type 0) (Q1 Q2 Q : (ℕ → Bool) → Type 0) → ((i : ℕ) (U : ℕ → Bool) (A : LfType) → IsSubgoal c i A → P1 U A → P2 U A → P U A) → ((U : ℕ → Bool) → Within (outside c.type everything) U → Q1 U → Q U) → (n i : ℕ) (U : ℕ → Bool) → Within (outside c.type everything) U → EachSubgoal m c P1 Q1 n i U → EachSubgoal m c P2 Q2 n i U → EachSubgoal m c P Q n i U
walk m c P1 P2 P Q1 Q2 Q f g zero i U w a b = g U w a
walk m c P1 P2 P Q1 Q2 Q f g (suc n) i U w a b = go (λ V. walk m c P1 P2 P Q1 Q2 Q f g n (suc i) V) (variables c i) refl a b
  where
    go : ((V : ℕ → Bool) → Within (outside c.type everything) V → EachSubgoal m c P1 Q1 n (suc i) V → EachSubgoal m c P2 Q2 n (suc i) V → EachSubgoal m c P Q n (suc i) V) → (t : Bool) → variables c i ≡ t → Rest m c P1 Q1 n i U t → Rest m c P2 Q2 n i U t → Rest m c P Q n i U t
    go r true e a b = r U w a b
    go r false e a b = λ A h. (f i U A (e, h) (a A h).0 (b A h).0, r (ground_after m c A U) (λ j q. grows m c A U j (w j q)) (a A h).1 (b A h).1)

-- without `*` no place is free
none_at : (m : List Mark) (x : ℕ) (S : Spine) → NoneFree m → occurs_at (free_places m) x S ≡ true → ⊥
none_at [] x S n e = absurd cc
none_at (b ∷ m) x nil n e = absurd (let f : false ≡ true = nothing_there b m x e in cc)
  where
    nothing_there : (b : Mark) (m : List Mark) (x : ℕ) → occurs_at (free_places (b ∷ m)) x nil ≡ true → false ≡ true
    nothing_there b m x e = e
none_at (input ∷ m) x (app M S) n e = none_at m x S n e
none_at (output ∷ m) x (app M S) n e = none_at m x S n e
none_at (free ∷ m) x (app M S) n e = absurd n

none_goal : (m : List Mark) (x : ℕ) (A : LfType) → NoneFree m → occurs_goal (free_places m) x A ≡ true → ⊥
none_goal m x (pi A B) n e = none_goal m (suc x) B n e
none_goal m x (atom a S) n e = none_at m x S n e

pub outside_from : (A : LfType) (V : ℕ → Bool) (i : ℕ) → outside A V i ≡ true → (k : ℕ) × (i ≡ out_index A k) × (V k ≡ true)
outside_from (pi B A) V i e = go (outside_from A (hide V) i e)
  where
    go : (k : ℕ) × (i ≡ out_index A k) × (hide V k ≡ true) → (k : ℕ) × (i ≡ out_index A (suc k)) × (V k ≡ true)
    go (zero, q, f) = absurd cc
    go (suc k, q, f) = (k, q, f)
outside_from (atom a S) V i e = (i, refl, e)

target_kind : (Σ : Signature) (ok : IsSignature Σ) (C : List LfType) (A : LfType) → IsType Σ C A → (K : Kind) × (Σ.kinds (target A) ≡ Some K)
target_kind Σ ok C A t = let (K, e, s) = end_typed Σ ok A C t in (K, e)

-- How calls are tested: what is known of the values where a subgoal is called, which calls count as equal, and from which family these
-- lead to which.
pub record CallTest : Type 1 where
  pub known : Clause → ℕ → (ℕ → Image) → Type 0
  pub equal : Clause → ℕ → LfType → Type 0
  pub leads : ℕ → ℕ → Type 0

-- the calls of the record's group drop by the test
abbrev pub CallsDropBy : CallTest → Signature → Checked → (ℕ → Order) → Type 0
CallsDropBy t Σ R order = (c : Clause) → IsClause Σ R.worlds c → Member (target c.type) R.families → (i : ℕ) (A : LfType) → IsSubgoal c i A → Member (target A) R.families → SizesDropBy (t.known c i) (t.equal c i A × (t.leads (target A) (target c.type) → ⊥)) order c A

-- what is known is so whenever a call is made, and equal calls lead on
pub record IsSoundTest (t : CallTest) (Σ : Signature) (R : Checked) : Type 0 where
  pub holds : (c : Clause) → IsClause Σ R.worlds c → Member (target c.type) R.families → (i : ℕ) (A : LfType) → IsSubgoal c i A → Member (target A) R.families → (σ : ℕ → Image) → IsCalled Σ R c i σ → t.known c i σ
  pub stays : (a : ℕ) → t.leads a a
  pub goes_on : (a : ℕ) (c : Clause) → IsClause Σ R.worlds c → Member (target c.type) R.families → (i : ℕ) (A : LfType) → IsSubgoal c i A → Member (target A) R.families → t.equal c i A → t.leads a (target c.type) → t.leads a (target A)

module _ (Σ : Signature) (ok : IsSignature Σ) (R : Checked) (order : ℕ → Order) (totals : List Checked) (test : CallTest) (sound : IsSoundTest test Σ R) (gc : GroupCheckedBy (CallsDropBy test Σ R order) Σ R order totals) (records : (Q : Checked) → Member Q totals → IsRight Σ Q) where
  clause_typed : (c : Clause) → IsClause Σ R.worlds c → IsContext Σ c.outer × IsType Σ c.outer c.type
  clause_typed c (from_constant k U e) = (tt, ok.types_ok k U e)
  clause_typed c (from_entry B later E es i q) = drop_typed Σ later E (onto es B.some) (subst (IsContext Σ) (onto_onto later (E ∷ es) B.some) (subst (λ X. IsContext Σ (onto X B.some)) (sym q) (gc.blocks_typed B i)))

  -- the marks of what is called
  callee_marks : (a b : ℕ) → IsCallee R totals a b → HasTotalMarks Σ b (R.marks b)
  callee_marks a b (w, inl i) = gc.marked b i
  callee_marks a b (w, inr (Q, i, f, e, s)) = subst (HasTotalMarks Σ b) e (((records Q i).lasts b f).0)

  -- in the end all is ground
  end_ground : (c : Clause) → IsClause Σ R.worlds c → Member (target c.type) R.families → (U : ℕ → Bool) → Within (outside c.type everything) U → AllGround R.marks c U → Within (variables c) U
  end_ground c k g U w (h, all) x v = go (outside c.type everything x) refl
    where
      go : (t : Bool) → outside c.type everything x ≡ t → U x ≡ true
      go true e = w x e
      go false e = by (all x v e)
        where
          by : (U x ≡ true) ⊎ (occurs_at (free_places (R.marks (target c.type))) x (target_arguments c.type) ≡ true) ⊎ InFreePlace R.marks c x → U x ≡ true
          by (inl u) = u
          by (inr (inl o)) = absurd (none_at (R.marks (target c.type)) x (target_arguments c.type) (gc.marked (target c.type) g).1 o)
          by (inr (inr p)) = absurd (none_goal (R.marks (target p.subgoal)) x p.subgoal (callee_marks (target c.type) (target p.subgoal) (gc.callees c k g p.index p.subgoal p.is_subgoal)).1 p.occurs_there)

  -- A state of the induction: a family, and the others whose equal calls led to it, each once. `room` more may follow.
  record State : Type 0 where
    family : ℕ
    inside : Member family R.families
    behind : List ℕ
    all_in : (v : ℕ) → Member v behind → Member v R.families
    lead : (v : ℕ) → Member v behind → test.leads v family
    distinct : Distinct (family ∷ behind)
    room : ℕ
    fills : room + length behind ≡ length R.families

  abbrev measured : State → Spine → List ℕ
  measured s S = sizes (order s.family) S (s.room ∷ [])

  -- a family from which no equal call was made yet
  abbrev fresh : (f : ℕ) → Member f R.families → State
  fresh f i = record { family = f; inside = i; behind = []; all_in = λ v m. absurd m; lead = λ v m. absurd m; distinct = ((λ m. m), tt); room = length R.families; fills = omega arith }

  -- after an equal call that doesn't lead back
  abbrev Next : State → ℕ → Type 0
  Next s t = (u : State) × (u.family ≡ t) × (suc u.room ≡ s.room)

  next : (s : State) (t : ℕ) → Member t R.families → ((v : ℕ) → test.leads v s.family → test.leads v t) → (test.leads t s.family → ⊥) → Next s t
  next s t i q n = go s.room s.fills (no_more_than (t ∷ s.family ∷ s.behind) R.families d in_all)
    where
      apart : Member t (s.family ∷ s.behind) → ⊥
      apart (inl e) = n (subst (test.leads t) e (sound.stays t))
      apart (inr m) = n (s.lead t m)

      d : Distinct (t ∷ s.family ∷ s.behind)
      d = (apart, s.distinct)

      member_in : (v : ℕ) → Member v (s.family ∷ s.behind) → Member v R.families
      member_in v (inl e) = subst (λ x. Member x R.families) (sym e) s.inside
      member_in v (inr m) = s.all_in v m

      in_all : (v : ℕ) → Member v (t ∷ s.family ∷ s.behind) → Member v R.families
      in_all v (inl e) = subst (λ x. Member x R.families) (sym e) i
      in_all v (inr m) = member_in v m

      leads : (v : ℕ) → Member v (s.family ∷ s.behind) → test.leads v t
      leads v (inl e) = q v (subst (test.leads v) e (sound.stays v))
      leads v (inr m) = q v (s.lead v m)

      go : (r : ℕ) → r + length s.behind ≡ length R.families → length (t ∷ s.family ∷ s.behind) ≤ length R.families → (u : State) × (u.family ≡ t) × (suc u.room ≡ r)
      go zero e l = absurd (omega arith)
      go (suc r) e l = (record { family = t; inside = i; behind = s.family ∷ s.behind; all_in = member_in; lead = leads; distinct = d; room = r; fills = filled r (length s.behind) (length R.families) e }, refl, refl)
        where
          filled : (r b g : ℕ) → suc r + b ≡ g → r + suc b ≡ g
          filled r b g e = omega arith

  -- in an extension
  module _ (Σ' : Signature) where
    abbrev Setting : State → List LfType → Type 0
    Setting s G = Extends (R.below s.family) Σ Σ' × World Σ' R.worlds (R.below s.family) G

    is_clause : (b : ℕ) (G : List LfType) (w : World Σ' R.worlds (R.below b) G) (h : Head) (c : Clause) (θ : ℕ → Image) → Extends (R.below b) Σ Σ' → Member b R.families → target c.type ≡ b → Offered w h c θ → IsClause Σ R.worlds c
    is_clause b G w h c θ x g f (by_constant k U e) = from_constant k U (x.no_new k U e (ap (R.below b) f ∙ gc.itself_below b g))
    is_clause b G w h c θ x g f (by_entry B later E es θ' j i q v e) = from_entry B later E es i q

    module _ (ok' : IsSignature Σ') {S : ℕ → Bool} {G : List LfType} (w : World Σ' R.worlds S G) where
      offered_head : (h : Head) (c : Clause) (θ : ℕ → Image) → Offered w h c θ → HeadHasType Σ' G h (substitute_type reduce θ c.type)
      offered_head h c θ (by_constant k U e) = e ∙ ap Some (sym (substitute_identity_type reduce U))
      offered_head h c θ (by_entry B later E es θ' j i q v e) =
          let (X, g, p) = at_place later E (onto es B.some) θ' in
          let g' : TypeAt (onto B.entries B.some) (place_of later) X = subst (λ Y. TypeAt (onto Y B.some) (place_of later) X) q (subst (λ Y. TypeAt Y (place_of later) X) (sym (onto_onto later (E ∷ es) B.some)) g) in
          subst (TypeAt G j) p (subst (λ y. ImageHasType Σ' G y (substitute_type reduce θ' X)) e ((instance_typed Σ' ok' w B θ' v).typed.typed (place_of later) X g' refl))

      outer_kept : (h : Head) (c : Clause) (θ : ℕ → Image) → Offered w h c θ → (k : ℕ) → c.fixed k ≡ true → (X : LfType) × TypeAt c.outer k X × (j : ℕ) × (θ k ≡ keep j)
      outer_kept h c θ (by_constant k' U e) k f = absurd cc
      outer_kept h c θ (by_entry B later E es θ' j i q v e) k f =
          let (X, g) = among_type es B.some k f in
          let a : among B.entries (index_of later k) ≡ true = ap (λ Y. among Y (index_of later k)) (sym q) ∙ among_at later E es k ∙ f in
          let (j', p) = (instance_typed Σ' ok' w B θ' v).kept (index_of later k) a in
          (X, g, j', before_at later θ' k ∙ p)

      kept : (h : Head) (c : Clause) (θ σ : ℕ → Image) → Offered w h c θ → AgreesOutside c σ θ → KeepsVariables (outside c.type c.fixed) σ
      kept h c θ σ off o i e =
          let (k, q, f) = outside_from c.type c.fixed i e in
          let (X, g, j, p) = outer_kept h c θ off k f in
          (j, ap σ q ∙ sym (outer_at c.type σ k) ∙ o k X g ∙ p)

    -- the parts of a subgoal's conditions
    module _ (ok' : IsSignature Σ') (s : State) (G : List LfType) (x : Extends (R.below s.family) Σ Σ') (w : World Σ' R.worlds (R.below s.family) G) (h : Head) (c : Clause) (θ : ℕ → Image) (off : Offered w h c θ) (fam : target c.type ≡ s.family) (k : IsClause Σ R.worlds c) where
      group_in : Member (target c.type) R.families
      group_in = subst (λ a. Member a R.families) (sym fam) s.inside

      blocks' : (B : Block) → Member B R.worlds → IsContext Σ' (onto B.entries B.some)
      blocks' B i = extension_keeps_contexts (R.below s.family) Σ Σ' x (onto B.entries B.some) (gc.blocks_typed B i)

      -- the context of the subgoal
      there : (U : ℕ → Bool) (A : LfType) (σ : ℕ → Image) → IsGroundLocal Σ R.worlds c U A → PartialSubstitution Σ' ok' [] (skeletons_beside [] (scope c)) U (scope c) G σ → World Σ' R.worlds (R.below s.family) (binders G (substitute_type reduce σ A))
      there U A σ (V, l) p = subst (World Σ' R.worlds (R.below s.family)) (sym (binders_substituted A σ G)) (local_world Σ' ok' (skeletons_beside [] (scope c)) R.worlds (R.below s.family) (scope c) G U σ blocks' w p (binders [] A) V (ground_sequence_grows (R.below s.family) Σ Σ' x R.worlds (scope c) U (binders [] A) V l)).0

      abbrev Call : ℕ → LfType → Spine → Type 0
      Call t P H = TotalAt Σ' (R.marks t) t (binders G P) ⊎ ((u : State) × (u.family ≡ t) × Setting u (binders G P) × LexLt (measured u (target_arguments P)) (measured s H))

      abbrev Smaller : ℕ → LfType → Spine → Type 0
      Smaller t P H = (u : State) × (u.family ≡ t) × LexLt (measured u (target_arguments P)) (measured s H)

      make_call : (t : ℕ) (P : LfType) (H : Spine) → World Σ' R.worlds (R.below s.family) (binders G P) → IsCallee R totals s.family t → (Member t R.families → Smaller t P H) → Call t P H
      make_call t P H w' (hold, inl gt) d =
          let (u, e, l) = d gt in
          let less' : Within (R.below u.family) (R.below s.family) = subst (λ f. Within (R.below f) (R.below s.family)) (sym e) (hold.0 gt) in
          inr (u, e, (extension_over_less (R.below s.family) (R.below u.family) Σ Σ' less' x, world_for_callee Σ' R.worlds R.worlds (R.below s.family) (R.below u.family) less' (λ B i. inl i) w'), l)
      make_call t P H w' (hold, inr (Q, i, f, e, fit)) d =
          let inner : Within (Q.below t) (R.below s.family) = hold.1 Q i f in
          inl (subst (λ m. TotalAt Σ' m t (binders G P)) e (((records Q i).lasts t f).1 Σ' (extension_over_less (R.below s.family) (Q.below t) Σ Σ' inner x) (binders G P) (world_for_callee Σ' R.worlds Q.worlds (R.below s.family) (Q.below t) inner fit w')))

      -- a call to the group is smaller
      smaller_call : (i : ℕ) (A : LfType) (σ : ℕ → Image) → IsSubgoal c i A → AgreesOutside c σ θ → AreSolved Σ' G c i σ → Member (target A) R.families → Smaller (target A) (substitute_type reduce σ A) (substitute_spine reduce σ (target_arguments c.type))
      smaller_call i A σ v o solved ga = by (gc.descending c k group_in i A v ga)
        where
          called_here : IsCalled Σ R c i σ
          called_here = record { later = Σ'; context = G; extends = subst (λ f. Extends (R.below f) Σ Σ') (sym fam) x; world = subst (λ f. World Σ' R.worlds (R.below f) G) (sym fam) w; keeps = kept ok' w h c θ σ off o; solved = solved }

          kp : test.known c i σ
          kp = sound.holds c k group_in i A v ga σ called_here

          at_head : (r : List ℕ) → LexLt r (sizes (order (target c.type)) (substitute_spine reduce σ (target_arguments c.type)) (s.room ∷ [])) → LexLt r (sizes (order s.family) (substitute_spine reduce σ (target_arguments c.type)) (s.room ∷ []))
          at_head r l = subst (λ a. LexLt r (sizes (order a) (substitute_spine reduce σ (target_arguments c.type)) (s.room ∷ []))) fam l

          by : SizesDropBy (test.known c i) (test.equal c i A × (test.leads (target A) (target c.type) → ⊥)) order c A → Smaller (target A) (substitute_type reduce σ A) (substitute_spine reduce σ (target_arguments c.type))
          by (inl less) = (fresh (target A) ga, refl, at_head (sizes (order (target A)) (target_arguments (substitute_type reduce σ A)) (length R.families ∷ [])) (less_before (order (target A)) (order (target c.type)) (target_arguments (substitute_type reduce σ A)) (substitute_spine reduce σ (target_arguments c.type)) (length R.families) s.room (less σ kp)))
          by (inr ((q, n), least)) =
              let on : (a : ℕ) → test.leads a s.family → test.leads a (target A) = λ a l. sound.goes_on a c k group_in i A v ga q (subst (test.leads a) (sym fam) l) in
              let (u, e, r) = next s (target A) ga on (λ p. n (subst (test.leads (target A)) (sym fam) p)) in
              let l : LexLt (sizes (order (target A)) (target_arguments (substitute_type reduce σ A)) (u.room ∷ [])) (sizes (order s.family) (substitute_spine reduce σ (target_arguments c.type)) (s.room ∷ [])) =
              at_head (sizes (order (target A)) (target_arguments (substitute_type reduce σ A)) (u.room ∷ [])) (same_before (order (target A)) (order (target c.type)) (target_arguments (substitute_type reduce σ A)) (substitute_spine reduce σ (target_arguments c.type)) u.room s.room (falls u.room s.room r) (least σ kp))
              in
              (u, e, subst (λ a. LexLt (sizes (order a) (target_arguments (substitute_type reduce σ A)) (u.room ∷ [])) (sizes (order s.family) (substitute_spine reduce σ (target_arguments c.type)) (s.room ∷ []))) (sym e) l)
            where
              falls : (a b : ℕ) → suc a ≡ b → a < b
              falls a b e = omega arith

      abbrev Moded : (ℕ → Bool) → LfType → Type 0
      Moded U A = HasSoundMarks Σ (target A) (R.marks (target A)) × UsesGoal U (input_places (R.marks (target A))) A × EachHypothesis (WellModedTo zero Σ R.marks (λ f. is_in f R.families)) (λ f. is_in f R.families) (scope c) (outside c.type c.fixed) U A

      subgoal : (i : ℕ) (U : ℕ → Bool) (A : LfType) → IsSubgoal c i A → Moded U A → CoveredOutputs Σ R.marks R.worlds (R.below (target c.type)) c U A → SubgoalOk Σ' ok' R.marks State (λ u. u.family) Setting measured s G c θ U A
      subgoal i U A v (ms, needs, hyps) out =
          let callee : IsCallee R totals (target c.type) (target A) = gc.callees c k group_in i A v in
          let (K, e, sound) = (callee_marks (target c.type) (target A) callee).0 in
          let local : IsGroundLocal Σ R.worlds c U A = worlded Σ ok R.worlds gc.blocks_typed c (input_places (R.marks (target A))) U A (gc.well_worlded c k group_in i A v) needs in
          record {
            needs = needs;
            kind = (K, x.kinds_stay (target A) K e, sound_inputs nothing (R.marks (target A)) K sound (callee_marks (target c.type) (target A) callee).1);
            call = λ j jv σ vs p o sv. subst (λ a. Call a (substitute_type reduce σ A) (substitute_spine reduce σ (target_arguments c.type))) (sym (target_of reduce σ A)) (make_call (target A) (substitute_type reduce σ A) (substitute_spine reduce σ (target_arguments c.type)) (there U A σ local p) (subst (λ a. IsCallee R totals a (target A)) fam callee) (smaller_call j A σ jv o sv));
            outputs = outputs_at out;
          }
        where
          outputs_at : CoveredOutputs Σ R.marks R.worlds (R.below (target c.type)) c U A → (σ : ℕ → Image) → Values Σ' U (scope c) G σ → AgreesOutside c σ θ → AreTerms c U σ → (T : Spine) (K : Kind) → Σ'.kinds (target A) ≡ Some K → SamePlaces (input_places (R.marks (target A))) (target_arguments (substitute_type reduce σ A)) T → SpineFitsKind Σ' (binders G (substitute_type reduce σ A)) T K → OutputsCovered Σ' R.marks c U A G σ T
          outputs_at out = (subst (λ a. CoveredOutputs Σ R.marks R.worlds (R.below a) c U A) fam out) Σ' x G w h θ off

      clause_ok : ClauseOk Σ' ok' R.marks State (λ u. u.family) Setting measured s G h c θ
      clause_ok =
          let (o, t) = clause_typed c k in
          record {
            head = offered_head ok' w h c θ off;
            family_is = fam;
            type_ok = extension_keeps_types (R.below s.family) Σ Σ' x c.outer c.type t;
            outer_ok = extension_keeps_contexts (R.below s.family) Σ Σ' x c.outer o;
            shape = shape c.type c.outer everything (λ i X g. uses_type_all everything X (λ j. refl)) (uses_type_all everything c.type (λ j. refl));
            shape_head = shape_head c.type everything (uses_type_all everything c.type (λ j. refl));
            subgoals = walk R.marks c Moded (λ U A. CoveredOutputs Σ R.marks R.worlds (R.below (target c.type)) c U A) (SubgoalOk Σ' ok' R.marks State (λ u. u.family) Setting measured s G c θ) (λ U. AllGround R.marks c U) (λ U. Unit {0}) (λ U. Within (variables c) U) subgoal (end_ground c k group_in) (quantifiers c.type) zero (ground_first R.marks c) (λ j e. either_left (both (variables c j) _) e) ((gc.well_moded c k group_in 1).1) (gc.covered_outputs c k group_in);
          }

  covers : (Σ' : Signature) (ok' : IsSignature Σ') (s : State) (G : List LfType) → Setting Σ' s G → (T : Spine) (K : Kind) → Σ'.kinds s.family ≡ Some K → TypedPlaces Σ' (input_places (R.marks s.family)) G T K → Covered Σ' ok' R.marks State (λ u. u.family) (Setting Σ') measured s G T
  covers Σ' ok' s G (x, w) T K e i =
      let r : CoveredBy w (input_places (R.marks s.family)) s.family T = gc.covered_inputs s.family s.inside Σ' x G w T K e i in
      let first : ground_by everything (input_places (R.marks s.family)) r.clause ≡ ground_first R.marks r.clause = ap (λ f. ground_by everything (input_places (R.marks f)) r.clause) (sym r.family) in
      (r.head, r.clause, r.outer, r.values, clause_ok Σ' ok' s G x w r.head r.clause r.outer r.offered r.family (is_clause Σ' s.family G w r.head r.clause r.outer x s.inside r.family r.offered), subst (λ U. Values Σ' U (scope r.clause) G r.values) first r.typed, r.agrees, subst (λ U. AreTerms r.clause U r.values) first r.terms, r.same, subst (λ U. UsesPlaces U (input_places (R.marks s.family)) (target_arguments r.clause.type)) first r.uses)

  -- The THEOREM: each family of the group lasts.
  pub conclude : (f : ℕ) → Member f R.families → Lasting Σ f (R.marks f) R.worlds (R.below f)
  conclude f i = (gc.marked f i, λ Σ' x G w. total Σ' x.ok R.marks State (λ u. u.family) (Setting Σ') measured (λ s S T p. sizes_same (input_places (R.marks s.family)) (order s.family) S T (s.room ∷ []) (gc.orders_at_inputs s.family s.inside) p) (λ s D c. world_is_context c.1) (covers Σ' x.ok) (fresh f i) G (x, w))
