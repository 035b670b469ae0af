-- What a case and a pattern share has tuples of both.
use Rattle.std.proofs.Common.{◌≡◌, ℕ, zero, List, [], ◌∷◌, length, refl, sym, ap, ◌∙◌, subst}
use Rattle.std.specs.Prelude.{Bool, true, false, Option, Some, None}
use Rattle.lf.specs.Syntax.{LfType, Spine, Term}
use Rattle.lf.specs.Substitution.{Image}
use Rattle.lf.specs.Typing.{Signature}
use Rattle.lf.specs.Subordination.{Block, AreTypedBlocks}
use Rattle.lf.specs.Worlds.{World, lift_over}
use Rattle.lf.specs.Extension.{Extends}
use Rattle.lf_checks.specs.Clause.{Clause}
use Rattle.lf_cases.specs.Case.{covered_places}
use Rattle.lf_cases.specs.Missing.{blocks_with}
use Rattle.lf_cases.specs.Pattern.{Known, Origin, of_constant, of_entry, Pattern, HasGiven}
use Rattle.lf_cases.proofs.OutputItems.{length_instance}
use Rattle.lf_cases.proofs.Split.{given_same as given_alike, given_there}
use Rattle.lf_numbered.specs.EntryPatternsRuns.{HoldsByNumber, IsLikeByNumber, ZerothIs}
use Rattle.lf_numbered.specs.NumberedArguments.{HasNumberedArguments, read_over, read_all}
use Rattle.lf_numbered.specs.NumberedCalls.{NumberedMatchedNeeds}
use Rattle.lf_numbered.specs.NumberedCallsMeeting.{HasTuple, IsKnownFor, SharesInstance, known_of, zeroth_known}
use Rattle.lf_numbered.specs.NumberedCase.{NumberedCase, IsNumberedInstance}
use Rattle.lf_numbered.specs.NumberedInstance.{block_at, moved_constant, move_all, move_types}
use Rattle.lf_numbered.specs.OwnTerms.{BlockVariable, blocks_of}
use Rattle.lf_numbered.specs.Reading.{entry_reading}
use Rattle.lf_numbered.specs.SharedInstances.{HoldsAsInstance}
use Rattle.lf_numbered.specs.SharedTuples.{SharedInstanceHasTuple, MetHasTuple, MetSharesTuple, SharedTupleIsNotApart, UnsplitIsMet}
use Rattle.lf_coverage.proofs.HeadSplit.{places_put_in}
use Rattle.lf_numbered.proofs.MovedConstants.{length_moved}
use Rattle.lf_numbered.proofs.NumberedCallsLaws.{some_tuple, some_values}
use Rattle.lf_numbered.proofs.NumberedCallsLike.{reached_is_like_goal}
use Rattle.lf_numbered.proofs.NumberedNeedsSplits.{reached_has_needs}
use Rattle.lf_numbered.proofs.NumberedNeedsReached.{reached_is_numbered_instance}
use Rattle.lf_numbered.proofs.SharedInstances.{instance_holds_back, variables_here}
use Rattle.lf_numbered.proofs.SharedPattern.{pattern_has_tuple}

-- moved terms stand at the same places
places_moved : (γ : ℕ → ℕ) (Ms : List (Option Term)) → covered_places (move_all γ Ms) ≡ covered_places Ms
places_moved γ [] = refl
places_moved γ (Some M ∷ Ms) = ap (λ b. true ∷ b) (places_moved γ Ms)
places_moved γ (None ∷ Ms) = ap (λ b. false ∷ b) (places_moved γ Ms)

-- what is known of the first block variable of a case is so of another, which has it too
zeroth_in : (D : NumberedCase) (θ : ℕ → ℕ → Image) (y : Option BlockVariable) (φ : ℕ → Image) → θ zero ≡ φ → ((b : BlockVariable) → y ≡ Some b → (d : BlockVariable) × (block_at D.blocks zero ≡ Some d) × (d.block ≡ b.block)) → ZerothIs D θ (known_of y φ)
zeroth_in D θ None φ q h = tt
zeroth_in D θ (Some b) φ q h = let (d, e, r) = h b refl in (d, e, r, q)

known_here : {c : Clause} (o : Origin c) (b : Bool) (C : NumberedCase) (θ : ℕ → ℕ → Image) → IsKnownFor o b C θ (zeroth_known C θ)
known_here (of_constant U) b C θ = tt
known_here (of_entry B later E es e) b C θ = λ q. refl

-- a pattern's tuple, where the same places are covered and given
tuple_alike : {Σ : Signature} {W : List Block} {S : ℕ → Bool} {G : List LfType} (w : World Σ W S G) (p : Pattern) (F : Known) (cs bs : List Bool) (Ms Ns : List (Option Term)) → cs ≡ bs → covered_places Ms ≡ covered_places Ns → (σ : ℕ → Image) (T : Spine) → HasTuple w p cs F Ms σ T → HasTuple w p bs F Ns σ T
tuple_alike w p F cs bs Ms Ns e q σ T h =
    let t : HasTuple w p bs F Ms σ T = subst (λ b. HasTuple w p b F Ms σ T) e h in
    record { outer = t.outer; stands = t.stands; used = t.used; uses = t.uses; values = t.values; typed = t.typed; agrees = t.agrees; given = λ i M u z. let (N, r) = given_there Ns Ms q i M z in t.given i N u r; terms = t.terms; same = t.same }

module _ (Σ : Signature) (first : ℕ) (W : List Block) (C : NumberedCase) (p : Pattern) (n : NumberedMatchedNeeds Σ first W C p) (s : SharesInstance Σ first W C p) (V : List Block) (typed : AreTypedBlocks Σ V) (S : ℕ → Bool) (Σ' : Signature) (x : Extends S Σ Σ') {G : List LfType} (w : World Σ' V S G) where
  abbrev J : NumberedCase
  J = s.common

  abbrev γ : ℕ → ℕ
  γ = moved_constant first (blocks_of C.blocks) (blocks_of s.common.blocks) s.numbers

  pub back : (θ : ℕ → ℕ → Image) (ρ : ℕ → Image) → IsNumberedInstance w first J θ ρ → HoldsAsInstance w first J θ ρ C s.numbers s.values
  back θ ρ i = instance_holds_back Σ Σ' n.setting.signature W (blocks_with p.origin W) first n.setting.free C n.case J s.typed_variables s.numbers s.values s.of_case V typed S x G w θ ρ i

  places : covered_places J.arguments ≡ covered_places C.arguments
  places = ap covered_places s.of_case.arguments ∙ places_put_in (lift_over C.local s.values) (move_all γ C.arguments) ∙ places_moved γ C.arguments

  givens : covered_places J.given ≡ covered_places C.given
  givens = ap covered_places s.of_case.given ∙ places_put_in s.values (move_all γ C.given) ∙ places_moved γ C.given

  pub has : (F : Known) (σ : ℕ → Image) (T : Spine) (h : HoldsByNumber w first J F σ T) → HasTuple w p (covered_places C.arguments) F C.given σ T
  has F σ T h = tuple_alike w p F (covered_places J.arguments) (covered_places C.arguments) J.given C.given places givens σ T (pattern_has_tuple Σ Σ' n.setting.signature S x V typed first n.setting.free J (variables_here Σ (blocks_with p.origin W) V first J s.typed_variables w h.instances h.values h.is_ground) w h.instances h.values h.is_ground p n.pattern.typed s.of_pattern (ap length s.of_case.local ∙ length_instance (move_types γ C.local) s.values ∙ length_moved γ C.local ∙ n.pattern.same_length) (λ i e. n.pattern.given_own i (sym (given_alike J.given C.given givens i) ∙ e)) F h.zeroth σ h.given T h.has_arguments)

  pub zeroth_there : (θ : ℕ → ℕ → Image) (F : Known) → ZerothIs C (λ k. θ (s.numbers k)) F → ZerothIs J θ F
  zeroth_there θ None z = tt
  zeroth_there θ (Some (B, φ)) (b, e, q, r) = (_, ap (block_at J.blocks) (sym s.zeroth) ∙ s.of_case.is_instance.blocks zero b e, q, ap θ (sym s.zeroth) ∙ r)

  -- the tuple of a ground instance
  pub some_shared : (θ : ℕ → ℕ → Image) (ρ : ℕ → Image) → IsNumberedInstance w first J θ ρ → (F : Known) → ZerothIs C (λ k. θ (s.numbers k)) F → (σ : ℕ → Image) × (T : Spine) × HasGiven ρ (read_all (entry_reading first (blocks_of J.blocks) θ (length J.variables)) J.given) σ × HasNumberedArguments first J θ ρ T × HasTuple w p (covered_places C.arguments) F C.given σ T
  some_shared θ ρ inst F z =
      let (T, k) = some_tuple (lift_over J.local ρ) (read_all (read_over J.local (entry_reading first (blocks_of J.blocks) θ (length J.variables))) J.arguments) in
      let (σ, g) = some_values ρ (read_all (entry_reading first (blocks_of J.blocks) θ (length J.variables)) J.given) in
      (σ, T, g, k, has F σ T (record { instances = θ; values = ρ; is_ground = inst; zeroth = zeroth_there θ F z; given = g; has_arguments = k }))

pub shared_instance_has_tuple : SharedInstanceHasTuple
shared_instance_has_tuple Σ first W C p n s V typed S Σ' x G w F σ T h z =
    let b = back Σ first W C p n s V typed S Σ' x w h.instances h.values h.is_ground in
    (b, record { instances = λ k. h.instances (s.numbers k); values = b.values; is_ground = b.is_ground; zeroth = z; given = b.given σ h.given; has_arguments = b.arguments T h.has_arguments }, refl, refl, has Σ first W C p n s V typed S Σ' x w F σ T h)

pub met_has_tuple : MetHasTuple
met_has_tuple Σ first W C p n s V typed S Σ' x G w θ ρ inst =
    let χ : ℕ → ℕ → Image = λ k. θ (s.numbers k) in
    let F : Known = zeroth_known C χ in
    let z : ZerothIs C χ F = zeroth_in C χ (block_at C.blocks zero) (χ zero) refl (λ b e. (b, e, refl)) in
    let (σ, T, g, k, t) = some_shared Σ first W C p n s V typed S Σ' x w θ ρ inst F z in
    let b = back Σ first W C p n s V typed S Σ' x w θ ρ inst in
    (record { known = F; values = σ; tuple = T; holds = record { instances = χ; values = b.values; is_ground = b.is_ground; zeroth = z; given = b.given σ g; has_arguments = b.arguments T k }; is_known = known_here p.origin p.at_first C χ; has = t }, k)

pub met_shares_tuple : MetSharesTuple
met_shares_tuple Σ first W C p n s V typed S Σ' x G w θ ρ inst =
    let (t, k) = met_has_tuple Σ first W C p n s V typed S Σ' x G w θ ρ inst in
    record { worlds = V; typed = typed; set = S; extension = Σ'; extends = x; context = G; world = w; known = t.known; values = t.values; tuple = t.tuple; holds = t.holds; is_known = t.is_known; has = t.has }

pub shared_tuple_is_not_apart : SharedTupleIsNotApart
shared_tuple_is_not_apart Σ first W C p t a = a.no_tuple t.worlds t.typed t.set t.extension t.extends t.context t.world t.known t.values t.tuple t.holds t.is_known t.has

pub unsplit_is_met : UnsplitIsMet
unsplit_is_met Σ first W below ps goal needs D (r, u) p m s V typed S Σ' x G w θ ρ inst =
    let st = needs.setting in
    let n : NumberedMatchedNeeds Σ first W D p = (reached_has_needs Σ first W below ps goal needs D r p m).0 in
    let χ : ℕ → ℕ → Image = λ k. θ (s.numbers k) in
    let F : Known = zeroth_known goal χ in
    let ((υ, i), apart) = reached_is_numbered_instance Σ st.signature W st.blocks first st.free below ps goal needs.case D r in
    let z : ZerothIs D χ F = zeroth_in D χ (block_at goal.blocks zero) (χ zero) refl (λ b e. (_, i.is_instance.blocks zero b e, refl)) in
    let (σ, T, g, k, t) = some_shared Σ first W D p n s V typed S Σ' x w θ ρ inst F z in
    let b = back Σ first W D p n s V typed S Σ' x w θ ρ inst in
    let h : HoldsAsInstance w first D χ b.values goal (λ k. k) υ = instance_holds_back Σ Σ' st.signature W W first st.free goal needs.case D n.case.variables (λ k. k) υ i V typed S x G w χ b.values b.is_ground in
    let l : IsLikeByNumber goal D = reached_is_like_goal Σ first W below ps goal D r in
    (record { known = F; values = σ; tuple = T; holds = record { instances = χ; values = h.values; is_ground = h.is_ground; zeroth = zeroth_in goal χ (block_at goal.blocks zero) (χ zero) refl (λ b e. (b, e, refl)); given = h.given σ (b.given σ g); has_arguments = h.arguments T (b.arguments T k) }; is_known = known_here p.origin p.at_first goal χ; has = tuple_alike w p F (covered_places D.arguments) (covered_places goal.arguments) D.given goal.given l.places l.given σ T t }, k)
