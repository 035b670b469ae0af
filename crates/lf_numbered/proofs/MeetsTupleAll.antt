-- A tuple that a case holds and a pattern has is a unifier at a place of the pattern; so where all are refuted there is none.
use Rattle.std.proofs.Common.{◌≡◌, ℕ, zero, List, [], ◌∷◌, length, inl, inr, refl, sym, ap, ◌∙◌, subst}
use Rattle.std.specs.Prelude.{Bool, true, false, Some}
use Rattle.lf.specs.Syntax.{LfType, Kind}
use Rattle.lf.specs.Substitution.{Image, keep}
use Rattle.lf.specs.Typing.{Signature, IsTypedSubstitution, IsSignature}
use Rattle.lf.specs.Variables.{binders, nothing, onto}
use Rattle.lf.specs.Subordination.{Block, AreTypedBlocks}
use Rattle.lf.specs.Extension.{Extends}
use Rattle.lf_checks.specs.Clause.{Clause, constant_clause, entry_clause}
use Rattle.lf_cases.specs.Cover.{before}
use Rattle.lf_cases.specs.Pattern.{Pattern, Origin, IsMeant, of_constant, of_entry, Known}
use Rattle.lf_coverage.specs.Leaf.{IsTypedPattern}
use Rattle.lf_coverage.specs.MeetStore.{IsConstants}
use Rattle.lf_numbered.specs.EntryConstants.{with_entries, IsFreeFrom}
use Rattle.lf_numbered.specs.MeetsInstance.{HasFirstFor}
use Rattle.lf_numbered.specs.MeetsTuple.{MeetsAt, SharesTuple, IsGivenBeside, EntriesTupleMeets, TupleMeets, RefutedHasNoTuple, RefutedIsApart, ConstantsTupleMeets, RefutedConstantHasNoTuple}
use Rattle.lf_numbered.specs.NumberedCalls.{HasOwnBlock}
use Rattle.lf_numbered.specs.NumberedCallsMeeting.{known_of, IsKnownFor}
use Rattle.lf_numbered.specs.NumberedCallsStores.{constant_beside, identified}
use Rattle.lf_numbered.specs.NumberedCase.{NumberedCase}
use Rattle.lf_numbered.specs.NumberedMeets.{HasFirst}
use Rattle.lf_numbered.specs.OwnTerms.{blocks_of}
use Rattle.lf_numbered.specs.TypedNumbered.{IsTypedNumberedCase}
use Rattle.lf_numbered.proofs.EntryTermsBesideGiven.{beside_with_all_tried}
use Rattle.lf_numbered.proofs.MeetsTupleCase.{instance_here, nothing_given, refuted_meets_none, typed_here}
use Rattle.lf_numbered.proofs.MeetsTupleEntries.{IsBeside}
use Rattle.lf_numbered.proofs.MeetsTupleFront.{outer_values, placed}
use Rattle.lf_numbered.proofs.MeetsTuplePlaces.{at_any, at_old, given_same}
use Rattle.lf_numbered.proofs.MeetsTupleTwins.{are_one, is_oldest, oldest_of, stays_beyond}
use Rattle.lf_numbered.proofs.MeetsTupleWriting.{AreOne}
use Rattle.lf_numbered.proofs.MovedConstants.{blocks_stay}

module _ (Σ : Signature) (ok : IsSignature Σ) (W : List Block) (first : ℕ) (free : IsFreeFrom Σ first) (C : NumberedCase) (tc : IsTypedNumberedCase Σ first W C) where
  -- An entry's pattern
  entry_meets : (B : Block) (later : List LfType) (E : LfType) (es : List LfType) (e : onto later (E ∷ es) ≡ B.entries) (P : LfType) (b : Bool) → IsBeside Σ first C (record { clause = entry_clause B es E; origin = of_entry B later E es e; type = P; at_first = b }) → IsTypedPattern Σ (record { clause = entry_clause B es E; origin = of_entry B later E es e; type = P; at_first = b }) → HasFirst b C → length C.local ≡ length (binders [] P) → (K : Kind) → SharesTuple Σ first C (record { clause = entry_clause B es E; origin = of_entry B later E es e; type = P; at_first = b }) → MeetsAt Σ first C (record { clause = entry_clause B es E; origin = of_entry B later E es e; type = P; at_first = b }) K
  entry_meets B later E es e P false beside tp has l K s =
      let (φ, i, o) = s.has.stands in
      at_any Σ ok W first free C tc B later E es e P false tp l K s beside refl φ i o
  entry_meets B later E es e P true beside tp has l K s =
      let (d, at) = has refl in
      let (φ, i, o) = s.has.stands in
      let known : s.known ≡ Some (d.block, s.holds.instances zero) = s.is_known refl ∙ ap (λ y. known_of y (s.holds.instances zero)) at in
      let (q, z) = subst (λ F. IsMeant true s.world F B φ) known i in
      at_old Σ ok W first free C tc B later E es e P true tp l K s beside zero d at q (o ∙ ap (before later) (sym z)) (λ r. refl)

  -- A constant's
  constant_meets : (U P : LfType) (b : Bool) → IsBeside Σ first C (record { clause = constant_clause U; origin = of_constant U; type = P; at_first = b }) → IsTypedPattern Σ (record { clause = constant_clause U; origin = of_constant U; type = P; at_first = b }) → length C.local ≡ length (binders [] P) → (K : Kind) → SharesTuple Σ first C (record { clause = constant_clause U; origin = of_constant U; type = P; at_first = b }) → MeetsAt Σ first C (record { clause = constant_clause U; origin = of_constant U; type = P; at_first = b }) K
  constant_meets U P b beside tp l K s =
      let p : Pattern = record { clause = constant_clause U; origin = of_constant U; type = P; at_first = b } in
      let θ : ℕ → ℕ → Image = s.holds.instances in
      let σ : ℕ → Image = s.holds.values in
      let tcV : IsTypedNumberedCase Σ first s.worlds C = typed_here Σ W s.worlds first C tc s.world θ σ s.holds.is_ground in
      let π : ℕ → ℕ = oldest_of C θ in
      let one : AreOne C s.holds.instances (oldest_of C s.holds.instances) = are_one C θ s.extension s.world (instance_here s.world first C θ σ s.holds.is_ground) in
      let tφ : IsTypedSubstitution (with_entries Σ first (blocks_of C.blocks)) [] C.variables keep = λ i A g. absurd g in
      let (Σf, x, H, β, u, made) = placed Σ s.extension ok s.worlds s.typed first free C tcV s.set s.extends s.world θ σ s.holds.is_ground π one K s.tuple s.holds.has_arguments p tp l s.has.used s.has.values s.has.typed s.has.uses s.has.same keep tφ (beside.values keep refl tφ) (λ k X g. absurd g) beside.own (given_same Σ first C p s) in
      record {
        numbers = π;
        case = identified first π C;
        outer = keep;
        place = record { identifies = one.identifies; oldest = is_oldest C θ; beside = constant_beside U };
        stays = stays_beyond C θ s.extension s.world (instance_here s.world first C θ σ s.holds.is_ground);
        unifier = record { signature = Σf; extends = subst (λ Bs. Extends nothing (with_entries Σ first Bs) Σf) (sym (blocks_stay _ C.blocks)) x; context = H; filling = β; solves = u };
      }

  -- and each
  pub any_meets : {c : Clause} (o : Origin c) (P : LfType) (b : Bool) → IsBeside Σ first C (record { clause = c; origin = o; type = P; at_first = b }) → IsTypedPattern Σ (record { clause = c; origin = o; type = P; at_first = b }) → HasFirstFor o b C → length C.local ≡ length (binders [] P) → (K : Kind) → SharesTuple Σ first C (record { clause = c; origin = o; type = P; at_first = b }) → MeetsAt Σ first C (record { clause = c; origin = o; type = P; at_first = b }) K
  any_meets (of_constant U) P b beside tp has l K s = constant_meets U P b beside tp l K s
  any_meets (of_entry B later E es e) P b beside tp has l K s = entry_meets B later E es e P b beside tp has l K s

-- where nothing is given
beside_nothing : (Σ : Signature) (first : ℕ) (C : NumberedCase) (p : Pattern) → C.given ≡ [] → IsBeside Σ first C p
beside_nothing Σ first C p none = record {
  values = λ φ t y. outer_values (with_entries Σ first (blocks_of C.blocks)) C p C.variables none φ y;
  own = λ i z. nothing_given C p none i z;
  none_new = λ f. none;
}

-- and where it is typed beside
beside_given : (Σ : Signature) → IsSignature Σ → (W : List Block) → AreTypedBlocks Σ W → (first : ℕ) → IsFreeFrom Σ first → (C : NumberedCase) (p : Pattern) → IsTypedPattern Σ p → IsGivenBeside Σ first W C p → IsBeside Σ first C p
beside_given Σ ok W typed first free C p tp (inl none) = beside_nothing Σ first C p none
beside_given Σ ok W typed first free C p tp (inr (f, g, own)) = record {
  values = λ φ t y. let h = beside_with_all_tried Σ ok W typed first free C p tp f g own φ t in h.given;
  own = own;
  none_new = λ z. absurd (no (sym z ∙ f));
}
  where
    no : false ≡ true → ⊥
    no z = cc

-- What the calls need of an entry of the first block variable alone is enough.
pub own_block_is_first : {c : Clause} (o : Origin c) (b : Bool) (C : NumberedCase) → HasOwnBlock o b C → HasFirstFor o b C
own_block_is_first (of_constant U) b C h = tt
own_block_is_first (of_entry B later E es e) b C h = λ r. let (v, at, q) = h r in (v, at)

pub entries_tuple_meets : EntriesTupleMeets
entries_tuple_meets Σ ok W first free C tc none p tp has l K s = any_meets Σ ok W first free C tc p.origin p.type p.at_first (beside_nothing Σ first C p none) tp has l K s

pub tuple_meets : TupleMeets
tuple_meets Σ ok W typed first free C tc p g tp has l K s = any_meets Σ ok W first free C tc p.origin p.type p.at_first (beside_given Σ ok W typed first free C p tp g) tp has l K s

pub refuted_has_no_tuple : RefutedHasNoTuple
refuted_has_no_tuple Σ ok W typed first free C tc p g tp has l K refuted V tV S Σ' x G w F σ T h known t = refuted_meets_none Σ first C p K refuted (tuple_meets Σ ok W typed first free C tc p g tp has l K (record { worlds = V; typed = tV; set = S; extension = Σ'; extends = x; context = G; world = w; known = F; values = σ; tuple = T; holds = h; is_known = known; has = t }))

pub refuted_is_apart : RefutedIsApart
refuted_is_apart Σ ok W typed first free C tc p g tp has l K refuted none = record { no_instance = none; no_tuple = refuted_has_no_tuple Σ ok W typed first free C tc p g tp has l K refuted }

-- Of constants, nothing is asked of a block variable.
first_for_constant : {c : Clause} (o : Origin c) (b : Bool) (C : NumberedCase) → IsConstants o → HasFirstFor o b C
first_for_constant (of_constant U) b C i = tt
first_for_constant (of_entry B later E es e) b C i = absurd i

pub constants_tuple_meets : ConstantsTupleMeets
constants_tuple_meets Σ ok W first free C tc none p tp i l K s = any_meets Σ ok W first free C tc p.origin p.type p.at_first (beside_nothing Σ first C p none) tp (first_for_constant p.origin p.at_first C i) l K s

known_for_constant : {c : Clause} (o : Origin c) (b : Bool) (C : NumberedCase) (θ : ℕ → ℕ → Image) (F : Known) → IsConstants o → IsKnownFor o b C θ F
known_for_constant (of_constant U) b C θ F i = tt
known_for_constant (of_entry B later E es e) b C θ F i = absurd i

pub refuted_constant_has_no_tuple : RefutedConstantHasNoTuple
refuted_constant_has_no_tuple Σ ok W first free C tc none p tp i l K refuted V typed S Σ' x G w F σ T h t = refuted_meets_none Σ first C p K refuted (constants_tuple_meets Σ ok W first free C tc none p tp i l K (record { worlds = V; typed = typed; set = S; extension = Σ'; extends = x; context = G; world = w; known = F; values = σ; tuple = T; holds = h; is_known = known_for_constant p.origin p.at_first C h.instances F i; has = t }))
