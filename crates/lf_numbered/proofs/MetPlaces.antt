-- Each tuple that a case holds and a pattern has stands at a place of the pattern beside the case.
use Rattle.std.proofs.Common.{◌≡◌, ◌≤◌, ℕ, zero, ◌+◌, List, [], ◌∷◌, length, refl, sym, ap, ◌∙◌, subst, arith}
use Rattle.std.specs.Prelude.{Bool, true, false, Option, Some, None}
use Rattle.lf.specs.Syntax.{LfType}
use Rattle.lf.specs.Substitution.{Image, keep}
use Rattle.lf.specs.Typing.{Signature, IsSignature}
use Rattle.lf.specs.Variables.{onto}
use Rattle.lf.specs.Subordination.{Block}
use Rattle.lf.specs.Worlds.{World}
use Rattle.lf_unification.specs.Offering.{local_arguments}
use Rattle.lf_checks.specs.Clause.{Clause, among, constant_clause, entry_clause}
use Rattle.lf_cases.specs.Cover.{InstanceIn, before}
use Rattle.lf_cases.specs.Pattern.{IsMeant, Origin, of_constant, of_entry, Pattern}
use Rattle.lf_coverage.proofs.Parts.{none_some}
use Rattle.lf_coverage.proofs.SameInstance.{instance_unique}
use Rattle.lf_numbered.specs.MeetsAnswers.{IsPlace, StayBeyond}
use Rattle.lf_numbered.specs.MeetsInstance.{HasFirstFor}
use Rattle.lf_numbered.specs.MeetsTuple.{SharesTuple}
use Rattle.lf_numbered.specs.MetEquations.{IsEntryAt, TupleStandsAt, TupleStandsSomewhere}
use Rattle.lf_numbered.specs.NumberedCallsMeeting.{known_of}
use Rattle.lf_numbered.specs.NumberedCallsStores.{IsPutBeside, constant_beside, entry_beside, new_beside, identified}
use Rattle.lf_numbered.specs.NumberedCase.{NumberedCase}
use Rattle.lf_numbered.specs.NumberedInstance.{block_at, moved_constant, move_spine}
use Rattle.lf_numbered.specs.OwnTerms.{BlockVariable, blocks_of}
use Rattle.lf_numbered.proofs.EntryPlaces.{entry_is}
use Rattle.lf_numbered.proofs.IdentifiedNewBlock.{new_at}
use Rattle.lf_numbered.proofs.MeetsTupleAll.{own_block_is_first}
use Rattle.lf_numbered.proofs.MeetsTupleCase.{instance_here}
use Rattle.lf_numbered.proofs.MeetsTupleTwins.{are_one, is_oldest, oldest_of, stays_beyond}
use Rattle.lf_numbered.proofs.MeetsTupleWriting.{AreOne}
use Rattle.lf_numbered.proofs.MovedConstants.{moved_at}
use Rattle.lf_numbered.proofs.RenamedBlocks.{moved_length}
use Rattle.lf_numbered.proofs.WritingChoice.{choose, choice_sound, choice_complete}
use Rattle.lf_numbered.proofs.WritingInstance.{some_among}

no : false ≡ true → ⊥
no z = cc

-- what is among entries is one
pub some_entry : (es : List LfType) → among es zero ≡ true → es ≡ [] → ⊥
some_entry [] a q = no a
some_entry (E ∷ es) a q = absurd cc

-- each instance of a block with an entry has a variable for the newest
has_variable : (Σ : Signature) → IsSignature Σ → {W : List Block} {S : ℕ → Bool} {G : List LfType} (w : World Σ W S G) (B : Block) (φ : ℕ → Image) → InstanceIn w B φ → (es : List LfType) → es ≡ B.entries → (es ≡ [] → ⊥) → (among B.entries zero ≡ true) × (v : ℕ) × (φ zero ≡ keep v)
has_variable Σ ok w B φ i [] e n = absurd (n refl)
has_variable Σ ok w B φ i (E ∷ es) e n = let (v, q) = entry_is Σ ok w B φ i [] E es e in (ap (λ ds. among ds zero) (sym e), v, q)

-- Where a tuple stands
module _ (Σ : Signature) (first : ℕ) (C : NumberedCase) (c : Clause) (o : Origin c) (P : LfType) (b : Bool) (t : SharesTuple Σ first C (record { clause = c; origin = o; type = P; at_first = b })) where
  abbrev p : Pattern
  p = record { clause = c; origin = o; type = P; at_first = b }

  abbrev θ : ℕ → ℕ → Image
  θ = t.holds.instances

  abbrev π : ℕ → ℕ
  π = oldest_of C t.holds.instances

  abbrev Stands : Type 0
  Stands = (π : ℕ → ℕ) × (J : NumberedCase) × (φ : ℕ → Image) × (x : IsPlace first C p π J φ) × StayBeyond C π × TupleStandsAt Σ first C p t π J φ x

  here : (k : ℕ) (d : BlockVariable) → block_at C.blocks k ≡ Some d → InstanceIn t.world d.block (θ k)
  here = instance_here t.world first C θ t.holds.values t.holds.is_ground

  one : AreOne C t.holds.instances (oldest_of C t.holds.instances)
  one = are_one C θ t.extension t.world here

  stays : StayBeyond C (oldest_of C t.holds.instances)
  stays = stays_beyond C θ t.extension t.world here

  stands_beside : {J : NumberedCase} {φ : ℕ → Image} (y : IsPutBeside first (identified first π C) π b c o J φ) → IsEntryAt t.world C θ t.has.outer y → Stands
  stands_beside y q = (π, _, _, record { identifies = one.identifies; oldest = is_oldest C θ; beside = y }, stays, record { same = one.same; only = only; entry = q })
    where
      only : (j k : ℕ) (d d' : BlockVariable) → block_at C.blocks j ≡ Some d → block_at C.blocks k ≡ Some d' → (d.block.entries ≡ [] → ⊥) → d'.block ≡ d.block → θ j ≡ θ k → π j ≡ π k
      only j k d d' e f n q z = let (a, v, y) = has_variable t.extension t.extends.ok t.world d.block (θ j) (here j d e) d.block.entries refl n in one.only j k d d' e f a q v y (ap (λ φ. φ zero) (sym z) ∙ y)

module _ (Σ : Signature) (first : ℕ) (C : NumberedCase) (B : Block) (later : List LfType) (E : LfType) (es : List LfType) (e : onto later (E ∷ es) ≡ B.entries) (P : LfType) (b : Bool) (t : SharesTuple Σ first C (record { clause = entry_clause B es E; origin = of_entry B later E es e; type = P; at_first = b })) where
  abbrev stand : {J : NumberedCase} {φ : ℕ → Image} (y : IsPutBeside first (identified first (oldest_of C t.holds.instances) C) (oldest_of C t.holds.instances) b (entry_clause B es E) (of_entry B later E es e) J φ) → IsEntryAt t.world C t.holds.instances t.has.outer y → Stands Σ first C (entry_clause B es E) (of_entry B later E es e) P b t
  stand = stands_beside Σ first C (entry_clause B es E) (of_entry B later E es e) P b t

  abbrev γ : ℕ → ℕ
  γ = moved_constant first (blocks_of C.blocks) (blocks_of C.blocks) (oldest_of C t.holds.instances)

  -- at the instance of a block variable of the case
  stands_old : (j : ℕ) (d : BlockVariable) → block_at C.blocks j ≡ Some d → d.block ≡ B → t.has.outer ≡ before later (t.holds.instances j) → (b ≡ true → j ≡ zero) → Stands Σ first C (entry_clause B es E) (of_entry B later E es e) P b t
  stands_old j d at q o h =
      let π : ℕ → ℕ = oldest_of C t.holds.instances in
      let a = one Σ first C (entry_clause B es E) (of_entry B later E es e) P b t in
      let (d', there, same, fixed) = a.identifies j d at in
      stand (entry_beside B later E es e (π j) (move_spine γ d'.terms) (moved_at γ C.blocks (π j) (record { block = B; terms = d'.terms }) (there ∙ ap (λ D. Some (record { block = D; terms = d'.terms })) (same ∙ q))) fixed (λ r. ap π (h r))) (o ∙ ap (before later) (sym (a.same j d at)))

  -- or at one of none
  stands_new : b ≡ false → (φ : ℕ → Image) → InstanceIn t.world B φ → t.has.outer ≡ before later φ → ((k : ℕ) (d : BlockVariable) → block_at C.blocks k ≡ Some d → d.block ≡ B → t.holds.instances k ≡ φ → ⊥) → Stands Σ first C (entry_clause B es E) (of_entry B later E es e) P b t
  stands_new f φ i o apart = stand (new_beside B later E es e (local_arguments B.some) f (stays Σ first C (entry_clause B es E) (of_entry B later E es e) P b t (length (identified first (oldest_of C t.holds.instances) C).blocks) (less (length C.blocks) (length (identified first (oldest_of C t.holds.instances) C).blocks) (moved_length γ C.blocks))) (new_at B (identified first (oldest_of C t.holds.instances) C))) (φ, i, o, apart)
    where
      less : (m n : ℕ) → n ≡ m → m ≤ n
      less m n q = omega (arith, q)

  stands_any : b ≡ false → (φ : ℕ → Image) → InstanceIn t.world B φ → t.has.outer ≡ before later φ → Stands Σ first C (entry_clause B es E) (of_entry B later E es e) P b t
  stands_any f φ i o = by (choose t.holds.instances zero first (blocks_of C.blocks) φ) refl
    where
      left : (j : ℕ) → zero + j ≡ j
      left j = omega arith

      some : among B.entries zero ≡ true
      some = subst (λ ds. among ds zero ≡ true) e (some_among later E es)

      by : (m : Option ℕ) → choose t.holds.instances zero first (blocks_of C.blocks) φ ≡ m → Stands Σ first C (entry_clause B es E) (of_entry B later E es e) P b t
      by None q = stands_new f φ i o (λ k d at r z. let (a, v, y) = has_variable t.extension t.extends.ok t.world B φ i B.entries refl (some_entry B.entries some) in let (m, s) = choice_complete t.holds.instances zero first C.blocks φ k v d at (ap (λ (D : Block). among D.entries zero) r ∙ some) (ap (λ j. t.holds.instances j zero) (left k) ∙ ap (λ ψ. ψ zero) z ∙ y) y in none_some (sym q ∙ s))
      by (Some m) q =
          let (j, d, h, a, v, y, z) = choice_sound t.holds.instances zero first C.blocks φ m q in
          let k = here Σ first C (entry_clause B es E) (of_entry B later E es e) P b t j d h.at in
          let (r, s) = instance_unique t.extension t.world d.block B (t.holds.instances j) φ k i zero zero v a some (ap (λ n. t.holds.instances n zero) (sym (left j)) ∙ y) z in
          stands_old j d h.at (sym r) (o ∙ ap (before later) s) (λ r. absurd (no (sym f ∙ r)))

stands_somewhere : (Σ : Signature) (first : ℕ) (C : NumberedCase) {c : Clause} (o : Origin c) (P : LfType) (b : Bool) → HasFirstFor o b C → (t : SharesTuple Σ first C (record { clause = c; origin = o; type = P; at_first = b })) → Stands Σ first C c o P b t
stands_somewhere Σ first C (of_constant U) P b h t = stands_beside Σ first C (constant_clause U) (of_constant U) P b t (constant_beside U) tt
stands_somewhere Σ first C (of_entry B later E es e) P false h t = let (φ, i, o) = t.has.stands in stands_any Σ first C B later E es e P false t refl φ i o
stands_somewhere Σ first C (of_entry B later E es e) P true h t =
    let (d, at) = h refl in
    let (φ, i, o) = t.has.stands in
    let known : t.known ≡ Some (d.block, t.holds.instances zero) = t.is_known refl ∙ ap (λ y. known_of y (t.holds.instances zero)) at in
    let (q, z) = subst (λ F. IsMeant true t.world F B φ) known i in
    stands_old Σ first C B later E es e P true t zero d at q (o ∙ ap (before later) (sym z)) (λ r. refl)

pub tuple_stands_somewhere : TupleStandsSomewhere
tuple_stands_somewhere Σ first W C p n t = stands_somewhere Σ first C p.origin p.type p.at_first (own_block_is_first p.origin p.at_first C n.pattern.own_block) t
