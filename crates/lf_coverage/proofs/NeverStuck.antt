-- The strategy isn't stuck at a case of inputs: it is an instance of a head, or has a candidate, or shares an instance with none.
use Rattle.std.proofs.Common.{◌≡◌, ℕ, ◌⊎◌, List, [], ◌∷◌, inl, inr, refl, sym, ap, ◌∙◌, subst}
use Rattle.std.specs.Prelude.{Bool, Some}
use Rattle.lf.specs.Syntax.{Kind}
use Rattle.lf.specs.Subordination.{Member, AreTypedBlocks, IsBelowTest}
use Rattle.lf.specs.Typing.{Signature, IsSignature}
use Rattle.lf.specs.Variables.{nothing}
use Rattle.lf_checks.specs.Clause.{constant_clause, from_constant}
use Rattle.lf_checks.specs.Marks.{Mark, MentionChosenOnly, input_places}
use Rattle.lf_cases.specs.Candidates.{case_candidates}
use Rattle.lf_cases.specs.Case.{Case}
use Rattle.lf_cases.specs.Missing.{CommonInstance}
use Rattle.lf_cases.specs.Pattern.{Pattern}
use Rattle.lf_cases.specs.Reached.{FirstCandidate, IsApart, IsInstanceOf, IsUnsplit, Meets, of_first, past_apart, past_meeting}
use Rattle.lf_coverage.specs.MeetStore.{IsOpen}
use Rattle.lf_coverage.specs.Stuck.{AreHeadsBeside, CaseProceeds, IsStrategyCase, IsStrategyHead, NeverUnsplit, Proceeds, SharesNone, UnsplitSharesNone}
use Rattle.lf_coverage.specs.TypedCase.{IsTypedBeside}
use Rattle.lf_coverage.proofs.HeadMatching.{head_matching_decides}
use Rattle.lf_coverage.proofs.NoCandidate.{no_candidate_is_instance}

pub no_blocks : (Σ : Signature) → AreTypedBlocks Σ []
no_blocks Σ B z = absurd z

-- one of the list has it, or none has
abbrev SomeOrNone : {X : Type 0} → (X → Type 0) → List X → Type 0
SomeOrNone {X} P xs = ((x : X) × Member x xs × P x) ⊎ ((x : X) → Member x xs → P x → ⊥)

some_or_none : {X : Type 0} (P : X → Type 0) (xs : List X) → ((x : X) → Member x xs → Dec (P x)) → SomeOrNone P xs
some_or_none P [] d = inr (λ x l. absurd l)
some_or_none {X} P (x ∷ xs) d = here (d x (inl refl)) (some_or_none P xs (λ y l. d y (inr l)))
  where
    none : (P x → ⊥) → ((y : X) → Member y xs → P y → ⊥) → (y : X) → Member y (x ∷ xs) → P y → ⊥
    none n r y (inl e) p = n (subst P e p)
    none n r y (inr l) p = r y l p

    here : Dec (P x) → SomeOrNone P xs → SomeOrNone P (x ∷ xs)
    here (yes p) r = inl (x, inl refl, p)
    here (no n) (inl (y, l, p)) = inl (y, inr l, p)
    here (no n) (inr r) = inr (none n r)

-- a first candidate, or no shared instance
abbrev FirstOrNone : (Σ : Signature) → (Case → Pattern → Type 0) → List Pattern → Case → Type 0
FirstOrNone Σ Open ps C = ((x : ℕ) × FirstCandidate Σ [] Open C x ps) ⊎ SharesNone Σ ps C

-- the first candidate, where patterns without one share no instance
first_or_none : (Σ : Signature) (Open : Case → Pattern → Type 0) (C : Case) (ps : List Pattern) → ((p : Pattern) → Member p ps → Meets Σ [] Open C p ⊎ IsApart Σ [] Open C p) → ((p : Pattern) → Member p ps → case_candidates C p ≡ [] → CommonInstance Σ [] C p → ⊥) → FirstOrNone Σ Open ps C
first_or_none Σ Open C [] d n = inr (λ p l. absurd l)
first_or_none Σ Open C (p ∷ ps) d n = here (d p (inl refl)) (first_or_none Σ Open C ps (λ q l. d q (inr l)) (λ q l. n q (inr l)))
  where
    also : (CommonInstance Σ [] C p → ⊥) → SharesNone Σ ps C → SharesNone Σ (p ∷ ps) C
    also a r q (inl e) s = a (subst (CommonInstance Σ [] C) e s)
    also a r q (inr l) s = r q l s

    by : Meets Σ [] Open C p → FirstOrNone Σ Open ps C → (xs : List ℕ) → case_candidates C p ≡ xs → FirstOrNone Σ Open (p ∷ ps) C
    by a r (x ∷ xs) e = inl (x, of_first xs a e)
    by a (inl (x, f)) [] e = inl (x, past_meeting a e f)
    by a (inr r) [] e = inr (also (n p (inl refl) e) r)

    here : Meets Σ [] Open C p ⊎ IsApart Σ [] Open C p → FirstOrNone Σ Open ps C → FirstOrNone Σ Open (p ∷ ps) C
    here (inl a) r = by a r (case_candidates C p) refl
    here (inr a) (inl (x, f)) = inl (x, past_apart a f)
    here (inr a) (inr r) = inr (also a r)

module _ (Σ : Signature) (ok : IsSignature Σ) (below : ℕ → ℕ → Bool) (test : (f : ℕ) → IsBelowTest Σ [] (below f) f) (m : ℕ → List Mark) (C : Case) (sc : IsStrategyCase below m C) (K : Kind) (ek : Σ.kinds C.family ≡ Some K) (v : MentionChosenOnly nothing (input_places (m C.family)) K) (ps : List Pattern) (hs : AreHeadsBeside Σ below m ps C) where
  matched : (p : Pattern) → Member p ps → case_candidates C p ≡ [] → CommonInstance Σ [] C p → IsInstanceOf Σ [] C p
  matched p l e s = no_candidate_is_instance Σ ok below test m C sc K ek v p (hs p l).0 (hs p l).1 s e

  decided : (p : Pattern) → Member p ps → Dec (IsInstanceOf Σ [] C p)
  decided p l =
      let h : IsStrategyHead Σ below m C.family p = (hs p l).0 in
      subst (λ q. Dec (IsInstanceOf Σ [] C q)) (sym h.is_head) (head_matching_decides Σ ok [] (no_blocks Σ) C (constant_clause h.type) (from_constant h.constant h.type h.declared) tt (subst (IsTypedBeside Σ [] C) h.is_head (hs p l).1) sc.none_given K (ap Σ.kinds h.of_family ∙ ek) (subst (λ c. MentionChosenOnly nothing c K) (sym sc.inputs) v)).1

  shares_none : (Open : Case → Pattern → Type 0) → IsUnsplit Σ [] Open ps C → SharesNone Σ ps C
  shares_none Open u p l s = by (u.no_candidate p l)
    where
      by : (case_candidates C p ≡ []) ⊎ IsApart Σ [] Open C p → ⊥
      by (inl e) = u.no_instance p l (matched p l e s)
      by (inr a) = a s

  is_open : (Open : Case → Pattern → Type 0) → IsUnsplit Σ [] Open ps C → (p : Pattern) × Member p ps × Open C p
  is_open Open u = by u.meets
    where
      by : Meets Σ [] Open C u.meeting → (p : Pattern) × Member p ps × Open C p
      by (inl s) = absurd (shares_none Open u u.meeting u.listed s)
      by (inr o) = (u.meeting, u.listed, o)

  proceeds : ((p : Pattern) → Member p ps → Meets Σ [] (IsOpen Σ) C p ⊎ IsApart Σ [] (IsOpen Σ) C p) → Proceeds Σ ps C
  proceeds d = by (some_or_none (IsInstanceOf Σ [] C) ps decided)
    where
      by : SomeOrNone (IsInstanceOf Σ [] C) ps → Proceeds Σ ps C
      by (inl i) = inl i
      by (inr n) = inr (first_or_none Σ (IsOpen Σ) C ps d (λ p l e s. n p l (matched p l e s)))

pub unsplit_shares_none : UnsplitSharesNone
unsplit_shares_none Σ ok below test m C sc K ek v ps hs u = (shares_none Σ ok below test m C sc K ek v ps hs (IsOpen Σ) u, is_open Σ ok below test m C sc K ek v ps hs (IsOpen Σ) u)

pub never_unsplit : NeverUnsplit
never_unsplit Σ ok below test m C sc K ek v ps hs u = (is_open Σ ok below test m C sc K ek v ps hs (λ D p. ⊥) u).2

pub case_proceeds : CaseProceeds
case_proceeds Σ ok below test m C sc K ek v ps hs d = proceeds Σ ok below test m C sc K ek v ps hs d
