-- The worked worlds with a `some` variable, and the one head that is offered there.
use Rattle.std.proofs.Common.{◌≡◌, ℕ, zero, suc, List, [], ◌∷◌, inl, inr, refl, sym, subst}
use Rattle.std.specs.Prelude.{Some}
use Rattle.lf.specs.Syntax.{constant, nil, app, Kind, pi, kind_pi, star}
use Rattle.lf.specs.Typing.{IsKind, IsSignature}
use Rattle.lf.specs.Subordination.{Block, AreTypedBlocks, IsTypedBlock, Member}
use Rattle.lf_numbered.specs.EntryConstants.{IsFreeFrom}
use Rattle.lf_numbered.specs.NewBlock.{with_new_block}
use Rattle.lf_numbered.specs.NumberedCandidatesExamples.{tp, Judged, judged_block, judged_goal}
use Rattle.lf_numbered.specs.NumberedSplitsExamples.{exp}
use Rattle.lf_totality.specs.Examples.{var}
use Rattle.lf_coverage.proofs.Parts.{none_some, some_same}
use Rattle.lf_numbered.specs.NumberedCase.{NumberedCase}
use Rattle.lf_numbered.specs.NumberedSplits.{NumberedOffer, IsOfferTo, of_new_block}
use Rattle.lf_numbered.specs.OwnStores.{IsNumberedOffer, offer_entry}
use Rattle.lf_numbered.specs.TypedNumbered.{IsTypedNumberedCase}
use Rattle.lf_numbered.proofs.FreeFrom.{free_from}
use Rattle.lf_numbered.proofs.OffersListed.{NewEntriesAreIn, entry_member, heads_are_in, other_target}
use Rattle.lf_numbered.proofs.VariableTyped.{variable_is_typed}

abbrev pub worlds : List Block
worlds = judged_block ∷ []

pub judged_ok : IsSignature Judged
judged_ok = record { types_ok = λ c A e. absurd cc; kinds_ok = at }
  where
    at : (a : ℕ) (K : Kind) → Judged.kinds a ≡ Some K → IsKind Judged [] K
    at zero K e = subst (IsKind Judged []) (some_same e) tt
    at (suc zero) K e = subst (IsKind Judged []) (some_same e) ((star, refl, tt), tt)
    at (suc (suc zero)) K e = subst (IsKind Judged []) (some_same e) tt
    at (suc (suc (suc zero))) K e = subst (IsKind Judged []) (some_same e) ((star, refl, tt), ((star, refl, tt), tt))
    at (suc (suc (suc (suc a)))) K e = absurd cc

pub free : IsFreeFrom Judged 4
free = free_from Judged 4 (λ c. refl) (λ a. refl)

pub blocks_typed : AreTypedBlocks Judged worlds
blocks_typed B (inl e) = subst (λ D. IsTypedBlock Judged D) (sym e) ((((tt, (star, refl, tt)), (star, refl, tt)), (kind_pi exp (kind_pi tp star), refl, ((exp, refl, refl), ((tp, (tp, refl, refl), refl), tt)))), (kind_pi exp star, refl, ((exp, (exp, refl, refl), refl), tt)))
blocks_typed B (inr m) = absurd m

pub goal_typed : IsTypedNumberedCase Judged 4 worlds judged_goal
goal_typed = variable_is_typed Judged 4 worlds 0 judged_goal.family refl [] tt

-- The one offer
abbrev pub new_case : NumberedCase
new_case = with_new_block judged_block judged_goal

abbrev pub the_offer : NumberedOffer
the_offer = record { case = new_case; variable = 1; type = exp; head = constant 4; terms = app (var 0) nil; left = exp }

pub entry_offered : IsNumberedOffer Judged 4 new_case exp (constant 4) (app (var 0) nil) exp
entry_offered = offer_entry 4 (app (var 0) nil) (pi tp exp) refl refl refl

pub each : (o : NumberedOffer) → Member o (the_offer ∷ []) → IsOfferTo Judged 4 worlds judged_goal 0 exp o
each o (inl e) = subst (IsOfferTo Judged 4 worlds judged_goal 0 exp) (sym e) (of_new_block judged_block 4 (app (var 0) nil) exp (inl refl) refl entry_offered)
each o (inr m) = absurd m

new_entries : NewEntriesAreIn Judged 4 judged_goal 0 exp (the_offer ∷ []) judged_block
new_entries zero U V n o e t = absurd (none_some o)
new_entries (suc zero) U V n o e t = absurd (none_some o)
new_entries (suc (suc zero)) U V n o e t = absurd (none_some o)
new_entries (suc (suc (suc zero))) U V n o e t = absurd (none_some o)
new_entries (suc (suc (suc (suc zero)))) U V n o e t = entry_member new_case 1 exp (the_offer ∷ []) 4 _ U _ V o e (inl refl)
new_entries (suc (suc (suc (suc (suc zero))))) U V n o e t = absurd (other_target e t refl)
new_entries (suc (suc (suc (suc (suc (suc zero)))))) U V n o e t = absurd (other_target e t refl)
new_entries (suc (suc (suc (suc (suc (suc (suc c))))))) U V n o e t = absurd (none_some o)

pub every : (o : NumberedOffer) → IsOfferTo Judged 4 worlds judged_goal 0 exp o → Member o (the_offer ∷ [])
every = heads_are_in Judged 4 judged_goal 0 exp (the_offer ∷ []) worlds refl (λ k V e t. absurd (none_some e)) (λ c U V o e t. absurd (none_some o)) (new_entries, tt)
