-- A worked example of writing.
use Rattle.std.proofs.Common.{◌≡◌, ℕ, zero, suc, ◌+◌, [], ◌∷◌, Some, inl, inr, refl, sym, ap, ◌∙◌, subst, arith}
use Rattle.std.specs.Prelude.{◌⊎◌}
use Rattle.lf.specs.Syntax.{constant, root, nil, LfType, pi, base, skeleton, star, weaken}
use Rattle.lf.specs.Substitution.{keep, put, substitute_spine, substitute_type, reduce}
use Rattle.lf.specs.Eta.{eta_expand}
use Rattle.lf.specs.Typing.{Signature, TypeAt, ImageHasType, IsTypedSubstitution}
use Rattle.lf_cases.specs.Case.{behind_entries}
use Rattle.lf_unification.specs.OpenTyping.{ValueHasType, skeletons_of}
use Rattle.lf_totality.specs.Examples.{Copying, copy_block, cp, exp, nat, var}
use Rattle.lf_totality.specs.ExamplesGroups.{on_one}
use Rattle.lf_totality.specs.ExamplesBlocks.{Numbered, numbered_block}
use Rattle.lf_coverage.proofs.Parts.{none_some, some_same, keep_same}
use Rattle.lf_numbered.specs.EntryConstants.{EntryConstant, entry_constant, with_entries}
use Rattle.lf_numbered.specs.ExamplesWriting.{copy_then_one, one_behind, copy_written, CopyIsWritten, entry_split, other_filling, HeadIsOnOtherTerms, RoomIsFree, CopyHasValues}
use Rattle.lf_numbered.specs.NumberedCase.{some_spine}
use Rattle.lf_numbered.specs.Writing.{IsEntryVariable}
use Rattle.lf_numbered.proofs.ExamplesEntries.{entry_stands_on_its_terms}

abbrev Σe : Signature
Σe = with_entries Copying 4 (copy_block ∷ [])

typed : IsTypedSubstitution Σe copy_then_one (exp ∷ []) copy_written
typed zero A e = subst (λ B. TypeAt (exp ∷ []) 0 (substitute_type reduce copy_written B)) (sym e) refl
typed (suc zero) A (C, q, e) = subst (λ B. ImageHasType Σe (exp ∷ []) (put (base 1) (root (constant 5) nil)) (substitute_type reduce copy_written B)) (sym (e ∙ ap weaken q)) (refl, (cp (root (constant 4) nil) (root (constant 4) nil), refl, refl))
typed (suc (suc zero)) A (C, (D, q, p), e) = subst (λ B. ImageHasType Σe (exp ∷ []) (put (base 0) (root (constant 4) nil)) (substitute_type reduce copy_written B)) (sym (e ∙ ap weaken (p ∙ ap weaken q))) (refl, (exp, refl, refl))
typed (suc (suc (suc i))) A (C, (D, (E, g, q), p), e) = absurd g

x_entry : EntryConstant
x_entry = record { number = 0; block = copy_block; from = 4; place = 1; entry = exp; before = [] }

u_entry : EntryConstant
u_entry = record { number = 0; block = copy_block; from = 4; place = 0; entry = cp (var 0) (var 0); before = exp ∷ [] }

abbrev IsOwn : ℕ → EntryConstant → ℕ → Type 0
IsOwn c e v = copy_written v ≡ put (skeleton e.entry) (eta_expand (skeleton e.entry) (constant c) (substitute_spine reduce copy_written (some_spine e.block.some (behind_entries e.block.entries (one_behind e.number)))))

of_x : (e : EntryConstant) → x_entry ≡ e → (v : ℕ) → one_behind e.number e.place ≡ keep v → IsOwn 4 e v
unfolding x_entry
of_x e q v k = subst (λ d. IsOwn 4 d v) q (subst (IsOwn 4 x_entry) (keep_same (ap (λ (d : EntryConstant). one_behind d.number d.place) q ∙ k)) refl)

of_u : (e : EntryConstant) → u_entry ≡ e → (v : ℕ) → one_behind e.number e.place ≡ keep v → IsOwn 5 e v
unfolding u_entry
of_u e q v k = subst (λ d. IsOwn 5 d v) q (subst (IsOwn 5 u_entry) (keep_same (ap (λ (d : EntryConstant). one_behind d.number d.place) q ∙ k)) refl)

entries : (c : ℕ) (e : EntryConstant) → entry_constant zero 4 (copy_block ∷ []) c ≡ Some e → (v : ℕ) → one_behind e.number e.place ≡ keep v → IsOwn c e v
unfolding x_entry u_entry
entries zero e q v k = absurd (none_some q)
entries (suc zero) e q v k = absurd (none_some q)
entries (suc (suc zero)) e q v k = absurd (none_some q)
entries (suc (suc (suc zero))) e q v k = absurd (none_some q)
entries (suc (suc (suc (suc zero)))) e q v k = of_x e (some_same q) v k
entries (suc (suc (suc (suc (suc zero))))) e q v k = of_u e (some_same q) v k
entries (suc (suc (suc (suc (suc (suc c)))))) e q v k = absurd (none_some q)

others : (v : ℕ) (A : LfType) → TypeAt copy_then_one v A → IsEntryVariable 4 (copy_block ∷ []) one_behind v ⊎ ((u : ℕ) × (copy_written v ≡ keep u) × (u ≡ v))
unfolding x_entry u_entry
others zero A g = inr (0, refl, refl)
others (suc zero) A g = inl (5, u_entry, refl, refl)
others (suc (suc zero)) A g = inl (4, x_entry, refl, refl)
others (suc (suc (suc v))) A (C, (D, (E, g, q), p), e) = absurd g

all : (u : ℕ) (B : LfType) → TypeAt (exp ∷ []) u B → (A : LfType) × TypeAt copy_then_one u A × (copy_written u ≡ keep u)
all zero B g = (exp, refl, refl)
all (suc u) B (C, g, e) = absurd g

pub copy_is_written : CopyIsWritten
copy_is_written = (record { context = (tt, (star, refl, tt)); typed = typed; entries = entries; others = others; all = all }, refl, refl)

other_typed : (m : ℕ) → ValueHasType (with_entries Numbered 4 (numbered_block ∷ [])) [] (skeletons_of entry_split.metavariables) other_filling (entry_split.metavariables m) (other_filling m)
other_typed zero = (pi nat nat, refl, ((nat, refl, refl), refl))
other_typed (suc zero) = (pi nat (on_one 1 (var 0)), refl, ((pi nat nat, refl, ((nat, refl, refl), refl)), refl))
other_typed (suc (suc zero)) = (pi nat nat, refl, ((nat, refl, refl), refl))
other_typed (suc (suc (suc m))) = tt

pub head_is_on_other_terms : HeadIsOnOtherTerms
head_is_on_other_terms = ((record { context = tt; outer = λ i A g. absurd g; typed = other_typed }, (tt, (refl, (refl, tt)))), entry_stands_on_its_terms.1)

pub room_is_free : RoomIsFree
room_is_free = (refl, refl, refl, refl, refl, refl)

pub copy_has_values : CopyHasValues
copy_has_values w = record {
  variables = tt;
  typed = λ i A g. absurd g;
  terms = λ i A g. absurd g;
  behind = λ i. ap (λ k. keep (k + 1)) (none i);
  on_own_terms = λ i. tt;
  types_on_own_terms = λ i A g. absurd g;
  blocks = refl;
}
  where
    none : (i : ℕ) → i + 0 ≡ i
    none i = omega arith
