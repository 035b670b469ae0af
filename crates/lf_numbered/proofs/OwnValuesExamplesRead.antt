-- A term over an entry's constant, read back into the context with the entry's instance.
use Rattle.std.proofs.Common.{◌≡◌, ℕ, zero, suc, [], ◌∷◌, length, Some, None, refl, sym, ap, ◌∙◌, subst}
use Rattle.lf.specs.Syntax.{nil, app, LfType, pi, star, rename_type, weaken}
use Rattle.lf.specs.Substitution.{keep}
use Rattle.lf.specs.Skeletons.{context_skeletons}
use Rattle.lf.specs.Typing.{TypeAt, IsContext}
use Rattle.lf_totality.specs.Examples.{nat, var}
use Rattle.lf_totality.specs.ExamplesGroups.{on_one, one_kind}
use Rattle.lf_totality.specs.ExamplesBlocks.{Numbered, numbered_block}
use Rattle.lf_coverage.proofs.Parts.{none_some, some_same}
use Rattle.lf_numbered.specs.EntryConstants.{EntryConstant, entry_constant}
use Rattle.lf_numbered.specs.OwnTerms.{TypeOnOwnTerms}
use Rattle.lf_numbered.specs.OwnValuesExamples.{Entries, with_instance, on_outer, as_instance, EntryIsReadBack}
use Rattle.lf_numbered.specs.OwnValuesReading.{EntryReadsBack}
use Rattle.lf_numbered.specs.Reading.{read_type, read_entry}
use Rattle.lf_numbered.proofs.OwnValuesExamples.{entries_ok}

context : IsContext Entries with_instance
context = (((tt, (star, refl, tt)), (one_kind, refl, ((nat, refl, refl), tt))), (one_kind, refl, ((nat, (nat, refl, refl), refl), tt)))

target : IsContext Numbered with_instance
target = (((tt, (star, refl, tt)), (one_kind, refl, ((nat, refl, refl), tt))), (one_kind, refl, ((nat, (nat, refl, refl), refl), tt)))

own : (i : ℕ) (A : LfType) → TypeAt with_instance i A → TypeOnOwnTerms on_outer A
own zero A e = subst (TypeOnOwnTerms on_outer) (sym e) (tt, tt)
own (suc zero) A (C, g, e) = subst (TypeOnOwnTerms on_outer) (sym (e ∙ ap weaken g)) (tt, tt)
own (suc (suc zero)) A (C, (D, g, f), e) = subst (TypeOnOwnTerms on_outer) (sym (e ∙ ap weaken (f ∙ ap weaken g))) tt
own (suc (suc (suc i))) A (C, (D, (E, g, h), f), e) = absurd g

-- no type of the context mentions an entry
abbrev back : LfType → LfType
back A = rename_type (λ i. i) (read_type as_instance A)

stays : (i : ℕ) (A : LfType) → TypeAt with_instance i A → TypeAt with_instance i (rename_type (λ i. i) (read_type as_instance A))
stays zero A e = ap back e
stays (suc zero) A (C, g, e) = (weaken (on_one 1 (var 0)), refl, ap back (e ∙ ap weaken g))
stays (suc (suc zero)) A (C, (D, g, f), e) = (weaken (weaken nat), (weaken nat, refl, refl), ap back (e ∙ ap weaken (f ∙ ap weaken g)))
stays (suc (suc (suc i))) A (C, (D, (E, g, h), f), e) = absurd g

old : (c : ℕ) (A : LfType) → Numbered.types c ≡ Some A → as_instance c ≡ None
old zero A e = refl
old (suc zero) A e = refl
old (suc (suc zero)) A e = refl
old (suc (suc (suc zero))) A e = refl
old (suc (suc (suc (suc c)))) A e = absurd (none_some e)

-- b.x k : t k and b.u k : a k
entries : (c : ℕ) (e : EntryConstant) → entry_constant zero 4 (numbered_block ∷ []) c ≡ Some e → EntryReadsBack Entries with_instance with_instance (context_skeletons with_instance) as_instance on_outer (λ i. i) c e
entries zero e q = absurd (none_some q)
entries (suc zero) e q = absurd (none_some q)
entries (suc (suc zero)) e q = absurd (none_some q)
entries (suc (suc (suc zero))) e q = absurd (none_some q)
entries (suc (suc (suc (suc zero)))) e q = subst (EntryReadsBack Entries with_instance with_instance (context_skeletons with_instance) as_instance on_outer (λ i. i) 4) (some_same q) (record { terms = app (var 2) nil; own = refl; count = refl; variable = 1; is_read = refl; of_type = on_one 1 (var 2); typed = ((nat, (nat, (nat, refl, refl), refl), refl), refl); is_type = (one_kind, refl, ((nat, (nat, (nat, refl, refl), refl), refl), tt)); of_own_type = (tt, tt); in_scope = refl; stands = (on_one 1 (var 1), refl, refl) })
entries (suc (suc (suc (suc (suc zero))))) e q = subst (EntryReadsBack Entries with_instance with_instance (context_skeletons with_instance) as_instance on_outer (λ i. i) 5) (some_same q) (record { terms = app (var 2) nil; own = refl; count = refl; variable = 0; is_read = refl; of_type = on_one 2 (var 2); typed = ((nat, (nat, (nat, refl, refl), refl), refl), refl); is_type = (one_kind, refl, ((nat, (nat, (nat, refl, refl), refl), refl), tt)); of_own_type = (tt, tt); in_scope = refl; stands = refl })
entries (suc (suc (suc (suc (suc (suc c)))))) e q = absurd (none_some q)

found : (c : ℕ) (e : EntryConstant) → entry_constant zero 4 (numbered_block ∷ []) c ≡ Some e → (v : ℕ) × (as_instance c ≡ Some (length e.block.some, v)) × (keep e.place ≡ keep v)
found zero e q = absurd (none_some q)
found (suc zero) e q = absurd (none_some q)
found (suc (suc zero)) e q = absurd (none_some q)
found (suc (suc (suc zero))) e q = absurd (none_some q)
found (suc (suc (suc (suc zero)))) e q = subst (λ (x : EntryConstant). (v : ℕ) × (as_instance 4 ≡ Some (length x.block.some, v)) × (keep x.place ≡ keep v)) (some_same q) (1, refl, refl)
found (suc (suc (suc (suc (suc zero))))) e q = subst (λ (x : EntryConstant). (v : ℕ) × (as_instance 5 ≡ Some (length x.block.some, v)) × (keep x.place ≡ keep v)) (some_same q) (0, refl, refl)
found (suc (suc (suc (suc (suc (suc c)))))) e q = absurd (none_some q)

pub entry_is_read_back : EntryIsReadBack
entry_is_read_back = (
  record { signature = entries_ok; types_stay = λ c A e. e; kinds_stay = λ a K e. e; source = context; on_own_terms = own; target = target; scope = context_skeletons with_instance; inside = λ i t g. g; fits = λ i t g. g; variables = stays; old = old; entries = entries },
  record { none = λ c q. ap (read_entry (λ k i. keep i) 0) q; some = found },
  ((nil, refl), (tt, tt)),
  (pi nat (on_one 1 (var 0)), refl, ((nat, (nat, (nat, (nat, refl, refl), refl), refl), refl), refl)),
  refl,
  (on_one 1 (var 3), (on_one 1 (var 2), (on_one 1 (var 1), refl, refl), refl), refl),
)
